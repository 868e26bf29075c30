use Rattle.kn_facing.proofs.FacingLemmas.{no_fault_before, reads_on}
use Rattle.kn_facing.proofs.laws.pieces_are_read.Goals as goal

pub returns-clause-sound : goal.returns-clause-sound
returns-clause-sound c = no_fault_before

pub returns-clause-rest : goal.returns-clause-rest
returns-clause-rest c = reads_on
