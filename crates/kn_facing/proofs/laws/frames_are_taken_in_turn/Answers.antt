use Rattle.kn_facing.proofs.FacingLemmas.{accepts_join, accepts_part}
use Rattle.kn_facing.proofs.laws.frames_are_taken_in_turn.Goals as goal

pub returns-clause-join : goal.returns-clause-join
returns-clause-join c = accepts_join

pub returns-clause-part : goal.returns-clause-part
returns-clause-part c = accepts_part
