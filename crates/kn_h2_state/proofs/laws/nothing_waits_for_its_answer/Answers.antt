use Rattle.kn_h2_state.proofs.WaitLaws.{waits_first, waits_stay, pieces_wait}
use Rattle.kn_h2_state.proofs.laws.nothing_waits_for_its_answer.Goals as goal

pub returns-clause-first : goal.returns-clause-first
returns-clause-first c = waits_first

pub returns-clause-stays : goal.returns-clause-stays
returns-clause-stays c = waits_stay

pub returns-clause-pieces : goal.returns-clause-pieces
returns-clause-pieces c = pieces_wait
