use Rattle.kn_h2_state.proofs.OwnLaws.{frames_leave_own, pieces_leave_own, over_stays_over}
use Rattle.kn_h2_state.proofs.laws.own_half_stays.Goals as goal

pub returns-clause-frames : goal.returns-clause-frames
returns-clause-frames c = frames_leave_own

pub returns-clause-pieces : goal.returns-clause-pieces
returns-clause-pieces c = pieces_leave_own

pub returns-clause-over : goal.returns-clause-over
returns-clause-over c = over_stays_over
