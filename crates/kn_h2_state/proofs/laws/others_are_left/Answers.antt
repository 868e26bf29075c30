use Rattle.kn_h2_state.proofs.OtherLaws.{frames_leave_others, moves_leave_others, calls_leave_others, begins_leave_others}
use Rattle.kn_h2_state.proofs.laws.others_are_left.Goals as goal

pub returns-clause-frames : goal.returns-clause-frames
returns-clause-frames c = frames_leave_others

pub returns-clause-moves : goal.returns-clause-moves
returns-clause-moves c = moves_leave_others

pub returns-clause-calls : goal.returns-clause-calls
returns-clause-calls c = calls_leave_others

pub returns-clause-begins : goal.returns-clause-begins
returns-clause-begins c = begins_leave_others
