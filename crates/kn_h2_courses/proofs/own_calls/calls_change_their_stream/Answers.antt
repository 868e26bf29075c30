use Rattle.kn_h2_courses.proofs.OwnCallLaws.{calls_change_their_stream, calls_leave_text}
use Rattle.kn_h2_courses.proofs.own_calls.calls_change_their_stream.Goals as goal

pub returns-clause-waiting : goal.returns-clause-waiting
returns-clause-waiting c = calls_change_their_stream

pub returns-clause-text : goal.returns-clause-text
returns-clause-text c = calls_leave_text
