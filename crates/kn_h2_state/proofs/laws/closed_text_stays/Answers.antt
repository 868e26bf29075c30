use Rattle.kn_h2_state.proofs.HearLaws.{closed_text_stays, closed_stays_closed}
use Rattle.kn_h2_state.proofs.laws.closed_text_stays.Goals as goal

pub returns-clause-frame : goal.returns-clause-frame
returns-clause-frame c = closed_text_stays

pub returns-clause-frames : goal.returns-clause-frames
returns-clause-frames c = closed_stays_closed
