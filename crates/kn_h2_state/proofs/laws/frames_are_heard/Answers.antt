use Rattle.kn_h2_state.proofs.HearLaws.{frames_are_heard}
use Rattle.kn_h2_state.proofs.laws.frames_are_heard.Goals as goal

pub returns : goal.returns
returns c = frames_are_heard
