use Rattle.kn_h2_state.proofs.ReplyLaws.{frames_are_answered}
use Rattle.kn_h2_state.proofs.laws.frames_are_answered.Goals as goal

pub returns : goal.returns
returns c = frames_are_answered
