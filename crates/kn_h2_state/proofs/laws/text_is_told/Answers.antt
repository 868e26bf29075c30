use Rattle.kn_h2_state.proofs.TellLaws.{text_is_told}
use Rattle.kn_h2_state.proofs.laws.text_is_told.Goals as goal

pub returns : goal.returns
returns c = text_is_told
