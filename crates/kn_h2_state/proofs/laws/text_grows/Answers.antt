use Rattle.kn_h2_state.proofs.TextLaws.{text_grows}
use Rattle.kn_h2_state.proofs.laws.text_grows.Goals as goal

pub returns : goal.returns
returns c = text_grows
