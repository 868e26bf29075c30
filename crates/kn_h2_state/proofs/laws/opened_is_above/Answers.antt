use Rattle.kn_h2_state.proofs.OpenLaws.{frames_open_above}
use Rattle.kn_h2_state.proofs.laws.opened_is_above.Goals as goal

pub returns : goal.returns
returns c = frames_open_above
