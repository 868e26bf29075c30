use Rattle.kn_h2_state.proofs.OpenLaws.{answered_is_kept}
use Rattle.kn_h2_state.proofs.laws.answered_is_kept.Goals as goal

pub returns : goal.returns
returns c = answered_is_kept
