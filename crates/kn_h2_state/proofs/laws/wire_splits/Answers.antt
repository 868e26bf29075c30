use Rattle.kn_h2_state.proofs.WireLaws.{wire_splits}
use Rattle.kn_h2_state.proofs.laws.wire_splits.Goals as goal

pub returns : goal.returns
returns c = wire_splits
