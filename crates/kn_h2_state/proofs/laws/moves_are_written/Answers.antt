use Rattle.kn_h2_state.proofs.WireLaws.{moves_are_written}
use Rattle.kn_h2_state.proofs.laws.moves_are_written.Goals as goal

pub returns : goal.returns
returns c = moves_are_written
