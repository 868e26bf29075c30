use Rattle.kn_h2_state.proofs.WireLaws.{head_is_written}
use Rattle.kn_h2_state.proofs.laws.heads_are_written.Goals as goal

pub returns : goal.returns
returns c = head_is_written
