use Rattle.kn_h2_state.proofs.PieceLaws.{fails_first}
use Rattle.kn_h2_state.proofs.laws.fails_first.Goals as goal

pub returns : goal.returns
returns c = fails_first
