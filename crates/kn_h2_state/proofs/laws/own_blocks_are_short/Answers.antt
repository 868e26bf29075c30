use Rattle.kn_h2_state.proofs.BlockLengths.{own_blocks_are_short}
use Rattle.kn_h2_state.proofs.laws.own_blocks_are_short.Goals as goal

pub returns : goal.returns
returns c = own_blocks_are_short
