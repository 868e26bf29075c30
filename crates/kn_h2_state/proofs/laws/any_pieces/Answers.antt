use Rattle.kn_h2_state.proofs.PieceLaws.{any_pieces}
use Rattle.kn_h2_state.proofs.laws.any_pieces.Goals as goal

pub returns : goal.returns
returns c = any_pieces
