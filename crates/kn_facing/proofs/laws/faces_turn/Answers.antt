use Rattle.kn_facing.proofs.FaceLemmas.{turned}
use Rattle.kn_facing.proofs.laws.faces_turn.Goals as goal

pub returns : goal.returns
returns c = turned
