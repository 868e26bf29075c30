use Rattle.kn_facing.proofs.WireLemmas.{faces_have_one_stream}
use Rattle.kn_facing.proofs.laws.faces_have_one_stream.Goals as goal

pub returns : goal.returns
returns c = faces_have_one_stream
