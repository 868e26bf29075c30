use Rattle.kn_call_heads.proofs.HeadFacts.{ends_are_trailers}
use Rattle.kn_call_heads.proofs.laws.ends_are_trailers.Goals as goal

pub returns : goal.returns
returns c = ends_are_trailers
