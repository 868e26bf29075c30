use Rattle.kn_call_heads.proofs.HeadFacts.{calls_are_requests}
use Rattle.kn_call_heads.proofs.laws.calls_are_requests.Goals as goal

pub returns : goal.returns
returns c = calls_are_requests
