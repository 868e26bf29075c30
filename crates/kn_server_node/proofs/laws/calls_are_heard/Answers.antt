-- Each step is gone through.
use Rattle.kn_server_node.proofs.CoreLemmas.{calls_heard}
use Rattle.kn_server_node.proofs.laws.calls_are_heard.Goals as goal

pub returns : goal.returns
returns c = calls_heard
