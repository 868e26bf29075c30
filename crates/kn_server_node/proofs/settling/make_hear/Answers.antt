use Rattle.std.proofs.lemmas.Result.{on_ok_weaker}
use Rattle.kn_server_node.proofs.StepLemmas.{hear_reaches}
use Rattle.kn_server_node.proofs.settling.make_hear.Goals as goal

pub returns : goal.returns
returns c = on_ok_weaker c.hear.result (hear_reaches c.args.node.now c.hear.new.node c.requires) c.hear.ensures
