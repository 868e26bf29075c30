use Rattle.std.proofs.lemmas.Result.{on_ok_weaker}
use Rattle.kn_server_node.proofs.StepLemmas.{follow_reaches}
use Rattle.kn_server_node.proofs.settling.make_follow.Goals as goal

pub returns : goal.returns
returns c = on_ok_weaker c.follow.result (follow_reaches c.args.node.now c.follow.new.node c.requires) c.follow.ensures
