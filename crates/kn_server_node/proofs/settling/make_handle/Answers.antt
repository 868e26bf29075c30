use Rattle.std.proofs.lemmas.Result.{on_ok_weaker}
use Rattle.kn_server_node.proofs.StepLemmas.{handle_reaches}
use Rattle.kn_server_node.proofs.settling.make_handle.Goals as goal

pub returns : goal.returns
returns c = on_ok_weaker c.handle.result (handle_reaches c.args.node.now c.handle.new.node c.args.conn c.args.stream c.in_ok-standing.standing c.requires c.in_ok-standing.ensures) c.handle.ensures
