use Rattle.std.proofs.lemmas.Result.{on_ok_weaker}
use Rattle.kn_client_node.specs.Calls.{Took}
use Rattle.kn_client_node.proofs.KeepLemmas.{handling_top, handling_stirs}
use Rattle.kn_client_node.proofs.client_node.ClientNode.took.Goals as goal

pub returns-clause-top : goal.returns-clause-top
returns-clause-top c = rw (← c.self.view_is) (on_ok_weaker c.took.result (handling_top (Took c.args.conn c.args.count) c.self.inside.node c.took.new.node) c.took.ensures.handled)

pub returns-clause-stirs : goal.returns-clause-stirs
returns-clause-stirs c =
    rw (← c.self.view_is) (on_ok_weaker c.took.result (handling_stirs (Took c.args.conn c.args.count) c.self.inside.node c.took.new.node c.took.ensures.members) c.took.ensures.handled)
