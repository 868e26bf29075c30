use Rattle.std.proofs.lemmas.Result.{on_ok_weaker}
use Rattle.kn_client_node.specs.Calls.{Ended}
use Rattle.kn_client_node.proofs.KeepLemmas.{handling_top, handling_stirs}
use Rattle.kn_client_node.proofs.client_node.ClientNode.ended.Goals as goal

pub returns-clause-top : goal.returns-clause-top
returns-clause-top c = rw (← c.self.view_is) (on_ok_weaker c.ended.result (handling_top (Ended c.args.conn) c.self.inside.node c.ended.new.node) c.ended.ensures.handled)

pub returns-clause-stirs : goal.returns-clause-stirs
returns-clause-stirs c =
    rw (← c.self.view_is) (on_ok_weaker c.ended.result (handling_stirs (Ended c.args.conn) c.self.inside.node c.ended.new.node c.ended.ensures.members) c.ended.ensures.handled)
