use Rattle.std.proofs.lemmas.Result.{on_ok_weaker}
use Rattle.kn_client_node.specs.Calls.{Lost}
use Rattle.kn_client_node.proofs.KeepLemmas.{handling_top, handling_stirs}
use Rattle.kn_client_node.proofs.client_node.ClientNode.lost.Goals as goal

pub returns-clause-top : goal.returns-clause-top
returns-clause-top c = rw (← c.self.view_is) (on_ok_weaker c.lost.result (handling_top (Lost c.args.conn) c.self.inside.node c.lost.new.node) c.lost.ensures.handled)

pub returns-clause-stirs : goal.returns-clause-stirs
returns-clause-stirs c =
    rw (← c.self.view_is) (on_ok_weaker c.lost.result (handling_stirs (Lost c.args.conn) c.self.inside.node c.lost.new.node c.lost.ensures.members) c.lost.ensures.handled)
