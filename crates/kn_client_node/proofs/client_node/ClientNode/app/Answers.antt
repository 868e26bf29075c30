use Rattle.std.proofs.lemmas.Result.{on_ok_weaker}
use Rattle.kn_client_node.specs.Calls.{App}
use Rattle.kn_client_node.proofs.KeepLemmas.{handling_top, handling_stirs}
use Rattle.kn_client_node.proofs.client_node.ClientNode.app.Goals as goal

pub returns-clause-top : goal.returns-clause-top
returns-clause-top c = on_ok_weaker c.app.result (handling_top (App c.args.conn c.args.address.now) c.self.inside.node c.app.new.node) c.app.ensures.handled

pub returns-clause-stirs : goal.returns-clause-stirs
returns-clause-stirs c =
    rw (← c.self.view_is) (on_ok_weaker c.app.result (handling_stirs (App c.args.conn c.args.address.now) c.self.inside.node c.app.new.node c.app.ensures.members) c.app.ensures.handled)
