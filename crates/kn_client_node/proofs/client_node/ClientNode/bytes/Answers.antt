use Rattle.std.proofs.lemmas.Result.{on_ok_weaker}
use Rattle.kn_client_node.specs.Calls.{Bytes}
use Rattle.kn_client_node.proofs.KeepLemmas.{handling_top, handling_stirs}
use Rattle.kn_client_node.proofs.client_node.ClientNode.bytes.Goals as goal

pub returns-clause-top : goal.returns-clause-top
returns-clause-top c = rw (← c.self.view_is) (on_ok_weaker c.bytes.result (handling_top (Bytes c.args.conn c.args.piece.now) c.self.inside.node c.bytes.new.node) c.bytes.ensures.handled)

pub returns-clause-stirs : goal.returns-clause-stirs
returns-clause-stirs c =
    rw (← c.self.view_is) (on_ok_weaker c.bytes.result (handling_stirs (Bytes c.args.conn c.args.piece.now) c.self.inside.node c.bytes.new.node c.bytes.ensures.members) c.bytes.ensures.handled)
