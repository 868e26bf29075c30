use Rattle.std.proofs.lemmas.Result.{on_ok_weaker}
use Rattle.kn_server_node.specs.Calls.{Lost}
use Rattle.kn_server_node.proofs.StirLemmas.{handling_stirs}
use Rattle.kn_server_node.proofs.TopLemmas.{handling_top}
use Rattle.kn_server_node.proofs.server_node.ServerNode.lost.Goals as goal

pub returns-clause-handled : goal.returns-clause-handled
returns-clause-handled c = rw (← c.self.view_is) (on_ok_weaker c.settle.result (λ s. (c.call_lost.new.node, c.in_ok-call_lost.ensures, s)) c.settle.ensures)

pub returns-clause-top : goal.returns-clause-top
returns-clause-top c = on_ok_weaker c.settle.result (λ s. rw (← c.self.view_is) (handling_top c.self.inside.node (Lost c.args.conn) c.settle.new.node (c.call_lost.new.node, c.in_ok-call_lost.ensures, s))) c.settle.ensures

pub returns-clause-stirs : goal.returns-clause-stirs
returns-clause-stirs c = on_ok_weaker c.settle.result
    (λ s. rw (← c.self.view_is) (handling_stirs c.self.inside.node (Lost c.args.conn) c.settle.new.node c.holds.ensures (c.call_lost.new.node, c.in_ok-call_lost.ensures, s))) c.settle.ensures
