use Rattle.kn_agent_node.specs.Calls.{Bytes}
use Rattle.kn_agent_node.proofs.KeepLemmas.{handled, settled_top, settled_stirs}
use Rattle.kn_agent_node.proofs.agent_node.AgentNode.bytes.Goals as goal

pub returns-clause-handled : goal.returns-clause-handled
returns-clause-handled c =
    rw (← c.self.view_is) (handled (Bytes c.args.conn c.args.piece.now) c.self.inside.node c.enter_at.new.node c.bytes.new.node c.settle.new.node c.in_ok-enter_at.ensures.stirred c.in_ok-bytes.ensures c.in_ok-settle.ensures)

pub returns-clause-top : goal.returns-clause-top
returns-clause-top c =
    rw (← c.self.view_is) (settled_top (Bytes c.args.conn c.args.piece.now) c.self.inside.node c.enter_at.new.node c.bytes.new.node c.settle.new.node c.in_ok-enter_at.ensures.stirred c.in_ok-bytes.ensures c.in_ok-settle.ensures)

pub returns-clause-stirs : goal.returns-clause-stirs
returns-clause-stirs c =
    rw (← c.self.view_is) (settled_stirs (Bytes c.args.conn c.args.piece.now) c.self.inside.node c.enter_at.new.node c.bytes.new.node c.settle.new.node c.enter_at.ensures.members c.in_ok-enter_at.ensures.stirred c.in_ok-bytes.ensures c.in_ok-settle.ensures)
