use Rattle.kn_agent_node.specs.Calls.{Ended}
use Rattle.kn_agent_node.proofs.KeepLemmas.{handled, settled_top, settled_stirs}
use Rattle.kn_agent_node.proofs.agent_node.AgentNode.ended.Goals as goal

pub returns-clause-handled : goal.returns-clause-handled
returns-clause-handled c =
    rw (← c.self.view_is) (handled (Ended c.args.conn) c.self.inside.node c.enter_at.new.node c.ended.new.node c.settle.new.node c.in_ok-enter_at.ensures.stirred c.in_ok-ended.ensures c.in_ok-settle.ensures)

pub returns-clause-top : goal.returns-clause-top
returns-clause-top c =
    rw (← c.self.view_is) (settled_top (Ended c.args.conn) c.self.inside.node c.enter_at.new.node c.ended.new.node c.settle.new.node c.in_ok-enter_at.ensures.stirred c.in_ok-ended.ensures c.in_ok-settle.ensures)

pub returns-clause-stirs : goal.returns-clause-stirs
returns-clause-stirs c =
    rw (← c.self.view_is) (settled_stirs (Ended c.args.conn) c.self.inside.node c.enter_at.new.node c.ended.new.node c.settle.new.node c.enter_at.ensures.members c.in_ok-enter_at.ensures.stirred c.in_ok-ended.ensures c.in_ok-settle.ensures)
