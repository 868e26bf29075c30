use Rattle.kn_agent_node.specs.Calls.{Drains}
use Rattle.kn_agent_node.proofs.KeepLemmas.{handled, settled_top, settled_stirs}
use Rattle.kn_agent_node.proofs.agent_node.AgentNode.drain.Goals as goal

pub returns-clause-handled : goal.returns-clause-handled
returns-clause-handled c =
    rw (← c.self.view_is) (handled Drains c.self.inside.node c.enter.new.node c.drain.new.node c.settle.new.node c.in_ok-enter.ensures.stirred c.in_ok-drain.ensures c.in_ok-settle.ensures)

pub returns-clause-top : goal.returns-clause-top
returns-clause-top c =
    rw (← c.self.view_is) (settled_top Drains c.self.inside.node c.enter.new.node c.drain.new.node c.settle.new.node c.in_ok-enter.ensures.stirred c.in_ok-drain.ensures c.in_ok-settle.ensures)

pub returns-clause-stirs : goal.returns-clause-stirs
returns-clause-stirs c =
    rw (← c.self.view_is) (settled_stirs Drains c.self.inside.node c.enter.new.node c.drain.new.node c.settle.new.node c.enter.ensures.members c.in_ok-enter.ensures.stirred c.in_ok-drain.ensures c.in_ok-settle.ensures)
