use Rattle.std.proofs.Common.{◌≡◌, subst, nat_eq, false}
use Rattle.std.specs.List.{list_any}
use Rattle.kn_agent_node.proofs.KnownLemmas.{unknown}
use Rattle.kn_agent_node.proofs.agent_node.AgentNode.numbers.Goals as goal

pub returns-clause-others : goal.returns-clause-others
returns-clause-others c = rw (← c.self.view_is) (λ n h other.
    unknown c.self.inside.node n c.holds.ensures.members (subst (λ ns. list_any (nat_eq n) ns ≡ false) c.numbers.ensures h) other)
