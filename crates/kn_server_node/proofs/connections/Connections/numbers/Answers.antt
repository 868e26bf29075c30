use Rattle.kn_server_node.proofs.MemberLemmas.{none_at}
use Rattle.kn_server_node.proofs.connections.Connections.numbers.Goals as goal

pub returns-clause-others : goal.returns-clause-others
returns-clause-others c = λ n none. rw (← c.self.view_is) (none_at c.self.inside.ends n c.self.invariant.same (rw (← c.numbers.ensures) none))
