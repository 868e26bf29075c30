use Rattle.kn_server_node.proofs.NoteLemmas.{nobody_writes, nobody_over}
use Rattle.kn_server_node.proofs.connections.Connections.next_due.Goals as goal

pub returns-clause-written : goal.returns-clause-written
returns-clause-written c = λ none n m. rw (← c.self.view_is) (nobody_writes c.self.inside.ends c.self.inside.notes c.self.invariant (c.last.ensures.none none) n m)

pub returns-clause-over : goal.returns-clause-over
returns-clause-over c = λ none n. rw (← c.self.view_is) (nobody_over c.self.inside.ends c.self.inside.notes c.self.invariant (c.last.ensures.none none) n)
