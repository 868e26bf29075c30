use Rattle.kn_server_node.proofs.NoteLemmas.{rested_noted}
use Rattle.kn_server_node.proofs.connections.Connections.rest.Goals as goal

pub invariant_of-self : goal.invariant_of-self
invariant_of-self c = rested_noted c.args.conn c.self.inside.ends c.self.inside.notes.ready c.self.inside.notes.due c.remove.new.self c.remove.ensures c.self.invariant
    (rw (← c.self.view_is) at c.requires)
