use Rattle.kn_server_node.specs.Ends.{took}
use Rattle.kn_server_node.proofs.NoteLemmas.{keeps_noted, change_noted}
use Rattle.kn_server_node.proofs.connections.Connections.took.Goals as goal

pub invariant_of-self-2 : goal.invariant_of-self-2
invariant_of-self-2 c = change_noted c.args.conn (took c.args.count) c.self.inside.ends c.took_at.new.ends c.note.new.notes c.took_at.ensures
    (keeps_noted c.self.inside.ends c.self.inside.notes c.note.new.notes c.self.invariant c.note.ensures.kept) c.in_ok-note.ensures.noted
