use Rattle.kn_server_node.specs.Ends.{closed}
use Rattle.kn_server_node.proofs.NoteLemmas.{keeps_noted, change_noted, none_noted}
use Rattle.kn_server_node.proofs.connections.Connections.close.Goals as goal

pub invariant_of-self-in-Ok : goal.invariant_of-self-in-Ok
invariant_of-self-in-Ok c = change_noted c.args.conn (closed c.args.status c.args.stream) c.self.inside.ends c.close_at.new.ends c.note.new.notes c.in-Ok.ensures
    (keeps_noted c.self.inside.ends c.self.inside.notes c.note.new.notes c.self.invariant c.note.ensures.kept) c.in_ok-note.ensures.noted

pub invariant_of-self-in-Err : goal.invariant_of-self-in-Err
invariant_of-self-in-Err c = rw c.new.ensures (none_noted c.note.new.notes)
