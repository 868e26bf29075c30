use Rattle.kn_ends.specs.Carriers.{taken_from}
use Rattle.kn_server_node.specs.Ends.{on_carrier}
use Rattle.kn_server_node.proofs.NoteLemmas.{keeps_noted, change_noted, none_noted}
use Rattle.kn_server_node.proofs.connections.Connections.take.Goals as goal

pub invariant_of-self-in-Ok : goal.invariant_of-self-in-Ok
invariant_of-self-in-Ok c = change_noted c.args.conn (on_carrier (taken_from c.args.stream)) c.self.inside.ends c.take_at.new.ends c.note.new.notes c.in-Ok.ensures
    (keeps_noted c.self.inside.ends c.self.inside.notes c.note.new.notes c.self.invariant c.note.ensures.kept) c.in_ok-note.ensures.noted

pub invariant_of-self-in-Err : goal.invariant_of-self-in-Err
invariant_of-self-in-Err c = rw c.new.ensures (none_noted c.note.new.notes)
