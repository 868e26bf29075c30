use Rattle.kn_server_node.proofs.NoteLemmas.{keeps_noted, give_noted, none_noted}
use Rattle.kn_server_node.proofs.connections.Connections.give.Goals as goal

pub invariant_of-self-in-Ok : goal.invariant_of-self-in-Ok
invariant_of-self-in-Ok c = give_noted c.args.conn c.args.stream c.args.packet.now c.self.inside.ends c.give_at.new.ends c.note_due.new.notes c.in-Ok.ensures
    (keeps_noted c.self.inside.ends c.self.inside.notes c.note_due.new.notes c.self.invariant c.note_due.ensures.kept) c.in_ok-note_due.ensures.due

pub invariant_of-self-in-Err : goal.invariant_of-self-in-Err
invariant_of-self-in-Err c = rw c.new.ensures (none_noted c.note_due.new.notes)
