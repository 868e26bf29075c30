use Rattle.kn_server_node.proofs.NoteLemmas.{keeps_noted, inserted_noted}
use Rattle.kn_server_node.proofs.connections.Connections.insert.Goals as goal

pub invariant_of-self-2 : goal.invariant_of-self-2
invariant_of-self-2 c = inserted_noted c.args.conn c.args.end c.self.inside.ends c.insert.new.self c.note.new.notes c.in_ok-insert.ensures.ok c.holds.ensures.members.same
    (keeps_noted c.self.inside.ends c.self.inside.notes c.note.new.notes c.self.invariant c.note.ensures.kept) c.in_ok-note.ensures.noted
