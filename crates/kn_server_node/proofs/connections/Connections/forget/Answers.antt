use Rattle.kn_server_node.proofs.NoteLemmas.{keeps_noted, forgotten_noted}
use Rattle.kn_server_node.proofs.connections.Connections.forget.Goals as goal

pub invariant_of-self-2 : goal.invariant_of-self-2
invariant_of-self-2 c = forgotten_noted c.args.conn c.self.inside.ends c.remove.new.self c.note.new.notes c.remove.ensures c.holds.ensures.members.same
    (keeps_noted c.self.inside.ends c.self.inside.notes c.note.new.notes c.self.invariant c.note.ensures.kept) c.in_ok-note.ensures.noted
