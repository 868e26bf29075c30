use Rattle.kn_server_node.specs.Ends.{lost}
use Rattle.kn_server_node.proofs.NoteLemmas.{keeps_noted, change_noted}
use Rattle.kn_server_node.proofs.connections.Connections.lose.Goals as goal

pub invariant_of-self-2 : goal.invariant_of-self-2
invariant_of-self-2 c = change_noted c.args.conn (lost) c.self.inside.ends c.lose_at.new.ends c.note.new.notes c.lose_at.ensures
    (keeps_noted c.self.inside.ends c.self.inside.notes c.note.new.notes c.self.invariant c.note.ensures.kept) c.in_ok-note.ensures.noted
