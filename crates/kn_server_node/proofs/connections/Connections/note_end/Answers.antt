use Rattle.kn_ends.specs.Carriers.{on_inlet, with_end}
use Rattle.kn_server_node.specs.Ends.{on_carrier}
use Rattle.kn_server_node.proofs.NoteLemmas.{keeps_noted, change_noted}
use Rattle.kn_server_node.proofs.connections.Connections.note_end.Goals as goal

pub invariant_of-self-2 : goal.invariant_of-self-2
invariant_of-self-2 c = change_noted c.args.conn (on_carrier (on_inlet c.args.stream with_end)) c.self.inside.ends c.note_end_at.new.ends c.note.new.notes c.note_end_at.ensures
    (keeps_noted c.self.inside.ends c.self.inside.notes c.note.new.notes c.self.invariant c.note.ensures.kept) c.in_ok-note.ensures.noted
