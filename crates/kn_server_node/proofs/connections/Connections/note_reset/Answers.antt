use Rattle.kn_ends.specs.Carriers.{on_inlet, with_reset}
use Rattle.kn_server_node.specs.Ends.{on_carrier}
use Rattle.kn_server_node.proofs.NoteLemmas.{keeps_noted, change_noted}
use Rattle.kn_server_node.proofs.connections.Connections.note_reset.Goals as goal

pub invariant_of-self-2 : goal.invariant_of-self-2
invariant_of-self-2 c = change_noted c.args.conn (on_carrier (on_inlet c.args.stream with_reset)) c.self.inside.ends c.note_reset_at.new.ends c.note.new.notes c.note_reset_at.ensures
    (keeps_noted c.self.inside.ends c.self.inside.notes c.note.new.notes c.self.invariant c.note.ensures.kept) c.in_ok-note.ensures.noted
