use Rattle.kn_ends.specs.Carriers.{without_events}
use Rattle.kn_server_node.specs.Ends.{on_carrier}
use Rattle.kn_server_node.proofs.NoteLemmas.{keeps_noted, change_noted}
use Rattle.kn_server_node.proofs.connections.Connections.take_events.Goals as goal

pub invariant_of-self-2 : goal.invariant_of-self-2
invariant_of-self-2 c = change_noted c.args.conn (on_carrier without_events) c.self.inside.ends c.take_events_at.new.ends c.note.new.notes c.take_events_at.ensures.left
    (keeps_noted c.self.inside.ends c.self.inside.notes c.note.new.notes c.self.invariant c.note.ensures.kept) c.in_ok-note.ensures.noted
