use Rattle.kn_server_node.specs.Doors as door
use Rattle.kn_server_node.specs.Ends.{on_door}
use Rattle.kn_server_node.proofs.NoteLemmas.{keeps_noted, change_noted}
use Rattle.kn_server_node.proofs.connections.Connections.begin_door.Goals as goal

pub invariant_of-self-2 : goal.invariant_of-self-2
invariant_of-self-2 c = change_noted c.args.conn (on_door (door.begun c.args.front c.args.early)) c.self.inside.ends c.begin_door_at.new.ends c.note.new.notes c.begin_door_at.ensures
    (keeps_noted c.self.inside.ends c.self.inside.notes c.note.new.notes c.self.invariant c.note.ensures.kept) c.in_ok-note.ensures.noted
