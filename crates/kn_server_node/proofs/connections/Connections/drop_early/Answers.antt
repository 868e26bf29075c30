use Rattle.kn_server_node.specs.Doors as door
use Rattle.kn_server_node.specs.Ends.{on_door}
use Rattle.kn_server_node.proofs.NoteLemmas.{keeps_noted, change_noted}
use Rattle.kn_server_node.proofs.connections.Connections.drop_early.Goals as goal

pub invariant_of-self-2 : goal.invariant_of-self-2
invariant_of-self-2 c = change_noted c.args.conn (on_door door.without_early) c.self.inside.ends c.drop_early_at.new.ends c.note.new.notes c.drop_early_at.ensures
    (keeps_noted c.self.inside.ends c.self.inside.notes c.note.new.notes c.self.invariant c.note.ensures.kept) c.in_ok-note.ensures.noted
