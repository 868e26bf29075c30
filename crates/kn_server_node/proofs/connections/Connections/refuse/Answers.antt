use Rattle.kn_ends.specs.Carriers.{finish_stream}
use Rattle.kn_server_node.specs.Ends.{on_carrier}
use Rattle.kn_server_node.proofs.NoteLemmas.{keeps_noted, change_noted}
use Rattle.kn_server_node.proofs.connections.Connections.refuse.Goals as goal

pub invariant_of-self-2 : goal.invariant_of-self-2
invariant_of-self-2 c = change_noted c.args.conn (on_carrier (finish_stream c.args.stream c.args.headers)) c.self.inside.ends c.refuse_at.new.ends c.note.new.notes c.refuse_at.ensures
    (keeps_noted c.self.inside.ends c.self.inside.notes c.note.new.notes c.self.invariant c.note.ensures.kept) c.in_ok-note.ensures.noted
