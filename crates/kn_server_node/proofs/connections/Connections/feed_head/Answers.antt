use Rattle.kn_server_node.proofs.NoteLemmas.{keeps_noted, heard_noted}
use Rattle.kn_server_node.proofs.connections.Connections.feed_head.Goals as goal

pub invariant_of-self : goal.invariant_of-self
invariant_of-self c = heard_noted c.args.conn c.args.piece.now c.feed_head_at.result c.self.inside.ends c.feed_head_at.new.ends c.note.new.notes c.feed_head_at.ensures
    (keeps_noted c.self.inside.ends c.self.inside.notes c.note.new.notes c.self.invariant c.note.ensures.kept) c.in-Ok.ensures.noted
