use Rattle.kn_h2.proofs.FillLemmas.{notes_took}
use Rattle.kn_h2.proofs.conn.Conn.took.Goals as goal

pub invariant_of-self : goal.invariant_of-self
invariant_of-self c = (c.took.ensures.holds, rw c.took.ensures.after (notes_took c.self.inside.state c.self.inside.due c.args.count c.self.invariant.1))
