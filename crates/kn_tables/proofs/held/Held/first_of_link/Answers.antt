use Rattle.kn_tables.proofs.HeldLemmas.{link_found}
use Rattle.kn_tables.proofs.held.Held.first_of_link.Goals as goal

pub returns : goal.returns
returns c = rw (c.entry_at.ensures, ← c.self.view_is) (link_found c.self.inside c.self.invariant c.args.link c.first_signed_at.result c.first_signed_at.ensures)
