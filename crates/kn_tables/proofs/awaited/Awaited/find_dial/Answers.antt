use Rattle.kn_tables.proofs.IndexLemmas.{values_found}
use Rattle.kn_tables.proofs.awaited.Awaited.find_dial.Goals as goal

pub returns : goal.returns
returns c = rw (c.copied.ensures, c.get.ensures.value, ← c.self.view_is) (values_found (λ e. e.dial) c.args.dial c.self.inside.by_dial.entries c.self.invariant.keyed)
