use Rattle.kn_tables.proofs.IndexLemmas.{values_rising}
use Rattle.kn_tables.proofs.AwaitedLemmas.{link_found}
use Rattle.kn_tables.proofs.awaited.Awaited.first_of_link.Goals as goal

pub returns-clause-rising : goal.returns-clause-rising
returns-clause-rising c = rw (← c.self.view_is) (values_rising (λ e. e.dial) c.self.inside.by_dial.entries c.self.invariant.keyed c.self.invariant.ordered)

pub returns-clause-first : goal.returns-clause-first
returns-clause-first c = rw (c.entry_at.ensures, ← c.self.view_is) (link_found c.self.inside c.self.invariant c.args.link c.first_at.result c.first_at.ensures)
