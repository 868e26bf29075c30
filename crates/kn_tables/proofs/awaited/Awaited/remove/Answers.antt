use Rattle.std.proofs.Common.{sym, ◌∙◌, w64, SFits, rules}
use Rattle.std.proofs.Math.Facts.{to_z-of_z}
use Rattle.kn_tables.proofs.IndexLemmas.{values_found}
use Rattle.kn_tables.proofs.AwaitedLemmas.{awaited_less, rows_less, rows_gone}
use Rattle.kn_tables.proofs.awaited.Awaited.remove.Goals as goal

pub returns-in_default-clause-found : goal.returns-in_default-clause-found
returns-in_default-clause-found c = rw (← c.self.view_is) (sym c.in_default.is ∙ c.remove.ensures.value ∙ values_found (λ e. e.dial) c.args.dial c.self.inside.by_dial.entries c.self.invariant.keyed)

pub returns-in_default-clause-left : goal.returns-in_default-clause-left
returns-in_default-clause-left c = rw (← c.self.view_is) (rows_less c.self.inside c.self.invariant c.args.dial c.remove.new.self.entries c.remove.ensures.entries)

pub returns-in_default-clause-gone : goal.returns-in_default-clause-gone
returns-in_default-clause-gone c = rows_gone c.self.inside c.self.invariant c.args.dial c.remove.new.self.entries c.remove.ensures.entries c.remove.ensures.updates.1

pub invariant_of-self-2 : goal.invariant_of-self-2
invariant_of-self-2 c =
    let f : SFits w64 c.in-Some.entry.random = search rules in
    let fits = to_z-of_z {w = w64} {z = c.in-Some.entry.random} f in
    awaited_less c.self.inside _ c.self.invariant c.args.dial c.in-Some.entry (sym c.remove.ensures.value ∙ c.in-Some.is) c.remove.ensures.ordered c.remove.ensures.entries
    c.remove.ensures.updates.0 (λ k. rw fits at (c.remove-2.ensures.updates.0 k)) c.remove-3.ensures.updates.0 c.remove-4.ensures.updates.0 c.lower.ensures

pub returns-clause-found : goal.returns-clause-found
returns-clause-found c = rw (← c.self.view_is) (sym c.in-Some.is ∙ c.remove.ensures.value ∙ values_found (λ e. e.dial) c.args.dial c.self.inside.by_dial.entries c.self.invariant.keyed)

pub returns-clause-left : goal.returns-clause-left
returns-clause-left c = rw (← c.self.view_is) (rows_less c.self.inside c.self.invariant c.args.dial c.remove.new.self.entries c.remove.ensures.entries)

pub returns-clause-gone : goal.returns-clause-gone
returns-clause-gone c = rows_gone c.self.inside c.self.invariant c.args.dial c.remove.new.self.entries c.remove.ensures.entries c.remove.ensures.updates.1
