use Rattle.std.proofs.Common.{sym, ◌∙◌, ap, w64, SFits, rules}
use Rattle.std.proofs.Math.Facts.{to_z-of_z}
use Rattle.kn_tables.specs.Lists.{first_where}
use Rattle.kn_tables.specs.Holding.{is_held}
use Rattle.kn_tables.proofs.HeldLemmas.{held_less, rows_less, rows_gone, stands_under, without_none}
use Rattle.kn_tables.proofs.held.Held.remove.Goals as goal

pub returns-in_default-clause-left : goal.returns-in_default-clause-left
returns-in_default-clause-left c = sym (without_none (is_held c.args.link c.args.connect_id) c.args.self.now (sym (rw (to_z-of_z {w = w64} {z = c.args.connect_id} c.ranges.connect_id) at c.find.ensures) ∙ c.in_default.is))

pub invariant_of-self : goal.invariant_of-self
invariant_of-self c =
    let f : SFits w64 c.in-Some.entry.connect_id = search rules in
    let fits = to_z-of_z {w = w64} {z = c.in-Some.entry.connect_id} f in
    let found = stands_under c.self.inside c.self.invariant c.args.link c.args.connect_id c.in-Some.entry (ap (first_where (is_held c.args.link c.args.connect_id)) c.self.view_is ∙ sym (rw (to_z-of_z {w = w64} {z = c.args.connect_id} c.ranges.connect_id) at c.find.ensures) ∙ c.in-Some.is) in
    held_less c.self.inside _ c.self.invariant c.in-Some.entry.dial c.in-Some.entry found.1 c.remove-2.ensures.ordered c.remove-2.ensures.entries
    c.remove-2.ensures.updates.0 (λ k. rw fits at (c.remove.ensures.updates.0 k)) c.forget_front.ensures c.lower_for.ensures

pub returns-clause-left : goal.returns-clause-left
returns-clause-left c =
    let found = stands_under c.self.inside c.self.invariant c.args.link c.args.connect_id c.in-Some.entry (ap (first_where (is_held c.args.link c.args.connect_id)) c.self.view_is ∙ sym (rw (to_z-of_z {w = w64} {z = c.args.connect_id} c.ranges.connect_id) at c.find.ensures) ∙ c.in-Some.is) in
    rw (← c.self.view_is) (rows_less c.self.inside c.self.invariant c.args.link c.args.connect_id c.in-Some.entry.dial c.remove-2.new.self.entries found.0 c.remove-2.ensures.entries)

pub returns-clause-gone : goal.returns-clause-gone
returns-clause-gone c =
    let found = stands_under c.self.inside c.self.invariant c.args.link c.args.connect_id c.in-Some.entry (ap (first_where (is_held c.args.link c.args.connect_id)) c.self.view_is ∙ sym (rw (to_z-of_z {w = w64} {z = c.args.connect_id} c.ranges.connect_id) at c.find.ensures) ∙ c.in-Some.is) in
    rows_gone c.self.inside c.self.invariant c.args.link c.args.connect_id c.in-Some.entry.dial c.remove-2.new.self.entries found.0 c.remove-2.ensures.ordered c.remove-2.ensures.updates.0
