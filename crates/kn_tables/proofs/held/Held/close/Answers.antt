use Rattle.std.proofs.Common.{sym, ◌∙◌, ap, refl, w64}
use Rattle.std.proofs.Math.Facts.{to_z-of_z}
use Rattle.kn_tables.specs.Lists.{first_where}
use Rattle.kn_tables.specs.Holding.{is_held}
use Rattle.kn_tables.proofs.HeldLemmas.{held_closed, rows_closed, stands_under}
use Rattle.kn_tables.proofs.held.Held.close.Goals as goal

pub put-requires : goal.put-requires
put-requires c =
    let found = stands_under c.self.inside c.self.invariant c.args.link c.args.connect_id c.in-Some.entry (ap (first_where (is_held c.args.link c.args.connect_id)) c.self.view_is ∙ sym (rw (to_z-of_z {w = w64} {z = c.args.connect_id} c.ranges.connect_id) at c.find.ensures) ∙ c.in-Some.is) in
    rw found.1 refl

pub invariant_of-self : goal.invariant_of-self
invariant_of-self c =
    let found = stands_under c.self.inside c.self.invariant c.args.link c.args.connect_id c.in-Some.entry (ap (first_where (is_held c.args.link c.args.connect_id)) c.self.view_is ∙ sym (rw (to_z-of_z {w = w64} {z = c.args.connect_id} c.ranges.connect_id) at c.find.ensures) ∙ c.in-Some.is) in
    held_closed c.self.inside _ c.self.invariant c.in-Some.entry c.args.keep_front found.1
    (rw c.closed.ensures at c.put.ensures.entries)
    (λ q. rw c.closed.ensures at (c.put.ensures.updates q))
    (λ k. refl)
    (λ k. rw c.front_left-left.ensures at (c.forget_front.ensures k))
    (λ q. rw c.front_left-left.ensures at (c.lower_for.ensures q))

pub returns : goal.returns
returns c =
    let found = stands_under c.self.inside c.self.invariant c.args.link c.args.connect_id c.in-Some.entry (ap (first_where (is_held c.args.link c.args.connect_id)) c.self.view_is ∙ sym (rw (to_z-of_z {w = w64} {z = c.args.connect_id} c.ranges.connect_id) at c.find.ensures) ∙ c.in-Some.is) in
    rw (← c.self.view_is) (rows_closed c.self.inside c.self.invariant c.args.link c.args.connect_id c.args.keep_front c.in-Some.entry c.put.new.entries.entries found.0 found.1 (rw c.closed.ensures at c.put.ensures.entries))
