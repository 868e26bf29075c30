use Rattle.std.proofs.Common.{◌+◌, ◌∙◌, ap, cond, refl, w64, SFits, rules}
use Rattle.std.proofs.Math.Facts.{to_z-of_z}
use Rattle.kn_tables.specs.Lists.{first_where}
use Rattle.kn_tables.specs.Holding.{is_held_dial, is_held, has_front}
use Rattle.kn_tables.specs.Indexed.{at_key, pair_cmp}
use Rattle.kn_tables.proofs.HeldLemmas.{held_more, held_same, rows_more, connect_back, front_back, few_of_front, low_fits}
use Rattle.kn_tables.proofs.held.Held.insert.Goals as goal

pub invariant_of-self-in-Err : goal.invariant_of-self-in-Err
invariant_of-self-in-Err c =
    let f : SFits w64 c.args.entry.connect_id = search rules in
    let fits = to_z-of_z {w = w64} {z = c.args.entry.connect_id} f in
    let new_connect = ap (first_where (is_held c.args.entry.link c.args.entry.connect_id)) c.self.view_is ∙ c.requires.new_connect in
    held_same c.self.inside _ c.self.invariant refl
    (connect_back c.self.inside c.self.invariant c.args.entry.link c.args.entry.dial c.args.entry.connect_id new_connect _ _
    (λ k. rw fits at (c.in_ok-insert.ensures.updates.0 k)) (λ k. rw fits at (c.remove.ensures.updates.0 k)))
    (λ k. ap (λ es. at_key pair_cmp es k) c.in-Err.ensures.err)
    c.note_for.ensures.kept

pub invariant_of-self-in-Err-insert : goal.invariant_of-self-in-Err-insert
invariant_of-self-in-Err-insert c =
    let f : SFits w64 c.args.entry.connect_id = search rules in
    let fits = to_z-of_z {w = w64} {z = c.args.entry.connect_id} f in
    let new_connect = ap (first_where (is_held c.args.entry.link c.args.entry.connect_id)) c.self.view_is ∙ c.requires.new_connect in
    let new_dial = ap (first_where (is_held_dial c.args.entry.dial)) c.self.view_is ∙ c.requires.new_dial in
    held_same c.self.inside _ c.self.invariant c.in-Err-insert.ensures.err
    (connect_back c.self.inside c.self.invariant c.args.entry.link c.args.entry.dial c.args.entry.connect_id new_connect _ _
    (λ k. rw fits at (c.in_ok-insert.ensures.updates.0 k)) (λ k. rw fits at (c.remove-in-Err-insert.ensures.updates.0 k)))
    (front_back c.self.inside c.self.invariant c.args.entry.front c.args.entry.dial new_dial _ _ c.in-Ok.ensures.ok c.forget_front.ensures)
    c.note_for.ensures.kept

pub raise_for-requires-clause-small : goal.raise_for-requires-clause-small
raise_for-requires-clause-small c = λ q.
    let l = few_of_front c.self.inside c.self.invariant q c.len-entries.result c.len-entries.ensures.len c.len-entries.ensures.small in
    rw (c.note_for.ensures.kept q) l

pub invariant_of-self-2 : goal.invariant_of-self-2
invariant_of-self-2 c =
    let f : SFits w64 c.args.entry.connect_id = search rules in
    let fits = to_z-of_z {w = w64} {z = c.args.entry.connect_id} f in
    let new_connect = ap (first_where (is_held c.args.entry.link c.args.entry.connect_id)) c.self.view_is ∙ c.requires.new_connect in
    let new_dial = ap (first_where (is_held_dial c.args.entry.dial)) c.self.view_is ∙ c.requires.new_dial in
    held_more c.self.inside _ c.self.invariant c.args.entry (low_fits c.args.entry.connect_id f) c.insert-2.ensures.ordered c.in-Ok-insert.ensures.entries c.in-Ok-insert.ensures.updates.0
    (λ k. rw fits at (c.in_ok-insert.ensures.updates.0 k)) c.in-Ok.ensures.ok
    (λ q. c.raise_for.ensures q ∙ ap (λ n. cond (has_front c.args.entry.front q) (n + 1) n) (c.note_for.ensures.kept q))
    new_dial new_connect

pub returns-clause-ok : goal.returns-clause-ok
returns-clause-ok c =
    let new_dial = ap (first_where (is_held_dial c.args.entry.dial)) c.self.view_is ∙ c.requires.new_dial in
    rw (← c.self.view_is) (rows_more c.self.inside c.self.invariant c.args.entry c.insert-2.new.self.entries c.in-Ok-insert.ensures.entries new_dial)
