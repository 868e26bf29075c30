use Rattle.std.proofs.Common.{◌+◌, ◌∙◌, ap, cond, eqb, refl, w64, SFits, rules}
use Rattle.std.proofs.Math.Facts.{to_z-of_z}
use Rattle.kn_tables.specs.Lists.{first_where}
use Rattle.kn_tables.specs.Awaiting.{is_dial, is_random}
use Rattle.kn_tables.specs.Indexed.{at_key, pair_cmp}
use Rattle.kn_tables.proofs.AwaitedLemmas.{awaited_more, awaited_same, rows_more, noted_same, random_back, pair_back, lacks_front, lacks_link, few_of_front}
use Rattle.kn_tables.proofs.awaited.Awaited.insert.Goals as goal

pub invariant_of-self-in-Err : goal.invariant_of-self-in-Err
invariant_of-self-in-Err c =
    let f : SFits w64 c.args.entry.random = search rules in
    let fits = to_z-of_z {w = w64} {z = c.args.entry.random} f in
    let new_random = ap (first_where (is_random c.args.entry.front c.args.entry.random)) c.self.view_is ∙ c.requires.new_random in
    awaited_same c.self.inside _ c.self.invariant refl
    (random_back c.self.inside c.self.invariant c.args.entry.front c.args.entry.dial c.args.entry.random new_random _ _
    (λ k. rw fits at (c.in_ok-insert-2.ensures.updates.0 k)) (λ k. rw fits at (c.remove.ensures.updates.0 k)))
    (λ k. ap (λ es. at_key pair_cmp es k) c.in-Err.ensures.err)
    (λ k. refl)
    (noted_same _ _ c.args.entry.front _ c.count_of-count.ensures c.in_ok-insert.ensures.updates.0)

pub invariant_of-self-in-Err-insert : goal.invariant_of-self-in-Err-insert
invariant_of-self-in-Err-insert c =
    let f : SFits w64 c.args.entry.random = search rules in
    let fits = to_z-of_z {w = w64} {z = c.args.entry.random} f in
    let new_random = ap (first_where (is_random c.args.entry.front c.args.entry.random)) c.self.view_is ∙ c.requires.new_random in
    let new_dial = ap (first_where (is_dial c.args.entry.dial)) c.self.view_is ∙ c.requires.new_dial in
    awaited_same c.self.inside _ c.self.invariant refl
    (random_back c.self.inside c.self.invariant c.args.entry.front c.args.entry.dial c.args.entry.random new_random _ _
    (λ k. rw fits at (c.in_ok-insert-2.ensures.updates.0 k)) (λ k. rw fits at (c.remove-in-Err-insert.ensures.updates.0 k)))
    (pair_back c.self.inside.by_front.entries _ _ c.args.entry.front c.args.entry.dial (lacks_front c.self.inside c.self.invariant c.args.entry.front c.args.entry.dial new_dial)
    c.in-Ok.ensures.updates.0 c.remove-in-Err-insert-2.ensures.updates.0)
    (λ k. ap (λ es. at_key pair_cmp es k) c.in-Err-insert.ensures.err)
    (noted_same _ _ c.args.entry.front _ c.count_of-count.ensures c.in_ok-insert.ensures.updates.0)

pub invariant_of-self-in-Err-insert-2 : goal.invariant_of-self-in-Err-insert-2
invariant_of-self-in-Err-insert-2 c =
    let f : SFits w64 c.args.entry.random = search rules in
    let fits = to_z-of_z {w = w64} {z = c.args.entry.random} f in
    let new_random = ap (first_where (is_random c.args.entry.front c.args.entry.random)) c.self.view_is ∙ c.requires.new_random in
    let new_dial = ap (first_where (is_dial c.args.entry.dial)) c.self.view_is ∙ c.requires.new_dial in
    awaited_same c.self.inside _ c.self.invariant c.in-Err-insert-2.ensures.err
    (random_back c.self.inside c.self.invariant c.args.entry.front c.args.entry.dial c.args.entry.random new_random _ _
    (λ k. rw fits at (c.in_ok-insert-2.ensures.updates.0 k)) (λ k. rw fits at (c.remove-in-Err-insert-2-2.ensures.updates.0 k)))
    (pair_back c.self.inside.by_front.entries _ _ c.args.entry.front c.args.entry.dial (lacks_front c.self.inside c.self.invariant c.args.entry.front c.args.entry.dial new_dial)
    c.in-Ok.ensures.updates.0 c.remove-in-Err-insert-2-3.ensures.updates.0)
    (pair_back c.self.inside.by_link.entries _ _ c.args.entry.link c.args.entry.dial (lacks_link c.self.inside c.self.invariant c.args.entry.link c.args.entry.dial new_dial)
    c.in-Ok-insert.ensures.updates.0 c.remove-in-Err-insert-2-4.ensures.updates.0)
    (noted_same _ _ c.args.entry.front _ c.count_of-count.ensures c.in_ok-insert.ensures.updates.0)

pub raise-requires-clause-small : goal.raise-requires-clause-small
raise-requires-clause-small c =
    let l = few_of_front c.self.inside c.self.invariant c.args.entry.front c.len-entries.result c.len-entries.ensures.len c.len-entries.ensures.small in
    let m = noted_same _ _ c.args.entry.front _ c.count_of-count.ensures c.in_ok-insert.ensures.updates.0 c.args.entry.front in
    rw m l

pub invariant_of-self-2 : goal.invariant_of-self-2
invariant_of-self-2 c =
    let f : SFits w64 c.args.entry.random = search rules in
    let fits = to_z-of_z {w = w64} {z = c.args.entry.random} f in
    let new_random = ap (first_where (is_random c.args.entry.front c.args.entry.random)) c.self.view_is ∙ c.requires.new_random in
    let new_dial = ap (first_where (is_dial c.args.entry.dial)) c.self.view_is ∙ c.requires.new_dial in
    awaited_more c.self.inside _ c.self.invariant c.args.entry c.insert-5.ensures.ordered c.in-Ok-insert-2.ensures.entries c.in-Ok-insert-2.ensures.updates.0
    (λ k. rw fits at (c.in_ok-insert-2.ensures.updates.0 k)) c.in-Ok.ensures.updates.0 c.in-Ok-insert.ensures.updates.0
    (λ q. c.raise.ensures q ∙ ap (λ n. cond (eqb c.args.entry.front q) (n + 1) n) (noted_same _ _ c.args.entry.front _ c.count_of-count.ensures c.in_ok-insert.ensures.updates.0 q))
    new_dial new_random

pub returns-clause-ok : goal.returns-clause-ok
returns-clause-ok c =
    let new_dial = ap (first_where (is_dial c.args.entry.dial)) c.self.view_is ∙ c.requires.new_dial in
    rw (← c.self.view_is) (rows_more c.self.inside c.self.invariant c.args.entry c.insert-5.new.self.entries c.in-Ok-insert-2.ensures.entries new_dial)
