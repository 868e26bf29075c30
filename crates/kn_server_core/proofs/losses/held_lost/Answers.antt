use Rattle.std.proofs.Common.{◌∷◌, not, filter, sym, ◌∙◌, ap, refl, rules, SFits, w64}
use Rattle.kn_server_core.specs.declared.state.State.{State}
use Rattle.std.proofs.Math.Facts.{to_z-of_z}
use Rattle.kn_tables.specs.Holding.{is_held, is_held_on, is_held_dial, by_connect_id}
use Rattle.kn_server_core.specs.Server.{all_held_lost, held_lost}
use Rattle.kn_server_core.proofs.SoundLemmas.{fewer_held, held_under, own_held_dial}
use Rattle.kn_server_core.proofs.LossLemmas.{told_some, told_none, first_on, none_on, others_kept, held_passes, cons_shorter, found_in_sort, kept_of_none}
use Rattle.kn_server_core.proofs.losses.held_lost.Goals as goal

pub tell_lost-requires : goal.tell_lost-requires
tell_lost-requires c =
    held_under c.loop-entry.state c.loop-entry.invariant.sound c.in-Some.entry
    (found_in_sort (is_held_on c.args.link) (is_held_dial c.in-Some.entry.dial) c.in-Some.entry c.loop-entry.state.held (own_held_dial c.in-Some.entry) (sym c.first_of_link.ensures ∙ c.in-Some.is))

pub loop-entry-smaller : goal.loop-entry-smaller
loop-entry-smaller c =
    let f : SFits w64 c.in-Some.entry.connect_id = search rules in
    let left = rw (to_z-of_z {w = w64} {z = c.in-Some.entry.connect_id} f) at c.remove.ensures.left in
    cons_shorter c.in-Some.entry _ _ (first_on c.args.link c.in-Some.entry c.loop-entry.state.held (sym c.first_of_link.ensures ∙ c.in-Some.is) ∙ ap (λ l. c.in-Some.entry ∷ by_connect_id (filter (is_held_on c.args.link) l)) (sym left))

pub loop-entry-preserved : goal.loop-entry-preserved
loop-entry-preserved c =
    let f : SFits w64 c.in-Some.entry.connect_id = search rules in
    let left = rw (to_z-of_z {w = w64} {z = c.in-Some.entry.connect_id} f) at c.remove.ensures.left in
    record {
      sound = fewer_held c.loop-entry.state _ c.loop-entry.invariant.sound (is_held c.args.link c.in-Some.entry.connect_id) refl refl left;
      rest = ap (λ (s : State). record s { held = c.remove.new.self }) c.loop-entry.invariant.rest;
      kept = ap (filter (λ e. not (is_held_on c.args.link e))) left ∙ others_kept (is_held_on c.args.link) (is_held c.args.link c.in-Some.entry.connect_id) c.loop-entry.state.held (λ x h. held_passes c.args.link c.in-Some.entry.connect_id x h) ∙ c.loop-entry.invariant.kept;
      told = told_some c.loop-entry.outs.items _ _ _ _ (held_lost c.in-Some.entry) c.in_ok-tell_lost.ensures
          (ap all_held_lost (first_on c.args.link c.in-Some.entry c.loop-entry.state.held (sym c.first_of_link.ensures ∙ c.in-Some.is) ∙ ap (λ l. c.in-Some.entry ∷ by_connect_id (filter (is_held_on c.args.link) l)) (sym left)))
          c.loop-entry.invariant.told;
    }

pub returns-in_err-tell_lost-clause-sound : goal.returns-in_err-tell_lost-clause-sound
returns-in_err-tell_lost-clause-sound c =
    let f : SFits w64 c.in-Some.entry.connect_id = search rules in
    let left = rw (to_z-of_z {w = w64} {z = c.in-Some.entry.connect_id} f) at c.remove.ensures.left in
    fewer_held c.loop-entry.state _ c.loop-entry.invariant.sound (is_held c.args.link c.in-Some.entry.connect_id) refl refl left

pub returns-clause-state : goal.returns-clause-state
returns-clause-state c =
    let none = none_on (filter (is_held_on c.args.link) c.loop-entry.state.held) (sym c.first_of_link.ensures ∙ c.in_default.is) in
    c.loop-entry.invariant.rest ∙ ap (λ a. record c.args.state.now { held = a }) (sym (kept_of_none (is_held_on c.args.link) c.loop-entry.state.held none) ∙ c.loop-entry.invariant.kept)

pub returns-clause-outs : goal.returns-clause-outs
returns-clause-outs c =
    let none = none_on (filter (is_held_on c.args.link) c.loop-entry.state.held) (sym c.first_of_link.ensures ∙ c.in_default.is) in
    told_none c.loop-entry.outs.items _ _ (ap (λ l. all_held_lost (by_connect_id l)) none) c.loop-entry.invariant.told
