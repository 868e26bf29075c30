use Rattle.std.proofs.Common.{◌∷◌, not, filter, sym, ◌∙◌, ap, refl, rules, SFits, w64}
use Rattle.kn_server_core.specs.declared.state.State.{State}
use Rattle.std.proofs.Math.Facts.{to_z-of_z}
use Rattle.kn_tables.specs.Awaiting.{is_of_link, is_dial}
use Rattle.kn_server_core.specs.Server.{all_awaited_lost, awaited_lost}
use Rattle.kn_server_core.proofs.SoundLemmas.{fewer_awaited, not_missed, own_dial}
use Rattle.kn_server_core.proofs.LossLemmas.{told_more, told_none, first_of_kind, kind_others, none_of_kind, shorter_by}
use Rattle.kn_server_core.proofs.losses.awaited_lost.Goals as goal

pub loop-entry-smaller : goal.loop-entry-smaller
loop-entry-smaller c =
    let first = sym c.first_of_link.ensures.first ∙ c.in-Some.is in
    shorter_by (is_dial c.in-Some.entry.dial) c.remove.new.self c.loop-entry.state.awaited c.remove.ensures.left (not_missed (is_of_link c.args.link) (is_dial c.in-Some.entry.dial) c.in-Some.entry c.loop-entry.state.awaited first (own_dial c.in-Some.entry))

pub loop-entry-preserved : goal.loop-entry-preserved
loop-entry-preserved c =
    let f : SFits w64 c.in-Some.entry.random = search rules in
    let first = sym c.first_of_link.ensures.first ∙ c.in-Some.is in
    record {
      sound = fewer_awaited c.loop-entry.state _ c.loop-entry.invariant.sound (is_dial c.in-Some.entry.dial) refl c.remove.ensures.left refl;
      rest = ap (λ (s : State). record s { awaited = c.remove.new.self }) c.loop-entry.invariant.rest;
      kept = ap (filter (λ e. not (is_of_link c.args.link e))) c.remove.ensures.left ∙ kind_others (λ x. x.dial) (is_of_link c.args.link) c.in-Some.entry c.loop-entry.state.awaited c.first_of_link.ensures.rising first ∙ c.loop-entry.invariant.kept;
      told = told_more c.loop-entry.outs.items _ _ _ _ (awaited_lost c.in-Some.entry) (rw (to_z-of_z {w = w64} {z = c.in-Some.entry.random} f) at c.in_ok-refuse_as.ensures)
          (ap all_awaited_lost (first_of_kind (λ x. x.dial) (is_of_link c.args.link) c.in-Some.entry c.loop-entry.state.awaited c.first_of_link.ensures.rising first ∙ ap (λ l. c.in-Some.entry ∷ filter (is_of_link c.args.link) l) (sym c.remove.ensures.left)))
          c.loop-entry.invariant.told;
    }

pub returns-in_err-refuse_as-clause-sound : goal.returns-in_err-refuse_as-clause-sound
returns-in_err-refuse_as-clause-sound c = fewer_awaited c.loop-entry.state _ c.loop-entry.invariant.sound (is_dial c.in-Some.entry.dial) refl c.remove.ensures.left refl

pub returns-clause-state : goal.returns-clause-state
returns-clause-state c =
    let none = none_of_kind (is_of_link c.args.link) c.loop-entry.state.awaited (sym c.first_of_link.ensures.first ∙ c.in_default.is) in
    c.loop-entry.invariant.rest ∙ ap (λ a. record c.args.state.now { awaited = a }) (sym none.1 ∙ c.loop-entry.invariant.kept)

pub returns-clause-outs : goal.returns-clause-outs
returns-clause-outs c =
    let none = none_of_kind (is_of_link c.args.link) c.loop-entry.state.awaited (sym c.first_of_link.ensures.first ∙ c.in_default.is) in
    told_none c.loop-entry.outs.items _ _ (ap all_awaited_lost none.0) c.loop-entry.invariant.told
