use Rattle.std.proofs.Common.{◌∷◌, filter, map, false, sym, ◌∙◌, ap, refl, rules, SFits, w64}
use Rattle.kn_server_core.specs.declared.state.State.{State}
use Rattle.std.proofs.Math.Facts.{to_z-of_z}
use Rattle.kn_tables.specs.Holding.{is_held, is_held_by}
use Rattle.kn_server_core.specs.Server.{all_asked, asked_at_loss, front_left}
use Rattle.kn_server_core.proofs.SoundLemmas.{closed_held, not_missed, own_held}
use Rattle.kn_server_core.proofs.LossLemmas.{told_some, told_none, front_step, none_of_kind, cons_shorter, none_left}
use Rattle.kn_server_core.proofs.losses.tunnels_left.Goals as goal

pub close-requires : goal.close-requires
close-requires c =
    let f : SFits w64 c.in-Some.entry.connect_id = search rules in
    let some = not_missed (is_held_by c.args.front) (is_held c.in-Some.entry.link c.in-Some.entry.connect_id) c.in-Some.entry c.loop-entry.state.held (sym c.first_of_front.ensures.first ∙ c.in-Some.is) (own_held c.in-Some.entry) in
    rw (to_z-of_z {w = w64} {z = c.in-Some.entry.connect_id} f) some

pub loop-entry-smaller : goal.loop-entry-smaller
loop-entry-smaller c =
    let f : SFits w64 c.in-Some.entry.connect_id = search rules in
    let closed = rw (to_z-of_z {w = w64} {z = c.in-Some.entry.connect_id} f) at c.close.ensures in
    let step = front_step c.args.front c.in-Some.entry c.loop-entry.state.held c.first_of_front.ensures.apart (sym c.first_of_front.ensures.first ∙ c.in-Some.is) in
    cons_shorter c.in-Some.entry _ _ (step.0 ∙ ap (λ l. c.in-Some.entry ∷ filter (is_held_by c.args.front) l) (sym closed))

pub loop-entry-preserved : goal.loop-entry-preserved
loop-entry-preserved c =
    let f : SFits w64 c.in-Some.entry.connect_id = search rules in
    let closed = rw (to_z-of_z {w = w64} {z = c.in-Some.entry.connect_id} f) at c.close.ensures in
    let step = front_step c.args.front c.in-Some.entry c.loop-entry.state.held c.first_of_front.ensures.apart (sym c.first_of_front.ensures.first ∙ c.in-Some.is) in
    record {
      sound = closed_held c.loop-entry.state _ c.loop-entry.invariant.sound c.in-Some.entry.link c.in-Some.entry.connect_id false refl refl closed;
      rest = ap (λ (s : State). record s { held = c.close.new.self }) c.loop-entry.invariant.rest;
      kept = ap (map (front_left c.args.front)) closed ∙ step.1 ∙ c.loop-entry.invariant.kept;
      told = told_some c.loop-entry.outs.items _ _ _ _ (asked_at_loss c.in-Some.entry.state c.in-Some.entry) c.in_ok-ask_at_loss.ensures
          (ap all_asked (step.0 ∙ ap (λ l. c.in-Some.entry ∷ filter (is_held_by c.args.front) l) (sym closed)))
          c.loop-entry.invariant.told;
    }

pub returns-in_err-ask_at_loss-clause-sound : goal.returns-in_err-ask_at_loss-clause-sound
returns-in_err-ask_at_loss-clause-sound c =
    let f : SFits w64 c.in-Some.entry.connect_id = search rules in
    let closed = rw (to_z-of_z {w = w64} {z = c.in-Some.entry.connect_id} f) at c.close.ensures in
    closed_held c.loop-entry.state _ c.loop-entry.invariant.sound c.in-Some.entry.link c.in-Some.entry.connect_id false refl refl closed

pub returns-clause-state : goal.returns-clause-state
returns-clause-state c =
    let none = sym c.first_of_front.ensures.first ∙ c.in_default.is in
    c.loop-entry.invariant.rest ∙ ap (λ a. record c.args.state.now { held = a }) (sym (none_left c.args.front c.loop-entry.state.held none) ∙ c.loop-entry.invariant.kept)

pub returns-clause-outs : goal.returns-clause-outs
returns-clause-outs c =
    let none = none_of_kind (is_held_by c.args.front) c.loop-entry.state.held (sym c.first_of_front.ensures.first ∙ c.in_default.is) in
    told_none c.loop-entry.outs.items _ _ (ap all_asked none.0) c.loop-entry.invariant.told
