use Rattle.std.proofs.Common.{not, filter, sym, ◌∙◌, ap, refl}
use Rattle.kn_server_core.specs.declared.state.State.{State}
use Rattle.kn_tables.specs.Awaiting.{is_of_front, is_dial}
use Rattle.kn_server_core.proofs.SoundLemmas.{fewer_awaited, not_missed, own_dial}
use Rattle.kn_server_core.proofs.LossLemmas.{kind_others, none_of_kind, shorter_by}
use Rattle.kn_server_core.proofs.losses.dials_forgotten.Goals as goal

pub loop-entry-smaller : goal.loop-entry-smaller
loop-entry-smaller c =
    let first = sym c.first_of_front.ensures.first ∙ c.in-Some.is in
    shorter_by (is_dial c.in-Some.entry.dial) c.remove.new.self c.loop-entry.state.awaited c.remove.ensures.left (not_missed (is_of_front c.args.front) (is_dial c.in-Some.entry.dial) c.in-Some.entry c.loop-entry.state.awaited first (own_dial c.in-Some.entry))

pub loop-entry-preserved : goal.loop-entry-preserved
loop-entry-preserved c =
    let first = sym c.first_of_front.ensures.first ∙ c.in-Some.is in
    record {
      sound = fewer_awaited c.loop-entry.state _ c.loop-entry.invariant.sound (is_dial c.in-Some.entry.dial) refl c.remove.ensures.left refl;
      rest = ap (λ (s : State). record s { awaited = c.remove.new.self }) c.loop-entry.invariant.rest;
      kept = ap (filter (λ e. not (is_of_front c.args.front e))) c.remove.ensures.left ∙ kind_others (λ x. x.dial) (is_of_front c.args.front) c.in-Some.entry c.loop-entry.state.awaited c.first_of_front.ensures.rising first ∙ c.loop-entry.invariant.kept;
    }

pub returns-clause-state : goal.returns-clause-state
returns-clause-state c =
    let none = none_of_kind (is_of_front c.args.front) c.loop-entry.state.awaited (sym c.first_of_front.ensures.first ∙ c.in_default.is) in
    c.loop-entry.invariant.rest ∙ ap (λ a. record c.args.state.now { awaited = a }) (sym none.1 ∙ c.loop-entry.invariant.kept)
