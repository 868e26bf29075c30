use Rattle.std.proofs.Common.{◌≡◌, true, sym, ap, ◌∙◌, refl}
use Rattle.kn_h2_state.specs.Streams.{change, on_open}
use Rattle.kn_h2_state.specs.Calls.{with_taken}
use Rattle.kn_h2.proofs.StreamLemmas.{open_stays}
use Rattle.kn_h2.proofs.taking.take_and_tidy.Goals as goal

pub returns-else-not-is_open_at : goal.returns-else-not-is_open_at
returns-else-not-is_open_at c =
    let n = c.args.number in
    let here : on_open (change c.args.streams.now n (with_taken c.args.count)) n (λ st. true) ≡ true =
    ap (λ ss. on_open ss n (λ st. true)) (sym c.take_at.ensures) ∙ sym c.is_open_at.ensures ∙ c.if-not-is_open_at.false in
    c.take_at.ensures ∙ sym (open_stays c.args.streams.now n (with_taken c.args.count) (λ st. refl) c.requires.kept here)
