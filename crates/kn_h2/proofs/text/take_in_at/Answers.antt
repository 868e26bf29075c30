use Rattle.std.proofs.Common.{sym}
use Rattle.std.proofs.lemmas.Result.{on_ok_weaker}
use Rattle.kn_h2_state.specs.Effects.{with_text}
use Rattle.kn_h2.proofs.StreamLemmas.{change_some}
use Rattle.kn_h2.proofs.text.take_in_at.Goals as goal

pub returns-in-Some : goal.returns-in-Some
returns-in-Some c = on_ok_weaker c.take_in.result
    (λ e. rw e (sym (change_some c.args.streams.now c.args.number (with_text c.args.count c.args.text.now) c.in-Some.stream.now (sym c.in-Some.ensures.value)))) c.take_in.ensures
