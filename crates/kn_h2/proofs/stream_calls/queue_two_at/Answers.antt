use Rattle.std.proofs.Common.{◌++◌, sym, ap, ◌∙◌}
use Rattle.std.proofs.lemmas.Result.{on_ok_weaker, on_err_weaker}
use Rattle.kn_h2_state.specs.Streams.{with_stream}
use Rattle.kn_h2_state.specs.Calls.{with_queued}
use Rattle.kn_h2.proofs.StreamLemmas.{change_some}
use Rattle.kn_h2.proofs.CallBounds.{with_same}
use Rattle.kn_h2.proofs.stream_calls.queue_two_at.Goals as goal

pub returns-in-Some-clause-ok : goal.returns-in-Some-clause-ok
returns-in-Some-clause-ok c = on_ok_weaker c.queue_two_in_one.result
    (λ e. rw e (sym (change_some c.args.streams.now c.args.number (with_queued (c.args.front.now ++ c.args.rest.now)) c.in-Some.stream.now (sym c.in-Some.ensures.value)))) c.queue_two_in_one.ensures.ok

pub returns-in-Some-clause-err : goal.returns-in-Some-clause-err
returns-in-Some-clause-err c = on_err_weaker c.queue_two_in_one.result
    (λ e. ap (with_stream c.args.streams.now c.args.number) e ∙ with_same c.args.streams.now c.args.number c.in-Some.stream.now (sym c.in-Some.ensures.value)) c.queue_two_in_one.ensures.err
