use Rattle.std.proofs.Common.{◌++◌, sym, ◌∙◌}
use Rattle.kn_h2.proofs.CallBounds.{holds_queue}
use Rattle.kn_h2.proofs.stream_calls.queue_two.Goals as goal

pub returns-in-Ok-clause-holds : goal.returns-in-Ok-clause-holds
returns-in-Ok-clause-holds c = rw c.in-Ok.ensures.ok (holds_queue c.args.number (c.args.front.now ++ c.args.rest.now) c.args.state.now (sym c.queue_refusal.ensures ∙ c.in-None.is) c.requires)
