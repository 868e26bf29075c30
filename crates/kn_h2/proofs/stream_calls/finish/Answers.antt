use Rattle.std.proofs.Common.{sym, ◌∙◌}
use Rattle.kn_h2.proofs.CallBounds.{holds_finish}
use Rattle.kn_h2.proofs.stream_calls.finish.Goals as goal

pub returns-in-None-clause-holds : goal.returns-in-None-clause-holds
returns-in-None-clause-holds c = rw c.finish_at.ensures (holds_finish c.args.number c.args.trailers c.args.state.now (sym c.refusal.ensures ∙ c.in-None.is) c.requires)
