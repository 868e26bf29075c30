use Rattle.std.proofs.lemmas.Result.{on_ok_weaker}
use Rattle.kn_h2.proofs.HoldsLemmas.{holds_fail}
use Rattle.kn_h2.proofs.frames.on_fault.Goals as goal

pub returns-else-is_some-clause-holds : goal.returns-else-is_some-clause-holds
returns-else-is_some-clause-holds c = on_ok_weaker c.fail.result (λ e. rw e (holds_fail c.frame_code.result c.args.state.now c.requires)) c.fail.ensures
