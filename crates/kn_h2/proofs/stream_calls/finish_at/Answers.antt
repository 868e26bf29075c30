use Rattle.std.proofs.Common.{sym}
use Rattle.kn_h2_state.specs.Calls.{with_finish}
use Rattle.kn_h2.proofs.StreamLemmas.{change_some}
use Rattle.kn_h2.proofs.stream_calls.finish_at.Goals as goal

pub returns-in-Some : goal.returns-in-Some
returns-in-Some c = sym (change_some c.args.streams.now c.args.number (with_finish c.args.trailers) c.in-Some.stream.now (sym c.in-Some.ensures.value))
