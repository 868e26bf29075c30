use Rattle.std.proofs.Common.{sym}
use Rattle.kn_h2_state.specs.Calls.{with_taken}
use Rattle.kn_h2.proofs.StreamLemmas.{change_some}
use Rattle.kn_h2.proofs.taking.take_at.Goals as goal

pub returns-in-Some : goal.returns-in-Some
returns-in-Some c = rw c.take_one.ensures (sym (change_some c.args.streams.now c.args.number (with_taken c.args.count) c.in-Some.stream.now (sym c.in-Some.ensures.value)))
