use Rattle.std.proofs.Common.{sym}
use Rattle.kn_h2_state.specs.Streams.{shut}
use Rattle.kn_h2.proofs.StreamLemmas.{change_some}
use Rattle.kn_h2.proofs.resets.shut_at.Goals as goal

pub returns-in-Some : goal.returns-in-Some
returns-in-Some c = rw c.shut_one.ensures (sym (change_some c.args.streams.now c.args.number shut c.in-Some.stream.now (sym c.in-Some.ensures.value)))
