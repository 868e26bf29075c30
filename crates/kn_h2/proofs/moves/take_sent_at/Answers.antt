use Rattle.std.proofs.Common.{sym}
use Rattle.kn_h2_state.specs.Moves.{sent_some}
use Rattle.kn_h2.proofs.StreamLemmas.{change_some}
use Rattle.kn_h2.proofs.moves.take_sent_at.Goals as goal

pub returns-in-Some : goal.returns-in-Some
returns-in-Some c = rw c.take_sent.ensures (sym (change_some c.args.streams.now c.args.number (sent_some c.args.count) c.in-Some.stream.now (sym c.in-Some.ensures.value)))
