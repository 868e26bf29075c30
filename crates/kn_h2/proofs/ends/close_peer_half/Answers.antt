use Rattle.std.proofs.Common.{sym}
use Rattle.kn_h2_state.specs.declared.stream.Stream.{Stream}
use Rattle.std.proofs.Common.{false}
use Rattle.kn_h2.proofs.StreamLemmas.{change_some}
use Rattle.kn_h2.proofs.ends.close_peer_half.Goals as goal

pub returns-in-Some : goal.returns-in-Some
returns-in-Some c = sym (change_some c.args.streams.now c.args.number (λ (st : Stream). record st { peer_open = false }) c.in-Some.stream.now (sym c.in-Some.ensures.value))
