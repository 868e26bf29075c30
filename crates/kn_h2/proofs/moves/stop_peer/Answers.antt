use Rattle.std.proofs.Common.{sym}
use Rattle.kn_h2_state.specs.Moves.{stopped}
use Rattle.kn_h2.proofs.StreamLemmas.{change_some}
use Rattle.kn_h2.proofs.moves.stop_peer.Goals as goal

pub returns-in-Some : goal.returns-in-Some
returns-in-Some c = sym (change_some c.args.streams.now c.args.number stopped c.in-Some.stream.now (sym c.in-Some.ensures.value))
