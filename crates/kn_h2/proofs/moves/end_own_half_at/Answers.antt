use Rattle.std.proofs.Common.{sym}
use Rattle.kn_h2_state.specs.Moves.{own_ended}
use Rattle.kn_h2.proofs.StreamLemmas.{change_some}
use Rattle.kn_h2.proofs.moves.end_own_half_at.Goals as goal

pub returns-in-Some : goal.returns-in-Some
returns-in-Some c = rw c.end_own_half.ensures (sym (change_some c.args.streams.now c.args.number (own_ended c.args.server) c.in-Some.stream.now (sym c.in-Some.ensures.value)))
