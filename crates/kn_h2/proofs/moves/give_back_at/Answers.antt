use Rattle.std.proofs.Common.{sym}
use Rattle.kn_h2_state.specs.Moves.{granted}
use Rattle.kn_h2_state.specs.Holding.{HasSum}
use Rattle.kn_h2.proofs.StreamLemmas.{change_some, all_at}
use Rattle.kn_h2.proofs.moves.give_back_at.Goals as goal

pub give_back-requires : goal.give_back-requires
give_back-requires c = all_at HasSum c.args.streams.now c.args.number c.in-Some.stream.now c.requires (sym c.in-Some.ensures.value)

pub returns-in-Some : goal.returns-in-Some
returns-in-Some c = rw c.give_back.ensures (sym (change_some c.args.streams.now c.args.number granted c.in-Some.stream.now (sym c.in-Some.ensures.value)))
