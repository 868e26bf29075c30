-- What each move keeps holds after every list of moves.
use Rattle.std.proofs.Common.{List, [], ◌∷◌, subst}
use Rattle.kn_route.specs.declared.strategy.Strategy.{Strategy}
use Rattle.kn_packets.specs.Keys.{Keys}
use Rattle.kn_packets.specs.Moves.{Makes, Move, after, start}
use Rattle.kn_packets.specs.Outcome.{AllReached}
use Rattle.kn_packets.specs.Owned.{Owned}
use Rattle.kn_packets.specs.Places.{Places}
use Rattle.kn_packets.specs.World.{World}
use Rattle.kn_packets.proofs.AllMoves.{keeps, reaches}
use Rattle.kn_packets.proofs.OwnedKept.{owned_kept}
use Rattle.kn_packets.proofs.PlacesKept.{places_kept, places_start}
use Rattle.kn_packets.proofs.Starts.{keys_start, owned_start, reached_start}

pub record Holds (w : World) : Type 0 where
  pub keys : Keys w
  pub owned : Owned w
  pub reached : AllReached w
  pub places : Places w

run_keeps : (ms : List Move) (old new : World) → Makes old ms new → Holds old → Holds new
run_keeps [] old new made h = subst Holds made h
run_keeps (m ∷ ms) old new made h = run_keeps ms (after m old) new made.1
    (record { keys = keeps m old h.keys made.0; owned = owned_kept m old h.keys made.0 h.owned; reached = reaches m old h.keys made.0 h.reached; places = places_kept m old h.keys made.0 h.places })

-- from any world on
pub keys_go_on : (old new : World) (ms : List Move) → Keys old → Makes old ms new → Keys new
keys_go_on old new [] keys made = subst Keys made keys
keys_go_on old new (m ∷ ms) keys made = keys_go_on (after m old) new ms (keeps m old keys made.0) made.1

pub everything : (strategies : List Strategy) (ms : List Move) (w : World) → Makes (start strategies) ms w → Holds w
everything strategies ms w made = run_keeps ms (start strategies) w made (record { keys = keys_start strategies; owned = owned_start strategies; reached = reached_start strategies; places = places_start strategies })
