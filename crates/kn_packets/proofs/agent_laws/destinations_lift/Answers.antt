-- By the connection of the destination.
use Rattle.kn_packets.proofs.DestMoves.{ends_lift, fails_lift, hands_lift, listed, sends_lift, wrote_lift}
use Rattle.kn_packets.proofs.agent_laws.destinations_lift.Goals as goal

pub returns : goal.returns
returns c = record {
  sends = λ w d bytes may. sends_lift w d bytes may;
  hands = λ w d count keys may. hands_lift w d keys (listed w d may) count;
  wrote = λ w d count keys may. wrote_lift w d keys (listed w d may.0) count may.1;
  ended = λ w d keys may. ends_lift w d keys (listed w d may);
  failed = λ w d keys may. fails_lift w d keys (listed w d may);
}
