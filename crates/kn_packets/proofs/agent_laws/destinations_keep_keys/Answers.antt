-- By the connection of the destination.
use Rattle.kn_packets.proofs.DestKeep.{ends_keep, fails_keep, hands_keep, wrote_keep}
use Rattle.kn_packets.proofs.DestMoves.{listed}
use Rattle.kn_packets.proofs.agent_laws.destinations_keep_keys.Goals as goal

pub returns : goal.returns
returns c = record {
  hands = λ w d count keys may. hands_keep w d keys (listed w d may) count;
  wrote = λ w d count keys may. wrote_keep w d keys (listed w d may.0) count may.1;
  ended = λ w d keys may. ends_keep w d keys (listed w d may);
  failed = λ w d keys may. fails_keep w d keys (listed w d may);
}
