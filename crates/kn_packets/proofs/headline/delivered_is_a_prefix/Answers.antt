-- It is said of the tunnel.
use Rattle.kn_packets.proofs.Outcomes.{delivered, undialled}
use Rattle.kn_packets.proofs.Runs.{everything}
use Rattle.kn_packets.proofs.headline.delivered_is_a_prefix.Goals as goal

pub returns : goal.returns
returns c = record {
  delivered = λ strategies ms w made. delivered w (everything strategies ms w made).reached;
  undialled = λ strategies ms w made. undialled w (everything strategies ms w made).reached;
}
