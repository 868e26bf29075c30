-- By induction over the moves.
use Rattle.kn_packets.proofs.Runs.{everything}
use Rattle.kn_packets.proofs.headline.everything_holds.Goals as goal

pub returns : goal.returns
returns c = record {
  keys = λ strategies ms w made. (everything strategies ms w made).keys;
  owned = λ strategies ms w made. (everything strategies ms w made).owned;
  reached = λ strategies ms w made. (everything strategies ms w made).reached;
}
