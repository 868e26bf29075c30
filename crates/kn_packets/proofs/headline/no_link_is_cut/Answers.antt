-- By the connection's tunnel, which has no entry while its reply is on the way.
use Rattle.kn_packets.proofs.Runs.{everything}
use Rattle.kn_packets.proofs.Uncut.{none_is_cut, replies_are_new}
use Rattle.kn_packets.proofs.headline.no_link_is_cut.Goals as goal

pub returns : goal.returns
returns c = record {
  new = λ strategies ms w made. replies_are_new w (everything strategies ms w made).keys;
  uncut = λ strategies ms w made. none_is_cut w (everything strategies ms w made).keys;
}
