-- It is said of the connection's tunnel, and read back from the words.
use Rattle.kn_packets.proofs.Outcomes.{all_accounted}
use Rattle.kn_packets.proofs.Runs.{Holds, everything}
use Rattle.kn_packets.proofs.headline.connections_are_accounted_for.Goals as goal

pub returns : goal.returns
returns c = record { accounted = λ strategies ms w made. let h : Holds w = everything strategies ms w made in all_accounted w h.keys h.reached h.owned }
