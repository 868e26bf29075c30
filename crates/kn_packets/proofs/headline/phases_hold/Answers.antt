-- The phases are laws of one tunnel; the places are kept by each move.
use Rattle.kn_packets.proofs.PhaseTables.{in_phases}
use Rattle.kn_packets.proofs.Runs.{everything}
use Rattle.kn_packets.proofs.headline.phases_hold.Goals as goal

pub returns : goal.returns
returns c = record {
  phases = λ strategies ms w made. in_phases w (everything strategies ms w made).keys;
  places = λ strategies ms w made. (everything strategies ms w made).places;
}
