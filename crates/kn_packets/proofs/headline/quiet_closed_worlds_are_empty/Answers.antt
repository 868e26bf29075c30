-- An entry or a connection that was left would be that of a tunnel that is quiet and closed.
use Rattle.kn_packets.proofs.Outcomes.{emptied_world}
use Rattle.kn_packets.proofs.Runs.{Holds, everything}
use Rattle.kn_packets.proofs.headline.quiet_closed_worlds_are_empty.Goals as goal

pub returns : goal.returns
returns c = record { emptied = λ strategies ms w made quiet closed. let h : Holds w = everything strategies ms w made in emptied_world w h.keys h.reached h.owned quiet closed }
