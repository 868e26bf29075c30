-- What is shown is what moves lead to, so the laws of the packet world hold of it.
use Rattle.kn_packets.proofs.Runs.{keys_go_on}
use Rattle.kn_refinement.proofs.AllEvents.{events_lead}
use Rattle.kn_refinement.proofs.Joined.{run_keeps_promises}
use Rattle.kn_refinement.proofs.laws.worlds_keep_their_promises.Goals as goal

pub returns : goal.returns
returns c = λ strategies events idle s runs. run_keeps_promises (events_lead keys_go_on) strategies events idle s runs
