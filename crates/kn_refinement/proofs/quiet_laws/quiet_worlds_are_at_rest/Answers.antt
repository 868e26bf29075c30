-- What is shown is quiet, and the lists of clients and apps are as the report's test found them.
use Rattle.kn_packets.proofs.Runs.{keys_go_on}
use Rattle.kn_refinement.proofs.AllEvents.{events_lead}
use Rattle.kn_refinement.proofs.QuietWorlds.{quiet_at_rest}
use Rattle.kn_refinement.proofs.quiet_laws.quiet_worlds_are_at_rest.Goals as goal

pub returns : goal.returns
returns c = λ strategies events idle s runs quiet. quiet_at_rest (events_lead keys_go_on) strategies events idle s runs quiet
