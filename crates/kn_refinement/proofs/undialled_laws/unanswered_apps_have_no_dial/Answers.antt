-- By the choices, each of which a dial has.
use Rattle.kn_packets.proofs.Runs.{keys_go_on}
use Rattle.kn_refinement.specs.Chosen.{agents_in}
use Rattle.kn_refinement.proofs.AllEvents.{events_lead}
use Rattle.kn_refinement.proofs.Joined.{run_keeps_promises}
use Rattle.kn_refinement.proofs.UndialledApps.{unanswered_undialled}
use Rattle.kn_refinement.proofs.undialled_laws.unanswered_apps_have_no_dial.Goals as goal

pub returns : goal.returns
returns c = λ strategies events idle s runs. unanswered_undialled strategies (agents_in events) s (run_keeps_promises (events_lead keys_go_on) strategies events idle s runs).choices
