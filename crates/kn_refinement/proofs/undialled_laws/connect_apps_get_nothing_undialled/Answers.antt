-- By the promise of apps in the packet world, and by what fits.
use Rattle.kn_packets.proofs.Runs.{keys_go_on}
use Rattle.kn_refinement.proofs.AllEvents.{events_lead}
use Rattle.kn_refinement.proofs.Joined.{run_keeps_promises, run_leads}
use Rattle.kn_refinement.proofs.UndialledApps.{connect_gets_nothing}
use Rattle.kn_refinement.proofs.undialled_laws.connect_apps_get_nothing_undialled.Goals as goal

pub returns : goal.returns
returns c = λ strategies events idle s runs. connect_gets_nothing s (run_leads (events_lead keys_go_on) strategies events idle s runs).fits (run_keeps_promises (events_lead keys_go_on) strategies events idle s runs).undialled
