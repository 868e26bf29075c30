-- By what a client knows of its apps.
use Rattle.kn_packets.proofs.Runs.{everything, keys_go_on}
use Rattle.kn_refinement.specs.Shown.{shown}
use Rattle.kn_refinement.proofs.AllEvents.{events_lead}
use Rattle.kn_refinement.proofs.Joined.{run_is_moves, run_leads}
use Rattle.kn_refinement.proofs.UndialledOpen.{undialled_unopened}
use Rattle.kn_refinement.proofs.undialled_laws.undialled_apps_are_unopened.Goals as goal

pub returns : goal.returns
returns c = λ strategies events idle s runs.
    let made = run_is_moves (events_lead keys_go_on) strategies events idle s runs in
    undialled_unopened s (run_leads (events_lead keys_go_on) strategies events idle s runs).fits (everything strategies made.0 (shown s) made.1).keys
