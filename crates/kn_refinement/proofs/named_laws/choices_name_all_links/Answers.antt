-- By what the server has of its links.
use Rattle.kn_packets.proofs.Runs.{everything, keys_go_on}
use Rattle.kn_refinement.specs.Shown.{shown}
use Rattle.kn_refinement.proofs.AllEvents.{events_lead}
use Rattle.kn_refinement.proofs.Joined.{run_is_moves}
use Rattle.kn_refinement.proofs.NamedLinks.{name_all_up}
use Rattle.kn_refinement.proofs.named_laws.choices_name_all_links.Goals as goal

pub returns : goal.returns
returns c = λ strategies events idle s runs. let made = run_is_moves (events_lead keys_go_on) strategies events idle s runs in name_all_up s (everything strategies made.0 (shown s) made.1).keys
