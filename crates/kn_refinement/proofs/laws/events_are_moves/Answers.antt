-- By induction over the events, each of which leads by moves.
use Rattle.kn_packets.proofs.Runs.{keys_go_on}
use Rattle.kn_refinement.proofs.AllEvents.{events_lead}
use Rattle.kn_refinement.proofs.Joined.{event_is_moves, run_is_moves, run_leads}
use Rattle.kn_refinement.proofs.laws.events_are_moves.Goals as goal

pub returns : goal.returns
returns c = record {
  reached = λ strategies events idle s runs. run_is_moves (events_lead keys_go_on) strategies events idle s runs;
  fits = λ strategies events idle s runs. (run_leads (events_lead keys_go_on) strategies events idle s runs).fits;
  each = λ strategies events idle s t e runs happens. event_is_moves (events_lead keys_go_on) strategies events idle s t e runs happens;
}
