-- What a report tells is of a world that events reach.
use Rattle.std.proofs.Common.{◌≡◌, ℕ, true, List, subst}
use Rattle.kn_route.specs.declared.strategy.Strategy.{Strategy}
use Rattle.kn_world.specs.declared.event.WorldEvent.{WorldEvent}
use Rattle.kn_world.specs.declared.state.State.{State}
use Rattle.kn_world.specs.Events.{Runs}
use Rattle.kn_world.specs.States.{start}
use Rattle.kn_world.specs.Views.{shown}
use Rattle.kn_refinement.specs.Chosen.{agents_in}
use Rattle.kn_refinement.specs.Ends.{NoEndIsDue}
use Rattle.kn_refinement.specs.Headline.{KeepsPromises}
use Rattle.kn_refinement.specs.OwnBytes.{SendsOwn, app_bytes, dial_bytes}
use Rattle.kn_refinement.specs.Quiet.{IsAtRest}
use Rattle.kn_refinement.specs.Refusals.{RefusesUnanswered}
use Rattle.kn_script.specs.Report.{report_of}
use Rattle.kn_cmd.specs.Outcome.{ReportsRun}

-- all worlds that events reach keep the promises
abbrev pub KeepAll : Type 0
KeepAll = (strategies : List Strategy) (events : List WorldEvent) (idle : ℕ) (s : State) → Runs events (start strategies) idle s → KeepsPromises strategies (agents_in events) s

-- in all of them each side sent its own bytes
abbrev pub SendAll : Type 0
SendAll = (strategies : List Strategy) (events : List WorldEvent) (idle : ℕ) (s : State) → (runs : Runs events (start strategies) idle s)
    → SendsOwn (app_bytes events (start strategies) idle s runs) (dial_bytes events (start strategies) idle s runs) s

-- in none of them an end is due
abbrev pub TellAll : Type 0
TellAll = (strategies : List Strategy) (events : List WorldEvent) (idle : ℕ) (s : State) → Runs events (start strategies) idle s → NoEndIsDue s

-- those that are called quiet are at rest
abbrev pub RestAll : Type 0
RestAll = (strategies : List Strategy) (events : List WorldEvent) (idle : ℕ) (s : State) → Runs events (start strategies) idle s → (shown s).quiet ≡ true → IsAtRest s

-- in all of them an app with a choice that has no answer was refused
abbrev pub RefuseAll : Type 0
RefuseAll = (strategies : List Strategy) (events : List WorldEvent) (idle : ℕ) (s : State) → Runs events (start strategies) idle s → RefusesUnanswered s

reports : KeepAll → RefuseAll → SendAll → TellAll → RestAll → (strategies : List Strategy) (events : List WorldEvent) (idle : ℕ) (s : State) (text : List ℕ)
    → Runs events (start strategies) idle s → text ≡ report_of (shown s) idle → ReportsRun strategies events text
reports keep refuse send tell rest strategies events idle s text runs told = record {
  world = s;
  idle = idle;
  reached = runs;
  report = told;
  promises = keep strategies events idle s runs;
  refused = refuse strategies events idle s runs;
  own_bytes = send strategies events idle s runs;
  ends = tell strategies events idle s runs;
  quiet = rest strategies events idle s runs;
}

-- where the run begins in a world that is the one in which nothing has happened
pub reports_from : KeepAll → RefuseAll → SendAll → TellAll → RestAll → (strategies : List Strategy) (events : List WorldEvent) (first : State) (idle : ℕ) (s : State) (text : List ℕ)
    → first ≡ start strategies → Runs events first idle s → text ≡ report_of (shown s) idle → ReportsRun strategies events text
reports_from keep refuse send tell rest strategies events first idle s text is runs told =
    reports keep refuse send tell rest strategies events idle s text (subst (λ f. Runs events f idle s) is runs) told
