-- A running world's events, joined with the laws of the packet world.
use Rattle.std.proofs.Common.{ℕ, List, [], sym, subst}
use Rattle.kn_route.specs.declared.strategy.Strategy.{Strategy}
use Rattle.kn_packets.specs.Keys.{Keys}
use Rattle.kn_packets.specs.Moves.{Makes, Move}
use Rattle.kn_packets.specs.Moves as packets
use Rattle.kn_packets.proofs.Outcomes.{all_accounted, delivered, emptied_world, undialled}
use Rattle.kn_packets.proofs.PhaseTables.{in_phases}
use Rattle.kn_packets.proofs.Runs.{Holds, everything, keys_go_on}
use Rattle.kn_packets.proofs.Starts.{keys_start}
use Rattle.kn_world.specs.declared.event.WorldEvent.{WorldEvent}
use Rattle.kn_world.specs.declared.state.State.{State}
use Rattle.kn_world.specs.Events.{Happens, Runs}
use Rattle.kn_world.specs.States as running
use Rattle.kn_refinement.specs.Chosen.{agents_in}
use Rattle.kn_refinement.specs.Fits.{Fits}
use Rattle.kn_refinement.specs.Headline.{KeepsPromises}
use Rattle.kn_refinement.specs.Leads.{Leads}
use Rattle.kn_refinement.specs.Shown.{shown}
use Rattle.kn_refinement.proofs.Beginnings.{begins_alike, start_fits}
use Rattle.kn_refinement.proofs.ChosenRuns.{choices_start, runs_keep}
use Rattle.kn_refinement.proofs.Events.{EventsLead, happens_leads, runs_lead}
use Rattle.kn_refinement.proofs.OwnDials.{gets_nothing, keeps_choices, owns}
use Rattle.kn_refinement.proofs.Promises.{keeps_apart, leaves_nothing}

module _ (events : EventsLead) where
  -- from the world in which nothing has happened
  pub run_leads : (strategies : List Strategy) (es : List WorldEvent) (idle : ℕ) (s : State) → Runs es (running.start strategies) idle s → Leads (running.start strategies) s
  run_leads strategies es idle s runs = runs_lead keys_go_on events es (running.start strategies) s idle (start_fits strategies) (subst Keys (sym (begins_alike strategies)) (keys_start strategies)) runs

  pub run_is_moves : (strategies : List Strategy) (es : List WorldEvent) (idle : ℕ) (s : State) → Runs es (running.start strategies) idle s → (ms : List Move) × Makes (packets.start strategies) ms (shown s)
  run_is_moves strategies es idle s runs = let leads = run_leads strategies es idle s runs in (leads.moves, subst (λ w. Makes w leads.moves (shown s)) (begins_alike strategies) leads.made)

  -- one event more
  pub event_is_moves : (strategies : List Strategy) (es : List WorldEvent) (idle : ℕ) (s t : State) (e : WorldEvent) → Runs es (running.start strategies) idle s → Happens e s t → (ms : List Move) × Makes (shown s) ms (shown t)
  event_is_moves strategies es idle s t e runs happens =
      let made = run_is_moves strategies es idle s runs in
      let holds : Holds (shown s) = everything strategies made.0 (shown s) made.1 in
      let leads = happens_leads keys_go_on events e s t (run_leads strategies es idle s runs).fits holds.keys happens in
      (leads.moves, leads.made)

  pub run_keeps_promises : (strategies : List Strategy) (es : List WorldEvent) (idle : ℕ) (s : State) → Runs es (running.start strategies) idle s → KeepsPromises strategies (agents_in es) s
  run_keeps_promises strategies es idle s runs =
      let fits : Fits s = (run_leads strategies es idle s runs).fits in
      let made = run_is_moves strategies es idle s runs in
      let holds : Holds (shown s) = everything strategies made.0 (shown s) made.1 in
      record {
        bytes = keeps_apart s fits (delivered (shown s) holds.reached);
        own = owns s fits;
        undialled = gets_nothing s fits holds.keys (undialled (shown s) holds.reached);
        connections = all_accounted (shown s) holds.keys holds.reached holds.owned;
        tables = leaves_nothing s fits holds.keys holds.owned (emptied_world (shown s) holds.keys holds.reached holds.owned);
        phases = in_phases (shown s) holds.keys;
        choices = keeps_choices s strategies (agents_in es) (runs_keep strategies es [] (running.start strategies) s idle (choices_start strategies) runs);
      }
