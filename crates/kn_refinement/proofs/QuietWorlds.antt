-- A running world whose report says that it is quiet is at rest.
use Rattle.std.proofs.Common.{◌≡◌, ◌==◌, ◌&&◌, ℕ, Bool, true, false, List, [], length, Some, refl, subst}
use Rattle.std.specs.List.{list_all}
use Rattle.kn_route.specs.declared.strategy.Strategy.{Strategy}
use Rattle.kn_packets.specs.Moves.{Makes, Move}
use Rattle.kn_packets.proofs.Runs.{Holds, everything}
use Rattle.kn_packets.proofs.Taken.{and_first, and_second}
use Rattle.kn_world.specs.declared.event.WorldEvent.{WorldEvent}
use Rattle.kn_world.specs.declared.parts.App.{App}
use Rattle.kn_world.specs.declared.parts.Client.{Client}
use Rattle.kn_world.specs.declared.state.State.{State}
use Rattle.kn_world.specs.Events.{Runs}
use Rattle.kn_world.specs.Numbers.{nth}
use Rattle.kn_world.specs.Pipes.{is_bare_agent, is_bare_client, nothing_in_flight}
use Rattle.kn_world.specs.States as running
use Rattle.kn_world.specs.Views.{is_same, is_still, is_still_agent, is_still_app, is_still_client, none_lingers}
use Rattle.kn_refinement.specs.Quiet.{HasQuietStream, IsAtRest}
use Rattle.kn_refinement.specs.Shown.{shown}
use Rattle.kn_refinement.proofs.Events.{EventsLead}
use Rattle.kn_refinement.proofs.Joined.{run_is_moves, run_leads}
use Rattle.kn_refinement.proofs.Promises.{all_nth, empty_of, quiet_world}

module _ (s : State) (quiet : (nothing_in_flight s && is_still s) ≡ true) where
  clients_bare : list_all is_bare_client s.clients ≡ true
  unfolding nothing_in_flight
  clients_bare = and_second (list_all is_bare_agent s.agents) (list_all is_bare_client s.clients) (and_first (nothing_in_flight s) (is_still s) quiet)

  rest_still : (list_all is_still_client s.clients && list_all is_still_app s.apps && none_lingers s.agents s.dials) ≡ true
  unfolding is_still
  rest_still = by (list_all is_still_agent s.agents) (list_all is_still_client s.clients) (list_all is_still_app s.apps) (none_lingers s.agents s.dials) (and_second (nothing_in_flight s) (is_still s) quiet)
    where
      by : (a b c d : Bool) → (a && b && c && d) ≡ true → (b && c && d) ≡ true
      by true b c d h = h
      by false b c d h = absurd cc

  clients_still : list_all is_still_client s.clients ≡ true
  clients_still = by (list_all is_still_client s.clients) (list_all is_still_app s.apps) (none_lingers s.agents s.dials) rest_still
    where
      by : (b c d : Bool) → (b && c && d) ≡ true → b ≡ true
      by true c d h = refl
      by false c d h = absurd cc

  apps_still : list_all is_still_app s.apps ≡ true
  apps_still = by (list_all is_still_client s.clients) (list_all is_still_app s.apps) (none_lingers s.agents s.dials) rest_still
    where
      by : (b c d : Bool) → (b && c && d) ≡ true → c ≡ true
      by true true d h = refl
      by true false d h = absurd cc
      by false c d h = absurd cc

  same : (b c : Bool) → is_same b c ≡ true → b ≡ c
  same true true h = refl
  same true false h = absurd cc
  same false true h = absurd cc
  same false false h = refl

  pub quiet_stream : (c : ℕ) (x : Client) → nth c s.clients ≡ Some x → HasQuietStream x
  quiet_stream c x at =
      let both : is_bare_client x ≡ true = all_nth is_bare_client s.clients c x clients_bare at in
      record {
        up = empty_of x.up (and_first (length x.up == 0) (length x.down == 0) both);
        down = empty_of x.down (and_second (length x.up == 0) (length x.down == 0) both);
        lost = same x.at_server x.at_client (all_nth is_still_client s.clients c x clients_still at);
      }

  pub none_early : (k : ℕ) (a : App) → nth k s.apps ≡ Some a → a.door.early ≡ []
  none_early k a at = empty_of a.door.early (all_nth is_still_app s.apps k a apps_still at)

pub quiet_at_rest : EventsLead → (strategies : List Strategy) (es : List WorldEvent) (idle : ℕ) (s : State) → Runs es (running.start strategies) idle s
    → (nothing_in_flight s && is_still s) ≡ true → IsAtRest s
quiet_at_rest events strategies es idle s runs quiet =
    let made = run_is_moves events strategies es idle s runs in
    let holds : Holds (shown s) = everything strategies made.0 (shown s) made.1 in
    record {
      links = quiet_world s (run_leads events strategies es idle s runs).fits holds.keys holds.owned quiet;
      streams = quiet_stream s quiet;
      early = none_early s quiet;
    }
