-- What a world shows.
use Rattle.std.specs.Prelude.{ℕ, zero, suc, ◌+◌, ◌==◌, ◌&&◌, not, min, Bool, true, false, List, [], ◌∷◌, ◌++◌, length, map, Option, Some, None, if◌then◌else◌}
use Rattle.std.specs.List.{list_all, list_any}
use Rattle.kn_edge_core.specs.declared.app.AppState.{AppState}
use Rattle.kn_edge_core.specs.declared.app.AppState.TheVariants as app_state
use Rattle.kn_edge_core.specs.declared.connection.DestState.{DestState}
use Rattle.kn_edge_core.specs.declared.connection.DestState.TheVariants as dest_state
use Rattle.kn_tables.specs.declared.held_entry.HeldEntry.{HeldEntry}
use Rattle.kn_tables.specs.declared.held_entry.HeldState.{HeldState}
use Rattle.kn_tables.specs.declared.held_entry.HeldState.TheVariants as held_state
use Rattle.kn_tables.specs.Lists.{first_where}
use Rattle.kn_tables.specs.Holding.{is_held_dial}
use Rattle.kn_world.specs.declared.event.AppPhase.{AppPhase}
use Rattle.kn_world.specs.declared.event.AppPhase.TheVariants as app_phases
use Rattle.kn_world.specs.declared.event.DialPhase.{DialPhase}
use Rattle.kn_world.specs.declared.event.DialPhase.TheVariants as dial_phases
use Rattle.kn_world.specs.declared.parts.Agent.{Agent}
use Rattle.kn_world.specs.declared.parts.App.{App}
use Rattle.kn_world.specs.declared.parts.Client.{Client}
use Rattle.kn_world.specs.declared.parts.Dial.{Dial}
use Rattle.kn_world.specs.declared.parts.Stage.{Stage}
use Rattle.kn_world.specs.declared.parts.Stage.TheVariants as stage
use Rattle.kn_world.specs.declared.state.State.{State}
use Rattle.kn_world.specs.Clients as clients
use Rattle.kn_world.specs.Dials as dials
use Rattle.kn_world.specs.Numbers.{nth}
use Rattle.kn_world.specs.Pipes.{nothing_in_flight}
use Rattle.kn_world.specs.Shown.{Shown, AppShown, DialShown}

-- ---- apps: what the world notes, and where the app is open what its client knows of it
abbrev pub phase_at_client : Option AppState → AppPhase
phase_at_client (Some app_state.Closing) = app_phases.Closing
phase_at_client (Some app_state.Lingering) = app_phases.Lingering
phase_at_client (Some app_state.Dialling) = app_phases.Dialling
phase_at_client (Some app_state.Open) = app_phases.Open
phase_at_client None = app_phases.Open

abbrev pub phase_at : Stage → Option AppState → AppPhase
phase_at stage.Dialling state = app_phases.Dialling
phase_at stage.Open state = phase_at_client state
phase_at stage.Refused state = app_phases.Refused
phase_at stage.Ended state = app_phases.Ended

abbrev pub app_phase : App → List Client → AppPhase
app_phase a cs = phase_at a.stage (clients.state_of a.home cs)

abbrev pub app_shown : List Client → App → AppShown
app_shown cs a = record {
  phase = app_phase a cs;
  sent = a.side.sending.passed ++ a.side.sending.waiting;
  got = a.side.coming.passed;
  error = a.error;
}

-- ---- dials: by the agent of the link
abbrev pub phase_at_agent : Option DestState → DialPhase
phase_at_agent (Some dest_state.Open) = dial_phases.Open
phase_at_agent (Some dest_state.Lingering) = dial_phases.Lingering
phase_at_agent None = dial_phases.Ended

abbrev pub dest_state_of : Dial → List Agent → Option DestState
dest_state_of d agents = dials.state_at d.connect_id (nth d.link agents)

abbrev pub phase_handled : Dial → List Agent → DialPhase
phase_handled d agents = if dials.is_dialling_at d.ticket (nth d.link agents) then dial_phases.Dialling else phase_at_agent (dest_state_of d agents)

abbrev pub dial_phase : Dial → List Agent → DialPhase
dial_phase d agents = if d.handled then phase_handled d agents else dial_phases.Asked

abbrev pub dial_shown : List Agent → Dial → DialShown
dial_shown agents d = record {
  link = d.link;
  app = d.app;
  phase = dial_phase d agents;
  sent = d.side.sending.passed ++ d.side.sending.waiting;
  got = d.side.coming.passed;
}

-- ---- quiet: nothing is on its way or kept, no agent dials or has a connection that lingers, and each connection
-- that one end lost was lost by the other
abbrev pub is_same : Bool → Bool → Bool
is_same true b = b
is_same false b = not b

abbrev pub is_still_agent : Agent → Bool
is_still_agent a = is_same a.at_server a.at_agent && (length a.core.dials == 0)

abbrev pub is_still_client : Client → Bool
is_still_client c = is_same c.at_server c.at_client

abbrev pub is_still_app : App → Bool
is_still_app a = length a.door.early == 0

abbrev pub is_lingering_state : Option DestState → Bool
is_lingering_state (Some dest_state.Lingering) = true
is_lingering_state (Some dest_state.Open) = false
is_lingering_state None = false

abbrev pub is_lingering : List Agent → Dial → Bool
is_lingering agents d = is_lingering_state (dest_state_of d agents)

abbrev pub none_lingers : List Agent → List Dial → Bool
none_lingers agents [] = true
none_lingers agents (d ∷ ds) = if is_lingering agents d then false else none_lingers agents ds

unfoldable pub is_still : State → Bool
is_still s =
    list_all is_still_agent s.agents && list_all is_still_client s.clients && list_all is_still_app s.apps
    && none_lingers s.agents s.dials

-- ---- closed: the server awaits no answer, and holds no open tunnel
abbrev pub is_open_state : HeldState → Bool
is_open_state held_state.Open = true
is_open_state held_state.Closing = false

abbrev pub is_open_held : HeldEntry → Bool
is_open_held e = is_open_state e.state

-- the same number by number
abbrev pub is_open_entry : Option HeldEntry → Bool
is_open_entry None = false
is_open_entry (Some e) = is_open_held e

abbrev pub has_open_below : ℕ → List HeldEntry → Bool
has_open_below zero held = false
has_open_below (suc dial) held = if is_open_entry (first_where (is_held_dial dial) held) then true else has_open_below dial held

-- ---- sums over the agents, which stand still at their type's end
abbrev pub capped : ℕ → ℕ → ℕ
capped a b = min (a + b) 18446744073709551615

abbrev pub dials_from : ℕ → List Agent → ℕ
dials_from sum [] = sum
dials_from sum (a ∷ rest) = dials_from (capped sum (length a.core.dials)) rest

abbrev pub connections_from : ℕ → List Agent → ℕ
connections_from sum [] = sum
connections_from sum (a ∷ rest) = connections_from (capped sum (length a.core.connections)) rest

-- ---- all of it
abbrev pub shown : State → Shown
shown s = record {
  agents = length s.agents;
  clients = length s.clients;
  apps = map (app_shown s.clients) s.apps;
  dials = map (dial_shown s.agents) s.dials;
  awaited = length s.server.awaited;
  held = length s.server.held;
  dialling = dials_from 0 s.agents;
  connections = connections_from 0 s.agents;
  quiet = nothing_in_flight s && is_still s;
  closed = (length s.server.awaited == 0) && not (list_any is_open_held s.server.held);
}
