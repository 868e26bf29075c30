-- What a client does with an event, and where its outputs go.
use Rattle.std.specs.Prelude.{ℕ, List, [], ◌∷◌}
use Rattle.kn_edge_core.specs.declared.client_event.ClientEvent.{ClientEvent}
use Rattle.kn_edge_core.specs.declared.client_event.ClientOut.{ClientOut}
use Rattle.kn_edge_core.specs.declared.client_event.ClientOut.TheVariants as out
use Rattle.kn_world.specs.declared.state.State.{State}
use Rattle.kn_world.specs.Numbers.{nth, change}
use Rattle.kn_world.specs.Apps as apps
use Rattle.kn_world.specs.Clients as clients

abbrev pub writes : ℕ → List ℕ → ℕ → State → State
writes number bytes client s = record s { apps = change (apps.written bytes) (clients.app_at number (nth client s.clients)) s.apps }

abbrev pub ends : ℕ → List ℕ → ℕ → State → State
ends number error client s = record s { apps = change (apps.left error) (clients.app_at number (nth client s.clients)) s.apps }

abbrev pub gives : ClientOut → ℕ → State → State
gives (out.ToServer packet) client s = record s { clients = change (clients.queued_up packet) client s.clients }
gives (out.ToApp app bytes) client s = writes app bytes client s
gives (out.EndApp app error) client s = ends app error client s

abbrev pub gives_all : List ClientOut → ℕ → State → State
gives_all [] client s = s
gives_all (o ∷ os) client s = gives_all os client (gives o client s)

-- ---- a client takes an event
abbrev pub step : ℕ → ClientEvent → State → State
step client e s = gives_all (clients.told e (nth client s.clients)) client (record s { clients = change (clients.stepped e) client s.clients })
