-- What apps take, and what a client does with a packet of the server.
use Rattle.std.specs.Prelude.{ℕ, nat_lt, min, Bool, false, not, List, Option, Some, None, if◌then◌else◌}
use Rattle.kn_packet.specs.declared.packet.Packet.{Packet}
use Rattle.kn_packet.specs.declared.packet.Packet.TheVariants.{DialReq, DialRsp, CloseReq, CloseRsp, Data, DialCls, Drain, Other}
use Rattle.kn_edge_core.specs.declared.app.AppState.{AppState}
use Rattle.kn_edge_core.specs.declared.client_event.ClientEvent.TheVariants as event
use Rattle.kn_world.specs.declared.parts.App.{App}
use Rattle.kn_world.specs.declared.parts.Client.{Client}
use Rattle.kn_world.specs.declared.parts.Home.{Home}
use Rattle.kn_world.specs.declared.parts.Home.TheVariants as home
use Rattle.kn_world.specs.declared.state.State.{State}
use Rattle.kn_world.specs.Apps as apps
use Rattle.kn_world.specs.Clients as clients
use Rattle.kn_world.specs.ClientSteps as client
use Rattle.kn_world.specs.Doors as door
use Rattle.kn_world.specs.Handing.{settles}
use Rattle.kn_world.specs.Numbers.{nth, change, number_of}

-- ---- an app takes bytes
abbrev pub has_left : Home → App → List Client → Bool
has_left (home.Client c number) a cs = nat_lt 0 (clients.unwritten_at number (nth c cs))
has_left home.Connect a cs = door.has_left a.stage a

abbrev pub wrote : ℕ → ℕ → ℕ → ℕ → State → State
wrote c number count app s = client.step c (event.AppWrote number count) (record s { apps = change (apps.took count) app s.apps })

abbrev pub took : Home → ℕ → ℕ → State → State
took (home.Client c number) count app s = wrote c number (min count (clients.unwritten_at number (nth c s.clients))) app s
took home.Connect count app s = record s { apps = change (apps.took_at_door count) app s.apps }

abbrev pub takes_of : Option App → ℕ → ℕ → State → State
takes_of None app count s = s
takes_of (Some a) app count s = took a.home count app s

-- at most so many
abbrev pub takes : ℕ → ℕ → State → State
takes app count s = takes_of (nth app s.apps) app count s

abbrev pub is_free_of : Option App → Bool
is_free_of None = false
is_free_of (Some a) = not a.side.held

abbrev pub is_free : ℕ → State → Bool
is_free app s = is_free_of (nth app s.apps)

-- all there is, unless it is held
abbrev pub takes_freely : ℕ → State → State
takes_freely app s = if is_free app s then takes app 18446744073709551615 s else s

-- ---- a client takes a packet of the server
abbrev pub answered_by : Packet → ℕ → List Client → ℕ
answered_by (DialRsp error connect_id random) c cs = clients.app_at (number_of random) (nth c cs)
answered_by (DialReq protocol address random) c cs = 0
answered_by (CloseReq connect_id) c cs = 0
answered_by (CloseRsp error connect_id) c cs = 0
answered_by (Data connect_id error bytes) c cs = 0
answered_by (DialCls random) c cs = 0
answered_by Drain c cs = 0
answered_by (Other number) c cs = 0

abbrev pub written_by : Packet → ℕ → List Client → ℕ
written_by (Data connect_id error bytes) c cs = clients.taker_at connect_id (nth c cs)
written_by (DialReq protocol address random) c cs = 0
written_by (DialRsp error connect_id random) c cs = 0
written_by (CloseReq connect_id) c cs = 0
written_by (CloseRsp error connect_id) c cs = 0
written_by (DialCls random) c cs = 0
written_by Drain c cs = 0
written_by (Other number) c cs = 0

abbrev pub state_of_app : Option App → List Client → Option AppState
state_of_app None cs = None
state_of_app (Some a) cs = clients.state_of a.home cs

abbrev pub state_of : ℕ → State → Option AppState
state_of app s = state_of_app (nth app s.apps) s.clients

-- an app whose dial was answered without an error is open, and what it sent before goes to its client
abbrev pub opens : ℕ → State → State
opens app s = settles app (record s { apps = change (apps.opened_if (state_of app s)) app s.apps })

-- an app that it opens gives its bytes, one that it has bytes for takes them
abbrev pub takes_packet : Packet → ℕ → State → State
takes_packet packet c s =
    takes_freely (written_by packet c s.clients) (opens (answered_by packet c s.clients) (client.step c (event.Packet packet) s))
