-- Bytes and ends of apps that their nodes are given: a client, or the server where an app came by CONNECT.
use Rattle.std.specs.Prelude.{ℕ, nat_lt, min, Bool, false, List, length, take, Option, Some, None, if◌then◌else◌}
use Rattle.kn_packet.specs.declared.packet.Packet.{Packet}
use Rattle.kn_edge_core.specs.declared.client_event.ClientEvent.TheVariants as event
use Rattle.kn_edge_core.specs.declared.app.AppState.{AppState}
use Rattle.kn_edge_core.specs.declared.app.AppState.TheVariants as state
use Rattle.kn_server_core.specs.declared.event.ServerEvent.TheVariants.{FrontPacket, FrontLost}
use Rattle.kn_world.specs.declared.parts.App.{App}
use Rattle.kn_world.specs.declared.parts.Client.{Client}
use Rattle.kn_world.specs.declared.parts.Home.{Home}
use Rattle.kn_world.specs.declared.parts.Home.TheVariants as home
use Rattle.kn_world.specs.declared.parts.Stage.{Stage}
use Rattle.kn_world.specs.declared.parts.Stage.TheVariants.{Dialling, Open, Refused, Ended}
use Rattle.kn_world.specs.declared.state.State.{State}
use Rattle.kn_world.specs.Answering.{is_due}
use Rattle.kn_world.specs.Apps as apps
use Rattle.kn_world.specs.Clients as clients
use Rattle.kn_world.specs.ClientSteps as client
use Rattle.kn_world.specs.Numbers.{nth, change}
use Rattle.kn_world.specs.Pieces.{pieces}
use Rattle.kn_world.specs.ServerSteps as server
use Rattle.kn_world.specs.Times.{times}

-- ---- the next 16,384 bytes, or all that are left where these are fewer
abbrev pub hands_to : Home → List ℕ → ℕ → State → State
hands_to (home.Client c number) bytes app s = client.step c (event.AppBytes number bytes) s
hands_to home.Connect bytes app s = record s { apps = change (apps.kept bytes) app s.apps }

abbrev pub hands_piece_of : Option App → ℕ → State → State
hands_piece_of None app s = s
hands_piece_of (Some a) app s = hands_to a.home (take 16384 a.side.sending.waiting) app (record s { apps = change (apps.handed 16384) app s.apps })

abbrev pub hands_piece : ℕ → State → State
hands_piece app s = hands_piece_of (nth app s.apps) app s

abbrev pub hands_pieces : ℕ → ℕ → State → State
hands_pieces count app s = times count (hands_piece app) s

-- ---- how many pieces are taken
-- of an app by CONNECT, while its dial is awaited, until 16,384 bytes are kept
abbrev pub early_pieces : App → ℕ
early_pieces a = if nat_lt (length a.side.sending.passed) 16384 then min (pieces (length a.side.sending.waiting)) 1 else 0

abbrev pub open_pieces : App → ℕ
open_pieces a = pieces (length a.side.sending.waiting)

abbrev pub pieces_by : Stage → App → ℕ
pieces_by Dialling a = early_pieces a
pieces_by Open a = open_pieces a
pieces_by Refused a = 0
pieces_by Ended a = 0

-- none once the server has ended the tunnel
abbrev pub door_pieces : App → ℕ
door_pieces a = if a.door.closing then 0 else pieces_by a.stage a

-- of a client's app, while its tunnel is open
abbrev pub pieces_at : Option AppState → ℕ → ℕ
pieces_at (Some state.Open) count = pieces count
pieces_at (Some state.Dialling) count = 0
pieces_at (Some state.Closing) count = 0
pieces_at (Some state.Lingering) count = 0
pieces_at None count = 0

abbrev pub client_pieces : ℕ → ℕ → ℕ → List Client → ℕ
client_pieces c number count cs = pieces_at (clients.state_at number (nth c cs)) count

abbrev pub pieces_wanted : Home → App → List Client → ℕ
pieces_wanted (home.Client c number) a cs = client_pieces c number (length a.side.sending.waiting) cs
pieces_wanted home.Connect a cs = door_pieces a

abbrev pub count_wanted_of : Option App → List Client → ℕ
count_wanted_of None cs = 0
count_wanted_of (Some a) cs = pieces_wanted a.home a cs

abbrev pub count_wanted : ℕ → State → ℕ
count_wanted app s = count_wanted_of (nth app s.apps) s.clients

-- ---- the server takes what an app by CONNECT gave it
abbrev pub server_hears_first : Option Packet → ℕ → State → State
server_hears_first None front s = s
server_hears_first (Some packet) front s = server.step 0 (FrontPacket front packet) s

abbrev pub server_hears : ℕ → State → State
server_hears app s = server_hears_first (apps.first_kept (nth app s.apps)) (apps.front_of (nth app s.apps)) (record s { apps = change apps.rest_kept app s.apps })

abbrev pub server_hears_all : ℕ → ℕ → State → State
server_hears_all count app s = times count (server_hears app) s

-- ---- the end of its sending goes behind the last byte, once
abbrev pub is_end_due_of : Option App → Bool
is_end_due_of None = false
is_end_due_of (Some a) = is_due a.side

abbrev pub is_end_due : ℕ → State → Bool
is_end_due app s = is_end_due_of (nth app s.apps)

-- an app by CONNECT has left with its end, and the server loses its front
abbrev pub leaves_door : ℕ → State → State
leaves_door app s = server.step 0 (FrontLost (apps.front_of (nth app s.apps))) (record s { apps = change apps.left_door app s.apps })

abbrev pub gives_end_to : Home → ℕ → State → State
gives_end_to (home.Client c number) app s = client.step c (event.AppEnd number) s
gives_end_to home.Connect app s = leaves_door app s

abbrev pub gives_end_of : Option App → ℕ → State → State
gives_end_of None app s = s
gives_end_of (Some a) app s = gives_end_to a.home app (record s { apps = change apps.end_told app s.apps })

abbrev pub gives_end : ℕ → State → State
gives_end app s = gives_end_of (nth app s.apps) app s

abbrev pub ends_if_due : ℕ → State → State
ends_if_due app s = if is_end_due app s then gives_end app s else s

-- ---- all of it
abbrev pub hands_wanted : ℕ → State → State
hands_wanted app s = hands_pieces (count_wanted app s) app s

abbrev pub server_hears_kept : ℕ → State → State
server_hears_kept app s = server_hears_all (apps.kept_count (nth app s.apps)) app s

abbrev pub settles : ℕ → State → State
settles app s = ends_if_due app (server_hears_kept app (hands_wanted app s))
