-- Clients and their streams: what enters a stream's lists and leaves them, and what a client's core does.
use Rattle.std.specs.Prelude.{ℕ, ℤ, ◌&&◌, Bool, true, false, List, [], ◌∷◌, ◌++◌, length, Option, Some, None}
use Rattle.std.specs.Option.{option_map}
use Rattle.kn_packet.specs.declared.packet.Packet.{Packet}
use Rattle.kn_tables.specs.Lists.{first_where}
use Rattle.kn_edge_core.specs.declared.app.AppState.{AppState}
use Rattle.kn_edge_core.specs.declared.client_event.ClientEvent.{ClientEvent}
use Rattle.kn_edge_core.specs.declared.client_event.ClientOut.{ClientOut}
use Rattle.kn_edge_core.specs.Client as edge
use Rattle.kn_edge_core.specs.ClientTables.{is_app, is_open_at}
use Rattle.kn_world.specs.declared.parts.Client.{Client}
use Rattle.kn_world.specs.declared.parts.Home.{Home}
use Rattle.kn_world.specs.declared.parts.Home.TheVariants as home
use Rattle.kn_world.specs.Numbers.{nth, or_none, first_of, rest_of}

-- a packet is queued where both ends have the stream; to an end that lost it, it is dropped
abbrev pub with_up : Bool → Packet → Client → Client
with_up true packet c = record c { up = c.up ++ packet ∷ [] }
with_up false packet c = c

abbrev pub with_down : Bool → Packet → Client → Client
with_down true packet c = record c { down = c.down ++ packet ∷ [] }
with_down false packet c = c

abbrev pub queued_up : Packet → Client → Client
queued_up packet c = with_up (c.at_server && c.at_client) packet c

abbrev pub queued_down : Packet → Client → Client
queued_down packet c = with_down c.at_client packet c

-- the first packet of a list, and the list without it
abbrev pub first_up : Option Client → Option Packet
first_up None = None
first_up (Some c) = first_of c.up

abbrev pub rest_up : Client → Client
rest_up c = record c { up = rest_of c.up }

abbrev pub first_down : Option Client → Option Packet
first_down None = None
first_down (Some c) = first_of c.down

abbrev pub rest_down : Client → Client
rest_down c = record c { down = rest_of c.down }

abbrev pub up_count : Option Client → ℕ
up_count None = 0
up_count (Some c) = length c.up

abbrev pub down_count : Option Client → ℕ
down_count None = 0
down_count (Some c) = length c.down

-- an end loses the stream: what is on its way to it is dropped, and what it queued stays
abbrev pub lost_at_server : Client → Client
lost_at_server c = record c { at_server = false; up = [] }

abbrev pub lost_at_client : Client → Client
lost_at_client c = record c { at_client = false; down = [] }

abbrev pub front_of : Option Client → ℕ
front_of None = 0
front_of (Some c) = c.front

abbrev pub is_at_client : Option Client → Bool
is_at_client None = false
is_at_client (Some c) = c.at_client

-- the apps of a client's own numbers
abbrev pub with_app : ℕ → Client → Client
with_app app c = record c { apps = c.apps ++ app ∷ [] }

abbrev pub app_at : ℕ → Option Client → ℕ
app_at number None = 0
app_at number (Some c) = or_none (nth number c.apps)

-- the app that data of a connectID is for
abbrev pub taker_at : ℤ → Option Client → ℕ
taker_at connect_id None = 0
taker_at connect_id (Some c) = or_none (nth (or_none (option_map (λ a. a.number) (first_where (is_open_at connect_id) c.core.apps))) c.apps)

-- what a client knows of an app that it has
abbrev pub state_at : ℕ → Option Client → Option AppState
state_at number None = None
state_at number (Some c) = option_map (λ a. a.state) (first_where (is_app number) c.core.apps)

abbrev pub unwritten_at : ℕ → Option Client → ℕ
unwritten_at number None = 0
unwritten_at number (Some c) = or_none (option_map (λ a. a.unwritten) (first_where (is_app number) c.core.apps))

abbrev pub state_of : Home → List Client → Option AppState
state_of (home.Client client number) clients = state_at number (nth client clients)
state_of home.Connect clients = None

-- the client's core takes an event
abbrev pub stepped : ClientEvent → Client → Client
stepped event c = record c { core = (edge.step c.core event).state }

abbrev pub told : ClientEvent → Option Client → List ClientOut
told event None = []
told event (Some c) = (edge.step c.core event).outs
