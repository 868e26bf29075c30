-- The client node: pauses, and what an event of its core comes to.
use Rattle.std.specs.Prelude.{ℕ, ℤ, pos, negsuc, ◌+◌, ◌==◌, nat_lt, Bool, true, false, not, ◌&&◌, ◌||◌, List, [], ◌∷◌, ◌++◌, length, min, Option, Some, None, is_none, if◌then◌else◌}
use Rattle.std.specs.Option.{option_map}
use Rattle.kn_packet.specs.declared.packet.Packet.{Packet}
use Rattle.kn_packet.specs.declared.packet.Packet.TheVariants.{DialReq, DialRsp, CloseReq, CloseRsp, Data, DialCls, Drain, Other}
use Rattle.kn_grpc.specs.Packets.{framed}
use Rattle.kn_h2_state.specs.Calls.{queue_of}
use Rattle.kn_tables.specs.Lists.{first_where}
use Rattle.kn_edge_core.specs.declared.app.App.{App}
use Rattle.kn_edge_core.specs.declared.app.AppState.{AppState}
use Rattle.kn_edge_core.specs.declared.app.AppState.TheVariants.{Dialling, Open, Closing, Lingering}
use Rattle.kn_edge_core.specs.declared.client_state.ClientState.{ClientState}
use Rattle.kn_edge_core.specs.declared.client_event.ClientEvent.{ClientEvent}
use Rattle.kn_edge_core.specs.declared.client_event.ClientEvent.TheVariants as client_event
use Rattle.kn_edge_core.specs.declared.client_event.ClientOut.{ClientOut}
use Rattle.kn_edge_core.specs.declared.client_event.ClientOut.TheVariants.{ToServer, ToApp, EndApp}
use Rattle.kn_edge_core.specs.ClientTables.{is_app, is_open_at}
use Rattle.kn_edge_core.specs.Client as client
use Rattle.kn_ends.specs.declared.carrier.Carrier.{Carrier}
use Rattle.kn_ends.specs.Carriers.{is_live, queue_bytes, deafened, reset_stream}
use Rattle.kn_ends.specs.Queues.{is_empty}
use Rattle.kn_rising.specs.Members.{Members, at, with, without, change}
use Rattle.kn_client_node.specs.declared.side.Side.{Side}
use Rattle.kn_client_node.specs.declared.tunnel.Tunnel.{Tunnel}
use Rattle.kn_client_node.specs.declared.ending.Ending.{Ending}
use Rattle.kn_client_node.specs.declared.node.Node.{Node}
use Rattle.kn_client_node.specs.Texts as text

-- what is to be written on a connection, or whether it is to be closed, may be other than it was
abbrev pub stir : ℕ → Node → Node
stir conn node = record node { stirred = node.stirred ++ conn ∷ [] }

abbrev pub stirred_for : Option Tunnel → List ℕ → List ℕ
stirred_for None numbers = numbers
stirred_for (Some t) numbers = numbers ++ t.conn ∷ []

-- ---- pauses

-- how many bytes wait on the stream to the server
abbrev pub waiting : Carrier → Option ℕ → ℕ
waiting c None = 0
waiting c (Some s) = length (queue_of c.conn.state s)

abbrev pub queue_len : Node → ℕ
queue_len node = waiting node.carrier node.stream

-- from this size of that queue on no packet is handled, and packets wait behind it
abbrev pub is_full : ℕ → Bool
is_full n = nat_lt 5242880 n

-- from this size on bytes wait
abbrev pub is_long : ℕ → Bool
is_long n = nat_lt 65536 n

abbrev pub app_of_number : ClientState → ℕ → Option App
app_of_number s n = first_where (is_app n) s.apps

-- the app that data of a connectID is for
abbrev pub of_taker : ClientState → Option App → Option App
of_taker s None = None
of_taker s (Some a) = app_of_number s a.number

abbrev pub is_long_for : Option App → Bool
is_long_for None = false
is_long_for (Some a) = is_long a.unwritten

abbrev pub is_long_at : ClientState → ℤ → Bool
is_long_at s id = is_long_for (of_taker s (first_where (is_open_at id) s.apps))

-- data waits while much is still to be written to the app that it is for
abbrev pub data_waits : ClientState → Packet → Bool
data_waits s (Data id error bytes) = is_long_at s id
data_waits s (DialReq protocol address random) = false
data_waits s (DialRsp error id random) = false
data_waits s (CloseReq id) = false
data_waits s (CloseRsp error id) = false
data_waits s (DialCls random) = false
data_waits s Drain = false
data_waits s (Other number) = false

abbrev pub waits : Node → Packet → Bool
waits node p = is_full (queue_len node) || data_waits node.core p

-- ---- what the core gives out

abbrev pub count_up : ℕ → ℕ
count_up n = min (n + 1) 18446744073709551615

-- a packet waits behind others, or behind a full queue
abbrev pub waits_behind : Node → Bool
waits_behind node = not (is_empty node.behind) || is_full (queue_len node)

abbrev pub sent_on : Option ℕ → List ℕ → Carrier → Carrier
sent_on None bytes c = c
sent_on (Some s) bytes c = queue_bytes s bytes c

abbrev pub bytes_to_server : List ℕ → Node → Node
bytes_to_server bytes node =
    if waits_behind node then record node { behind = node.behind ++ bytes ∷ [] }
    else record node { carrier = sent_on node.stream bytes node.carrier }

-- a packet goes to the server
abbrev pub to_server : Packet → Node → Node
to_server p node = bytes_to_server (framed p) node

abbrev pub with_bytes : List ℕ → Side → Side
with_bytes bytes side = record side { out = side.out ++ bytes }

abbrev pub written_to : Option Tunnel → List ℕ → Members Side → Members Side
written_to None bytes sides = sides
written_to (Some t) bytes sides = change sides t.conn (with_bytes bytes)

-- bytes are to be written to an app
abbrev pub to_app : ℕ → List ℕ → Node → Node
to_app app bytes node = record node { sides = written_to (at node.by_app app) bytes node.sides; stirred = stirred_for (at node.by_app app) node.stirred }

-- the connection belongs to no app any more; what is to be written to it stays
abbrev pub without_app : Side → Side
without_app side = record side { app = None }

-- it is forgotten where nothing is to be written to it
abbrev pub released : Members Side → ℕ → Option Side → Members Side
released sides conn None = sides
released sides conn (Some side) = if length side.out == 0 then without sides conn else with sides conn (without_app side)

abbrev pub ending : ℕ → Bool → List ℕ → Ending
ending conn early error = record { conn = conn; early = early; error = error }

abbrev pub left : ℕ → ℕ → Bool → List ℕ → Node → Node
left app conn early error node = record node {
  sides = released node.sides conn (at node.sides conn);
  by_app = without node.by_app app;
  ended = node.ended ++ ending conn early error ∷ [];
  gone = count_up node.gone;
  stirred = node.stirred ++ conn ∷ [];
}

-- an app left, and is told an error or the empty text
abbrev pub end_app : ℕ → List ℕ → Option Tunnel → Node → Node
end_app app error None node = record node { gone = count_up node.gone }
end_app app error (Some t) node = left app t.conn (not t.up) error node

unfoldable pub output : Node → ClientOut → Node
output node (ToServer p) = to_server p node
output node (ToApp app bytes) = to_app app bytes node
output node (EndApp app error) = end_app app error (at node.by_app app) node

abbrev pub outputs : Node → List ClientOut → Node
outputs node [] = node
outputs node (o ∷ os) = outputs (output node o) os

-- one event of the core, and its outputs in their order
unfoldable pub event : ClientEvent → Node → Node
event e node = outputs (record node { core = (client.step node.core e).state }) (client.step node.core e).outs

-- ---- packets of the server

abbrev pub is_dialling : AppState → Bool
is_dialling Dialling = true
is_dialling Open = false
is_dialling Closing = false
is_dialling Lingering = false

abbrev pub if_dialling : ℕ → Option AppState → Option ℕ
if_dialling n None = None
if_dialling n (Some state) = if is_dialling state then Some n else None

-- the app that waits for a reply with this random
abbrev pub asker : ClientState → ℤ → Option ℕ
asker s (pos n) = if_dialling n (option_map (λ a. a.state) (app_of_number s n))
asker s (negsuc n) = None

abbrev pub without_error : List ℕ → Option ℕ → Option ℕ
without_error [] app = app
without_error (x ∷ xs) app = None

-- the app whose tunnel a packet opens
abbrev pub opened_by : ClientState → Packet → Option ℕ
opened_by s (DialRsp error id random) = without_error error (asker s random)
opened_by s (DialReq protocol address random) = None
opened_by s (CloseReq id) = None
opened_by s (CloseRsp error id) = None
opened_by s (Data id error bytes) = None
opened_by s (DialCls random) = None
opened_by s Drain = None
opened_by s (Other number) = None

abbrev pub with_up : Tunnel → Tunnel
with_up t = record t { up = true }

abbrev pub up_at : Option ℕ → Members Tunnel → Members Tunnel
up_at None m = m
up_at (Some app) m = change m app with_up

unfoldable pub packet_event : Packet → Node → Node
packet_event p node = event (client_event.Packet p) (record node { by_app = up_at (opened_by node.core p) node.by_app })

-- ---- the stream to the server is over

abbrev pub end_text : Bool → List ℕ
end_text true = text.stream_ended
end_text false = text.server_lost

-- nothing more of the stream is handled, what waits for it is dropped, and so is what came of it
abbrev pub without_stream : ℕ → Node → Node
without_stream s node = record node { stream = None; behind = []; carrier = deafened s node.carrier }

-- each app is told why, and where this end's half is still open, the peer is told that nothing more comes
unfoldable pub stream_over : ℕ → Node → Node
stream_over s node =
    let after = event (client_event.StreamEnded (end_text (is_live node.carrier))) (without_stream s node) in
    record after { carrier = reset_stream s 8 after.carrier }

-- the same, where a stream stands
abbrev pub any_stream_over : Option ℕ → Node → Node
any_stream_over None node = node
any_stream_over (Some s) node = stream_over s node
