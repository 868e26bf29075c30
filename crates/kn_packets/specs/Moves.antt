-- The moves of the packet world. A step of an end is that of its own definition; what it gives out goes behind the lists that it names.
use Rattle.std.specs.Prelude.{◌≡◌, ◌<◌, ◌≤◌, ◌==◌, ◌&&◌, ◌||◌, ◌++◌, ℕ, ℤ, pos, Bool, true, false, not, List, [], ◌∷◌, Option, None, Some, is_some, length, take, drop, codes, if◌then◌else◌}
use Rattle.kn_packet.specs.declared.packet.Packet.{Packet}
use Rattle.kn_packet.specs.declared.packet.Packet.TheVariants.{CloseReq, CloseRsp, Data, DialCls, DialReq, DialRsp, Drain, Other}
use Rattle.kn_route.specs.declared.id_kind.IdKind.{IdKind}
use Rattle.kn_route.specs.declared.strategy.Strategy.{Strategy}
use Rattle.kn_tables.specs.Lists.{first_where}
use Rattle.kn_server_core.specs.declared.event.ServerEvent.{ServerEvent}
use Rattle.kn_server_core.specs.declared.event.ServerEvent.TheVariants.{FrontLost, FrontPacket, FrontUp, LinkLost, LinkPacket, LinkUp}
use Rattle.kn_server_core.specs.declared.event.ServerOut.{ServerOut}
use Rattle.kn_server_core.specs.declared.event.ServerOut.TheVariants.{CutLink, Made, ToFront, ToLink}
use Rattle.kn_server_core.specs.Server as server
use Rattle.kn_server_core.specs.Steps.{Step}
use Rattle.kn_edge_core.specs.Agent as agent
use Rattle.kn_edge_core.specs.Client as client
use Rattle.kn_edge_core.specs.AgentTables.{connection_at}
use Rattle.kn_edge_core.specs.ClientTables.{is_app}
use Rattle.kn_edge_core.specs.Steps.{AgentStep, ClientStep}
use Rattle.kn_edge_core.specs.declared.agent_event.AgentEvent.{AgentEvent}
use Rattle.kn_edge_core.specs.declared.agent_event.AgentEvent.TheVariants as at_agent
use Rattle.kn_edge_core.specs.declared.app.App.{App}
use Rattle.kn_edge_core.specs.declared.app.AppState.{AppState}
use Rattle.kn_edge_core.specs.declared.app.AppState.TheVariants as app
use Rattle.kn_edge_core.specs.declared.client_event.ClientEvent.{ClientEvent}
use Rattle.kn_edge_core.specs.declared.client_event.ClientEvent.TheVariants as at_client
use Rattle.kn_tunnel.specs.Kinds.{is_awaited, is_coming, is_dialling, is_gone, is_here, is_listed, is_opened, is_present, left_phase}
use Rattle.kn_tunnel.specs.Steps.{no_bytes}
use Rattle.kn_tunnel.specs.Tunnel.{Coming, Dialling, Ended, Entry, Far, Front, Gone, NoEntry, Phase, Present, Refused, Side}
use Rattle.kn_packets.specs.Outputs.{all_answered, all_finish, asks, cid_drawn, dial_made, for_app, for_dest, for_front, for_link, from_agent, from_client, is_cut, queued}
use Rattle.kn_packets.specs.World.{World, WorldApp, WorldDial, WorldLink, WorldStream, entry_at, far_of, phase_in, put_at}

-- ---- a step of the server
-- a dial that was made has its link, and nothing yet of an agent
abbrev pub new_dial : ℕ → List ServerOut → WorldDial → WorldDial
new_dial d [] old = old
new_dial d (Made dial link front ∷ outs) old = new_dial d outs (if d == dial then record { link = link; cid = None; side = no_bytes } else old)
new_dial d (ToLink link p ∷ outs) old = new_dial d outs old
new_dial d (ToFront front p ∷ outs) old = new_dial d outs old
new_dial d (CutLink link ∷ outs) old = new_dial d outs old

-- a dial is asked for by a random
abbrev pub asked_by : ServerEvent → ℤ
asked_by (FrontPacket front (DialReq protocol address random)) = random
asked_by (FrontPacket front p) = pos 0
asked_by (LinkUp link identifiers) = pos 0
asked_by (LinkPacket link p) = pos 0
asked_by (LinkLost link) = pos 0
asked_by (FrontUp front) = pos 0
asked_by (FrontLost front) = pos 0

abbrev pub served : ℤ → Step → World → World
served random s w = record w {
  server = s.state;
  links = λ l. record (w.links l) {
    server = (if is_cut l s.outs then Gone else (w.links l).server);
    up = (if is_cut l s.outs then [] else (w.links l).up);
    down = queued (not (w.agents l).lost) (w.links l).down (for_link l s.outs);
  };
  streams = λ f. record (w.streams f) {
    down = queued (w.streams f).client (w.streams f).down (for_front f s.outs);
    finished = all_finish (w.streams f).connect (for_front f s.outs) (w.streams f).finished;
  };
  dials = λ d. new_dial d s.outs (w.dials d);
  apps = λ k. record (w.apps k) {
    dial = dial_made (w.apps k).stream (asks (w.streams (w.apps k).stream).connect (w.apps k).number random) s.outs (w.apps k).dial;
    phase = all_answered (w.streams (w.apps k).stream).connect (for_front (w.apps k).stream s.outs) (w.apps k).phase;
  };
}

abbrev pub server_does : ServerEvent → World → World
server_does event w = served (asked_by event) (server.step w.server event) w

-- a link, or a front, as the server has it from now on
abbrev pub link_is : ℕ → Front → World → World
link_is l front w = record w { links = λ i. record (w.links i) { server = (if i == l then front else (w.links i).server) } }

abbrev pub front_is : ℕ → Front → World → World
front_is f front w = record w { streams = λ i. record (w.streams i) { front = (if i == f then front else (w.streams i).front) } }

-- what is in a list from now on
abbrev pub up_is : ℕ → List Packet → World → World
up_is l ps w = record w { links = λ i. record (w.links i) { up = (if i == l then ps else (w.links i).up) } }

abbrev pub down_is : ℕ → List Packet → World → World
down_is l ps w = record w { links = λ i. record (w.links i) { down = (if i == l then ps else (w.links i).down) } }

abbrev pub in_is : ℕ → List Packet → World → World
in_is f ps w = record w { streams = λ i. record (w.streams i) { up = (if i == f then ps else (w.streams i).up) } }

abbrev pub out_is : ℕ → List Packet → World → World
out_is f ps w = record w { streams = λ i. record (w.streams i) { down = (if i == f then ps else (w.streams i).down) } }

-- bytes of a CONNECT connection have no connectID on their way: at the server they are of the dial of its app
abbrev pub dial_number : Option ℕ → ℤ
dial_number None = pos 0
dial_number (Some d) = pos d

abbrev pub of_connection : Option ℕ → Packet → Packet
of_connection dial (Data connect_id error bytes) = Data (dial_number dial) error bytes
of_connection dial (DialReq protocol address random) = DialReq protocol address random
of_connection dial (DialRsp error connect_id random) = DialRsp error connect_id random
of_connection dial (CloseReq connect_id) = CloseReq connect_id
of_connection dial (CloseRsp error connect_id) = CloseRsp error connect_id
of_connection dial (DialCls random) = DialCls random
of_connection dial Drain = Drain
of_connection dial (Other number) = Other number

abbrev pub as_taken : Bool → Option ℕ → Packet → Packet
as_taken true dial p = of_connection dial p
as_taken false dial p = p

-- the dial of a CONNECT connection
abbrev pub connection_dial : World → ℕ → Option ℕ
connection_dial w f = (w.apps (w.streams f).app).dial

abbrev pub takes_up : ℕ → List Packet → World → World
takes_up l [] w = w
takes_up l (p ∷ rest) w = server_does (LinkPacket l p) (up_is l rest w)

abbrev pub takes_in : ℕ → List Packet → World → World
takes_in f [] w = w
takes_in f (p ∷ rest) w = server_does (FrontPacket f (as_taken (w.streams f).connect (connection_dial w f) p)) (in_is f rest w)

-- bytes of a CONNECT connection whose dial is awaited wait
abbrev pub are_bytes : Packet → Bool
are_bytes (Data connect_id error bytes) = true
are_bytes (DialReq protocol address random) = false
are_bytes (DialRsp error connect_id random) = false
are_bytes (CloseReq connect_id) = false
are_bytes (CloseRsp error connect_id) = false
are_bytes (DialCls random) = false
are_bytes Drain = false
are_bytes (Other number) = false

abbrev pub begins_with_bytes : List Packet → Bool
begins_with_bytes [] = false
begins_with_bytes (p ∷ ps) = are_bytes p

abbrev pub dial_entry : World → Option ℕ → Entry
dial_entry w None = NoEntry
dial_entry w (Some d) = entry_at w.server d

abbrev pub is_early : World → ℕ → Bool
is_early w f = (w.streams f).connect && is_awaited (dial_entry w (connection_dial w f)) && begins_with_bytes (w.streams f).up

-- ---- a step of an agent, of whose destinations those that leave its list have no bytes that are still to be written
abbrev pub dest_after : Bool → Option ℕ → AgentStep → Side → Side
dest_after false cid s side = side
dest_after true None s side = side
dest_after true (Some c) s side = record side { unwritten = (if is_some (connection_at (pos c) s.state.connections) then for_dest (Some c) s.outs side.unwritten else []) }

abbrev pub agent_stepped : ℕ → AgentStep → World → World
agent_stepped l s w = record w {
  agents = put_at w.agents l s.state;
  links = λ i. record (w.links i) { up = (if i == l then queued (not (is_gone (w.links i).server)) (w.links i).up (from_agent s.outs) else (w.links i).up) };
  dials = λ d. record (w.dials d) {
    cid = (if (w.dials d).link == l then cid_drawn d (from_agent s.outs) (w.dials d).cid else (w.dials d).cid);
    side = dest_after ((w.dials d).link == l) (w.dials d).cid s (w.dials d).side;
  };
}

abbrev pub agent_does : ℕ → AgentEvent → World → World
agent_does l event w = agent_stepped l (agent.step (w.agents l) event) w

abbrev pub takes_down : ℕ → List Packet → World → World
takes_down l [] w = w
takes_down l (p ∷ rest) w = agent_does l (at_agent.Packet p) (down_is l rest w)

-- bytes go from those that were kept to those that were handed over, from those that are to be written to those that were got
abbrev pub sends : List ℕ → Side → Side
sends bytes s = record s { kept = s.kept ++ bytes }

abbrev pub hands : ℕ → Side → Side
hands n s = record s { handed = s.handed ++ take n s.kept; kept = drop n s.kept }

abbrev pub gets : ℕ → Side → Side
gets n s = record s { got = s.got ++ take n s.unwritten; unwritten = drop n s.unwritten }

abbrev pub side_if : Bool → (Side → Side) → Side → Side
side_if true change s = change s
side_if false change s = s

abbrev pub dest_is : ℕ → (Side → Side) → World → World
dest_is d change w = record w { dials = λ e. record (w.dials e) { side = side_if (e == d) change (w.dials e).side } }

abbrev pub app_is : ℕ → (Side → Side) → World → World
app_is k change w = record w { apps = λ i. record (w.apps i) { side = side_if (i == k) change (w.apps i).side } }

-- the destination of a dial, by its connectID at its link's agent
abbrev pub cid_number : Option ℕ → ℤ
cid_number None = pos 0
cid_number (Some c) = pos c

abbrev pub dest_does : ℕ → (ℤ → AgentEvent) → World → World
dest_does d event w = agent_does (w.dials d).link (event (cid_number (w.dials d).cid)) w

-- ---- a step of a client, of whose apps those that leave its list have no bytes that are still to be written
-- one that dialled is refused, unless it left itself
abbrev pub leaves_as : Bool → AppState → Phase
leaves_as true app.Dialling = Ended
leaves_as false app.Dialling = Refused
leaves_as itself app.Open = Ended
leaves_as itself app.Closing = Ended
leaves_as itself app.Lingering = Ended

abbrev pub phase_after : Bool → Option App → Option App → Phase → Phase
phase_after itself (Some old) None noted = leaves_as itself old.state
phase_after itself (Some old) (Some new) noted = noted
phase_after itself None new noted = noted

abbrev pub app_side_after : Bool → ℕ → ClientStep → Side → Side
app_side_after false n s side = side
app_side_after true n s side = record side { unwritten = (if is_some (first_where (is_app n) s.state.apps) then for_app n s.outs side.unwritten else []) }

abbrev pub is_of_client : ℕ → WorldStream → Bool
is_of_client c s = not s.connect && (s.owner == c)

abbrev pub client_stepped : ℕ → Bool → ClientStep → World → World
client_stepped c itself s w = record w {
  clients = put_at w.clients c s.state;
  streams = λ f. record (w.streams f) { up = (if is_of_client c (w.streams f) && (w.streams f).client then queued (not (is_gone (w.streams f).front)) (w.streams f).up (from_client s.outs) else (w.streams f).up) };
  apps = λ k. record (w.apps k) {
    phase = (if is_of_client c (w.streams (w.apps k).stream) then phase_after itself (first_where (is_app (w.apps k).number) (w.clients c).apps) (first_where (is_app (w.apps k).number) s.state.apps) (w.apps k).phase else (w.apps k).phase);
    side = app_side_after (is_of_client c (w.streams (w.apps k).stream)) (w.apps k).number s (w.apps k).side;
  };
}

-- an app leaves itself where it ends or fails
abbrev pub by_itself : ClientEvent → Bool
by_itself (at_client.AppEnd app) = true
by_itself (at_client.AppFailed app) = true
by_itself (at_client.AppUp app address) = false
by_itself (at_client.AppBytes app bytes) = false
by_itself (at_client.AppWrote app count) = false
by_itself (at_client.Packet p) = false
by_itself (at_client.StreamEnded error) = false

abbrev pub client_does : ℕ → ClientEvent → World → World
client_does c event w = client_stepped c (by_itself event) (client.step (w.clients c) event) w

abbrev pub takes_out : ℕ → List Packet → World → World
takes_out f [] w = w
takes_out f (p ∷ rest) w = client_does (w.streams f).owner (at_client.Packet p) (out_is f rest w)

-- an app, by its number at its stream's client
abbrev pub app_does : ℕ → (ℕ → ClientEvent) → World → World
app_does k event w = client_does (w.streams (w.apps k).stream).owner (event (w.apps k).number) w

-- a stream begins
abbrev pub new_stream : Bool → ℕ → ℕ → WorldStream
new_stream connect owner app = record { begun = true; connect = connect; owner = owner; app = app; front = Coming; client = true; finished = false; up = []; down = [] }

abbrev pub stream_begins : ℕ → WorldStream → World → World
stream_begins f s w = record w { streams = put_at w.streams f s }

abbrev pub new_app : ℕ → ℕ → WorldApp
new_app stream number = record { came = true; stream = stream; number = number; phase = Dialling; side = no_bytes; dial = None }

abbrev pub app_begins : ℕ → WorldApp → World → World
app_begins k a w = record w { apps = put_at w.apps k a }

-- A client's stream is begun before the server draws the number of its front, in the order in which heads come. So it begins under a number that no
-- front has, and the stream f is g from the moment at which its front may come up.
abbrev pub renamed : ℕ → ℕ → ℕ → ℕ
renamed f g i = if i == f then g else i

abbrev pub no_stream : WorldStream
no_stream = record { begun = false; connect = false; owner = 0; app = 0; front = Coming; client = false; finished = false; up = []; down = [] }

abbrev pub stream_numbered : ℕ → ℕ → World → World
stream_numbered f g w = record w {
  streams = λ i. if i == g then w.streams f else (if i == f then no_stream else w.streams i);
  apps = λ k. record (w.apps k) { stream = renamed f g (w.apps k).stream };
}

-- a client loses its stream
abbrev pub stream_lost : ℕ → List Packet → World → World
stream_lost f left w = record w {
  streams = λ i. record (w.streams i) {
    client = (if i == f then false else (w.streams i).client);
    up = (if i == f then left else (w.streams i).up);
    down = (if i == f then [] else (w.streams i).down);
  };
}

-- ---- a CONNECT app: its end takes the answer, bytes and the close, or leaves
abbrev pub connect_leaves : ℕ → World → World
connect_leaves f w = record w {
  streams = λ i. record (w.streams i) { client = (if i == f then false else (w.streams i).client); down = (if i == f then [] else (w.streams i).down) };
  apps = λ k. record (w.apps k) { phase = (if (w.apps k).stream == f then left_phase (w.apps k).phase else (w.apps k).phase) };
}

abbrev pub connect_gets : ℕ → List ℕ → World → World
connect_gets f bytes w = record w { apps = λ k. record (w.apps k) { side = side_if ((w.apps k).stream == f) (λ s. record s { got = s.got ++ bytes }) (w.apps k).side } }

abbrev pub connect_takes : ℕ → Packet → World → World
connect_takes f (DialRsp [] connect_id random) w = w
connect_takes f (DialRsp (x ∷ xs) connect_id random) w = connect_leaves f w
connect_takes f (Data connect_id error bytes) w = connect_gets f bytes w
connect_takes f (CloseRsp error connect_id) w = connect_leaves f w
connect_takes f (DialReq protocol address random) w = w
connect_takes f (CloseReq connect_id) w = w
connect_takes f (DialCls random) w = w
connect_takes f Drain w = w
connect_takes f (Other number) w = w

abbrev pub takes_connect : ℕ → List Packet → World → World
takes_connect f [] w = w
takes_connect f (p ∷ rest) w = connect_takes f p (out_is f rest w)

-- its head goes first on its connection: the request of its dial
abbrev pub connect_begins : ℕ → ℕ → List ℕ → World → World
connect_begins k f address w = in_is f (DialReq (codes "tcp") address (pos 0) ∷ []) (app_begins k (new_app f 0) (stream_begins f (new_stream true 0 k) w))

-- its bytes go on its connection
abbrev pub connect_hands : ℕ → List ℕ → World → World
connect_hands f bytes w = record w { streams = λ i. record (w.streams i) { up = (if i == f then queued (not (is_gone (w.streams i).front)) (w.streams i).up (Data (pos 0) [] bytes ∷ []) else (w.streams i).up) } }

abbrev pub hands_over : Bool → ℕ → List ℕ → World → World
hands_over true k bytes w = connect_hands (w.apps k).stream bytes w
hands_over false k bytes w = app_does k (λ n. at_client.AppBytes n bytes) w

-- The bytes of a CONNECT connection have no bounds of their own: those of neighbours are those of one packet.
abbrev pub join_first : Packet → List Packet → List Packet
join_first (Data c error bytes) (Data d reason more ∷ ps) = Data c error (bytes ++ more) ∷ ps
join_first p ps = p ∷ ps

unfoldable pub all_joined : List Packet → List Packet
all_joined [] = []
all_joined (p ∷ ps) = join_first p (all_joined ps)

abbrev pub joins_in : ℕ → World → World
joins_in f w = in_is f (all_joined (w.streams f).up) w

-- ---- the moves
pub data Move : Type 0 where
  -- The server.
  -- A link, or a front, comes up.
  LinkComes : (link : ℕ) (identifiers : List (IdKind × List ℕ)) → Move
  FrontComes : (stream : ℕ) → Move
  -- It takes the first packet of a list.
  ServerTakesUp : (link : ℕ) → Move
  ServerTakesIn : (stream : ℕ) → Move
  -- It loses a link or a front, cuts it, or handles its end: what came is dropped, and of what it had queued the front stays.
  ServerLosesLink : (link : ℕ) (left : List Packet) → Move
  ServerLosesFront : (stream : ℕ) (left : List Packet) → Move
  -- An agent.
  AgentTakes : (link : ℕ) → Move
  DialWon : (link ticket : ℕ) → Move
  DialFailed : (link ticket : ℕ) → Move
  AgentDrains : (link : ℕ) → Move
  AgentLosesLink : (link : ℕ) (left : List Packet) → Move
  -- A destination, by its dial.
  DestinationSends : (dial : ℕ) (bytes : List ℕ) → Move
  DestinationHands : (dial count : ℕ) → Move
  DestinationWrote : (dial count : ℕ) → Move
  DestinationEnds : (dial : ℕ) → Move
  DestinationFails : (dial : ℕ) → Move
  -- A client.
  StreamBegins : (stream client : ℕ) → Move
  -- It gets the number that its front will have.
  StreamIsNumbered : (stream number : ℕ) → Move
  ClientTakes : (stream : ℕ) → Move
  ClientLosesStream : (stream : ℕ) (left : List Packet) (error : List ℕ) → Move
  -- An app.
  AppComes : (app stream number : ℕ) (address : List ℕ) → Move
  AppSends : (app : ℕ) (bytes : List ℕ) → Move
  AppHands : (app count : ℕ) → Move
  AppWrote : (app count : ℕ) → Move
  AppEnds : (app : ℕ) → Move
  AppFails : (app : ℕ) → Move
  -- A CONNECT app.
  ConnectComes : (app stream : ℕ) (address : List ℕ) → Move
  ConnectTakes : (stream : ℕ) → Move
  ConnectLeaves : (stream : ℕ) (left : List Packet) → Move
  -- Neighbouring bytes on their way to the server join.
  JoinsIn : (stream : ℕ) → Move
  -- The receiver of a list whose sender ended or lost its side drops what it has not taken.
  DropsUp : (link : ℕ) → Move
  DropsDown : (link : ℕ) → Move
  DropsIn : (stream : ℕ) → Move
  DropsOut : (stream : ℕ) → Move

abbrev pub after : Move → World → World
after (LinkComes l identifiers) w = server_does (LinkUp l identifiers) (link_is l Present w)
after (FrontComes f) w = server_does (FrontUp f) (front_is f Present w)
after (ServerTakesUp l) w = takes_up l (w.links l).up w
after (ServerTakesIn f) w = takes_in f (w.streams f).up w
after (ServerLosesLink l left) w = server_does (LinkLost l) (link_is l Gone (up_is l [] (down_is l left w)))
after (ServerLosesFront f left) w = server_does (FrontLost f) (front_is f Gone (in_is f [] (out_is f left w)))
after (AgentTakes l) w = takes_down l (w.links l).down w
after (DialWon l ticket) w = agent_does l (at_agent.DialUp ticket) w
after (DialFailed l ticket) w = agent_does l (at_agent.DialRefused ticket) w
after (AgentDrains l) w = agent_does l at_agent.DrainNow w
after (AgentLosesLink l left) w = agent_does l at_agent.LinkLost (up_is l left (down_is l [] w))
after (DestinationSends d bytes) w = dest_is d (sends bytes) w
after (DestinationHands d n) w = dest_does d (λ c. at_agent.DestBytes c (take n (w.dials d).side.kept)) (dest_is d (hands n) w)
after (DestinationWrote d n) w = dest_does d (λ c. at_agent.DestWrote c n) (dest_is d (gets n) w)
after (DestinationEnds d) w = dest_does d (λ c. at_agent.DestEnd c) w
after (DestinationFails d) w = dest_does d (λ c. at_agent.DestFailed c) w
after (StreamBegins f c) w = stream_begins f (new_stream false c 0) w
after (StreamIsNumbered f g) w = stream_numbered f g w
after (ClientTakes f) w = takes_out f (w.streams f).down w
after (ClientLosesStream f left error) w = client_does (w.streams f).owner (at_client.StreamEnded error) (stream_lost f left w)
after (AppComes k f n address) w = client_does (w.streams f).owner (at_client.AppUp n address) (app_begins k (new_app f n) w)
after (AppSends k bytes) w = app_is k (sends bytes) w
after (AppHands k n) w = hands_over (w.streams (w.apps k).stream).connect k (take n (w.apps k).side.kept) (app_is k (hands n) w)
after (AppWrote k n) w = app_does k (λ a. at_client.AppWrote a n) (app_is k (gets n) w)
after (AppEnds k) w = app_does k (λ a. at_client.AppEnd a) w
after (AppFails k) w = app_does k (λ a. at_client.AppFailed a) w
after (ConnectComes k f address) w = connect_begins k f address w
after (ConnectTakes f) w = takes_connect f (w.streams f).down w
after (ConnectLeaves f left) w = connect_leaves f (in_is f left w)
after (JoinsIn f) w = joins_in f w
after (DropsUp l) w = up_is l [] w
after (DropsDown l) w = down_is l [] w
after (DropsIn f) w = in_is f [] w
after (DropsOut f) w = out_is f [] w

-- ---- when a move may come
abbrev pub IsFrontOf : List Packet → List Packet → Type 0
IsFrontOf left whole = (rest : List Packet) × (left ++ rest ≡ whole)

-- a client has one stream at a time
abbrev pub HasNoStream : ℕ → World → Type 0
HasNoStream c w = (f : ℕ) → is_of_client c (w.streams f) ≡ true → (w.streams f).client ≡ false

abbrev pub dest_far_in : World → ℕ → Far
dest_far_in w d = far_of d (w.dials d).cid (w.agents (w.dials d).link) (w.links (w.dials d).link).down

abbrev pub May : Move → World → Type 0
May (LinkComes l identifiers) w = is_coming (w.links l).server ≡ true
May (FrontComes f) w = ((w.streams f).begun && is_coming (w.streams f).front) ≡ true
May (ServerTakesUp l) w = is_present (w.links l).server ≡ true
May (ServerTakesIn f) w = (is_present (w.streams f).front && not (is_early w f)) ≡ true
May (ServerLosesLink l left) w = (is_present (w.links l).server ≡ true) × IsFrontOf left (w.links l).down
May (ServerLosesFront f left) w = (((w.streams f).begun && not (is_gone (w.streams f).front)) ≡ true) × IsFrontOf left (w.streams f).down
May (AgentTakes l) w = not (w.agents l).lost ≡ true
May (DialWon l ticket) w = not (w.agents l).lost ≡ true
May (DialFailed l ticket) w = not (w.agents l).lost ≡ true
May (AgentDrains l) w = not (w.agents l).lost ≡ true
May (AgentLosesLink l left) w = (not (w.agents l).lost ≡ true) × IsFrontOf left (w.links l).up
May (DestinationSends d bytes) w = is_some (w.dials d).cid ≡ true
May (DestinationHands d n) w = is_listed (dest_far_in w d) ≡ true
May (DestinationWrote d n) w = (is_listed (dest_far_in w d) ≡ true) × (n ≤ length (w.dials d).side.unwritten)
May (DestinationEnds d) w = is_listed (dest_far_in w d) ≡ true
May (DestinationFails d) w = is_listed (dest_far_in w d) ≡ true
May (StreamBegins f c) w = ((w.streams f).begun ≡ false) × HasNoStream c w
May (StreamIsNumbered f g) w = (is_coming (w.streams f).front && not (w.streams g).begun) ≡ true
May (ClientTakes f) w = ((w.streams f).client && not (w.streams f).connect) ≡ true
May (ClientLosesStream f left error) w = (((w.streams f).client && not (w.streams f).connect) ≡ true) × IsFrontOf left (w.streams f).up
May (AppComes k f n address) w = (((w.streams f).begun && (w.streams f).client && not (w.streams f).connect && not (w.apps k).came) ≡ true)
    × ((w.clients (w.streams f).owner).top_app < n)
May (AppSends k bytes) w = (w.apps k).came ≡ true
May (AppHands k n) w = ((w.apps k).came && (is_opened (phase_in w (w.apps k)) || ((w.streams (w.apps k).stream).connect && is_dialling (phase_in w (w.apps k))))) ≡ true
May (AppWrote k n) w = (((w.apps k).came && not (w.streams (w.apps k).stream).connect && is_here (phase_in w (w.apps k))) ≡ true) × (n ≤ length (w.apps k).side.unwritten)
May (AppEnds k) w = ((w.apps k).came && not (w.streams (w.apps k).stream).connect) ≡ true
May (AppFails k) w = ((w.apps k).came && not (w.streams (w.apps k).stream).connect) ≡ true
May (ConnectComes k f address) w = (not (w.apps k).came && not (w.streams f).begun) ≡ true
May (ConnectTakes f) w = ((w.streams f).client && (w.streams f).connect) ≡ true
May (ConnectLeaves f left) w = (((w.streams f).client && (w.streams f).connect) ≡ true) × IsFrontOf left (w.streams f).up
May (JoinsIn f) w = (w.streams f).connect ≡ true
May (DropsUp l) w = (not (is_gone (w.links l).server) && (w.agents l).lost) ≡ true
May (DropsDown l) w = (is_gone (w.links l).server && not (w.agents l).lost) ≡ true
May (DropsIn f) w = (not (is_gone (w.streams f).front) && not (w.streams f).client) ≡ true
May (DropsOut f) w = ((w.streams f).client && is_gone (w.streams f).front) ≡ true

-- these moves, one after another, lead from one world to another
abbrev pub Makes : World → List Move → World → Type 0
Makes old [] new = old ≡ new
Makes old (m ∷ ms) new = May m old × Makes (after m old) ms new

-- ---- the world at its start: no link, no stream, no app
abbrev pub no_link : WorldLink
no_link = record { server = Coming; up = []; down = [] }

abbrev pub no_dial : WorldDial
no_dial = record { link = 0; cid = None; side = no_bytes }

abbrev pub no_app : WorldApp
no_app = record { came = false; stream = 0; number = 0; phase = Dialling; side = no_bytes; dial = None }

abbrev pub start : List Strategy → World
start strategies = record {
  server = server.start strategies;
  agents = λ l. agent.start;
  clients = λ c. client.start;
  links = λ l. no_link;
  streams = λ f. no_stream;
  dials = λ d. no_dial;
  apps = λ k. no_app;
}
