-- What a running world is in the packet world. What an end holds is the same there; lists of the running world, whose members are numbered from 1,
-- are functions from numbers.
use Rattle.std.specs.Prelude.{ℕ, ℤ, zero, suc, pos, negsuc, nat_lt, ◌==◌, ◌||◌, ◌&&◌, ◌++◌, Bool, true, false, not, List, [], map, Option, None, Some, if◌then◌else◌}
use Rattle.kn_packet.specs.declared.packet.Packet.{Packet}
use Rattle.kn_packet.specs.declared.packet.Packet.TheVariants.{CloseReq, CloseRsp, Data, DialCls, DialReq, DialRsp, Drain, Other}
use Rattle.kn_edge_core.specs.Agent as agent
use Rattle.kn_edge_core.specs.Client as client
use Rattle.kn_edge_core.specs.declared.agent_state.AgentState.{AgentState}
use Rattle.kn_edge_core.specs.declared.client_state.ClientState.{ClientState}
use Rattle.kn_tunnel.specs.Tunnel.{Dialling, Ended, Front, Gone, Opened, Phase, Present, Refused, Side}
use Rattle.kn_packets.specs.Moves.{no_app, no_dial, no_link, no_stream}
use Rattle.kn_packets.specs.World.{World, WorldApp, WorldDial, WorldLink, WorldStream}
use Rattle.kn_world.specs.declared.parts.Agent.{Agent}
use Rattle.kn_world.specs.declared.parts.App.{App}
use Rattle.kn_world.specs.declared.parts.Client.{Client}
use Rattle.kn_world.specs.declared.parts.Dial.{Dial}
use Rattle.kn_world.specs.declared.parts.Home.{Home}
use Rattle.kn_world.specs.declared.parts.Home.TheVariants as home
use Rattle.kn_world.specs.declared.parts.Owner.{Owner}
use Rattle.kn_world.specs.declared.parts.Owner.TheVariants as owner
use Rattle.kn_world.specs.declared.parts.Side.{Side as RunningSide}
use Rattle.kn_world.specs.declared.parts.Stage.{Stage}
use Rattle.kn_world.specs.declared.parts.Stage.TheVariants as stage
use Rattle.kn_world.specs.declared.state.State.{State}
use Rattle.kn_world.specs.Clients.{state_at as app_state_at}
use Rattle.kn_world.specs.Dials.{state_at as dest_state_at}
use Rattle.kn_world.specs.Idle.{is_at_door}
use Rattle.kn_world.specs.Numbers.{nth}

-- ---- links and agents
abbrev pub front_if : Bool → Front
front_if true = Present
front_if false = Gone

abbrev pub link_of : Option Agent → WorldLink
link_of None = no_link
link_of (Some a) = record { server = front_if a.at_server; up = a.up; down = a.down }

abbrev pub agent_of : Option Agent → AgentState
agent_of None = agent.start
agent_of (Some a) = a.core

-- ---- clients and their streams
abbrev pub client_of : Option Client → ClientState
client_of None = client.start
client_of (Some c) = c.core

abbrev pub client_stream : ℕ → Option Client → WorldStream
client_stream number None = no_stream
client_stream number (Some c) = record {
  begun = true;
  connect = false;
  owner = number;
  app = 0;
  front = front_if c.at_server;
  client = c.at_client;
  finished = false;
  up = c.up;
  down = c.down;
}

-- ---- CONNECT connections. Bytes on their way have no number there; the app takes what comes at once, and its end is gone once it was refused,
-- or the tunnel has ended
abbrev pub unnumbered : Packet → Packet
unnumbered (Data connect_id error bytes) = Data (pos 0) error bytes
unnumbered (DialReq protocol address random) = DialReq protocol address random
unnumbered (DialRsp error connect_id random) = DialRsp error connect_id random
unnumbered (CloseReq connect_id) = CloseReq connect_id
unnumbered (CloseRsp error connect_id) = CloseRsp error connect_id
unnumbered (DialCls random) = DialCls random
unnumbered Drain = Drain
unnumbered (Other number) = Other number

abbrev pub is_refused : Stage → Bool
is_refused stage.Refused = true
is_refused stage.Dialling = false
is_refused stage.Open = false
is_refused stage.Ended = false

abbrev pub connect_stream : ℕ → Option App → WorldStream
connect_stream number None = no_stream
connect_stream number (Some a) = record {
  begun = true;
  connect = true;
  owner = 0;
  app = number;
  front = front_if a.door.at_server;
  client = is_at_door a.stage && not a.door.closing;
  finished = a.door.closing || is_refused a.stage;
  up = map unnumbered a.door.early;
  down = [];
}

abbrev pub stream_of : List Client → List App → Option Owner → WorldStream
stream_of clients apps None = no_stream
stream_of clients apps (Some (owner.Client c)) = client_stream c (nth c clients)
stream_of clients apps (Some (owner.App app)) = connect_stream app (nth app apps)

-- ---- dials and their destinations. One that has left has no bytes that are still to be written
abbrev pub if_there : {X : Type 0} → Option X → List ℕ → List ℕ
if_there None bytes = []
if_there (Some x) bytes = bytes

abbrev pub side_of : {X : Type 0} → Option X → RunningSide → Side
side_of there s = record { handed = s.sending.passed; kept = s.sending.waiting; unwritten = if_there there s.coming.waiting; got = s.coming.passed }

abbrev pub number_if : ℕ → Option ℕ
number_if zero = None
number_if (suc n) = Some (suc n)

abbrev pub cid_if : ℤ → Option ℕ
cid_if (pos number) = number_if number
cid_if (negsuc number) = None

abbrev pub dial_of : List Agent → Option Dial → WorldDial
dial_of agents None = no_dial
dial_of agents (Some d) = record { link = d.link; cid = cid_if d.connect_id; side = side_of (dest_state_at d.connect_id (nth d.link agents)) d.side }

-- ---- apps
-- what is noted of a client's app is what it left as: while its client has it, its client knows more
abbrev pub noted_phase : Stage → Phase
noted_phase stage.Dialling = Dialling
noted_phase stage.Open = Dialling
noted_phase stage.Refused = Refused
noted_phase stage.Ended = Ended

abbrev pub connect_phase : Bool → Stage → Phase
connect_phase closing stage.Refused = Refused
connect_phase closing stage.Ended = Ended
connect_phase closing stage.Dialling = if closing then Ended else Dialling
connect_phase closing stage.Open = if closing then Ended else Opened

-- what came for an app by CONNECT it has got, also what the running world has still to give to it
abbrev pub connect_side : RunningSide → Side
connect_side s = record { handed = s.sending.passed; kept = s.sending.waiting; unwritten = []; got = s.coming.passed ++ s.coming.waiting }

abbrev pub client_app : ℕ → Option Client → App → WorldApp
client_app number None a = no_app
client_app number (Some c) a = record {
  came = true;
  stream = c.front;
  number = number;
  phase = noted_phase a.stage;
  side = side_of (app_state_at number (Some c)) a.side;
  dial = number_if a.dial;
}

-- an app that its client never heard of was refused at once, since the client had lost its server: it is none of the packet world
abbrev pub is_told : ℕ → Option Client → Bool
is_told number None = false
is_told number (Some c) = not (nat_lt c.core.top_app number)

-- nor is one by CONNECT whose head is not whole
abbrev pub connect_app : App → WorldApp
connect_app a = record {
  came = true;
  stream = a.door.number;
  number = 0;
  phase = connect_phase a.door.closing a.stage;
  side = connect_side a.side;
  dial = number_if a.dial;
}

abbrev pub app_at_home : List Client → Home → App → WorldApp
app_at_home clients (home.Client c number) a = if is_told number (nth c clients) then client_app number (nth c clients) a else no_app
app_at_home clients home.Connect a = if a.door.number == 0 then no_app else connect_app a

abbrev pub app_of : List Client → Option App → WorldApp
app_of clients None = no_app
app_of clients (Some a) = app_at_home clients a.home a

-- ---- all of it
abbrev pub shown : State → World
shown s = record {
  server = s.server;
  agents = λ l. agent_of (nth l s.agents);
  clients = λ c. client_of (nth c s.clients);
  links = λ l. link_of (nth l s.agents);
  streams = λ f. stream_of s.clients s.apps (nth f s.fronts);
  dials = λ d. dial_of s.agents (nth d s.dials);
  apps = λ k. app_of s.clients (nth k s.apps);
}
