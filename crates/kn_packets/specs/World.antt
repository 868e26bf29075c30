-- The packet world: the three ends, and between them lists of packets that were queued and not yet handled. What an end holds is the state of its
-- own definition. What is noted besides is noted by numbers: of links, streams, dials and apps. A stream's number is that of its front at the server,
-- once that has come up.
use Rattle.std.specs.Prelude.{ℕ, ◌==◌, Bool, true, false, not, List, Option, None, Some, is_some, pos, if◌then◌else◌}
use Rattle.kn_packet.specs.declared.packet.Packet.{Packet}
use Rattle.kn_tables.specs.Lists.{first_where}
use Rattle.kn_tables.specs.Awaiting.{is_dial}
use Rattle.kn_tables.specs.Holding.{is_held_dial}
use Rattle.kn_tables.specs.declared.awaited_entry.AwaitedEntry.{AwaitedEntry}
use Rattle.kn_tables.specs.declared.held_entry.HeldEntry.{HeldEntry}
use Rattle.kn_tables.specs.declared.held_entry.HeldState.{HeldState}
use Rattle.kn_tables.specs.declared.held_entry.HeldState.TheVariants as held
use Rattle.kn_server_core.specs.declared.state.State.{State}
use Rattle.kn_edge_core.specs.AgentTables.{connection_at}
use Rattle.kn_edge_core.specs.ClientTables.{is_app}
use Rattle.kn_edge_core.specs.declared.agent_state.AgentState.{AgentState}
use Rattle.kn_edge_core.specs.declared.app.App.{App}
use Rattle.kn_edge_core.specs.declared.app.AppState.{AppState}
use Rattle.kn_edge_core.specs.declared.app.AppState.TheVariants as app
use Rattle.kn_edge_core.specs.declared.client_state.ClientState.{ClientState}
use Rattle.kn_edge_core.specs.declared.connection.Connection.{Connection}
use Rattle.kn_edge_core.specs.declared.connection.DestState.{DestState}
use Rattle.kn_edge_core.specs.declared.connection.DestState.TheVariants as dest
use Rattle.kn_edge_core.specs.declared.dial.Dial.{Dial}
use Rattle.kn_tunnel.specs.Kinds.{is_gone}
use Rattle.kn_tunnel.specs.Steps.{no_bytes, no_down, no_up}
use Rattle.kn_tunnel.specs.Tunnel.{Asked, Awaited, Carrying, Closing, Dialled, Dialling, Draining, Ending, Entry, Far, Front, Frontless, Joined, Left, Lingering, NoEntry, Opened, Phase, Side, Tunnel, Undrawn}
use Rattle.kn_words.specs.Down.{down_word, has_request}
use Rattle.kn_words.specs.In.{stream_in_word}
use Rattle.kn_words.specs.Numbers.{is_number}
use Rattle.kn_words.specs.Out.{stream_out_word}
use Rattle.kn_words.specs.Up.{up_word}

-- the stream of an agent
pub record WorldLink : Type 0 where
  pub server : Front  -- as the server has it
  pub up : List Packet  -- from the agent
  pub down : List Packet  -- to the agent

-- the stream of a client, or a CONNECT connection
pub record WorldStream : Type 0 where
  pub begun : Bool
  pub connect : Bool  -- a CONNECT connection
  pub owner : ℕ  -- the client whose stream it is
  pub app : ℕ  -- the app of a CONNECT connection
  pub front : Front  -- as the server has it
  pub client : Bool  -- the client, or the CONNECT app, still has it
  pub finished : Bool  -- a CONNECT connection to which the server sent a refusal or a close
  pub up : List Packet  -- to the server
  pub down : List Packet  -- from the server

-- a dial that the server drew, with the bytes of its destination
pub record WorldDial : Type 0 where
  pub link : ℕ
  pub cid : Option ℕ  -- the connectID that the agent drew for it
  pub side : Side

pub record WorldApp : Type 0 where
  pub came : Bool
  pub stream : ℕ
  pub number : ℕ  -- by which its client knows it; 0 for a CONNECT app
  pub phase : Phase  -- what it has come to, of a CONNECT app and of one that is on no client's list
  pub side : Side
  pub dial : Option ℕ  -- that the server drew for it

pub record World : Type 0 where
  pub server : State
  pub agents : ℕ → AgentState  -- by link
  pub clients : ℕ → ClientState
  pub links : ℕ → WorldLink
  pub streams : ℕ → WorldStream
  pub dials : ℕ → WorldDial
  pub apps : ℕ → WorldApp

-- one value of a map is another
abbrev pub put_at : {A : Type 0} → (ℕ → A) → ℕ → A → ℕ → A
put_at f n new i = if i == n then new else f i

-- ---- what the ends hold of a tunnel
-- the server: an entry that lost its front is closing
abbrev pub held_entry : HeldState → Option ℕ → Entry
held_entry state None = Frontless
held_entry held.Open (Some front) = Carrying
held_entry held.Closing (Some front) = Closing

abbrev pub entry_of : Option AwaitedEntry → Option HeldEntry → Entry
entry_of awaited (Some e) = held_entry e.state e.front
entry_of (Some e) None = Awaited
entry_of None None = NoEntry

abbrev pub entry_at : State → ℕ → Entry
entry_at s d = entry_of (first_where (is_dial d) s.awaited) (first_where (is_held_dial d) s.held)

-- the agent: a dial that it makes or that is asked for, or a connection, or nothing
abbrev pub has_random : ℕ → Dial → Bool
has_random d x = is_number d x.random

abbrev pub dest_far : DestState → Far
dest_far dest.Open = Joined
dest_far dest.Lingering = Lingering

abbrev pub connection_far : Option Connection → Far
connection_far None = Left
connection_far (Some c) = dest_far c.state

abbrev pub dial_far : Option Dial → Bool → Far
dial_far (Some x) asked = Dialled
dial_far None true = Asked
dial_far None false = Left

abbrev pub far_of : ℕ → Option ℕ → AgentState → List Packet → Far
far_of d (Some c) agent down = connection_far (connection_at (pos c) agent.connections)
far_of d None agent down = dial_far (first_where (has_random d) agent.dials) (has_request d down)

-- the client: an app on its list, else what is noted
abbrev pub app_phase : AppState → Phase
app_phase app.Dialling = Dialling
app_phase app.Open = Opened
app_phase app.Closing = Ending
app_phase app.Lingering = Draining

abbrev pub listed_phase : Option App → Phase → Phase
listed_phase (Some a) noted = app_phase a.state
listed_phase None noted = noted

abbrev pub phase_of : Bool → Option App → Phase → Phase
phase_of true listed noted = noted
phase_of false listed noted = listed_phase listed noted

-- ---- the tunnel of an app
abbrev pub undrawn_tunnel : Bool → ℕ → Phase → Side → WorldStream → Tunnel
undrawn_tunnel connect number phase side s = record {
  connect = connect;
  front = s.front;
  client = s.client;
  finished = s.finished;
  phase = phase;
  app = side;
  inward = stream_in_word connect number None s.up;
  outward = stream_out_word connect number None s.down;
  entry = NoEntry;
  server = false;
  agent = false;
  far = Undrawn;
  cid = false;
  up = no_up;
  down = no_down;
  dest = no_bytes;
}

abbrev pub drawn_tunnel : Bool → ℕ → Phase → Side → WorldStream → ℕ → Entry → Option ℕ → Side → AgentState → WorldLink → Tunnel
drawn_tunnel connect number phase side s d entry cid dest agent l = record {
  connect = connect;
  front = s.front;
  client = s.client;
  finished = s.finished;
  phase = phase;
  app = side;
  inward = stream_in_word connect number (Some d) s.up;
  outward = stream_out_word connect number (Some d) s.down;
  entry = entry;
  server = not (is_gone l.server);
  agent = not agent.lost;
  far = far_of d cid agent l.down;
  cid = is_some cid;
  up = up_word d cid l.up;
  down = down_word cid l.down;
  dest = dest;
}

abbrev pub phase_in : World → WorldApp → Phase
phase_in w a = phase_of (w.streams a.stream).connect (first_where (is_app a.number) (w.clients (w.streams a.stream).owner).apps) a.phase

abbrev pub tunnel_of : World → WorldApp → Option ℕ → Tunnel
tunnel_of w a None = undrawn_tunnel (w.streams a.stream).connect a.number (phase_in w a) a.side (w.streams a.stream)
tunnel_of w a (Some d) = drawn_tunnel (w.streams a.stream).connect a.number (phase_in w a) a.side (w.streams a.stream) d (entry_at w.server d) (w.dials d).cid (w.dials d).side (w.agents (w.dials d).link) (w.links (w.dials d).link)

abbrev pub tunnel : World → ℕ → Tunnel
tunnel w k = tunnel_of w (w.apps k) (w.apps k).dial
