-- The calls of the agent node.
use Rattle.std.specs.Prelude.{◌≡◌, ℕ, ℤ, pos, ◌==◌, nat_lt, Bool, true, false, not, ◌&&◌, ◌||◌, List, [], ◌∷◌, ◌++◌, drop, Option, Some, None, is_some, if◌then◌else◌}
use Rattle.kn_grpc.specs.declared.call.Service.TheVariants.{Agent}
use Rattle.kn_grpc.specs.CallHeads.{request_fields, agent_fields}
use Rattle.kn_h2_state.specs.declared.role.Role.TheVariants.{Client}
use Rattle.kn_h2_state.specs.Calls.{fresh, next_number}
use Rattle.kn_tables.specs.Lists.{first_where}
use Rattle.kn_edge_core.specs.declared.agent_event.AgentEvent.TheVariants.{DialUp, DialRefused, DestBytes, DestEnd, DestWrote, DestFailed, DrainNow}
use Rattle.kn_edge_core.specs.AgentTables.{is_dial}
use Rattle.kn_edge_core.specs.Agent as agent
use Rattle.kn_rising.specs.Members.{Members, at, change, inserted, without, none}
use Rattle.kn_ends.specs.declared.who.Who.TheVariants.{Server}
use Rattle.kn_ends.specs.declared.carrier.Carrier.{Carrier}
use Rattle.kn_ends.specs.Carriers.{fed_with, took, with_loss, is_gone, with_call}
use Rattle.kn_agent_node.specs.declared.dialling.Dialling.{Dialling}
use Rattle.kn_agent_node.specs.declared.dialling.Dialling.TheVariants.{Listed, HandedOut, Began}
use Rattle.kn_agent_node.specs.declared.purpose.Purpose.{Purpose}
use Rattle.kn_agent_node.specs.declared.purpose.Purpose.TheVariants.{Dials, Carries}
use Rattle.kn_agent_node.specs.declared.request.Request.{Request}
use Rattle.kn_agent_node.specs.declared.side.Side.{Side}
use Rattle.kn_agent_node.specs.declared.node.Node.{Node}
use Rattle.kn_agent_node.specs.Nodes.{on_carrier, stir, event}
use Rattle.kn_agent_node.specs.Steps.{Settles}

-- ---- a new agent: its connection begins, and on it the agent's call

abbrev pub fresh_carrier : Carrier
fresh_carrier = record { conn = fresh Client; lost = false; inlets = [] }

abbrev pub first_stream : ℕ
first_stream = next_number fresh_carrier.conn.state

abbrev pub calling : List ℕ → List ℕ → List ℕ → Carrier
calling authority id identifiers = with_call (request_fields Agent authority ++ agent_fields Agent id identifiers) Server fresh_carrier

abbrev pub new_node : ℕ → Carrier → ℕ → Node
new_node server carrier stream = record {
  core = agent.start;
  carrier = carrier;
  server = server;
  stream = stream;
  top = server;
  behind = [];
  sides = none;
  by_ticket = none;
  by_id = none;
  dials = [];
  losing = false;
  answer = None;
  handled = 0;
  asked = 0;
  gone = 0;
  stirred = [];
}

abbrev pub started : ℕ → List ℕ → List ℕ → List ℕ → Node
started server authority id identifiers = new_node server (calling authority id identifiers) first_stream

-- ---- the server's connection

abbrev pub is_server : Node → ℕ → Bool
is_server node conn = conn == node.server

-- a loss of a connection that is gone changes nothing
abbrev pub has_gone : Node → Bool
has_gone node = is_gone node.carrier

abbrev pub server_lost : Bool → Node → Node
server_lost true node = node
server_lost false node = record (on_carrier with_loss node) { losing = true }

-- ---- a destination's connection: its bytes, what it took, its end, and its failure

-- what a connection is for
abbrev pub purpose_at : Option Side → Option Purpose
purpose_at None = None
purpose_at (Some side) = Some side.purpose

abbrev pub bytes_for : List ℕ → Option Purpose → Node → Node
bytes_for piece None node = node
bytes_for piece (Some (Dials ticket)) node = node
bytes_for piece (Some (Carries id)) node = event (DestBytes id piece) node

abbrev pub bytes_by : Bool → ℕ → List ℕ → Node → Node
bytes_by true conn piece node = on_carrier (fed_with piece) node
bytes_by false conn piece node = bytes_for piece (purpose_at (at node.sides conn)) node

abbrev pub without_first : ℕ → Side → Side
without_first count side = record side { out = drop count side.out }

abbrev pub took_for : ℕ → ℕ → Option Purpose → Node → Node
took_for conn count None node = node
took_for conn count (Some (Dials ticket)) node = node
took_for conn count (Some (Carries id)) node = event (DestWrote id count) (record node { sides = change node.sides conn (without_first count) })

abbrev pub took_by : Bool → ℕ → ℕ → Node → Node
took_by true conn count node = on_carrier (took count) node
took_by false conn count node = took_for conn count (purpose_at (at node.sides conn)) node

-- its dial failed
abbrev pub dial_failed : ℕ → ℕ → Node → Node
dial_failed conn ticket node = event (DialRefused ticket) (record node { sides = without node.sides conn; by_ticket = without node.by_ticket ticket })

abbrev pub ended_for : ℕ → Option Purpose → Node → Node
ended_for conn None node = node
ended_for conn (Some (Dials ticket)) node = dial_failed conn ticket node
ended_for conn (Some (Carries id)) node = event (DestEnd id) node

-- to the server's connection its end is a loss
abbrev pub ended_by : Bool → ℕ → Node → Node
ended_by true conn node = server_lost (has_gone node) node
ended_by false conn node = ended_for conn (purpose_at (at node.sides conn)) node

abbrev pub lost_for : ℕ → Option Purpose → Node → Node
lost_for conn None node = node
lost_for conn (Some (Dials ticket)) node = dial_failed conn ticket node
lost_for conn (Some (Carries id)) node = event (DestFailed id) node

abbrev pub lost_by : Bool → ℕ → Node → Node
lost_by true conn node = server_lost (has_gone node) node
lost_by false conn node = lost_for conn (purpose_at (at node.sides conn)) node

-- ---- dials

abbrev pub new_side : ℕ → Side
new_side ticket = record { purpose = Dials ticket; out = [] }

abbrev pub began_with : ℕ → Dialling → Dialling
began_with conn d = Began conn

-- A dial that was handed out is under way on a connection. Where it was dropped since, the connection is not kept.
abbrev pub begun : Bool → ℕ → ℕ → Node → Node
begun true ticket conn node = record node { sides = inserted node.sides conn (new_side ticket); by_ticket = change node.by_ticket ticket (began_with conn) }
begun false ticket conn node = record node { by_ticket = without node.by_ticket ticket }

abbrev pub is_wanted : Node → ℕ → Bool
is_wanted node ticket = is_some (first_where (is_dial ticket) node.core.dials)

abbrev pub began_at : Option Dialling → ℕ → ℕ → Node → Node
began_at None ticket conn node = node
began_at (Some Listed) ticket conn node = node
began_at (Some HandedOut) ticket conn node = begun (is_wanted node ticket) ticket conn node
began_at (Some (Began other)) ticket conn node = node

-- a dial that was handed out was refused at once
abbrev pub not_begun_at : Option Dialling → ℕ → Node → Node
not_begun_at None ticket node = node
not_begun_at (Some Listed) ticket node = node
not_begun_at (Some HandedOut) ticket node = event (DialRefused ticket) (record node { by_ticket = without node.by_ticket ticket })
not_begun_at (Some (Began other)) ticket node = node

-- a won connection carries the connectID that it draws, where one is left
abbrev pub carrying : ℕ → Side → Side
carrying id side = record side { purpose = Carries (pos id) }

abbrev pub drawn : Bool → ℕ → ℕ → Node → Node
drawn true conn ticket node = record node {
  sides = change node.sides conn (carrying node.core.next_connect_id);
  by_ticket = without node.by_ticket ticket;
  by_id = inserted node.by_id node.core.next_connect_id conn;
}
drawn false conn ticket node = node

abbrev pub has_id_left : Node → Bool
has_id_left node = nat_lt node.core.next_connect_id 9223372036854775807

abbrev pub dial_won : ℕ → ℕ → Node → Node
dial_won conn ticket node = event (DialUp ticket) (drawn (has_id_left node) conn ticket node)

abbrev pub dialled_by : Bool → ℕ → ℕ → Node → Node
dialled_by true conn ticket node = dial_won conn ticket node
dialled_by false conn ticket node = dial_failed conn ticket node

abbrev pub dialled_for : Bool → ℕ → Option Purpose → Node → Node
dialled_for up conn None node = node
dialled_for up conn (Some (Dials ticket)) node = dialled_by up conn ticket node
dialled_for up conn (Some (Carries id)) node = node

-- ---- the agent asks for no further dials
abbrev pub drained : Node → Node
drained node = event DrainNow node

-- ---- calls

pub data Called : Type 0 where
  -- the next bytes of a connection
  Bytes : ℕ → List ℕ → Called
  -- so many bytes of what was to be written on a connection were
  Took : ℕ → ℕ → Called
  -- the bytes of a connection ended
  Ended : ℕ → Called
  -- a connection failed
  Lost : ℕ → Called
  -- the dial of a ticket is under way on a connection
  Begins : ℕ → ℕ → Called
  -- the dial of a ticket was refused at once
  NotBegun : ℕ → Called
  -- a dial came to its end on its connection, won or not
  Dialled : ℕ → Bool → Called
  -- the agent is to ask for no further dials
  Drains : Called

-- what a call does itself
unfoldable pub called : Called → Node → Node
called (Bytes conn piece) node = bytes_by (is_server node conn) conn piece node
called (Took conn count) node = took_by (is_server node conn) conn count node
called (Ended conn) node = ended_by (is_server node conn) conn node
called (Lost conn) node = lost_by (is_server node conn) conn node
called (Begins ticket conn) node = began_at (at node.by_ticket ticket) ticket conn (record node { top = conn })
called (NotBegun ticket) node = not_begun_at (at node.by_ticket ticket) ticket node
called (Dialled conn up) node = dialled_for up conn (purpose_at (at node.sides conn)) node
called Drains node = drained node

-- a connection that begins has the greatest number so far
abbrev pub top_after : Called → Node → ℕ
top_after (Bytes conn piece) node = node.top
top_after (Took conn count) node = node.top
top_after (Ended conn) node = node.top
top_after (Lost conn) node = node.top
top_after (Begins ticket conn) node = conn
top_after (NotBegun ticket) node = node.top
top_after (Dialled conn up) node = node.top
top_after Drains node = node.top

-- First the server's connection is stirred, to which packets may go, and then the call's own.
abbrev pub entered : Called → Node → Node
entered (Bytes conn piece) node = stir conn (stir node.server node)
entered (Took conn count) node = stir conn (stir node.server node)
entered (Ended conn) node = stir conn (stir node.server node)
entered (Lost conn) node = stir conn (stir node.server node)
entered (Begins ticket conn) node = stir conn (stir node.server node)
entered (NotBegun ticket) node = stir node.server node
entered (Dialled conn up) node = stir conn (stir node.server node)
entered Drains node = stir node.server node

-- a call: what it does itself, and then steps until none is left
abbrev pub Handling : Node → Called → Node → Type 0
Handling old call new = Settles (called call (entered call old)) new

-- ---- a dial is handed out: the first that waits

abbrev pub handed_out : Dialling → Dialling
handed_out d = HandedOut

abbrev pub HandsOut : Node → ℕ → List ℕ → Node → Type 0
HandsOut old ticket address new =
    (old.dials ≡ record { ticket = ticket; address = address } ∷ new.dials)
    × (new ≡ record old { dials = new.dials; by_ticket = change old.by_ticket ticket handed_out })
