-- The steps of the agent node.
use Rattle.std.specs.Prelude.{◌≡◌, ℕ, ℤ, nat_lt, nat_le, Bool, true, false, not, ◌&&◌, ◌||◌, List, [], ◌∷◌, Option, Some, None, is_some}
use Rattle.kn_packet.specs.declared.packet.Packet.{Packet}
use Rattle.kn_packet.specs.declared.packet.Packet.TheVariants.{DialReq, DialRsp, CloseReq, CloseRsp, Data, DialCls, Drain, Other}
use Rattle.kn_grpc.specs.Readers.{First, Less, Whole, Bad}
use Rattle.kn_grpc.specs.Packets.{first_of}
use Rattle.kn_h2_state.specs.declared.event.H2Event.{H2Event}
use Rattle.kn_h2_state.specs.declared.event.H2Event.TheVariants.{Opened, Head, Text, Ended, Reset, Away, Closed}
use Rattle.kn_h2_state.specs.declared.moves.Move.{Move}
use Rattle.kn_edge_core.specs.declared.agent_event.AgentEvent.TheVariants as agent_event
use Rattle.kn_edge_core.specs.declared.connection.Connection.{Connection}
use Rattle.kn_edge_core.specs.AgentTables.{connection_at}
use Rattle.kn_ends.specs.declared.inlet.Inlet.{Inlet}
use Rattle.kn_ends.specs.Carriers.{on_conn, on_inlet, inlet_at, after_read, with_end, with_reset, taken_from, deafened, reset_stream, queue_bytes, events_then, can_write, after_write}
use Rattle.kn_agent_node.specs.declared.arrival.Arrival.{Arrival}
use Rattle.kn_agent_node.specs.declared.arrival.Arrival.TheVariants as arrivals
use Rattle.kn_agent_node.specs.declared.arrival.Arrival.TheVariants.{End}
use Rattle.kn_agent_node.specs.declared.node.Node.{Node}
use Rattle.kn_ends.specs.Queues.{is_empty}
use Rattle.kn_agent_node.specs.Nodes.{on_carrier, raised, queue_len, is_full, event}

-- ---- pauses

abbrev pub unwritten_in : Option Connection → ℕ
unwritten_in None = 0
unwritten_in (Some c) = c.unwritten

-- Data waits while over 65,536 bytes are still to be written to its destination
abbrev pub data_waits : Node → Packet → Bool
data_waits node (Data id error bytes) = nat_lt 65536 (unwritten_in (connection_at id node.core.connections))
data_waits node (DialReq protocol address random) = false
data_waits node (DialRsp error id random) = false
data_waits node (CloseReq id) = false
data_waits node (CloseRsp error id) = false
data_waits node (DialCls random) = false
data_waits node Drain = false
data_waits node (Other number) = false

-- each packet waits while the queue to the server is full
abbrev pub waits : Node → Packet → Bool
waits node p = is_full node || data_waits node p

-- ---- what stands at the front of the stream

-- What is to be handled: of less than a message nothing, but for the end of the server's half; a packet, where it does not
-- have to wait; and a message that is bad.
abbrev pub end_of : Bool → Option Arrival
end_of true = Some End
end_of false = None

abbrev pub packet_unless : Bool → Packet → Option Arrival
packet_unless true p = None
packet_unless false p = Some (arrivals.Packet p)

abbrev pub front : Node → Bool → First Packet ℕ → Option Arrival
front node ended Less = end_of ended
front node ended (Whole p rest) = packet_unless (waits node p) p
front node ended (Bad status) = Some arrivals.Bad

abbrev pub front_in : Node → Option Inlet → Option Arrival
front_in node None = None
front_in node (Some i) = front node i.ended (first_of i.messages.kept)

abbrev pub inlet_of : Node → Option Inlet
inlet_of node = inlet_at node.carrier.inlets node.stream

unfoldable pub arrival : Node → Option Arrival
arrival node = front_in node (inlet_of node)

abbrev pub dial_requests : Packet → ℕ
dial_requests (DialReq protocol address random) = 1
dial_requests (DialRsp error id random) = 0
dial_requests (CloseReq id) = 0
dial_requests (CloseRsp error id) = 0
dial_requests (Data id error bytes) = 0
dial_requests (DialCls random) = 0
dial_requests Drain = 0
dial_requests (Other number) = 0

-- the message is taken, and the text behind it read; then the core hears of its packet
abbrev pub handle_packet : Packet → Node → Node
handle_packet p node = event (agent_event.Packet p) (record (on_carrier (taken_from node.stream) node) { handled = raised node.handled 1; asked = raised node.asked (dial_requests p) })

-- The server's end loses the link. So does a bad message, and where this end's half of the stream is open, it is reset with
-- PROTOCOL_ERROR before.
unfoldable pub handle : Arrival → Node → Node
handle End node = record node { losing = true }
handle (arrivals.Packet p) node = handle_packet p node
handle arrivals.Bad node = record (on_carrier (reset_stream node.stream 1) node) { losing = true }

abbrev pub handle_front : Option Arrival → Node → Node
handle_front None node = node
handle_front (Some a) node = handle a node

-- ---- what the connection told

abbrev pub events_of : Node → List H2Event
events_of node = node.carrier.conn.state.events

abbrev pub with_events : List H2Event → Node → Node
with_events events node = on_carrier (events_then events) node

unfoldable pub heard : H2Event → Node → Node
heard (Opened s fields) node = node
heard (Head s fields) node = record node { answer = Some fields }
heard (Text s) node = on_carrier (after_read s) node
heard (Ended s) node = on_carrier (on_inlet s with_end) node
heard (Reset s code) node = on_carrier (on_inlet s with_reset) node
heard (Away code) node = node
heard (Closed code) node = record node { losing = true }

-- the first of what was told
unfoldable pub hear : List H2Event → Node → Node
hear [] node = node
hear (e ∷ events) node = heard e (with_events events node)

-- ---- the link is lost: nothing more of its stream is handled, and what waits behind the queue is dropped
unfoldable pub lose : Node → Node
lose node = event agent_event.LinkLost (record (on_carrier (deafened node.stream) node) { losing = false; behind = [] })

-- ---- the first packet behind the queue goes to it

abbrev pub can_admit : Node → Bool
can_admit node = not (is_full node) && not (is_empty node.behind)

unfoldable pub admit : List (List ℕ) → Node → Node
admit [] node = node
admit (bytes ∷ behind) node = record (on_carrier (queue_bytes node.stream bytes) node) { behind = behind }

-- ---- steps

pub data Step : Type 0 where
  -- the link is lost, as follows from what was done
  Follow : Step
  -- the next event that the connection told
  Hear : Step
  -- the message, or the end, at the front of the stream
  Handle : Step
  -- the first packet behind the queue goes to it
  Admit : Step
  -- a frame that is due
  Write : Move → Step

-- A loss that follows comes first, then what the connection told, then what stands at the front of the stream. The queue
-- takes what waits behind it, and frames are written, at any time.
abbrev pub MayDo : Node → Step → Type 0
MayDo node Follow = node.losing ≡ true
MayDo node Hear = (node.losing ≡ false) × (is_empty (events_of node) ≡ false)
MayDo node Handle = (node.losing ≡ false) × (events_of node ≡ []) × (is_some (arrival node) ≡ true)
MayDo node Admit = can_admit node ≡ true
MayDo node (Write m) = can_write node.carrier m ≡ true

unfoldable pub after_step : Node → Step → Node
after_step node Follow = lose node
after_step node Hear = hear (events_of node) node
after_step node Handle = handle_front (arrival node) node
after_step node Admit = admit node.behind node
after_step node (Write m) = on_carrier (after_write m) node

-- these steps are made one after another, each where it may be made
abbrev pub Makes : Node → List Step → Node → Type 0
Makes old [] new = new ≡ old
Makes old (s ∷ ss) new = MayDo old s × Makes (after_step old s) ss new

abbrev pub Reaches : Node → Node → Type 0
Reaches old new = (steps : List Step) × Makes old steps new

-- no step may be made
pub record IsSettled (node : Node) : Type 0 where
  pub followed : node.losing ≡ false
  pub heard : events_of node ≡ []
  pub handled : arrival node ≡ None
  pub admitted : can_admit node ≡ false
  pub written : (m : Move) → can_write node.carrier m ≡ false

-- some steps were made, and none is left to make
abbrev pub Settles : Node → Node → Type 0
Settles old new = Reaches old new × IsSettled new
