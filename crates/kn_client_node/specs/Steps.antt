-- The steps of the client node.
use Rattle.std.specs.Prelude.{◌≡◌, ℕ, Bool, true, false, not, ◌&&◌, List, [], ◌∷◌, Option, Some, None, is_some}
use Rattle.kn_packet.specs.declared.packet.Packet.{Packet}
use Rattle.kn_grpc.specs.Readers.{First, Less, Whole, Bad}
use Rattle.kn_grpc.specs.Packets.{first_of}
use Rattle.kn_h2_state.specs.declared.event.H2Event.{H2Event}
use Rattle.kn_h2_state.specs.declared.event.H2Event.TheVariants.{Opened, Head, Text, Ended, Reset, Away, Closed}
use Rattle.kn_h2_state.specs.declared.moves.Move.{Move}
use Rattle.kn_ends.specs.declared.inlet.Inlet.{Inlet}
use Rattle.kn_ends.specs.declared.carrier.Carrier.{Carrier}
use Rattle.kn_ends.specs.Carriers.{inlet_at, on_inlet, after_read, can_write, after_write, taken_from, with_end, with_reset, events_then, reset_stream}
use Rattle.kn_client_node.specs.declared.arrival.Arrival.{Arrival}
use Rattle.kn_client_node.specs.declared.arrival.Arrival.TheVariants as arrivals
use Rattle.kn_client_node.specs.declared.node.Node.{Node}
use Rattle.kn_ends.specs.Queues.{is_empty}
use Rattle.kn_client_node.specs.Nodes.{queue_len, is_full, waits, count_up, sent_on, packet_event, stream_over, any_stream_over}

abbrev pub on_carrier : (Carrier → Carrier) → Node → Node
on_carrier f node = record node { carrier = f node.carrier }

-- ---- what the server's connection tells

abbrev pub told : Node → List H2Event
told node = node.carrier.conn.state.events

unfoldable pub heard : H2Event → Node → Node
heard (Opened s fields) node = node
heard (Head s fields) node = node
heard (Text s) node = on_carrier (after_read s) node
heard (Ended s) node = on_carrier (on_inlet s with_end) node
heard (Reset s code) node = on_carrier (on_inlet s with_reset) node
heard (Away code) node = node
heard (Closed code) node = any_stream_over node.stream node

-- the first of what was told
unfoldable pub hear : List H2Event → Node → Node
hear [] node = node
hear (e ∷ es) node = heard e (on_carrier (events_then es) node)

-- ---- what stands at the front of the stream

abbrev pub inlet_of : Carrier → Option ℕ → Option Inlet
inlet_of c None = None
inlet_of c (Some s) = inlet_at c.inlets s

-- What is to be handled: of less than a message nothing, but for the end of the server's half; a packet, where it does not
-- have to wait; and a message that is bad.
abbrev pub end_of : Bool → Option Arrival
end_of true = Some arrivals.End
end_of false = None

abbrev pub packet_unless : Bool → Packet → Option Arrival
packet_unless true p = None
packet_unless false p = Some (arrivals.Packet p)

abbrev pub front : Node → Bool → First Packet ℕ → Option Arrival
front node ended Less = end_of ended
front node ended (Whole p rest) = packet_unless (waits node p) p
front node ended (Bad status) = Some arrivals.Bad

abbrev pub front_in : Node → Option Inlet → Option Arrival
front_in node None = None
front_in node (Some i) = front node i.ended (first_of i.messages.kept)

unfoldable pub arrival : Node → Option Arrival
arrival node = front_in node (inlet_of node.carrier node.stream)

-- the message is taken, and the text behind it read; then the core hears of its packet
abbrev pub handle_packet : ℕ → Packet → Node → Node
handle_packet s p node = packet_event p (record node { carrier = taken_from s node.carrier; handled = count_up node.handled })

-- The server's end ends the stream. So does a bad message, and where this end's half of the stream is open, it is reset with
-- PROTOCOL_ERROR before.
unfoldable pub handle : ℕ → Arrival → Node → Node
handle s arrivals.End node = stream_over s node
handle s (arrivals.Packet p) node = handle_packet s p node
handle s arrivals.Bad node = stream_over s (on_carrier (reset_stream s 1) node)

abbrev pub handle_at : Option ℕ → Arrival → Node → Node
handle_at None a node = node
handle_at (Some s) a node = handle s a node

abbrev pub handle_front : Option Arrival → Node → Node
handle_front None node = node
handle_front (Some a) node = handle_at node.stream a node

-- ---- packets behind a full queue

-- the first of them goes to the queue once that is not full
abbrev pub can_admit : Node → Bool
can_admit node = not (is_empty node.behind) && not (is_full (queue_len node))

unfoldable pub admit : List (List ℕ) → Node → Node
admit [] node = node
admit (b ∷ bs) node = record node { behind = bs; carrier = sent_on node.stream b node.carrier }

-- ---- steps

pub data Step : Type 0 where
  -- the next event that the server's connection told
  Hear : Step
  -- the message, or the end, at the front of the stream
  Handle : Step
  -- the first packet behind the full queue
  Admit : Step
  -- a frame that is due
  Write : Move → Step

-- What the connection told comes first, then what stands at the front of the stream. Packets from behind the full queue,
-- and frames, go on at any time.
abbrev pub MayDo : Node → Step → Type 0
MayDo node Hear = is_empty (told node) ≡ false
MayDo node Handle = (told node ≡ []) × (is_some (arrival node) ≡ true)
MayDo node Admit = can_admit node ≡ true
MayDo node (Write m) = can_write node.carrier m ≡ true

unfoldable pub after_step : Node → Step → Node
after_step node Hear = hear (told node) node
after_step node Handle = handle_front (arrival node) node
after_step node Admit = admit node.behind node
after_step node (Write m) = on_carrier (after_write m) node

-- these steps are made one after another, each where it may be made
abbrev pub Makes : Node → List Step → Node → Type 0
Makes old [] new = new ≡ old
Makes old (s ∷ ss) new = MayDo old s × Makes (after_step old s) ss new

abbrev pub Reaches : Node → Node → Type 0
Reaches old new = (steps : List Step) × Makes old steps new

-- no step may be made
pub record IsSettled (node : Node) : Type 0 where
  pub heard : told node ≡ []
  pub handled : arrival node ≡ None
  pub admitted : can_admit node ≡ false
  pub written : (m : Move) → can_write node.carrier m ≡ false

-- some steps were made, and none is left to make
abbrev pub Settles : Node → Node → Type 0
Settles old new = Reaches old new × IsSettled new
