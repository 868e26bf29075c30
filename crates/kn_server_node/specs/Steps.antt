-- The steps of the server node.
use Rattle.std.specs.Prelude.{◌≡◌, ℕ, ℤ, true, false, List, [], ◌∷◌, ◌++◌, Option, Some, None}
use Rattle.kn_packet.specs.declared.packet.Packet.{Packet}
use Rattle.kn_packet.specs.declared.packet.Packet.TheVariants.{Data}
use Rattle.kn_grpc.specs.Readers.{First, Less, Whole, Bad}
use Rattle.kn_grpc.specs.Packets.{first_of}
use Rattle.kn_h2_state.specs.declared.event.H2Event.{H2Event}
use Rattle.kn_h2_state.specs.declared.event.H2Event.TheVariants.{Opened, Head, Text, Ended, Reset, Away, Closed}
use Rattle.kn_h2_state.specs.declared.moves.Move.{Move}
use Rattle.kn_server_core.specs.declared.event.ServerEvent.TheVariants.{LinkPacket, LinkLost, FrontPacket, FrontLost}
use Rattle.kn_ends.specs.declared.who.Who.{Who}
use Rattle.kn_ends.specs.declared.who.Who.TheVariants as who
use Rattle.kn_ends.specs.declared.inlet.Inlet.{Inlet}
use Rattle.kn_ends.specs.Carriers.{on_inlet, after_read, after_write, taken_from, with_end, with_reset}
use Rattle.kn_rising.specs.Members.{at, change, without}
use Rattle.kn_rising.specs.Stirring.{is_stirred}
use Rattle.kn_server_node.specs.declared.end.End.{End}
use Rattle.kn_server_node.specs.declared.end.End.TheVariants.{Streams, Connect}
use Rattle.kn_server_node.specs.declared.loss.Loss.{Loss}
use Rattle.kn_server_node.specs.declared.loss.Loss.TheVariants.{OfLink, OfFront}
use Rattle.kn_ends.specs.declared.heard.Heard.{Heard}
use Rattle.kn_server_node.specs.declared.node.Node.{Node}
use Rattle.kn_server_node.specs.Doors as door
use Rattle.kn_server_node.specs.Ends.{on_carrier, on_door, inlet_in, is_over, may_write}
use Rattle.kn_server_node.specs.Nodes.{on_end, event, link_ended, front_ended, can_handle, is_before, count_up}
use Rattle.kn_server_node.specs.Callers.{for_agents_in, opened_by}
use Rattle.kn_ends.specs.Queues.{is_empty}

-- ---- who is lost

abbrev pub loss_of : ℕ → Who → List Loss → List Loss
loss_of status (who.Link link) rest = OfLink link status ∷ rest
loss_of status (who.Front front) rest = OfFront front status ∷ rest
loss_of status who.Server rest = rest

-- all of a connection, by rising stream
abbrev pub losses : List Inlet → List Loss → List Loss
losses [] rest = rest
losses (i ∷ is) rest = loss_of 0 i.who (losses is rest)

abbrev pub door_loss : Option ℕ → List Loss → List Loss
door_loss None rest = rest
door_loss (Some front) rest = OfFront front 0 ∷ rest

-- a connection failed or was lost: all that stand on it are lost
abbrev pub losses_at : Option End → List Loss → List Loss
losses_at None rest = rest
losses_at (Some (Streams for_agents carrier)) rest = losses carrier.inlets rest
losses_at (Some (Connect d)) rest = door_loss d.front rest

-- ---- what was told is heard

unfoldable pub heard : ℕ → H2Event → Node → Node
heard conn (Opened s fields) node = opened_by (for_agents_in (at node.ends conn)) conn s fields node
heard conn (Head s fields) node = node
heard conn (Text s) node = on_end conn (on_carrier (after_read s)) node
heard conn (Ended s) node = on_end conn (on_carrier (on_inlet s with_end)) node
heard conn (Reset s code) node = on_end conn (on_carrier (on_inlet s with_reset)) node
heard conn (Away code) node = node
heard conn (Closed code) node = record node { todo = losses_at (at node.ends conn) node.todo }

-- the first of what was told
unfoldable pub hear : List Heard → Node → Node
hear [] node = node
hear (x ∷ told) node = heard x.conn x.event (record node { told = told })

-- ---- what stands at the front of a stream is handled

abbrev pub packet_event : Who → Packet → Node → Node
packet_event (who.Link link) p node = event (LinkPacket link p) node
packet_event (who.Front front) p node = event (FrontPacket front p) node
packet_event who.Server p node = node

-- the message is taken, and the text behind it read; then the core hears of its packet
abbrev pub handle_packet : ℕ → ℕ → Who → Packet → Node → Node
handle_packet conn s w p node = packet_event w p (record (on_end conn (on_carrier (taken_from s)) node) { handled = count_up node.handled })

unfoldable pub handle : ℕ → ℕ → Who → First Packet ℕ → Node → Node
handle conn s w Less node = record node { todo = loss_of 0 w node.todo }
handle conn s w (Whole p rest) node = handle_packet conn s w p node
handle conn s w (Bad status) node = record node { todo = loss_of status w node.todo }

abbrev pub handle_inlet : ℕ → ℕ → Option Inlet → Node → Node
handle_inlet conn s None node = node
handle_inlet conn s (Some i) node = handle conn s i.who (first_of i.messages.kept) node

-- the early bytes of a door go as Data of its tunnel
abbrev pub early_event : Option ℕ → Option ℤ → List ℕ → Node → Node
early_event (Some front) (Some id) bytes node = event (FrontPacket front (Data id [] bytes)) node
early_event (Some front) None bytes node = node
early_event None id bytes node = node

abbrev pub early_handled : ℕ → Option ℕ → Option ℤ → List ℕ → Node → Node
early_handled conn front dial bytes node = early_event front dial bytes (record (on_end conn (on_door door.without_early) node) { handled = count_up node.handled })

unfoldable pub handle_on : Option End → ℕ → ℕ → Node → Node
handle_on None conn s node = node
handle_on (Some (Streams for_agents carrier)) conn s node = handle_inlet conn s (inlet_in (Some (Streams for_agents carrier)) s) node
handle_on (Some (Connect d)) conn s node = early_handled conn d.front d.dial d.early node

-- ---- losses

unfoldable pub lose : Loss → Node → Node
lose (OfLink link status) node = event (LinkLost link) (link_ended link status node)
lose (OfFront front status) node = event (FrontLost front) (front_ended front status node)

abbrev pub follow : List Loss → Node → Node
follow [] node = node
follow (l ∷ ls) node = lose l (record node { todo = ls })

-- ---- steps

pub data Step : Type 0 where
  -- the next loss that follows from what was done
  Follow : Step
  -- the next event that a connection told
  Hear : Step
  -- what stands at the front of a stream
  Handle : ℕ → ℕ → Step
  -- a connection is stirred, so that it may be written on
  Look : ℕ → Step
  -- a frame that is due
  Write : ℕ → Move → Step
  -- a connection of which nothing comes any more
  Forget : ℕ → Step

-- Losses that follow come first, then what the connections told, then the least stream with something to handle. Frames are
-- written at any time. A connection is forgotten once nothing follows and nothing was told. Who is written on or forgotten
-- was stirred.
abbrev pub MayDo : Node → Step → Type 0
MayDo node Follow = is_empty node.todo ≡ false
MayDo node Hear = (node.todo ≡ []) × (is_empty node.told ≡ false)
MayDo node (Handle c s) = (node.todo ≡ []) × (node.told ≡ []) × (can_handle node c s ≡ true) × ((d t : ℕ) → is_before d t c s ≡ true → can_handle node d t ≡ false)
MayDo node (Look c) = Unit {0}
MayDo node (Write c m) = (is_stirred c node.stirred ≡ true) × (may_write (at node.ends c) m ≡ true)
MayDo node (Forget c) = (is_stirred c node.stirred ≡ true) × (node.todo ≡ []) × (node.told ≡ []) × (is_over (at node.ends c) ≡ true)

unfoldable pub after_step : Node → Step → Node
after_step node Follow = follow node.todo node
after_step node Hear = hear node.told node
after_step node (Handle c s) = handle_on (at node.ends c) c s node
after_step node (Look c) = record node { stirred = node.stirred ++ c ∷ [] }
after_step node (Write c m) = record node { ends = change node.ends c (on_carrier (after_write m)) }
after_step node (Forget c) = record node { ends = without node.ends c }

-- these steps are made one after another, each where it may be made
abbrev pub Makes : Node → List Step → Node → Type 0
Makes old [] new = new ≡ old
Makes old (s ∷ ss) new = MayDo old s × Makes (after_step old s) ss new

abbrev pub Reaches : Node → Node → Type 0
Reaches old new = (steps : List Step) × Makes old steps new

-- no step may be made but a look
pub record IsSettled (node : Node) : Type 0 where
  pub followed : node.todo ≡ []
  pub heard : node.told ≡ []
  pub handled : (c s : ℕ) → can_handle node c s ≡ false
  pub written : (c : ℕ) (m : Move) → may_write (at node.ends c) m ≡ false
  pub forgotten : (c : ℕ) → is_over (at node.ends c) ≡ false

-- some steps were made, and none but looks is left to make
abbrev pub Settles : Node → Node → Type 0
Settles old new = Reaches old new × IsSettled new
