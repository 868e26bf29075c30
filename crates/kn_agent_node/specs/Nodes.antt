-- The agent node: what it holds, and what comes of an event of its core.
use Rattle.std.specs.Prelude.{ℕ, ℤ, pos, negsuc, ◌+◌, ◌-◌, ◌==◌, nat_lt, Bool, true, false, not, ◌||◌, List, [], ◌∷◌, ◌++◌, length, filter, min, Option, Some, None, if◌then◌else◌}
use Rattle.kn_packet.specs.declared.packet.Packet.{Packet}
use Rattle.kn_grpc.specs.Packets.{framed}
use Rattle.kn_h2_state.specs.Calls.{queue_of}
use Rattle.kn_edge_core.specs.declared.agent_state.AgentState.{AgentState}
use Rattle.kn_edge_core.specs.declared.agent_event.AgentEvent.{AgentEvent}
use Rattle.kn_edge_core.specs.declared.agent_event.AgentOut.{AgentOut}
use Rattle.kn_edge_core.specs.declared.agent_event.AgentOut.TheVariants.{ToServer, Dial, Write, CloseDest, DropDial}
use Rattle.kn_edge_core.specs.Agent as agent
use Rattle.kn_rising.specs.Members.{Members, at, change, inserted, without}
use Rattle.kn_ends.specs.declared.carrier.Carrier.{Carrier}
use Rattle.kn_ends.specs.Carriers.{queue_bytes}
use Rattle.kn_agent_node.specs.declared.dialling.Dialling.{Dialling}
use Rattle.kn_agent_node.specs.declared.dialling.Dialling.TheVariants.{Listed, HandedOut, Began}
use Rattle.kn_agent_node.specs.declared.request.Request.{Request}
use Rattle.kn_agent_node.specs.declared.side.Side.{Side}
use Rattle.kn_agent_node.specs.declared.node.Node.{Node}
use Rattle.kn_ends.specs.Queues.{is_empty}
use Rattle.kn_agent_node.specs.Waiting.{is_other_dial}

abbrev pub on_carrier : (Carrier → Carrier) → Node → Node
on_carrier f node = record node { carrier = f node.carrier }

-- what is to be written on a connection, or whether it is to be closed, may be other than it was
abbrev pub stir : ℕ → Node → Node
stir conn node = record node { stirred = node.stirred ++ conn ∷ [] }

abbrev pub stirred_at : Option ℕ → List ℕ → List ℕ
stirred_at None numbers = numbers
stirred_at (Some conn) numbers = numbers ++ conn ∷ []

-- a count that stays at its type's end
abbrev pub raised : ℕ → ℕ → ℕ
raised count by = min (count + by) 18446744073709551615

-- ---- packets to the server

-- how many bytes wait on the stream to the server
abbrev pub queue_len : Node → ℕ
queue_len node = length (queue_of node.carrier.conn.state node.stream)

-- the queue to the server takes no more
abbrev pub is_full : Node → Bool
is_full node = nat_lt 5242880 (queue_len node)

-- a packet goes to the queue, or behind it where it is full or others wait there
abbrev pub waits_behind : Node → Bool
waits_behind node = is_full node || not (is_empty node.behind)

abbrev pub bytes_to_server : List ℕ → Node → Node
bytes_to_server bytes node =
    if waits_behind node then record node { behind = node.behind ++ bytes ∷ [] }
    else on_carrier (queue_bytes node.stream bytes) node

abbrev pub to_server : Packet → Node → Node
to_server p node = bytes_to_server (framed p) node

-- ---- a dial is asked for, and given up

abbrev pub dial_asked : ℕ → List ℕ → Node → Node
dial_asked ticket address node = record node {
  by_ticket = inserted node.by_ticket ticket Listed;
  dials = node.dials ++ record { ticket = ticket; address = address } ∷ [];
}

-- One that was not handed out never is. One that was stays known until it begins or is refused: the core knows no more of
-- it by then. The connection of one that began is to be closed.
abbrev pub dial_dropped : ℕ → Option Dialling → Node → Node
dial_dropped ticket None node = node
dial_dropped ticket (Some Listed) node = record node { by_ticket = without node.by_ticket ticket; dials = filter (is_other_dial ticket) node.dials }
dial_dropped ticket (Some HandedOut) node = node
dial_dropped ticket (Some (Began conn)) node = record node { by_ticket = without node.by_ticket ticket; sides = without node.sides conn; stirred = node.stirred ++ conn ∷ [] }

-- ---- a destination's bytes, and the end of its connection

-- the connection of a connectID
abbrev pub conn_of : Node → ℤ → Option ℕ
conn_of node (pos id) = at node.by_id id
conn_of node (negsuc id) = None

abbrev pub with_more : List ℕ → Side → Side
with_more bytes side = record side { out = side.out ++ bytes }

abbrev pub written_at : Option ℕ → List ℕ → Members Side → Members Side
written_at None bytes sides = sides
written_at (Some conn) bytes sides = change sides conn (with_more bytes)

abbrev pub to_destination : ℤ → List ℕ → Node → Node
to_destination id bytes node = record node { sides = written_at (conn_of node id) bytes node.sides; stirred = stirred_at (conn_of node id) node.stirred }

-- the connection is to be closed, and what waits for it is dropped
abbrev pub closed_at : Option ℕ → Members Side → Members Side
closed_at None sides = sides
closed_at (Some conn) sides = without sides conn

abbrev pub without_id : ℤ → Members ℕ → Members ℕ
without_id (pos id) by_id = without by_id id
without_id (negsuc id) by_id = by_id

abbrev pub destination_closed : ℤ → Node → Node
destination_closed id node = record node {
  sides = closed_at (conn_of node id) node.sides;
  by_id = without_id id node.by_id;
  stirred = stirred_at (conn_of node id) node.stirred;
}

-- ---- outputs

unfoldable pub output : Node → AgentOut → Node
output node (ToServer p) = to_server p node
output node (Dial ticket address) = dial_asked ticket address node
output node (Write id bytes) = to_destination id bytes node
output node (CloseDest id) = destination_closed id node
output node (DropDial ticket) = dial_dropped ticket (at node.by_ticket ticket) node

abbrev pub outputs : Node → List AgentOut → Node
outputs node [] = node
outputs node (o ∷ os) = outputs (output node o) os

-- the tunnels of an agent: its dials and its connections
abbrev pub tunnels : AgentState → ℕ
tunnels s = raised (length s.dials) (length s.connections)

-- after a step of the core; the tunnels that are fewer ended in it
abbrev pub after_core : AgentState → Node → Node
after_core core node = record node { core = core; gone = raised node.gone (tunnels node.core - tunnels core) }

-- one event of the core, and its outputs in their order
unfoldable pub event : AgentEvent → Node → Node
event e node = outputs (after_core (agent.step node.core e).state node) (agent.step node.core e).outs
