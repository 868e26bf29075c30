-- What the agent node answers.
use Rattle.std.specs.Prelude.{◌≡◌, ℕ, ℤ, ◌==◌, nat_lt, Bool, true, false, not, ◌&&◌, ◌||◌, List, [], Option, Some, None, is_none, if◌then◌else◌}
use Rattle.kn_edge_core.specs.declared.connection.Connection.{Connection}
use Rattle.kn_edge_core.specs.declared.connection.DestState.{DestState}
use Rattle.kn_edge_core.specs.declared.connection.DestState.TheVariants.{Open, Lingering}
use Rattle.kn_edge_core.specs.AgentTables.{connection_at}
use Rattle.kn_rising.specs.Members.{at}
use Rattle.kn_rising.specs.Stirring.{is_stirred}
use Rattle.kn_ends.specs.Carriers.{is_live, is_bare}
use Rattle.kn_ends.specs.Carriers as carriers
use Rattle.kn_agent_node.specs.declared.purpose.Purpose.{Purpose}
use Rattle.kn_agent_node.specs.declared.purpose.Purpose.TheVariants.{Dials, Carries}
use Rattle.kn_agent_node.specs.declared.side.Side.{Side}
use Rattle.kn_agent_node.specs.declared.node.Node.{Node}
use Rattle.kn_ends.specs.Queues.{is_empty}
use Rattle.kn_agent_node.specs.Nodes.{queue_len}
use Rattle.kn_agent_node.specs.Steps.{inlet_of}
use Rattle.kn_agent_node.specs.Calls.{is_server, purpose_at}

-- ---- whether a connection's bytes are wanted

abbrev pub is_open_state : DestState → Bool
is_open_state Open = true
is_open_state Lingering = false

abbrev pub is_open : Option Connection → Bool
is_open None = false
is_open (Some c) = is_open_state c.state

-- from this size of the queue to the server on no destination's bytes are wanted
abbrev pub is_long : Node → Bool
is_long node = nat_lt 65536 (queue_len node)

abbrev pub purpose_wants : Node → Option Purpose → Bool
purpose_wants node None = false
purpose_wants node (Some (Dials ticket)) = false
purpose_wants node (Some (Carries id)) = is_open (connection_at id node.core.connections) && not (is_long node)

abbrev pub wants_of : Node → ℕ → Bool
wants_of node conn = if is_server node conn then is_live node.carrier else purpose_wants node (purpose_at (at node.sides conn))

-- ---- what is to be written on a connection

abbrev pub side_out : Option Side → List ℕ
side_out None = []
side_out (Some side) = side.out

abbrev pub out_of : Node → ℕ → List ℕ
out_of node conn = if is_server node conn then carriers.out_of node.carrier else side_out (at node.sides conn)

-- ---- whether a connection is to be closed once all is written

abbrev pub shuts_of : Node → ℕ → Bool
shuts_of node conn = if is_server node conn then not (is_live node.carrier) else is_none (at node.sides conn)

-- ---- whether nothing is under way on a connection

-- of the server's connection: nothing is under way on it, and no packet waits behind its queue, which after a loss or failure
-- none does
abbrev pub server_is_bare : Node → Bool
server_is_bare node = is_bare node.carrier && (not (is_live node.carrier) || is_empty node.behind)

-- of each other connection it is true
abbrev pub bare_of : Node → ℕ → Bool
bare_of node conn = if is_server node conn then server_is_bare node else true

-- ---- the connectID of a destination's connection

abbrev pub id_for : Option Purpose → Option ℤ
id_for None = None
id_for (Some (Dials ticket)) = None
id_for (Some (Carries id)) = Some id

abbrev pub connection_of : Node → ℕ → Option ℤ
connection_of node conn = id_for (purpose_at (at node.sides conn))

-- ---- the server's connection ended or failed, or its stream did: nothing of the stream is handled any more
abbrev pub has_lost_server : Node → Bool
has_lost_server node = not (is_live node.carrier) || is_none (inlet_of node)

-- ---- of a connection that is not kept nothing is wanted or to be written, and it is to be closed
abbrev pub IsUnknown : Node → ℕ → Type 0
IsUnknown node conn = (wants_of node conn ≡ false) × (out_of node conn ≡ []) × (shuts_of node conn ≡ true)

-- ---- What is to be written on a connection, and whether it is to be closed, are other than before only where it was stirred;
-- and none that was is forgotten.
abbrev pub Stirs : Node → Node → Type 0
Stirs old new = (c : ℕ) → (is_stirred c old.stirred ≡ true → is_stirred c new.stirred ≡ true)
    × (is_stirred c new.stirred ≡ false → (out_of new c ≡ out_of old c) × (shuts_of new c ≡ shuts_of old c))
