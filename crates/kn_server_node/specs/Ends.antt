-- The connections of the server by their numbers.
use Rattle.std.specs.Prelude.{◌≡◌, ℕ, Bool, true, false, not, ◌||◌, List, [], ◌∷◌, ◌++◌, length, Option, Some, None, Result, IsTrue}
use Rattle.kn_hpack.specs.Fields.{Field}
use Rattle.kn_packet.specs.declared.packet.Packet.{Packet}
use Rattle.kn_connect.specs.declared.answer.ConnectError.{ConnectError}
use Rattle.kn_connect.specs.declared.answer.ConnectAnswer.{ConnectAnswer}
use Rattle.kn_connect.specs.Answers.{Answers, Holds}
use Rattle.kn_grpc.specs.Packets.{framed}
use Rattle.kn_grpc.specs.CallHeads.{grpc_status}
use Rattle.kn_h2_state.specs.declared.event.H2Event.{H2Event}
use Rattle.kn_h2_state.specs.declared.moves.Move.{Move}
use Rattle.kn_h2_state.specs.declared.role.Role.TheVariants.{Server}
use Rattle.kn_h2_state.specs.Calls.{fresh, queue_of}
use Rattle.kn_ends.specs.declared.who.Who.{Who}
use Rattle.kn_ends.specs.declared.inlet.Inlet.{Inlet}
use Rattle.kn_ends.specs.declared.carrier.Carrier.{Carrier}
use Rattle.kn_ends.specs.Carriers as carriers
use Rattle.kn_ends.specs.Carriers.{inlet_at, queue_bytes, finish_stream, deafened, answer_stream, with_inlet, with_loss, can_write, counts, is_live, is_gone, out_of, Fills}
use Rattle.kn_rising.specs.Members.{Members, at, with}
use Rattle.kn_server_node.specs.declared.door.Door.{Door}
use Rattle.kn_server_node.specs.declared.end.End.{End}
use Rattle.kn_server_node.specs.declared.end.End.TheVariants.{Streams, Connect}
use Rattle.kn_server_node.specs.declared.kind.ServerKind.{ServerKind}
use Rattle.kn_server_node.specs.declared.kind.ServerKind.TheVariants as kinds
use Rattle.kn_server_node.specs.Doors as door
use Rattle.kn_ends.specs.Queues.{is_empty}

-- ---- a new one

abbrev pub fresh_carrier : Carrier
fresh_carrier = record { conn = fresh Server; lost = false; inlets = [] }

abbrev pub fresh_end : ServerKind → End
fresh_end kinds.Agents = Streams true fresh_carrier
fresh_end kinds.Clients = Streams false fresh_carrier
fresh_end kinds.Connect = Connect door.fresh_door

-- ---- what changes on one

abbrev pub on_carrier : (Carrier → Carrier) → End → End
on_carrier f (Streams for_agents carrier) = Streams for_agents (f carrier)
on_carrier f (Connect d) = Connect d

abbrev pub on_door : (Door → Door) → End → End
on_door f (Streams for_agents carrier) = Streams for_agents carrier
on_door f (Connect d) = Connect (f d)

-- a packet waits to be sent on a stream, or comes to a door
abbrev pub given : ℕ → Packet → End → End
given s p (Streams for_agents carrier) = Streams for_agents (queue_bytes s (framed p) carrier)
given s p (Connect d) = Connect (door.given p d)

abbrev pub trailers : ℕ → List Field
trailers status = grpc_status status ∷ []

-- nothing more of a stream is handled, and this end's half ends with the status; a door is closed
abbrev pub closed : ℕ → ℕ → End → End
closed status s (Streams for_agents carrier) = Streams for_agents (finish_stream s (trailers status) (deafened s carrier))
closed status s (Connect d) = Connect (door.ended d)

-- the connection was lost
abbrev pub lost : End → End
lost (Streams for_agents carrier) = Streams for_agents (with_loss carrier)
lost (Connect d) = Connect (door.lost d)

-- so many bytes went to the socket
abbrev pub took : ℕ → End → End
took count (Streams for_agents carrier) = Streams for_agents (carriers.took count carrier)
took count (Connect d) = Connect (door.took count d)

-- a stream has somebody, and is answered
abbrev pub accepted : ℕ → Who → List Field → Carrier → Carrier
accepted s w fields c = answer_stream s fields (with_inlet s w c)

-- ---- what one tells

abbrev pub events_in : Option End → List H2Event
events_in None = []
events_in (Some (Streams for_agents carrier)) = carrier.conn.state.events
events_in (Some (Connect d)) = []

abbrev pub inlet_in : Option End → ℕ → Option Inlet
inlet_in None s = None
inlet_in (Some (Streams for_agents carrier)) s = inlet_at carrier.inlets s
inlet_in (Some (Connect d)) s = None

-- how many bytes wait on a stream
abbrev pub queued_in : Option End → ℕ → ℕ
queued_in None s = 0
queued_in (Some (Streams for_agents carrier)) s = length (queue_of carrier.conn.state s)
queued_in (Some (Connect d)) s = length d.out

abbrev pub is_door : Option End → Bool
is_door None = false
is_door (Some (Streams for_agents carrier)) = false
is_door (Some (Connect d)) = true

-- a link or front stands there whose stream may still be open
abbrev pub counts_on : ℕ → Option End → Bool
counts_on s None = false
counts_on s (Some (Streams for_agents carrier)) = counts s carrier
counts_on s (Some (Connect d)) = not (door.is_over d)

-- nothing comes of it any more
abbrev pub is_over : Option End → Bool
is_over None = false
is_over (Some (Streams for_agents carrier)) = is_gone carrier
is_over (Some (Connect d)) = door.is_over d

-- ---- what may be written on one

abbrev pub may_write : Option End → Move → Bool
may_write None m = false
may_write (Some (Streams for_agents carrier)) m = can_write carrier m
may_write (Some (Connect d)) m = false

-- what may be written on one was
abbrev pub FilledOne : End → End → Type 0
FilledOne (Streams for_agents carrier) new = (c : Carrier) × Fills carrier c × (IsTrue carrier.lost → c ≡ carrier) × (new ≡ Streams for_agents c)
FilledOne (Connect d) new = new ≡ Connect d

abbrev pub Filled : Option End → Members End → ℕ → Members End → Type 0
Filled None old n new = new ≡ old
Filled (Some e) old n new = (f : End) × FilledOne e f × (new ≡ with old n f)

abbrev pub FillsAt : ℕ → Members End → Members End → Type 0
FillsAt n old new = Filled (at old n) old n new

-- ---- the head of a door

-- what holds the head of a door heard more bytes, and gave this answer
abbrev pub HearsOnHead : Door → List ℕ → Result ConnectAnswer ConnectError → Door → Type 0
HearsOnHead d piece answer new = (held : List ℕ) × Answers (d.head ++ piece) answer × Holds answer (d.head ++ piece) held × (new ≡ door.with_head held d)

abbrev pub HearsOne : End → List ℕ → Result ConnectAnswer ConnectError → End → Type 0
HearsOne (Streams for_agents carrier) piece answer new = new ≡ Streams for_agents carrier
HearsOne (Connect d) piece answer new = (e : Door) × HearsOnHead d piece answer e × (new ≡ Connect e)

abbrev pub HearsHead : ℕ → List ℕ → Option End → Members End → Result ConnectAnswer ConnectError → Members End → Type 0
HearsHead n piece None old answer new = new ≡ old
HearsHead n piece (Some e) old answer new = (f : End) × HearsOne e piece answer f × (new ≡ with old n f)

-- ---- what its socket is told

-- it is to be closed once nothing waits for its socket
abbrev pub shuts : Option End → Bool
shuts None = true
shuts (Some (Streams for_agents carrier)) = not (is_live carrier)
shuts (Some (Connect d)) = d.lost || d.shuts

-- what waits for its socket
abbrev pub out : Option End → List ℕ
out None = []
out (Some (Streams for_agents carrier)) = out_of carrier
out (Some (Connect d)) = d.out

-- nothing is under way on it
abbrev pub is_bare : Option End → Bool
is_bare None = true
is_bare (Some (Streams for_agents carrier)) = carriers.is_bare carrier
is_bare (Some (Connect d)) = is_empty d.early
