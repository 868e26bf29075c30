-- What is left at the end of a call of what stands whole at the front of a stream.
use Rattle.std.specs.Prelude.{◌≡◌, ◌⊎◌, ℕ, Bool, true, false, List, [], Option, Some, None}
use Rattle.kn_route.specs.declared.strategy.Strategy.{Strategy}
use Rattle.kn_packet.specs.declared.packet.Packet.{Packet}
use Rattle.kn_grpc.specs.Readers.{First, Less, Whole, Bad}
use Rattle.kn_grpc.specs.Packets.{first_of}
use Rattle.kn_h2_state.specs.Calls.{text_of}
use Rattle.kn_ends.specs.declared.who.Who.{Who}
use Rattle.kn_ends.specs.declared.inlet.Inlet.{Inlet}
use Rattle.kn_ends.specs.declared.carrier.Carrier.{Carrier}
use Rattle.kn_ends.specs.Carriers.{inlet_at}
use Rattle.kn_ends.specs.Queues.{is_empty}
use Rattle.kn_rising.specs.Members.{at}
use Rattle.kn_server_node.specs.declared.door.Door.{Door}
use Rattle.kn_server_node.specs.declared.end.End.TheVariants.{Streams, Connect}
use Rattle.kn_server_node.specs.declared.node.Node.{Node}
use Rattle.kn_server_node.specs.Nodes.{waits, early_goes}
use Rattle.kn_server_node.specs.Calls.{Called, Handling, start}
use Rattle.kn_server_courses.specs.Courses.{Deed, Leads}

-- less than a message, of a peer that may go on; or a packet that a pause holds
abbrev pub IsHeldBack : Node → Who → Bool → First Packet ℕ → Type 0
IsHeldBack node who ended Less = ended ≡ false
IsHeldBack node who ended (Whole packet rest) = waits node who packet ≡ true
IsHeldBack node who ended (Bad status) = ⊥

-- at the end of each call nothing else stands at the front of a stream that somebody has
abbrev pub OnlyPausesHold : Type 0
OnlyPausesHold = (old : Node) (call : Called) (new : Node) (c s : ℕ) (for_agents : Bool) (carrier : Carrier) (i : Inlet) → Handling old call new
    → at new.ends c ≡ Some (Streams for_agents carrier) → inlet_at carrier.inlets s ≡ Some i → IsHeldBack new i.who i.ended (first_of i.messages.kept)

-- a packet stands whole there, and a pause holds it
abbrev pub IsPaused : Node → Option Inlet → Type 0
IsPaused node None = ⊥
IsPaused node (Some i) = (packet : Packet) × (rest : List ℕ) × (first_of i.messages.kept ≡ Whole packet rest) × (waits node i.who packet ≡ true)

-- Whatever came before, at the end of each call a connection holds text that was not read only behind such a packet.
abbrev pub OnlyPausesHoldText : Type 0
OnlyPausesHoldText = (strategies : List Strategy) (id : List ℕ) (count : ℕ) (deeds : List Deed) (old : Node) (call : Called) (new : Node) (c s : ℕ) (for_agents : Bool) (carrier : Carrier)
    → Leads (start strategies id count) deeds old → Handling old call new → at new.ends c ≡ Some (Streams for_agents carrier) → (text_of carrier.conn.state s ≡ []) ⊎ IsPaused new (inlet_at carrier.inlets s)

-- and early bytes of a connection by CONNECT are left only where they wait
abbrev pub OnlyPausesHoldEarly : Type 0
OnlyPausesHoldEarly = (old : Node) (call : Called) (new : Node) (c : ℕ) (d : Door) → Handling old call new → at new.ends c ≡ Some (Connect d) → is_empty d.early ≡ false → early_goes new d ≡ false
