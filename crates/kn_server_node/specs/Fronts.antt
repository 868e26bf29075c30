-- What the code knows of the front of a stream.
use Rattle.std.specs.Prelude.{◌≡◌, ℕ, List, Option, Some, None}
use Rattle.kn_packet.specs.declared.packet.Packet.{Packet}
use Rattle.kn_packet.specs.Messages.{message}
use Rattle.kn_grpc.specs.Readers.{First, Less, Whole, Bad}
use Rattle.kn_grpc.specs.Packets.{first_of}
use Rattle.kn_ends.specs.declared.inlet.Inlet.{Inlet}
use Rattle.kn_server_node.specs.declared.front.Seen.{Seen}
use Rattle.kn_server_node.specs.declared.front.Seen.TheVariants as seen
use Rattle.kn_server_node.specs.declared.front.Front.{Front}
use Rattle.kn_server_node.specs.declared.front.Front.TheVariants as front
use Rattle.kn_server_node.specs.declared.door.Door.{Door}
use Rattle.kn_server_node.specs.declared.end.End.{End}
use Rattle.kn_server_node.specs.declared.end.End.TheVariants.{Streams, Connect}
use Rattle.kn_server_node.specs.declared.standing.Standing.{Standing}
use Rattle.kn_server_node.specs.declared.standing.Standing.TheVariants as standing
use Rattle.kn_server_node.specs.declared.node.Node.{Node}
use Rattle.kn_server_node.specs.Ends.{inlet_in}
use Rattle.kn_server_node.specs.Steps.{handle, early_handled}

-- what was seen is that
abbrev pub IsSeen : Seen → First Packet ℕ → Type 0
IsSeen seen.Less first = first ≡ Less
IsSeen (seen.Packet packet) first = (rest : List ℕ) × (first ≡ Whole (message packet) rest)
IsSeen (seen.Bad status) first = first ≡ Bad status

abbrev pub IsOwned : Seen → Front → Type 0
IsOwned seen.Less f = f ≡ front.Less
IsOwned (seen.Packet packet) f = f ≡ front.Packet (message packet)
IsOwned (seen.Bad status) f = f ≡ front.Bad status

abbrev pub first_as : Front → List ℕ → First Packet ℕ
first_as front.Less rest = Less
first_as (front.Packet packet) rest = Whole packet rest
first_as (front.Bad status) rest = Bad status

abbrev pub early_of : Door → Standing
early_of d = standing.Early d.front d.dial d.early

-- what stands on a stream
abbrev pub IsInletStanding : Option Inlet → Standing → Type 0
IsInletStanding None found = found ≡ standing.Nothing
IsInletStanding (Some i) found = (rest : List ℕ) × (f : Front) × (found ≡ standing.Stream i.who f) × (first_of i.messages.kept ≡ first_as f rest)

abbrev pub IsStanding : Option End → ℕ → Standing → Type 0
IsStanding None s found = found ≡ standing.Nothing
IsStanding (Some (Streams for_agents carrier)) s found = IsInletStanding (inlet_in (Some (Streams for_agents carrier)) s) found
IsStanding (Some (Connect d)) s found = found ≡ early_of d

abbrev pub handle_standing : ℕ → ℕ → Standing → List ℕ → Node → Node
handle_standing conn s standing.Nothing rest node = node
handle_standing conn s (standing.Stream who f) rest node = handle conn s who (first_as f rest) node
handle_standing conn s (standing.Early front dial bytes) rest node = early_handled conn front dial bytes node
