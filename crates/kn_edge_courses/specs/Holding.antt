-- What is left at the end of a call of what stands whole at the front of a stream: at an agent, and at a client.
use Rattle.std.specs.Prelude.{◌≡◌, ℕ, Bool, true, false, Some}
use Rattle.kn_packet.specs.declared.packet.Packet.{Packet}
use Rattle.kn_grpc.specs.Readers.{First, Less, Whole, Bad}
use Rattle.kn_grpc.specs.Packets.{first_of}
use Rattle.kn_ends.specs.declared.inlet.Inlet.{Inlet}
use Rattle.kn_ends.specs.Carriers.{inlet_at}
use Rattle.kn_agent_node.specs.declared.node.Node as at_agent
use Rattle.kn_agent_node.specs.Steps as agent
use Rattle.kn_agent_node.specs.Calls as agent_calls
use Rattle.kn_client_node.specs.declared.node.Node as at_client
use Rattle.kn_client_node.specs.Nodes as client
use Rattle.kn_client_node.specs.Calls as client_calls

-- less than a message, of a server that may go on; or a packet that a pause holds
abbrev pub IsHeldBack : (Packet → Bool) → Bool → First Packet ℕ → Type 0
IsHeldBack waits ended Less = ended ≡ false
IsHeldBack waits ended (Whole packet rest) = waits packet ≡ true
IsHeldBack waits ended (Bad status) = ⊥

-- at the end of each call of an agent nothing else stands at the front of its stream
abbrev pub OnlyPausesHoldAtAgents : Type 0
OnlyPausesHoldAtAgents = (old : at_agent.Node) (call : agent_calls.Called) (new : at_agent.Node) (i : Inlet) → agent_calls.Handling old call new
    → inlet_at new.carrier.inlets new.stream ≡ Some i → IsHeldBack (agent.waits new) i.ended (first_of i.messages.kept)

-- nor at the end of each call of a client, while it has a stream
abbrev pub OnlyPausesHoldAtClients : Type 0
OnlyPausesHoldAtClients = (old : at_client.Node) (call : client_calls.Called) (new : at_client.Node) (s : ℕ) (i : Inlet) → client_calls.Handling old call new
    → new.stream ≡ Some s → inlet_at new.carrier.inlets s ≡ Some i → IsHeldBack (client.waits new) i.ended (first_of i.messages.kept)
