-- Nothing that is to be handled is left.
use Rattle.std.proofs.Common.{◌≡◌, ℕ, Bool, true, false, Some, None, refl, subst}
use Rattle.kn_packet.specs.declared.packet.Packet.{Packet}
use Rattle.kn_grpc.specs.Readers.{First, Less, Whole, Bad}
use Rattle.kn_grpc.specs.Packets.{first_of}
use Rattle.kn_ends.specs.declared.inlet.Inlet.{Inlet}
use Rattle.kn_ends.specs.Carriers.{inlet_at}
use Rattle.kn_agent_node.specs.declared.node.Node as at_agent
use Rattle.kn_agent_node.specs.Steps as agent
use Rattle.kn_agent_node.specs.Calls as agent_calls
use Rattle.kn_client_node.specs.declared.node.Node as at_client
use Rattle.kn_client_node.specs.Nodes as client
use Rattle.kn_client_node.specs.Steps as client_steps
use Rattle.kn_client_node.specs.Calls as client_calls
use Rattle.kn_edge_courses.specs.Holding.{IsHeldBack}

-- ---- at an agent

agent_goes_on : (b : Bool) → agent.end_of b ≡ None → b ≡ false
agent_goes_on true e = absurd cc
agent_goes_on false e = refl

agent_waits : (b : Bool) (p : Packet) → agent.packet_unless b p ≡ None → b ≡ true
agent_waits true p e = refl
agent_waits false p e = absurd cc

agent_front : (node : at_agent.Node) (ended : Bool) (f : First Packet ℕ) → agent.front node ended f ≡ None → IsHeldBack (agent.waits node) ended f
agent_front node ended Less e = agent_goes_on ended e
agent_front node ended (Whole p rest) e = agent_waits (agent.waits node p) p e
agent_front node ended (Bad status) e = absurd cc

agent_nothing : (node : at_agent.Node) → agent.arrival node ≡ None → agent.front_in node (inlet_at node.carrier.inlets node.stream) ≡ None
unfolding agent.arrival
agent_nothing node e = e

pub agents_hold : (old : at_agent.Node) (call : agent_calls.Called) (new : at_agent.Node) (i : Inlet) → agent_calls.Handling old call new
    → inlet_at new.carrier.inlets new.stream ≡ Some i → IsHeldBack (agent.waits new) i.ended (first_of i.messages.kept)
agents_hold old call new i handling found =
    agent_front new i.ended (first_of i.messages.kept) (subst (λ o. agent.front_in new o ≡ None) found (agent_nothing new handling.1.handled))

-- ---- at a client

client_goes_on : (b : Bool) → client_steps.end_of b ≡ None → b ≡ false
client_goes_on true e = absurd cc
client_goes_on false e = refl

client_waits : (b : Bool) (p : Packet) → client_steps.packet_unless b p ≡ None → b ≡ true
client_waits true p e = refl
client_waits false p e = absurd cc

client_front : (node : at_client.Node) (ended : Bool) (f : First Packet ℕ) → client_steps.front node ended f ≡ None → IsHeldBack (client.waits node) ended f
client_front node ended Less e = client_goes_on ended e
client_front node ended (Whole p rest) e = client_waits (client.waits node p) p e
client_front node ended (Bad status) e = absurd cc

client_nothing : (node : at_client.Node) → client_steps.arrival node ≡ None → client_steps.front_in node (client_steps.inlet_of node.carrier node.stream) ≡ None
unfolding client_steps.arrival
client_nothing node e = e

pub clients_hold : (old : at_client.Node) (call : client_calls.Called) (new : at_client.Node) (s : ℕ) (i : Inlet) → client_calls.Handling old call new
    → new.stream ≡ Some s → inlet_at new.carrier.inlets s ≡ Some i → IsHeldBack (client.waits new) i.ended (first_of i.messages.kept)
clients_hold old call new s i handling stands found =
    let on : client_steps.front_in new (inlet_at new.carrier.inlets s) ≡ None = subst (λ o. client_steps.front_in new (client_steps.inlet_of new.carrier o) ≡ None) stands (client_nothing new handling.1.handled) in
    client_front new i.ended (first_of i.messages.kept) (subst (λ o. client_steps.front_in new o ≡ None) found on)
