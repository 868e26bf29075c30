-- The three nodes, as the loop sees them.
use Rattle.std.specs.Prelude.{◌≡◌, ℕ, max, ◌==◌, Bool, true, false, not, List, [], ◌∷◌, length}
use Rattle.kn_port.specs.declared.names.Gate.{Gate}
use Rattle.kn_port.specs.declared.names.Gate.TheVariants as gate
use Rattle.kn_loop.specs.Calls.{Call, Opened, BytesCame, BytesTaken, BytesEnded, ConnLost, DialTaken, Began, NotBegun, DialDone, Drained, Answers}
use Rattle.kn_rising.specs.Stirring.{is_stirred}
use Rattle.kn_server_node.specs.declared.kind.ServerKind.{ServerKind}
use Rattle.kn_server_node.specs.declared.kind.ServerKind.TheVariants as kinds
use Rattle.kn_server_node.specs.declared.node.Node as server_node
use Rattle.kn_server_node.specs.Calls as server
use Rattle.kn_agent_node.specs.declared.node.Node as agent_node
use Rattle.kn_agent_node.specs.declared.request.Request.{Request}
use Rattle.kn_agent_node.specs.Calls as agent
use Rattle.kn_agent_node.specs.Answers as agent_answer
use Rattle.kn_client_node.specs.declared.node.Node as client_node
use Rattle.kn_client_node.specs.Calls as client

-- ---- gates

abbrev pub server_takes : Gate → Bool
server_takes gate.Agents = true
server_takes gate.Clients = true
server_takes gate.Connect = true
server_takes gate.Apps = false

-- an agent opens none; who came through one would be shut
abbrev pub agent_takes : Gate → Bool
agent_takes g = true

abbrev pub client_takes : Gate → Bool
client_takes gate.Agents = false
client_takes gate.Clients = false
client_takes gate.Connect = false
client_takes gate.Apps = true

-- what comes through a gate of a server
abbrev pub kind_of : Gate → ServerKind
kind_of gate.Agents = kinds.Agents
kind_of gate.Clients = kinds.Clients
kind_of gate.Connect = kinds.Connect
kind_of gate.Apps = kinds.Connect

-- ---- numbers of connections

-- the greatest number of a connection, of those that the node was given and those that it knows nothing of
abbrev pub top_of : ℕ → ℕ → ℕ
top_of given other = max given other

-- ---- what a node says of a connection

abbrev pub answers_with : Bool → List ℕ → Bool → Answers
answers_with wants out shuts = record { wants = wants; has_out = not (length out == 0); shuts = shuts }

abbrev pub server_answers : server_node.Node → ℕ → Answers
server_answers n c = answers_with (server.wants_of n c) (server.out_of n c) (server.shuts_of n c)

abbrev pub agent_answers : agent_node.Node → ℕ → Answers
agent_answers n c = answers_with (agent_answer.wants_of n c) (agent_answer.out_of n c) (agent_answer.shuts_of n c)

abbrev pub client_answers : client_node.Node → ℕ → Answers
client_answers n c = answers_with (client.wants_of n c) (client.out_of n c) (client.shuts_of n c)

-- each connection that was stirred is awake, and none fell asleep
abbrev pub WakesStirred : List ℕ → (ℕ → Bool) → (ℕ → Bool) → Type 0
WakesStirred stirred awake0 awake1 = (c : ℕ) → (awake0 c ≡ true → awake1 c ≡ true) × (awake1 c ≡ false → is_stirred c stirred ≡ false)

-- ---- what a call of the loop is to the node

-- a server's call, and then what it chose is dropped, and what was stirred is taken out
abbrev pub ServerCalled : server_node.Node → server.Called → server_node.Node → Type 0
ServerCalled old call new = (mid : server_node.Node) × server.Handling old call mid × (new ≡ record mid { choices = []; stirred = [] })

-- of a server the end of a connection's bytes is its loss; it dials nothing, and a
-- connection that it did not ask for would be as one that came to the gate of CONNECT
abbrev pub ServerDid : server_node.Node → Call → server_node.Node → Type 0
ServerDid old (Opened c g) new = ServerCalled old (server.Opened c (kind_of g)) new
ServerDid old (BytesCame c bytes) new = ServerCalled old (server.Bytes c bytes) new
ServerDid old (BytesTaken c n) new = ServerCalled old (server.Took c n) new
ServerDid old (BytesEnded c) new = ServerCalled old (server.Lost c) new
ServerDid old (ConnLost c) new = ServerCalled old (server.Lost c) new
ServerDid old (DialTaken t a) new = ⊥
ServerDid old (Began t c) new = ServerCalled old (server.Opened c kinds.Connect) new
ServerDid old (NotBegun t) new = new ≡ old
ServerDid old (DialDone c up) new = new ≡ old
ServerDid old Drained new = new ≡ old

-- an agent's call, and then what was stirred is taken out
abbrev pub AgentCalled : agent_node.Node → agent.Called → agent_node.Node → Type 0
AgentCalled old call new = (mid : agent_node.Node) × agent.Handling old call mid × (new ≡ record mid { stirred = [] })

-- an agent has no gates: of who came through one it knows nothing
abbrev pub AgentDid : agent_node.Node → Call → agent_node.Node → Type 0
AgentDid old (Opened c g) new = new ≡ old
AgentDid old (BytesCame c bytes) new = AgentCalled old (agent.Bytes c bytes) new
AgentDid old (BytesTaken c n) new = AgentCalled old (agent.Took c n) new
AgentDid old (BytesEnded c) new = AgentCalled old (agent.Ended c) new
AgentDid old (ConnLost c) new = AgentCalled old (agent.Lost c) new
AgentDid old (DialTaken t a) new = agent.HandsOut old t a new
AgentDid old (Began t c) new = AgentCalled old (agent.Begins t c) new
AgentDid old (NotBegun t) new = AgentCalled old (agent.NotBegun t) new
AgentDid old (DialDone c up) new = AgentCalled old (agent.Dialled c up) new
AgentDid old Drained new = AgentCalled old agent.Drains new

-- the dials that an agent has to hand out
abbrev pub to_dial : List Request → List (ℕ × List ℕ)
to_dial [] = []
to_dial (r ∷ rs) = (r.ticket, r.address) ∷ to_dial rs

-- a client's call, and then what its apps were told is dropped, and what was stirred is taken out
abbrev pub ClientCalled : client_node.Node → client.Called → client_node.Node → Type 0
ClientCalled old call new = (mid : client_node.Node) × client.Handling old call mid × (new ≡ record mid { ended = []; stirred = [] })

-- whoever comes asks for the client's address; it dials nothing but its server, and knows nothing of a connection that it did not ask for
abbrev pub ClientDid : List ℕ → client_node.Node → Call → client_node.Node → Type 0
ClientDid address old (Opened c g) new = ClientCalled old (client.App c address) new
ClientDid address old (BytesCame c bytes) new = ClientCalled old (client.Bytes c bytes) new
ClientDid address old (BytesTaken c n) new = ClientCalled old (client.Took c n) new
ClientDid address old (BytesEnded c) new = ClientCalled old (client.Ended c) new
ClientDid address old (ConnLost c) new = ClientCalled old (client.Lost c) new
ClientDid address old (DialTaken t a) new = ⊥
ClientDid address old (Began t c) new = new ≡ old
ClientDid address old (NotBegun t) new = new ≡ old
ClientDid address old (DialDone c up) new = new ≡ old
ClientDid address old Drained new = new ≡ old
