-- The three programs: what the first turn of each does, and what a whole run comes to.
use Rattle.std.specs.Prelude.{◌≡◌, ℕ, Bool, true, false, List, [], ◌⊎◌, Option, None, Some}
use Rattle.kn_port.specs.declared.entry.Entry.{Entry}
use Rattle.kn_port.specs.Journal.{Tells, listen_entries, dial_entries}
use Rattle.kn_port.specs.declared.names.Gate.TheVariants as gate
use Rattle.kn_port.specs.declared.names.Listened.{Listened}
use Rattle.kn_port.specs.declared.names.Listened.TheVariants as listened
use Rattle.kn_port.specs.declared.names.Dialled.{Dialled}
use Rattle.kn_port.specs.declared.names.Dialled.TheVariants as dialled
use Rattle.kn_loop.specs.declared.watch.Watch.{Watch}
use Rattle.kn_loop.specs.declared.turn.Turn.{Turn}
use Rattle.kn_loop.specs.declared.turn.Turn.TheVariants as turn
use Rattle.kn_loop.specs.declared.gates.Gates.{Gates}
use Rattle.kn_loop.specs.Calls.{Call}
use Rattle.kn_loop.specs.Gates.{no_gates, gate_listened}
use Rattle.kn_loop.specs.Known.{Starts}
use Rattle.kn_loop.specs.Turns.{IsTurn, answer_of, is_done, is_bound}
use Rattle.kn_server_node.specs.Calls as server
use Rattle.kn_agent_node.specs.Calls as agent
use Rattle.kn_agent_node.specs.Answers as agent_answer
use Rattle.kn_client_node.specs.Calls as client
use Rattle.kn_serve.specs.declared.server_side.ServerSide.{ServerSide}
use Rattle.kn_serve.specs.declared.agent_side.AgentSide.{AgentSide}
use Rattle.kn_serve.specs.declared.client_side.ClientSide.{ClientSide}
use Rattle.kn_options.specs.declared.options.ServerOptions.{ServerOptions}
use Rattle.kn_options.specs.declared.options.AgentOptions.{AgentOptions}
use Rattle.kn_options.specs.declared.options.ClientOptions.{ClientOptions}
use Rattle.kn_serve.specs.Sides as side
use Rattle.kn_serve.specs.First.{ServerListens, first_course}
use Rattle.kn_serve.specs.Working.{Works}

-- ---- a turn but the first

abbrev pub server_did : ServerSide → Call → ServerSide → Type 0
server_did old call new = side.ServerDid old.node call new.node

abbrev pub agent_did : AgentSide → Call → AgentSide → Type 0
agent_did old call new = side.AgentDid old.node call new.node

abbrev pub client_did : ClientSide → Call → ClientSide → Type 0
client_did old call new = side.ClientDid old.address old.node call new.node

abbrev pub ServerTurns : Option (List Entry) → Option (List Entry) → Watch → Watch → ServerSide → ServerSide → Turn → Type 0
ServerTurns = IsTurn server_did (λ s c. server.out_of s.node c) (λ s. side.server_answers s.node) (λ s. s.node.top) (λ s. []) side.server_takes (λ s. s.node.gone) (λ s. false)

abbrev pub AgentTurns : Option (List Entry) → Option (List Entry) → Watch → Watch → AgentSide → AgentSide → Turn → Type 0
AgentTurns = IsTurn agent_did (λ s c. agent_answer.out_of s.node c) (λ s. side.agent_answers s.node) (λ s. side.top_of s.node.top s.other) (λ s. side.to_dial s.node.dials) side.agent_takes (λ s. s.node.gone) (λ s. agent_answer.has_lost_server s.node)

abbrev pub ClientTurns : Option (List Entry) → Option (List Entry) → Watch → Watch → ClientSide → ClientSide → Turn → Type 0
ClientTurns = IsTurn client_did (λ s c. client.out_of s.node c) (λ s. side.client_answers s.node) (λ s. side.top_of s.node.top s.other) (λ s. []) side.client_takes (λ s. s.node.gone) (λ s. client.is_server_lost s.node)

-- ---- the answer of the first turn, once the node stands

abbrev pub server_answer : Watch → ServerSide → Turn
server_answer w s = answer_of (is_done w.course s.node.gone w.lines (side.server_answers s.node)) false (is_bound w.course)

abbrev pub agent_answer_of : Watch → AgentSide → Turn
agent_answer_of w s = answer_of (is_done w.course s.node.gone w.lines (side.agent_answers s.node)) (agent_answer.has_lost_server s.node) (is_bound w.course)

abbrev pub client_answer : Watch → ClientSide → Turn
client_answer w s = answer_of (is_done w.course s.node.gone w.lines (side.client_answers s.node)) (client.is_server_lost s.node) (is_bound w.course)

-- ---- the node begins, and works

-- there was no memory to begin
abbrev pub CannotBegin : Option (List Entry) → Option (List Entry) → Turn → Type 0
CannotBegin told0 told1 result = (result ≡ turn.NoMemory) × (told1 ≡ told0)

abbrev pub ServerWorks : ServerOptions → Gates → Option (List Entry) → Option (List Entry) → Turn → Type 0
ServerWorks options gates told0 told1 result = CannotBegin told0 told1 result ⊎ ((w : Watch) × (s : ServerSide)
    × (s.node ≡ server.start options.strategies options.id 1) × Starts None gates 0 (first_course options.tunnels options.turns) w
    × Works ServerTurns (server_answer w s) told0 w s told1 result)

abbrev pub AgentWorks : AgentOptions → ℕ → Option (List Entry) → Option (List Entry) → Turn → Type 0
AgentWorks options n told0 told1 result = CannotBegin told0 told1 result ⊎ ((w : Watch) × (s : AgentSide)
    × (s.node ≡ agent.started n options.server options.id options.identifiers) × Starts (Some n) no_gates options.drain (first_course options.tunnels options.turns) w
    × Works AgentTurns (agent_answer_of w s) told0 w s told1 result)

abbrev pub ClientWorks : ClientOptions → Gates → ℕ → Option (List Entry) → Option (List Entry) → Turn → Type 0
ClientWorks options gates n told0 told1 result = CannotBegin told0 told1 result ⊎ ((w : Watch) × (s : ClientSide)
    × (s.node ≡ client.fresh_node n options.server) × (s.address ≡ options.address) × Starts (Some n) gates 0 (first_course options.tunnels options.turns) w
    × Works ClientTurns (client_answer w s) told0 w s told1 result)

-- ---- whole runs

abbrev pub ServerGoesOn : ServerOptions → Gates → Listened → Option (List Entry) → Option (List Entry) → Turn → Type 0
ServerGoesOn options gates listened.Done told0 told1 result = ServerWorks options gates told0 told1 result
ServerGoesOn options gates listened.Failed told0 told1 result = (result ≡ turn.BindFault) × (told1 ≡ told0)
ServerGoesOn options gates listened.NoMemory told0 told1 result = CannotBegin told0 told1 result

-- a server listens, and then its node works
abbrev pub ServerRuns : ServerOptions → Option (List Entry) → Option (List Entry) → Turn → Type 0
ServerRuns options told0 told1 result = (gates : Gates) × (answer : Listened) × (told : Option (List Entry)) × ServerListens options told0 told gates answer × ServerGoesOn options gates answer told told1 result

abbrev pub AgentGoesOn : AgentOptions → Dialled → Option (List Entry) → Option (List Entry) → Turn → Type 0
AgentGoesOn options (dialled.Conn n) told0 told1 result = AgentWorks options n told0 told1 result
AgentGoesOn options dialled.Failed told0 told1 result = (result ≡ turn.ServerLost) × (told1 ≡ told0)
AgentGoesOn options dialled.NoMemory told0 told1 result = CannotBegin told0 told1 result

-- an agent dials its server, and then its node works on that connection
abbrev pub AgentRuns : AgentOptions → Option (List Entry) → Option (List Entry) → Turn → Type 0
AgentRuns options told0 told1 result = (answer : Dialled) × (told : Option (List Entry)) × Tells told0 told (dial_entries options.server answer) × AgentGoesOn options answer told told1 result

abbrev pub ClientGoesOn : ClientOptions → Gates → Dialled → Option (List Entry) → Option (List Entry) → Turn → Type 0
ClientGoesOn options gates (dialled.Conn n) told0 told1 result = ClientWorks options gates n told0 told1 result
ClientGoesOn options gates dialled.Failed told0 told1 result = (result ≡ turn.ServerLost) × (told1 ≡ told0)
ClientGoesOn options gates dialled.NoMemory told0 told1 result = CannotBegin told0 told1 result

abbrev pub ClientDials : ClientOptions → Gates → Option (List Entry) → Option (List Entry) → Turn → Type 0
ClientDials options gates told0 told1 result = (answer : Dialled) × (told : Option (List Entry)) × Tells told0 told (dial_entries options.server answer) × ClientGoesOn options gates answer told told1 result

-- it dials only where its gate is open
abbrev pub ClientListened : ClientOptions → Gates → Listened → Option (List Entry) → Option (List Entry) → Turn → Type 0
ClientListened options gates listened.Done told0 told1 result = ClientDials options gates told0 told1 result
ClientListened options gates listened.Failed told0 told1 result = (result ≡ turn.BindFault) × (told1 ≡ told0)
ClientListened options gates listened.NoMemory told0 told1 result = CannotBegin told0 told1 result

-- a client listens, dials its server, and then its node works on that connection
abbrev pub ClientRuns : ClientOptions → Option (List Entry) → Option (List Entry) → Turn → Type 0
ClientRuns options told0 told1 result = (answer : Listened) × (told : Option (List Entry)) × Tells told0 told (listen_entries gate.Apps options.listen answer)
    × ClientListened options (gate_listened gate.Apps answer no_gates) answer told told1 result
