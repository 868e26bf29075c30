-- What is in flight is delivered: a packet, all of a pipe, or round by round.
use Rattle.std.specs.Prelude.{ℕ, zero, suc, ◌==◌, ◌&&◌, Bool, length, Option, Some, None, if◌then◌else◌}
use Rattle.std.specs.List.{list_all}
use Rattle.kn_packet.specs.declared.packet.Packet.{Packet}
use Rattle.kn_world.specs.declared.event.Pipe.{Pipe}
use Rattle.kn_world.specs.declared.event.Pipe.TheVariants.{AgentUp, AgentDown, ClientUp, ClientDown}
use Rattle.kn_world.specs.declared.parts.Agent.{Agent}
use Rattle.kn_world.specs.declared.parts.Client.{Client}
use Rattle.kn_world.specs.declared.state.State.{State}
use Rattle.kn_world.specs.Agents as agents
use Rattle.kn_world.specs.AgentSteps as agent
use Rattle.kn_world.specs.AppSteps as app
use Rattle.kn_world.specs.Clients as clients
use Rattle.kn_world.specs.Numbers.{nth, change}
use Rattle.kn_world.specs.ServerPackets as server
use Rattle.kn_world.specs.Times.{times}

-- ---- the first packet of a pipe is taken off and handled by the end that it comes to
abbrev pub at_server : Option Packet → ℕ → State → State
at_server None link s = s
at_server (Some packet) link s = server.takes_of_link packet link s

abbrev pub agent_up : ℕ → State → State
agent_up link s = at_server (agents.first_up (nth link s.agents)) link (record s { agents = change agents.rest_up link s.agents })

abbrev pub at_agent : Option Packet → ℕ → State → State
at_agent None link s = s
at_agent (Some packet) link s = agent.takes_packet packet link s

abbrev pub agent_down : ℕ → State → State
agent_down link s = at_agent (agents.first_down (nth link s.agents)) link (record s { agents = change agents.rest_down link s.agents })

abbrev pub at_front : Option Packet → ℕ → State → State
at_front None client s = s
at_front (Some packet) client s = server.takes_of_client packet client s

abbrev pub client_up : ℕ → State → State
client_up client s = at_front (clients.first_up (nth client s.clients)) client (record s { clients = change clients.rest_up client s.clients })

abbrev pub at_client : Option Packet → ℕ → State → State
at_client None client s = s
at_client (Some packet) client s = app.takes_packet packet client s

abbrev pub client_down : ℕ → State → State
client_down client s = at_client (clients.first_down (nth client s.clients)) client (record s { clients = change clients.rest_down client s.clients })

abbrev pub step : Pipe → State → State
step (AgentUp link) s = agent_up link s
step (AgentDown link) s = agent_down link s
step (ClientUp client) s = client_up client s
step (ClientDown client) s = client_down client s

-- ---- all that is in a pipe when its turn comes
abbrev pub steps : ℕ → Pipe → State → State
steps count pipe s = times count (step pipe) s

abbrev pub count_in : Pipe → State → ℕ
count_in (AgentUp link) s = agents.up_count (nth link s.agents)
count_in (AgentDown link) s = agents.down_count (nth link s.agents)
count_in (ClientUp client) s = clients.up_count (nth client s.clients)
count_in (ClientDown client) s = clients.down_count (nth client s.clients)

unfoldable pub delivered : Pipe → State → State
delivered pipe s = steps (count_in pipe s) pipe s

-- ---- a round: `agent 1 up`, `agent 1 down`, `agent 2 up` and so on, then `client 1 up`, `client 1 down` and so on
abbrev pub agents_delivered : ℕ → State → State
agents_delivered zero s = s
agents_delivered (suc count) s = delivered (AgentDown (suc count)) (delivered (AgentUp (suc count)) (agents_delivered count s))

abbrev pub clients_delivered : ℕ → State → State
clients_delivered zero s = s
clients_delivered (suc count) s = delivered (ClientDown (suc count)) (delivered (ClientUp (suc count)) (clients_delivered count s))

abbrev pub then_clients : State → State
then_clients s = clients_delivered (length s.clients) s

unfoldable pub round : State → State
round s = then_clients (agents_delivered (length s.agents) s)

-- ---- rounds; one that delivers nothing is the last
abbrev pub is_bare_agent : Agent → Bool
is_bare_agent a = (length a.up == 0) && (length a.down == 0)

abbrev pub is_bare_client : Client → Bool
is_bare_client c = (length c.up == 0) && (length c.down == 0)

unfoldable pub nothing_in_flight : State → Bool
nothing_in_flight s = list_all is_bare_agent s.agents && list_all is_bare_client s.clients

unfoldable pub rounds : ℕ → State → State
rounds zero s = s
rounds (suc n) s = if nothing_in_flight s then s else rounds n (round s)
