-- An end takes the first packet that is on its way to it, and nothing else moves: no app and no destination takes or hands over.
use Rattle.std.specs.Prelude.{ℕ, Bool, List, Option, Some, None}
use Rattle.kn_packet.specs.declared.packet.Packet.{Packet}
use Rattle.kn_server_core.specs.declared.event.ServerEvent.TheVariants.{LinkPacket}
use Rattle.kn_edge_core.specs.declared.agent_event.AgentEvent.TheVariants as agent_event
use Rattle.kn_edge_core.specs.declared.client_event.ClientEvent.TheVariants as client_event
use Rattle.kn_world.specs.declared.state.State.{State}
use Rattle.kn_world.specs.Agents as agents
use Rattle.kn_world.specs.AgentSteps as agent
use Rattle.kn_world.specs.Apps as apps
use Rattle.kn_world.specs.AppSteps as app
use Rattle.kn_world.specs.Clients as clients
use Rattle.kn_world.specs.ClientSteps as client
use Rattle.kn_world.specs.Dials as dials
use Rattle.kn_world.specs.Numbers.{nth, change}
use Rattle.kn_world.specs.ServerSteps as server

-- ---- the server takes a packet of a link
abbrev pub took_up : Option Packet → ℕ → State → State
took_up None link s = s
took_up (Some p) link s = server.step 0 (LinkPacket link p) s

abbrev pub takes_up : ℕ → State → State
takes_up link s = took_up (agents.first_up (nth link s.agents)) link (record s { agents = change agents.rest_up link s.agents })

-- ---- an agent takes a packet of the server: a request is noted as handled
abbrev pub took_down : Option Packet → ℕ → State → State
took_down None link s = s
took_down (Some p) link s = agent.step link (agent.either (agent.asked_by p) (agent.written_by p link s)) (agent_event.Packet p) (record s { dials = change dials.requested (agent.asked_by p) s.dials })

abbrev pub takes_down : ℕ → State → State
takes_down link s = took_down (agents.first_down (nth link s.agents)) link (record s { agents = change agents.rest_down link s.agents })

-- ---- a client takes a packet of the server: an app that it opened is noted as open
abbrev pub notes_open : ℕ → State → State
notes_open k s = record s { apps = change (apps.opened_if (app.state_of k s)) k s.apps }

abbrev pub took_out : Option Packet → ℕ → State → State
took_out None c s = s
took_out (Some p) c s = notes_open (app.answered_by p c s.clients) (client.step c (client_event.Packet p) s)

abbrev pub takes_out : ℕ → State → State
takes_out c s = took_out (clients.first_down (nth c s.clients)) c (record s { clients = change clients.rest_down c s.clients })

-- ---- what a side did: it sent bytes, ended its sending, is held or takes freely
abbrev pub dest_sent : List ℕ → ℕ → State → State
dest_sent bytes dial s = record s { dials = change (dials.sent bytes) dial s.dials }

abbrev pub dest_ended : ℕ → State → State
dest_ended dial s = record s { dials = change dials.ended dial s.dials }

abbrev pub dest_holding : Bool → ℕ → State → State
dest_holding held dial s = record s { dials = change (dials.holding held) dial s.dials }

abbrev pub app_sent : List ℕ → ℕ → State → State
app_sent bytes k s = record s { apps = change (apps.sent bytes) k s.apps }

abbrev pub app_ended : ℕ → State → State
app_ended k s = record s { apps = change apps.ended k s.apps }

abbrev pub app_holding : Bool → ℕ → State → State
app_holding held k s = record s { apps = change (apps.holding held) k s.apps }
