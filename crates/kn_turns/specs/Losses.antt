-- An end loses a connection. What is on its way to it is dropped; of what it queued itself any front is left, and the rest may be lost before it was
-- written.
use Rattle.std.specs.Prelude.{ℕ, false, List, [], take}
use Rattle.kn_server_core.specs.declared.event.ServerEvent.TheVariants.{FrontLost, LinkLost}
use Rattle.kn_edge_core.specs.declared.agent_event.AgentEvent.TheVariants as agent_event
use Rattle.kn_edge_core.specs.declared.client_event.ClientEvent.TheVariants as client_event
use Rattle.kn_world.specs.declared.parts.Agent.{Agent}
use Rattle.kn_world.specs.declared.parts.Client.{Client}
use Rattle.kn_world.specs.declared.state.State.{State}
use Rattle.kn_world.specs.AgentSteps as agent
use Rattle.kn_world.specs.Clients as clients
use Rattle.kn_world.specs.ClientSteps as client
use Rattle.kn_world.specs.Numbers.{nth, change}
use Rattle.kn_world.specs.ServerSteps as server

-- ---- the server loses a link, or a client's front: so many packets are left
abbrev pub gone_at_server : ℕ → Agent → Agent
gone_at_server left a = record a { at_server = false; up = []; down = take left a.down }

abbrev pub loses_link : ℕ → ℕ → State → State
loses_link link left s = server.step 0 (LinkLost link) (record s { agents = change (gone_at_server left) link s.agents })

abbrev pub front_gone : ℕ → Client → Client
front_gone left c = record c { at_server = false; up = []; down = take left c.down }

abbrev pub loses_front : ℕ → ℕ → State → State
loses_front client left s = server.step 0 (FrontLost (clients.front_of (nth client s.clients))) (record s { clients = change (front_gone left) client s.clients })

-- ---- an agent loses its link, a client its stream
abbrev pub gone_at_agent : ℕ → Agent → Agent
gone_at_agent left a = record a { at_agent = false; up = take left a.up; down = [] }

abbrev pub agent_loses : ℕ → ℕ → State → State
agent_loses link left s = agent.step link 0 agent_event.LinkLost (record s { agents = change (gone_at_agent left) link s.agents })

abbrev pub stream_gone : ℕ → Client → Client
stream_gone left c = record c { at_client = false; up = take left c.up; down = [] }

abbrev pub client_loses : ℕ → ℕ → List ℕ → State → State
client_loses c left error s = client.step c (client_event.StreamEnded error) (record s { clients = change (stream_gone left) c s.clients })
