-- What an event does.
use Rattle.std.specs.Prelude.{◌≡◌, ℕ, ◌==◌, Bool, true, false, List, Option, Some, None, codes}
use Rattle.kn_edge_core.specs.declared.agent_event.AgentEvent.TheVariants as agent_event
use Rattle.kn_edge_core.specs.declared.client_event.ClientEvent.TheVariants as client_event
use Rattle.kn_world.specs.declared.event.WorldEvent.{WorldEvent}
use Rattle.kn_world.specs.declared.event.WorldEvent.TheVariants as event
use Rattle.kn_world.specs.declared.parts.App.{App}
use Rattle.kn_world.specs.declared.parts.Dial.{Dial}
use Rattle.kn_world.specs.declared.parts.Home.{Home}
use Rattle.kn_world.specs.declared.parts.Home.TheVariants as home
use Rattle.kn_world.specs.declared.state.State.{State}
use Rattle.kn_world.specs.Agents as agents
use Rattle.kn_world.specs.AgentSteps as agent
use Rattle.kn_world.specs.Answering as answering
use Rattle.kn_world.specs.Apps as apps
use Rattle.kn_world.specs.AppSteps as app_steps
use Rattle.kn_world.specs.Arrivals.{agent_comes, client_comes, app_comes, RawAppComes, request_text}
use Rattle.kn_world.specs.Clients as clients
use Rattle.kn_world.specs.ClientSteps as client
use Rattle.kn_world.specs.Dials as dials
use Rattle.kn_world.specs.Handing as handing
use Rattle.kn_world.specs.Hearing.{Hears}
use Rattle.kn_world.specs.Numbers.{nth, change}
use Rattle.kn_world.specs.Pipes.{step, rounds}
use Rattle.kn_world.specs.ServerPackets.{loses_link, loses_front}

-- ---- an agent's dial, and a destination
abbrev pub dial_won_of : Option Dial → ℕ → State → State
dial_won_of None dial s = s
dial_won_of (Some d) dial s = agent.step d.link dial (agent_event.DialUp d.ticket) s

abbrev pub dial_won : ℕ → State → State
dial_won dial s = dial_won_of (nth dial s.dials) dial s

abbrev pub dial_refused_of : Option Dial → ℕ → State → State
dial_refused_of None dial s = s
dial_refused_of (Some d) dial s = agent.step d.link dial (agent_event.DialRefused d.ticket) s

abbrev pub dial_refused : ℕ → State → State
dial_refused dial s = dial_refused_of (nth dial s.dials) dial s

abbrev pub dest_failed_of : Option Dial → ℕ → State → State
dest_failed_of None dial s = s
dest_failed_of (Some d) dial s = agent.step d.link dial (agent_event.DestFailed d.connect_id) s

abbrev pub dest_failed : ℕ → State → State
dest_failed dial s = dest_failed_of (nth dial s.dials) dial s

abbrev pub dest_sent : List ℕ → ℕ → State → State
dest_sent bytes dial s = answering.settles dial (record s { dials = change (dials.sent bytes) dial s.dials })

abbrev pub dest_ended : ℕ → State → State
dest_ended dial s = answering.settles dial (record s { dials = change dials.ended dial s.dials })

abbrev pub dest_held : ℕ → State → State
dest_held dial s = record s { dials = change (dials.holding true) dial s.dials }

abbrev pub dest_freed : ℕ → State → State
dest_freed dial s = agent.takes_freely dial (record s { dials = change (dials.holding false) dial s.dials })

-- ---- an app; the bytes of one by CONNECT are those of its head until this is whole
abbrev pub is_unheard : Home → App → Bool
is_unheard home.Connect a = a.door.number == 0
is_unheard (home.Client c number) a = false

abbrev pub is_unheard_of : Option App → Bool
is_unheard_of None = false
is_unheard_of (Some a) = is_unheard a.home a

abbrev pub is_app_unheard : ℕ → State → Bool
is_app_unheard app s = is_unheard_of (nth app s.apps)

abbrev pub app_sent : List ℕ → ℕ → State → State
app_sent bytes app s = handing.settles app (record s { apps = change (apps.sent bytes) app s.apps })

abbrev pub SendsIf : Bool → List ℕ → ℕ → State → State → Type 0
SendsIf true bytes app old new = Hears bytes app old new
SendsIf false bytes app old new = new ≡ app_sent bytes app old

abbrev pub Sends : List ℕ → ℕ → State → State → Type 0
Sends bytes app old new = SendsIf (is_app_unheard app old) bytes app old new

abbrev pub app_ended : ℕ → State → State
app_ended app s = handing.settles app (record s { apps = change apps.ended app s.apps })

abbrev pub app_held : ℕ → State → State
app_held app s = record s { apps = change (apps.holding true) app s.apps }

abbrev pub app_freed : ℕ → State → State
app_freed app s = app_steps.takes_freely app (record s { apps = change (apps.holding false) app s.apps })

-- ---- an agent drains; an end of a connection is lost
abbrev pub drained : ℕ → State → State
drained link s = agent.step link 0 agent_event.DrainNow (record s { agents = change agents.with_drain link s.agents })

abbrev pub agent_lost : ℕ → State → State
agent_lost link s = agent.step link 0 agent_event.LinkLost (record s { agents = change agents.lost_at_agent link s.agents })

abbrev pub client_lost : ℕ → State → State
client_lost c s = client.step c (client_event.StreamEnded (codes "server lost")) (record s { clients = change clients.lost_at_client c s.clients })

-- ---- events
-- an event that is not idle; the answer to bytes where a CONNECT request is expected is a relation
abbrev pub Does : WorldEvent → State → State → Type 0
Does (event.Agent identifiers) old new = new ≡ agent_comes identifiers old
Does event.Client old new = new ≡ client_comes old
Does (event.App c address) old new = new ≡ app_comes c address old
Does (event.Connect address) old new = RawAppComes (request_text address) old new
Does (event.Raw bytes) old new = RawAppComes bytes old new
Does (event.Up dial) old new = new ≡ dial_won dial old
Does (event.Refuse dial) old new = new ≡ dial_refused dial old
Does (event.Send app bytes) old new = Sends bytes app old new
Does (event.Answer dial bytes) old new = new ≡ dest_sent bytes dial old
Does (event.End app) old new = new ≡ app_ended app old
Does (event.Hang dial) old new = new ≡ dest_ended dial old
Does (event.Fail dial) old new = new ≡ dest_failed dial old
Does (event.Drain link) old new = new ≡ drained link old
Does (event.HoldDest dial) old new = new ≡ dest_held dial old
Does (event.HoldApp app) old new = new ≡ app_held app old
Does (event.TakeDest dial count) old new = new ≡ agent.takes dial count old
Does (event.TakeApp app count) old new = new ≡ app_steps.takes app count old
Does (event.GoDest dial) old new = new ≡ dest_freed dial old
Does (event.GoApp app) old new = new ≡ app_freed app old
Does (event.LoseServer link) old new = new ≡ loses_link link old
Does (event.LoseAgent link) old new = new ≡ agent_lost link old
Does (event.LoseFront c) old new = new ≡ loses_front c old
Does (event.LoseClient c) old new = new ≡ client_lost c old
Does (event.Step pipe) old new = new ≡ step pipe old
Does (event.Pass count) old new = new ≡ rounds count old
