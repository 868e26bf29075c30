-- What agents, destinations and apps do keeps what apps were told.
use Rattle.std.proofs.Common.{◌≡◌, ℕ, ℤ, zero, suc, Bool, true, false, cond, List, [], ◌∷◌, min, take, Option, None, Some, refl, sym, ap}
use Rattle.kn_packet.specs.declared.packet.Packet.{Packet}
use Rattle.kn_packet.specs.declared.packet.Packet.TheVariants.{CloseReq, CloseRsp, Data, DialCls, DialReq, DialRsp, Drain, Other}
use Rattle.kn_edge_core.specs.declared.agent_event.AgentEvent.{AgentEvent}
use Rattle.kn_edge_core.specs.declared.agent_event.AgentEvent.TheVariants as agent_event
use Rattle.kn_edge_core.specs.declared.agent_event.AgentOut.{AgentOut}
use Rattle.kn_edge_core.specs.declared.agent_event.AgentOut.TheVariants as agent_out
use Rattle.kn_edge_core.specs.declared.client_event.ClientEvent.TheVariants as client_event
use Rattle.kn_server_core.specs.declared.event.ServerEvent.TheVariants.{FrontLost, FrontPacket, LinkPacket}
use Rattle.kn_world.specs.declared.parts.App.{App}
use Rattle.kn_world.specs.declared.parts.Client.{Client}
use Rattle.kn_world.specs.declared.parts.Dial.{Dial}
use Rattle.kn_world.specs.declared.parts.Home.{Home}
use Rattle.kn_world.specs.declared.parts.Home.TheVariants as home
use Rattle.kn_world.specs.declared.state.State.{State}
use Rattle.kn_world.specs.Agents as agents
use Rattle.kn_world.specs.AgentSteps as agent
use Rattle.kn_world.specs.Answering as answering
use Rattle.kn_world.specs.Apps as apps
use Rattle.kn_world.specs.AppSteps as app_steps
use Rattle.kn_world.specs.Clients as clients
use Rattle.kn_world.specs.Dials as dials
use Rattle.kn_world.specs.Effects as effects
use Rattle.kn_world.specs.Handing as handing
use Rattle.kn_world.specs.Numbers.{change, nth}
use Rattle.kn_world.specs.Pipes as pipes
use Rattle.kn_world.specs.ServerPackets as server_packets
use Rattle.kn_world.specs.ServerSteps as server
use Rattle.kn_world.specs.Times.{times}
use Rattle.kn_refinement.proofs.RefusedParts.{Told, app_changed, apps_changed, left_door_told, opened_if_told, took_at_told}
use Rattle.kn_refinement.proofs.RefusedServer.{Here, Unanswered, client_step, step_zero}

abbrev Keeps : (State → State) → Type 0
Keeps f = (s : State) → Here s → Here (f s)

-- changes of one app, and of a dial
pub all_changed : (f : App → App) → ((cs : List Client) (a : App) → Told cs a → Told cs (f a)) → (n : ℕ) (s : State) → Here s → Here (record s { apps = change f n s.apps })
all_changed f keeps n s h = apps_changed Unanswered f keeps n s h

pub one_changed : (f : App → App) (n : ℕ) (s : State) → ((a : App) → nth n s.apps ≡ Some a → Told s.clients a → Told s.clients (f a)) → Here s → Here (record s { apps = change f n s.apps })
one_changed f n s keeps h = app_changed Unanswered f n s keeps h

dials_changed : (f : Dial → Dial) → ((d : Dial) → d ≡ d) → (n : ℕ) (s : State) → Here s → Here (record s { dials = change f n s.dials })
dials_changed f same n s h = h

times_keep : (n : ℕ) (f : State → State) → Keeps f → Keeps (times n f)
unfolding times
times_keep zero f one s h = h
times_keep (suc n) f one s h = times_keep n f one (f s) (one s h)

-- ---- agents
answered_keeps : (error : List ℕ) (link dial : ℕ) (connect_id : ℤ) → Keeps (agent.answered error link dial connect_id)
answered_keeps [] link dial connect_id s h = dials_changed (dials.with_connect_id connect_id) (λ d. refl) dial (record s { agents = change (agents.with_connection dial) link s.agents }) h
answered_keeps (x ∷ xs) link dial connect_id s h = h

noted_keeps : (p : Packet) (link dial : ℕ) → Keeps (agent.noted p link dial)
noted_keeps (DialRsp error connect_id random) link dial s h = answered_keeps error link dial connect_id s h
noted_keeps (DialReq protocol address random) link dial s h = h
noted_keeps (CloseReq connect_id) link dial s h = h
noted_keeps (CloseRsp error connect_id) link dial s h = h
noted_keeps (Data connect_id error bytes) link dial s h = h
noted_keeps (DialCls random) link dial s h = h
noted_keeps Drain link dial s h = h
noted_keeps (Other number) link dial s h = h

agent_gives : (o : AgentOut) (link dial : ℕ) → Keeps (agent.gives o link dial)
agent_gives (agent_out.ToServer p) link dial s h = noted_keeps p link dial s h
agent_gives (agent_out.Dial ticket address) link dial s h = dials_changed (dials.with_ticket ticket) (λ d. refl) dial s h
agent_gives (agent_out.Write connect_id bytes) link dial s h = dials_changed (dials.written bytes) (λ d. refl) dial s h
agent_gives (agent_out.CloseDest connect_id) link dial s h = h
agent_gives (agent_out.DropDial ticket) link dial s h = h

agent_gives_all : (os : List AgentOut) (link dial : ℕ) → Keeps (agent.gives_all os link dial)
agent_gives_all [] link dial s h = h
agent_gives_all (o ∷ os) link dial s h = agent_gives_all os link dial (agent.gives o link dial s) (agent_gives o link dial s h)

pub agent_step : (link dial : ℕ) (e : AgentEvent) → Keeps (agent.step link dial e)
agent_step link dial e s h = agent_gives_all (agents.told e (nth link s.agents)) link dial (record s { agents = change (agents.stepped e) link s.agents }) h

dest_takes_of : (o : Option Dial) (dial count : ℕ) → Keeps (agent.takes_of o dial count)
dest_takes_of None dial count s h = h
dest_takes_of (Some d) dial count s h =
    let some : ℕ = agent_count d count s in
    agent_step d.link dial (agent_event.DestWrote d.connect_id some) (record s { dials = change (dials.took some) dial s.dials }) (dials_changed (dials.took some) (λ x. refl) dial s h)
  where
    agent_count : Dial → ℕ → State → ℕ
    agent_count d count s = min count (dials.unwritten_at d.connect_id (nth d.link s.agents))

pub dest_takes : (dial count : ℕ) → Keeps (agent.takes dial count)
dest_takes dial count s h = dest_takes_of (nth dial s.dials) dial count s h

pub dest_takes_freely : (dial : ℕ) → Keeps (agent.takes_freely dial)
dest_takes_freely dial s h = here (agent.is_free dial s)
  where
    here : (b : Bool) → Here (cond b (agent.takes dial 18446744073709551615 s) s)
    here true = dest_takes dial 18446744073709551615 s h
    here false = h

agent_takes_packet : (p : Packet) (link : ℕ) → Keeps (agent.takes_packet p link)
agent_takes_packet p link s h =
    let asked : State = record s { dials = change dials.requested (agent.asked_by p) s.dials } in
    let dial : ℕ = agent.either (agent.asked_by p) (agent.written_by p link s) in
    dest_takes_freely (agent.written_by p link s) (agent.step link dial (agent_event.Packet p) asked)
    (agent_step link dial (agent_event.Packet p) asked (dials_changed dials.requested (λ d. refl) (agent.asked_by p) s h))

-- ---- destinations
dest_hands_of : (o : Option Dial) (dial : ℕ) → Keeps (answering.hands_piece_of o dial)
dest_hands_of None dial s h = h
dest_hands_of (Some d) dial s h = agent_step d.link dial (agent_event.DestBytes d.connect_id (take 16384 d.side.sending.waiting)) (record s { dials = change (dials.handed 16384) dial s.dials }) (dials_changed (dials.handed 16384) (λ x. refl) dial s h)

dest_end_of : (o : Option Dial) (dial : ℕ) → Keeps (answering.gives_end_of o dial)
dest_end_of None dial s h = h
dest_end_of (Some d) dial s h = agent_step d.link dial (agent_event.DestEnd d.connect_id) (record s { dials = change dials.end_told dial s.dials }) (dials_changed dials.end_told (λ x. refl) dial s h)

pub dest_settles : (dial : ℕ) → Keeps (answering.settles dial)
dest_settles dial s h = here (answering.is_end_due dial handed) (times_keep (answering.count_wanted dial s) (answering.hands_piece dial) (λ t k. dest_hands_of (nth dial t.dials) dial t k) s h)
  where
    handed : State
    handed = answering.hands_pieces (answering.count_wanted dial s) dial s

    here : (b : Bool) → Here handed → Here (cond b (answering.gives_end dial handed) handed)
    here true k = dest_end_of (nth dial handed.dials) dial handed k
    here false k = k

-- ---- what apps give
hands_to : (at : Home) (bytes : List ℕ) (app : ℕ) → Keeps (handing.hands_to at bytes app)
hands_to (home.Client c number) bytes app s h = client_step Unanswered c (client_event.AppBytes number bytes) s h
hands_to home.Connect bytes app s h = all_changed (apps.kept bytes) (λ g a it. it) app s h

hands_of : (o : Option App) (app : ℕ) → Keeps (handing.hands_piece_of o app)
hands_of None app s h = h
hands_of (Some a) app s h = hands_to a.home (take 16384 a.side.sending.waiting) app (record s { apps = change (apps.handed 16384) app s.apps }) (all_changed (apps.handed 16384) (λ g a it. it) app s h)

hears_first : (o : Option Packet) (front : ℕ) → Keeps (handing.server_hears_first o front)
hears_first None front s h = h
hears_first (Some p) front s h = step_zero (FrontPacket front p) s h

hears_one : (app : ℕ) → Keeps (handing.server_hears app)
hears_one app s h = hears_first (apps.first_kept (nth app s.apps)) (apps.front_of (nth app s.apps)) (record s { apps = change apps.rest_kept app s.apps }) (all_changed apps.rest_kept (λ g a it. it) app s h)

end_to : (at : Home) (app : ℕ) → Keeps (handing.gives_end_to at app)
end_to (home.Client c number) app s h = client_step Unanswered c (client_event.AppEnd number) s h
end_to home.Connect app s h = step_zero (FrontLost (apps.front_of (nth app s.apps))) (record s { apps = change apps.left_door app s.apps }) (all_changed apps.left_door left_door_told app s h)

end_of : (o : Option App) (app : ℕ) → Keeps (handing.gives_end_of o app)
end_of None app s h = h
end_of (Some a) app s h = end_to a.home app (record s { apps = change apps.end_told app s.apps }) (all_changed apps.end_told (λ g a it. it) app s h)

pub settles : (app : ℕ) → Keeps (handing.settles app)
settles app s h = ends (handing.is_end_due app heard) (times_keep (apps.kept_count (nth app given.apps)) (handing.server_hears app) (hears_one app) given
    (times_keep (handing.count_wanted app s) (handing.hands_piece app) (λ t k. hands_of (nth app t.apps) app t k) s h))
  where
    given : State
    given = handing.hands_wanted app s

    heard : State
    heard = handing.server_hears_kept app given

    ends : (b : Bool) → Here heard → Here (cond b (handing.gives_end app heard) heard)
    ends true k = end_of (nth app heard.apps) app heard k
    ends false k = k

-- ---- what apps take
took : (at : Home) (count app : ℕ) → Keeps (app_steps.took at count app)
took (home.Client c number) count app s h =
    let some : ℕ = min count (clients.unwritten_at number (nth c s.clients)) in
    client_step Unanswered c (client_event.AppWrote number some) (record s { apps = change (apps.took some) app s.apps }) (all_changed (apps.took some) (λ g a it. it) app s h)
took home.Connect count app s h = all_changed (apps.took_at_door count) (λ g a it. took_at_told a.stage count g a it) app s h

takes_of : (o : Option App) (app count : ℕ) → Keeps (app_steps.takes_of o app count)
takes_of None app count s h = h
takes_of (Some a) app count s h = took a.home count app s h

pub takes : (app count : ℕ) → Keeps (app_steps.takes app count)
takes app count s h = takes_of (nth app s.apps) app count s h

pub takes_freely : (app : ℕ) → Keeps (app_steps.takes_freely app)
takes_freely app s h = here (app_steps.is_free app s)
  where
    here : (b : Bool) → Here (cond b (app_steps.takes app 18446744073709551615 s) s)
    here true = takes app 18446744073709551615 s h
    here false = h

pub opens : (app : ℕ) → Keeps (app_steps.opens app)
opens app s h = settles app (record s { apps = change (apps.opened_if (app_steps.state_of app s)) app s.apps }) (opens_first (nth app s.apps) refl)
  where
    opens_first : (o : Option App) → nth app s.apps ≡ o → Here (record s { apps = change (apps.opened_if (app_steps.state_of app s)) app s.apps })
    opens_first o at = one_changed (apps.opened_if (app_steps.state_of app s)) app s (λ a there it. opened_if_told (app_steps.state_of app s) s.clients s.clients a (sym (ap (λ p. app_steps.state_of_app p s.clients) there)) it) h

-- ---- pipes
pub at_server : (o : Option Packet) (link : ℕ) → Keeps (pipes.at_server o link)
at_server None link s h = h
at_server (Some p) link s h = settles (server_packets.answered_by p s) (server.step 0 (LinkPacket link p) s) (step_zero (LinkPacket link p) s h)

pub at_agent : (o : Option Packet) (link : ℕ) → Keeps (pipes.at_agent o link)
at_agent None link s h = h
at_agent (Some p) link s h = agent_takes_packet p link s h

-- ---- dials
pub dial_won : (o : Option Dial) (dial : ℕ) → Keeps (effects.dial_won_of o dial)
dial_won None dial s h = h
dial_won (Some d) dial s h = agent_step d.link dial (agent_event.DialUp d.ticket) s h

pub dial_refused : (o : Option Dial) (dial : ℕ) → Keeps (effects.dial_refused_of o dial)
dial_refused None dial s h = h
dial_refused (Some d) dial s h = agent_step d.link dial (agent_event.DialRefused d.ticket) s h

pub dest_failed : (o : Option Dial) (dial : ℕ) → Keeps (effects.dest_failed_of o dial)
dest_failed None dial s h = h
dest_failed (Some d) dial s h = agent_step d.link dial (agent_event.DestFailed d.connect_id) s h
