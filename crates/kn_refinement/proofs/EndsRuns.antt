-- Every event settles what it names: it leaves no end due, if none was due before.
use Rattle.std.proofs.Common.{◌&&◌, not, eqb-true, ◌==◌, ◌<◌, arith, append_assoc, length-append, take-append-drop, ◌≡◌, ◌++◌, ℕ, ℤ, zero, suc, Bool, true, false, cond, List, [], ◌∷◌, length, drop, min, take, ◌+◌, Option, None, Some, Result, Ok, Err, refl, sym, ap, ◌∙◌, subst, append-nil, codes}
use Rattle.kn_packet.specs.declared.packet.Packet.{Packet}
use Rattle.kn_packet.specs.declared.packet.Packet.TheVariants.{CloseReq, CloseRsp, Data, DialCls, DialReq, DialRsp, Drain, Other}
use Rattle.kn_connect.specs.declared.answer.ConnectAnswer.{ConnectAnswer}
use Rattle.kn_connect.specs.declared.answer.ConnectAnswer.TheVariants.{Head, More}
use Rattle.kn_connect.specs.declared.answer.ConnectError.{ConnectError}
use Rattle.kn_connect.specs.declared.answer.ConnectError.TheVariants as connect_error
use Rattle.kn_route.specs.Identifiers.{identifiers_in}
use Rattle.kn_route.specs.declared.id_kind.IdKind.{IdKind}
use Rattle.kn_route.specs.declared.identifiers.IdFault.{IdFault}
use Rattle.kn_edge_core.specs.declared.agent_event.AgentEvent.{AgentEvent}
use Rattle.kn_edge_core.specs.declared.agent_event.AgentEvent.TheVariants as agent_event
use Rattle.kn_edge_core.specs.declared.agent_event.AgentOut.{AgentOut}
use Rattle.kn_edge_core.specs.declared.agent_event.AgentOut.TheVariants as agent_out
use Rattle.kn_edge_core.specs.declared.client_event.ClientEvent.{ClientEvent}
use Rattle.kn_edge_core.specs.declared.client_event.ClientEvent.TheVariants as client_event
use Rattle.kn_edge_core.specs.declared.client_event.ClientOut.{ClientOut}
use Rattle.kn_edge_core.specs.declared.client_event.ClientOut.TheVariants as client_out
use Rattle.kn_server_core.specs.declared.event.ServerEvent.TheVariants.{FrontLost, FrontPacket, FrontUp, LinkLost, LinkPacket, LinkUp}
use Rattle.kn_world.specs.declared.event.Pipe.{Pipe}
use Rattle.kn_world.specs.declared.event.Pipe.TheVariants.{AgentDown, AgentUp, ClientDown, ClientUp}
use Rattle.kn_world.specs.declared.event.Seen.{Seen}
use Rattle.kn_world.specs.declared.event.Seen.TheVariants.{Idle, Moved}
use Rattle.kn_world.specs.declared.event.WorldEvent.{WorldEvent}
use Rattle.kn_world.specs.declared.event.WorldEvent.TheVariants as event
use Rattle.kn_world.specs.declared.parts.App.{App}
use Rattle.kn_world.specs.declared.parts.Client.{Client}
use Rattle.kn_world.specs.declared.parts.Dial.{Dial}
use Rattle.kn_world.specs.declared.parts.Home.{Home}
use Rattle.kn_world.specs.declared.parts.Home.TheVariants as home
use Rattle.kn_world.specs.declared.state.State.{State}
use Rattle.kn_world.specs.Agents as agents
use Rattle.kn_world.specs.AgentSteps as agent
use Rattle.kn_world.specs.Answering as answering
use Rattle.kn_world.specs.Apps as apps
use Rattle.kn_world.specs.AppSteps as app_steps
use Rattle.kn_world.specs.Arrivals as arrivals
use Rattle.kn_world.specs.Clients as clients
use Rattle.kn_world.specs.ClientSteps as client
use Rattle.kn_world.specs.Dials as dials
use Rattle.kn_world.specs.Effects as effects
use Rattle.kn_world.specs.Events.{Happens, HappensAs, Runs}
use Rattle.kn_world.specs.Handing as handing
use Rattle.kn_world.specs.Hearing as hearing
use Rattle.kn_world.specs.Idle.{seen_of}
use Rattle.kn_world.specs.Numbers.{change, nth}
use Rattle.kn_world.specs.Pipes as pipes
use Rattle.kn_world.specs.ServerPackets as server_packets
use Rattle.kn_world.specs.ServerSteps as server
use Rattle.kn_world.specs.Times.{times}
use Rattle.kn_connect.specs.Statuses.{fault_status, reply_length}
use Rattle.kn_connect.specs.Answers.{Answers, IsGiven}
use Rattle.kn_server_core.specs.Server as core
use Rattle.kn_server_core.specs.declared.event.ServerEvent.{ServerEvent}
use Rattle.kn_server_core.specs.declared.event.ServerOut.{ServerOut}
use Rattle.kn_server_core.specs.declared.event.ServerOut.TheVariants as server_out
use Rattle.kn_world.specs.declared.parts.Owner.{Owner}
use Rattle.kn_world.specs.declared.parts.Owner.TheVariants as owner
use Rattle.kn_world.specs.States.{new_app, new_dial, start}
use Rattle.kn_world.specs.Idle.{can_answer, can_send, is_app_here, is_at_door, is_at_home, is_dest_here, moved_if, there_and}
use Rattle.std.specs.Option.{option_map}
use Rattle.kn_route.specs.declared.strategy.Strategy.{Strategy}
use Rattle.kn_refinement.proofs.Pairs.{came_last}
use Rattle.kn_world.specs.Numbers.{changed}
use Rattle.kn_world.specs.declared.parts.Stage.TheVariants as stage
use Rattle.kn_refinement.proofs.Changes.{changed_own}
use Rattle.kn_refinement.proofs.NumberLemmas.{length_more, nth_change}
use Rattle.std.proofs.Math.Dec.{eqb-suc-suc, eqb-suc-zero}
use Rattle.kn_refinement.specs.Ends.{NoEndIsDue, TellsItsEnd}
use Rattle.kn_refinement.proofs.EndsParts.{Holds, Kept, app_left_out, app_more, app_told, apps_changed, but, but_dial, dial_left_out, dial_more, dial_told, dials_changed, early_kept_due, heard_due, left_due, opened_if_due, refused_due, took_at_due, with_app, with_dial}

module _ (but_app but_dials : ℕ) where
  abbrev Here : State → Type 0
  Here s = Holds but_app but_dials s

  abbrev Keeps : (State → State) → Type 0
  Keeps f = (s : State) → Here s → Here (f s)

  times_keep : (n : ℕ) (f : State → State) → Keeps f → Keeps (times n f)
  unfolding times
  times_keep zero f one s h = h
  times_keep (suc n) f one s h = times_keep n f one (f s) (one s h)

  -- ---- the server
  to_owner : (o : Option Owner) (p : Packet) → Keeps (server.to_owner o p)
  to_owner None p s h = h
  to_owner (Some (owner.Client c)) p s h = h
  to_owner (Some (owner.App app)) p s h = apps_changed but_app but_dials (apps.heard p) (heard_due p) app s h

  server_gives : (o : ServerOut) (app : ℕ) → Keeps (server.gives o app)
  server_gives (server_out.ToLink link p) app s h = h
  server_gives (server_out.ToFront front p) app s h = to_owner (nth front s.fronts) p s h
  server_gives (server_out.CutLink link) app s h = h
  server_gives (server_out.Made dial link front) app s h =
      dial_more but_app but_dials (new_dial link app) refl (change (apps.with_dial dial) app s.apps) s.dials (apps_changed but_app but_dials (apps.with_dial dial) (λ a. refl) app s h)

  server_gives_all : (os : List ServerOut) (app : ℕ) → Keeps (server.gives_all os app)
  server_gives_all [] app s h = h
  server_gives_all (o ∷ os) app s h = server_gives_all os app (server.gives o app s) (server_gives o app s h)

  server_step : (app : ℕ) (e : ServerEvent) → Keeps (server.step app e)
  server_step app e s h = server_gives_all (core.step s.server e).outs app (server.stepped app e s) h

  -- ---- agents
  answered_keeps : (error : List ℕ) (link dial : ℕ) (connect_id : ℤ) → Keeps (agent.answered error link dial connect_id)
  answered_keeps [] link dial connect_id s h = dials_changed but_app but_dials (dials.with_connect_id connect_id) (λ d. refl) dial (record s { agents = change (agents.with_connection dial) link s.agents }) h
  answered_keeps (x ∷ xs) link dial connect_id s h = h

  noted_keeps : (p : Packet) (link dial : ℕ) → Keeps (agent.noted p link dial)
  noted_keeps (DialRsp error connect_id random) link dial s h = answered_keeps error link dial connect_id s h
  noted_keeps (DialReq protocol address random) link dial s h = h
  noted_keeps (CloseReq connect_id) link dial s h = h
  noted_keeps (CloseRsp error connect_id) link dial s h = h
  noted_keeps (Data connect_id error bytes) link dial s h = h
  noted_keeps (DialCls random) link dial s h = h
  noted_keeps Drain link dial s h = h
  noted_keeps (Other number) link dial s h = h

  agent_gives : (o : AgentOut) (link dial : ℕ) → Keeps (agent.gives o link dial)
  agent_gives (agent_out.ToServer p) link dial s h = noted_keeps p link dial s h
  agent_gives (agent_out.Dial ticket address) link dial s h = dials_changed but_app but_dials (dials.with_ticket ticket) (λ d. refl) dial s h
  agent_gives (agent_out.Write connect_id bytes) link dial s h = dials_changed but_app but_dials (dials.written bytes) (λ d. refl) dial s h
  agent_gives (agent_out.CloseDest connect_id) link dial s h = h
  agent_gives (agent_out.DropDial ticket) link dial s h = h

  agent_gives_all : (os : List AgentOut) (link dial : ℕ) → Keeps (agent.gives_all os link dial)
  agent_gives_all [] link dial s h = h
  agent_gives_all (o ∷ os) link dial s h = agent_gives_all os link dial (agent.gives o link dial s) (agent_gives o link dial s h)

  agent_step : (link dial : ℕ) (e : AgentEvent) → Keeps (agent.step link dial e)
  agent_step link dial e s h = agent_gives_all (agents.told e (nth link s.agents)) link dial (record s { agents = change (agents.stepped e) link s.agents }) h

  dest_takes_of : (o : Option Dial) (dial count : ℕ) → Keeps (agent.takes_of o dial count)
  dest_takes_of None dial count s h = h
  dest_takes_of (Some d) dial count s h =
      let some : ℕ = agent_count d count s in
      agent_step d.link dial (agent_event.DestWrote d.connect_id some) (record s { dials = change (dials.took some) dial s.dials }) (dials_changed but_app but_dials (dials.took some) (λ x. refl) dial s h)
    where
      agent_count : Dial → ℕ → State → ℕ
      agent_count d count s = min count (dials.unwritten_at d.connect_id (nth d.link s.agents))

  dest_takes : (dial count : ℕ) → Keeps (agent.takes dial count)
  dest_takes dial count s h = dest_takes_of (nth dial s.dials) dial count s h

  dest_takes_freely : (dial : ℕ) → Keeps (agent.takes_freely dial)
  dest_takes_freely dial s h = here (agent.is_free dial s)
    where
      here : (b : Bool) → Here (cond b (agent.takes dial 18446744073709551615 s) s)
      here true = dest_takes dial 18446744073709551615 s h
      here false = h

  agent_takes_packet : (p : Packet) (link : ℕ) → Keeps (agent.takes_packet p link)
  agent_takes_packet p link s h =
      let asked : State = record s { dials = change dials.requested (agent.asked_by p) s.dials } in
      let dial : ℕ = agent.either (agent.asked_by p) (agent.written_by p link s) in
      dest_takes_freely (agent.written_by p link s) (agent.step link dial (agent_event.Packet p) asked)
      (agent_step link dial (agent_event.Packet p) asked (dials_changed but_app but_dials dials.requested (λ d. refl) (agent.asked_by p) s h))

  -- ---- clients
  client_gives : (o : ClientOut) (c : ℕ) → Keeps (client.gives o c)
  client_gives (client_out.ToServer p) c s h = h
  client_gives (client_out.ToApp app bytes) c s h = apps_changed but_app but_dials (apps.written bytes) (λ a. refl) (clients.app_at app (nth c s.clients)) s h
  client_gives (client_out.EndApp app error) c s h = apps_changed but_app but_dials (apps.left error) (left_due error) (clients.app_at app (nth c s.clients)) s h

  client_gives_all : (os : List ClientOut) (c : ℕ) → Keeps (client.gives_all os c)
  client_gives_all [] c s h = h
  client_gives_all (o ∷ os) c s h = client_gives_all os c (client.gives o c s) (client_gives o c s h)

  client_step : (c : ℕ) (e : ClientEvent) → Keeps (client.step c e)
  client_step c e s h = client_gives_all (clients.told e (nth c s.clients)) c (record s { clients = change (clients.stepped e) c s.clients }) h

  -- ---- what apps give
  hands_to : (at : Home) (bytes : List ℕ) (app : ℕ) → Keeps (handing.hands_to at bytes app)
  hands_to (home.Client c number) bytes app s h = client_step c (client_event.AppBytes number bytes) s h
  hands_to home.Connect bytes app s h = apps_changed but_app but_dials (apps.kept bytes) (λ a. refl) app s h

  hears_first : (o : Option Packet) (front : ℕ) → Keeps (handing.server_hears_first o front)
  hears_first None front s h = h
  hears_first (Some p) front s h = server_step 0 (FrontPacket front p) s h

  hears_one : (app : ℕ) → Keeps (handing.server_hears app)
  hears_one app s h = hears_first (apps.first_kept (nth app s.apps)) (apps.front_of (nth app s.apps)) (record s { apps = change apps.rest_kept app s.apps }) (apps_changed but_app but_dials apps.rest_kept (λ a. refl) app s h)

  end_to : (at : Home) (app : ℕ) → Keeps (handing.gives_end_to at app)
  end_to (home.Client c number) app s h = client_step c (client_event.AppEnd number) s h
  end_to home.Connect app s h = server_step 0 (FrontLost (apps.front_of (nth app s.apps))) (record s { apps = change apps.left_door app s.apps }) (apps_changed but_app but_dials apps.left_door (λ a. refl) app s h)

  -- ---- what apps take
  took : (at : Home) (count app : ℕ) → Keeps (app_steps.took at count app)
  took (home.Client c number) count app s h =
      let some : ℕ = min count (clients.unwritten_at number (nth c s.clients)) in
      client_step c (client_event.AppWrote number some) (record s { apps = change (apps.took some) app s.apps }) (apps_changed but_app but_dials (apps.took some) (λ a. refl) app s h)
  took home.Connect count app s h = apps_changed but_app but_dials (apps.took_at_door count) (λ a. took_at_due a.stage count a) app s h

  takes_of : (o : Option App) (app count : ℕ) → Keeps (app_steps.takes_of o app count)
  takes_of None app count s h = h
  takes_of (Some a) app count s h = took a.home count app s h

  takes : (app count : ℕ) → Keeps (app_steps.takes app count)
  takes app count s h = takes_of (nth app s.apps) app count s h

  takes_freely : (app : ℕ) → Keeps (app_steps.takes_freely app)
  takes_freely app s h = here (app_steps.is_free app s)
    where
      here : (b : Bool) → Here (cond b (app_steps.takes app 18446744073709551615 s) s)
      here true = takes app 18446744073709551615 s h
      here false = h

-- ---- with none left out
abbrev All : State → Type 0
All s = Holds 0 0 s

abbrev Keep : (State → State) → Type 0
Keep f = (s : State) → All s → All (f s)

-- ---- destinations: one is settled whether or not its end was due before
dest_hands_of : (o : Option Dial) (dial : ℕ) (s : State) → Holds 0 dial s → Holds 0 dial (answering.hands_piece_of o dial s)
dest_hands_of None dial s h = h
dest_hands_of (Some d) dial s h = agent_step 0 dial d.link dial (agent_event.DestBytes d.connect_id (take 16384 d.side.sending.waiting)) (record s { dials = change (dials.handed 16384) dial s.dials }) (dial_left_out (dials.handed 16384) dial 0 s h)

dest_end_of : (o : Option Dial) (dial : ℕ) (s : State) → nth dial s.dials ≡ o → Holds 0 dial s → All (answering.gives_end_of o dial s)
dest_end_of None dial s there h = with_dial dial s (ap answering.is_end_due_of there) h
dest_end_of (Some d) dial s there h = agent_step 0 0 d.link dial (agent_event.DestEnd d.connect_id) (record s { dials = change dials.end_told dial s.dials }) (dial_told dial s h)

dest_settles : (dial : ℕ) (s : State) → Holds 0 dial s → All (answering.settles dial s)
dest_settles dial s h = here (answering.is_end_due dial handed) refl (times_keep 0 dial (answering.count_wanted dial s) (answering.hands_piece dial) (λ t k. dest_hands_of (nth dial t.dials) dial t k) s h)
  where
    handed : State
    handed = answering.hands_pieces (answering.count_wanted dial s) dial s

    here : (b : Bool) → answering.is_end_due dial handed ≡ b → Holds 0 dial handed → All (cond b (answering.gives_end dial handed) handed)
    here true is k = dest_end_of (nth dial handed.dials) dial handed refl k
    here false is k = with_dial dial handed is k

-- ---- apps
hands_of : (o : Option App) (app : ℕ) (s : State) → Holds app 0 s → Holds app 0 (handing.hands_piece_of o app s)
hands_of None app s h = h
hands_of (Some a) app s h = hands_to app 0 a.home (take 16384 a.side.sending.waiting) app (record s { apps = change (apps.handed 16384) app s.apps }) (app_left_out (apps.handed 16384) app 0 s h)

end_of : (o : Option App) (app : ℕ) (s : State) → nth app s.apps ≡ o → Holds app 0 s → All (handing.gives_end_of o app s)
end_of None app s there h = with_app app s (ap handing.is_end_due_of there) h
end_of (Some a) app s there h = end_to 0 0 a.home app (record s { apps = change apps.end_told app s.apps }) (app_told app s h)

settles : (app : ℕ) (s : State) → Holds app 0 s → All (handing.settles app s)
settles app s h = ends (handing.is_end_due app heard) refl (times_keep app 0 (apps.kept_count (nth app given.apps)) (handing.server_hears app) (hears_one app 0 app) given
    (times_keep app 0 (handing.count_wanted app s) (handing.hands_piece app) (λ t k. hands_of (nth app t.apps) app t k) s h))
  where
    given : State
    given = handing.hands_wanted app s

    heard : State
    heard = handing.server_hears_kept app given

    ends : (b : Bool) → handing.is_end_due app heard ≡ b → Holds app 0 heard → All (cond b (handing.gives_end app heard) heard)
    ends true is k = end_of (nth app heard.apps) app heard refl k
    ends false is k = with_app app heard is k

opens : (app : ℕ) → Keep (app_steps.opens app)
opens app s h = settles app opened (but app opened (apps_changed 0 0 (apps.opened_if (app_steps.state_of app s)) (opened_if_due (app_steps.state_of app s)) app s h))
  where
    opened : State
    opened = record s { apps = change (apps.opened_if (app_steps.state_of app s)) app s.apps }

client_takes_packet : (p : Packet) (c : ℕ) → Keep (app_steps.takes_packet p c)
client_takes_packet p c s h =
    takes_freely 0 0 (app_steps.written_by p c s.clients) (app_steps.opens (app_steps.answered_by p c s.clients) (client.step c (client_event.Packet p) s))
    (opens (app_steps.answered_by p c s.clients) (client.step c (client_event.Packet p) s) (client_step 0 0 c (client_event.Packet p) s h))

-- ---- pipes
at_server : (o : Option Packet) (link : ℕ) → Keep (pipes.at_server o link)
at_server None link s h = h
at_server (Some p) link s h = settles (server_packets.answered_by p s) (server.step 0 (LinkPacket link p) s) (but (server_packets.answered_by p s) (server.step 0 (LinkPacket link p) s) (server_step 0 0 0 (LinkPacket link p) s h))

at_agent : (o : Option Packet) (link : ℕ) → Keep (pipes.at_agent o link)
at_agent None link s h = h
at_agent (Some p) link s h = agent_takes_packet 0 0 p link s h

at_front : (o : Option Packet) (c : ℕ) → Keep (pipes.at_front o c)
at_front None c s h = h
at_front (Some p) c s h = server_step 0 0 (server_packets.asker p c s.clients) (FrontPacket (clients.front_of (nth c s.clients)) p) s h

at_client : (o : Option Packet) (c : ℕ) → Keep (pipes.at_client o c)
at_client None c s h = h
at_client (Some p) c s h = client_takes_packet p c s h

pipe_keeps : (p : Pipe) → Keep (pipes.step p)
pipe_keeps (AgentUp link) s h = at_server (agents.first_up (nth link s.agents)) link (record s { agents = change agents.rest_up link s.agents }) h
pipe_keeps (AgentDown link) s h = at_agent (agents.first_down (nth link s.agents)) link (record s { agents = change agents.rest_down link s.agents }) h
pipe_keeps (ClientUp c) s h = at_front (clients.first_up (nth c s.clients)) c (record s { clients = change clients.rest_up c s.clients }) h
pipe_keeps (ClientDown c) s h = at_client (clients.first_down (nth c s.clients)) c (record s { clients = change clients.rest_down c s.clients }) h

delivered_keeps : (p : Pipe) → Keep (pipes.delivered p)
unfolding pipes.delivered
delivered_keeps p s h = times_keep 0 0 (pipes.count_in p s) (pipes.step p) (pipe_keeps p) s h

agents_deliver : (n : ℕ) → Keep (pipes.agents_delivered n)
agents_deliver zero s h = h
agents_deliver (suc n) s h =
    let before : State = pipes.agents_delivered n s in
    delivered_keeps (AgentDown (suc n)) (pipes.delivered (AgentUp (suc n)) before) (delivered_keeps (AgentUp (suc n)) before (agents_deliver n s h))

clients_deliver : (n : ℕ) → Keep (pipes.clients_delivered n)
clients_deliver zero s h = h
clients_deliver (suc n) s h =
    let before : State = pipes.clients_delivered n s in
    delivered_keeps (ClientDown (suc n)) (pipes.delivered (ClientUp (suc n)) before) (delivered_keeps (ClientUp (suc n)) before (clients_deliver n s h))

round_keeps : Keep pipes.round
unfolding pipes.round
round_keeps s h = let t : State = pipes.agents_delivered (length s.agents) s in clients_deliver (length t.clients) t (agents_deliver (length s.agents) s h)

rounds_keep : (n : ℕ) → Keep (pipes.rounds n)
unfolding pipes.rounds
rounds_keep zero s h = h
rounds_keep (suc n) s h = here (pipes.nothing_in_flight s) (rounds_keep n (pipes.round s) (round_keeps s h))
  where
    here : (b : Bool) → All (pipes.rounds n (pipes.round s)) → All (cond b s (pipes.rounds n (pipes.round s)))
    here true later = h
    here false later = later

-- ---- arrivals
client_comes : Keep arrivals.client_comes
client_comes s h =
    let front : ℕ = length (arrivals.with_owner s).fronts in
    server_step 0 0 0 (FrontUp front) (arrivals.with_client front (arrivals.with_owner s)) h

app_comes_at : (o : Option Client) (c : ℕ) (address : List ℕ) → Keep (arrivals.app_comes_at o c address)
app_comes_at None c address s h = h
app_comes_at (Some found) c address s h = here (clients.is_at_client (nth c noted.clients))
  where
    number : ℕ
    number = length found.apps + 1

    last : ℕ
    last = length (arrivals.with_app c number s).apps

    noted : State
    noted = arrivals.app_noted c last (arrivals.with_app c number s)

    came : All noted
    came = app_more 0 0 (new_app (home.Client c number)) refl s.apps s.dials h

    here : (b : Bool) → All (cond b (arrivals.asks c number address noted) (arrivals.refuses last noted))
    here true = client_step 0 0 c (client_event.AppUp number address) noted came
    here false = apps_changed 0 0 (apps.left (codes "server lost")) (left_due (codes "server lost")) last noted came

-- ---- dials
dial_won : (o : Option Dial) (dial : ℕ) → Keep (effects.dial_won_of o dial)
dial_won None dial s h = h
dial_won (Some d) dial s h = agent_step 0 0 d.link dial (agent_event.DialUp d.ticket) s h

dial_refused : (o : Option Dial) (dial : ℕ) → Keep (effects.dial_refused_of o dial)
dial_refused None dial s h = h
dial_refused (Some d) dial s h = agent_step 0 0 d.link dial (agent_event.DialRefused d.ticket) s h

dest_failed : (o : Option Dial) (dial : ℕ) → Keep (effects.dest_failed_of o dial)
dest_failed None dial s h = h
dest_failed (Some d) dial s h = agent_step 0 0 d.link dial (agent_event.DestFailed d.connect_id) s h

-- ---- bytes of an app by CONNECT, until its head is whole
module _ (bytes : List ℕ) (app : ℕ) (old : State) (h : All old) where
  abbrev rest : List ℕ
  rest = drop 16384 bytes

  read_keeps : (front : List ℕ) → All (record old { apps = change (hearing.with_front front) app old.apps })
  read_keeps front = apps_changed 0 0 (hearing.with_front front) (λ a. refl) app old h

  head_comes : (target early : List ℕ) (read : State) → All read → All (hearing.head_came target early rest app read)
  head_comes target early read k =
      let owned : State = hearing.with_owner app read in
      let front : ℕ = length owned.fronts in
      let headed : State = hearing.with_head front early rest app owned in
      let up : State = server.step 0 (FrontUp front) headed in
      let asked : State = hearing.front_up front target app headed in
      settles app (hearing.early_kept early app asked)
      (apps_changed app 0 (apps.early_kept early) (λ a. early_kept_due a.stage early a) app asked
      (server_step app 0 app (FrontPacket front (hearing.request target)) up (server_step app 0 0 (FrontUp front) headed
      (app_left_out (apps.head_read front early rest) app 0 owned (but app owned k)))))

  responds : (answer : Result ConnectAnswer ConnectError) (read : State) → All read → All (hearing.responds answer rest app read)
  responds (Ok More) read k = settles app read (but app read k)
  responds (Ok (Head target early)) read k = head_comes target early read k
  responds (Err (connect_error.Fault fault)) read k = apps_changed 0 0 (apps.refused (fault_status fault)) (refused_due (fault_status fault)) app read k
  responds (Err connect_error.NoMemory) read k = k

  hears_all : (o : Option App) → nth app old.apps ≡ o → (answer : Result ConnectAnswer ConnectError) (read : List App) → hearing.Feeds o (take 16384 bytes) app answer old.apps read → All (record old { apps = read })
  hears_all None there answer read feeds = subst (λ all. All (record old { apps = all })) (sym feeds.0) h
  hears_all (Some a) there answer read feeds = subst (λ all. All (record old { apps = all })) (sym (feeds.1 ∙ sym (ap (λ o. changed (hearing.with_front (hearing.holds answer (a.door.front ++ take 16384 bytes))) app old.apps o) there))) (read_keeps (hearing.holds answer (a.door.front ++ take 16384 bytes)))

  hears : (new : State) → hearing.Hears bytes app old new → All new
  hears new heard = subst (λ s. All s) (sym heard.4) (responds heard.0 (record old { apps = heard.1 }) (hears_all (nth app old.apps) refl heard.0 heard.1 heard.2))

-- ---- events
agent_comes : (given : Result (List (IdKind × List ℕ)) IdFault) → Keep (arrivals.agent_read given)
agent_comes (Err fault) s h = h
agent_comes (Ok identifiers) s h = server_step 0 0 0 (LinkUp (length (arrivals.with_agent s).agents) identifiers) (arrivals.with_agent s) h

raw_comes : (bytes : List ℕ) (old new : State) → arrivals.RawAppComes bytes old new → All old → All new
raw_comes bytes old new heard h = hears bytes (length (arrivals.with_connect old).apps) (arrivals.with_connect old) (app_more 0 0 (new_app home.Connect) refl old.apps old.dials h) new heard

sends_if : (b : Bool) (bytes : List ℕ) (app : ℕ) (old new : State) → effects.SendsIf b bytes app old new → All old → All new
sends_if true bytes app old new heard h = hears bytes app old h new heard
sends_if false bytes app old new same h = subst (λ s. All s) (sym same) (settles app (record old { apps = change (apps.sent bytes) app old.apps }) (app_left_out (apps.sent bytes) app 0 old (but app old h)))

does_keeps : (e : WorldEvent) (old new : State) → effects.Does e old new → All old → All new
does_keeps (event.Agent identifiers) old new does h = subst (λ s. All s) (sym does) (agent_comes (identifiers_in identifiers) old h)
does_keeps event.Client old new does h = subst (λ s. All s) (sym does) (client_comes old h)
does_keeps (event.App c address) old new does h = subst (λ s. All s) (sym does) (app_comes_at (nth c old.clients) c address old h)
does_keeps (event.Connect address) old new does h = raw_comes (arrivals.request_text address) old new does h
does_keeps (event.Raw bytes) old new does h = raw_comes bytes old new does h
does_keeps (event.Up dial) old new does h = subst (λ s. All s) (sym does) (dial_won (nth dial old.dials) dial old h)
does_keeps (event.Refuse dial) old new does h = subst (λ s. All s) (sym does) (dial_refused (nth dial old.dials) dial old h)
does_keeps (event.Send app bytes) old new does h = sends_if (effects.is_app_unheard app old) bytes app old new does h
does_keeps (event.Answer dial bytes) old new does h = subst (λ s. All s) (sym does) (dest_settles dial (record old { dials = change (dials.sent bytes) dial old.dials }) (dial_left_out (dials.sent bytes) dial 0 old (but_dial dial old h)))
does_keeps (event.End app) old new does h = subst (λ s. All s) (sym does) (settles app (record old { apps = change apps.ended app old.apps }) (app_left_out apps.ended app 0 old (but app old h)))
does_keeps (event.Hang dial) old new does h = subst (λ s. All s) (sym does) (dest_settles dial (record old { dials = change dials.ended dial old.dials }) (dial_left_out dials.ended dial 0 old (but_dial dial old h)))
does_keeps (event.Fail dial) old new does h = subst (λ s. All s) (sym does) (dest_failed (nth dial old.dials) dial old h)
does_keeps (event.Drain link) old new does h = subst (λ s. All s) (sym does) (agent_step 0 0 link 0 agent_event.DrainNow (record old { agents = change agents.with_drain link old.agents }) h)
does_keeps (event.HoldDest dial) old new does h = subst (λ s. All s) (sym does) (dials_changed 0 0 (dials.holding true) (λ d. refl) dial old h)
does_keeps (event.HoldApp app) old new does h = subst (λ s. All s) (sym does) (apps_changed 0 0 (apps.holding true) (λ a. refl) app old h)
does_keeps (event.TakeDest dial count) old new does h = subst (λ s. All s) (sym does) (dest_takes 0 0 dial count old h)
does_keeps (event.TakeApp app count) old new does h = subst (λ s. All s) (sym does) (takes 0 0 app count old h)
does_keeps (event.GoDest dial) old new does h = subst (λ s. All s) (sym does) (dest_takes_freely 0 0 dial (record old { dials = change (dials.holding false) dial old.dials }) (dials_changed 0 0 (dials.holding false) (λ d. refl) dial old h))
does_keeps (event.GoApp app) old new does h = subst (λ s. All s) (sym does) (takes_freely 0 0 app (record old { apps = change (apps.holding false) app old.apps }) (apps_changed 0 0 (apps.holding false) (λ a. refl) app old h))
does_keeps (event.LoseServer link) old new does h = subst (λ s. All s) (sym does) (server_step 0 0 0 (LinkLost link) (record old { agents = change agents.lost_at_server link old.agents }) h)
does_keeps (event.LoseAgent link) old new does h = subst (λ s. All s) (sym does) (agent_step 0 0 link 0 agent_event.LinkLost (record old { agents = change agents.lost_at_agent link old.agents }) h)
does_keeps (event.LoseFront c) old new does h = subst (λ s. All s) (sym does) (server_step 0 0 0 (FrontLost (clients.front_of (nth c old.clients))) (record old { clients = change clients.lost_at_server c old.clients }) h)
does_keeps (event.LoseClient c) old new does h = subst (λ s. All s) (sym does) (client_step 0 0 c (client_event.StreamEnded (codes "server lost")) (record old { clients = change clients.lost_at_client c old.clients }) h)
does_keeps (event.Step pipe) old new does h = subst (λ s. All s) (sym does) (pipe_keeps pipe old h)
does_keeps (event.Pass count) old new does h = subst (λ s. All s) (sym does) (rounds_keep count old h)

happens : (e : WorldEvent) (old new : State) → Happens e old new → All old → All new
happens e old new it h = by (seen_of e old) it
  where
    by : (seen : Seen) → HappensAs seen e old new → All new
    by Moved does = does_keeps e old new does h
    by Idle same = subst (λ s. All s) (sym same) h

runs_keep : (es : List WorldEvent) (old : State) (idle : ℕ) (new : State) → Runs es old idle new → All old → All new
runs_keep [] old idle new runs h = subst (λ s. All s) (sym runs.0) h
runs_keep (e ∷ es) old idle new runs h = runs_keep es runs.0 runs.1 new runs.3 (happens e old runs.0 runs.2 h)

none_at_start : (strategies : List Strategy) → All (start strategies)
none_at_start strategies = record { apps = λ k other. no_app k; dials = λ d other. no_dial d }
  where
    no_app : (k : ℕ) → handing.is_end_due_of (nth k []) ≡ false
    no_app zero = refl
    no_app (suc k) = refl

    no_dial : (d : ℕ) → answering.is_end_due_of (nth d []) ≡ false
    no_dial zero = refl
    no_dial (suc d) = refl

-- ---- read aloud
tells : (ended given : Bool) (waiting : List ℕ) → (ended && not given && (length waiting == 0)) ≡ false → ended ≡ true → waiting ≡ [] → given ≡ true
tells ended true waiting none e w = refl
tells true false [] none e w = absurd cc
tells true false (x ∷ xs) none e w = absurd cc
tells false false waiting none e w = absurd cc

app_number : (k : ℕ) (s : State) (a : App) → nth k s.apps ≡ Some a → (k == 0) ≡ false
app_number zero s a there = absurd cc
app_number (suc k) s a there = eqb-suc-zero k

dial_number : (d : ℕ) (s : State) (x : Dial) → nth d s.dials ≡ Some x → (d == 0) ≡ false
dial_number zero s x there = absurd cc
dial_number (suc d) s x there = eqb-suc-zero d

pub no_end_is_due : (strategies : List Strategy) (es : List WorldEvent) (idle : ℕ) (s : State) → Runs es (start strategies) idle s → NoEndIsDue s
no_end_is_due strategies es idle s runs = record {
  of_apps = λ k a there. tells a.side.ended a.side.end_given a.side.sending.waiting (sym (ap handing.is_end_due_of there) ∙ kept.apps k (app_number k s a there));
  of_dials = λ d x there. tells x.side.ended x.side.end_given x.side.sending.waiting (sym (ap answering.is_end_due_of there) ∙ kept.dials d (dial_number d s x there));
}
  where
    kept : All s
    kept = runs_keep es (start strategies) idle s runs (none_at_start strategies)
