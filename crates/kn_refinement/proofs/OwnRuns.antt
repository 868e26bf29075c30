-- Every event leaves an app and a destination the bytes that they sent, but for those that it brings.
use Rattle.std.proofs.Common.{◌&&◌, not, eqb-true, ◌==◌, ◌<◌, arith, append_assoc, length-append, take-append-drop, ◌≡◌, ◌++◌, ℕ, ℤ, zero, suc, Bool, true, false, cond, List, [], ◌∷◌, length, drop, min, take, ◌+◌, Option, None, Some, Result, Ok, Err, refl, sym, ap, ◌∙◌, subst, append-nil, codes}
use Rattle.kn_packet.specs.declared.packet.Packet.{Packet}
use Rattle.kn_packet.specs.declared.packet.Packet.TheVariants.{CloseReq, CloseRsp, Data, DialCls, DialReq, DialRsp, Drain, Other}
use Rattle.kn_connect.specs.declared.answer.ConnectAnswer.{ConnectAnswer}
use Rattle.kn_connect.specs.declared.answer.ConnectAnswer.TheVariants.{Head, More}
use Rattle.kn_connect.specs.declared.answer.ConnectError.{ConnectError}
use Rattle.kn_connect.specs.declared.answer.ConnectError.TheVariants as connect_error
use Rattle.kn_route.specs.Identifiers.{identifiers_in}
use Rattle.kn_route.specs.declared.id_kind.IdKind.{IdKind}
use Rattle.kn_route.specs.declared.identifiers.IdFault.{IdFault}
use Rattle.kn_edge_core.specs.declared.agent_event.AgentEvent.{AgentEvent}
use Rattle.kn_edge_core.specs.declared.agent_event.AgentEvent.TheVariants as agent_event
use Rattle.kn_edge_core.specs.declared.agent_event.AgentOut.{AgentOut}
use Rattle.kn_edge_core.specs.declared.agent_event.AgentOut.TheVariants as agent_out
use Rattle.kn_edge_core.specs.declared.client_event.ClientEvent.{ClientEvent}
use Rattle.kn_edge_core.specs.declared.client_event.ClientEvent.TheVariants as client_event
use Rattle.kn_edge_core.specs.declared.client_event.ClientOut.{ClientOut}
use Rattle.kn_edge_core.specs.declared.client_event.ClientOut.TheVariants as client_out
use Rattle.kn_server_core.specs.declared.event.ServerEvent.TheVariants.{FrontLost, FrontPacket, FrontUp, LinkLost, LinkPacket, LinkUp}
use Rattle.kn_world.specs.declared.event.Pipe.{Pipe}
use Rattle.kn_world.specs.declared.event.Pipe.TheVariants.{AgentDown, AgentUp, ClientDown, ClientUp}
use Rattle.kn_world.specs.declared.event.Seen.{Seen}
use Rattle.kn_world.specs.declared.event.Seen.TheVariants.{Idle, Moved}
use Rattle.kn_world.specs.declared.event.WorldEvent.{WorldEvent}
use Rattle.kn_world.specs.declared.event.WorldEvent.TheVariants as event
use Rattle.kn_world.specs.declared.parts.App.{App}
use Rattle.kn_world.specs.declared.parts.Client.{Client}
use Rattle.kn_world.specs.declared.parts.Dial.{Dial}
use Rattle.kn_world.specs.declared.parts.Home.{Home}
use Rattle.kn_world.specs.declared.parts.Home.TheVariants as home
use Rattle.kn_world.specs.declared.state.State.{State}
use Rattle.kn_world.specs.Agents as agents
use Rattle.kn_world.specs.AgentSteps as agent
use Rattle.kn_world.specs.Answering as answering
use Rattle.kn_world.specs.Apps as apps
use Rattle.kn_world.specs.AppSteps as app_steps
use Rattle.kn_world.specs.Arrivals as arrivals
use Rattle.kn_world.specs.Clients as clients
use Rattle.kn_world.specs.ClientSteps as client
use Rattle.kn_world.specs.Dials as dials
use Rattle.kn_world.specs.Effects as effects
use Rattle.kn_world.specs.Events.{Happens, HappensAs, Runs}
use Rattle.kn_world.specs.Handing as handing
use Rattle.kn_world.specs.Hearing as hearing
use Rattle.kn_world.specs.Idle.{seen_of}
use Rattle.kn_world.specs.Numbers.{change, nth}
use Rattle.kn_world.specs.Pipes as pipes
use Rattle.kn_world.specs.ServerPackets as server_packets
use Rattle.kn_world.specs.ServerSteps as server
use Rattle.kn_world.specs.Times.{times}
use Rattle.kn_connect.specs.Replies.{status_and_reason}
use Rattle.kn_connect.specs.Statuses.{fault_status, reply_length}
use Rattle.kn_connect.specs.Answers.{Answers, IsGiven}
use Rattle.kn_connect.specs.Replies.{status_and_reason}
use Rattle.kn_connect.specs.Statuses.{fault_status, reply_length}
use Rattle.kn_server_core.specs.Server as core
use Rattle.kn_server_core.specs.declared.event.ServerEvent.{ServerEvent}
use Rattle.kn_server_core.specs.declared.event.ServerOut.{ServerOut}
use Rattle.kn_server_core.specs.declared.event.ServerOut.TheVariants as server_out
use Rattle.kn_world.specs.declared.parts.Owner.{Owner}
use Rattle.kn_world.specs.declared.parts.Owner.TheVariants as owner
use Rattle.kn_world.specs.States.{new_app, new_dial, start}
use Rattle.kn_refinement.specs.OwnBytes.{SendsOwn, app_bytes, dial_bytes, for_app, for_dial, if_same, sent_of, unless_idle}
use Rattle.kn_world.specs.Idle.{can_answer, can_send, is_app_here, is_at_door, is_at_home, is_dest_here, moved_if, there_and}
use Rattle.std.specs.Option.{option_map}
use Rattle.kn_route.specs.declared.strategy.Strategy.{Strategy}
use Rattle.kn_refinement.proofs.Pairs.{came_last}
use Rattle.kn_world.specs.Numbers.{changed}
use Rattle.kn_world.specs.declared.parts.Stage.TheVariants as stage
use Rattle.kn_refinement.specs.OwnBytes.{IsBehindHead}
use Rattle.kn_refinement.proofs.Changes.{changed_own}
use Rattle.kn_refinement.proofs.NumberLemmas.{length_more, nth_change}
use Rattle.std.proofs.Math.Dec.{eqb-suc-suc, eqb-suc-zero}
use Rattle.kn_refinement.proofs.OwnParts.{Holds, Kept, before_head, behind_more, freely_own, now_behind, other_same, replaced, sent_own, still_before, Own, OwnOf, app_changed, app_more, apps_changed, dial_more, dials_changed, early_kept_own, handed_own, heard_own, left_door_own, left_own, opened_if_own, passed_same, promised, sent_at, took_at_own}

module _ (of_apps of_dials : ℕ → List ℕ) where
  abbrev Here : State → Type 0
  Here s = Holds of_apps of_dials s

  abbrev Keeps : (State → State) → Type 0
  Keeps f = (s : State) → Here s → Here (f s)

  times_keep : (n : ℕ) (f : State → State) → Keeps f → Keeps (times n f)
  unfolding times
  times_keep zero f one s h = h
  times_keep (suc n) f one s h = times_keep n f one (f s) (one s h)

  -- ---- the server
  to_owner : (o : Option Owner) (p : Packet) → Keeps (server.to_owner o p)
  to_owner None p s h = h
  to_owner (Some (owner.Client c)) p s h = h
  to_owner (Some (owner.App app)) p s h = apps_changed of_apps of_dials (apps.heard p) (heard_own p) app s h

  server_gives : (o : ServerOut) (app : ℕ) → Keeps (server.gives o app)
  server_gives (server_out.ToLink link p) app s h = h
  server_gives (server_out.ToFront front p) app s h = to_owner (nth front s.fronts) p s h
  server_gives (server_out.CutLink link) app s h = h
  server_gives (server_out.Made dial link front) app s h =
      dial_more of_apps of_dials (new_dial link app) refl (change (apps.with_dial dial) app s.apps) s.dials (apps_changed of_apps of_dials (apps.with_dial dial) (λ g a it. it) app s h)

  server_gives_all : (os : List ServerOut) (app : ℕ) → Keeps (server.gives_all os app)
  server_gives_all [] app s h = h
  server_gives_all (o ∷ os) app s h = server_gives_all os app (server.gives o app s) (server_gives o app s h)

  server_step : (app : ℕ) (e : ServerEvent) → Keeps (server.step app e)
  server_step app e s h = server_gives_all (core.step s.server e).outs app (server.stepped app e s) h

  -- ---- agents
  answered_keeps : (error : List ℕ) (link dial : ℕ) (connect_id : ℤ) → Keeps (agent.answered error link dial connect_id)
  answered_keeps [] link dial connect_id s h = dials_changed of_apps of_dials (dials.with_connect_id connect_id) (λ d. refl) dial (record s { agents = change (agents.with_connection dial) link s.agents }) h
  answered_keeps (x ∷ xs) link dial connect_id s h = h

  noted_keeps : (p : Packet) (link dial : ℕ) → Keeps (agent.noted p link dial)
  noted_keeps (DialRsp error connect_id random) link dial s h = answered_keeps error link dial connect_id s h
  noted_keeps (DialReq protocol address random) link dial s h = h
  noted_keeps (CloseReq connect_id) link dial s h = h
  noted_keeps (CloseRsp error connect_id) link dial s h = h
  noted_keeps (Data connect_id error bytes) link dial s h = h
  noted_keeps (DialCls random) link dial s h = h
  noted_keeps Drain link dial s h = h
  noted_keeps (Other number) link dial s h = h

  agent_gives : (o : AgentOut) (link dial : ℕ) → Keeps (agent.gives o link dial)
  agent_gives (agent_out.ToServer p) link dial s h = noted_keeps p link dial s h
  agent_gives (agent_out.Dial ticket address) link dial s h = dials_changed of_apps of_dials (dials.with_ticket ticket) (λ d. refl) dial s h
  agent_gives (agent_out.Write connect_id bytes) link dial s h = dials_changed of_apps of_dials (dials.written bytes) (λ d. refl) dial s h
  agent_gives (agent_out.CloseDest connect_id) link dial s h = h
  agent_gives (agent_out.DropDial ticket) link dial s h = h

  agent_gives_all : (os : List AgentOut) (link dial : ℕ) → Keeps (agent.gives_all os link dial)
  agent_gives_all [] link dial s h = h
  agent_gives_all (o ∷ os) link dial s h = agent_gives_all os link dial (agent.gives o link dial s) (agent_gives o link dial s h)

  agent_step : (link dial : ℕ) (e : AgentEvent) → Keeps (agent.step link dial e)
  agent_step link dial e s h = agent_gives_all (agents.told e (nth link s.agents)) link dial (record s { agents = change (agents.stepped e) link s.agents }) h

  dest_takes_of : (o : Option Dial) (dial count : ℕ) → Keeps (agent.takes_of o dial count)
  dest_takes_of None dial count s h = h
  dest_takes_of (Some d) dial count s h =
      let some : ℕ = agent_count d count s in
      agent_step d.link dial (agent_event.DestWrote d.connect_id some) (record s { dials = change (dials.took some) dial s.dials }) (dials_changed of_apps of_dials (dials.took some) (λ x. refl) dial s h)
    where
      agent_count : Dial → ℕ → State → ℕ
      agent_count d count s = min count (dials.unwritten_at d.connect_id (nth d.link s.agents))

  dest_takes : (dial count : ℕ) → Keeps (agent.takes dial count)
  dest_takes dial count s h = dest_takes_of (nth dial s.dials) dial count s h

  dest_takes_freely : (dial : ℕ) → Keeps (agent.takes_freely dial)
  dest_takes_freely dial s h = here (agent.is_free dial s)
    where
      here : (b : Bool) → Here (cond b (agent.takes dial 18446744073709551615 s) s)
      here true = dest_takes dial 18446744073709551615 s h
      here false = h

  agent_takes_packet : (p : Packet) (link : ℕ) → Keeps (agent.takes_packet p link)
  agent_takes_packet p link s h =
      let asked : State = record s { dials = change dials.requested (agent.asked_by p) s.dials } in
      let dial : ℕ = agent.either (agent.asked_by p) (agent.written_by p link s) in
      dest_takes_freely (agent.written_by p link s) (agent.step link dial (agent_event.Packet p) asked)
      (agent_step link dial (agent_event.Packet p) asked (dials_changed of_apps of_dials dials.requested (λ d. refl) (agent.asked_by p) s h))

  -- ---- destinations
  dest_hands_of : (o : Option Dial) (dial : ℕ) → Keeps (answering.hands_piece_of o dial)
  dest_hands_of None dial s h = h
  dest_hands_of (Some d) dial s h = agent_step d.link dial (agent_event.DestBytes d.connect_id (take 16384 d.side.sending.waiting)) (record s { dials = change (dials.handed 16384) dial s.dials }) (dials_changed of_apps of_dials (dials.handed 16384) (λ x. passed_same 16384 x.side.sending.passed x.side.sending.waiting) dial s h)

  dest_end_of : (o : Option Dial) (dial : ℕ) → Keeps (answering.gives_end_of o dial)
  dest_end_of None dial s h = h
  dest_end_of (Some d) dial s h = agent_step d.link dial (agent_event.DestEnd d.connect_id) (record s { dials = change dials.end_told dial s.dials }) (dials_changed of_apps of_dials dials.end_told (λ x. refl) dial s h)

  dest_settles : (dial : ℕ) → Keeps (answering.settles dial)
  dest_settles dial s h = here (answering.is_end_due dial handed) (times_keep (answering.count_wanted dial s) (answering.hands_piece dial) (λ t k. dest_hands_of (nth dial t.dials) dial t k) s h)
    where
      handed : State
      handed = answering.hands_pieces (answering.count_wanted dial s) dial s

      here : (b : Bool) → Here handed → Here (cond b (answering.gives_end dial handed) handed)
      here true k = dest_end_of (nth dial handed.dials) dial handed k
      here false k = k

  -- ---- clients
  client_gives : (o : ClientOut) (c : ℕ) → Keeps (client.gives o c)
  client_gives (client_out.ToServer p) c s h = h
  client_gives (client_out.ToApp app bytes) c s h = apps_changed of_apps of_dials (apps.written bytes) (λ g a it. it) (clients.app_at app (nth c s.clients)) s h
  client_gives (client_out.EndApp app error) c s h = apps_changed of_apps of_dials (apps.left error) (left_own error) (clients.app_at app (nth c s.clients)) s h

  client_gives_all : (os : List ClientOut) (c : ℕ) → Keeps (client.gives_all os c)
  client_gives_all [] c s h = h
  client_gives_all (o ∷ os) c s h = client_gives_all os c (client.gives o c s) (client_gives o c s h)

  client_step : (c : ℕ) (e : ClientEvent) → Keeps (client.step c e)
  client_step c e s h = client_gives_all (clients.told e (nth c s.clients)) c (record s { clients = change (clients.stepped e) c s.clients }) h

  -- ---- what apps give
  hands_to : (at : Home) (bytes : List ℕ) (app : ℕ) → Keeps (handing.hands_to at bytes app)
  hands_to (home.Client c number) bytes app s h = client_step c (client_event.AppBytes number bytes) s h
  hands_to home.Connect bytes app s h = apps_changed of_apps of_dials (apps.kept bytes) (λ g a it. it) app s h

  hands_of : (o : Option App) (app : ℕ) → Keeps (handing.hands_piece_of o app)
  hands_of None app s h = h
  hands_of (Some a) app s h = hands_to a.home (take 16384 a.side.sending.waiting) app (record s { apps = change (apps.handed 16384) app s.apps }) (apps_changed of_apps of_dials (apps.handed 16384) (handed_own 16384) app s h)

  hears_first : (o : Option Packet) (front : ℕ) → Keeps (handing.server_hears_first o front)
  hears_first None front s h = h
  hears_first (Some p) front s h = server_step 0 (FrontPacket front p) s h

  hears_one : (app : ℕ) → Keeps (handing.server_hears app)
  hears_one app s h = hears_first (apps.first_kept (nth app s.apps)) (apps.front_of (nth app s.apps)) (record s { apps = change apps.rest_kept app s.apps }) (apps_changed of_apps of_dials apps.rest_kept (λ g a it. it) app s h)

  end_to : (at : Home) (app : ℕ) → Keeps (handing.gives_end_to at app)
  end_to (home.Client c number) app s h = client_step c (client_event.AppEnd number) s h
  end_to home.Connect app s h = server_step 0 (FrontLost (apps.front_of (nth app s.apps))) (record s { apps = change apps.left_door app s.apps }) (apps_changed of_apps of_dials apps.left_door left_door_own app s h)

  end_of : (o : Option App) (app : ℕ) → Keeps (handing.gives_end_of o app)
  end_of None app s h = h
  end_of (Some a) app s h = end_to a.home app (record s { apps = change apps.end_told app s.apps }) (apps_changed of_apps of_dials apps.end_told (λ g a it. it) app s h)

  settles : (app : ℕ) → Keeps (handing.settles app)
  settles app s h = ends (handing.is_end_due app heard) (times_keep (apps.kept_count (nth app given.apps)) (handing.server_hears app) (hears_one app) given
      (times_keep (handing.count_wanted app s) (handing.hands_piece app) (λ t k. hands_of (nth app t.apps) app t k) s h))
    where
      given : State
      given = handing.hands_wanted app s

      heard : State
      heard = handing.server_hears_kept app given

      ends : (b : Bool) → Here heard → Here (cond b (handing.gives_end app heard) heard)
      ends true k = end_of (nth app heard.apps) app heard k
      ends false k = k

  -- ---- what apps take
  took : (at : Home) (count app : ℕ) → Keeps (app_steps.took at count app)
  took (home.Client c number) count app s h =
      let some : ℕ = min count (clients.unwritten_at number (nth c s.clients)) in
      client_step c (client_event.AppWrote number some) (record s { apps = change (apps.took some) app s.apps }) (apps_changed of_apps of_dials (apps.took some) (λ g a it. it) app s h)
  took home.Connect count app s h = apps_changed of_apps of_dials (apps.took_at_door count) (λ g a it. took_at_own a.stage count g a it) app s h

  takes_of : (o : Option App) (app count : ℕ) → Keeps (app_steps.takes_of o app count)
  takes_of None app count s h = h
  takes_of (Some a) app count s h = took a.home count app s h

  takes : (app count : ℕ) → Keeps (app_steps.takes app count)
  takes app count s h = takes_of (nth app s.apps) app count s h

  takes_freely : (app : ℕ) → Keeps (app_steps.takes_freely app)
  takes_freely app s h = here (app_steps.is_free app s)
    where
      here : (b : Bool) → Here (cond b (app_steps.takes app 18446744073709551615 s) s)
      here true = takes app 18446744073709551615 s h
      here false = h

  opens : (app : ℕ) → Keeps (app_steps.opens app)
  opens app s h = settles app (record s { apps = change (apps.opened_if (app_steps.state_of app s)) app s.apps }) (opens_first (nth app s.apps) refl)
    where
      opens_first : (o : Option App) → nth app s.apps ≡ o → Here (record s { apps = change (apps.opened_if (app_steps.state_of app s)) app s.apps })
      opens_first o at = app_changed of_apps of_dials (apps.opened_if (app_steps.state_of app s)) app s (λ a there it. opened_if_own (app_steps.state_of app s) s.clients (of_apps app) a (sym (ap (λ p. app_steps.state_of_app p s.clients) there)) it) h

  client_takes_packet : (p : Packet) (c : ℕ) → Keeps (app_steps.takes_packet p c)
  client_takes_packet p c s h =
      takes_freely (app_steps.written_by p c s.clients) (app_steps.opens (app_steps.answered_by p c s.clients) (client.step c (client_event.Packet p) s))
      (opens (app_steps.answered_by p c s.clients) (client.step c (client_event.Packet p) s) (client_step c (client_event.Packet p) s h))

  -- ---- pipes
  at_server : (o : Option Packet) (link : ℕ) → Keeps (pipes.at_server o link)
  at_server None link s h = h
  at_server (Some p) link s h = settles (server_packets.answered_by p s) (server.step 0 (LinkPacket link p) s) (server_step 0 (LinkPacket link p) s h)

  at_agent : (o : Option Packet) (link : ℕ) → Keeps (pipes.at_agent o link)
  at_agent None link s h = h
  at_agent (Some p) link s h = agent_takes_packet p link s h

  at_front : (o : Option Packet) (c : ℕ) → Keeps (pipes.at_front o c)
  at_front None c s h = h
  at_front (Some p) c s h = server_step (server_packets.asker p c s.clients) (FrontPacket (clients.front_of (nth c s.clients)) p) s h

  at_client : (o : Option Packet) (c : ℕ) → Keeps (pipes.at_client o c)
  at_client None c s h = h
  at_client (Some p) c s h = client_takes_packet p c s h

  pipe_keeps : (p : Pipe) → Keeps (pipes.step p)
  pipe_keeps (AgentUp link) s h = at_server (agents.first_up (nth link s.agents)) link (record s { agents = change agents.rest_up link s.agents }) h
  pipe_keeps (AgentDown link) s h = at_agent (agents.first_down (nth link s.agents)) link (record s { agents = change agents.rest_down link s.agents }) h
  pipe_keeps (ClientUp c) s h = at_front (clients.first_up (nth c s.clients)) c (record s { clients = change clients.rest_up c s.clients }) h
  pipe_keeps (ClientDown c) s h = at_client (clients.first_down (nth c s.clients)) c (record s { clients = change clients.rest_down c s.clients }) h

  delivered_keeps : (p : Pipe) → Keeps (pipes.delivered p)
  unfolding pipes.delivered
  delivered_keeps p s h = times_keep (pipes.count_in p s) (pipes.step p) (pipe_keeps p) s h

  agents_deliver : (n : ℕ) → Keeps (pipes.agents_delivered n)
  agents_deliver zero s h = h
  agents_deliver (suc n) s h =
      let before : State = pipes.agents_delivered n s in
      delivered_keeps (AgentDown (suc n)) (pipes.delivered (AgentUp (suc n)) before) (delivered_keeps (AgentUp (suc n)) before (agents_deliver n s h))

  clients_deliver : (n : ℕ) → Keeps (pipes.clients_delivered n)
  clients_deliver zero s h = h
  clients_deliver (suc n) s h =
      let before : State = pipes.clients_delivered n s in
      delivered_keeps (ClientDown (suc n)) (pipes.delivered (ClientUp (suc n)) before) (delivered_keeps (ClientUp (suc n)) before (clients_deliver n s h))

  round_keeps : Keeps pipes.round
  unfolding pipes.round
  round_keeps s h = let t : State = pipes.agents_delivered (length s.agents) s in clients_deliver (length t.clients) t (agents_deliver (length s.agents) s h)

  rounds_keep : (n : ℕ) → Keeps (pipes.rounds n)
  unfolding pipes.rounds
  rounds_keep zero s h = h
  rounds_keep (suc n) s h = here (pipes.nothing_in_flight s) (rounds_keep n (pipes.round s) (round_keeps s h))
    where
      here : (b : Bool) → Here (pipes.rounds n (pipes.round s)) → Here (cond b s (pipes.rounds n (pipes.round s)))
      here true later = h
      here false later = later

  -- ---- arrivals
  client_comes : Keeps arrivals.client_comes
  client_comes s h =
      let front : ℕ = length (arrivals.with_owner s).fronts in
      server_step 0 (FrontUp front) (arrivals.with_client front (arrivals.with_owner s)) h

  app_comes_at : (o : Option Client) (c : ℕ) (address : List ℕ) → Keeps (arrivals.app_comes_at o c address)
  app_comes_at None c address s h = h
  app_comes_at (Some found) c address s h = here (clients.is_at_client (nth c noted.clients))
    where
      number : ℕ
      number = length found.apps + 1

      last : ℕ
      last = length (arrivals.with_app c number s).apps

      noted : State
      noted = arrivals.app_noted c last (arrivals.with_app c number s)

      came : Here noted
      came = app_more of_apps of_dials (new_app (home.Client c number)) (λ bytes none. sym none) s.apps s.dials h

      here : (b : Bool) → Here (cond b (arrivals.asks c number address noted) (arrivals.refuses last noted))
      here true = client_step c (client_event.AppUp number address) noted came
      here false = apps_changed of_apps of_dials (apps.left (codes "server lost")) (left_own (codes "server lost")) last noted came

  -- ---- dials
  dial_won : (o : Option Dial) (dial : ℕ) → Keeps (effects.dial_won_of o dial)
  dial_won None dial s h = h
  dial_won (Some d) dial s h = agent_step d.link dial (agent_event.DialUp d.ticket) s h

  dial_refused : (o : Option Dial) (dial : ℕ) → Keeps (effects.dial_refused_of o dial)
  dial_refused None dial s h = h
  dial_refused (Some d) dial s h = agent_step d.link dial (agent_event.DialRefused d.ticket) s h

  dest_failed : (o : Option Dial) (dial : ℕ) → Keeps (effects.dest_failed_of o dial)
  dest_failed None dial s h = h
  dest_failed (Some d) dial s h = agent_step d.link dial (agent_event.DestFailed d.connect_id) s h

nothing_behind : (n : ℕ) (xs : List ℕ) → length (take n xs) < n → drop n xs ≡ []
nothing_behind zero xs few = absurd (omega (arith, few))
nothing_behind (suc n) [] few = refl
nothing_behind (suc n) (x ∷ xs) few = nothing_behind n xs (omega (arith, few))

short : (front piece : List ℕ) → length (front ++ piece) < 8192 → length piece < 16384
short front piece few = let both : length (front ++ piece) ≡ length front + length piece = length-append front piece in omega (arith, few, both)

first_of_both : (b c : Bool) → (b && c) ≡ true → b ≡ true
first_of_both true c e = refl
first_of_both false c e = absurd cc

eqb-refl : (n : ℕ) → (n == n) ≡ true
eqb-refl zero = refl
eqb-refl (suc n) = eqb-suc-suc n n ∙ eqb-refl n

-- ---- bytes for one app
module _ (of_apps of_dials : ℕ → List ℕ) where
  abbrev With : ℕ → List ℕ → ℕ → List ℕ
  With app bytes k = of_apps k ++ if_same k app bytes

  others : (app : ℕ) (bytes : List ℕ) (k : ℕ) → (k == app) ≡ false → With app bytes k ≡ of_apps k
  others app bytes k e = ap (λ b. of_apps k ++ cond b bytes []) e ∙ append-nil (of_apps k)

  its_own : (app : ℕ) (bytes : List ℕ) → With app bytes app ≡ of_apps app ++ bytes
  its_own app bytes = ap (λ b. of_apps app ++ cond b bytes []) (eqb-refl app)

  heard_sends : (bytes : List ℕ) (app : ℕ) (s : State) (a : App) → nth app s.apps ≡ Some a → effects.is_unheard a.home a ≡ false → Holds of_apps of_dials s → Holds (With app bytes) of_dials (effects.app_sent bytes app s)
  heard_sends bytes app s a there heard h = settles (With app bytes) of_dials app (record s { apps = change (apps.sent bytes) app s.apps })
      (replaced of_apps (With app bytes) of_dials app (apps.sent bytes a) s.apps (change (apps.sent bytes) app s.apps) s.dials (others app bytes) (other_same (apps.sent bytes) app s.apps) (changed_own (apps.sent bytes) app s.apps a there)
      (subst (λ g. Own g (apps.sent bytes a)) (sym (its_own app bytes)) (sent_own bytes (of_apps app) a heard (subst (λ o. OwnOf o (of_apps app)) there (h.own app)))) h)

  -- ---- a CONNECT app's, before its head is whole
  module _ (bytes : List ℕ) (app : ℕ) (old : State) (a : App) (there : nth app old.apps ≡ Some a) (at : a.home ≡ home.Connect) (unheard : (a.door.number == 0) ≡ true) (here : is_at_door a.stage ≡ true) (h : Holds of_apps of_dials old) where
    abbrev piece : List ℕ
    piece = take 16384 bytes

    abbrev rest : List ℕ
    rest = drop 16384 bytes

    abbrev fed : List ℕ
    fed = a.door.front ++ piece

    known : (sent_of a.side ≡ []) × (a.door.front ≡ of_apps app)
    known = before_head a.home (a.door.number == 0) (is_at_door a.stage) a.door.front (of_apps app) (sent_of a.side) at unheard here (subst (λ o. OwnOf o (of_apps app)) there (h.own app))

    abbrev read : List ℕ → List App
    read front = change (hearing.with_front front) app old.apps

    read_here : (front : List ℕ) → nth app (read front) ≡ Some (hearing.with_front front a)
    read_here front = changed_own (hearing.with_front front) app old.apps a there

    all_bytes : fed ++ rest ≡ With app bytes app
    all_bytes = append_assoc a.door.front piece rest ∙ ap (λ z. a.door.front ++ z) (take-append-drop 16384 bytes) ∙ ap (λ z. z ++ bytes) known.1 ∙ sym (its_own app bytes)

    put : (f : App → App) (front : List ℕ) → Own (With app bytes app) (f (hearing.with_front front a)) → Kept (With app bytes) of_dials (change f app (read front)) old.dials
    put f front own = replaced of_apps (With app bytes) of_dials app (f (hearing.with_front front a)) old.apps (change f app (read front)) old.dials (others app bytes)
        (λ k e. other_same f app (read front) k e ∙ other_same (hearing.with_front front) app old.apps k e) (changed_own f app (read front) (hearing.with_front front a) (read_here front)) own h

    more_comes : Answers fed (Ok More) → Kept (With app bytes) of_dials (read fed) old.dials
    more_comes answers = replaced of_apps (With app bytes) of_dials app (hearing.with_front fed a) old.apps (read fed) old.dials (others app bytes) (other_same (hearing.with_front fed) app old.apps) (read_here fed)
        (still_before a.home (a.door.number == 0) (is_at_door a.stage) fed (With app bytes app) (sent_of a.side) at unheard known.0 (λ e. whole)) h
      where
        no_rest : rest ≡ []
        no_rest = nothing_behind 16384 bytes (short a.door.front piece answers.0)

        whole : fed ≡ With app bytes app
        whole = sym (append-nil fed) ∙ ap (λ z. fed ++ z) (sym no_rest) ∙ all_bytes

    head_comes : (target early : List ℕ) (front : ℕ) → (front == 0) ≡ false → Answers fed (Ok (Head target early)) → Kept (With app bytes) of_dials (change (apps.head_read front early rest) app (read [])) old.dials
    head_comes target early front numbered answers = put (apps.head_read front early rest) []
        (now_behind a.home (front == 0) (is_at_door a.stage) [] (With app bytes app) sent at numbered
        (subst (λ z. IsBehindHead (With app bytes app) z) (sym joined) (subst (λ z. IsBehindHead z (early ++ rest)) all_bytes (target, behind_more fed rest target early answers))))
      where
        sent : List ℕ
        sent = (a.side.sending.passed ++ take (length early) (a.side.sending.waiting ++ early)) ++ (drop (length early) (a.side.sending.waiting ++ early) ++ rest)

        joined : sent ≡ early ++ rest
        joined = sym (append_assoc (a.side.sending.passed ++ take (length early) (a.side.sending.waiting ++ early)) (drop (length early) (a.side.sending.waiting ++ early)) rest)
            ∙ ap (λ z. z ++ rest) (passed_same (length early) a.side.sending.passed (a.side.sending.waiting ++ early) ∙ sym (append_assoc a.side.sending.passed a.side.sending.waiting early) ∙ ap (λ z. z ++ early) known.0)

    fault_comes : (status : ℕ) → Kept (With app bytes) of_dials (change (apps.refused status) app (read [])) old.dials
    fault_comes status = put (apps.refused status) [] (freely_own a.side.held (With app bytes app) refused
        (still_before a.home (a.door.number == 0) false [] (With app bytes app) (sent_of a.side) at unheard known.0 (λ e. absurd cc)))
      where
        refused : App
        refused = record a { error = status_and_reason status; stage = stage.Refused; door = record a.door { front = []; early = []; reply = reply_length status } }

    responds_own : (answer : Result ConnectAnswer ConnectError) → Answers fed answer → IsGiven answer → Holds (With app bytes) of_dials (hearing.responds answer rest app (record old { apps = read (hearing.holds answer fed) }))
    responds_own (Ok More) answers given = settles (With app bytes) of_dials app (record old { apps = read fed }) (more_comes answers)
    responds_own (Ok (Head target early)) answers given =
        let owned : State = hearing.with_owner app (record old { apps = read [] }) in
        let front : ℕ = length owned.fronts in
        let headed : State = hearing.with_head front early rest app owned in
        let up : State = server.step 0 (FrontUp front) headed in
        let asked : State = hearing.front_up front target app headed in
        settles (With app bytes) of_dials app (hearing.early_kept early app asked)
        (apps_changed (With app bytes) of_dials (apps.early_kept early) (λ g x it. early_kept_own x.stage early g x it) app asked
        (server_step (With app bytes) of_dials app (FrontPacket front (hearing.request target)) up (server_step (With app bytes) of_dials 0 (FrontUp front) headed
        (head_comes target early front (ap (λ n. n == 0) (length_more old.fronts (owner.App app)) ∙ eqb-suc-zero (length old.fronts)) answers))))
    responds_own (Err (connect_error.Fault fault)) answers given = fault_comes (fault_status fault)
    responds_own (Err connect_error.NoMemory) answers given = absurd (given refl)

    hears_own : (new : State) → hearing.Hears bytes app old new → Holds (With app bytes) of_dials new
    hears_own new heard = subst (λ s. Holds (With app bytes) of_dials s) (sym (heard.4 ∙ ap (λ all. hearing.responds heard.0 rest app (record old { apps = all })) read_is)) (responds_own heard.0 feeds.0 heard.3)
      where
        feeds : hearing.Feeds (Some a) piece app heard.0 old.apps heard.1
        feeds = subst (λ o. hearing.Feeds o piece app heard.0 old.apps heard.1) there heard.2

        read_is : heard.1 ≡ read (hearing.holds heard.0 fed)
        read_is = feeds.1 ∙ sym (ap (λ o. changed (hearing.with_front (hearing.holds heard.0 fed)) app old.apps o) there)

-- ---- events
module _ (of_apps of_dials : ℕ → List ℕ) where
  -- those that bring nothing
  abbrev Same : State → Type 0
  Same s = Kept (λ k. of_apps k ++ []) (λ d. of_dials d ++ []) s.apps s.dials

  still : (s : State) → Holds of_apps of_dials s → Same s
  still s h = record {
    own = λ k. subst (λ g. OwnOf (nth k s.apps) g) (sym (append-nil (of_apps k))) (h.own k);
    same = λ d. h.same d ∙ sym (append-nil (of_dials d));
  }

  still_dials : (apps : ℕ → List ℕ) (s : State) → Holds apps of_dials s → Holds apps (λ d. of_dials d ++ []) s
  still_dials apps s h = record { own = h.own; same = λ d. h.same d ∙ sym (append-nil (of_dials d)) }

  agent_comes : (given : Result (List (IdKind × List ℕ)) IdFault) (s : State) → Holds of_apps of_dials s → Holds of_apps of_dials (arrivals.agent_read given s)
  agent_comes (Err fault) s h = h
  agent_comes (Ok identifiers) s h = server_step of_apps of_dials 0 (LinkUp (length (arrivals.with_agent s).agents) identifiers) (arrivals.with_agent s) h

  raw_comes : (bytes : List ℕ) (old new : State) → arrivals.RawAppComes bytes old new → Holds of_apps of_dials old → Kept (λ k. of_apps k ++ if_same k (suc (length old.apps)) bytes) (λ d. of_dials d ++ []) new.apps new.dials
  raw_comes bytes old new heard h = subst (λ n. Kept (λ k. of_apps k ++ if_same k n bytes) (λ d. of_dials d ++ []) new.apps new.dials) (length_more old.apps (new_app home.Connect))
      (still_dials (With of_apps of_dials (length came.apps) bytes) new
      (hears_own of_apps of_dials bytes (length came.apps) came (new_app home.Connect) (subst (λ n. nth n came.apps ≡ Some (new_app home.Connect)) (sym (length_more old.apps (new_app home.Connect))) (came_last old.apps (new_app home.Connect))) refl refl refl
      (app_more of_apps of_dials (new_app home.Connect) (λ g none. (refl, λ e. sym none)) old.apps old.dials h) new heard))
    where
      came : State
      came = arrivals.with_connect old

  -- an app that sends is there, and at the door if it came by CONNECT
  sends : (bytes : List ℕ) (app : ℕ) (old new : State) → can_send app old ≡ true → effects.Sends bytes app old new → Holds of_apps of_dials old → Kept (λ k. of_apps k ++ if_same k app bytes) (λ d. of_dials d ++ []) new.apps new.dials
  sends bytes app old new may does h = still_dials (With of_apps of_dials app bytes) new (by_app (nth app old.apps) refl)
    where
      unheard_door : (a : App) (at : Home) → nth app old.apps ≡ Some a → a.home ≡ at → effects.is_unheard at a ≡ true → is_at_home at a.stage old.clients ≡ true → hearing.Hears bytes app old new → Holds (With of_apps of_dials app bytes) of_dials new
      unheard_door a (home.Client c number) there e unheard here heard = absurd cc
      unheard_door a home.Connect there e unheard here heard = hears_own of_apps of_dials bytes app old a there e unheard here h new heard

      by_heard : (a : App) (b : Bool) → nth app old.apps ≡ Some a → effects.is_unheard a.home a ≡ b → is_app_here a old ≡ true → effects.SendsIf b bytes app old new → Holds (With of_apps of_dials app bytes) of_dials new
      by_heard a true there unheard here heard = unheard_door a a.home there refl unheard here heard
      by_heard a false there unheard here same = subst (λ s. Holds (With of_apps of_dials app bytes) of_dials s) (sym same) (heard_sends of_apps of_dials bytes app old a there unheard h)

      by_app : (o : Option App) → nth app old.apps ≡ o → Holds (With of_apps of_dials app bytes) of_dials new
      by_app None none = absurd (cc (sym may ∙ ap (λ p. there_and (λ a. is_app_here a old && not a.side.ended) p) none))
      by_app (Some a) there = by_heard a (effects.is_unheard a.home a) there refl (first_of_both (is_app_here a old) (not a.side.ended) (sym (ap (λ p. there_and (λ x. is_app_here x old && not x.side.ended) p) there) ∙ may))
          (subst (λ p. effects.SendsIf (effects.is_unheard_of p) bytes app old new) there does)

  -- a destination that sends is there
  answers : (bytes : List ℕ) (dial : ℕ) (old : State) → can_answer dial old ≡ true → Holds of_apps of_dials old → Kept (λ k. of_apps k ++ []) (λ d. of_dials d ++ if_same d dial bytes) (effects.dest_sent bytes dial old).apps (effects.dest_sent bytes dial old).dials
  answers bytes dial old may h = dest_settles (λ k. of_apps k ++ []) (λ d. of_dials d ++ if_same d dial bytes) dial (record old { dials = change (dials.sent bytes) dial old.dials }) (record {
    own = λ k. subst (λ g. OwnOf (nth k old.apps) g) (sym (append-nil (of_apps k))) (h.own k);
    same = λ d. ap sent_at (nth_change (dials.sent bytes) dial d old.dials) ∙ by d (d == dial) (nth d old.dials) refl refl ∙ ap (λ z. z ++ if_same d dial bytes) (h.same d);
  })
    where
      there : nth dial old.dials ≡ None → ⊥
      there none = cc (sym may ∙ ap (λ p. there_and (λ x. is_dest_here x old && not x.side.ended) p) none)

      by : (d : ℕ) (b : Bool) (o : Option Dial) → (d == dial) ≡ b → nth d old.dials ≡ o → sent_at (cond b (option_map (dials.sent bytes) o) o) ≡ sent_at o ++ cond (d == dial) bytes []
      by d true None e none = absurd (there (ap (λ n. nth n old.dials) (sym (eqb-true d dial e)) ∙ none))
      by d true (Some x) e at = sym (append_assoc x.side.sending.passed x.side.sending.waiting bytes) ∙ ap (λ b. sent_of x.side ++ cond b bytes []) (sym e)
      by d false o e at = sym (append-nil (sent_at o)) ∙ ap (λ b. sent_at o ++ cond b bytes []) (sym e)

  met : (b : Bool) → moved_if b ≡ Moved → b ≡ true
  met true e = refl
  met false e = absurd cc

  moves : (e : WorldEvent) (old new : State) → seen_of e old ≡ Moved → effects.Does e old new → Holds of_apps of_dials old → Kept (λ k. of_apps k ++ for_app e k old) (λ d. of_dials d ++ for_dial e d) new.apps new.dials
  moves (event.Agent identifiers) old new seen does h = still new (subst (λ s. Holds of_apps of_dials s) (sym does) (agent_comes (identifiers_in identifiers) old h))
  moves event.Client old new seen does h = still new (subst (λ s. Holds of_apps of_dials s) (sym does) (client_comes of_apps of_dials old h))
  moves (event.App c address) old new seen does h = still new (subst (λ s. Holds of_apps of_dials s) (sym does) (app_comes_at of_apps of_dials (nth c old.clients) c address old h))
  moves (event.Connect address) old new seen does h = raw_comes (arrivals.request_text address) old new does h
  moves (event.Raw bytes) old new seen does h = raw_comes bytes old new does h
  moves (event.Up dial) old new seen does h = still new (subst (λ s. Holds of_apps of_dials s) (sym does) (dial_won of_apps of_dials (nth dial old.dials) dial old h))
  moves (event.Refuse dial) old new seen does h = still new (subst (λ s. Holds of_apps of_dials s) (sym does) (dial_refused of_apps of_dials (nth dial old.dials) dial old h))
  moves (event.Send app bytes) old new seen does h = sends bytes app old new (met (can_send app old) seen) does h
  moves (event.Answer dial bytes) old new seen does h = subst (λ s. Kept (λ k. of_apps k ++ []) (λ d. of_dials d ++ if_same d dial bytes) s.apps s.dials) (sym does) (answers bytes dial old (met (can_answer dial old) seen) h)
  moves (event.End app) old new seen does h = still new (subst (λ s. Holds of_apps of_dials s) (sym does) (settles of_apps of_dials app (record old { apps = change apps.ended app old.apps }) (apps_changed of_apps of_dials apps.ended (λ g a it. it) app old h)))
  moves (event.Hang dial) old new seen does h = still new (subst (λ s. Holds of_apps of_dials s) (sym does) (dest_settles of_apps of_dials dial (record old { dials = change dials.ended dial old.dials }) (dials_changed of_apps of_dials dials.ended (λ d. refl) dial old h)))
  moves (event.Fail dial) old new seen does h = still new (subst (λ s. Holds of_apps of_dials s) (sym does) (dest_failed of_apps of_dials (nth dial old.dials) dial old h))
  moves (event.Drain link) old new seen does h = still new (subst (λ s. Holds of_apps of_dials s) (sym does) (agent_step of_apps of_dials link 0 agent_event.DrainNow (record old { agents = change agents.with_drain link old.agents }) h))
  moves (event.HoldDest dial) old new seen does h = still new (subst (λ s. Holds of_apps of_dials s) (sym does) (dials_changed of_apps of_dials (dials.holding true) (λ d. refl) dial old h))
  moves (event.HoldApp app) old new seen does h = still new (subst (λ s. Holds of_apps of_dials s) (sym does) (apps_changed of_apps of_dials (apps.holding true) (λ g a it. it) app old h))
  moves (event.TakeDest dial count) old new seen does h = still new (subst (λ s. Holds of_apps of_dials s) (sym does) (dest_takes of_apps of_dials dial count old h))
  moves (event.TakeApp app count) old new seen does h = still new (subst (λ s. Holds of_apps of_dials s) (sym does) (takes of_apps of_dials app count old h))
  moves (event.GoDest dial) old new seen does h = still new (subst (λ s. Holds of_apps of_dials s) (sym does) (dest_takes_freely of_apps of_dials dial (record old { dials = change (dials.holding false) dial old.dials }) (dials_changed of_apps of_dials (dials.holding false) (λ d. refl) dial old h)))
  moves (event.GoApp app) old new seen does h = still new (subst (λ s. Holds of_apps of_dials s) (sym does) (takes_freely of_apps of_dials app (record old { apps = change (apps.holding false) app old.apps }) (apps_changed of_apps of_dials (apps.holding false) (λ g a it. it) app old h)))
  moves (event.LoseServer link) old new seen does h = still new (subst (λ s. Holds of_apps of_dials s) (sym does) (server_step of_apps of_dials 0 (LinkLost link) (record old { agents = change agents.lost_at_server link old.agents }) h))
  moves (event.LoseAgent link) old new seen does h = still new (subst (λ s. Holds of_apps of_dials s) (sym does) (agent_step of_apps of_dials link 0 agent_event.LinkLost (record old { agents = change agents.lost_at_agent link old.agents }) h))
  moves (event.LoseFront c) old new seen does h = still new (subst (λ s. Holds of_apps of_dials s) (sym does) (server_step of_apps of_dials 0 (FrontLost (clients.front_of (nth c old.clients))) (record old { clients = change clients.lost_at_server c old.clients }) h))
  moves (event.LoseClient c) old new seen does h = still new (subst (λ s. Holds of_apps of_dials s) (sym does) (client_step of_apps of_dials c (client_event.StreamEnded (codes "server lost")) (record old { clients = change clients.lost_at_client c old.clients }) h))
  moves (event.Step pipe) old new seen does h = still new (subst (λ s. Holds of_apps of_dials s) (sym does) (pipe_keeps of_apps of_dials pipe old h))
  moves (event.Pass count) old new seen does h = still new (subst (λ s. Holds of_apps of_dials s) (sym does) (rounds_keep of_apps of_dials count old h))

  happens : (e : WorldEvent) (old new : State) → Happens e old new → Holds of_apps of_dials old → Kept (λ k. of_apps k ++ unless_idle (seen_of e old) (for_app e k old)) (λ d. of_dials d ++ unless_idle (seen_of e old) (for_dial e d)) new.apps new.dials
  happens e old new it h = by (seen_of e old) refl it
    where
      by : (seen : Seen) → seen_of e old ≡ seen → HappensAs seen e old new → Kept (λ k. of_apps k ++ unless_idle seen (for_app e k old)) (λ d. of_dials d ++ unless_idle seen (for_dial e d)) new.apps new.dials
      by Moved seen does = moves e old new seen does h
      by Idle seen same = subst (λ s. Same s) (sym same) (still old h)

-- ---- all of a script
runs_own : (es : List WorldEvent) (of_apps of_dials : ℕ → List ℕ) (old : State) (idle : ℕ) (new : State) (runs : Runs es old idle new) → Holds of_apps of_dials old
    → Kept (λ k. of_apps k ++ app_bytes es old idle new runs k) (λ d. of_dials d ++ dial_bytes es old idle new runs d) new.apps new.dials
runs_own [] of_apps of_dials old idle new runs h = subst (λ s. Same of_apps of_dials s) (sym runs.0) (still of_apps of_dials old h)
runs_own (e ∷ es) of_apps of_dials old idle new runs h =
    let rest = runs_own es (λ k. of_apps k ++ unless_idle (seen_of e old) (for_app e k old)) (λ d. of_dials d ++ unless_idle (seen_of e old) (for_dial e d)) runs.0 runs.1 new runs.3 (happens of_apps of_dials e old runs.0 runs.2 h) in
    record {
      own = λ k. subst (λ g. OwnOf (nth k new.apps) g) (append_assoc (of_apps k) (unless_idle (seen_of e old) (for_app e k old)) (app_bytes es runs.0 runs.1 new runs.3 k)) (rest.own k);
      same = λ d. rest.same d ∙ append_assoc (of_dials d) (unless_idle (seen_of e old) (for_dial e d)) (dial_bytes es runs.0 runs.1 new runs.3 d);
    }

pub sends_own : (strategies : List Strategy) (es : List WorldEvent) (idle : ℕ) (s : State) (runs : Runs es (start strategies) idle s) → SendsOwn (app_bytes es (start strategies) idle s runs) (dial_bytes es (start strategies) idle s runs) s
sends_own strategies es idle s runs = record {
  by_apps = λ k a there. promised a.home (a.door.number == 0) (is_at_door a.stage) a.door.front (app_bytes es (start strategies) idle s runs k) (sent_of a.side) (subst (λ o. OwnOf o (app_bytes es (start strategies) idle s runs k)) there (kept.own k));
  by_dials = λ d x there. sym (ap sent_at there) ∙ kept.same d;
}
  where
    nothing : (k : ℕ) → OwnOf (nth k []) []
    nothing zero = refl
    nothing (suc k) = refl

    nothing_sent : (d : ℕ) → sent_at (nth d []) ≡ []
    nothing_sent zero = refl
    nothing_sent (suc d) = refl

    kept : Kept (app_bytes es (start strategies) idle s runs) (dial_bytes es (start strategies) idle s runs) s.apps s.dials
    kept = runs_own es (λ k. []) (λ d. []) (start strategies) idle s runs (record { own = nothing; same = nothing_sent })
