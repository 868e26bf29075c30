-- Every event keeps the facts on choices: whatever it does, the server takes it by steps alone.
use Rattle.std.proofs.Common.{◌≡◌, ◌++◌, ℕ, ℤ, zero, suc, Bool, true, false, cond, List, [], ◌∷◌, length, drop, min, take, ◌+◌, Option, None, Some, Result, Ok, Err, refl, sym, ap, ◌∙◌, subst, append-nil, codes}
use Rattle.kn_packet.specs.declared.packet.Packet.{Packet}
use Rattle.kn_packet.specs.declared.packet.Packet.TheVariants.{CloseReq, CloseRsp, Data, DialCls, DialReq, DialRsp, Drain, Other}
use Rattle.kn_connect.specs.declared.answer.ConnectAnswer.{ConnectAnswer}
use Rattle.kn_connect.specs.declared.answer.ConnectAnswer.TheVariants.{Head, More}
use Rattle.kn_connect.specs.declared.answer.ConnectError.{ConnectError}
use Rattle.kn_connect.specs.declared.answer.ConnectError.TheVariants as connect_error
use Rattle.kn_route.specs.Identifiers.{identifiers_in}
use Rattle.kn_route.specs.declared.id_kind.IdKind.{IdKind}
use Rattle.kn_route.specs.declared.identifiers.IdFault.{IdFault}
use Rattle.kn_route.specs.declared.strategy.Strategy.{Strategy}
use Rattle.kn_edge_core.specs.declared.agent_event.AgentEvent.{AgentEvent}
use Rattle.kn_edge_core.specs.declared.agent_event.AgentEvent.TheVariants as agent_event
use Rattle.kn_edge_core.specs.declared.agent_event.AgentOut.{AgentOut}
use Rattle.kn_edge_core.specs.declared.agent_event.AgentOut.TheVariants as agent_out
use Rattle.kn_edge_core.specs.declared.client_event.ClientEvent.{ClientEvent}
use Rattle.kn_edge_core.specs.declared.client_event.ClientEvent.TheVariants as client_event
use Rattle.kn_edge_core.specs.declared.client_event.ClientOut.{ClientOut}
use Rattle.kn_edge_core.specs.declared.client_event.ClientOut.TheVariants as client_out
use Rattle.kn_server_core.specs.declared.event.ServerEvent.TheVariants.{FrontLost, FrontPacket, FrontUp, LinkLost, LinkPacket, LinkUp}
use Rattle.kn_server_core.proofs.ReachedLemmas.{orderly_kept, orderly_start}
use Rattle.kn_packets.proofs.AgentKept.{each_as, each_more}
use Rattle.kn_world.specs.declared.event.Pipe.{Pipe}
use Rattle.kn_world.specs.declared.event.Pipe.TheVariants.{AgentDown, AgentUp, ClientDown, ClientUp}
use Rattle.kn_world.specs.declared.event.Seen.{Seen}
use Rattle.kn_world.specs.declared.event.Seen.TheVariants.{Idle, Moved}
use Rattle.kn_world.specs.declared.event.WorldEvent.{WorldEvent}
use Rattle.kn_world.specs.declared.event.WorldEvent.TheVariants as event
use Rattle.kn_world.specs.declared.parts.App.{App}
use Rattle.kn_world.specs.declared.parts.AppChoice.{AppChoice}
use Rattle.kn_world.specs.declared.parts.Client.{Client}
use Rattle.kn_world.specs.declared.parts.Dial.{Dial}
use Rattle.kn_world.specs.declared.parts.Home.{Home}
use Rattle.kn_world.specs.declared.parts.Home.TheVariants as home
use Rattle.kn_world.specs.declared.state.State.{State}
use Rattle.kn_world.specs.Agents as agents
use Rattle.kn_world.specs.AgentSteps as agent
use Rattle.kn_world.specs.Answering as answering
use Rattle.kn_world.specs.Apps as apps
use Rattle.kn_world.specs.AppSteps as app_steps
use Rattle.kn_world.specs.Arrivals as arrivals
use Rattle.kn_world.specs.Clients as clients
use Rattle.kn_world.specs.ClientSteps as client
use Rattle.kn_world.specs.Dials as dials
use Rattle.kn_world.specs.Effects as effects
use Rattle.kn_world.specs.Events.{Happens, HappensAs, Runs}
use Rattle.kn_world.specs.Handing as handing
use Rattle.kn_world.specs.Hearing as hearing
use Rattle.kn_world.specs.Idle.{seen_of}
use Rattle.kn_world.specs.Numbers.{change, nth}
use Rattle.kn_world.specs.Pipes as pipes
use Rattle.kn_world.specs.ServerPackets as server_packets
use Rattle.kn_world.specs.ServerSteps as server
use Rattle.kn_world.specs.States.{new_agent, start}
use Rattle.kn_world.specs.Times.{times}
use Rattle.kn_refinement.specs.Chosen.{ChoicesHold, Identifiers, IsOfAgent, IsPicked, MadeFor, agent_in, agent_read, agents_in}
use Rattle.kn_refinement.proofs.ChosenParts.{agents_changed, dials_changed, still_of_agent, still_picked}
use Rattle.kn_refinement.proofs.ChosenServer.{step_holds}
use Rattle.kn_refinement.proofs.NumberLemmas.{length_more}
use Rattle.kn_refinement.proofs.Pairs.{came_last}

module _ (strategies : List Strategy) (named : List Identifiers) where
  abbrev Holds : State → Type 0
  Holds s = ChoicesHold strategies named s

  abbrev Keeps : (State → State) → Type 0
  Keeps f = (s : State) → Holds s → Holds (f s)

  times_keep : (n : ℕ) (f : State → State) → Keeps f → Keeps (times n f)
  unfolding times
  times_keep zero f one s h = h
  times_keep (suc n) f one s h = times_keep n f one (f s) (one s h)

  -- ---- agents
  answered_keeps : (error : List ℕ) (link dial : ℕ) (connect_id : ℤ) → Keeps (agent.answered error link dial connect_id)
  answered_keeps [] link dial connect_id s h = dials_changed strategies named (dials.with_connect_id connect_id) (λ d. refl) dial (record s { agents = change (agents.with_connection dial) link s.agents }) (agents_changed strategies named (agents.with_connection dial) link s h)
  answered_keeps (x ∷ xs) link dial connect_id s h = h

  noted_keeps : (p : Packet) (link dial : ℕ) → Keeps (agent.noted p link dial)
  noted_keeps (DialRsp error connect_id random) link dial s h = answered_keeps error link dial connect_id s h
  noted_keeps (DialReq protocol address random) link dial s h = h
  noted_keeps (CloseReq connect_id) link dial s h = h
  noted_keeps (CloseRsp error connect_id) link dial s h = h
  noted_keeps (Data connect_id error bytes) link dial s h = h
  noted_keeps (DialCls random) link dial s h = h
  noted_keeps Drain link dial s h = h
  noted_keeps (Other number) link dial s h = h

  agent_gives : (o : AgentOut) (link dial : ℕ) → Keeps (agent.gives o link dial)
  agent_gives (agent_out.ToServer p) link dial s h = agents_changed strategies named (agents.queued_up p) link (agent.noted p link dial s) (noted_keeps p link dial s h)
  agent_gives (agent_out.Dial ticket address) link dial s h = dials_changed strategies named (dials.with_ticket ticket) (λ d. refl) dial s h
  agent_gives (agent_out.Write connect_id bytes) link dial s h = dials_changed strategies named (dials.written bytes) (λ d. refl) dial s h
  agent_gives (agent_out.CloseDest connect_id) link dial s h = h
  agent_gives (agent_out.DropDial ticket) link dial s h = h

  agent_gives_all : (os : List AgentOut) (link dial : ℕ) → Keeps (agent.gives_all os link dial)
  agent_gives_all [] link dial s h = h
  agent_gives_all (o ∷ os) link dial s h = agent_gives_all os link dial (agent.gives o link dial s) (agent_gives o link dial s h)

  agent_step : (link dial : ℕ) (e : AgentEvent) → Keeps (agent.step link dial e)
  agent_step link dial e s h = agent_gives_all (agents.told e (nth link s.agents)) link dial (record s { agents = change (agents.stepped e) link s.agents }) (agents_changed strategies named (agents.stepped e) link s h)

  dest_takes_of : (o : Option Dial) (dial count : ℕ) → Keeps (agent.takes_of o dial count)
  dest_takes_of None dial count s h = h
  dest_takes_of (Some d) dial count s h =
      let some : ℕ = agent_count d count s in
      agent_step d.link dial (agent_event.DestWrote d.connect_id some) (record s { dials = change (dials.took some) dial s.dials }) (dials_changed strategies named (dials.took some) (λ x. refl) dial s h)
    where
      agent_count : Dial → ℕ → State → ℕ
      agent_count d count s = min count (dials.unwritten_at d.connect_id (nth d.link s.agents))

  dest_takes : (dial count : ℕ) → Keeps (agent.takes dial count)
  dest_takes dial count s h = dest_takes_of (nth dial s.dials) dial count s h

  dest_takes_freely : (dial : ℕ) → Keeps (agent.takes_freely dial)
  dest_takes_freely dial s h = here (agent.is_free dial s)
    where
      here : (b : Bool) → Holds (cond b (agent.takes dial 18446744073709551615 s) s)
      here true = dest_takes dial 18446744073709551615 s h
      here false = h

  agent_takes_packet : (p : Packet) (link : ℕ) → Keeps (agent.takes_packet p link)
  agent_takes_packet p link s h =
      let asked : State = record s { dials = change dials.requested (agent.asked_by p) s.dials } in
      let dial : ℕ = agent.either (agent.asked_by p) (agent.written_by p link s) in
      dest_takes_freely (agent.written_by p link s) (agent.step link dial (agent_event.Packet p) asked)
      (agent_step link dial (agent_event.Packet p) asked (dials_changed strategies named dials.requested (λ d. refl) (agent.asked_by p) s h))

  -- ---- destinations
  dest_hands_of : (o : Option Dial) (dial : ℕ) → Keeps (answering.hands_piece_of o dial)
  dest_hands_of None dial s h = h
  dest_hands_of (Some d) dial s h = agent_step d.link dial (agent_event.DestBytes d.connect_id (take 16384 d.side.sending.waiting)) (record s { dials = change (dials.handed 16384) dial s.dials }) (dials_changed strategies named (dials.handed 16384) (λ x. refl) dial s h)

  dest_end_of : (o : Option Dial) (dial : ℕ) → Keeps (answering.gives_end_of o dial)
  dest_end_of None dial s h = h
  dest_end_of (Some d) dial s h = agent_step d.link dial (agent_event.DestEnd d.connect_id) (record s { dials = change dials.end_told dial s.dials }) (dials_changed strategies named dials.end_told (λ x. refl) dial s h)

  dest_settles : (dial : ℕ) → Keeps (answering.settles dial)
  dest_settles dial s h = here (answering.is_end_due dial handed) (times_keep (answering.count_wanted dial s) (answering.hands_piece dial) (λ t k. dest_hands_of (nth dial t.dials) dial t k) s h)
    where
      handed : State
      handed = answering.hands_pieces (answering.count_wanted dial s) dial s

      here : (b : Bool) → Holds handed → Holds (cond b (answering.gives_end dial handed) handed)
      here true k = dest_end_of (nth dial handed.dials) dial handed k
      here false k = k

  -- ---- clients
  client_gives : (o : ClientOut) (c : ℕ) → Keeps (client.gives o c)
  client_gives (client_out.ToServer p) c s h = h
  client_gives (client_out.ToApp app bytes) c s h = h
  client_gives (client_out.EndApp app error) c s h = h

  client_gives_all : (os : List ClientOut) (c : ℕ) → Keeps (client.gives_all os c)
  client_gives_all [] c s h = h
  client_gives_all (o ∷ os) c s h = client_gives_all os c (client.gives o c s) (client_gives o c s h)

  client_step : (c : ℕ) (e : ClientEvent) → Keeps (client.step c e)
  client_step c e s h = client_gives_all (clients.told e (nth c s.clients)) c (record s { clients = change (clients.stepped e) c s.clients }) h

  -- ---- what apps give
  hands_to : (at : Home) (bytes : List ℕ) (app : ℕ) → Keeps (handing.hands_to at bytes app)
  hands_to (home.Client c number) bytes app s h = client_step c (client_event.AppBytes number bytes) s h
  hands_to home.Connect bytes app s h = h

  hands_of : (o : Option App) (app : ℕ) → Keeps (handing.hands_piece_of o app)
  hands_of None app s h = h
  hands_of (Some a) app s h = hands_to a.home (take 16384 a.side.sending.waiting) app (record s { apps = change (apps.handed 16384) app s.apps }) h

  hears_first : (o : Option Packet) (front : ℕ) → Keeps (handing.server_hears_first o front)
  hears_first None front s h = h
  hears_first (Some p) front s h = step_holds strategies named 0 (FrontPacket front p) s tt h

  hears_one : (app : ℕ) → Keeps (handing.server_hears app)
  hears_one app s h = hears_first (apps.first_kept (nth app s.apps)) (apps.front_of (nth app s.apps)) (record s { apps = change apps.rest_kept app s.apps }) h

  end_to : (at : Home) (app : ℕ) → Keeps (handing.gives_end_to at app)
  end_to (home.Client c number) app s h = client_step c (client_event.AppEnd number) s h
  end_to home.Connect app s h = step_holds strategies named 0 (FrontLost (apps.front_of (nth app s.apps))) (record s { apps = change apps.left_door app s.apps }) tt h

  end_of : (o : Option App) (app : ℕ) → Keeps (handing.gives_end_of o app)
  end_of None app s h = h
  end_of (Some a) app s h = end_to a.home app (record s { apps = change apps.end_told app s.apps }) h

  settles : (app : ℕ) → Keeps (handing.settles app)
  settles app s h = ends (handing.is_end_due app heard) (times_keep (apps.kept_count (nth app given.apps)) (handing.server_hears app) (hears_one app) given
      (times_keep (handing.count_wanted app s) (handing.hands_piece app) (λ t k. hands_of (nth app t.apps) app t k) s h))
    where
      given : State
      given = handing.hands_wanted app s

      heard : State
      heard = handing.server_hears_kept app given

      ends : (b : Bool) → Holds heard → Holds (cond b (handing.gives_end app heard) heard)
      ends true k = end_of (nth app heard.apps) app heard k
      ends false k = k

  -- ---- what apps take
  took : (at : Home) (count app : ℕ) → Keeps (app_steps.took at count app)
  took (home.Client c number) count app s h =
      let some : ℕ = min count (clients.unwritten_at number (nth c s.clients)) in
      client_step c (client_event.AppWrote number some) (record s { apps = change (apps.took some) app s.apps }) h
  took home.Connect count app s h = h

  takes_of : (o : Option App) (app count : ℕ) → Keeps (app_steps.takes_of o app count)
  takes_of None app count s h = h
  takes_of (Some a) app count s h = took a.home count app s h

  takes : (app count : ℕ) → Keeps (app_steps.takes app count)
  takes app count s h = takes_of (nth app s.apps) app count s h

  takes_freely : (app : ℕ) → Keeps (app_steps.takes_freely app)
  takes_freely app s h = here (app_steps.is_free app s)
    where
      here : (b : Bool) → Holds (cond b (app_steps.takes app 18446744073709551615 s) s)
      here true = takes app 18446744073709551615 s h
      here false = h

  opens : (app : ℕ) → Keeps (app_steps.opens app)
  opens app s h = settles app (record s { apps = change (apps.opened_if (app_steps.state_of app s)) app s.apps }) h

  client_takes_packet : (p : Packet) (c : ℕ) → Keeps (app_steps.takes_packet p c)
  client_takes_packet p c s h =
      takes_freely (app_steps.written_by p c s.clients) (app_steps.opens (app_steps.answered_by p c s.clients) (client.step c (client_event.Packet p) s))
      (opens (app_steps.answered_by p c s.clients) (client.step c (client_event.Packet p) s) (client_step c (client_event.Packet p) s h))

  -- ---- pipes
  at_server : (o : Option Packet) (link : ℕ) → Keeps (pipes.at_server o link)
  at_server None link s h = h
  at_server (Some p) link s h = settles (server_packets.answered_by p s) (server.step 0 (LinkPacket link p) s) (step_holds strategies named 0 (LinkPacket link p) s tt h)

  at_agent : (o : Option Packet) (link : ℕ) → Keeps (pipes.at_agent o link)
  at_agent None link s h = h
  at_agent (Some p) link s h = agent_takes_packet p link s h

  at_front : (o : Option Packet) (c : ℕ) → Keeps (pipes.at_front o c)
  at_front None c s h = h
  at_front (Some p) c s h = step_holds strategies named (server_packets.asker p c s.clients) (FrontPacket (clients.front_of (nth c s.clients)) p) s tt h

  at_client : (o : Option Packet) (c : ℕ) → Keeps (pipes.at_client o c)
  at_client None c s h = h
  at_client (Some p) c s h = client_takes_packet p c s h

  pipe_keeps : (p : Pipe) → Keeps (pipes.step p)
  pipe_keeps (AgentUp link) s h = at_server (agents.first_up (nth link s.agents)) link (record s { agents = change agents.rest_up link s.agents }) (agents_changed strategies named agents.rest_up link s h)
  pipe_keeps (AgentDown link) s h = at_agent (agents.first_down (nth link s.agents)) link (record s { agents = change agents.rest_down link s.agents }) (agents_changed strategies named agents.rest_down link s h)
  pipe_keeps (ClientUp c) s h = at_front (clients.first_up (nth c s.clients)) c (record s { clients = change clients.rest_up c s.clients }) h
  pipe_keeps (ClientDown c) s h = at_client (clients.first_down (nth c s.clients)) c (record s { clients = change clients.rest_down c s.clients }) h

  delivered_keeps : (p : Pipe) → Keeps (pipes.delivered p)
  unfolding pipes.delivered
  delivered_keeps p s h = times_keep (pipes.count_in p s) (pipes.step p) (pipe_keeps p) s h

  agents_deliver : (n : ℕ) → Keeps (pipes.agents_delivered n)
  agents_deliver zero s h = h
  agents_deliver (suc n) s h =
      let before : State = pipes.agents_delivered n s in
      delivered_keeps (AgentDown (suc n)) (pipes.delivered (AgentUp (suc n)) before) (delivered_keeps (AgentUp (suc n)) before (agents_deliver n s h))

  clients_deliver : (n : ℕ) → Keeps (pipes.clients_delivered n)
  clients_deliver zero s h = h
  clients_deliver (suc n) s h =
      let before : State = pipes.clients_delivered n s in
      delivered_keeps (ClientDown (suc n)) (pipes.delivered (ClientUp (suc n)) before) (delivered_keeps (ClientUp (suc n)) before (clients_deliver n s h))

  round_keeps : Keeps pipes.round
  unfolding pipes.round
  round_keeps s h = let t : State = pipes.agents_delivered (length s.agents) s in clients_deliver (length t.clients) t (agents_deliver (length s.agents) s h)

  rounds_keep : (n : ℕ) → Keeps (pipes.rounds n)
  unfolding pipes.rounds
  rounds_keep zero s h = h
  rounds_keep (suc n) s h = here (pipes.nothing_in_flight s) (rounds_keep n (pipes.round s) (round_keeps s h))
    where
      here : (b : Bool) → Holds (pipes.rounds n (pipes.round s)) → Holds (cond b s (pipes.rounds n (pipes.round s)))
      here true later = h
      here false later = later

  -- ---- apps by CONNECT
  head_keeps : (target early rest : List ℕ) (app : ℕ) → Keeps (hearing.head_came target early rest app)
  head_keeps target early rest app s h =
      let owned : State = hearing.with_owner app s in
      let front : ℕ = length owned.fronts in
      let headed : State = hearing.with_head front early rest app owned in
      let up : State = server.step 0 (FrontUp front) headed in
      settles app (hearing.early_kept early app (hearing.front_up front target app headed))
      (step_holds strategies named app (FrontPacket front (hearing.request target)) up tt (step_holds strategies named 0 (FrontUp front) headed tt h))

  responds_keep : (answer : Result ConnectAnswer ConnectError) (rest : List ℕ) (app : ℕ) → Keeps (hearing.responds answer rest app)
  responds_keep (Ok More) rest app s h = settles app s h
  responds_keep (Ok (Head target early)) rest app s h = head_keeps target early rest app s h
  responds_keep (Err (connect_error.Fault fault)) rest app s h = h
  responds_keep (Err connect_error.NoMemory) rest app s h = h

  hears_keep : (bytes : List ℕ) (app : ℕ) (old new : State) → hearing.Hears bytes app old new → Holds old → Holds new
  hears_keep bytes app old new heard h = subst (λ s. Holds s) (sym heard.4) (responds_keep heard.0 (drop 16384 bytes) app (record old { apps = heard.1 }) h)

  raw_comes : (bytes : List ℕ) (old new : State) → arrivals.RawAppComes bytes old new → Holds old → Holds new
  raw_comes bytes old new heard h = hears_keep bytes (length (arrivals.with_connect old).apps) (arrivals.with_connect old) new heard h

  -- ---- arrivals
  client_comes : Keeps arrivals.client_comes
  client_comes s h =
      let front : ℕ = length (arrivals.with_owner s).fronts in
      step_holds strategies named 0 (FrontUp front) (arrivals.with_client front (arrivals.with_owner s)) tt h

  app_comes_at : (o : Option Client) (c : ℕ) (address : List ℕ) → Keeps (arrivals.app_comes_at o c address)
  app_comes_at None c address s h = h
  app_comes_at (Some found) c address s h = here (clients.is_at_client (nth c noted.clients))
    where
      number : ℕ
      number = length found.apps + 1

      last : ℕ
      last = length (arrivals.with_app c number s).apps

      noted : State
      noted = arrivals.app_noted c last (arrivals.with_app c number s)

      here : (b : Bool) → Holds (cond b (arrivals.asks c number address noted) (arrivals.refuses last noted))
      here true = client_step c (client_event.AppUp number address) noted h
      here false = h

  sends_keep : (bytes : List ℕ) (app : ℕ) (old new : State) → effects.Sends bytes app old new → Holds old → Holds new
  sends_keep bytes app old new sends h = by (effects.is_app_unheard app old) sends
    where
      by : (b : Bool) → effects.SendsIf b bytes app old new → Holds new
      by true hears = hears_keep bytes app old new hears h
      by false same = subst (λ s. Holds s) (sym same) (settles app (record old { apps = change (apps.sent bytes) app old.apps }) h)

  -- ---- dials
  dial_won : (o : Option Dial) (dial : ℕ) → Keeps (effects.dial_won_of o dial)
  dial_won None dial s h = h
  dial_won (Some d) dial s h = agent_step d.link dial (agent_event.DialUp d.ticket) s h

  dial_refused : (o : Option Dial) (dial : ℕ) → Keeps (effects.dial_refused_of o dial)
  dial_refused None dial s h = h
  dial_refused (Some d) dial s h = agent_step d.link dial (agent_event.DialRefused d.ticket) s h

  dest_failed : (o : Option Dial) (dial : ℕ) → Keeps (effects.dest_failed_of o dial)
  dest_failed None dial s h = h
  dest_failed (Some d) dial s h = agent_step d.link dial (agent_event.DestFailed d.connect_id) s h

  -- ---- an agent comes, whose identifiers are one more of those named
  pub as_is : (s : State) → Holds s → ChoicesHold strategies (named ++ []) s
  as_is s h = subst (λ ids. ChoicesHold strategies ids s) (sym (append-nil named)) h

  agent_comes : (given : Result (List (IdKind × List ℕ)) IdFault) (s : State) → Holds s → ChoicesHold strategies (named ++ agent_read given) (arrivals.agent_read given s)
  agent_comes (Err fault) s h = as_is s h
  agent_comes (Ok identifiers) s h = record {
    strategies_same = h.strategies_same;
    agents_counted = counted ∙ sym (length_more named identifiers);
    links = each_more (IsOfAgent (named ++ identifiers ∷ [])) s.server.links.links (record { number = length (s.agents ++ new_agent ∷ []); draining = false; identifiers = identifiers })
        (each_as (IsOfAgent named) (IsOfAgent (named ++ identifiers ∷ [])) (λ l k. still_of_agent named identifiers l k) s.server.links.links h.links)
        (ap (λ n. nth n (named ++ identifiers ∷ [])) counted ∙ came_last named identifiers);
    orderly = orderly_kept s.server (LinkUp (length (s.agents ++ new_agent ∷ [])) identifiers) h.orderly;
    next_dial = h.next_dial;
    picked = each_as (λ (c : AppChoice). IsPicked strategies named c.choice) (λ (c : AppChoice). IsPicked strategies (named ++ identifiers ∷ []) c.choice) (λ c k. still_picked named strategies identifiers c.choice k) s.choices h.picked;
    chosen = h.chosen;
    dialled = h.dialled;
  }
    where
      counted : length (s.agents ++ new_agent ∷ []) ≡ suc (length named)
      counted = length_more s.agents new_agent ∙ ap suc h.agents_counted

  -- ---- events
  keeps : (e : WorldEvent) (old new : State) → effects.Does e old new → Holds old → ChoicesHold strategies (named ++ agent_in e) new
  keeps (event.Agent identifiers) old new does h = subst (λ s. ChoicesHold strategies (named ++ agent_read (identifiers_in identifiers)) s) (sym does) (agent_comes (identifiers_in identifiers) old h)
  keeps event.Client old new does h = as_is new (subst (λ s. Holds s) (sym does) (client_comes old h))
  keeps (event.App c address) old new does h = as_is new (subst (λ s. Holds s) (sym does) (app_comes_at (nth c old.clients) c address old h))
  keeps (event.Connect address) old new does h = as_is new (raw_comes (arrivals.request_text address) old new does h)
  keeps (event.Raw bytes) old new does h = as_is new (raw_comes bytes old new does h)
  keeps (event.Up dial) old new does h = as_is new (subst (λ s. Holds s) (sym does) (dial_won (nth dial old.dials) dial old h))
  keeps (event.Refuse dial) old new does h = as_is new (subst (λ s. Holds s) (sym does) (dial_refused (nth dial old.dials) dial old h))
  keeps (event.Send app bytes) old new does h = as_is new (sends_keep bytes app old new does h)
  keeps (event.Answer dial bytes) old new does h = as_is new (subst (λ s. Holds s) (sym does) (dest_settles dial (record old { dials = change (dials.sent bytes) dial old.dials }) (dials_changed strategies named (dials.sent bytes) (λ d. refl) dial old h)))
  keeps (event.End app) old new does h = as_is new (subst (λ s. Holds s) (sym does) (settles app (record old { apps = change apps.ended app old.apps }) h))
  keeps (event.Hang dial) old new does h = as_is new (subst (λ s. Holds s) (sym does) (dest_settles dial (record old { dials = change dials.ended dial old.dials }) (dials_changed strategies named dials.ended (λ d. refl) dial old h)))
  keeps (event.Fail dial) old new does h = as_is new (subst (λ s. Holds s) (sym does) (dest_failed (nth dial old.dials) dial old h))
  keeps (event.Drain link) old new does h = as_is new (subst (λ s. Holds s) (sym does) (agent_step link 0 agent_event.DrainNow (record old { agents = change agents.with_drain link old.agents }) (agents_changed strategies named agents.with_drain link old h)))
  keeps (event.HoldDest dial) old new does h = as_is new (subst (λ s. Holds s) (sym does) (dials_changed strategies named (dials.holding true) (λ d. refl) dial old h))
  keeps (event.HoldApp app) old new does h = as_is new (subst (λ s. Holds s) (sym does) h)
  keeps (event.TakeDest dial count) old new does h = as_is new (subst (λ s. Holds s) (sym does) (dest_takes dial count old h))
  keeps (event.TakeApp app count) old new does h = as_is new (subst (λ s. Holds s) (sym does) (takes app count old h))
  keeps (event.GoDest dial) old new does h = as_is new (subst (λ s. Holds s) (sym does) (dest_takes_freely dial (record old { dials = change (dials.holding false) dial old.dials }) (dials_changed strategies named (dials.holding false) (λ d. refl) dial old h)))
  keeps (event.GoApp app) old new does h = as_is new (subst (λ s. Holds s) (sym does) (takes_freely app (record old { apps = change (apps.holding false) app old.apps }) h))
  keeps (event.LoseServer link) old new does h = as_is new (subst (λ s. Holds s) (sym does) (step_holds strategies named 0 (LinkLost link) (record old { agents = change agents.lost_at_server link old.agents }) tt (agents_changed strategies named agents.lost_at_server link old h)))
  keeps (event.LoseAgent link) old new does h = as_is new (subst (λ s. Holds s) (sym does) (agent_step link 0 agent_event.LinkLost (record old { agents = change agents.lost_at_agent link old.agents }) (agents_changed strategies named agents.lost_at_agent link old h)))
  keeps (event.LoseFront c) old new does h = as_is new (subst (λ s. Holds s) (sym does) (step_holds strategies named 0 (FrontLost (clients.front_of (nth c old.clients))) (record old { clients = change clients.lost_at_server c old.clients }) tt h))
  keeps (event.LoseClient c) old new does h = as_is new (subst (λ s. Holds s) (sym does) (client_step c (client_event.StreamEnded (codes "server lost")) (record old { clients = change clients.lost_at_client c old.clients }) h))
  keeps (event.Step pipe) old new does h = as_is new (subst (λ s. Holds s) (sym does) (pipe_keeps pipe old h))
  keeps (event.Pass count) old new does h = as_is new (subst (λ s. Holds s) (sym does) (rounds_keep count old h))

  -- one that is idle brings no agent
  idle_brings_none : (e : WorldEvent) (s : State) → seen_of e s ≡ Idle → agent_in e ≡ []
  idle_brings_none (event.Agent identifiers) s i = absurd cc
  idle_brings_none event.Client s i = refl
  idle_brings_none (event.App c address) s i = refl
  idle_brings_none (event.Connect address) s i = refl
  idle_brings_none (event.Raw bytes) s i = refl
  idle_brings_none (event.Up dial) s i = refl
  idle_brings_none (event.Refuse dial) s i = refl
  idle_brings_none (event.Send app bytes) s i = refl
  idle_brings_none (event.Answer dial bytes) s i = refl
  idle_brings_none (event.End app) s i = refl
  idle_brings_none (event.Hang dial) s i = refl
  idle_brings_none (event.Fail dial) s i = refl
  idle_brings_none (event.Drain link) s i = refl
  idle_brings_none (event.HoldDest dial) s i = refl
  idle_brings_none (event.HoldApp app) s i = refl
  idle_brings_none (event.TakeDest dial count) s i = refl
  idle_brings_none (event.TakeApp app count) s i = refl
  idle_brings_none (event.GoDest dial) s i = refl
  idle_brings_none (event.GoApp app) s i = refl
  idle_brings_none (event.LoseServer link) s i = refl
  idle_brings_none (event.LoseAgent link) s i = refl
  idle_brings_none (event.LoseFront c) s i = refl
  idle_brings_none (event.LoseClient c) s i = refl
  idle_brings_none (event.Step pipe) s i = refl
  idle_brings_none (event.Pass count) s i = refl

  pub happens_keeps : (e : WorldEvent) (old new : State) → Happens e old new → Holds old → ChoicesHold strategies (named ++ agent_in e) new
  happens_keeps e old new happens h = here (seen_of e old) refl happens
    where
      here : (seen : Seen) → seen_of e old ≡ seen → HappensAs seen e old new → ChoicesHold strategies (named ++ agent_in e) new
      here Moved i does = keeps e old new does h
      here Idle i same = subst (λ ids. ChoicesHold strategies (named ++ ids) new) (sym (idle_brings_none e old i)) (as_is new (subst (λ s. Holds s) (sym same) h))

-- ---- all of a script
pub choices_start : (strategies : List Strategy) → ChoicesHold strategies [] (start strategies)
choices_start strategies = record {
  strategies_same = refl;
  agents_counted = refl;
  links = tt;
  orderly = orderly_start strategies;
  next_dial = refl;
  picked = tt;
  chosen = λ d x at. absurd (nothing d x at);
  dialled = tt;
}
  where
    nothing : (n : ℕ) (x : MadeFor) → nth n [] ≡ Some x → ⊥
    nothing zero x e = cc
    nothing (suc n) x e = cc

pub runs_keep : (strategies : List Strategy) (es : List WorldEvent) (named : List Identifiers) (old new : State) (idle : ℕ) → ChoicesHold strategies named old → Runs es old idle new → ChoicesHold strategies (named ++ agents_in es) new
runs_keep strategies [] named old new idle h runs = subst (λ s. ChoicesHold strategies (named ++ []) s) (sym runs.0) (as_is strategies named old h)
runs_keep strategies (e ∷ es) named old new idle h runs =
    subst (λ ids. ChoicesHold strategies ids new) (joined named (agent_in e) (agents_in es))
    (runs_keep strategies es (named ++ agent_in e) runs.0 new runs.1 (happens_keeps strategies named e old runs.0 runs.2 h) runs.3)
  where
    joined : (vs ws us : List Identifiers) → (vs ++ ws) ++ us ≡ vs ++ (ws ++ us)
    joined [] ws us = refl
    joined (v ∷ vs) ws us = ap (λ zs. v ∷ zs) (joined vs ws us)
