-- Every event keeps what apps with a choice that has no answer were told.
use Rattle.std.proofs.Common.{◌≡◌, inl, inr, ◌&&◌, not, eqb-true, ◌++◌, ℕ, pos, zero, suc, Bool, true, false, cond, List, [], ◌∷◌, length, drop, take, ◌+◌, Option, None, Some, Result, Ok, Err, refl, sym, ap, ◌∙◌, subst, codes}
use Rattle.kn_packet.specs.declared.packet.Packet.{Packet}
use Rattle.kn_packet.specs.declared.packet.Packet.TheVariants.{DialRsp}
use Rattle.kn_connect.specs.declared.answer.ConnectAnswer.{ConnectAnswer}
use Rattle.kn_connect.specs.declared.answer.ConnectAnswer.TheVariants.{Head, More}
use Rattle.kn_connect.specs.declared.answer.ConnectError.{ConnectError}
use Rattle.kn_connect.specs.declared.answer.ConnectError.TheVariants as connect_error
use Rattle.kn_route.specs.Identifiers.{identifiers_in}
use Rattle.kn_route.specs.declared.id_kind.IdKind.{IdKind}
use Rattle.kn_route.specs.declared.identifiers.IdFault.{IdFault}
use Rattle.kn_edge_core.specs.declared.agent_event.AgentEvent.TheVariants as agent_event
use Rattle.kn_edge_core.specs.declared.client_event.ClientEvent.TheVariants as client_event
use Rattle.kn_server_core.specs.declared.event.ServerEvent.TheVariants.{FrontLost, FrontUp, LinkLost, LinkUp}
use Rattle.kn_world.specs.declared.event.Pipe.{Pipe}
use Rattle.kn_world.specs.declared.event.Pipe.TheVariants.{AgentDown, AgentUp, ClientDown, ClientUp}
use Rattle.kn_world.specs.declared.event.Seen.{Seen}
use Rattle.kn_world.specs.declared.event.Seen.TheVariants.{Idle, Moved}
use Rattle.kn_world.specs.declared.event.WorldEvent.{WorldEvent}
use Rattle.kn_world.specs.declared.event.WorldEvent.TheVariants as event
use Rattle.kn_world.specs.declared.parts.App.{App}
use Rattle.kn_world.specs.declared.parts.Client.{Client}
use Rattle.kn_world.specs.declared.parts.Home.{Home}
use Rattle.kn_world.specs.declared.parts.Home.TheVariants as home
use Rattle.kn_world.specs.declared.state.State.{State}
use Rattle.kn_world.specs.Agents as agents
use Rattle.kn_world.specs.Apps as apps
use Rattle.kn_world.specs.Arrivals as arrivals
use Rattle.kn_world.specs.Clients as clients
use Rattle.kn_world.specs.Dials as dials
use Rattle.kn_world.specs.Effects as effects
use Rattle.kn_world.specs.Events.{Happens, HappensAs, Runs}
use Rattle.kn_world.specs.Hearing as hearing
use Rattle.kn_world.specs.Idle.{seen_of}
use Rattle.kn_world.specs.Numbers.{change, nth}
use Rattle.kn_world.specs.Pipes as pipes
use Rattle.kn_world.specs.ServerSteps as server
use Rattle.kn_world.specs.Times.{times}
use Rattle.kn_world.specs.declared.parts.Owner.TheVariants as owner
use Rattle.kn_world.specs.States.{new_app, new_dial, start}
use Rattle.kn_world.specs.Idle.{can_answer, can_send, is_app_here, is_at_door, is_at_home, is_dest_here, moved_if, there_and}
use Rattle.kn_world.specs.declared.parts.Stage.TheVariants as stage
use Rattle.kn_packets.specs.Keys.{Keys}
use Rattle.kn_packets.proofs.Runs.{keys_go_on}
use Rattle.kn_packets.proofs.Starts.{keys_start}
use Rattle.kn_connect.specs.Answers.{IsGiven}
use Rattle.kn_connect.specs.Statuses.{fault_status}
use Rattle.kn_route.specs.declared.strategy.Strategy.{Strategy}
use Rattle.kn_world.specs.Idle as idle
use Rattle.kn_world.specs.Numbers.{changed}
use Rattle.kn_world.specs.States as states
use Rattle.kn_world.specs.declared.parts.Stage.{Stage}
use Rattle.kn_world.specs.declared.parts.Stage.TheVariants as stage
use Rattle.kn_refinement.specs.Fits.{Fits, IsUnheard}
use Rattle.kn_refinement.specs.Leads.{Leads}
use Rattle.kn_refinement.specs.Refusals.{IsRefusedAt, RefusesUnanswered}
use Rattle.kn_refinement.specs.Shown.{shown}
use Rattle.kn_refinement.proofs.AllEvents.{events_lead, pipe_leads}
use Rattle.kn_refinement.proofs.Beginnings.{begins_alike, start_fits}
use Rattle.kn_refinement.proofs.Changes.{changed_own}
use Rattle.kn_refinement.proofs.Events.{happens_leads}
use Rattle.kn_refinement.proofs.NumberLemmas.{length_more}
use Rattle.kn_refinement.proofs.Pairs.{came_last, some_is}
use Rattle.kn_refinement.proofs.RefusedParts.{ToldOf, Told, app_more, clients_changed, clients_more, door_told, early_kept_told, left_told}
use Rattle.kn_refinement.proofs.RefusedPipes.{client_down_here, client_up_here}
use Rattle.kn_refinement.proofs.RefusedServer.{Here, Unanswered, client_step, step_asked, step_zero}
use Rattle.kn_refinement.proofs.RefusedWalk.{agent_step, all_changed, at_agent, at_server, dest_failed, dest_settles, dest_takes, dest_takes_freely, dial_refused, dial_won, one_changed, settles, takes, takes_freely}

-- ---- pipes: its parts fit before each packet
pub record Whole (s : State) : Type 0 where
  pub fits : Fits s
  pub keys : Keys (shown s)
  pub here : Here s

abbrev Keeps : (State → State) → Type 0
Keeps f = (s : State) → Whole s → Whole (f s)

pipe_here : (p : Pipe) (s : State) → Whole s → Here (pipes.step p s)
pipe_here (AgentUp link) s w = at_server (agents.first_up (nth link s.agents)) link (record s { agents = change agents.rest_up link s.agents }) w.here
pipe_here (AgentDown link) s w = at_agent (agents.first_down (nth link s.agents)) link (record s { agents = change agents.rest_down link s.agents }) w.here
pipe_here (ClientUp c) s w = client_up_here s c w.fits w.here
pipe_here (ClientDown c) s w = client_down_here s c w.fits w.here

led : (s t : State) → Whole s → Leads s t → Here t → Whole t
led s t w leads here = record { fits = leads.fits; keys = keys_go_on (shown s) (shown t) leads.moves w.keys leads.made; here = here }

pipe_keeps : (p : Pipe) → Keeps (pipes.step p)
pipe_keeps p s w = led s (pipes.step p s) w (pipe_leads keys_go_on p s w.fits w.keys) (pipe_here p s w)

times_keep : (n : ℕ) (f : State → State) → Keeps f → Keeps (times n f)
unfolding times
times_keep zero f one s w = w
times_keep (suc n) f one s w = times_keep n f one (f s) (one s w)

delivered_keeps : (p : Pipe) → Keeps (pipes.delivered p)
unfolding pipes.delivered
delivered_keeps p s w = times_keep (pipes.count_in p s) (pipes.step p) (pipe_keeps p) s w

agents_deliver : (n : ℕ) → Keeps (pipes.agents_delivered n)
agents_deliver zero s w = w
agents_deliver (suc n) s w =
    let before : State = pipes.agents_delivered n s in
    delivered_keeps (AgentDown (suc n)) (pipes.delivered (AgentUp (suc n)) before) (delivered_keeps (AgentUp (suc n)) before (agents_deliver n s w))

clients_deliver : (n : ℕ) → Keeps (pipes.clients_delivered n)
clients_deliver zero s w = w
clients_deliver (suc n) s w =
    let before : State = pipes.clients_delivered n s in
    delivered_keeps (ClientDown (suc n)) (pipes.delivered (ClientUp (suc n)) before) (delivered_keeps (ClientUp (suc n)) before (clients_deliver n s w))

round_keeps : Keeps pipes.round
unfolding pipes.round
round_keeps s w = let t : State = pipes.agents_delivered (length s.agents) s in clients_deliver (length t.clients) t (agents_deliver (length s.agents) s w)

rounds_keep : (n : ℕ) → Keeps (pipes.rounds n)
unfolding pipes.rounds
rounds_keep zero s w = w
rounds_keep (suc n) s w = by (pipes.nothing_in_flight s) (rounds_keep n (pipes.round s) (round_keeps s w))
  where
    by : (b : Bool) → Whole (pipes.rounds n (pipes.round s)) → Whole (cond b s (pipes.rounds n (pipes.round s)))
    by true later = w
    by false later = later

-- ---- apps by CONNECT, whose head comes
module _ (bytes : List ℕ) (app : ℕ) (old : State) (a : App) (there : nth app old.apps ≡ Some a) (at : a.home ≡ home.Connect) (waits : a.stage ≡ stage.Dialling) (open_yet : a.door.closing ≡ false) (h : Here old) where
  abbrev read : List ℕ → State
  read front = record old { apps = change (hearing.with_front front) app old.apps }

  read_there : (front : List ℕ) → nth app (read front).apps ≡ Some (hearing.with_front front a)
  read_there front = changed_own (hearing.with_front front) app old.apps a there

  read_here : (front : List ℕ) → Here (read front)
  read_here front = all_changed (hearing.with_front front) (λ cs x it. it) app old h

  -- one that waits was not refused
  untold : (b : App) (cs : List Client) → b.home ≡ home.Connect → b.stage ≡ stage.Dialling → Told cs b → ⊥
  untold b cs home_is stage_is told = none (subst (λ st. IsRefusedAt home.Connect cs st b.error) stage_is (subst (λ o. IsRefusedAt o cs b.stage b.error) home_is told))
    where
      none : IsRefusedAt home.Connect cs stage.Dialling b.error → ⊥
      none (inl e, f) = cc e
      none (inr e, f) = cc e

  head_here : (target early rest : List ℕ) → Here (hearing.head_came target early rest app (read []))
  head_here target early rest =
      settles app (hearing.early_kept early app asked) (all_changed (apps.early_kept early) (λ cs x it. early_kept_told x.stage early cs x it) app asked asked_here)
    where
      owned : State
      owned = hearing.with_owner app (read [])

      front : ℕ
      front = length owned.fronts

      headed : State
      headed = hearing.with_head front early rest app owned

      up : State
      up = server.step 0 (FrontUp front) headed

      asked : State
      asked = hearing.front_up front target app headed

      b : App
      b = apps.head_read front early rest (hearing.with_front [] a)

      b_there : nth app up.apps ≡ Some b
      b_there = changed_own (apps.head_read front early rest) app owned.apps (hearing.with_front [] a) (read_there [])

      its_front : nth front up.fronts ≡ Some (owner.App app)
      its_front = ap (λ n. nth n up.fronts) (length_more old.fronts (owner.App app)) ∙ came_last old.fronts (owner.App app)

      p : Packet
      p = DialRsp (codes "no agent available") (pos 0) (pos 0)

      told : ToldOf app (nth app (server.to_owner (nth front up.fronts) p up).apps) (server.to_owner (nth front up.fronts) p up).clients
      told = subst (λ o. ToldOf app (nth app (server.to_owner o p up).apps) (server.to_owner o p up).clients) (sym its_front)
          (subst (λ o. ToldOf app o up.clients) (sym (changed_own (apps.heard p) app up.apps b b_there)) (door_told (pos 0) (pos 0) up.clients b at waits open_yet))

      asked_here : Here asked
      asked_here = step_asked app front (codes "tcp") target (pos 0) up told (step_zero (FrontUp front) headed (all_changed (apps.head_read front early rest) (λ cs x it. it) app owned (read_here [])))

  responds_here : (answer : Result ConnectAnswer ConnectError) → IsGiven answer → (rest front : List ℕ) → (hearing.holds answer front) ≡ hearing.holds answer front → Here (hearing.responds answer rest app (read (hearing.holds answer front)))
  responds_here (Ok More) given rest front e = settles app (read front) (read_here front)
  responds_here (Ok (Head target early)) given rest front e = head_here target early rest
  responds_here (Err (connect_error.Fault fault)) given rest front e = one_changed (apps.refused (fault_status fault)) app (read []) waiting (read_here [])
    where
      waiting : (b : App) → nth app (read []).apps ≡ Some b → Told old.clients b → Told old.clients (apps.refused (fault_status fault) b)
      waiting b b_there told = let same : hearing.with_front [] a ≡ b = some_is (sym (read_there []) ∙ b_there) in
          absurd (untold b old.clients (ap (λ (x : App). x.home) (sym same) ∙ at) (ap (λ (x : App). x.stage) (sym same) ∙ waits) told)
  responds_here (Err connect_error.NoMemory) given rest front e = absurd (given refl)

  pub hears_here : (new : State) → hearing.Hears bytes app old new → Here new
  hears_here new heard = subst (λ s. Here s) (sym (heard.4 ∙ ap (λ all. hearing.responds heard.0 (drop 16384 bytes) app (record old { apps = all })) read_is)) (responds_here heard.0 heard.3 (drop 16384 bytes) fed refl)
    where
      fed : List ℕ
      fed = a.door.front ++ take 16384 bytes

      feeds : hearing.Feeds (Some a) (take 16384 bytes) app heard.0 old.apps heard.1
      feeds = subst (λ o. hearing.Feeds o (take 16384 bytes) app heard.0 old.apps heard.1) there heard.2

      read_is : heard.1 ≡ change (hearing.with_front (hearing.holds heard.0 fed)) app old.apps
      read_is = feeds.1 ∙ sym (ap (λ o. changed (hearing.with_front (hearing.holds heard.0 fed)) app old.apps o) there)

raw_comes : (bytes : List ℕ) (old new : State) → arrivals.RawAppComes bytes old new → Here old → Here new
raw_comes bytes old new heard h = hears_here bytes (length came.apps) came (states.new_app home.Connect)
    (subst (λ n. nth n came.apps ≡ Some (states.new_app home.Connect)) (sym (length_more old.apps (states.new_app home.Connect))) (came_last old.apps (states.new_app home.Connect))) refl refl refl
    (app_more Unanswered (states.new_app home.Connect) old h) new heard
  where
    came : State
    came = arrivals.with_connect old

-- ---- an app that sends
sends_here : (bytes : List ℕ) (app : ℕ) (old new : State) → idle.can_send app old ≡ true → effects.Sends bytes app old new → Whole old → Here new
sends_here bytes app old new may does w = by_app (nth app old.apps) refl
  where
    first_of_both : (b c : Bool) → (b && c) ≡ true → b ≡ true
    first_of_both true c e = refl
    first_of_both false c e = absurd (cc e)

    dialling : (a : App) (g : Stage) → a.stage ≡ g → idle.is_at_door g ≡ true → IsUnheard a → a.stage ≡ stage.Dialling
    dialling a stage.Dialling e door u = e
    dialling a stage.Open e door u = absurd (u.unopened e)
    dialling a stage.Refused e door u = absurd (cc door)
    dialling a stage.Ended e door u = absurd (cc door)

    unheard_door : (a : App) (at : Home) → nth app old.apps ≡ Some a → a.home ≡ at → effects.is_unheard at a ≡ true → idle.is_at_home at a.stage old.clients ≡ true → hearing.Hears bytes app old new → Here new
    unheard_door a (home.Client c number) there e unheard door heard = absurd (cc unheard)
    unheard_door a home.Connect there e unheard door heard =
        let its : IsUnheard a = w.fits.fronts.unheard app a there e (eqb-true a.door.number 0 unheard) in
        hears_here bytes app old a there e (dialling a a.stage refl door its) its.closing w.here new heard

    by_heard : (a : App) (b : Bool) → nth app old.apps ≡ Some a → effects.is_unheard a.home a ≡ b → idle.is_app_here a old ≡ true → effects.SendsIf b bytes app old new → Here new
    by_heard a true there unheard door heard = unheard_door a a.home there refl unheard door heard
    by_heard a false there unheard door same = subst (λ s. Here s) (sym same) (settles app (record old { apps = change (apps.sent bytes) app old.apps }) (all_changed (apps.sent bytes) (λ cs x it. it) app old w.here))

    by_app : (o : Option App) → nth app old.apps ≡ o → Here new
    by_app None none = absurd (cc (sym may ∙ ap (λ p. idle.there_and (λ a. idle.is_app_here a old && not a.side.ended) p) none))
    by_app (Some a) there = by_heard a (effects.is_unheard a.home a) there refl (first_of_both (idle.is_app_here a old) (not a.side.ended) (sym (ap (λ p. idle.there_and (λ x. idle.is_app_here x old && not x.side.ended) p) there) ∙ may))
        (subst (λ p. effects.SendsIf (effects.is_unheard_of p) bytes app old new) there does)

-- ---- arrivals
app_comes_at : (o : Option Client) (c : ℕ) (address : List ℕ) (s : State) → Here s → Here (arrivals.app_comes_at o c address s)
app_comes_at None c address s h = h
app_comes_at (Some found) c address s h = by (clients.is_at_client (nth c noted.clients))
  where
    number : ℕ
    number = length found.apps + 1

    last : ℕ
    last = length (arrivals.with_app c number s).apps

    noted : State
    noted = arrivals.app_noted c last (arrivals.with_app c number s)

    came : Here noted
    came = clients_changed Unanswered (clients.with_app last) (λ n x it. it) c (arrivals.with_app c number s) (app_more Unanswered (states.new_app (home.Client c number)) s h)

    by : (b : Bool) → Here (cond b (arrivals.asks c number address noted) (arrivals.refuses last noted))
    by true = client_step Unanswered c (client_event.AppUp number address) noted came
    by false = all_changed (apps.left (codes "server lost")) (left_told (codes "server lost")) last noted came

agent_comes : (given : Result (List (IdKind × List ℕ)) IdFault) (s : State) → Here s → Here (arrivals.agent_read given s)
agent_comes (Err fault) s h = h
agent_comes (Ok identifiers) s h = step_zero (LinkUp (length (arrivals.with_agent s).agents) identifiers) (arrivals.with_agent s) h

client_comes : (s : State) → Here s → Here (arrivals.client_comes s)
client_comes s h =
    let front : ℕ = length (arrivals.with_owner s).fronts in
    step_zero (FrontUp front) (arrivals.with_client front (arrivals.with_owner s)) (clients_more Unanswered (states.new_client front) (arrivals.with_owner s) h)

-- ---- events
met : (b : Bool) → idle.moved_if b ≡ Moved → b ≡ true
met true e = refl
met false e = absurd (cc e)

moves : (e : WorldEvent) (old new : State) → seen_of e old ≡ Moved → effects.Does e old new → Whole old → Here new
moves (event.Agent identifiers) old new seen does w = subst (λ s. Here s) (sym does) (agent_comes (identifiers_in identifiers) old w.here)
moves event.Client old new seen does w = subst (λ s. Here s) (sym does) (client_comes old w.here)
moves (event.App c address) old new seen does w = subst (λ s. Here s) (sym does) (app_comes_at (nth c old.clients) c address old w.here)
moves (event.Connect address) old new seen does w = raw_comes (arrivals.request_text address) old new does w.here
moves (event.Raw bytes) old new seen does w = raw_comes bytes old new does w.here
moves (event.Up dial) old new seen does w = subst (λ s. Here s) (sym does) (dial_won (nth dial old.dials) dial old w.here)
moves (event.Refuse dial) old new seen does w = subst (λ s. Here s) (sym does) (dial_refused (nth dial old.dials) dial old w.here)
moves (event.Send app bytes) old new seen does w = sends_here bytes app old new (met (idle.can_send app old) seen) does w
moves (event.Answer dial bytes) old new seen does w = subst (λ s. Here s) (sym does) (dest_settles dial (record old { dials = change (dials.sent bytes) dial old.dials }) w.here)
moves (event.End app) old new seen does w = subst (λ s. Here s) (sym does) (settles app (record old { apps = change apps.ended app old.apps }) (all_changed apps.ended (λ cs a it. it) app old w.here))
moves (event.Hang dial) old new seen does w = subst (λ s. Here s) (sym does) (dest_settles dial (record old { dials = change dials.ended dial old.dials }) w.here)
moves (event.Fail dial) old new seen does w = subst (λ s. Here s) (sym does) (dest_failed (nth dial old.dials) dial old w.here)
moves (event.Drain link) old new seen does w = subst (λ s. Here s) (sym does) (agent_step link 0 agent_event.DrainNow (record old { agents = change agents.with_drain link old.agents }) w.here)
moves (event.HoldDest dial) old new seen does w = subst (λ s. Here s) (sym does) (w.here)
moves (event.HoldApp app) old new seen does w = subst (λ s. Here s) (sym does) (all_changed (apps.holding true) (λ cs a it. it) app old w.here)
moves (event.TakeDest dial count) old new seen does w = subst (λ s. Here s) (sym does) (dest_takes dial count old w.here)
moves (event.TakeApp app count) old new seen does w = subst (λ s. Here s) (sym does) (takes app count old w.here)
moves (event.GoDest dial) old new seen does w = subst (λ s. Here s) (sym does) (dest_takes_freely dial (record old { dials = change (dials.holding false) dial old.dials }) w.here)
moves (event.GoApp app) old new seen does w = subst (λ s. Here s) (sym does) (takes_freely app (record old { apps = change (apps.holding false) app old.apps }) (all_changed (apps.holding false) (λ cs a it. it) app old w.here))
moves (event.LoseServer link) old new seen does w = subst (λ s. Here s) (sym does) (step_zero (LinkLost link) (record old { agents = change agents.lost_at_server link old.agents }) w.here)
moves (event.LoseAgent link) old new seen does w = subst (λ s. Here s) (sym does) (agent_step link 0 agent_event.LinkLost (record old { agents = change agents.lost_at_agent link old.agents }) w.here)
moves (event.LoseFront c) old new seen does w = subst (λ s. Here s) (sym does) (step_zero (FrontLost (clients.front_of (nth c old.clients))) (record old { clients = change clients.lost_at_server c old.clients }) (clients_changed Unanswered clients.lost_at_server (λ n x it. it) c old w.here))
moves (event.LoseClient c) old new seen does w = subst (λ s. Here s) (sym does) (client_step Unanswered c (client_event.StreamEnded (codes "server lost")) (record old { clients = change clients.lost_at_client c old.clients }) (clients_changed Unanswered clients.lost_at_client (λ n x it. inl refl) c old w.here))
moves (event.Step pipe) old new seen does w = subst (λ s. Here s) (sym does) (pipe_here pipe old w)
moves (event.Pass count) old new seen does w = subst (λ s. Here s) (sym does) ((rounds_keep count old w).here)

happens_here : (e : WorldEvent) (old new : State) → Happens e old new → Whole old → Whole new
happens_here e old new it w = led old new w (happens_leads keys_go_on (events_lead keys_go_on) e old new w.fits w.keys it) (by (seen_of e old) refl it)
  where
    by : (seen : Seen) → seen_of e old ≡ seen → HappensAs seen e old new → Here new
    by Moved seen does = moves e old new seen does w
    by Idle seen same = subst (λ s. Here s) (sym same) w.here

-- ---- all of a script
runs_here : (es : List WorldEvent) (old : State) (idle : ℕ) (new : State) → Runs es old idle new → Whole old → Whole new
runs_here [] old idle new runs w = subst (λ s. Whole s) (sym runs.0) w
runs_here (e ∷ es) old idle new runs w = runs_here es runs.0 runs.1 new runs.3 (happens_here e old runs.0 runs.2 w)

pub all_refused : (strategies : List Strategy) (es : List WorldEvent) (idle : ℕ) (s : State) → Runs es (start strategies) idle s → RefusesUnanswered s
all_refused strategies es idle s runs c it none a there = subst (λ o. ToldOf c.app o s.clients) there (whole.here c.app (c, it, refl, none))
  where
    nobody : Here (start strategies)
    nobody k (d, ([], behind, q), named, unanswered) = absurd (cc q)
    nobody k (d, (b ∷ before, behind, q), named, unanswered) = absurd (cc q)

    whole : Whole s
    whole = runs_here es (start strategies) idle s runs (record { fits = start_fits strategies; keys = subst Keys (sym (begins_alike strategies)) (keys_start strategies); here = nobody })
