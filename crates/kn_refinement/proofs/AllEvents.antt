-- Whatever an event does is done by moves.
use Rattle.std.proofs.Common.{◌≡◌, ℕ, Bool, true, false, List, Option, Some, None, refl, sym, ap, ◌∙◌, subst}
use Rattle.kn_packets.specs.Keys.{Keys}
use Rattle.kn_world.specs.declared.event.Pipe.{Pipe}
use Rattle.kn_world.specs.declared.event.Pipe.TheVariants.{AgentUp, AgentDown, ClientUp, ClientDown}
use Rattle.kn_world.specs.declared.event.Seen.TheVariants.{Moved}
use Rattle.kn_world.specs.declared.event.WorldEvent.TheVariants as event
use Rattle.kn_world.specs.declared.parts.App.{App}
use Rattle.kn_world.specs.declared.parts.Home.{Home}
use Rattle.kn_world.specs.declared.parts.Home.TheVariants as home
use Rattle.kn_world.specs.declared.state.State.{State}
use Rattle.kn_world.specs.Apps as apps
use Rattle.kn_world.specs.Arrivals as arrivals
use Rattle.kn_world.specs.Clients as clients
use Rattle.kn_world.specs.AppSteps as app_steps
use Rattle.kn_world.specs.Effects as effects
use Rattle.kn_world.specs.Idle as idle
use Rattle.kn_world.specs.Numbers.{change, nth}
use Rattle.kn_world.specs.Pipes as pipes
use Rattle.kn_refinement.specs.Fits.{Fits}
use Rattle.kn_refinement.specs.Leads.{Leads, Steps}
use Rattle.kn_refinement.specs.Shown.{shown}
use Rattle.kn_refinement.proofs.AgentDials.{dial_refused_leads, dial_won_leads}
use Rattle.kn_refinement.proofs.AgentLosses.{agent_lost_leads, drained_leads}
use Rattle.kn_refinement.proofs.AgentTakes.{agent_down_leads}
use Rattle.kn_refinement.proofs.AppComes.{app_comes_leads}
use Rattle.kn_refinement.proofs.AppSettles.{OfClient}
use Rattle.kn_refinement.proofs.AppTakes as client_apps
use Rattle.kn_refinement.proofs.Changes.{changed_own}
use Rattle.kn_refinement.proofs.ClientChanges.{client_lost_leads}
use Rattle.kn_refinement.proofs.ClientPipes.{client_down_leads}
use Rattle.kn_refinement.proofs.ConnectFirst.{hears_lead, raw_leads}
use Rattle.kn_refinement.proofs.ConnectSends.{door_sends_leads}
use Rattle.kn_refinement.proofs.ConnectServed.{plain_serves}
use Rattle.kn_refinement.proofs.ConnectSettles as doors
use Rattle.kn_refinement.proofs.ConnectTakes as door_takes
use Rattle.kn_refinement.proofs.DestMoves as dests
use Rattle.kn_refinement.proofs.DestSettles as dests_settle
use Rattle.kn_refinement.proofs.Events.{EventsLead}
use Rattle.kn_refinement.proofs.LeadsFronts.{client_comes_leads, client_up_leads, loses_front_leads}
use Rattle.kn_refinement.proofs.LeadsLinks.{agent_comes_leads, loses_link_leads}
use Rattle.kn_refinement.proofs.LeadsUp.{agent_up_leads}
use Rattle.kn_refinement.proofs.Rounds.{rounds_lead}
use Rattle.kn_refinement.proofs.Worlds.{KeysGoOn, leads_then}

-- ---- an event that is not idle meets its condition
met : (b : Bool) → idle.moved_if b ≡ Moved → b ≡ true
met true e = refl
met false e = absurd cc

-- ---- an app is at a client, or is none; or it came by CONNECT
by_home : (s : State) (k : ℕ) (L : Type 0) → (OfClient k s → L) → ((a : App) → nth k s.apps ≡ Some a → a.home ≡ home.Connect → L) → L
by_home s k L of_client at_door = by_app (nth k s.apps) refl
  where
    none_of : nth k s.apps ≡ None → (b : App) → nth k s.apps ≡ Some b → (c : ℕ) × (n : ℕ) × (b.home ≡ home.Client c n)
    none_of none b at = absurd (cc (sym none ∙ at))

    one_of : (a : App) (c n : ℕ) → nth k s.apps ≡ Some a → a.home ≡ home.Client c n → (b : App) → nth k s.apps ≡ Some b → (d : ℕ) × (m : ℕ) × (b.home ≡ home.Client d m)
    one_of a c n there h b at = let same : a ≡ b = same_of a b (sym there ∙ at) in (c, n, ap (λ x. x.home) (sym same) ∙ h)
      where
        same_of : (x y : App) → Some x ≡ Some y → x ≡ y
        same_of x y e = cc

    by_place : (a : App) → nth k s.apps ≡ Some a → (h : Home) → a.home ≡ h → L
    by_place a there (home.Client c n) h = of_client (one_of a c n there h)
    by_place a there home.Connect h = at_door a there h

    by_app : (o : Option App) → nth k s.apps ≡ o → L
    by_app None none = of_client (none_of none)
    by_app (Some a) there = by_place a there a.home refl

module _ (go : KeysGoOn) where
  -- ---- apps, wherever they are
  app_ended : (k : ℕ) → Steps (effects.app_ended k)
  app_ended k s fits keys = by_home s k (Leads s (effects.app_ended k s)) (λ of_client. (client_apps.app_ended_leads go s k fits keys of_client).leads) at_door
    where
      at_door : (a : App) → nth k s.apps ≡ Some a → a.home ≡ home.Connect → Leads s (effects.app_ended k s)
      at_door a there h = leads_then go s (record s { apps = change apps.ended k s.apps }) (effects.app_ended k s) keys (door_takes.ended_leads s k a fits there h)
          (λ fit key. doors.settles_leads go plain_serves (record s { apps = change apps.ended k s.apps }) k (apps.ended a) fit key (changed_own apps.ended k s.apps a there) h)

  app_held : (k : ℕ) → Steps (effects.app_held k)
  app_held k s fits keys = by_home s k (Leads s (effects.app_held k s)) (λ of_client. (client_apps.app_held_leads s k fits of_client).leads) (λ a there h. door_takes.holding_leads s k a true fits there h)

  app_freed : (k : ℕ) → Steps (effects.app_freed k)
  app_freed k s fits keys = by_home s k (Leads s (effects.app_freed k s)) (λ of_client. (client_apps.app_freed_leads go s k fits keys of_client).leads) at_door
    where
      at_door : (a : App) → nth k s.apps ≡ Some a → a.home ≡ home.Connect → Leads s (effects.app_freed k s)
      at_door a there h = leads_then go s (record s { apps = change (apps.holding false) k s.apps }) (effects.app_freed k s) keys (door_takes.holding_leads s k a false fits there h)
          (λ fit key. door_takes.takes_freely_leads (record s { apps = change (apps.holding false) k s.apps }) k (apps.holding false a) fit (changed_own (apps.holding false) k s.apps a there) h)

  app_takes : (k count : ℕ) → Steps (app_steps.takes k count)
  app_takes k count s fits keys = by_home s k (Leads s (app_steps.takes k count s)) (λ of_client. (client_apps.takes_leads s k count fits keys of_client).leads) (λ a there h. door_takes.takes_leads s k count a fits there h)

  app_sends : (bytes : List ℕ) (k : ℕ) (old new : State) → idle.can_send k old ≡ true → Fits old → Keys (shown old) → effects.Sends bytes k old new → Leads old new
  app_sends bytes k old new may fits keys sends = by (effects.is_app_unheard k old) refl sends
    where
      by : (b : Bool) → effects.is_app_unheard k old ≡ b → effects.SendsIf b bytes k old new → Leads old new
      by true unheard hears = hears_lead go bytes k old new unheard may fits keys hears
      by false heard same = subst (λ t. Leads old t) (sym same)
          (by_home old k (Leads old (effects.app_sent bytes k old)) (λ of_client. (client_apps.app_sent_leads go bytes old k fits keys of_client).leads) (λ a there h. door_sends_leads go bytes k old a there h heard fits keys))

  -- ---- pipes
  pub pipe_leads : (p : Pipe) → Steps (pipes.step p)
  pipe_leads (AgentUp l) s fits keys = agent_up_leads (doors.settles_leads go plain_serves) l s fits keys
  pipe_leads (AgentDown l) s fits keys = agent_down_leads go l s fits keys
  pipe_leads (ClientUp c) s fits keys = client_up_leads s c fits keys
  pipe_leads (ClientDown c) s fits keys = (client_down_leads go s c fits keys).leads

  -- ---- events
  pub events_lead : EventsLead
  events_lead (event.Agent identifiers) old new seen fits keys does = subst (λ t. Leads old t) (sym does) (agent_comes_leads identifiers old fits keys)
  events_lead event.Client old new seen fits keys does = subst (λ t. Leads old t) (sym does) (client_comes_leads old fits keys)
  events_lead (event.App c address) old new seen fits keys does = subst (λ t. Leads old t) (sym does) (app_comes_leads old c address fits keys)
  events_lead (event.Connect address) old new seen fits keys does = raw_leads go (arrivals.request_text address) old new fits keys does
  events_lead (event.Raw bytes) old new seen fits keys does = raw_leads go bytes old new fits keys does
  events_lead (event.Up dial) old new seen fits keys does = subst (λ t. Leads old t) (sym does) (dial_won_leads dial old fits keys)
  events_lead (event.Refuse dial) old new seen fits keys does = subst (λ t. Leads old t) (sym does) (dial_refused_leads dial old fits)
  events_lead (event.Send app bytes) old new seen fits keys does = app_sends bytes app old new (met (idle.can_send app old) seen) fits keys does
  events_lead (event.Answer dial bytes) old new seen fits keys does = subst (λ t. Leads old t) (sym does) (dests_settle.dest_sent_leads go bytes dial old (met (idle.can_answer dial old) seen) fits keys)
  events_lead (event.End app) old new seen fits keys does = subst (λ t. Leads old t) (sym does) (app_ended app old fits keys)
  events_lead (event.Hang dial) old new seen fits keys does = subst (λ t. Leads old t) (sym does) (dests_settle.dest_ended_leads go dial old fits keys)
  events_lead (event.Fail dial) old new seen fits keys does = subst (λ t. Leads old t) (sym does) (dests.dest_failed_leads dial old fits)
  events_lead (event.Drain link) old new seen fits keys does = subst (λ t. Leads old t) (sym does) (drained_leads link old (met (idle.can_drain link old) seen) fits)
  events_lead (event.HoldDest dial) old new seen fits keys does = subst (λ t. Leads old t) (sym does) (dests_settle.dest_held_leads dial old fits)
  events_lead (event.HoldApp app) old new seen fits keys does = subst (λ t. Leads old t) (sym does) (app_held app old fits keys)
  events_lead (event.TakeDest dial count) old new seen fits keys does = subst (λ t. Leads old t) (sym does) (dests.takes_leads dial count old fits keys)
  events_lead (event.TakeApp app count) old new seen fits keys does = subst (λ t. Leads old t) (sym does) (app_takes app count old fits keys)
  events_lead (event.GoDest dial) old new seen fits keys does = subst (λ t. Leads old t) (sym does) (dests_settle.dest_freed_leads go dial old fits keys)
  events_lead (event.GoApp app) old new seen fits keys does = subst (λ t. Leads old t) (sym does) (app_freed app old fits keys)
  events_lead (event.LoseServer link) old new seen fits keys does = subst (λ t. Leads old t) (sym does) (loses_link_leads link old (met (idle.has_link link old) seen) fits keys)
  events_lead (event.LoseAgent link) old new seen fits keys does = subst (λ t. Leads old t) (sym does) (agent_lost_leads link old (met (idle.has_server link old) seen) fits)
  events_lead (event.LoseFront c) old new seen fits keys does = subst (λ t. Leads old t) (sym does) (loses_front_leads c old (met (idle.has_front c old) seen) fits keys)
  events_lead (event.LoseClient c) old new seen fits keys does = subst (λ t. Leads old t) (sym does) (client_lost_leads old c fits keys (met (clients.is_at_client (nth c old.clients)) seen)).leads
  events_lead (event.Step pipe) old new seen fits keys does = subst (λ t. Leads old t) (sym does) (pipe_leads pipe old fits keys)
  events_lead (event.Pass count) old new seen fits keys does = subst (λ t. Leads old t) (sym does) (rounds_lead go pipe_leads count old fits keys)
