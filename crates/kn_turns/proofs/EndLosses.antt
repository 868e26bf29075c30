-- An agent loses its link, or a client its stream, and any front of what it queued there is left.
use Rattle.std.proofs.Common.{◌≡◌, ◌≢◌, ◌==◌, ◌&&◌, ℕ, Bool, true, false, not, List, [], take, drop, if◌then◌else◌, Option, Some, None, refl, sym, ap, ◌∙◌, subst, eqb-true}
use Rattle.std.proofs.lemmas.List.{take-append-drop}
use Rattle.kn_edge_core.specs.Agent as edge
use Rattle.kn_edge_core.specs.Agent.{link_lost}
use Rattle.kn_edge_core.specs.Steps.{AgentStep}
use Rattle.kn_edge_core.specs.declared.agent_event.AgentEvent.TheVariants as event
use Rattle.kn_edge_core.specs.declared.client_event.ClientEvent.TheVariants as client_event
use Rattle.kn_packets.specs.Keys.{Keys}
use Rattle.kn_packets.specs.Moves.{AgentLosesLink, ClientLosesStream, after, agent_does, client_does, down_is, stream_lost, up_is}
use Rattle.kn_packets.specs.World.{WorldStream}
use Rattle.kn_packets.proofs.AgentParts.{linked}
use Rattle.kn_packets.proofs.Fresh.{eqb_refl}
use Rattle.kn_world.specs.declared.parts.Agent.{Agent}
use Rattle.kn_world.specs.declared.parts.Client.{Client}
use Rattle.kn_world.specs.declared.state.State.{State}
use Rattle.kn_world.specs.Agents as agents
use Rattle.kn_world.specs.AgentSteps.{step}
use Rattle.kn_world.specs.Clients as clients
use Rattle.kn_world.specs.Idle.{has_server, there_and}
use Rattle.kn_world.specs.Numbers.{change, nth}
use Rattle.kn_refinement.specs.Fits.{Fits}
use Rattle.kn_refinement.specs.Leads.{Leads}
use Rattle.kn_refinement.specs.Shown.{link_of, shown}
use Rattle.kn_refinement.proofs.AgentDials.{lost_shown}
use Rattle.kn_refinement.proofs.AgentDoes.{kept_own, step_of}
use Rattle.kn_refinement.proofs.AgentFitting.{KeptConnections, KeptTickets, connections_fit, fits_by, tickets_fit}
use Rattle.kn_refinement.proofs.AgentGiven.{agent_after}
use Rattle.kn_refinement.proofs.AgentNotes.{links_are}
use Rattle.kn_refinement.proofs.AgentQuiet.{fits_with, quiet_on_link, stepped_dry}
use Rattle.kn_refinement.proofs.AgentQuietSteps.{lost_quiet}
use Rattle.kn_refinement.proofs.AgentShown.{AllOnLink, step_is, step_shown, stepped_agent}
use Rattle.kn_refinement.proofs.AppChanges.{ClientLeads, apps_as_they_were, apps_rising, its_stream}
use Rattle.kn_refinement.proofs.AppHands.{then_step}
use Rattle.kn_refinement.proofs.Changes.{change_twice, changed_own}
use Rattle.kn_refinement.proofs.ClientChanges.{listless_fits, listless_kept, listless_shown}
use Rattle.kn_refinement.proofs.ClientKept.{ClientKept}
use Rattle.kn_refinement.proofs.Worlds.{leads_one}
use Rattle.kn_turns.specs.Losses.{agent_loses, client_loses, gone_at_agent, stream_gone}
use Rattle.kn_turns.proofs.ServerLosses.{take_of_none}

-- ---- an agent loses its link
module _ (s : State) (link left : ℕ) (fits : Fits s) (a : Agent) (there : nth link s.agents ≡ Some a) (has : not a.core.lost ≡ true) where
  abbrev s1 : State
  s1 = record s { agents = change (gone_at_agent left) link s.agents }

  abbrev r : AgentStep
  r = link_lost a.core

  there1 : nth link s1.agents ≡ Some (gone_at_agent left a)
  there1 = changed_own (gone_at_agent left) link s.agents a there

  is : edge.step a.core event.LinkLost ≡ r
  is = linked a.core event.LinkLost has

  cut_shown : shown s1 ≡ up_is link (take left a.up) (down_is link [] (shown s))
  cut_shown = links_are s (gone_at_agent left) link a there refl (up_is link (take left a.up) (down_is link [] (shown s))).links own others
    where
      own : (l : ℕ) → (l == link) ≡ true → link_of (Some (gone_at_agent left a)) ≡ (up_is link (take left a.up) (down_is link [] (shown s))).links l
      own l e = sym (ap (λ b. record (link_of (nth l s.agents)) { up = (if b then take left a.up else (link_of (nth l s.agents)).up); down = (if b then [] else (link_of (nth l s.agents)).down) }) e
          ∙ ap (λ o. record (link_of o) { up = take left a.up; down = [] }) (ap (λ i. nth i s.agents) (eqb-true l link e) ∙ there))

      others : (l : ℕ) → (l == link) ≡ false → link_of (nth l s.agents) ≡ (up_is link (take left a.up) (down_is link [] (shown s))).links l
      others l e = sym (ap (λ b. record (link_of (nth l s.agents)) { up = (if b then take left a.up else (link_of (nth l s.agents)).up); down = (if b then [] else (link_of (nth l s.agents)).down) }) e)

  lost_shows : shown (step link 0 event.LinkLost s1) ≡ agent_does link event.LinkLost (up_is link (take left a.up) (down_is link [] (shown s)))
  lost_shows = step_shown s1 link 0 (gone_at_agent left a) event.LinkLost there1 (subst (AllOnLink s1 link 0 (gone_at_agent left a)) (sym is) (quiet_on_link s1 link 0 (gone_at_agent left a) r fits.agents.connect_id fits.agents.dry (lost_quiet a.core)))
      ∙ ap (agent_does link event.LinkLost) cut_shown

  abbrev f : Agent → Agent
  f b = step_of s1 link 0 event.LinkLost (gone_at_agent left b)

  f_is : f a ≡ stepped_agent 0 r (gone_at_agent left a)
  f_is = ap (λ o. agent_after (agents.told event.LinkLost o) 0 (agents.stepped event.LinkLost (gone_at_agent left a))) there1 ∙ ap (λ q. stepped_agent 0 q (gone_at_agent left a)) is

  tickets : KeptTickets a (stepped_agent 0 r (gone_at_agent left a))
  tickets = record { next_ticket = refl; dials = λ t y h. absurd cc; rise = tt }

  connections : KeptConnections a (stepped_agent 0 r (gone_at_agent left a))
  connections = record { lost = refl; next = refl; connections = (lost_quiet a.core).joins 0 a.connections; none = refl; up_dry = stepped_dry (gone_at_agent left a) r 0 (λ e. take_of_none left a.up (fits.agents.up_dry link a there e)) }

  lost_fits : Fits (step link 0 event.LinkLost s1)
  lost_fits = subst Fits (sym (step_is link 0 event.LinkLost s1 ∙ ap (λ xs. record s { agents = xs }) (change_twice (step_of s1 link 0 event.LinkLost) (gone_at_agent left) link s.agents)))
      (fits_with s (change f link s.agents) (λ x. x) 0 fits (λ x. refl)
      (fits_by (change f link s.agents) s.dials
      (tickets_fit s.agents s.dials fits.agents link 0 f (λ x. x) (kept_own KeptTickets link s.agents a (stepped_agent 0 r (gone_at_agent left a)) f there f_is tickets) (λ x h. absurd cc))
      (connections_fit s.agents s.dials fits.agents link 0 f (λ x. x) (kept_own KeptConnections link s.agents a (stepped_agent 0 r (gone_at_agent left a)) f there f_is connections) (λ x h. absurd cc))))

  lost_link : Leads s (agent_loses link left s)
  lost_link = leads_one s (step link 0 event.LinkLost s1) (AgentLosesLink link (take left a.up)) lost_fits (lost_shown s link a there has, (drop left a.up, take-append-drop left a.up ∙ sym (ap (λ o. (link_of o).up) there))) (sym lost_shows)

pub agent_turn : (link left : ℕ) (s : State) → has_server link s ≡ true → Fits s → Leads s (agent_loses link left s)
agent_turn link left s can fits = here (nth link s.agents) refl can
  where
    here : (o : Option Agent) → nth link s.agents ≡ o → there_and (λ a. a.at_agent) o ≡ true → Leads s (agent_loses link left s)
    here None e h = absurd cc
    here (Some a) e h = lost_link s link left fits a e (sym (fits.agents.lost link a e) ∙ h)

-- ---- a client loses its stream
module _ (s : State) (c left : ℕ) (error : List ℕ) (told : error ≢ []) (x : Client) (fits : Fits s) (keys : Keys (shown s)) (there : nth c s.clients ≡ Some x) (at_client : x.at_client ≡ true) where
  abbrev lost_state : State
  lost_state = record s { clients = change (stream_gone left) c s.clients }

  keeps_lost : ClientKept x (stream_gone left x)
  keeps_lost = record { front = refl; names = refl; top = refl; listed = λ n z h. (z, h); up_dry = λ was gone. take_of_none left x.up (was gone); down_dry = λ was gone. refl; there = λ h. absurd cc }

  fits_lost : Fits lost_state
  fits_lost = listless_fits s c x fits there (stream_gone left) (λ y. refl) (λ y. refl) keeps_lost

  shown_lost : shown lost_state ≡ stream_lost x.front (take left x.up) (shown s)
  shown_lost = listless_shown s c x fits there (stream_gone left) (λ y. refl) (λ y. refl) keeps_lost (stream_lost x.front (take left x.up) (shown s)).streams
      (sym (ap (λ b. lost_if b ((shown s).streams x.front)) (eqb_refl x.front) ∙ ap (λ w. lost_if true w) (its_stream s c x fits there)))
      (λ g off. sym (ap (λ b. lost_if b ((shown s).streams g)) off))
    where
      lost_if : Bool → WorldStream → WorldStream
      lost_if b w = record w { client = (if b then false else w.client); up = (if b then (take left x.up) else w.up); down = (if b then [] else w.down) }

  lost_made : after (ClientLosesStream x.front (take left x.up) error) (shown s) ≡ client_does c (client_event.StreamEnded error) (shown lost_state)
  lost_made = ap (λ (w : WorldStream). client_does w.owner (client_event.StreamEnded error) (stream_lost x.front (take left x.up) (shown s))) (its_stream s c x fits there)
      ∙ ap (λ w. client_does c (client_event.StreamEnded error) w) (sym shown_lost)

  lost_stream : ClientLeads s (client_loses c left error s)
  lost_stream = then_step s lost_state c (client_event.StreamEnded error) (stream_gone left x) (ClientLosesStream x.front (take left x.up) error) fits_lost
      (changed_own (stream_gone left) c s.clients x there) (apps_rising s c x keys there) told (λ m. refl) (apps_as_they_were s.apps)
      (listless_kept s c x fits there (stream_gone left) (λ y. refl) (λ y. refl) keeps_lost) (
        ap (λ (w : WorldStream). w.client && not w.connect) (its_stream s c x fits there) ∙ ap (λ b. b && true) at_client,
        (drop left x.up, take-append-drop left x.up ∙ sym (ap (λ (w : WorldStream). w.up) (its_stream s c x fits there))),
      )
      lost_made

pub client_turn : (c left : ℕ) (error : List ℕ) (s : State) → clients.is_at_client (nth c s.clients) ≡ true → error ≢ [] → Fits s → Keys (shown s) → Leads s (client_loses c left error s)
client_turn c left error s at_client told fits keys = by (nth c s.clients) refl at_client
  where
    by : (o : Option Client) → nth c s.clients ≡ o → clients.is_at_client o ≡ true → Leads s (client_loses c left error s)
    by None h there = absurd cc
    by (Some x) h there = (lost_stream s c left error told x fits keys h there).leads
