-- An agent drains, or loses its link.
use Rattle.std.proofs.Common.{◌≡◌, ◌==◌, ◌&&◌, ℕ, Bool, true, false, not, [], ◌∷◌, if◌then◌else◌, Option, Some, None, refl, sym, ap, ◌∙◌, subst, append-nil, eqb-true}
use Rattle.kn_edge_core.specs.Agent as edge
use Rattle.kn_edge_core.specs.Agent.{drain_now, link_lost}
use Rattle.kn_edge_core.specs.Steps.{AgentStep}
use Rattle.kn_edge_core.specs.declared.agent_event.AgentEvent.TheVariants as event
use Rattle.kn_edge_core.specs.declared.agent_event.AgentOut.TheVariants as out
use Rattle.kn_packet.specs.declared.packet.Packet.TheVariants.{Drain}
use Rattle.kn_packets.specs.Moves.{AgentDrains, AgentLosesLink, agent_does, down_is, up_is}
use Rattle.kn_packets.proofs.AgentParts.{linked}
use Rattle.kn_world.specs.declared.parts.Agent.{Agent}
use Rattle.kn_world.specs.declared.state.State.{State}
use Rattle.kn_world.specs.Agents as agents
use Rattle.kn_world.specs.AgentSteps.{step}
use Rattle.kn_world.specs.Effects as effects
use Rattle.kn_world.specs.Idle.{can_drain, has_server, there_and}
use Rattle.kn_world.specs.Numbers.{change, nth}
use Rattle.kn_refinement.specs.Fits.{Fits}
use Rattle.kn_refinement.specs.Leads.{Leads}
use Rattle.kn_refinement.specs.Shown.{link_of, shown}
use Rattle.kn_refinement.proofs.AgentDials.{lost_shown}
use Rattle.kn_refinement.proofs.AgentDoes.{does_quiet, kept_own, step_of}
use Rattle.kn_refinement.proofs.AgentFitting.{KeptConnections, KeptTickets, connections_fit, fits_by, tickets_fit}
use Rattle.kn_refinement.proofs.AgentGiven.{agent_after}
use Rattle.kn_refinement.proofs.AgentNotes.{agent_hidden, links_are, noted_fits}
use Rattle.kn_refinement.proofs.AgentQuiet.{fits_with, quiet_on_link, stepped_dry}
use Rattle.kn_refinement.proofs.AgentQuietSteps.{drain_quiet, lost_quiet}
use Rattle.kn_refinement.proofs.AgentShown.{AllOnLink, step_is, step_shown, stepped_agent}
use Rattle.kn_refinement.proofs.Changes.{change_twice, changed_own}
use Rattle.kn_refinement.proofs.DestSettles.{and_first}
use Rattle.kn_refinement.proofs.Worlds.{leads_one}

-- ---- an agent that has its link
pub record Linked (s : State) (link : ℕ) : Type 0 where
  pub agent : Agent
  pub there : nth link s.agents ≡ Some agent
  pub has : not agent.core.lost ≡ true

linked_if : (s : State) (link : ℕ) (a : Agent) → Fits s → nth link s.agents ≡ Some a → a.at_agent ≡ true → Linked s link
linked_if s link a fits there at = record { agent = a; there = there; has = sym (fits.agents.lost link a there) ∙ at }

drains_linked : (s : State) (link : ℕ) → Fits s → can_drain link s ≡ true → Linked s link
drains_linked s link fits can = here (nth link s.agents) refl can
  where
    here : (o : Option Agent) → nth link s.agents ≡ o → there_and (λ a. a.at_agent && not a.drained) o ≡ true → Linked s link
    here None h k = absurd cc
    here (Some a) h k = linked_if s link a fits h (and_first a.at_agent (not a.drained) k)

loses_linked : (s : State) (link : ℕ) → Fits s → has_server link s ≡ true → Linked s link
loses_linked s link fits can = here (nth link s.agents) refl can
  where
    here : (o : Option Agent) → nth link s.agents ≡ o → there_and (λ a. a.at_agent) o ≡ true → Linked s link
    here None h k = absurd cc
    here (Some a) h k = linked_if s link a fits h k

-- ---- it drains
drain_lost : (a : Agent) → (drain_now a.core).state.lost ≡ a.core.lost
drain_lost a = here a.core.drained
  where
    here : (b : Bool) → (if b then edge.ignored a.core else record { state = record a.core { drained = true }; outs = out.ToServer Drain ∷ [] }).state.lost ≡ a.core.lost
    here true = refl
    here false = refl

pub drained_leads : (link : ℕ) (s : State) → can_drain link s ≡ true → Fits s → Leads s (effects.drained link s)
drained_leads link s can fits = by (drains_linked s link fits can)
  where
    by : Linked s link → Leads s (effects.drained link s)
    by it =
        let s1 : State = record s { agents = change agents.with_drain link s.agents } in
        let fits1 : Fits s1 = noted_fits s link 0 agents.with_drain (λ x. x) fits (λ a h. record { next_ticket = refl; dials = λ t y k. k; rise = fits.agents.tickets_rise link a h })
        (λ a h. record { lost = fits.agents.lost link a h; next = refl; connections = refl; none = fits.agents.no_connection link a h; up_dry = fits.agents.up_dry link a h }) (λ x. record { link = refl; ticket = refl }) (λ x h. absurd cc) (λ x. refl) in
        let there1 : nth link s1.agents ≡ Some (agents.with_drain it.agent) = changed_own agents.with_drain link s.agents it.agent it.there in
        let does = does_quiet s1 link 0 (agents.with_drain it.agent) there1 fits1 event.DrainNow (drain_now it.agent.core) (linked it.agent.core event.DrainNow it.has) (drain_quiet it.agent.core) (drain_lost it.agent) in
        leads_one s (step link 0 event.DrainNow s1) (AgentDrains link) does.fits (lost_shown s link it.agent it.there it.has)
        (ap (agent_does link event.DrainNow) (sym (agent_hidden s agents.with_drain link it.agent it.there refl refl)) ∙ sym does.shows)

-- ---- it loses its link: what it queued is left
module _ (s : State) (link : ℕ) (fits : Fits s) (a : Agent) (there : nth link s.agents ≡ Some a) (has : not a.core.lost ≡ true) where
  abbrev s1 : State
  s1 = record s { agents = change agents.lost_at_agent link s.agents }

  abbrev r : AgentStep
  r = link_lost a.core

  there1 : nth link s1.agents ≡ Some (agents.lost_at_agent a)
  there1 = changed_own agents.lost_at_agent link s.agents a there

  is : edge.step a.core event.LinkLost ≡ r
  is = linked a.core event.LinkLost has

  cut_shown : shown s1 ≡ up_is link a.up (down_is link [] (shown s))
  cut_shown = links_are s agents.lost_at_agent link a there refl (up_is link a.up (down_is link [] (shown s))).links own others
    where
      own : (l : ℕ) → (l == link) ≡ true → link_of (Some (agents.lost_at_agent a)) ≡ (up_is link a.up (down_is link [] (shown s))).links l
      own l e = sym (ap (λ b. record (link_of (nth l s.agents)) { up = (if b then a.up else (link_of (nth l s.agents)).up); down = (if b then [] else (link_of (nth l s.agents)).down) }) e
          ∙ ap (λ o. record (link_of o) { up = a.up; down = [] }) (ap (λ i. nth i s.agents) (eqb-true l link e) ∙ there))

      others : (l : ℕ) → (l == link) ≡ false → link_of (nth l s.agents) ≡ (up_is link a.up (down_is link [] (shown s))).links l
      others l e = sym (ap (λ b. record (link_of (nth l s.agents)) { up = (if b then a.up else (link_of (nth l s.agents)).up); down = (if b then [] else (link_of (nth l s.agents)).down) }) e)

  lost_shows : shown (step link 0 event.LinkLost s1) ≡ agent_does link event.LinkLost (up_is link a.up (down_is link [] (shown s)))
  lost_shows = step_shown s1 link 0 (agents.lost_at_agent a) event.LinkLost there1 (subst (AllOnLink s1 link 0 (agents.lost_at_agent a)) (sym is) (quiet_on_link s1 link 0 (agents.lost_at_agent a) r fits.agents.connect_id fits.agents.dry (lost_quiet a.core)))
      ∙ ap (agent_does link event.LinkLost) cut_shown

  abbrev f : Agent → Agent
  f b = step_of s1 link 0 event.LinkLost (agents.lost_at_agent b)

  f_is : f a ≡ stepped_agent 0 r (agents.lost_at_agent a)
  f_is = ap (λ o. agent_after (agents.told event.LinkLost o) 0 (agents.stepped event.LinkLost (agents.lost_at_agent a))) there1 ∙ ap (λ q. stepped_agent 0 q (agents.lost_at_agent a)) is

  tickets : KeptTickets a (stepped_agent 0 r (agents.lost_at_agent a))
  tickets = record { next_ticket = refl; dials = λ t y h. absurd cc; rise = tt }

  connections : KeptConnections a (stepped_agent 0 r (agents.lost_at_agent a))
  connections = record { lost = refl; next = refl; connections = (lost_quiet a.core).joins 0 a.connections; none = refl; up_dry = stepped_dry (agents.lost_at_agent a) r 0 (fits.agents.up_dry link a there) }

  lost_fits : Fits (step link 0 event.LinkLost s1)
  lost_fits = subst Fits (sym (step_is link 0 event.LinkLost s1 ∙ ap (λ xs. record s { agents = xs }) (change_twice (step_of s1 link 0 event.LinkLost) agents.lost_at_agent link s.agents)))
      (fits_with s (change f link s.agents) (λ x. x) 0 fits (λ x. refl)
      (fits_by (change f link s.agents) s.dials
      (tickets_fit s.agents s.dials fits.agents link 0 f (λ x. x) (kept_own KeptTickets link s.agents a (stepped_agent 0 r (agents.lost_at_agent a)) f there f_is tickets) (λ x h. absurd cc))
      (connections_fit s.agents s.dials fits.agents link 0 f (λ x. x) (kept_own KeptConnections link s.agents a (stepped_agent 0 r (agents.lost_at_agent a)) f there f_is connections) (λ x h. absurd cc))))

  lost_leads : Leads s (effects.agent_lost link s)
  lost_leads = leads_one s (step link 0 event.LinkLost s1) (AgentLosesLink link a.up) lost_fits (lost_shown s link a there has, ([], append-nil a.up ∙ sym (ap (λ o. (link_of o).up) there))) (sym lost_shows)

pub agent_lost_leads : (link : ℕ) (s : State) → has_server link s ≡ true → Fits s → Leads s (effects.agent_lost link s)
agent_lost_leads link s can fits = let it = loses_linked s link fits can in lost_leads s link fits it.agent it.there it.has
