-- An agent takes an event: what is shown is what the agent of the packet world does, and the parts fit on.
use Rattle.std.proofs.Common.{◌≡◌, ℕ, true, not, cond, List, Some, sym, ap, ◌∙◌, subst}
use Rattle.kn_edge_core.specs.Agent as edge
use Rattle.kn_edge_core.specs.Agent.{ignored, linked_step}
use Rattle.kn_edge_core.specs.Steps.{AgentStep}
use Rattle.kn_edge_core.specs.declared.agent_event.AgentEvent.{AgentEvent}
use Rattle.kn_packets.specs.Moves.{agent_does}
use Rattle.kn_world.specs.declared.parts.Agent.{Agent}
use Rattle.kn_world.specs.declared.parts.Dial.{Dial}
use Rattle.kn_world.specs.declared.state.State.{State}
use Rattle.kn_world.specs.Agents as agents
use Rattle.kn_world.specs.AgentSteps.{step}
use Rattle.kn_world.specs.Numbers.{change, nth}
use Rattle.kn_refinement.specs.Fits.{Fits}
use Rattle.kn_refinement.specs.Shown.{shown}
use Rattle.kn_refinement.proofs.AgentFitting.{ConnectionFits, KeptConnection, KeptConnections, KeptTicket, KeptTickets, TicketFits, connections_fit, fits_by, same_connection, same_ticket, tickets_fit}
use Rattle.kn_refinement.proofs.AgentGiven.{agent_after, dial_after}
use Rattle.kn_refinement.proofs.AgentQuiet.{Quiet, dial_app, fits_with, quiet_connections, quiet_on_link, quiet_tickets}
use Rattle.kn_refinement.proofs.AgentShown.{AllOnLink, step_is, step_shown, stepped_agent, stepped_agents}
use Rattle.kn_refinement.proofs.Changes.{change_kept, change_same, same_of}

pub record Does (s : State) (link dial : ℕ) (e : AgentEvent) : Type 0 where
  pub shows : shown (step link dial e s) ≡ agent_does link e (shown s)
  pub fits : Fits (step link dial e s)

-- what an agent comes to by a step, and the dial that its outputs concern
abbrev pub step_of : State → ℕ → ℕ → AgentEvent → Agent → Agent
step_of s link dial e b = agent_after (agents.told e (nth link s.agents)) dial (agents.stepped e b)

abbrev pub note_of : State → ℕ → AgentEvent → Dial → Dial
note_of s link e x = dial_after (agents.told e (nth link s.agents)) x

-- the agent that changes is the one of the link
pub kept_own : (R : Agent → Agent → Type 0) (link : ℕ) (xs : List Agent) (a c : Agent) (f : Agent → Agent) → nth link xs ≡ Some a → f a ≡ c → R a c → (b : Agent) → nth link xs ≡ Some b → R b (f b)
kept_own R link xs a c f there is kept b h = subst (λ z. R z (f z)) (same_of (nth link xs) a b there h) (subst (R a) (sym is) kept)

module _ (s : State) (link dial : ℕ) (a : Agent) (there : nth link s.agents ≡ Some a) (fits : Fits s) (e : AgentEvent) where
  pub step_agent : (r : AgentStep) → edge.step a.core e ≡ r → step_of s link dial e a ≡ stepped_agent dial r a
  step_agent r is = ap (λ o. agent_after (agents.told e o) dial (agents.stepped e a)) there ∙ ap (λ q. stepped_agent dial q a) is

  pub step_note : (r : AgentStep) → edge.step a.core e ≡ r → (x : Dial) → note_of s link e x ≡ dial_after r.outs x
  step_note r is x = ap (λ o. dial_after (agents.told e o) x) there ∙ ap (λ q. dial_after q.outs x) is

  pub does_by : (r : AgentStep) → edge.step a.core e ≡ r → AllOnLink s link dial a r
      → ((f : Agent → Agent) (g : Dial → Dial) → f a ≡ stepped_agent dial r a → ((x : Dial) → g x ≡ dial_after r.outs x) → TicketFits (change f link s.agents) (change g dial s.dials))
      → ((f : Agent → Agent) (g : Dial → Dial) → f a ≡ stepped_agent dial r a → ((x : Dial) → g x ≡ dial_after r.outs x) → ConnectionFits (change f link s.agents) (change g dial s.dials)) → Does s link dial e
  does_by r is all tickets connections = record {
    shows = step_shown s link dial a e there (subst (AllOnLink s link dial a) (sym is) all);
    fits = subst Fits (sym (step_is link dial e s)) (fits_with s (stepped_agents link dial e s.agents) (note_of s link e) dial fits (dial_app (agents.told e (nth link s.agents)))
        (fits_by (stepped_agents link dial e s.agents) (change (note_of s link e) dial s.dials) (tickets (step_of s link dial e) (note_of s link e) (step_agent r is) (step_note r is)) (connections (step_of s link dial e) (note_of s link e) (step_agent r is) (step_note r is))));
  }

  -- by what is kept of the agent, and of the dial
  pub tickets_kept : (r : AgentStep) → KeptTickets a (stepped_agent dial r a) → ((x : Dial) → nth dial s.dials ≡ Some x → KeptTicket x (dial_after r.outs x))
      → (f : Agent → Agent) (g : Dial → Dial) → f a ≡ stepped_agent dial r a → ((x : Dial) → g x ≡ dial_after r.outs x) → TicketFits (change f link s.agents) (change g dial s.dials)
  tickets_kept r kept its f g fa ga = tickets_fit s.agents s.dials fits.agents link dial f g (kept_own KeptTickets link s.agents a (stepped_agent dial r a) f there fa kept) (λ x h. subst (KeptTicket x) (sym (ga x)) (its x h))

  pub connections_kept : (r : AgentStep) → KeptConnections a (stepped_agent dial r a) → ((x : Dial) → nth dial s.dials ≡ Some x → KeptConnection x (dial_after r.outs x))
      → (f : Agent → Agent) (g : Dial → Dial) → f a ≡ stepped_agent dial r a → ((x : Dial) → g x ≡ dial_after r.outs x) → ConnectionFits (change f link s.agents) (change g dial s.dials)
  connections_kept r kept its f g fa ga = connections_fit s.agents s.dials fits.agents link dial f g (kept_own KeptConnections link s.agents a (stepped_agent dial r a) f there fa kept) (λ x h. subst (KeptConnection x) (sym (ga x)) (its x h))

  -- a step that is nothing to the dials
  pub does_quiet : (r : AgentStep) → edge.step a.core e ≡ r → Quiet a.core r → r.state.lost ≡ a.core.lost → Does s link dial e
  does_quiet r is quiet lost = does_by r is (quiet_on_link s link dial a r fits.agents.connect_id fits.agents.dry quiet)
      (tickets_kept r (quiet_tickets a r dial quiet (fits.agents.tickets_rise link a there)) (λ x h. subst (KeptTicket x) (sym (quiet.notes x)) (same_ticket s.agents s.dials fits.agents dial x h)))
      (connections_kept r (quiet_connections a r dial quiet (fits.agents.lost link a there ∙ ap not (sym lost)) (fits.agents.no_connection link a there) (fits.agents.up_dry link a there)) (λ x h. subst (KeptConnection x) (sym (quiet.notes x)) (same_connection s.agents s.dials fits.agents dial x h)))

  -- a step that is none
  pub does_nothing : edge.step a.core e ≡ ignored a.core → step link dial e s ≡ s
  does_nothing is = step_is link dial e s ∙ (λ i. record s { agents = agents_same i; dials = dials_same i })
    where
      agents_same : stepped_agents link dial e s.agents ≡ s.agents
      agents_same = change_kept (step_of s link dial e) link s.agents a there (step_agent (ignored a.core) is)

      dials_same : change (note_of s link e) dial s.dials ≡ s.dials
      dials_same = change_same (note_of s link e) dial s.dials (step_note (ignored a.core) is)

  -- an agent that lost its link does nothing
  pub does_lost : a.core.lost ≡ true → step link dial e s ≡ s
  does_lost lost = does_nothing (ap (λ b. cond b (ignored a.core) (linked_step a.core e)) lost)
