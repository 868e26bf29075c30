-- Events of the server that concern a link: an agent comes, the server takes a packet of it, or loses it.
use Rattle.std.proofs.Common.{◌≡◌, ◌++◌, ℕ, ℤ, suc, Bool, true, false, cond, List, [], ◌∷◌, length, Option, Some, None, Result, Ok, Err, refl, sym, ap, ◌∙◌, subst, append-nil}
use Rattle.kn_packet.specs.declared.packet.Packet.{Packet}
use Rattle.kn_packet.specs.declared.packet.Packet.TheVariants.{DialReq}
use Rattle.kn_route.specs.declared.id_kind.IdKind.{IdKind}
use Rattle.kn_route.specs.declared.identifiers.IdFault.{IdFault}
use Rattle.kn_route.specs.Identifiers.{identifiers_in}
use Rattle.kn_server_core.specs.declared.event.ServerEvent.{ServerEvent}
use Rattle.kn_server_core.specs.declared.event.ServerEvent.TheVariants.{FrontPacket, LinkLost, LinkPacket, LinkUp}
use Rattle.kn_tunnel.specs.Kinds.{is_coming, is_present}
use Rattle.kn_tunnel.specs.Tunnel.{Gone}
use Rattle.kn_packets.specs.Keys.{Keys}
use Rattle.kn_packets.specs.Moves.{LinkComes, ServerLosesLink, ServerTakesUp, server_does, takes_up}
use Rattle.kn_world.specs.declared.parts.Agent.{Agent}
use Rattle.kn_world.specs.declared.state.State.{State}
use Rattle.kn_world.specs.Agents as agents
use Rattle.kn_world.specs.Arrivals.{agent_comes, agent_read, with_agent}
use Rattle.kn_world.specs.Idle.{there_and}
use Rattle.kn_world.specs.Idle as idle
use Rattle.kn_world.specs.Numbers.{change, nth, rest_of}
use Rattle.kn_world.specs.ServerPackets.{loses_link}
use Rattle.kn_world.specs.ServerSteps.{step}
use Rattle.kn_world.specs.States.{new_agent}
use Rattle.kn_refinement.specs.Fits.{Fits}
use Rattle.kn_refinement.specs.Leads.{Leads}
use Rattle.kn_refinement.specs.Shown.{link_of, shown}
use Rattle.kn_refinement.proofs.FitsAgents.{AgentKept, agent_more_fits, agents_kept, lost_kept, rest_kept}
use Rattle.kn_refinement.proofs.FitsServer.{MayStep, agent_fits}
use Rattle.kn_refinement.proofs.NumberLemmas.{length_more, nth_none}
use Rattle.kn_refinement.proofs.Pairs.{was_still}
use Rattle.kn_refinement.proofs.ServerLinks.{HasAgent}
use Rattle.kn_refinement.proofs.ServerReached.{server_leads}
use Rattle.kn_refinement.proofs.ServerRules.{ComesUp}
use Rattle.kn_refinement.proofs.ServerSteps.{LinksKnown}
use Rattle.kn_refinement.proofs.ShownChanges.{agent_came, agent_changed, beyond}
use Rattle.kn_refinement.proofs.Worlds.{leads_none}

-- ---- the server has only links of agents
pub links_known : (s : State) → Keys (shown s) → LinksKnown s
links_known s keys l h = here (nth l s.agents) refl (sym (keys.server.links_up l) ∙ h)
  where
    here : (o : Option Agent) → nth l s.agents ≡ o → is_present (link_of o).server ≡ true → HasAgent s.agents l
    here None e p = absurd cc
    here (Some a) e p = (a, e)

pub known_changed : (s : State) (f : Agent → Agent) (l : ℕ) → ((a : Agent) → AgentKept l a (f a)) → LinksKnown s → LinksKnown (record s { agents = change f l s.agents })
known_changed s f l kept known i h = let w = known i h in let z = (agents_kept f l s.agents kept).later i w.0 w.1 in (z.0, z.1)

pub known_more : (s : State) → LinksKnown s → LinksKnown (with_agent s)
known_more s known i h = let w = known i h in (w.0, was_still s.agents new_agent i w.0 w.1)

-- ---- an event that asks for no dial, and with which no front comes up
pub quiet_step : (event : ServerEvent) (app : ℕ) (s : State) → ((front : ℕ) (protocol address : List ℕ) (random : ℤ) → event ≡ FrontPacket front (DialReq protocol address random) → ⊥) → ((f : ℕ) → ComesUp f event → ⊥)
    → MayStep event app s
quiet_step event app s not_asked not_up = record {
  asks = λ front protocol address random e. absurd (not_asked front protocol address random e);
  comes = λ f h. absurd (not_up f h);
}

-- ---- an agent comes
came_leads : (s : State) (l : ℕ) (identifiers : List (IdKind × List ℕ)) → l ≡ suc (length s.agents) → Fits s → Keys (shown s) → Leads s (step 0 (LinkUp l identifiers) (with_agent s))
came_leads s l identifiers is fits keys = subst (λ n. Leads s (step 0 (LinkUp n identifiers) (with_agent s))) (sym is)
    (server_leads s (with_agent s) (LinkComes (suc (length s.agents)) identifiers) 0 (LinkUp (suc (length s.agents)) identifiers)
    (record { asked = fits.asked; agents = agent_more_fits s.agents s.dials fits.agents; clients = fits.clients; fronts = fits.fronts; next_dial = fits.next_dial })
    keys.server.orderly (known_more s (links_known s keys)) tt
    (quiet_step (LinkUp (suc (length s.agents)) identifiers) 0 (with_agent s) (λ front protocol address random e. cc) (λ f h. h))
    (ap (λ o. is_coming (link_of o).server) (beyond s.agents (suc (length s.agents)) refl))
    (ap (server_does (LinkUp (suc (length s.agents)) identifiers)) (agent_came s fits)))

pub agent_comes_leads : (identifiers : List ℕ) (s : State) → Fits s → Keys (shown s) → Leads s (agent_comes identifiers s)
agent_comes_leads identifiers s fits keys = here (identifiers_in identifiers)
  where
    here : (r : Result (List (IdKind × List ℕ)) IdFault) → Leads s (agent_read r s)
    here (Ok read) = came_leads s (length (s.agents ++ new_agent ∷ [])) read (length_more s.agents new_agent) fits keys
    here (Err fault) = leads_none s s fits refl

-- ---- the server loses a link
lost_leads : (s : State) (l : ℕ) (a : Agent) → nth l s.agents ≡ Some a → a.at_server ≡ true → Fits s → Keys (shown s) → Leads s (loses_link l s)
lost_leads s l a there up fits keys = server_leads s (record s { agents = change agents.lost_at_server l s.agents }) (ServerLosesLink l a.down) 0 (LinkLost l)
    (agent_fits s agents.lost_at_server l (λ b. lost_kept l b) fits) keys.server.orderly (known_changed s agents.lost_at_server l (λ b. lost_kept l b) (links_known s keys)) tt
    (quiet_step (LinkLost l) 0 (record s { agents = change agents.lost_at_server l s.agents }) (λ front protocol address random e. cc) (λ f h. h))
    (present, ([], append-nil a.down ∙ sym (ap (λ o. (link_of o).down) there)))
    (ap (server_does (LinkLost l)) (agent_changed s l a agents.lost_at_server
    (λ b x. record x { server = cond b Gone x.server; up = cond b [] x.up; down = cond b a.down x.down }) there (λ b. refl) (λ x. refl) refl))
  where
    present : is_present (link_of (nth l s.agents)).server ≡ true
    present = ap (λ o. is_present (link_of o).server) there ∙ here a.at_server up
      where
        here : (b : Bool) → b ≡ true → is_present (link_of (Some (record a { at_server = b }))).server ≡ true
        here true e = refl
        here false e = absurd cc

pub loses_link_leads : (l : ℕ) (s : State) → idle.has_link l s ≡ true → Fits s → Keys (shown s) → Leads s (loses_link l s)
loses_link_leads l s up fits keys = here (nth l s.agents) refl up
  where
    here : (o : Option Agent) → nth l s.agents ≡ o → there_and (λ a. a.at_server) o ≡ true → Leads s (loses_link l s)
    here None e h = absurd cc
    here (Some a) e h = lost_leads s l a e h fits keys

-- ---- the server takes a packet of a link
pub first_rest : (ps : List Packet) (p : Packet) → agents.first_up (Some (record new_agent { up = ps })) ≡ Some p → ps ≡ p ∷ rest_of ps
first_rest [] p h = absurd cc
first_rest (q ∷ qs) p h = let e : q ≡ p = cc in ap (λ x. x ∷ qs) e

none_rest : (ps : List Packet) → agents.first_up (Some (record new_agent { up = ps })) ≡ None → rest_of ps ≡ ps
none_rest [] h = refl
none_rest (q ∷ qs) h = absurd cc

module _ (s : State) (l : ℕ) (fits : Fits s) (keys : Keys (shown s)) where
  taken_leads : (a : Agent) (p : Packet) → nth l s.agents ≡ Some a → a.up ≡ p ∷ rest_of a.up → Leads s (step 0 (LinkPacket l p) (record s { agents = change agents.rest_up l s.agents }))
  taken_leads a p there first = server_leads s (record s { agents = change agents.rest_up l s.agents }) (ServerTakesUp l) 0 (LinkPacket l p)
      (agent_fits s agents.rest_up l (λ b. rest_kept l b) fits) keys.server.orderly (known_changed s agents.rest_up l (λ b. rest_kept l b) (links_known s keys)) tt
      (quiet_step (LinkPacket l p) 0 (record s { agents = change agents.rest_up l s.agents }) (λ front protocol address random e. cc) (λ f h. h))
      (ap (λ o. is_present (link_of o).server) there ∙ present a.at_server refl)
      (ap (λ ps. takes_up l ps (shown s)) (ap (λ o. (link_of o).up) there ∙ first)
      ∙ ap (server_does (LinkPacket l p)) (agent_changed s l a agents.rest_up (λ b x. record x { up = cond b (rest_of a.up) x.up }) there (λ b. refl) (λ x. refl) refl))
    where
      present : (b : Bool) → a.at_server ≡ b → is_present (link_of (Some a)).server ≡ true
      present true e = rw e refl
      present false e = let dry : a.up ≡ [] = fits.agents.up_dry l a there e in absurd (cc (dry, first))

  pub up_leads : (p : Packet) → agents.first_up (nth l s.agents) ≡ Some p → Leads s (step 0 (LinkPacket l p) (record s { agents = change agents.rest_up l s.agents }))
  up_leads p h = here (nth l s.agents) refl h
    where
      here : (o : Option Agent) → nth l s.agents ≡ o → agents.first_up o ≡ Some p → Leads s (step 0 (LinkPacket l p) (record s { agents = change agents.rest_up l s.agents }))
      here None e h = absurd cc
      here (Some a) e h = taken_leads a p e (first_rest a.up p h)

  -- none is there
  pub no_up_leads : agents.first_up (nth l s.agents) ≡ None → Leads s (record s { agents = change agents.rest_up l s.agents })
  no_up_leads h = leads_none s (record s { agents = change agents.rest_up l s.agents }) (agent_fits s agents.rest_up l (λ b. rest_kept l b) fits) (here (nth l s.agents) refl h)
    where
      here : (o : Option Agent) → nth l s.agents ≡ o → agents.first_up o ≡ None → shown s ≡ shown (record s { agents = change agents.rest_up l s.agents })
      here None e h = ap (λ xs. shown (record s { agents = xs })) (sym (nth_none agents.rest_up l s.agents e))
      here (Some a) e h = agent_changed s l a agents.rest_up (λ b x. x) e (λ b. refl) (λ x. refl) (ap (λ ps. record (link_of (Some a)) { up = ps }) (sym (none_rest a.up h)))
