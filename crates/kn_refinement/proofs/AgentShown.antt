-- What a running world shows after a step of an agent, as the packet world has it.
use Rattle.std.proofs.Common.{◌≡◌, ◌==◌, ℕ, zero, suc, Bool, true, false, not, cond, List, [], ◌∷◌, if◌then◌else◌, Option, Some, None, refl, sym, ap, ◌∙◌, eqb-true, arith}
use Rattle.std.specs.Option.{option_map}
use Rattle.kn_packet.specs.declared.packet.Packet.{Packet}
use Rattle.kn_packet.specs.declared.packet.Packet.TheVariants.{CloseReq, CloseRsp, Data, DialCls, DialReq, DialRsp, Drain, Other}
use Rattle.kn_edge_core.specs.Agent as edge
use Rattle.kn_edge_core.specs.Steps.{AgentStep}
use Rattle.kn_edge_core.specs.declared.agent_event.AgentEvent.{AgentEvent}
use Rattle.kn_edge_core.specs.declared.agent_event.AgentOut.{AgentOut}
use Rattle.kn_edge_core.specs.declared.agent_event.AgentOut.TheVariants as out
use Rattle.kn_tunnel.specs.Kinds.{is_gone}
use Rattle.kn_packets.specs.Moves.{agent_does, agent_stepped, dest_after, no_dial}
use Rattle.kn_packets.specs.Outputs.{cid_drawn, from_agent, queued}
use Rattle.kn_packets.specs.World.{WorldDial}
use Rattle.kn_packets.proofs.Fresh.{below}
use Rattle.kn_world.specs.declared.parts.Agent.{Agent}
use Rattle.kn_world.specs.declared.parts.Dial.{Dial}
use Rattle.kn_world.specs.declared.state.State.{State}
use Rattle.kn_world.specs.Agents as agents
use Rattle.kn_world.specs.AgentSteps.{step}
use Rattle.kn_world.specs.Dials as dials
use Rattle.kn_world.specs.Dials.{state_at}
use Rattle.kn_world.specs.Numbers.{change, nth}
use Rattle.kn_refinement.specs.Shown.{agent_of, cid_if, dial_of, front_if, link_of, shown, side_of}
use Rattle.kn_refinement.proofs.AgentGiven.{agent_after, dial_after, given, noted_dial}
use Rattle.kn_refinement.proofs.Changes.{change_as, changed_other, changed_own}
use Rattle.kn_refinement.proofs.NumberLemmas.{nth_change}
use Rattle.kn_refinement.proofs.Worlds.{dials_same, worlds_same}

-- ---- a step, by what the agent's core comes to
abbrev pub stepped_agent : ℕ → AgentStep → Agent → Agent
stepped_agent dial r a = agent_after r.outs dial (record a { core = r.state })

abbrev pub stepped_agents : ℕ → ℕ → AgentEvent → List Agent → List Agent
stepped_agents link dial e xs = change (λ a. agent_after (agents.told e (nth link xs)) dial (agents.stepped e a)) link xs

pub step_is : (link dial : ℕ) (e : AgentEvent) (s : State) → step link dial e s ≡ record s { agents = stepped_agents link dial e s.agents; dials = change (dial_after (agents.told e (nth link s.agents))) dial s.dials }
step_is link dial e s = given (agents.told e (nth link s.agents)) link dial (record s { agents = change (agents.stepped e) link s.agents })
    ∙ ap (λ x. record s { agents = x; dials = change (dial_after (agents.told e (nth link s.agents))) dial s.dials }) (change_as (agent_after (agents.told e (nth link s.agents)) dial) (agents.stepped e) (λ a. agent_after (agents.told e (nth link s.agents)) dial (agents.stepped e a)) link s.agents (λ a. refl))

-- ---- a link that is lost at the server takes nothing more
present : (b : Bool) → not (is_gone (front_if b)) ≡ b
present true = refl
present false = refl

-- ---- the dial that outputs concern keeps its link
noted_link : (p : Packet) (x : Dial) → (noted_dial p x).link ≡ x.link
noted_link (DialRsp [] connect_id random) x = refl
noted_link (DialRsp (y ∷ ys) connect_id random) x = refl
noted_link (DialReq protocol address random) x = refl
noted_link (CloseReq connect_id) x = refl
noted_link (CloseRsp error connect_id) x = refl
noted_link (Data connect_id error bytes) x = refl
noted_link (DialCls random) x = refl
noted_link Drain x = refl
noted_link (Other number) x = refl

pub dial_link : (outs : List AgentOut) (x : Dial) → (dial_after outs x).link ≡ x.link
dial_link [] x = refl
dial_link (out.ToServer p ∷ outs) x = dial_link outs (noted_dial p x) ∙ noted_link p x
dial_link (out.Dial ticket address ∷ outs) x = dial_link outs (dials.with_ticket ticket x)
dial_link (out.Write connect_id bytes ∷ outs) x = dial_link outs (dials.written bytes x)
dial_link (out.CloseDest connect_id ∷ outs) x = dial_link outs x
dial_link (out.DropDial ticket ∷ outs) x = dial_link outs x

-- ---- what is shown of a dial of the link
abbrev pub after_if : Bool → AgentStep → Dial → Dial
after_if b r x = cond b (dial_after r.outs x) x

after_link : (b : Bool) (r : AgentStep) (x : Dial) → (after_if b r x).link ≡ x.link
after_link true r x = dial_link r.outs x
after_link false r x = refl

pub record OnLink (dial d : ℕ) (a : Agent) (r : AgentStep) (x : Dial) : Type 0 where
  pub cid : cid_if (after_if (d == dial) r x).connect_id ≡ cid_drawn d (from_agent r.outs) (cid_if x.connect_id)
  pub side : side_of (state_at (after_if (d == dial) r x).connect_id (Some (record a { core = r.state }))) (after_if (d == dial) r x).side ≡ dest_after true (cid_if x.connect_id) r (side_of (state_at x.connect_id (Some a)) x.side)

-- the dials of the link, and those of others
pub record AllOnLink (s : State) (link dial : ℕ) (a : Agent) (r : AgentStep) : Type 0 where
  pub on : (d : ℕ) (x : Dial) → nth d s.dials ≡ Some x → x.link ≡ link → OnLink dial d a r x
  pub off : (d : ℕ) (x : Dial) → nth d s.dials ≡ Some x → (x.link == link) ≡ false → after_if (d == dial) r x ≡ x

module _ (s : State) (link dial : ℕ) (a : Agent) (there : nth link s.agents ≡ Some a) (r : AgentStep) (xs : List Agent) (ds : List Dial)
    (own : nth link xs ≡ Some (stepped_agent dial r a)) (others : (l : ℕ) → (l == link) ≡ false → nth l xs ≡ nth l s.agents)
    (changed : (d : ℕ) → nth d ds ≡ cond (d == dial) (option_map (dial_after r.outs) (nth d s.dials)) (nth d s.dials)) (all : AllOnLink s link dial a r) where
  agent_shown : (l : ℕ) (b : Bool) → (l == link) ≡ b → agent_of (nth l xs) ≡ cond b r.state (agent_of (nth l s.agents))
  agent_shown l true e = ap (λ i. agent_of (nth i xs)) (eqb-true l link e) ∙ ap agent_of own
  agent_shown l false e = ap agent_of (others l e)

  link_shown : (l : ℕ) (b : Bool) → (l == link) ≡ b
      → link_of (nth l xs) ≡ record (link_of (nth l s.agents)) { up = (cond b (queued (not (is_gone (link_of (nth l s.agents)).server)) (link_of (nth l s.agents)).up (from_agent r.outs)) (link_of (nth l s.agents)).up) }
  link_shown l true e = ap (λ i. link_of (nth i xs)) (eqb-true l link e) ∙ ap link_of own ∙ ap (λ b. record { server = front_if a.at_server; up = queued b a.up (from_agent r.outs); down = a.down }) (sym (present a.at_server))
      ∙ sym (ap (λ o. record (link_of o) { up = queued (not (is_gone (link_of o).server)) (link_of o).up (from_agent r.outs) }) (ap (λ i. nth i s.agents) (eqb-true l link e) ∙ there))
  link_shown l false e = ap link_of (others l e)

  abbrev dial_stepped : ℕ → WorldDial → WorldDial
  dial_stepped d w = record w { cid = (if w.link == link then cid_drawn d (from_agent r.outs) w.cid else w.cid); side = dest_after (w.link == link) w.cid r w.side }

  not_zero : (0 == link) ≡ false
  not_zero = here link there
    where
      here : (n : ℕ) → nth n s.agents ≡ Some a → (0 == n) ≡ false
      here zero h = absurd cc
      here (suc n) h = below 0 (suc n) (omega arith)

  dial_on : (d : ℕ) (x : Dial) → x.link ≡ link → OnLink dial d a r x → dial_of xs (Some (after_if (d == dial) r x)) ≡ record (dial_of s.agents (Some x)) { cid = cid_drawn d (from_agent r.outs) (cid_if x.connect_id); side = dest_after true (cid_if x.connect_id) r (side_of (state_at x.connect_id (nth x.link s.agents)) x.side) }
  dial_on d x at it = dials_same _ _ (after_link (d == dial) r x) it.cid
      (ap (λ o. side_of (state_at (after_if (d == dial) r x).connect_id o) (after_if (d == dial) r x).side) (ap (λ i. nth i xs) (after_link (d == dial) r x ∙ at) ∙ own) ∙ it.side
      ∙ sym (ap (λ o. dest_after true (cid_if x.connect_id) r (side_of (state_at x.connect_id o) x.side)) (ap (λ i. nth i s.agents) at ∙ there)))

  dial_shown : (d : ℕ) (o : Option Dial) → nth d s.dials ≡ o → dial_of xs (cond (d == dial) (option_map (dial_after r.outs) o) o) ≡ dial_stepped d (dial_of s.agents o)
  dial_shown d None h = none (d == dial) ∙ rw not_zero refl
    where
      none : (b : Bool) → dial_of xs (cond b None None) ≡ no_dial
      none true = refl
      none false = refl
  dial_shown d (Some x) h = some (d == dial) ∙ by (x.link == link) refl
    where
      some : (b : Bool) → dial_of xs (cond b (Some (dial_after r.outs x)) (Some x)) ≡ dial_of xs (Some (after_if b r x))
      some true = refl
      some false = refl

      by : (b : Bool) → (x.link == link) ≡ b → dial_of xs (Some (after_if (d == dial) r x)) ≡ record (dial_of s.agents (Some x)) { cid = (if b then cid_drawn d (from_agent r.outs) (cid_if x.connect_id) else cid_if x.connect_id); side = dest_after b (cid_if x.connect_id) r (side_of (state_at x.connect_id (nth x.link s.agents)) x.side) }
      by true e = dial_on d x (eqb-true x.link link e) (all.on d x h (eqb-true x.link link e))
      by false e = ap (λ y. dial_of xs (Some y)) (all.off d x h e) ∙ ap (λ o. record { link = x.link; cid = cid_if x.connect_id; side = side_of (state_at x.connect_id o) x.side }) (others x.link e)

  pub stepped_shown : shown (record s { agents = xs; dials = ds }) ≡ agent_stepped link r (shown s)
  stepped_shown = worlds_same (shown (record s { agents = xs; dials = ds })) (agent_stepped link r (shown s)) refl (λ l. agent_shown l (l == link) refl) (λ c. refl) (λ l. link_shown l (l == link) refl) (λ f. refl)
      (λ d. ap (dial_of xs) (changed d) ∙ dial_shown d (nth d s.dials) refl) (λ k. refl)

-- ---- an agent takes an event
pub step_shown : (s : State) (link dial : ℕ) (a : Agent) (e : AgentEvent) → nth link s.agents ≡ Some a → AllOnLink s link dial a (edge.step a.core e) → shown (step link dial e s) ≡ agent_does link e (shown s)
step_shown s link dial a e there all = ap shown (step_is link dial e s)
    ∙ stepped_shown s link dial a there (edge.step a.core e) (stepped_agents link dial e s.agents) (change (dial_after (agents.told e (nth link s.agents))) dial s.dials) own others changed all
    ∙ sym (ap (λ o. agent_stepped link (edge.step (agent_of o) e) (shown s)) there)
  where
    own : nth link (stepped_agents link dial e s.agents) ≡ Some (stepped_agent dial (edge.step a.core e) a)
    own = changed_own (λ b. agent_after (agents.told e (nth link s.agents)) dial (agents.stepped e b)) link s.agents a there ∙ ap (λ o. Some (agent_after (agents.told e o) dial (agents.stepped e a))) there

    others : (l : ℕ) → (l == link) ≡ false → nth l (stepped_agents link dial e s.agents) ≡ nth l s.agents
    others l h = changed_other (λ b. agent_after (agents.told e (nth link s.agents)) dial (agents.stepped e b)) link l s.agents h

    changed : (d : ℕ) → nth d (change (dial_after (agents.told e (nth link s.agents))) dial s.dials) ≡ cond (d == dial) (option_map (dial_after (edge.step a.core e).outs) (nth d s.dials)) (nth d s.dials)
    changed d = nth_change (dial_after (agents.told e (nth link s.agents))) dial d s.dials ∙ ap (λ o. cond (d == dial) (option_map (dial_after (agents.told e o)) (nth d s.dials)) (nth d s.dials)) there
