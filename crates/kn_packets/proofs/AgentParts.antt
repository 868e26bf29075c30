-- A step of an agent, and the tunnels of the apps on its link.
use Rattle.std.proofs.Common.{◌≡◌, ◌==◌, ℕ, pos, Bool, true, false, not, cond, List, Option, Some, None, inl, refl, sym, ap, ◌∙◌, eqb-true}
use Rattle.kn_packet.specs.declared.packet.Packet.{Packet}
use Rattle.kn_tables.specs.Lists.{first_where}
use Rattle.kn_edge_core.specs.Agent as agent
use Rattle.kn_edge_core.specs.Agent.{ignored, linked_step}
use Rattle.kn_edge_core.specs.AgentTables.{connection_at}
use Rattle.kn_edge_core.specs.Steps.{AgentStep}
use Rattle.kn_edge_core.specs.declared.agent_event.AgentEvent.{AgentEvent}
use Rattle.kn_edge_core.specs.declared.agent_state.AgentState.{AgentState}
use Rattle.kn_edge_core.specs.declared.connection.Connection.{Connection}
use Rattle.kn_tunnel.specs.Facts.{Facts}
use Rattle.kn_tunnel.specs.Kinds.{is_gone}
use Rattle.kn_tunnel.specs.Steps.{Follows}
use Rattle.kn_tunnel.specs.Tunnel.{Side, Tunnel}
use Rattle.kn_words.specs.Down.{down_word, has_request}
use Rattle.kn_words.specs.Up.{up_word}
use Rattle.kn_packets.specs.Keys.{Keys}
use Rattle.kn_packets.specs.Lifts.{Lifts}
use Rattle.kn_packets.specs.Moves.{agent_stepped, dest_after, dest_is, down_is, side_if}
use Rattle.kn_packets.specs.Outputs.{cid_drawn, for_dest, from_agent, queued}
use Rattle.kn_packets.specs.World.{World, WorldLink, drawn_tunnel, entry_at, far_of, has_random, phase_in, tunnel_of}
use Rattle.kn_packets.proofs.AgentRows.{dry}
use Rattle.kn_packets.proofs.Fresh.{eqb_refl}

-- the tunnel of an app with a dial, by what the agent and its link have of it
abbrev pub of_agent : World → ℕ → ℕ → Option ℕ → Side → AgentState → WorldLink → Tunnel
of_agent w k d cid side a link =
    drawn_tunnel (w.streams (w.apps k).stream).connect (w.apps k).number (phase_in w (w.apps k)) (w.apps k).side (w.streams (w.apps k).stream) d (entry_at w.server d) cid side a link

-- and after a step
abbrev pub stepped : World → ℕ → ℕ → Option ℕ → Side → AgentStep → WorldLink → List Packet → Tunnel
stepped w k d cid side s link down =
    of_agent w k d (cid_drawn d (from_agent s.outs) cid) (dest_after true cid s side) s.state (record link { up = queued (not (is_gone link.server)) link.up (from_agent s.outs); down = down })

-- what is known of a tunnel before the step
pub of_link : (w : World) (l : ℕ) → Keys w → (k d : ℕ) → (w.apps k).came ≡ true → (w.apps k).dial ≡ Some d → (w.dials d).link ≡ l → Facts (of_agent w k d (w.dials d).cid (w.dials d).side (w.agents l) (w.links l))
of_link w l keys k d came de on = rw (de, on) at (keys.facts k came)

-- what a step must be to the tunnel of each app on the link
abbrev pub OnLink : World → ℕ → (ℕ → Side) → AgentStep → List Packet → Type 0
OnLink w l sides s down = (k d : ℕ) → (w.apps k).came ≡ true → (w.apps k).dial ≡ Some d → (w.dials d).link ≡ l
    → Follows (of_agent w k d (w.dials d).cid (w.dials d).side (w.agents l) (w.links l)) (stepped w k d (w.dials d).cid (sides d) s (w.links l) down)

module _ (w : World) (l : ℕ) (s : AgentStep) where
  -- nothing is taken
  pub steps_lift : OnLink w l (λ d. (w.dials d).side) s (w.links l).down → Lifts w (agent_stepped l s w)
  steps_lift own k came = by_dial (w.apps k).dial refl
    where
      by_link : (d : ℕ) → (w.apps k).dial ≡ Some d → (b : Bool) → ((w.dials d).link == l) ≡ b → Follows (tunnel_of w (w.apps k) (Some d)) (tunnel_of (agent_stepped l s w) (w.apps k) (Some d))
      by_link d de true on = let at : (w.dials d).link ≡ l = eqb-true (w.dials d).link l on in rw (at, eqb_refl l) (own k d came de at)
      by_link d de false on = inl (rw on refl)

      by_dial : (D : Option ℕ) → (w.apps k).dial ≡ D → Follows (tunnel_of w (w.apps k) D) (tunnel_of (agent_stepped l s w) (w.apps k) D)
      by_dial None de = inl refl
      by_dial (Some d) de = by_link d de ((w.dials d).link == l) refl

  -- a packet is taken
  pub takings_lift : (rest : List Packet) → OnLink w l (λ d. (w.dials d).side) s rest → Lifts w (agent_stepped l s (down_is l rest w))
  takings_lift rest own k came = by_dial (w.apps k).dial refl
    where
      by_link : (d : ℕ) → (w.apps k).dial ≡ Some d → (b : Bool) → ((w.dials d).link == l) ≡ b → Follows (tunnel_of w (w.apps k) (Some d)) (tunnel_of (agent_stepped l s (down_is l rest w)) (w.apps k) (Some d))
      by_link d de true on = let at : (w.dials d).link ≡ l = eqb-true (w.dials d).link l on in rw (at, eqb_refl l) (own k d came de at)
      by_link d de false on = inl (rw on refl)

      by_dial : (D : Option ℕ) → (w.apps k).dial ≡ D → Follows (tunnel_of w (w.apps k) D) (tunnel_of (agent_stepped l s (down_is l rest w)) (w.apps k) D)
      by_dial None de = inl refl
      by_dial (Some d) de = by_link d de ((w.dials d).link == l) refl

  -- a destination's bytes go on
  pub bytes_lift : (e : ℕ) (change : Side → Side) → (w.dials e).link ≡ l → OnLink w l (λ d. side_if (d == e) change (w.dials d).side) s (w.links l).down → Lifts w (agent_stepped l s (dest_is e change w))
  bytes_lift e change there own k came = by_dial (w.apps k).dial refl
    where
      not_it : (d : ℕ) (b : Bool) → (d == e) ≡ b → ((w.dials d).link == l) ≡ false → b ≡ false
      not_it d true same on = let at : (w.dials d).link ≡ l = ap (λ i. (w.dials i).link) (eqb-true d e same) ∙ there in let yes : ((w.dials d).link == l) ≡ true = rw at (eqb_refl l) in absurd (cc (yes, on))
      not_it d false same on = refl

      by_link : (d : ℕ) → (w.apps k).dial ≡ Some d → (b : Bool) → ((w.dials d).link == l) ≡ b → Follows (tunnel_of w (w.apps k) (Some d)) (tunnel_of (agent_stepped l s (dest_is e change w)) (w.apps k) (Some d))
      by_link d de true on = let at : (w.dials d).link ≡ l = eqb-true (w.dials d).link l on in rw (at, eqb_refl l) (own k d came de at)
      by_link d de false on = inl (rw (on, not_it d (d == e) refl on) refl)

      by_dial : (D : Option ℕ) → (w.apps k).dial ≡ D → Follows (tunnel_of w (w.apps k) D) (tunnel_of (agent_stepped l s (dest_is e change w)) (w.apps k) D)
      by_dial None de = inl refl
      by_dial (Some d) de = by_link d de ((w.dials d).link == l) refl

-- an agent that has its link does its rule
pub linked : (a : AgentState) (e : AgentEvent) → not a.lost ≡ true → agent.step a e ≡ linked_step a e
linked a e there = here a.lost there
  where
    here : (b : Bool) → not b ≡ true → cond b (ignored a) (linked_step a e) ≡ linked_step a e
    here false h = refl
    here true h = absurd cc

-- a step that is nothing to a dial
pub record Apart (d : ℕ) (cid : Option ℕ) (a : AgentState) (s : AgentStep) : Type 0 where
  pub lost : s.state.lost ≡ a.lost
  pub dial : cid ≡ None → first_where (has_random d) s.state.dials ≡ first_where (has_random d) a.dials
  pub connection : (c : ℕ) → cid ≡ Some c → connection_at (pos c) s.state.connections ≡ connection_at (pos c) a.connections
  pub writes : (old : List ℕ) → for_dest cid s.outs old ≡ old
  pub draws : cid_drawn d (from_agent s.outs) cid ≡ cid
  pub word : (b : Bool) (ps : List Packet) → up_word d cid (queued b ps (from_agent s.outs)) ≡ up_word d cid ps

pub ignored_apart : (d : ℕ) (cid : Option ℕ) (a : AgentState) → Apart d cid a (ignored a)
ignored_apart d cid a = record { lost = refl; dial = λ e. refl; connection = λ c e. refl; writes = λ o. refl; draws = refl; word = λ b ps. refl }

module _ (w : World) (k d : ℕ) (side : Side) (a : AgentState) (link : WorldLink) where
  -- the destination keeps what is to be written
  pub side_same : (cid : Option ℕ) → Facts (of_agent w k d cid side a link) → (s : AgentStep) → ((c : ℕ) → cid ≡ Some c → connection_at (pos c) s.state.connections ≡ connection_at (pos c) a.connections)
      → for_dest cid s.outs side.unwritten ≡ side.unwritten → dest_after true cid s side ≡ side
  side_same None facts s same writes = refl
  side_same (Some c) facts s same writes = here (connection_at (pos c) a.connections) refl
    where
      here : (o : Option Connection) → connection_at (pos c) a.connections ≡ o → dest_after true (Some c) s side ≡ side
      here None at = rw (same c refl, at) (ap (λ u. record side { unwritten = u }) (sym (dry (of_agent w k d (Some c) side a link) facts.link (rw at refl))))
      here (Some x) at = rw (same c refl, at, writes) refl

  far_same : (cid : Option ℕ) (s : AgentStep) → Apart d cid a s → (down : List Packet) → (cid ≡ None → has_request d down ≡ has_request d link.down) → far_of d cid s.state down ≡ far_of d cid a link.down
  far_same None s it down asked = rw (it.dial refl, asked refl) refl
  far_same (Some c) s it down asked = rw (it.connection c refl) refl

  -- nothing changes
  pub apart_same : (cid : Option ℕ) → Facts (of_agent w k d cid side a link) → (s : AgentStep) → Apart d cid a s → (down : List Packet) → down_word cid down ≡ down_word cid link.down
      → (cid ≡ None → has_request d down ≡ has_request d link.down) → stepped w k d cid side s link down ≡ of_agent w k d cid side a link
  apart_same cid facts s it down word asked = rw (it.draws, far_same cid s it down asked, side_same cid facts s it.connection (it.writes side.unwritten), it.lost, it.word (not (is_gone link.server)) link.up, word) refl
