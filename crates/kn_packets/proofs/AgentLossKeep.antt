-- An agent that loses its link, and a dial that fails, keep the facts on keys.
use Rattle.std.proofs.Common.{◌≡◌, ◌==◌, ℕ, pos, Bool, true, false, not, cond, List, [], Option, Some, None, refl, sym, subst, append-nil, arith}
use Rattle.std.specs.Prelude.{codes}
use Rattle.kn_packet.specs.declared.packet.Packet.{Packet}
use Rattle.kn_packet.specs.declared.packet.Packet.TheVariants.{DialRsp}
use Rattle.kn_tables.specs.Lists.{first_where}
use Rattle.kn_edge_core.specs.Agent.{dial_refused, ids_used_up, ignored, link_lost}
use Rattle.kn_edge_core.specs.AgentTables.{is_dial}
use Rattle.kn_edge_core.specs.declared.agent_event.AgentEvent.TheVariants as at_agent
use Rattle.kn_edge_core.specs.declared.agent_state.AgentState.{AgentState}
use Rattle.kn_edge_core.specs.declared.dial.Dial.{Dial}
use Rattle.kn_tunnel.specs.Facts.{Facts}
use Rattle.kn_tunnel.specs.Tunnel.{Side}
use Rattle.kn_tunnel.proofs.OrderChecks.{answer_order}
use Rattle.kn_words.specs.Down.{has_request}
use Rattle.kn_words.specs.Numbers.{is_number}
use Rattle.kn_words.specs.Up.{OtherUp, RefusalUp, up_follows, up_item, up_of, up_ordered}
use Rattle.kn_words.proofs.UpOrder.{up_prefix_ordered}
use Rattle.kn_packets.specs.Keys.{IsBelow, Keys}
use Rattle.kn_packets.specs.Lifts.{Lifts}
use Rattle.kn_packets.specs.Moves.{AgentLosesLink, DialFailed, IsFrontOf, after, agent_stepped, down_is, up_is}
use Rattle.kn_packets.specs.Outputs.{from_agent}
use Rattle.kn_packets.specs.World.{World, WorldLink}
use Rattle.kn_packets.proofs.AgentCalm.{calm_of, conns_same, dials_same, dials_without, made, order_old, order_one, whole}
use Rattle.kn_packets.proofs.AgentDials.{dialled, each_found, failed_lifts, found, undrawn}
use Rattle.kn_packets.proofs.AgentKept.{Calm, Made, Parts, calm_keeps}
use Rattle.kn_packets.proofs.AgentLosses.{loss_lifts, tells_none}
use Rattle.kn_packets.proofs.AgentParts.{linked, of_agent, of_link}
use Rattle.kn_packets.proofs.Fresh.{eqb_refl}

-- ---- it loses its link
lost_parts : (w : World) (l : ℕ) (left : List Packet) → IsFrontOf left (w.links l).up → Parts w l (λ i. cond (i == l) left (w.links i).up) (λ i. cond (i == l) [] (w.links i).down)
lost_parts w l left front = record {
  up_other = λ i h. rw h refl;
  down_other = λ i h. rw h refl;
  up = (front.0, rw (eqb_refl l) front.1);
  down = ((w.links l).down, rw (eqb_refl l) (append-nil (w.links l).down));
}

lost_calm : (w : World) (l : ℕ) (left : List Packet) → Keys w → IsFrontOf left (w.links l).up → Calm w l (link_lost (w.agents l)) (λ i. cond (i == l) left (w.links i).up) (λ i. cond (i == l) [] (w.links i).down) (λ d. (w.dials d).side)
lost_calm w l left keys front = record {
  parts = lost_parts w l left front;
  sides = λ d h. refl;
  draws = λ d on. rw none refl;
  number = refl;
  told = rw none tt;
  rise = tt;
  older = λ n h. refl;
  unwritten = λ d c x on e f. absurd cc;
  dials = tt;
  once = λ d on. rw (eqb_refl l) (omega arith);
  lost = λ h. (refl, refl, rw (eqb_refl l) refl);
  order = λ k d came de on. rw (none, eqb_refl l) (up_prefix_ordered (up_item d (w.dials d).cid) left front.0 (subst (λ ps. up_ordered (up_item d (w.dials d).cid) ps ≡ true) (sym front.1) (order_old w l keys k d came de on)));
}
  where
    none : from_agent (link_lost (w.agents l)).outs ≡ []
    none = tells_none (w.agents l).dials (w.agents l).connections

pub loss_keeps : (w : World) (l : ℕ) (left : List Packet) → Keys w → not (w.agents l).lost ≡ true → IsFrontOf left (w.links l).up → Keys (after (AgentLosesLink l left) w)
loss_keeps w l left keys there front = here (loss_lifts w l left keys there front)
  where
    here : Lifts w (after (AgentLosesLink l left) w) → Keys (after (AgentLosesLink l left) w)
    here = subst (λ s. Lifts w (agent_stepped l s (up_is l left (down_is l [] w))) → Keys (agent_stepped l s (up_is l left (down_is l [] w)))) (sym (linked (w.agents l) at_agent.LinkLost there))
        (calm_keeps w l (link_lost (w.agents l)) (λ i. cond (i == l) left (w.links i).up) (λ i. cond (i == l) [] (w.links i).down) (λ d. (w.dials d).side) keys (lost_calm w l left keys front))

-- ---- a dial fails
-- no other answer stands before that of a dial that is made
refusal_free : (w : World) (k d : ℕ) (side : Side) (a : AgentState) (link : WorldLink) (x : Dial) → first_where (is_dial x.ticket) a.dials ≡ Some x → is_number d x.random ≡ true → Facts (of_agent w k d None side a link)
    → up_follows (up_of (up_item d None) link.up) RefusalUp ≡ true
refusal_free w k d side a link x at own facts = rw (dialled d (is_dial x.ticket) x a.dials at own (has_request d link.down)) at (answer_order (of_agent w k d None side a link) facts.link)

module _ (w : World) (l : ℕ) (keys : Keys w) (there : not (w.agents l).lost ≡ true) where
  abbrev ups : ℕ → List Packet
  ups i = (w.links i).up

  abbrev downs : ℕ → List Packet
  downs i = (w.links i).down

  abbrev still : ℕ → Side
  still d = (w.dials d).side

  pub still_calm : Calm w l (ignored (w.agents l)) ups downs still
  still_calm = calm_of w l keys there (ignored (w.agents l)) ups downs still (whole w l) (λ d h. refl) (λ d on. refl) refl refl tt
      (conns_same w l keys (ignored (w.agents l)) still refl (λ cid old. refl) (λ d. refl)) (dials_same w l keys (ignored (w.agents l)) downs refl (λ d. omega arith)) (order_old w l keys)

  module _ (x : Dial) (at : first_where (is_dial x.ticket) (w.agents l).dials ≡ Some x) where
    older : IsBelow w.server.next_dial x.random
    older = (each_found (Made w l) (is_dial x.ticket) (w.agents l).dials x (made w l keys) at).1

    follows : (k d : ℕ) → (w.apps k).came ≡ true → (w.apps k).dial ≡ Some d → (w.dials d).link ≡ l → (b : Bool) → is_number d x.random ≡ b → up_follows (up_of (up_item d (w.dials d).cid) (w.links l).up) (cond b RefusalUp OtherUp) ≡ true
    follows k d came de on false other = refl
    follows k d came de on true own =
        let none : (w.dials d).cid ≡ None = undrawn w l keys there x at d own in
        let facts : Facts (of_agent w k d (w.dials d).cid (w.dials d).side (w.agents l) (w.links l)) = of_link w l keys k d came de on in
        rw none (refusal_free w k d (w.dials d).side (w.agents l) (w.links l) x at own (rw none at facts))

    failed_calm : Calm w l (dial_refused (w.agents l) (Some x)) ups downs still
    failed_calm = calm_of w l keys there (dial_refused (w.agents l) (Some x)) ups downs still (whole w l) (λ d h. refl) (λ d on. refl) refl refl ((older, omega arith, tt), tt)
        (conns_same w l keys (dial_refused (w.agents l) (Some x)) still refl (λ cid old. refl) (λ d. refl)) (dials_without w l keys (dial_refused (w.agents l) (Some x)) downs (is_dial x.ticket) refl (λ d. omega arith))
        (order_one w l keys (DialRsp (codes "dial failed") (pos 0) x.random) (λ k d came de on up. follows k d came de on (is_number d x.random) refl))

    pub used_calm : Calm w l (ids_used_up (w.agents l) x) ups downs still
    used_calm = calm_of w l keys there (ids_used_up (w.agents l) x) ups downs still (whole w l) (λ d h. refl) (λ d on. refl) refl refl ((older, omega arith, tt), tt)
        (conns_same w l keys (ids_used_up (w.agents l) x) still refl (λ cid old. refl) (λ d. refl)) (dials_without w l keys (ids_used_up (w.agents l) x) downs (is_dial x.ticket) refl (λ d. omega arith))
        (order_one w l keys (DialRsp (codes "connection ids used up") (pos 0) x.random) (λ k d came de on up. follows k d came de on (is_number d x.random) refl))

  by_dial : (ticket : ℕ) (o : Option Dial) → first_where (is_dial ticket) (w.agents l).dials ≡ o → Calm w l (dial_refused (w.agents l) o) ups downs still
  by_dial ticket None f = still_calm
  by_dial ticket (Some x) f = failed_calm x (found w l keys there ticket x f)

  pub failed_keeps : (ticket : ℕ) → Keys (after (DialFailed l ticket) w)
  failed_keeps ticket = here (failed_lifts w l keys there ticket)
    where
      here : Lifts w (after (DialFailed l ticket) w) → Keys (after (DialFailed l ticket) w)
      here = subst (λ s. Lifts w (agent_stepped l s w) → Keys (agent_stepped l s w)) (sym (linked (w.agents l) (at_agent.DialRefused ticket) there))
          (calm_keeps w l (dial_refused (w.agents l) (first_where (is_dial ticket) (w.agents l).dials)) ups downs still keys (by_dial ticket (first_where (is_dial ticket) (w.agents l).dials) refl))
