-- The moves of an agent keep the facts on keys.
use Rattle.std.proofs.Common.{◌≡◌, ℕ, Bool, true, false, not, cond, [], ◌∷◌, refl, sym, subst, arith}
use Rattle.kn_packet.specs.declared.packet.Packet.TheVariants.{Drain}
use Rattle.kn_edge_core.specs.Agent.{drain_now, ignored}
use Rattle.kn_edge_core.specs.Steps.{AgentStep}
use Rattle.kn_edge_core.specs.declared.agent_event.AgentEvent.TheVariants as at_agent
use Rattle.kn_edge_core.specs.declared.agent_event.AgentOut.TheVariants as out
use Rattle.kn_packets.specs.Keys.{Keys}
use Rattle.kn_packets.specs.Lifts.{Lifts}
use Rattle.kn_packets.specs.Moves.{AgentDrains, after, agent_stepped}
use Rattle.kn_packets.specs.World.{World}
use Rattle.kn_packets.proofs.AgentCalm.{conns_same, dials_same, not_lost, order_old, order_one, whole}
use Rattle.kn_packets.proofs.AgentKept.{Calm, calm_keeps}
use Rattle.kn_packets.proofs.AgentLosses.{drains_lift}
use Rattle.kn_packets.proofs.AgentParts.{linked}

module _ (w : World) (l : ℕ) (keys : Keys w) (there : not (w.agents l).lost ≡ true) where
  drain_calm : (b : Bool) → Calm w l (cond b (ignored (w.agents l)) (record { state = record (w.agents l) { drained = true }; outs = out.ToServer Drain ∷ [] })) (λ i. (w.links i).up) (λ i. (w.links i).down) (λ d. (w.dials d).side)
  drain_calm true =
      let conns = conns_same w l keys (ignored (w.agents l)) (λ d. (w.dials d).side) refl (λ cid old. refl) (λ d. refl) in
      let dials = dials_same w l keys (ignored (w.agents l)) (λ i. (w.links i).down) refl (λ d. omega arith) in
      record {
        parts = whole w l;
        sides = λ d h. refl;
        draws = λ d on. refl;
        number = refl;
        told = tt;
        rise = conns.rise;
        older = conns.older;
        unwritten = conns.unwritten;
        dials = dials.dials;
        once = dials.once;
        lost = λ h. absurd (not_lost (w.agents l) there (w.agents l).lost refl h);
        order = order_old w l keys;
      }
  drain_calm false =
      let step : AgentStep = record { state = record (w.agents l) { drained = true }; outs = out.ToServer Drain ∷ [] } in
      let conns = conns_same w l keys step (λ d. (w.dials d).side) refl (λ cid old. refl) (λ d. refl) in
      let dials = dials_same w l keys step (λ i. (w.links i).down) refl (λ d. omega arith) in
      record {
        parts = whole w l;
        sides = λ d h. refl;
        draws = λ d on. refl;
        number = refl;
        told = ((tt, tt, tt), tt);
        rise = conns.rise;
        older = conns.older;
        unwritten = conns.unwritten;
        dials = dials.dials;
        once = dials.once;
        lost = λ h. absurd (not_lost (w.agents l) there (w.agents l).lost refl h);
        order = order_one w l keys Drain (λ k d came de on up. refl);
      }

  pub drains_keep : Keys (after (AgentDrains l) w)
  drains_keep = here (drains_lift w l keys there)
    where
      here : Lifts w (after (AgentDrains l) w) → Keys (after (AgentDrains l) w)
      here = subst (λ s. Lifts w (agent_stepped l s w) → Keys (agent_stepped l s w)) (sym (linked (w.agents l) at_agent.DrainNow there))
          (calm_keeps w l (drain_now (w.agents l)) (λ i. (w.links i).up) (λ i. (w.links i).down) (λ d. (w.dials d).side) keys (drain_calm (w.agents l).drained))
