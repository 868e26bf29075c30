-- What a destination does keeps the facts on keys.
use Rattle.std.proofs.Common.{◌≡◌, ◌≤◌, ◌<◌, ◌==◌, ℕ, pos, Bool, true, false, not, cond, List, [], ◌∷◌, length, take, Some, refl, sym, ap, ◌∙◌, eqb-true, subst, arith, length-drop}
use Rattle.std.specs.Prelude.{codes}
use Rattle.kn_packet.specs.declared.packet.Packet.{Packet}
use Rattle.kn_packet.specs.declared.packet.Packet.TheVariants.{CloseRsp, Data}
use Rattle.kn_tables.specs.Lists.{first_where}
use Rattle.kn_edge_core.specs.Agent as agent
use Rattle.kn_edge_core.specs.Agent.{connection_ended, connection_turned, dest_bytes, dest_bytes_by_state, dest_end_by_state, dest_ended, dest_failed, dest_wrote, dest_wrote_by_state, ignored, told}
use Rattle.kn_edge_core.specs.AgentTables.{is_connection, with_fewer}
use Rattle.kn_edge_core.specs.Steps.{AgentStep}
use Rattle.kn_edge_core.specs.declared.agent_event.AgentEvent.{AgentEvent}
use Rattle.kn_edge_core.specs.declared.agent_event.AgentEvent.TheVariants as at_agent
use Rattle.kn_edge_core.specs.declared.agent_event.AgentOut.TheVariants as out
use Rattle.kn_edge_core.specs.declared.agent_state.AgentState.{AgentState}
use Rattle.kn_edge_core.specs.declared.connection.Connection.{Connection}
use Rattle.kn_edge_core.specs.declared.connection.DestState.{DestState}
use Rattle.kn_edge_core.specs.declared.connection.DestState.TheVariants.{Lingering, Open}
use Rattle.kn_tunnel.specs.Facts.{Facts}
use Rattle.kn_tunnel.specs.Kinds.{is_gone}
use Rattle.kn_tunnel.specs.Tunnel.{Side}
use Rattle.kn_tunnel.proofs.OrderChecks.{up_order}
use Rattle.kn_words.specs.Numbers.{is_drawn_number}
use Rattle.kn_words.specs.Up.{BytesUp, OtherUp, up_follows, up_item, up_of}
use Rattle.kn_packets.specs.Keys.{Keys}
use Rattle.kn_packets.specs.Lifts.{Lifts}
use Rattle.kn_packets.specs.Moves.{DestinationEnds, DestinationFails, DestinationHands, DestinationWrote, after, agent_stepped, dest_is, gets, hands, side_if}
use Rattle.kn_packets.specs.World.{World, WorldLink}
use Rattle.kn_packets.proofs.AgentCalm.{calm_of, conns_changed, conns_same, conns_without, dials_same, order_old, order_one, whole}
use Rattle.kn_packets.proofs.AgentKept.{Calm, calm_keeps}
use Rattle.kn_packets.proofs.AgentParts.{linked, of_agent, of_link}
use Rattle.kn_packets.proofs.AgentTakesKeep.{close_free}
use Rattle.kn_packets.proofs.DestMoves.{Listed, ends_lift, fails_lift, hands_lift, not_its, number, there, wrote_lift}
use Rattle.kn_packets.proofs.Fresh.{eqb_refl}
use Rattle.kn_packets.proofs.Owners.{is_key}

-- no close stands before the bytes of an open connection
bytes_free : (w : World) (k d n : ℕ) (side : Side) (a : AgentState) (link : WorldLink) (x : Connection) → first_where (is_connection n) a.connections ≡ Some x → x.state ≡ Open → not (is_gone link.server) ≡ true → (bytes : List ℕ)
    → Facts (of_agent w k d (Some n) side a link) → up_follows (up_of (up_item d (Some n)) link.up) (BytesUp bytes) ≡ true
bytes_free w k d n side a link x at st up bytes facts = rw (at, st, up) at (up_order (of_agent w k d (Some n) side a link) facts.link)

module _ (w : World) (e : ℕ) (keys : Keys w) (it : Listed w e) where
  abbrev l : ℕ
  l = (w.dials e).link

  abbrev n : ℕ
  n = it.number

  abbrev a : AgentState
  a = w.agents (w.dials e).link

  abbrev x : Connection
  x = it.connection

  abbrev ups : ℕ → List Packet
  ups i = (w.links i).up

  abbrev downs : ℕ → List Packet
  downs i = (w.links i).down

  abbrev still : ℕ → Side
  still d = (w.dials d).side

  abbrev changed : (Side → Side) → ℕ → Side
  changed change d = side_if (d == e) change (w.dials d).side

  has_link : not a.lost ≡ true
  has_link = there w e keys it

  below : n < a.next_connect_id
  below = keys.agents.cids_older e n it.cid

  stands : first_where (is_connection x.connect_id) a.connections ≡ Some x
  stands = ap (λ i. first_where (is_connection i) a.connections) (number w e keys it) ∙ it.at

  -- the bytes of a dial of another link, or of another connectID, stay
  other_link : (change : Side → Side) (d : ℕ) → ((w.dials d).link == l) ≡ false → changed change d ≡ (w.dials d).side
  other_link change d off = here (d == e) refl
    where
      here : (b : Bool) → (d == e) ≡ b → side_if b change (w.dials d).side ≡ (w.dials d).side
      here false differ = refl
      here true same = let yes : ((w.dials d).link == l) ≡ true = rw (eqb-true d e same) (eqb_refl l) in absurd (cc (yes, off))

  other_cid : (change : Side → Side) (d c : ℕ) → (w.dials d).cid ≡ Some c → (x.connect_id == c) ≡ false → changed change d ≡ (w.dials d).side
  other_cid change d c cid differ = here (d == e) refl
    where
      one : (m k : ℕ) → Some m ≡ Some k → m ≡ k
      one m k h = cc

      here : (b : Bool) → (d == e) ≡ b → side_if b change (w.dials d).side ≡ (w.dials d).side
      here false differ = refl
      here true same =
          let m : n ≡ c = one n c (sym it.cid ∙ ap (λ i. (w.dials i).cid) (sym (eqb-true d e same)) ∙ cid) in
          let k : x.connect_id ≡ c = number w e keys it ∙ m in
          let yes : (x.connect_id == c) ≡ true = rw k (eqb_refl c) in
          absurd (cc (yes, differ))

  -- of its own
  own : (change : Side → Side) (d : ℕ) → (w.dials d).link ≡ l → (w.dials d).cid ≡ Some x.connect_id → changed change d ≡ change (w.dials d).side
  own change d on cid = here (d == e) refl
    where
      here : (b : Bool) → (d == e) ≡ b → side_if b change (w.dials d).side ≡ change (w.dials d).side
      here true same = refl
      here false differ =
          let other : is_drawn_number (w.dials d).cid (pos n) ≡ false = not_its w e keys it d on differ in
          let drawn : (w.dials d).cid ≡ Some n = cid ∙ ap Some (number w e keys it) in
          let mine : is_drawn_number (w.dials d).cid (pos n) ≡ true = ap (λ z. is_drawn_number z (pos n)) drawn ∙ eqb_refl n in
          absurd (cc (mine, other))

  kept_unwritten : (m : ℕ) (d : ℕ) → (changed (hands m) d).unwritten ≡ (w.dials d).side.unwritten
  kept_unwritten m d = here (d == e)
    where
      here : (b : Bool) → (side_if b (hands m) (w.dials d).side).unwritten ≡ (w.dials d).side.unwritten
      here true = refl
      here false = refl

  -- ---- bytes are handed over
  hand_calm : (m : ℕ) (bytes : List ℕ) (st : DestState) → x.state ≡ st → Calm w l (dest_bytes_by_state a (pos n) bytes st) ups downs (changed (hands m))
  hand_calm m bytes Lingering st = calm_of w l keys has_link (ignored a) ups downs (changed (hands m)) (whole w l) (other_link (hands m)) (λ d on. refl) refl refl tt
      (conns_same w l keys (ignored a) (changed (hands m)) refl (λ cid old. refl) (kept_unwritten m)) (dials_same w l keys (ignored a) downs refl (λ d. omega arith)) (order_old w l keys)
  hand_calm m bytes Open st = calm_of w l keys has_link step ups downs (changed (hands m)) (whole w l) (other_link (hands m)) (λ d on. refl) refl refl ((tt, tt, below), tt)
      (conns_same w l keys step (changed (hands m)) refl (λ cid old. refl) (kept_unwritten m)) (dials_same w l keys step downs refl (λ d. omega arith))
      (order_one w l keys (Data (pos n) [] bytes) (λ k d came de on up. follows k d came de on up (is_drawn_number (w.dials d).cid (pos n)) refl))
    where
      step : AgentStep
      step = told a (out.ToServer (Data (pos n) [] bytes) ∷ [])

      follows : (k d : ℕ) → (w.apps k).came ≡ true → (w.apps k).dial ≡ Some d → (w.dials d).link ≡ l → not (is_gone (w.links l).server) ≡ true → (b : Bool) → is_drawn_number (w.dials d).cid (pos n) ≡ b
          → up_follows (up_of (up_item d (w.dials d).cid) (w.links l).up) (cond b (BytesUp bytes) OtherUp) ≡ true
      follows k d came de on up false other = refl
      follows k d came de on up true mine =
          let named = is_key (w.dials d).cid (pos n) mine in
          let same : named.0 ≡ n = one n named.0 named.2 in
          let cid : (w.dials d).cid ≡ Some n = named.1 ∙ ap Some same in
          let facts : Facts (of_agent w k d (w.dials d).cid (w.dials d).side a (w.links l)) = of_link w l keys k d came de on in
          rw cid (bytes_free w k d n (w.dials d).side a (w.links l) x it.at st up bytes (rw cid at facts))
        where
          one : (m k : ℕ) → pos m ≡ pos k → k ≡ m
          one m k h = cc

  -- ---- it ends
  end_calm : (error : List ℕ) (S : ℕ → Side) → ((d : ℕ) → ((w.dials d).link == l) ≡ false → S d ≡ (w.dials d).side) → ((d c : ℕ) → (w.dials d).cid ≡ Some c → (x.connect_id == c) ≡ false → S d ≡ (w.dials d).side)
      → Calm w l (connection_ended a (pos n) x error) ups downs S
  end_calm error S off others = calm_of w l keys has_link (connection_ended a (pos n) x error) ups downs S (whole w l) off (λ d on. refl) refl refl ((tt, tt, below), tt)
      (conns_without w l keys (connection_ended a (pos n) x error) S x.connect_id x stands refl (λ cid old. refl) (λ d c on cid other. ap (λ (z : Side). z.unwritten) (others d c cid other)))
      (dials_same w l keys (connection_ended a (pos n) x error) downs refl (λ d. omega arith))
      (order_one w l keys (CloseRsp error (pos n)) (λ k d came de on up. close_free (up_of (up_item d (w.dials d).cid) (w.links l).up) (is_drawn_number (w.dials d).cid (pos n))))

  still_calm : Calm w l (ignored a) ups downs still
  still_calm = calm_of w l keys has_link (ignored a) ups downs still (whole w l) (λ d h. refl) (λ d on. refl) refl refl tt
      (conns_same w l keys (ignored a) still refl (λ cid old. refl) (λ d. refl)) (dials_same w l keys (ignored a) downs refl (λ d. omega arith)) (order_old w l keys)

  -- ---- bytes are written
  fewer_calm : (m : ℕ) → Calm w l (connection_turned a x (with_fewer m) []) ups downs (changed (gets m))
  fewer_calm m = calm_of w l keys has_link (connection_turned a x (with_fewer m) []) ups downs (changed (gets m)) (whole w l) (other_link (gets m)) (λ d on. refl) refl refl tt
      (conns_changed w l keys (connection_turned a x (with_fewer m) []) (changed (gets m)) x.connect_id x (with_fewer m) (λ y. refl) stands refl
      (λ d on cid count. rw (own (gets m) d on cid, count) (sym (length-drop m (w.dials d).side.unwritten)))
      (λ d c on cid other. ap (λ (z : Side). z.unwritten) (other_cid (gets m) d c cid other)))
      (dials_same w l keys (connection_turned a x (with_fewer m) []) downs refl (λ d. omega arith)) (order_old w l keys)

  -- ---- the moves
  at_it : (s : AgentEvent) (r : AgentStep) → agent.linked_step a s ≡ r → agent.step a s ≡ r
  at_it s r h = linked a s has_link ∙ h

  pub hands_keep : (m : ℕ) → Keys (after (DestinationHands e m) w)
  hands_keep m = here (hands_lift w e keys it m)
    where
      here : Lifts w (after (DestinationHands e m) w) → Keys (after (DestinationHands e m) w)
      here = rw it.cid (subst (λ s. Lifts w (agent_stepped l s (dest_is e (hands m) w)) → Keys (agent_stepped l s (dest_is e (hands m) w)))
          (sym (at_it (at_agent.DestBytes (pos n) (take m (w.dials e).side.kept)) (dest_bytes_by_state a (pos n) (take m (w.dials e).side.kept) x.state) (ap (dest_bytes a (pos n) (take m (w.dials e).side.kept)) it.at)))
          (calm_keeps w l (dest_bytes_by_state a (pos n) (take m (w.dials e).side.kept) x.state) ups downs (changed (hands m)) keys (hand_calm m (take m (w.dials e).side.kept) x.state refl)))

  pub ends_keep : Keys (after (DestinationEnds e) w)
  ends_keep = here (ends_lift w e keys it)
    where
      by_state : (st : DestState) → Calm w l (dest_end_by_state a (pos n) x st) ups downs still
      by_state Open = end_calm [] still (λ d h. refl) (λ d c h k. refl)
      by_state Lingering = still_calm

      here : Lifts w (after (DestinationEnds e) w) → Keys (after (DestinationEnds e) w)
      here = rw it.cid (subst (λ s. Lifts w (agent_stepped l s w) → Keys (agent_stepped l s w)) (sym (at_it (at_agent.DestEnd (pos n)) (dest_end_by_state a (pos n) x x.state) (ap (dest_ended a (pos n)) it.at)))
          (calm_keeps w l (dest_end_by_state a (pos n) x x.state) ups downs still keys (by_state x.state)))

  pub fails_keep : Keys (after (DestinationFails e) w)
  fails_keep = here (fails_lift w e keys it)
    where
      here : Lifts w (after (DestinationFails e) w) → Keys (after (DestinationFails e) w)
      here = rw it.cid (subst (λ s. Lifts w (agent_stepped l s w) → Keys (agent_stepped l s w)) (sym (at_it (at_agent.DestFailed (pos n)) (connection_ended a (pos n) x (codes "destination failed")) (ap (dest_failed a (pos n)) it.at)))
          (calm_keeps w l (connection_ended a (pos n) x (codes "destination failed")) ups downs still keys (end_calm (codes "destination failed") still (λ d h. refl) (λ d c h k. refl))))

  pub wrote_keep : (m : ℕ) → m ≤ length (w.dials e).side.unwritten → Keys (after (DestinationWrote e m) w)
  wrote_keep m few = here (wrote_lift w e keys it m few)
    where
      by_count : (b : Bool) → Calm w l (cond b (connection_ended a (pos n) x []) (connection_turned a x (with_fewer m) [])) ups downs (changed (gets m))
      by_count true = end_calm [] (changed (gets m)) (other_link (gets m)) (other_cid (gets m))
      by_count false = fewer_calm m

      by_state : (st : DestState) → Calm w l (dest_wrote_by_state a (pos n) m x st) ups downs (changed (gets m))
      by_state Open = fewer_calm m
      by_state Lingering = by_count (x.unwritten == m)

      here : Lifts w (after (DestinationWrote e m) w) → Keys (after (DestinationWrote e m) w)
      here = rw it.cid (subst (λ s. Lifts w (agent_stepped l s (dest_is e (gets m) w)) → Keys (agent_stepped l s (dest_is e (gets m) w)))
          (sym (at_it (at_agent.DestWrote (pos n) m) (dest_wrote_by_state a (pos n) m x x.state) (ap (dest_wrote a (pos n) m) it.at)))
          (calm_keeps w l (dest_wrote_by_state a (pos n) m x x.state) ups downs (changed (gets m)) keys (by_state x.state)))
