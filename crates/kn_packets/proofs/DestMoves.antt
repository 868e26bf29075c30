-- What a destination does: it sends, its bytes are handed over or written, it ends or fails.
use Rattle.std.proofs.Common.{◌≡◌, ◌≤◌, ◌==◌, ℕ, pos, Bool, true, false, not, cond, List, [], ◌∷◌, length, take, drop, zero, suc, Option, Some, None, is_some, inl, inr, refl, sym, ap, ◌∙◌, eqb-true, subst, arith}
use Rattle.std.specs.Prelude.{codes}
use Rattle.kn_packet.specs.declared.packet.Packet.TheVariants.{CloseRsp, Data}
use Rattle.kn_tables.specs.Lists.{IsRising, first_where}
use Rattle.kn_server_core.proofs.SoundLemmas.{passes}
use Rattle.kn_edge_core.specs.Agent as agent
use Rattle.kn_edge_core.specs.Agent.{connection_ended, connection_turned, dest_bytes, dest_bytes_by_state, dest_end_by_state, dest_ended, dest_failed, dest_wrote, dest_wrote_by_state, ignored, linger_wrote, told}
use Rattle.kn_edge_core.specs.AgentTables.{is_connection, with_fewer}
use Rattle.kn_edge_core.specs.Steps.{AgentStep}
use Rattle.kn_edge_core.specs.declared.agent_event.AgentEvent.{AgentEvent}
use Rattle.kn_edge_core.specs.declared.agent_event.AgentEvent.TheVariants as at_agent
use Rattle.kn_edge_core.specs.declared.agent_event.AgentOut.TheVariants as out
use Rattle.kn_edge_core.specs.declared.agent_state.AgentState.{AgentState}
use Rattle.kn_edge_core.specs.declared.connection.Connection.{Connection}
use Rattle.kn_edge_core.specs.declared.connection.DestState.{DestState}
use Rattle.kn_edge_core.specs.declared.connection.DestState.TheVariants.{Lingering, Open}
use Rattle.kn_edge_core.specs.declared.dial.Dial.{Dial}
use Rattle.kn_tunnel.specs.Events as event
use Rattle.kn_tunnel.specs.Facts.{Facts}
use Rattle.kn_tunnel.specs.Kinds.{has, is_gone, is_listed}
use Rattle.kn_tunnel.specs.Steps.{Follows}
use Rattle.kn_tunnel.specs.Tunnel.{Side, Tunnel}
use Rattle.kn_words.specs.Down.{has_request}
use Rattle.kn_words.specs.Numbers.{is_drawn_number}
use Rattle.kn_words.specs.Up.{up_item}
use Rattle.kn_packets.specs.Keys.{Keys}
use Rattle.kn_packets.specs.Lifts.{Lifts}
use Rattle.kn_packets.specs.Moves.{DestinationEnds, DestinationFails, DestinationHands, DestinationSends, DestinationWrote, after, agent_stepped, dest_far_in, dest_is, gets, hands, sends, side_if}
use Rattle.kn_packets.specs.World.{World, WorldLink, dial_far, far_of, has_random, tunnel_of}
use Rattle.kn_packets.proofs.AgentLists.{changed_own}
use Rattle.kn_packets.proofs.AgentParts.{Apart, apart_same, bytes_lift, ignored_apart, linked, of_agent, of_link, stepped, steps_lift}
use Rattle.kn_packets.proofs.AgentTakes.{changed_apart, ended_apart}
use Rattle.kn_packets.proofs.Fresh.{eqb_refl}
use Rattle.kn_packets.proofs.Owners.{is_key}
use Rattle.kn_packets.proofs.Queues.{up_closed, up_other, up_passed}
use Rattle.kn_packets.proofs.Tables.{gone_without}

-- ---- it sends
pub sends_lift : (w : World) (e : ℕ) (bytes : List ℕ) → is_some (w.dials e).cid ≡ true → Lifts w (after (DestinationSends e bytes) w)
sends_lift w e bytes drawn k came = by_dial (w.apps k).dial
  where
    by_own : (d : ℕ) (b : Bool) → (d == e) ≡ b → Follows (tunnel_of w (w.apps k) (Some d)) (tunnel_of (dest_is e (sends bytes) w) (w.apps k) (Some d))
    by_own d true same = inr (event.DestinationSends bytes, (ap (λ i. is_some (w.dials i).cid) (eqb-true d e same) ∙ drawn, tt), rw same refl)
    by_own d false same = inl (rw same refl)

    by_dial : (D : Option ℕ) → Follows (tunnel_of w (w.apps k) D) (tunnel_of (dest_is e (sends bytes) w) (w.apps k) D)
    by_dial None = inl refl
    by_dial (Some d) = by_own d (d == e) refl

-- ---- its own tunnel
pub all_gone : (m : ℕ) (xs : List ℕ) → m ≡ length xs → drop m xs ≡ []
all_gone zero [] e = refl
all_gone (suc m) [] e = refl
all_gone zero (x ∷ xs) e = absurd cc
all_gone (suc m) (x ∷ xs) e = all_gone m xs cc

pub some_left : (m : ℕ) (xs : List ℕ) → m ≤ length xs → (length xs ≡ m → ⊥) → has (drop m xs) ≡ true
some_left zero [] h e = absurd (e refl)
some_left (suc m) [] h e = absurd (omega (arith, h))
some_left zero (x ∷ xs) h e = refl
some_left (suc m) (x ∷ xs) h e = some_left m xs (omega (arith, h)) (λ f. e (ap suc f))

pub not_same : (a b : ℕ) → (a == b) ≡ false → a ≡ b → ⊥
not_same a b h e = let yes : (a == b) ≡ true = rw e (eqb_refl b) in cc

module _ (w : World) (k d n : ℕ) (side : Side) (a : AgentState) (link : WorldLink) (there : not a.lost ≡ true) (x : Connection) (at : first_where (is_connection n) a.connections ≡ Some x) (number : x.connect_id ≡ n) where
  abbrev old : Tunnel
  old = of_agent w k d (Some n) side a link

  abbrev new : Side → AgentStep → Tunnel
  new s r = stepped w k d (Some n) s r link link.down

  hand : (st : DestState) → x.state ≡ st → (m : ℕ) → Follows old (new (hands m side) (dest_bytes_by_state a (pos n) (take m side.kept) st))
  hand Open st m = inr (
    event.DestinationHands m,
    (rw (there, at, st) refl, tt),
    rw (at, st, up_passed (up_item d (Some n)) (not (is_gone link.server)) link.up (Data (pos n) [] (take m side.kept)) (take m side.kept) (rw (eqb_refl n) refl)) refl,
  )
  hand Lingering st m = inr (event.DestinationHands m, (rw (there, at, st) refl, tt), rw (at, st) refl)

  gone : IsRising (λ (y : Connection). y.connect_id) a.connections → first_where (is_connection n) (agent.connection_ended a (pos n) x []).state.connections ≡ None
  gone rise = rw number (gone_without (λ (y : Connection). y.connect_id) (is_connection n) n x a.connections rise at at)

  leave : IsRising (λ (y : Connection). y.connect_id) a.connections → (st : DestState) → x.state ≡ st → (error : List ℕ) → Follows old (new side (connection_ended a (pos n) x error))
  leave rise Open st error = inr (
    event.DestinationLeaves,
    (rw (there, at, st) refl, tt),
    rw (gone rise, up_closed (up_item d (Some n)) (not (is_gone link.server)) link.up (CloseRsp error (pos n)) (rw (eqb_refl n) refl)) refl,
  )
  leave rise Lingering st error = inr (
    event.DestinationLeaves,
    (rw (there, at, st) refl, tt),
    rw (gone rise, up_closed (up_item d (Some n)) (not (is_gone link.server)) link.up (CloseRsp error (pos n)) (rw (eqb_refl n) refl)) refl,
  )

  wrote_open : x.state ≡ Open → (m : ℕ) → Follows old (new (gets m side) (connection_turned a x (with_fewer m) []))
  wrote_open st m = inr (event.DestinationWrote m, (rw (there, at, st) refl, tt), rw (number, changed_own n (with_fewer m) (λ y. refl) a.connections x at, at, st) refl)

  wrote_all : IsRising (λ (y : Connection). y.connect_id) a.connections → x.state ≡ Lingering → (m : ℕ) → drop m side.unwritten ≡ [] → Follows old (new (gets m side) (connection_ended a (pos n) x []))
  wrote_all rise st m none = inr (
    event.DestinationWrote m,
    (rw (there, at, st) refl, tt),
    rw (gone rise, at, st, none, up_closed (up_item d (Some n)) (not (is_gone link.server)) link.up (CloseRsp [] (pos n)) (rw (eqb_refl n) refl)) refl,
  )

  wrote_some : x.state ≡ Lingering → (m : ℕ) → has (drop m side.unwritten) ≡ true → Follows old (new (gets m side) (connection_turned a x (with_fewer m) []))
  wrote_some st m some = inr (event.DestinationWrote m, (rw (there, at, st) refl, tt), rw (number, changed_own n (with_fewer m) (λ y. refl) a.connections x at, at, st, some) refl)

-- ---- a destination that is there has a connection
pub record Listed (w : World) (e : ℕ) : Type 0 where
  pub number : ℕ
  pub cid : (w.dials e).cid ≡ Some number
  pub connection : Connection
  pub at : first_where (is_connection number) (w.agents (w.dials e).link).connections ≡ Some connection

pub listed : (w : World) (e : ℕ) → is_listed (dest_far_in w e) ≡ true → Listed w e
listed w e h = here (w.dials e).cid refl h
  where
    undialled : (o : Option Dial) (b : Bool) → is_listed (dial_far o b) ≡ true → Listed w e
    undialled None true g = absurd cc
    undialled None false g = absurd cc
    undialled (Some y) b g = absurd cc

    joined : (n : ℕ) → (w.dials e).cid ≡ Some n → (o : Option Connection) → first_where (is_connection n) (w.agents (w.dials e).link).connections ≡ o → is_listed (far_of e (Some n) (w.agents (w.dials e).link) (w.links (w.dials e).link).down) ≡ true → Listed w e
    joined n ce (Some y) f g = record { number = n; cid = ce; connection = y; at = f }
    joined n ce None f g = let no_it : false ≡ true = rw f at g in absurd cc

    here : (cid : Option ℕ) → (w.dials e).cid ≡ cid → is_listed (far_of e cid (w.agents (w.dials e).link) (w.links (w.dials e).link).down) ≡ true → Listed w e
    here None ce g = undialled (first_where (has_random e) (w.agents (w.dials e).link).dials) (has_request e (w.links (w.dials e).link).down) g
    here (Some n) ce g = joined n ce (first_where (is_connection n) (w.agents (w.dials e).link).connections) refl g

-- ---- the moves
module _ (w : World) (e : ℕ) (keys : Keys w) (it : Listed w e) where
  abbrev l : ℕ
  l = (w.dials e).link

  abbrev n : ℕ
  n = it.number

  abbrev a : AgentState
  a = w.agents (w.dials e).link

  abbrev x : Connection
  x = it.connection

  pub there : not a.lost ≡ true
  there = here a.lost refl
    where
      none : (cs : List Connection) → cs ≡ [] → first_where (is_connection n) cs ≡ Some x → ⊥
      none cs h f = let no_it : first_where (is_connection n) cs ≡ None = rw h refl in cc

      here : (b : Bool) → a.lost ≡ b → not b ≡ true
      here false h = refl
      here true h = absurd (none a.connections (keys.agents.lost l h).1 it.at)

  pub number : x.connect_id ≡ n
  number = eqb-true x.connect_id n (passes (is_connection n) x a.connections it.at)

  -- another dial of this link has another connectID
  pub not_its : (d : ℕ) → (w.dials d).link ≡ l → (d == e) ≡ false → is_drawn_number (w.dials d).cid (pos n) ≡ false
  not_its d on differ = here (is_drawn_number (w.dials d).cid (pos n)) refl
    where
      here : (b : Bool) → is_drawn_number (w.dials d).cid (pos n) ≡ b → b ≡ false
      here false h = refl
      here true h =
          let named = is_key (w.dials d).cid (pos n) h in
          let same : d ≡ e = keys.agents.cid_once d e n on (named.1 ∙ ap Some (one named.0 named.2)) it.cid in
          let yes : (d == e) ≡ true = rw same (eqb_refl e) in
          absurd (cc (yes, differ))
        where
          one : (m : ℕ) → pos n ≡ pos m → m ≡ n
          one m g = cc

  facts_of : (k : ℕ) → (w.apps k).came ≡ true → (w.apps k).dial ≡ Some e → Facts (of_agent w k e (Some n) (w.dials e).side a (w.links l))
  facts_of k came de = rw it.cid at (of_link w l keys k e came de refl)

  -- it changes the bytes of its own, and is nothing to the others
  with_bytes : (s : AgentStep) (change : Side → Side) → ((d : ℕ) (cid : Option ℕ) → is_drawn_number cid (pos n) ≡ false → Apart d cid a s)
      → ((k : ℕ) → (w.apps k).came ≡ true → (w.apps k).dial ≡ Some e → Follows (of_agent w k e (Some n) (w.dials e).side a (w.links l)) (stepped w k e (Some n) (change (w.dials e).side) s (w.links l) (w.links l).down))
      → Lifts w (agent_stepped l s (dest_is e change w))
  with_bytes s change others own = bytes_lift w l s e change refl (λ k d came de on. here k d came de on (d == e) refl)
    where
      here : (k d : ℕ) → (w.apps k).came ≡ true → (w.apps k).dial ≡ Some d → (w.dials d).link ≡ l → (b : Bool) → (d == e) ≡ b
          → Follows (of_agent w k d (w.dials d).cid (w.dials d).side (w.agents l) (w.links l)) (stepped w k d (w.dials d).cid (side_if b change (w.dials d).side) s (w.links l) (w.links l).down)
      here k d came de on true same = let m : d ≡ e = eqb-true d e same in rw (m, it.cid) (own k came (de ∙ ap Some m))
      here k d came de on false differ = inl (apart_same w k d (w.dials d).side (w.agents l) (w.links l) (w.dials d).cid (of_link w l keys k d came de on) s (others d (w.dials d).cid (not_its d on differ)) (w.links l).down refl (λ e. refl))

  -- the same, with no bytes
  without_bytes : (s : AgentStep) → ((d : ℕ) (cid : Option ℕ) → is_drawn_number cid (pos n) ≡ false → Apart d cid a s)
      → ((k : ℕ) → (w.apps k).came ≡ true → (w.apps k).dial ≡ Some e → Follows (of_agent w k e (Some n) (w.dials e).side a (w.links l)) (stepped w k e (Some n) (w.dials e).side s (w.links l) (w.links l).down))
      → Lifts w (agent_stepped l s w)
  without_bytes s others own = steps_lift w l s (λ k d came de on. here k d came de on (d == e) refl)
    where
      here : (k d : ℕ) → (w.apps k).came ≡ true → (w.apps k).dial ≡ Some d → (w.dials d).link ≡ l → (b : Bool) → (d == e) ≡ b
          → Follows (of_agent w k d (w.dials d).cid (w.dials d).side (w.agents l) (w.links l)) (stepped w k d (w.dials d).cid (w.dials d).side s (w.links l) (w.links l).down)
      here k d came de on true same = let m : d ≡ e = eqb-true d e same in rw (m, it.cid) (own k came (de ∙ ap Some m))
      here k d came de on false differ = inl (apart_same w k d (w.dials d).side (w.agents l) (w.links l) (w.dials d).cid (of_link w l keys k d came de on) s (others d (w.dials d).cid (not_its d on differ)) (w.links l).down refl (λ e. refl))

  abbrev end : List ℕ → AgentStep
  end error = connection_ended a (pos n) x error

  -- its connection is found
  at_it : (s : AgentEvent) (r : AgentStep) → agent.linked_step a s ≡ r → agent.step a s ≡ r
  at_it s r h = linked a s there ∙ h

  data_apart : (d : ℕ) (cid : Option ℕ) (bytes : List ℕ) → is_drawn_number cid (pos n) ≡ false → Apart d cid a (told a (out.ToServer (Data (pos n) [] bytes) ∷ []))
  data_apart d cid bytes other = record {
    lost = refl;
    dial = λ e. refl;
    connection = λ m e. refl;
    writes = λ o. refl;
    draws = refl;
    word = λ b ps. up_other (up_item d cid) b ps (Data (pos n) [] bytes) (rw other refl);
  }

  pub hands_lift : (m : ℕ) → Lifts w (after (DestinationHands e m) w)
  hands_lift m = rw it.cid (subst (λ s. Lifts w (agent_stepped l s (dest_is e (hands m) w))) (sym (at_it (at_agent.DestBytes (pos n) (take m (w.dials e).side.kept)) (dest_bytes_by_state a (pos n) (take m (w.dials e).side.kept) x.state) (ap (dest_bytes a (pos n) (take m (w.dials e).side.kept)) it.at))) (here x.state refl))
    where
      here : (st : DestState) → x.state ≡ st → Lifts w (agent_stepped l (dest_bytes_by_state a (pos n) (take m (w.dials e).side.kept) st) (dest_is e (hands m) w))
      here Open st = with_bytes (told a (out.ToServer (Data (pos n) [] (take m (w.dials e).side.kept)) ∷ [])) (hands m) (λ d cid other. data_apart d cid (take m (w.dials e).side.kept) other)
          (λ k came de. hand w k e n (w.dials e).side a (w.links l) there x it.at number Open st m)
      here Lingering st = with_bytes (ignored a) (hands m) (λ d cid other. ignored_apart d cid a) (λ k came de. hand w k e n (w.dials e).side a (w.links l) there x it.at number Lingering st m)

  pub ends_lift : Lifts w (after (DestinationEnds e) w)
  ends_lift = rw it.cid (subst (λ s. Lifts w (agent_stepped l s w)) (sym (at_it (at_agent.DestEnd (pos n)) (dest_end_by_state a (pos n) x x.state) (ap (dest_ended a (pos n)) it.at))) (here x.state refl))
    where
      here : (st : DestState) → x.state ≡ st → Lifts w (agent_stepped l (dest_end_by_state a (pos n) x st) w)
      here Open st = without_bytes (end []) (λ d cid other. ended_apart d cid a (pos n) x [] it.at other) (λ k came de. leave w k e n (w.dials e).side a (w.links l) there x it.at number (keys.agents.connections_rise l) Open st [])
      here Lingering st = without_bytes (ignored a) (λ d cid other. ignored_apart d cid a)
          (λ k came de. inl (apart_same w k e (w.dials e).side a (w.links l) (Some n) (facts_of k came de) (ignored a) (ignored_apart e (Some n) a) (w.links l).down refl (λ e. refl)))

  pub fails_lift : Lifts w (after (DestinationFails e) w)
  fails_lift = rw it.cid (subst (λ s. Lifts w (agent_stepped l s w)) (sym (at_it (at_agent.DestFailed (pos n)) (end (codes "destination failed")) (ap (dest_failed a (pos n)) it.at)))
      (without_bytes (end (codes "destination failed")) (λ d cid other. ended_apart d cid a (pos n) x (codes "destination failed") it.at other)
      (λ k came de. leave w k e n (w.dials e).side a (w.links l) there x it.at number (keys.agents.connections_rise l) x.state refl (codes "destination failed"))))

  pub wrote_lift : (m : ℕ) → m ≤ length (w.dials e).side.unwritten → Lifts w (after (DestinationWrote e m) w)
  wrote_lift m few = rw it.cid (subst (λ s. Lifts w (agent_stepped l s (dest_is e (gets m) w))) (sym (at_it (at_agent.DestWrote (pos n) m) (dest_wrote_by_state a (pos n) m x x.state) (ap (dest_wrote a (pos n) m) it.at))) (here x.state refl))
    where
      count : x.unwritten ≡ length (w.dials e).side.unwritten
      count = keys.agents.unwritten e n x it.cid it.at

      by_count : (b : Bool) → (x.unwritten == m) ≡ b → x.state ≡ Lingering → Lifts w (agent_stepped l (cond b (end []) (connection_turned a x (with_fewer m) [])) (dest_is e (gets m) w))
      by_count true z st = with_bytes (end []) (gets m) (λ d cid other. ended_apart d cid a (pos n) x [] it.at other)
          (λ k came de. wrote_all w k e n (w.dials e).side a (w.links l) there x it.at number (keys.agents.connections_rise l) st m (all_gone m (w.dials e).side.unwritten (sym (eqb-true x.unwritten m z) ∙ count)))
      by_count false z st = with_bytes (connection_turned a x (with_fewer m) []) (gets m) (λ d cid other. changed_apart d cid a (pos n) x (with_fewer m) (λ y. refl) it.at other)
          (λ k came de. wrote_some w k e n (w.dials e).side a (w.links l) there x it.at number st m (some_left m (w.dials e).side.unwritten few (λ f. not_same x.unwritten m z (count ∙ f))))

      here : (st : DestState) → x.state ≡ st → Lifts w (agent_stepped l (dest_wrote_by_state a (pos n) m x st) (dest_is e (gets m) w))
      here Open st = with_bytes (connection_turned a x (with_fewer m) []) (gets m) (λ d cid other. changed_apart d cid a (pos n) x (with_fewer m) (λ y. refl) it.at other)
          (λ k came de. wrote_open w k e n (w.dials e).side a (w.links l) there x it.at number st m)
      here Lingering st = by_count (x.unwritten == m) refl st
