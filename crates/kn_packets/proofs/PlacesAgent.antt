-- What an agent sends speaks of its connections, its dials, or the packet that it takes.
use Rattle.std.proofs.Common.{◌≡◌, ◌<◌, ◌≤◌, ◌==◌, ◌+◌, ◌⊎◌, ℕ, zero, suc, ℤ, pos, Bool, true, false, not, cond, List, [], ◌∷◌, Option, Some, None, inl, inr, refl, sym, ap, ◌∙◌, eqb-true, subst, arith}
use Rattle.std.specs.Prelude.{codes, nat_lt}
use Rattle.kn_packet.specs.declared.packet.Packet.{Packet}
use Rattle.kn_packet.specs.declared.packet.Packet.TheVariants.{CloseReq, CloseRsp, Data, DialCls, DialReq, DialRsp, Drain, Other}
use Rattle.kn_tables.specs.Lists.{first_where}
use Rattle.kn_server_core.specs.Isolation.{Each}
use Rattle.kn_edge_core.specs.Agent as agent
use Rattle.kn_edge_core.specs.Agent.{bytes_by_state, close_by_state, close_requested, connection_ended, connection_opened, connection_turned, data_came, dest_bytes, dest_bytes_by_state, dest_end_by_state, dest_ended, dest_failed, dest_wrote, dest_wrote_by_state, dial_begun, dial_refused, dial_requested, dial_up, drain_now, ids_used_up, ignored, is_tcp, link_lost, linked_step, may_dial, packet_came, refusal, tcp_asked, told}
use Rattle.kn_edge_core.specs.AgentTables.{connection_at, is_dial, turned, with_fewer}
use Rattle.kn_edge_core.specs.Steps.{AgentStep}
use Rattle.kn_edge_core.specs.declared.agent_event.AgentEvent.{AgentEvent}
use Rattle.kn_edge_core.specs.declared.agent_event.AgentEvent.TheVariants as at_agent
use Rattle.kn_edge_core.specs.declared.agent_event.AgentOut.TheVariants.{ToServer}
use Rattle.kn_edge_core.specs.declared.agent_state.AgentState.{AgentState}
use Rattle.kn_edge_core.specs.declared.connection.Connection.{Connection}
use Rattle.kn_edge_core.specs.declared.connection.DestState.{DestState}
use Rattle.kn_edge_core.specs.declared.connection.DestState.TheVariants.{Lingering, Open}
use Rattle.kn_edge_core.specs.declared.dial.Dial.{Dial}
use Rattle.kn_tunnel.specs.Kinds.{is_gone}
use Rattle.kn_tunnel.specs.Tunnel.{Side}
use Rattle.kn_packets.specs.Keys.{Keys, MakesDial, RequestFits}
use Rattle.kn_packets.specs.Moves.{AgentTakes, DialWon, May, after, agent_stepped, takes_down}
use Rattle.kn_packets.specs.Outputs.{cid_drawn, from_agent, queued}
use Rattle.kn_packets.specs.Owned.{HasDial}
use Rattle.kn_packets.specs.Places.{Places, SpeaksOfLink, WasDrawn, WentTo}
use Rattle.kn_packets.specs.World.{World}
use Rattle.kn_packets.proofs.AgentDials.{each_found, found}
use Rattle.kn_packets.proofs.AgentKept.{based, each_queued}
use Rattle.kn_packets.proofs.AgentLosses.{tells_none}
use Rattle.kn_packets.proofs.AgentOpenKeep.{drawn_i, drawn_is, drawn_kept, it}
use Rattle.kn_packets.proofs.AgentParts.{linked}
use Rattle.kn_packets.proofs.AgentPlain.{IsPlain, Plain, step_plain, used_plain, ignored_plain}
use Rattle.kn_packets.proofs.Fresh.{eqb_refl}
use Rattle.kn_packets.proofs.PlaceParts.{Grows, each_at, links_more, streams_more}

module _ (w : World) (l : ℕ) (keys : Keys w) where
  abbrev Speaks : AgentStep → Type 0
  Speaks s = Each (SpeaksOfLink w l) (from_agent s.outs)

  abbrev a : AgentState
  a = w.agents l

  speaks_if : (b : Bool) (s t : AgentStep) → Speaks s → Speaks t → Speaks (cond b s t)
  speaks_if true s t h k = h
  speaks_if false s t h k = k

  went : (random : ℤ) → MakesDial w l random → WentTo w l random
  went random m = (m.dial, m.asked, m.on, m.app)

  asks : (protocol address : List ℕ) (random : ℤ) → MakesDial w l random → Speaks (dial_requested a protocol address random)
  asks protocol address random m = speaks_if (is_tcp protocol) (tcp_asked a address random) (told a (refusal (codes "unsupported protocol") random ∷ []))
      (speaks_if (may_dial a) (dial_begun a address random) (told a (refusal (codes "too many connections") random ∷ [])) tt ((refl, went random m), tt))
      ((refl, went random m), tt)

  data_at : (z : ℤ) (bytes : List ℕ) (o : Option Connection) → Speaks (data_came a z bytes o)
  data_at z bytes None = tt
  data_at z bytes (Some x) = by_state x.state
    where
      by_state : (s : DestState) → Speaks (bytes_by_state a z bytes x s)
      by_state Open = tt
      by_state Lingering = tt

  close_at : (z : ℤ) → WasDrawn w l z → (o : Option Connection) → Speaks (close_requested a z o)
  close_at z was None = (was, tt)
  close_at z was (Some x) = by_state x.state
    where
      by_state : (s : DestState) → Speaks (close_by_state a z x s)
      by_state Open = speaks_if (x.unwritten == 0) (connection_ended a z x []) (connection_turned a x (turned Lingering) []) (was, tt) tt
      by_state Lingering = tt

  packet_speaks : (p : Packet) → SpeaksOfLink w l p → RequestFits w l p → Speaks (packet_came a p)
  packet_speaks (DialReq protocol address random) h m = asks protocol address random m
  packet_speaks (Data z error bytes) h m = data_at z bytes (connection_at z a.connections)
  packet_speaks (CloseReq z) h m = close_at z h (connection_at z a.connections)
  packet_speaks (DialRsp error z random) h m = tt
  packet_speaks (CloseRsp error z) h m = tt
  packet_speaks (DialCls random) h m = tt
  packet_speaks Drain h m = tt
  packet_speaks (Other number) h m = tt

  -- ---- a destination
  module _ (z : ℤ) (was : WasDrawn w l z) where
    bytes_at : (bytes : List ℕ) (o : Option Connection) → Speaks (dest_bytes a z bytes o)
    bytes_at bytes None = tt
    bytes_at bytes (Some x) = by_state x.state
      where
        by_state : (s : DestState) → Speaks (dest_bytes_by_state a z bytes s)
        by_state Open = (was, tt)
        by_state Lingering = tt

    end_at : (o : Option Connection) → Speaks (dest_ended a z o)
    end_at None = tt
    end_at (Some x) = by_state x.state
      where
        by_state : (s : DestState) → Speaks (dest_end_by_state a z x s)
        by_state Open = (was, tt)
        by_state Lingering = tt

    wrote_at : (count : ℕ) (o : Option Connection) → Speaks (dest_wrote a z count o)
    wrote_at count None = tt
    wrote_at count (Some x) = by_state x.state
      where
        by_state : (s : DestState) → Speaks (dest_wrote_by_state a z count x s)
        by_state Open = tt
        by_state Lingering = speaks_if (x.unwritten == count) (connection_ended a z x []) (connection_turned a x (with_fewer count) []) (was, tt) tt

    fail_at : (o : Option Connection) → Speaks (dest_failed a z o)
    fail_at None = tt
    fail_at (Some x) = (was, tt)

  -- ---- a dial that fails
  its_dial : (ticket : ℕ) (x : Dial) → first_where (is_dial ticket) a.dials ≡ Some x → WentTo w l x.random
  its_dial ticket x at = went x.random (each_found (λ (y : Dial). MakesDial w l y.random) (is_dial ticket) a.dials x (keys.agents.dials l) at)

  refused_at : (ticket : ℕ) (o : Option Dial) → first_where (is_dial ticket) a.dials ≡ o → Speaks (dial_refused a o)
  refused_at ticket None at = tt
  refused_at ticket (Some x) at = ((refl, its_dial ticket x at), tt)

  pub used_speaks : (ticket : ℕ) (x : Dial) → first_where (is_dial ticket) a.dials ≡ Some x → Speaks (ids_used_up a x)
  used_speaks ticket x at = ((refl, its_dial ticket x at), tt)

  -- ---- the events, all but that a dial won its connection
  abbrev pub Knows : AgentEvent → Type 0
  Knows (at_agent.DialUp ticket) = ⊥
  Knows (at_agent.Packet p) = SpeaksOfLink w l p × RequestFits w l p
  Knows (at_agent.DialRefused ticket) = Unit {0}
  Knows (at_agent.DestBytes z bytes) = WasDrawn w l z
  Knows (at_agent.DestEnd z) = WasDrawn w l z
  Knows (at_agent.DestWrote z count) = WasDrawn w l z
  Knows (at_agent.DestFailed z) = WasDrawn w l z
  Knows at_agent.LinkLost = Unit {0}
  Knows at_agent.DrainNow = Unit {0}

  linked_speaks : (e : AgentEvent) → Knows e → Speaks (linked_step a e)
  linked_speaks (at_agent.DialUp ticket) h = absurd h
  linked_speaks (at_agent.Packet p) h = packet_speaks p h.0 h.1
  linked_speaks (at_agent.DialRefused ticket) h = refused_at ticket (first_where (is_dial ticket) a.dials) refl
  linked_speaks (at_agent.DestBytes z bytes) h = bytes_at z h bytes (connection_at z a.connections)
  linked_speaks (at_agent.DestEnd z) h = end_at z h (connection_at z a.connections)
  linked_speaks (at_agent.DestWrote z count) h = wrote_at z h count (connection_at z a.connections)
  linked_speaks (at_agent.DestFailed z) h = fail_at z h (connection_at z a.connections)
  linked_speaks at_agent.LinkLost h = rw (tells_none a.dials a.connections) tt
  linked_speaks at_agent.DrainNow h = speaks_if a.drained (ignored a) (record { state = record a { drained = true }; outs = ToServer Drain ∷ [] }) tt (tt, tt)

  pub step_speaks : (e : AgentEvent) → Knows e → Speaks (agent.step a e)
  step_speaks e h = speaks_if a.lost (ignored a) (linked_step a e) tt (linked_speaks e h)

-- ---- the world after a step that draws no connectID
pub record LeavesLists (w : World) (U D : ℕ → List Packet) : Type 1 where
  pub ups : (i : ℕ) (P : Packet → Type 0) → Each P (w.links i).up → Each P (U i)
  pub downs : (i : ℕ) (P : Packet → Type 0) → Each P (w.links i).down → Each P (D i)

pub same_lists : (w : World) → LeavesLists w (λ i. (w.links i).up) (λ i. (w.links i).down)
same_lists w = record { ups = λ i P h. h; downs = λ i P h. h }

module _ (w : World) (l : ℕ) (s : AgentStep) (U D : ℕ → List Packet) (S : ℕ → Side) (places : Places w) (lists : LeavesLists w U D) (plain : Plain (w.agents l) s) (speaks : Each (SpeaksOfLink w l) (from_agent s.outs)) where
  abbrev next : World
  next = agent_stepped l s (based w U D S)

  cid_same : (d : ℕ) → (next.dials d).cid ≡ (w.dials d).cid
  cid_same d = here ((w.dials d).link == l)
    where
      here : (b : Bool) → cond b (cid_drawn d (from_agent s.outs) (w.dials d).cid) (w.dials d).cid ≡ (w.dials d).cid
      here true = plain.silent d (w.dials d).cid
      here false = refl

  number_same : (i : ℕ) → (next.agents i).next_connect_id ≡ (w.agents i).next_connect_id
  number_same i = here (i == l) refl
    where
      here : (b : Bool) → (i == l) ≡ b → (cond b s.state (w.agents i)).next_connect_id ≡ (w.agents i).next_connect_id
      here true on = plain.number ∙ ap (λ j. (w.agents j).next_connect_id) (sym (eqb-true i l on))
      here false off = refl

  grows : Grows w next
  grows = record { drawn = λ i cid h. (h.0, h.1, cid_same h.0 ∙ h.2); links = λ d app. refl; apps = λ k d came h. (came, h) }

  ups : (i : ℕ) → Each (SpeaksOfLink next i) (next.links i).up
  ups i = here (i == l) refl
    where
      old : Each (SpeaksOfLink next i) (U i)
      old = links_more w next grows i (U i) (lists.ups i (SpeaksOfLink w i) (places.ups i))

      here : (b : Bool) → (i == l) ≡ b → Each (SpeaksOfLink next i) (cond b (queued (not (is_gone (w.links i).server)) (U i) (from_agent s.outs)) (U i))
      here true on = each_queued (SpeaksOfLink next i) (not (is_gone (w.links i).server)) (U i) (from_agent s.outs) old
          (links_more w next grows i (from_agent s.outs) (subst (λ j. Each (SpeaksOfLink w j) (from_agent s.outs)) (sym (eqb-true i l on)) speaks))
      here false off = old

  pub plain_places : Places next
  plain_places = record {
    ups = ups;
    downs = λ i. links_more w next grows i (D i) (lists.downs i (SpeaksOfLink w i) (places.downs i));
    ins = λ f client. streams_more w next grows f f (λ k came on. on) (w.streams f).up (places.ins f client);
    outs = λ f client. streams_more w next grows f f (λ k came on. on) (w.streams f).down (places.outs f client);
    from_one = λ i. subst (λ n. 0 < n) (sym (number_same i)) (places.from_one i);
    drawn = λ i cid h. subst (λ n. (0 < cid) × (cid < n)) (sym (number_same i)) (places.drawn i cid (h.0, h.1, sym (cid_same h.0) ∙ h.2));
    all_drawn = λ i cid one less. grows.drawn i cid (places.all_drawn i cid one (subst (λ n. cid < n) (number_same i) less));
  }

below_or_same : (m n : ℕ) → m < n + 1 → (m < n) ⊎ (m ≡ n)
below_or_same zero zero h = inr refl
below_or_same zero (suc n) h = inl (omega arith)
below_or_same (suc m) zero h = absurd (omega (arith, h))
below_or_same (suc m) (suc n) h = here (below_or_same m n (omega (arith, h)))
  where
    here : (m < n) ⊎ (m ≡ n) → (suc m < suc n) ⊎ (suc m ≡ suc n)
    here (inl less) = inl (omega (arith, less))
    here (inr same) = inr (ap suc same)

-- ---- after one that draws a connectID
module _ (w : World) (l : ℕ) (keys : Keys w) (places : Places w) (there : not (w.agents l).lost ≡ true) (x : Dial) (at : first_where (is_dial x.ticket) (w.agents l).dials ≡ Some x) where
  abbrev opened : World
  opened = agent_stepped l (connection_opened (w.agents l) x) w

  abbrev c0 : ℕ
  c0 = (w.agents l).next_connect_id

  new_one : HasDial opened l c0
  new_one = let its = it w l keys there x at in (its.0.dial, its.0.on, drawn_i w l keys there x at)

  more : Grows w opened
  more = record { drawn = λ i cid h. (h.0, h.1, drawn_kept w l keys there x at h.0 cid h.2); links = λ d app. refl; apps = λ k d came h. (came, h) }

  opened_ups : (i : ℕ) → Each (SpeaksOfLink opened i) (opened.links i).up
  opened_ups i = here (i == l) refl
    where
      old : Each (SpeaksOfLink opened i) (w.links i).up
      old = links_more w opened more i (w.links i).up (places.ups i)

      here : (b : Bool) → (i == l) ≡ b → Each (SpeaksOfLink opened i) (cond b (queued (not (is_gone (w.links i).server)) (w.links i).up (DialRsp [] (pos c0) x.random ∷ [])) (w.links i).up)
      here true on = each_queued (SpeaksOfLink opened i) (not (is_gone (w.links i).server)) (w.links i).up (DialRsp [] (pos c0) x.random ∷ []) old
          ((c0, refl, subst (λ j. HasDial opened j c0) (sym (eqb-true i l on)) new_one), tt)
      here false off = old

  of_state : (Q : AgentState → Type 0) (i : ℕ) → Q (w.agents i) → (i ≡ l → Q (connection_opened (w.agents l) x).state) → Q (opened.agents i)
  of_state Q i old new = here (i == l) refl
    where
      here : (b : Bool) → (i == l) ≡ b → Q (cond b (connection_opened (w.agents l) x).state (w.agents i))
      here true on = new (eqb-true i l on)
      here false off = old

  number_new : (i : ℕ) → i ≡ l → (opened.agents i).next_connect_id ≡ c0 + 1
  number_new i on = rw (on, eqb_refl l) refl

  number_old : (i : ℕ) → (i == l) ≡ false → (opened.agents i).next_connect_id ≡ (w.agents i).next_connect_id
  number_old i off = rw off refl

  rises : (i : ℕ) → (w.agents i).next_connect_id ≤ (opened.agents i).next_connect_id
  rises i = of_state (λ z. (w.agents i).next_connect_id ≤ z.next_connect_id) i (omega arith) (λ on. subst (λ j. (w.agents j).next_connect_id ≤ c0 + 1) (sym on) (omega arith))

  opened_drawn : (i cid : ℕ) → HasDial opened i cid → (0 < cid) × (cid < (opened.agents i).next_connect_id)
  opened_drawn i cid h = here (drawn_is w l keys there x at h.0 cid h.2)
    where
      here : ((w.dials h.0).cid ≡ Some cid) ⊎ ((h.0 ≡ (it w l keys there x at).0.dial) × (cid ≡ c0)) → (0 < cid) × (cid < (opened.agents i).next_connect_id)
      here (inl old) =
          let was = places.drawn i cid (h.0, h.1, old) in let first = was.0 in let second = was.1 in let third = rises i in
          (first, omega (arith, second, third))
      here (inr new) =
          let on : i ≡ l = sym h.1 ∙ ap (λ d. (w.dials d).link) new.0 ∙ (it w l keys there x at).0.on in
          let first : 0 < c0 = places.from_one l in let second : cid ≡ c0 = new.1 in let third = number_new i on in
          (omega (arith, first, second), omega (arith, second, third))

  opened_all : (i cid : ℕ) → 0 < cid → cid < (opened.agents i).next_connect_id → HasDial opened i cid
  opened_all i cid one less = here (i == l) refl
    where
      at_link : i ≡ l → (cid < c0) ⊎ (cid ≡ c0) → HasDial opened i cid
      at_link on (inl old) = more.drawn i cid (places.all_drawn i cid one (subst (λ j. cid < (w.agents j).next_connect_id) (sym on) old))
      at_link on (inr new) = subst (λ j. HasDial opened j cid) (sym on) (subst (λ n. HasDial opened l n) (sym new) new_one)

      here : (b : Bool) → (i == l) ≡ b → HasDial opened i cid
      here true is = let on = eqb-true i l is in let number = number_new i on in at_link on (below_or_same cid c0 (omega (arith, less, number)))
      here false off = more.drawn i cid (places.all_drawn i cid one (subst (λ n. cid < n) (number_old i off) less))

  pub opened_places : Places opened
  opened_places = record {
    ups = opened_ups;
    downs = λ i. links_more w opened more i (w.links i).down (places.downs i);
    ins = λ f client. streams_more w opened more f f (λ k came on. on) (w.streams f).up (places.ins f client);
    outs = λ f client. streams_more w opened more f f (λ k came on. on) (w.streams f).down (places.outs f client);
    from_one = λ i. let first = places.from_one i in let second = rises i in omega (arith, first, second);
    drawn = opened_drawn;
    all_drawn = opened_all;
  }

-- ---- the moves
pub won_places : (w : World) (l ticket : ℕ) → Keys w → May (DialWon l ticket) w → Places w → Places (after (DialWon l ticket) w)
won_places w l ticket keys there places = subst (λ s. Places (agent_stepped l s w)) (sym (linked (w.agents l) (at_agent.DialUp ticket) there)) (by_dial (first_where (is_dial ticket) (w.agents l).dials) refl)
  where
    plainly : (s : AgentStep) → Plain (w.agents l) s → Each (SpeaksOfLink w l) (from_agent s.outs) → Places (agent_stepped l s w)
    plainly s plain speaks = plain_places w l s (λ i. (w.links i).up) (λ i. (w.links i).down) (λ d. (w.dials d).side) places (same_lists w) plain speaks

    by_dial : (o : Option Dial) → first_where (is_dial ticket) (w.agents l).dials ≡ o → Places (agent_stepped l (dial_up (w.agents l) o) w)
    by_dial None at = plainly (ignored (w.agents l)) (ignored_plain (w.agents l)) tt
    by_dial (Some x) at = here (nat_lt (w.agents l).next_connect_id 9223372036854775807)
      where
        here : (b : Bool) → Places (agent_stepped l (cond b (connection_opened (w.agents l) x) (ids_used_up (w.agents l) x)) w)
        here true = opened_places w l keys places there x (found w l keys there ticket x at)
        here false = plainly (ids_used_up (w.agents l) x) (used_plain (w.agents l) x) (used_speaks w l keys ticket x at)

-- an event that draws no connectID, where the link's lists and the destinations' bytes have changed
pub event_places : (w : World) (l : ℕ) (e : AgentEvent) (U D : ℕ → List Packet) (S : ℕ → Side) (keys : Keys w) → Places w → LeavesLists w U D → IsPlain (w.agents l) e → Knows w l keys e → Places (agent_stepped l (agent.step (w.agents l) e) (based w U D S))
event_places w l e U D S keys places lists plain knows = plain_places w l (agent.step (w.agents l) e) U D S places lists (step_plain (w.agents l) e plain) (step_speaks w l keys e knows)

pub down_places : (w : World) (l : ℕ) → Keys w → Places w → Places (after (AgentTakes l) w)
down_places w l keys places = by_first (w.links l).down refl
  where
    by_first : (ps : List Packet) → (w.links l).down ≡ ps → Places (takes_down l ps w)
    by_first [] first = places
    by_first (p ∷ rest) first = event_places w l (at_agent.Packet p) (λ i. (w.links i).up) (λ i. cond (i == l) rest (w.links i).down) (λ d. (w.dials d).side) keys places lists tt (said.0, fits.0)
      where
        said : Each (SpeaksOfLink w l) (p ∷ rest)
        said = subst (λ ps. Each (SpeaksOfLink w l) ps) first (places.downs l)

        fits : Each (RequestFits w l) (p ∷ rest)
        fits = subst (λ ps. Each (RequestFits w l) ps) first (keys.agents.requests l)

        lists : LeavesLists w (λ i. (w.links i).up) (λ i. cond (i == l) rest (w.links i).down)
        lists = record { ups = λ i P h. h; downs = λ i P h. each_at P i l (λ j. (w.links j).down) rest (λ all. (subst (λ ps. Each P ps) first all).1) h }
