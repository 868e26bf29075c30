-- What an agent takes of the server keeps the facts on keys.
use Rattle.std.proofs.Common.{◌≡◌, ◌≤◌, ◌==◌, ◌+◌, ℕ, ℤ, pos, Bool, true, false, not, cond, List, [], ◌∷◌, length, Option, Some, None, suc, refl, sym, ap, ◌∙◌, eqb-true, subst, arith, length-append}
use Rattle.std.specs.Prelude.{codes, nat_lt}
use Rattle.kn_packet.specs.declared.packet.Packet.{Packet}
use Rattle.kn_packet.specs.declared.packet.Packet.TheVariants.{CloseReq, CloseRsp, Data, DialCls, DialReq, DialRsp, Drain, Other}
use Rattle.kn_tables.specs.Lists.{first_where, in_place}
use Rattle.kn_server_core.specs.Isolation.{Each}
use Rattle.kn_edge_core.specs.Agent.{bytes_by_state, close_by_state, close_requested, connection_ended, connection_turned, data_came, dial_begun, dial_requested, ignored, is_tcp, may_dial, packet_came, refusal, tcp_asked, told, unknown_close}
use Rattle.kn_edge_core.specs.AgentTables.{connection_at, turned, with_more}
use Rattle.kn_edge_core.specs.Steps.{AgentStep}
use Rattle.kn_edge_core.specs.declared.agent_event.AgentEvent.TheVariants as at_agent
use Rattle.kn_edge_core.specs.declared.agent_event.AgentOut.TheVariants as out
use Rattle.kn_edge_core.specs.declared.connection.Connection.{Connection}
use Rattle.kn_edge_core.specs.declared.connection.DestState.{DestState}
use Rattle.kn_edge_core.specs.declared.connection.DestState.TheVariants.{Lingering, Open}
use Rattle.kn_edge_core.specs.declared.dial.Dial.{Dial}
use Rattle.kn_tunnel.specs.Facts.{Facts}
use Rattle.kn_tunnel.specs.Kinds.{is_gone}
use Rattle.kn_tunnel.specs.Tunnel.{Asked, Side, Upward}
use Rattle.kn_tunnel.proofs.OrderChecks.{answer_order}
use Rattle.kn_words.specs.Down.{has_request}
use Rattle.kn_words.specs.Numbers.{is_drawn_number, is_number}
use Rattle.kn_words.specs.Up.{CloseUp, OtherUp, RefusalUp, up_follows, up_item, up_of}
use Rattle.kn_packets.specs.Keys.{CidOlder, IsBelow, Keys, LinkOlder, RequestFits, asked_at, made_at, one_more}
use Rattle.kn_packets.specs.Lifts.{Lifts}
use Rattle.kn_packets.specs.Moves.{AgentTakes, after, agent_stepped, down_is, takes_down}
use Rattle.kn_packets.specs.Outputs.{for_dest}
use Rattle.kn_packets.specs.World.{World, dial_far, has_random}
use Rattle.kn_packets.proofs.AgentCalm.{Dials, asked_fewer, calm_of, conns_changed, conns_same, conns_without, dials_same, made, order_old, order_one, taken}
use Rattle.kn_packets.proofs.AgentKept.{Calm, Made, calm_keeps}
use Rattle.kn_packets.proofs.AgentLists.{made_none, number_of}
use Rattle.kn_packets.proofs.AgentParts.{linked, of_agent, of_link}
use Rattle.kn_packets.proofs.AgentRequests.{takes_lifts}
use Rattle.kn_packets.proofs.AgentTakes.{stands}
use Rattle.kn_packets.proofs.Fresh.{eqb_refl}

each_placed : {E : Type 0} (P : E → Type 0) (number : E → ℕ) (e : E) (xs : List E) → P e → Each P xs → Each P (in_place number e xs)
each_placed P number e [] k h = (k, tt)
each_placed P number e (x ∷ xs) k h = here (nat_lt (number e) (number x)) (each_placed P number e xs k h.1)
  where
    here : (b : Bool) → Each P (in_place number e xs) → Each P (cond b (e ∷ x ∷ xs) (x ∷ in_place number e xs))
    here true later = (k, h)
    here false later = (h.0, later)

made_placed : (d : ℕ) (e : Dial) (xs : List Dial) → made_at d (in_place (λ (y : Dial). y.ticket) e xs) ≡ one_more (has_random d e) (made_at d xs)
made_placed d e [] = refl
made_placed d e (x ∷ xs) = here (nat_lt e.ticket x.ticket) (made_placed d e xs)
  where
    swap : (a b : Bool) (n : ℕ) → one_more a (one_more b n) ≡ one_more b (one_more a n)
    swap true true n = refl
    swap true false n = refl
    swap false true n = refl
    swap false false n = refl

    here : (b : Bool) → made_at d (in_place (λ (y : Dial). y.ticket) e xs) ≡ one_more (has_random d e) (made_at d xs)
        → made_at d (cond b (e ∷ x ∷ xs) (x ∷ in_place (λ (y : Dial). y.ticket) e xs)) ≡ one_more (has_random d e) (made_at d (x ∷ xs))
    here true later = refl
    here false later = ap (one_more (has_random d x)) later ∙ swap (has_random d x) (has_random d e) (made_at d xs)

-- a close may follow anything
pub close_free : (w : Upward) (b : Bool) → up_follows w (cond b CloseUp OtherUp) ≡ true
close_free w true = refl
close_free w false = refl

module _ (w : World) (l : ℕ) (keys : Keys w) (there : not (w.agents l).lost ≡ true) (rest : List Packet) where
  abbrev sides : ℕ → Side
  sides d = (w.dials d).side

  abbrev ups : ℕ → List Packet
  ups i = (w.links i).up

  abbrev downs : ℕ → List Packet
  downs i = cond (i == l) rest (w.links i).down

  ignored_calm : (p : Packet) → (w.links l).down ≡ p ∷ rest → Calm w l (ignored (w.agents l)) ups downs sides
  ignored_calm p first = calm_of w l keys there (ignored (w.agents l)) ups downs sides (taken w l p rest first) (λ d h. refl) (λ d on. refl) refl refl tt
      (conns_same w l keys (ignored (w.agents l)) sides refl (λ cid old. refl) (λ d. refl)) (dials_same w l keys (ignored (w.agents l)) downs refl (asked_fewer w l p rest first)) (order_old w l keys)

  -- ---- bytes
  module _ (c : ℤ) (error bytes : List ℕ) (first : (w.links l).down ≡ Data c error bytes ∷ rest) where
    written_calm : (x : Connection) → connection_at c (w.agents l).connections ≡ Some x → Calm w l (connection_turned (w.agents l) x (with_more (length bytes)) (out.Write c bytes ∷ [])) ups downs sides
    written_calm x at = calm_of w l keys there step ups downs sides (taken w l (Data c error bytes) rest first) (λ d h. refl) (λ d on. refl) refl refl tt
        (conns_changed w l keys step sides x.connect_id x (with_more (length bytes)) (λ y. refl) (stands c (w.agents l).connections x at) refl own others)
        (dials_same w l keys step downs refl (asked_fewer w l (Data c error bytes) rest first)) (order_old w l keys)
      where
        step : AgentStep
        step = connection_turned (w.agents l) x (with_more (length bytes)) (out.Write c bytes ∷ [])

        own : (d : ℕ) → (w.dials d).link ≡ l → (w.dials d).cid ≡ Some x.connect_id → x.unwritten ≡ length (w.dials d).side.unwritten → x.unwritten + length bytes ≡ length (for_dest (Some x.connect_id) (out.Write c bytes ∷ []) (w.dials d).side.unwritten)
        own d on cid count = rw (number_of c (w.agents l).connections x at, eqb_refl x.connect_id, length-append (w.dials d).side.unwritten bytes, count) refl

        others : (d m : ℕ) → (w.dials d).link ≡ l → (w.dials d).cid ≡ Some m → (x.connect_id == m) ≡ false → for_dest (Some m) (out.Write c bytes ∷ []) (w.dials d).side.unwritten ≡ (w.dials d).side.unwritten
        others d m on cid other = rw (number_of c (w.agents l).connections x at, other) refl

    bytes_calm : (o : Option Connection) → connection_at c (w.agents l).connections ≡ o → Calm w l (data_came (w.agents l) c bytes o) ups downs sides
    bytes_calm None at = ignored_calm (Data c error bytes) first
    bytes_calm (Some x) at = here x.state
      where
        here : (st : DestState) → Calm w l (bytes_by_state (w.agents l) c bytes x st) ups downs sides
        here Open = written_calm x at
        here Lingering = ignored_calm (Data c error bytes) first

  -- ---- a close
  module _ (c : ℤ) (first : (w.links l).down ≡ CloseReq c ∷ rest) where
    below : IsBelow (w.agents l).next_connect_id c
    below =
        let all : Each (CidOlder (w.agents l).next_connect_id) (CloseReq c ∷ rest) = subst (λ ps. Each (CidOlder (w.agents l).next_connect_id) ps) first (keys.agents.downs_older l) in
        all.0

    fewer : (d : ℕ) → asked_at d (cond (l == l) rest (w.links l).down) ≤ asked_at d (w.links l).down
    fewer = asked_fewer w l (CloseReq c) rest first

    unknown_calm : Calm w l (unknown_close (w.agents l) c) ups downs sides
    unknown_calm = calm_of w l keys there (unknown_close (w.agents l) c) ups downs sides (taken w l (CloseReq c) rest first) (λ d h. refl) (λ d on. refl) refl refl ((tt, tt, below), tt)
        (conns_same w l keys (unknown_close (w.agents l) c) sides refl (λ cid old. refl) (λ d. refl)) (dials_same w l keys (unknown_close (w.agents l) c) downs refl fewer)
        (order_one w l keys (CloseRsp (codes "unknown connection") c) (λ k d came de on up. close_free (up_of (up_item d (w.dials d).cid) (w.links l).up) (is_drawn_number (w.dials d).cid c)))

    ended_calm : (x : Connection) → connection_at c (w.agents l).connections ≡ Some x → Calm w l (connection_ended (w.agents l) c x []) ups downs sides
    ended_calm x at = calm_of w l keys there (connection_ended (w.agents l) c x []) ups downs sides (taken w l (CloseReq c) rest first) (λ d h. refl) (λ d on. refl) refl refl ((tt, tt, below), tt)
        (conns_without w l keys (connection_ended (w.agents l) c x []) sides x.connect_id x (stands c (w.agents l).connections x at) refl (λ cid old. refl) (λ d m on cid other. refl))
        (dials_same w l keys (connection_ended (w.agents l) c x []) downs refl fewer)
        (order_one w l keys (CloseRsp [] c) (λ k d came de on up. close_free (up_of (up_item d (w.dials d).cid) (w.links l).up) (is_drawn_number (w.dials d).cid c)))

    turned_calm : (x : Connection) → connection_at c (w.agents l).connections ≡ Some x → Calm w l (connection_turned (w.agents l) x (turned Lingering) []) ups downs sides
    turned_calm x at = calm_of w l keys there (connection_turned (w.agents l) x (turned Lingering) []) ups downs sides (taken w l (CloseReq c) rest first) (λ d h. refl) (λ d on. refl) refl refl tt
        (conns_changed w l keys (connection_turned (w.agents l) x (turned Lingering) []) sides x.connect_id x (turned Lingering) (λ y. refl) (stands c (w.agents l).connections x at) refl (λ d on cid count. count) (λ d m on cid other. refl))
        (dials_same w l keys (connection_turned (w.agents l) x (turned Lingering) []) downs refl fewer) (order_old w l keys)

    close_calm : (o : Option Connection) → connection_at c (w.agents l).connections ≡ o → Calm w l (close_requested (w.agents l) c o) ups downs sides
    close_calm None at = unknown_calm
    close_calm (Some x) at = here x.state
      where
        by_count : (b : Bool) → Calm w l (cond b (connection_ended (w.agents l) c x []) (connection_turned (w.agents l) x (turned Lingering) [])) ups downs sides
        by_count true = ended_calm x at
        by_count false = turned_calm x at

        here : (st : DestState) → Calm w l (close_by_state (w.agents l) c x st) ups downs sides
        here Open = by_count (x.unwritten == 0)
        here Lingering = ignored_calm (CloseReq c) first

  -- ---- a request
  module _ (protocol address : List ℕ) (random : ℤ) (first : (w.links l).down ≡ DialReq protocol address random ∷ rest) where
    asked : Each (RequestFits w l) (DialReq protocol address random ∷ rest)
    asked = subst (λ ps. Each (RequestFits w l) ps) first (keys.agents.requests l)

    older : Each (LinkOlder w.server.next_dial) (DialReq protocol address random ∷ rest)
    older = subst (λ ps. Each (LinkOlder w.server.next_dial) ps) first (keys.server.downs_older l)

    once : (d : ℕ) → (w.dials d).link ≡ l → one_more (is_number d random) (asked_at d rest) + made_at d (w.agents l).dials ≤ 1
    once d on = subst (λ ps. asked_at d ps + made_at d (w.agents l).dials ≤ 1) first (subst (λ j. asked_at d (w.links j).down + made_at d (w.agents j).dials ≤ 1) on (keys.agents.asked_once d))

    begun_calm : Calm w l (dial_begun (w.agents l) address random) ups downs sides
    begun_calm = calm_of w l keys there (dial_begun (w.agents l) address random) ups downs sides (taken w l (DialReq protocol address random) rest first) (λ d h. refl) (λ d on. refl) refl refl tt
        (conns_same w l keys (dial_begun (w.agents l) address random) sides refl (λ cid old. refl) (λ d. refl)) dials (order_old w l keys)
      where
        new : Dial
        new = record { ticket = (w.agents l).next_ticket; random = random }

        dials : Dials w l (dial_begun (w.agents l) address random) downs
        dials = record {
          dials = each_placed (Made w l) (λ (y : Dial). y.ticket) new (w.agents l).dials (asked.0, older.0) (made w l keys);
          once = λ d on. rw (eqb_refl l, made_placed d new (w.agents l).dials) (moved (is_number d random) (asked_at d rest) (made_at d (w.agents l).dials) (once d on));
        }
          where
            moved : (b : Bool) (m n : ℕ) → one_more b m + n ≤ 1 → m + one_more b n ≤ 1
            moved true m n h = omega (arith, h)
            moved false m n h = h

    refused_calm : (x : ℕ) (xs : List ℕ) → length (x ∷ xs) ≤ 256 → Calm w l (told (w.agents l) (refusal (x ∷ xs) random ∷ [])) ups downs sides
    refused_calm x xs short = calm_of w l keys there (told (w.agents l) (refusal (x ∷ xs) random ∷ [])) ups downs sides (taken w l (DialReq protocol address random) rest first) (λ d h. refl) (λ d on. refl) refl refl ((older.0, short, tt), tt)
        (conns_same w l keys (told (w.agents l) (refusal (x ∷ xs) random ∷ [])) sides refl (λ cid old. refl) (λ d. refl)) (dials_same w l keys (told (w.agents l) (refusal (x ∷ xs) random ∷ [])) downs refl (asked_fewer w l (DialReq protocol address random) rest first))
        (order_one w l keys (DialRsp (x ∷ xs) (pos 0) random) (λ k d came de on up. follows k d came de on up (is_number d random) refl))
      where
        follows : (k d : ℕ) → (w.apps k).came ≡ true → (w.apps k).dial ≡ Some d → (w.dials d).link ≡ l → not (is_gone (w.links l).server) ≡ true → (b : Bool) → is_number d random ≡ b
            → up_follows (up_of (up_item d (w.dials d).cid) (w.links l).up) (cond b RefusalUp OtherUp) ≡ true
        follows k d came de on up false other = refl
        follows k d came de on up true own =
            let none : (w.dials d).cid ≡ None = undrawn d own in
            let facts : Facts (of_agent w k d (w.dials d).cid (w.dials d).side (w.agents l) (w.links l)) = of_link w l keys k d came de on in
            rw none (of_none k (rw none at facts))
          where
            undrawn : (d : ℕ) → is_number d random ≡ true → (w.dials d).cid ≡ None
            undrawn d own =
                let same : asked.0.dial ≡ d = eqb-true asked.0.dial d (ap (is_number d) (sym asked.0.asked) ∙ own) in
                ap (λ i. (w.dials i).cid) (sym same) ∙ asked.0.undrawn

            was_asked : dial_far (first_where (has_random d) (w.agents l).dials) (has_request d (w.links l).down) ≡ Asked
            was_asked =
                let alone : suc (asked_at d rest) + made_at d (w.agents l).dials ≤ 1 = rw own at (once d on) in
                rw (made_none d (w.agents l).dials (omega (arith, alone)), first, own) refl

            of_none : (k : ℕ) → Facts (of_agent w k d None (w.dials d).side (w.agents l) (w.links l)) → up_follows (up_of (up_item d None) (w.links l).up) RefusalUp ≡ true
            of_none k facts = rw was_asked at (answer_order (of_agent w k d None (w.dials d).side (w.agents l) (w.links l)) facts.link)

    by_room : (b : Bool) → Calm w l (cond b (dial_begun (w.agents l) address random) (told (w.agents l) (refusal (codes "too many connections") random ∷ []))) ups downs sides
    by_room true = begun_calm
    by_room false = refused_calm _ _ (omega arith)

    by_protocol : (b : Bool) → Calm w l (cond b (tcp_asked (w.agents l) address random) (told (w.agents l) (refusal (codes "unsupported protocol") random ∷ []))) ups downs sides
    by_protocol true = by_room (may_dial (w.agents l))
    by_protocol false = refused_calm _ _ (omega arith)

    request_calm : Calm w l (dial_requested (w.agents l) protocol address random) ups downs sides
    request_calm = by_protocol (is_tcp protocol)

  packet_calm : (p : Packet) → (w.links l).down ≡ p ∷ rest → Calm w l (packet_came (w.agents l) p) ups downs sides
  packet_calm (DialReq protocol address random) first = request_calm protocol address random first
  packet_calm (Data c error bytes) first = bytes_calm c error bytes first (connection_at c (w.agents l).connections) refl
  packet_calm (CloseReq c) first = close_calm c first (connection_at c (w.agents l).connections) refl
  packet_calm (DialRsp error c random) first = ignored_calm (DialRsp error c random) first
  packet_calm (CloseRsp error c) first = ignored_calm (CloseRsp error c) first
  packet_calm (DialCls random) first = ignored_calm (DialCls random) first
  packet_calm Drain first = ignored_calm Drain first
  packet_calm (Other number) first = ignored_calm (Other number) first

pub takes_keep : (w : World) (l : ℕ) → Keys w → not (w.agents l).lost ≡ true → Keys (after (AgentTakes l) w)
takes_keep w l keys there = by_first (w.links l).down refl (takes_lifts w l keys there)
  where
    by_first : (ps : List Packet) → (w.links l).down ≡ ps → Lifts w (takes_down l ps w) → Keys (takes_down l ps w)
    by_first [] first = λ lifts. keys
    by_first (p ∷ rest) first = subst (λ s. Lifts w (agent_stepped l s (down_is l rest w)) → Keys (agent_stepped l s (down_is l rest w))) (sym (linked (w.agents l) (at_agent.Packet p) there))
        (calm_keeps w l (packet_came (w.agents l) p) (λ i. (w.links i).up) (λ i. cond (i == l) rest (w.links i).down) (λ d. (w.dials d).side) keys (packet_calm w l keys there rest p first))
