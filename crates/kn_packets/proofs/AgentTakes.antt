-- An agent takes bytes or a close of the server: they are of the connection with their connectID, and nothing to any other.
use Rattle.std.proofs.Common.{◌≡◌, ◌==◌, ◌&&◌, ℕ, ℤ, pos, Bool, true, false, not, cond, List, [], ◌∷◌, length, take, drop, Option, Some, None, inl, inr, refl, sym, ap, ◌∙◌, eqb-true}
use Rattle.std.specs.Prelude.{codes}
use Rattle.kn_packet.specs.declared.packet.Packet.{Packet}
use Rattle.kn_packet.specs.declared.packet.Packet.TheVariants.{CloseReq, CloseRsp, Data}
use Rattle.kn_tables.specs.Lists.{IsRising, first_where}
use Rattle.kn_edge_core.specs.Agent.{bytes_by_state, close_by_state, close_requested, connection_ended, connection_turned, data_came, ignored, unknown_close}
use Rattle.kn_edge_core.specs.AgentTables.{connection_at, is_connection, turned, with_more}
use Rattle.kn_edge_core.specs.Steps.{AgentStep}
use Rattle.kn_edge_core.specs.declared.agent_event.AgentOut.TheVariants as out
use Rattle.kn_edge_core.specs.declared.agent_state.AgentState.{AgentState}
use Rattle.kn_edge_core.specs.declared.connection.Connection.{Connection}
use Rattle.kn_edge_core.specs.declared.connection.DestState.{DestState}
use Rattle.kn_edge_core.specs.declared.connection.DestState.TheVariants.{Lingering, Open}
use Rattle.kn_tunnel.specs.Events as event
use Rattle.kn_tunnel.specs.Facts.{Facts}
use Rattle.kn_tunnel.specs.Kinds.{has, is_empty, is_gone}
use Rattle.kn_tunnel.specs.Steps.{Follows}
use Rattle.kn_tunnel.specs.Tunnel.{Side, Tunnel}
use Rattle.kn_words.specs.Down.{BytesDown, CloseDown, OtherDown, down_item, down_ordered, down_word, is_request}
use Rattle.kn_words.specs.Numbers.{is_drawn_number, is_number}
use Rattle.kn_words.specs.Up.{up_item}
use Rattle.kn_packets.specs.Keys.{Keys}
use Rattle.kn_packets.specs.Lifts.{Lifts}
use Rattle.kn_packets.specs.Moves.{agent_stepped, down_is}
use Rattle.kn_packets.specs.Outputs.{is_cid}
use Rattle.kn_packets.specs.World.{World, WorldLink}
use Rattle.kn_packets.proofs.AgentLists.{changed_other, changed_own, number_of}
use Rattle.kn_packets.proofs.AgentParts.{Apart, apart_same, ignored_apart, of_agent, of_link, stepped, takings_lift}
use Rattle.kn_packets.proofs.AgentRows.{dry}
use Rattle.kn_packets.proofs.Fresh.{eqb_refl}
use Rattle.kn_packets.proofs.Owners.{is_key}
use Rattle.kn_packets.proofs.Queues.{up_closed, up_other}
use Rattle.kn_packets.proofs.Tables.{gone_without, kept_without}
use Rattle.kn_packets.proofs.Taken.{down_bytes_piece, down_bytes_taken, down_close_order, down_close_taken, down_other_taken}

-- ---- a connection that ends or changes is nothing to a dial of another
cid_not : (cid : Option ℕ) (c : ℤ) → is_drawn_number cid c ≡ false → is_cid cid c ≡ false
cid_not None c e = refl
cid_not (Some n) c e = e

pub other_number : (cid : Option ℕ) (c : ℤ) (cs : List Connection) (x : Connection) → connection_at c cs ≡ Some x → is_drawn_number cid c ≡ false → (m : ℕ) → cid ≡ Some m → (x.connect_id == m) ≡ false
other_number cid c cs x at other m e = rw (e, number_of c cs x at) at other

pub stands : (c : ℤ) (cs : List Connection) (x : Connection) → connection_at c cs ≡ Some x → first_where (is_connection x.connect_id) cs ≡ Some x
stands c cs x at = ap (λ z. connection_at z cs) (sym (number_of c cs x at)) ∙ at

pub unknown_apart : (d : ℕ) (cid : Option ℕ) (a : AgentState) (c : ℤ) → is_drawn_number cid c ≡ false → Apart d cid a (unknown_close a c)
unknown_apart d cid a c other = record {
  lost = refl;
  dial = λ e. refl;
  connection = λ m e. refl;
  writes = λ o. refl;
  draws = refl;
  word = λ b ps. up_other (up_item d cid) b ps (CloseRsp (codes "unknown connection") c) (rw other refl);
}

pub ended_apart : (d : ℕ) (cid : Option ℕ) (a : AgentState) (c : ℤ) (x : Connection) (error : List ℕ) → connection_at c a.connections ≡ Some x → is_drawn_number cid c ≡ false → Apart d cid a (connection_ended a c x error)
ended_apart d cid a c x error at other = record {
  lost = refl;
  dial = λ e. refl;
  connection = λ m e. kept_without (is_connection m) (is_connection x.connect_id) x a.connections (stands c a.connections x at) (other_number cid c a.connections x at other m e);
  writes = λ o. refl;
  draws = refl;
  word = λ b ps. up_other (up_item d cid) b ps (CloseRsp error c) (rw other refl);
}

pub changed_apart : (d : ℕ) (cid : Option ℕ) (a : AgentState) (c : ℤ) (x : Connection) (g : Connection → Connection) → ((y : Connection) → (g y).connect_id ≡ y.connect_id)
    → connection_at c a.connections ≡ Some x → is_drawn_number cid c ≡ false → Apart d cid a (connection_turned a x g [])
changed_apart d cid a c x g same at other = record {
  lost = refl;
  dial = λ e. refl;
  connection = λ m e. changed_other x.connect_id m g same (other_number cid c a.connections x at other m e) a.connections;
  writes = λ o. refl;
  draws = refl;
  word = λ b ps. refl;
}

pub written_apart : (d : ℕ) (cid : Option ℕ) (a : AgentState) (c : ℤ) (x : Connection) (bytes : List ℕ) → connection_at c a.connections ≡ Some x → is_drawn_number cid c ≡ false
    → Apart d cid a (connection_turned a x (with_more (length bytes)) (out.Write c bytes ∷ []))
written_apart d cid a c x bytes at other = record {
  lost = refl;
  dial = λ e. refl;
  connection = λ m e. changed_other x.connect_id m (with_more (length bytes)) (λ y. refl) (other_number cid c a.connections x at other m e) a.connections;
  writes = λ o. rw (cid_not cid c other) refl;
  draws = refl;
  word = λ b ps. refl;
}

-- ---- bytes for this dial
module _ (w : World) (k d n : ℕ) (side : Side) (a : AgentState) (link : WorldLink) (facts : Facts (of_agent w k d (Some n) side a link)) (there : not a.lost ≡ true) (c : ℤ) (key : is_number n c ≡ true) (rest : List Packet) where
  abbrev old : Tunnel
  old = of_agent w k d (Some n) side a link

  abbrev new : AgentStep → Tunnel
  new s = stepped w k d (Some n) side s link rest

  module _ (error bytes : List ℕ) (first : link.down ≡ Data c error bytes ∷ rest) where
    bytes_item : down_item (Some n) (Data c error bytes) ≡ BytesDown bytes
    bytes_item = rw key refl

    fewer : down_word (Some n) rest ≡ record (down_word (Some n) link.down) { bytes = drop (length bytes) (down_word (Some n) link.down).bytes }
    fewer = rw first (down_bytes_taken (down_item (Some n)) (Data c error bytes) rest bytes bytes_item)

    piece : take (length bytes) (down_word (Some n) link.down).bytes ≡ bytes
    piece = rw first (down_bytes_piece (down_item (Some n)) (Data c error bytes) rest bytes bytes_item)

    bytes_unheld : first_where (is_connection n) a.connections ≡ None → Follows old (new (ignored a))
    bytes_unheld at = inr (event.AgentTakesDown (length bytes), (there, tt), rw (at, fewer, dry old facts.link (rw at refl)) refl)

    bytes_linger : (x : Connection) → first_where (is_connection n) a.connections ≡ Some x → x.state ≡ Lingering → Follows old (new (ignored a))
    bytes_linger x at st = inr (event.AgentTakesDown (length bytes), (there, tt), rw (at, st, fewer) refl)

    bytes_pass : (x : Connection) → first_where (is_connection n) a.connections ≡ Some x → x.state ≡ Open → x.connect_id ≡ n
        → Follows old (new (connection_turned a x (with_more (length bytes)) (out.Write c bytes ∷ [])))
    bytes_pass x at st number = inr (
      event.AgentTakesDown (length bytes),
      (there, tt),
      rw (number, changed_own n (with_more (length bytes)) (λ y. refl) a.connections x at, at, st, key, fewer, piece) refl,
    )

  -- ---- a close of this dial
  module _ (first : link.down ≡ CloseReq c ∷ rest) (ordered : down_ordered (down_item (Some n)) link.down ≡ true) where
    close_item : down_item (Some n) (CloseReq c) ≡ CloseDown
    close_item = rw key refl

    closed : down_word (Some n) rest ≡ record (down_word (Some n) link.down) { close = false }
    closed = rw first (down_close_taken (down_item (Some n)) (CloseReq c) rest close_item (rw first at ordered))

    may : (not a.lost && is_empty (down_word (Some n) link.down).bytes && (down_word (Some n) link.down).close) ≡ true
    may = rw there (rw first (down_close_order (down_item (Some n)) (CloseReq c) rest close_item (rw first at ordered)))

    close_unheld : first_where (is_connection n) a.connections ≡ None → Follows old (new (unknown_close a c))
    close_unheld at = inr (
      event.AgentTakesClose,
      (may, tt),
      rw (at, closed, up_closed (up_item d (Some n)) (not (is_gone link.server)) link.up (CloseRsp (codes "unknown connection") c) (rw key refl), dry old facts.link (rw at refl)) refl,
    )

    close_lingers : (x : Connection) → first_where (is_connection n) a.connections ≡ Some x → x.state ≡ Lingering → Follows old (new (ignored a))
    close_lingers x at st = inr (event.AgentTakesClose, (may, tt), rw (at, st, closed) refl)

    close_ends : (x : Connection) → first_where (is_connection n) a.connections ≡ Some x → x.state ≡ Open → x.connect_id ≡ n → IsRising (λ (y : Connection). y.connect_id) a.connections → side.unwritten ≡ []
        → Follows old (new (connection_ended a c x []))
    close_ends x at st number rise empty = inr (
      event.AgentTakesClose,
      (may, tt),
      rw (
        number,
        gone_without (λ (y : Connection). y.connect_id) (is_connection n) n x a.connections rise at at,
        at,
        st,
        closed,
        up_closed (up_item d (Some n)) (not (is_gone link.server)) link.up (CloseRsp [] c) (rw key refl),
        empty,
      ) refl,
    )

    close_waits : (x : Connection) → first_where (is_connection n) a.connections ≡ Some x → x.state ≡ Open → x.connect_id ≡ n → has side.unwritten ≡ true → Follows old (new (connection_turned a x (turned Lingering) []))
    close_waits x at st number some = inr (
      event.AgentTakesClose,
      (may, tt),
      rw (number, changed_own n (turned Lingering) (λ y. refl) a.connections x at, at, st, closed, some) refl,
    )

-- ---- the moves
module _ (w : World) (l : ℕ) (keys : Keys w) (there : not (w.agents l).lost ≡ true) (rest : List Packet) where
  -- a packet of a connection is one step of its dial's tunnel, and none of another's
  by_cid : (s : AgentStep) (p : Packet) (c : ℤ) → (w.links l).down ≡ p ∷ rest
      → ((cid : Option ℕ) → is_drawn_number cid c ≡ false → down_item cid p ≡ OtherDown) → ((d : ℕ) → is_request d p ≡ false)
      → ((d : ℕ) (cid : Option ℕ) → is_drawn_number cid c ≡ false → Apart d cid (w.agents l) s)
      → ((k d n : ℕ) → (w.apps k).came ≡ true → (w.apps k).dial ≡ Some d → (w.dials d).link ≡ l → (w.dials d).cid ≡ Some n → c ≡ pos n → Facts (of_agent w k d (Some n) (w.dials d).side (w.agents l) (w.links l))
      → Follows (of_agent w k d (Some n) (w.dials d).side (w.agents l) (w.links l)) (stepped w k d (Some n) (w.dials d).side s (w.links l) rest))
      → Lifts w (agent_stepped l s (down_is l rest w))
  by_cid s p c first item request others own = takings_lift w l s rest (λ k d came de on. here k d came de on (is_drawn_number (w.dials d).cid c) refl)
    where
      here : (k d : ℕ) → (w.apps k).came ≡ true → (w.apps k).dial ≡ Some d → (w.dials d).link ≡ l → (b : Bool) → is_drawn_number (w.dials d).cid c ≡ b
          → Follows (of_agent w k d (w.dials d).cid (w.dials d).side (w.agents l) (w.links l)) (stepped w k d (w.dials d).cid (w.dials d).side s (w.links l) rest)
      here k d came de on true mine =
          let named = is_key (w.dials d).cid c mine in
          rw named.1 (own k d named.0 came de on named.1 named.2 (rw named.1 at (of_link w l keys k d came de on)))
      here k d came de on false other = inl (apart_same w k d (w.dials d).side (w.agents l) (w.links l) (w.dials d).cid (of_link w l keys k d came de on) s (others d (w.dials d).cid other) rest
          (rw first (down_other_taken (down_item (w.dials d).cid) p rest (item (w.dials d).cid other))) (λ e. rw (first, request d) refl))

  -- its connection
  at_number : (c : ℤ) (n : ℕ) (o : Option Connection) → connection_at c (w.agents l).connections ≡ o → c ≡ pos n → first_where (is_connection n) (w.agents l).connections ≡ o
  at_number c n o at e = ap (λ z. connection_at z (w.agents l).connections) (sym e) ∙ at

  number_is : (c : ℤ) (n : ℕ) (x : Connection) → connection_at c (w.agents l).connections ≡ Some x → c ≡ pos n → x.connect_id ≡ n
  number_is c n x at e = same (sym (number_of c (w.agents l).connections x at) ∙ e)
    where
      same : pos x.connect_id ≡ pos n → x.connect_id ≡ n
      same h = cc

  key_of : (c : ℤ) (n : ℕ) → c ≡ pos n → is_number n c ≡ true
  key_of c n e = rw e (eqb_refl n)

  -- bytes
  module _ (c : ℤ) (error bytes : List ℕ) (first : (w.links l).down ≡ Data c error bytes ∷ rest) where
    item : (cid : Option ℕ) → is_drawn_number cid c ≡ false → down_item cid (Data c error bytes) ≡ OtherDown
    item cid other = rw other refl

    pub bytes_lift : (o : Option Connection) → connection_at c (w.agents l).connections ≡ o → Lifts w (agent_stepped l (data_came (w.agents l) c bytes o) (down_is l rest w))
    bytes_lift None at = by_cid (ignored (w.agents l)) (Data c error bytes) c first item (λ d. refl) (λ d cid other. ignored_apart d cid (w.agents l))
        (λ k d n came de on cid e facts. bytes_unheld w k d n (w.dials d).side (w.agents l) (w.links l) facts there c (key_of c n e) rest error bytes first (at_number c n None at e))
    bytes_lift (Some x) at = here x.state refl
      where
        here : (st : DestState) → x.state ≡ st → Lifts w (agent_stepped l (bytes_by_state (w.agents l) c bytes x st) (down_is l rest w))
        here Open st = by_cid (connection_turned (w.agents l) x (with_more (length bytes)) (out.Write c bytes ∷ [])) (Data c error bytes) c first item (λ d. refl) (λ d cid other. written_apart d cid (w.agents l) c x bytes at other)
            (λ k d n came de on cid e facts. bytes_pass w k d n (w.dials d).side (w.agents l) (w.links l) facts there c (key_of c n e) rest error bytes first x (at_number c n (Some x) at e) st (number_is c n x at e))
        here Lingering st = by_cid (ignored (w.agents l)) (Data c error bytes) c first item (λ d. refl) (λ d cid other. ignored_apart d cid (w.agents l))
            (λ k d n came de on cid e facts. bytes_linger w k d n (w.dials d).side (w.agents l) (w.links l) facts there c (key_of c n e) rest error bytes first x (at_number c n (Some x) at e) st)

  -- a close
  module _ (c : ℤ) (first : (w.links l).down ≡ CloseReq c ∷ rest) where
    close_other : (cid : Option ℕ) → is_drawn_number cid c ≡ false → down_item cid (CloseReq c) ≡ OtherDown
    close_other cid other = rw other refl

    ordered : (k d n : ℕ) → (w.apps k).came ≡ true → (w.apps k).dial ≡ Some d → (w.dials d).link ≡ l → (w.dials d).cid ≡ Some n → down_ordered (down_item (Some n)) (w.links l).down ≡ true
    ordered k d n came de on cid = rw (on, cid) at ((keys.ordered k came).down d de)

    count : (d n : ℕ) (x : Connection) → (w.dials d).link ≡ l → (w.dials d).cid ≡ Some n → first_where (is_connection n) (w.agents l).connections ≡ Some x → x.unwritten ≡ length (w.dials d).side.unwritten
    count d n x on cid at = keys.agents.unwritten d n x cid (rw on at)

    nothing : (m : ℕ) (xs : List ℕ) → m ≡ length xs → (m == 0) ≡ true → xs ≡ []
    nothing m [] e z = refl
    nothing m (y ∷ ys) e z = let is : m ≡ 0 = eqb-true m 0 z in absurd (cc (e, is))

    something : (m : ℕ) (xs : List ℕ) → m ≡ length xs → (m == 0) ≡ false → has xs ≡ true
    something m [] e z = let yes : (m == 0) ≡ true = rw e refl in absurd (cc (yes, z))
    something m (y ∷ ys) e z = refl

    pub close_lift : (o : Option Connection) → connection_at c (w.agents l).connections ≡ o → Lifts w (agent_stepped l (close_requested (w.agents l) c o) (down_is l rest w))
    close_lift None at = by_cid (unknown_close (w.agents l) c) (CloseReq c) c first close_other (λ d. refl) (λ d cid other. unknown_apart d cid (w.agents l) c other)
        (λ k d n came de on cid e facts. close_unheld w k d n (w.dials d).side (w.agents l) (w.links l) facts there c (key_of c n e) rest first (ordered k d n came de on cid) (at_number c n None at e))
    close_lift (Some x) at = here x.state refl
      where
        by_count : (b : Bool) → (x.unwritten == 0) ≡ b → x.state ≡ Open → Lifts w (agent_stepped l (cond b (connection_ended (w.agents l) c x []) (connection_turned (w.agents l) x (turned Lingering) [])) (down_is l rest w))
        by_count true z st = by_cid (connection_ended (w.agents l) c x []) (CloseReq c) c first close_other (λ d. refl) (λ d cid other. ended_apart d cid (w.agents l) c x [] at other)
            (λ k d n came de on cid e facts. close_ends w k d n (w.dials d).side (w.agents l) (w.links l) facts there c (key_of c n e) rest first (ordered k d n came de on cid) x (at_number c n (Some x) at e) st (number_is c n x at e) (keys.agents.connections_rise l)
            (nothing x.unwritten (w.dials d).side.unwritten (count d n x on cid (at_number c n (Some x) at e)) z))
        by_count false z st = by_cid (connection_turned (w.agents l) x (turned Lingering) []) (CloseReq c) c first close_other (λ d. refl) (λ d cid other. changed_apart d cid (w.agents l) c x (turned Lingering) (λ y. refl) at other)
            (λ k d n came de on cid e facts. close_waits w k d n (w.dials d).side (w.agents l) (w.links l) facts there c (key_of c n e) rest first (ordered k d n came de on cid) x (at_number c n (Some x) at e) st (number_is c n x at e)
            (something x.unwritten (w.dials d).side.unwritten (count d n x on cid (at_number c n (Some x) at e)) z))

        here : (st : DestState) → x.state ≡ st → Lifts w (agent_stepped l (close_by_state (w.agents l) c x st) (down_is l rest w))
        here Open st = by_count (x.unwritten == 0) refl st
        here Lingering st = by_cid (ignored (w.agents l)) (CloseReq c) c first close_other (λ d. refl) (λ d cid other. ignored_apart d cid (w.agents l))
            (λ k d n came de on cid e facts. close_lingers w k d n (w.dials d).side (w.agents l) (w.links l) facts there c (key_of c n e) rest first (ordered k d n came de on cid) x (at_number c n (Some x) at e) st)

  -- another packet
  pub other_lift : (p : Packet) → (w.links l).down ≡ p ∷ rest → ((cid : Option ℕ) → down_item cid p ≡ OtherDown) → ((d : ℕ) → is_request d p ≡ false) → Lifts w (agent_stepped l (ignored (w.agents l)) (down_is l rest w))
  other_lift p first item request = takings_lift w l (ignored (w.agents l)) rest (λ k d came de on.
      inl (apart_same w k d (w.dials d).side (w.agents l) (w.links l) (w.dials d).cid (of_link w l keys k d came de on) (ignored (w.agents l)) (ignored_apart d (w.dials d).cid (w.agents l)) rest
      (rw first (down_other_taken (down_item (w.dials d).cid) p rest (item (w.dials d).cid))) (λ e. rw (first, request d) refl)))
