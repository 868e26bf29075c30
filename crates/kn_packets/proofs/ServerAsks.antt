-- What the server sends to the agent of a tunnel names a connectID that was drawn, and may follow what is there.
use Rattle.std.proofs.Common.{◌≡◌, ◌<◌, ◌==◌, ℕ, ℤ, Bool, true, false, not, List, [], ◌∷◌, Some, refl, sym, ap, ◌∙◌, eqb-true, subst}
use Rattle.kn_packet.specs.declared.packet.Packet.{Packet}
use Rattle.kn_packet.specs.declared.packet.Packet.TheVariants.{CloseReq, Data}
use Rattle.kn_tables.specs.Lists.{first_where}
use Rattle.kn_tables.specs.Holding.{is_held_dial}
use Rattle.kn_tables.specs.declared.held_entry.HeldEntry.{HeldEntry}
use Rattle.kn_tables.specs.declared.held_entry.HeldState.TheVariants.{Open}
use Rattle.kn_server_core.specs.Isolation.{Each}
use Rattle.kn_server_core.specs.Packets.{data_to_link}
use Rattle.kn_tunnel.proofs.OrderChecks.{down_order}
use Rattle.kn_tunnel.specs.Facts.{Facts}
use Rattle.kn_tunnel.specs.Order.{down_bytes_follow}
use Rattle.kn_tunnel.specs.Tunnel.{Downward}
use Rattle.kn_words.specs.Down.{BytesDown, DownItem, OtherDown, down_follows, down_item, down_snoc, down_word}
use Rattle.kn_words.specs.Numbers.{is_drawn_number}
use Rattle.kn_words.proofs.DownGiven.{DownFollow}
use Rattle.kn_packets.specs.Keys.{IsBelow, Keys}
use Rattle.kn_packets.specs.Outputs.{for_link, more_if}
use Rattle.kn_packets.specs.World.{World, tunnel_of}
use Rattle.kn_packets.proofs.DataParts.{at_link, datas, not_link}
use Rattle.kn_packets.proofs.Owners.{is_key, pos_one}
use Rattle.kn_packets.proofs.ServerCalm.{OfConnections, others_down}
use Rattle.kn_packets.proofs.ServerTells.{each_if}

-- what is on the way to the agent of a dial
abbrev pub down_of_dial : World → ℕ → Downward
down_of_dial w d = down_word (w.dials d).cid (w.links (w.dials d).link).down

bytes_behind : (item : Packet → DownItem) (c : ℤ) → ((x : List ℕ) → item (Data c [] x) ≡ BytesDown x) → (pieces : List (List ℕ)) (v : Downward) → down_bytes_follow v ≡ true → DownFollow item v (datas c pieces)
bytes_behind item c own [] v h = tt
bytes_behind item c own (x ∷ xs) v h = rw (own x) (h, bytes_behind item c own xs (down_snoc v (BytesDown x)) h)

other_bytes : (item : Packet → DownItem) (c : ℤ) → ((x : List ℕ) → item (Data c [] x) ≡ OtherDown) → (pieces : List (List ℕ)) → Each (λ q. item q ≡ OtherDown) (datas c pieces)
other_bytes item c other [] = tt
other_bytes item c other (x ∷ xs) = (other x, other_bytes item c other xs)

module _ (w : World) (keys : Keys w) (e : HeldEntry) (at : first_where (is_held_dial e.dial) w.server.held ≡ Some e) where
  pub connection_drawn : IsBelow (w.agents e.link).next_connect_id e.connect_id
  connection_drawn =
      let fits = keys.server.held e.dial e at in
      subst (λ z. IsBelow (w.agents e.link).next_connect_id z) (sym fits.named) (subst (λ i. fits.cid < (w.agents i).next_connect_id) fits.link (keys.agents.cids_older e.dial fits.cid fits.drawn))

  -- the connectID is of no other dial of this link
  pub is_its : (d : ℕ) → (w.dials d).link ≡ e.link → is_drawn_number (w.dials d).cid e.connect_id ≡ true → d ≡ e.dial
  is_its d on key =
      let fits = keys.server.held e.dial e at in let named = is_key (w.dials d).cid e.connect_id key in
      keys.agents.cid_once d e.dial fits.cid (on ∙ sym fits.link) (named.1 ∙ ap Some (pos_one named.0 fits.cid (sym named.2 ∙ fits.named))) fits.drawn

  module _ (f : ℕ) (front : e.front ≡ Some f) (open_is : e.state ≡ Open) where
    pub carry_free : (k d : ℕ) → (w.apps k).came ≡ true → (w.apps k).dial ≡ Some d → not (w.agents (w.dials d).link).lost ≡ true → d ≡ e.dial → not (down_of_dial w d).close ≡ true
    carry_free k d came de agent same =
        let facts : Facts (tunnel_of w (w.apps k) (Some d)) = rw de at (keys.facts k came) in
        let entry : first_where (is_held_dial d) w.server.held ≡ Some e = ap (λ i. first_where (is_held_dial i) w.server.held) same ∙ at in
        rw (entry, front, open_is, agent) at (down_order (tunnel_of w (w.apps k) (Some d)) facts.link)

    -- a close
    pub close_behind : (k d : ℕ) → (w.apps k).came ≡ true → (w.apps k).dial ≡ Some d → not (w.agents (w.dials d).link).lost ≡ true → (b : Bool) → ((w.dials d).link == e.link) ≡ b
        → DownFollow (down_item (w.dials d).cid) (down_of_dial w d) (more_if b (CloseReq e.connect_id) [])
    close_behind k d came de agent false off = tt
    close_behind k d came de agent true on = (by_key (is_drawn_number (w.dials d).cid e.connect_id) refl, tt)
      where
        by_key : (b : Bool) → is_drawn_number (w.dials d).cid e.connect_id ≡ b → down_follows (down_of_dial w d) (down_item (w.dials d).cid (CloseReq e.connect_id)) ≡ true
        by_key true key = rw key (carry_free k d came de agent (is_its d (eqb-true (w.dials d).link e.link on) key))
        by_key false key = rw key refl

    -- bytes
    pub data_behind : (pieces : List (List ℕ)) (k d : ℕ) → (w.apps k).came ≡ true → (w.apps k).dial ≡ Some d → not (w.agents (w.dials d).link).lost ≡ true
        → DownFollow (down_item (w.dials d).cid) (down_of_dial w d) (for_link (w.dials d).link (data_to_link e.link e.connect_id pieces))
    data_behind pieces k d came de agent = by_link ((w.dials d).link == e.link) refl
      where
        by_key : (w.dials d).link ≡ e.link → (b : Bool) → is_drawn_number (w.dials d).cid e.connect_id ≡ b → DownFollow (down_item (w.dials d).cid) (down_of_dial w d) (datas e.connect_id pieces)
        by_key on true key = bytes_behind (down_item (w.dials d).cid) e.connect_id (λ x. rw key refl) pieces (down_of_dial w d) (carry_free k d came de agent (is_its d on key))
        by_key on false key = others_down (down_item (w.dials d).cid) (down_of_dial w d) (datas e.connect_id pieces) (other_bytes (down_item (w.dials d).cid) e.connect_id (λ x. rw key refl) pieces)

        by_link : (b : Bool) → ((w.dials d).link == e.link) ≡ b → DownFollow (down_item (w.dials d).cid) (down_of_dial w d) (for_link (w.dials d).link (data_to_link e.link e.connect_id pieces))
        by_link true on = rw (at_link (w.dials d).link e.link e.connect_id pieces on) (by_key (eqb-true (w.dials d).link e.link on) (is_drawn_number (w.dials d).cid e.connect_id) refl)
        by_link false off = rw (not_link (w.dials d).link e.link e.connect_id pieces off) tt

  -- they name a connectID that was drawn
  pub close_fits : (i : ℕ) → Each (OfConnections (w.agents i).next_connect_id) (more_if (i == e.link) (CloseReq e.connect_id) [])
  close_fits i = each_if (OfConnections (w.agents i).next_connect_id) (CloseReq e.connect_id) (i == e.link) (λ on. subst (λ j. IsBelow (w.agents j).next_connect_id e.connect_id) (sym (eqb-true i e.link on)) connection_drawn)

  pub data_drawn : (i : ℕ) (pieces : List (List ℕ)) → Each (OfConnections (w.agents i).next_connect_id) (for_link i (data_to_link e.link e.connect_id pieces))
  data_drawn i pieces = by_link (i == e.link) refl
    where
      all : i ≡ e.link → (xs : List (List ℕ)) → Each (OfConnections (w.agents i).next_connect_id) (datas e.connect_id xs)
      all on [] = tt
      all on (x ∷ xs) = (subst (λ j. IsBelow (w.agents j).next_connect_id e.connect_id) (sym on) connection_drawn, all on xs)

      by_link : (b : Bool) → (i == e.link) ≡ b → Each (OfConnections (w.agents i).next_connect_id) (for_link i (data_to_link e.link e.connect_id pieces))
      by_link true on = rw (at_link i e.link e.connect_id pieces on) (all (eqb-true i e.link on) pieces)
      by_link false off = rw (not_link i e.link e.connect_id pieces off) tt
