-- What the server tells of an entry fits, and may follow what is there.
use Rattle.std.proofs.Common.{◌≡◌, ◌<◌, ◌==◌, ℕ, ℤ, pos, Bool, true, false, List, [], ◌∷◌, Option, Some, None, refl, sym, ap, ◌∙◌, eqb-true, subst}
use Rattle.kn_packet.specs.declared.packet.Packet.{Packet}
use Rattle.kn_packet.specs.declared.packet.Packet.TheVariants.{CloseRsp, Data, DialRsp}
use Rattle.kn_tables.specs.Lists.{first_where}
use Rattle.kn_tables.specs.Awaiting.{is_dial}
use Rattle.kn_tables.specs.Holding.{is_held_dial}
use Rattle.kn_tables.specs.declared.awaited_entry.AwaitedEntry.{AwaitedEntry}
use Rattle.kn_tables.specs.declared.held_entry.HeldEntry.{HeldEntry}
use Rattle.kn_tables.specs.declared.held_entry.HeldState.{HeldState}
use Rattle.kn_tables.specs.declared.held_entry.HeldState.TheVariants.{Closing, Open}
use Rattle.kn_server_core.specs.Isolation.{Each}
use Rattle.kn_server_core.specs.Packets.{data_to_front}
use Rattle.kn_tunnel.proofs.OrderChecks.{head_order, out_order, over_order}
use Rattle.kn_tunnel.specs.Facts.{Facts}
use Rattle.kn_tunnel.specs.Kinds.{implies}
use Rattle.kn_tunnel.specs.Order.{head_follows, out_bytes_follow, out_close_follows}
use Rattle.kn_tunnel.specs.Tunnel.{Outward}
use Rattle.kn_words.specs.Numbers.{is_drawn_number, is_number}
use Rattle.kn_words.specs.Out.{BytesOut, OtherOut, OutItem, out_follows, out_of, stream_out_item, stream_out_word}
use Rattle.kn_words.proofs.OutGiven.{OutFollow}
use Rattle.kn_packets.specs.Keys.{AskedOn, Keys}
use Rattle.kn_packets.specs.Outputs.{asks, for_front, more_if}
use Rattle.kn_packets.specs.World.{World, tunnel_of}
use Rattle.kn_packets.proofs.DataParts.{at_front, datas, not_front}
use Rattle.kn_packets.proofs.Owners.{a_client}
use Rattle.kn_packets.proofs.Replies.{awaited_unheld, not_asked}
use Rattle.kn_packets.proofs.ServerCalm.{item_of, others_follow}
use Rattle.kn_packets.proofs.ServerKept.{FitsFront}
use Rattle.kn_packets.proofs.Taken.{and_first}
use Rattle.kn_packets.proofs.TakesClose.{ended_item, ended_other}
use Rattle.kn_packets.proofs.TakesData.{passed_item, passed_other}
use Rattle.kn_packets.proofs.TakesReply.{opened_not, opened_own}
use Rattle.kn_packets.proofs.TakesRequest.{refusal_not, refusal_own}

-- what is on the way to an app
abbrev pub word_of : World → ℕ → Outward
word_of w k = out_of (item_of w k) (w.streams (w.apps k).stream).down

drawn_is : (D : Option ℕ) (d : ℕ) → is_drawn_number D (pos d) ≡ true → D ≡ Some d
drawn_is None d h = absurd cc
drawn_is (Some e) d h = ap Some (sym (eqb-true d e h))

asks_number : (c : Bool) (n : ℕ) (random : ℤ) → c ≡ false → asks c n random ≡ is_number n random
asks_number true n random e = absurd cc
asks_number false n random e = refl

pub known : (a b : Bool) → implies a b ≡ true → a ≡ true → b ≡ true
known true b h e = h
known false b h e = absurd cc

-- a packet for one front
pub each_if : (P : Packet → Type 0) (p : Packet) (b : Bool) → (b ≡ true → P p) → Each P (more_if b p [])
each_if P p true h = (h refl, tt)
each_if P p false h = tt

pub follow_if : (item : Packet → OutItem) (v : Outward) (p : Packet) (b : Bool) → (b ≡ true → out_follows v (item p) ≡ true) → OutFollow item v (more_if b p [])
follow_if item v p true h = (h refl, tt)
follow_if item v p false h = tt

-- bytes in pieces
bytes_follow : (item : Packet → OutItem) (c : ℤ) → ((x : List ℕ) → item (Data c [] x) ≡ BytesOut x) → (pieces : List (List ℕ)) (v : Outward) → out_bytes_follow v ≡ true → OutFollow item v (datas c pieces)
bytes_follow item c own [] v h = tt
bytes_follow item c own (x ∷ xs) v h = rw (own x) (h, bytes_follow item c own xs _ h)

other_bytes : (item : Packet → OutItem) (c : ℤ) → ((x : List ℕ) → item (Data c [] x) ≡ OtherOut) → (pieces : List (List ℕ)) → Each (λ q. item q ≡ OtherOut) (datas c pieces)
other_bytes item c other [] = tt
other_bytes item c other (x ∷ xs) = (other x, other_bytes item c other xs)

module _ (w : World) (keys : Keys w) where
  -- ---- of an awaited dial
  module _ (e : AwaitedEntry) (at : first_where (is_dial e.dial) w.server.awaited ≡ Some e) where
    pub awaited_older : e.dial < w.server.next_dial
    awaited_older = let app = (keys.server.awaited e.dial e at).has_app in keys.server.dials_older app.0 e.dial app.1 app.2

    pub asked_on : AskedOn w e.front e.random
    asked_on =
        let fits = keys.server.awaited e.dial e at in let app = fits.has_app in
        let on : (w.apps app.0).stream ≡ e.front = fits.front app.0 app.1 app.2 in
        (app.0, app.1, on, subst (λ i. asks (w.streams i).connect (w.apps app.0).number e.random ≡ true) on (fits.random app.0 app.1 app.2))

    pub reply_fits : FitsFront w e.front (DialRsp [] (pos e.dial) e.random)
    reply_fits = (awaited_older, λ client. (asked_on, λ k came on. here k client came on (is_drawn_number (w.apps k).dial (pos e.dial)) refl))
      where
        here : (k : ℕ) → (w.streams e.front).connect ≡ false → (w.apps k).came ≡ true → (w.apps k).stream ≡ e.front → (b : Bool) → is_drawn_number (w.apps k).dial (pos e.dial) ≡ b → b ≡ is_number (w.apps k).number e.random
        here k client came on true own =
            sym ((keys.server.awaited e.dial e at).random k came (drawn_is (w.apps k).dial e.dial own)) ∙ asks_number (w.streams (w.apps k).stream).connect (w.apps k).number e.random (ap (λ i. (w.streams i).connect) on ∙ client)
        here k client came on false other = sym (not_asked w keys 0 e k at came on other) ∙ asks_number (w.streams (w.apps k).stream).connect (w.apps k).number e.random (ap (λ i. (w.streams i).connect) on ∙ client)

    pub refusal_fits : (x : ℕ) (xs : List ℕ) → FitsFront w e.front (DialRsp (x ∷ xs) (pos 0) e.random)
    refusal_fits x xs = (keys.server.from_one, λ client. asked_on)

    pub head_free : (k : ℕ) → (w.apps k).came ≡ true → (w.streams (w.apps k).stream).client ≡ true → (w.apps k).dial ≡ Some e.dial → head_follows (word_of w k) ≡ true
    head_free k came there de = subst (λ D. head_follows (stream_out_word (w.streams (w.apps k).stream).connect (w.apps k).number D (w.streams (w.apps k).stream).down) ≡ true) (sym de) free
      where
        facts : Facts (tunnel_of w (w.apps k) (Some e.dial))
        facts = rw de at (keys.facts k came)

        free : head_follows (stream_out_word (w.streams (w.apps k).stream).connect (w.apps k).number (Some e.dial) (w.streams (w.apps k).stream).down) ≡ true
        free = rw (at, awaited_unheld w keys 0 e at, there) at (head_order (tunnel_of w (w.apps k) (Some e.dial)) facts.stream)

    pub reply_follows : (k : ℕ) → (w.apps k).came ≡ true → (w.streams (w.apps k).stream).client ≡ true → (b : Bool) → ((w.apps k).stream == e.front) ≡ b → OutFollow (item_of w k) (word_of w k) (more_if b (DialRsp [] (pos e.dial) e.random) [])
    reply_follows k came there b be = follow_if (item_of w k) (word_of w k) (DialRsp [] (pos e.dial) e.random) b (λ yes. here (eqb-true (w.apps k).stream e.front (be ∙ yes)) (is_drawn_number (w.apps k).dial (pos e.dial)) refl)
      where
        here : (w.apps k).stream ≡ e.front → (c : Bool) → is_drawn_number (w.apps k).dial (pos e.dial) ≡ c → out_follows (word_of w k) (item_of w k (DialRsp [] (pos e.dial) e.random)) ≡ true
        here on true own =
            let de = drawn_is (w.apps k).dial e.dial own in
            ap (out_follows (word_of w k)) (opened_own (w.streams (w.apps k).stream).connect (w.apps k).number (w.apps k).dial (pos e.dial) e.random ((keys.server.awaited e.dial e at).random k came de)) ∙ head_free k came there de
        here on false other = ap (out_follows (word_of w k)) (opened_not (w.streams (w.apps k).stream).connect (w.apps k).number (w.apps k).dial (pos e.dial) e.random (not_asked w keys 0 e k at came on other))

    pub refusal_follows : (x : ℕ) (xs : List ℕ) (k : ℕ) → (w.apps k).came ≡ true → (w.streams (w.apps k).stream).client ≡ true → (b : Bool) → ((w.apps k).stream == e.front) ≡ b → OutFollow (item_of w k) (word_of w k) (more_if b (DialRsp (x ∷ xs) (pos 0) e.random) [])
    refusal_follows x xs k came there b be = follow_if (item_of w k) (word_of w k) (DialRsp (x ∷ xs) (pos 0) e.random) b (λ yes. here (eqb-true (w.apps k).stream e.front (be ∙ yes)) (is_drawn_number (w.apps k).dial (pos e.dial)) refl)
      where
        here : (w.apps k).stream ≡ e.front → (c : Bool) → is_drawn_number (w.apps k).dial (pos e.dial) ≡ c → out_follows (word_of w k) (item_of w k (DialRsp (x ∷ xs) (pos 0) e.random)) ≡ true
        here on true own =
            let de = drawn_is (w.apps k).dial e.dial own in
            ap (out_follows (word_of w k)) (refusal_own (w.streams (w.apps k).stream).connect (w.apps k).number (w.apps k).dial x xs (pos 0) e.random ((keys.server.awaited e.dial e at).random k came de)) ∙ head_free k came there de
        here on false other = ap (out_follows (word_of w k)) (refusal_not (w.streams (w.apps k).stream).connect (w.apps k).number (w.apps k).dial x xs (pos 0) e.random (not_asked w keys 0 e k at came on other))

  -- ---- of a tunnel
  module _ (e : HeldEntry) (at : first_where (is_held_dial e.dial) w.server.held ≡ Some e) where
    pub held_older : e.dial < w.server.next_dial
    held_older = let fits = keys.server.held e.dial e at in let app = keys.agents.cid_app e.dial fits.cid fits.drawn in keys.server.dials_older app.0 e.dial app.1 app.2

    module _ (f : ℕ) (front : e.front ≡ Some f) where
      pub over_free : (k : ℕ) → (w.apps k).came ≡ true → (w.streams (w.apps k).stream).client ≡ true → (w.apps k).dial ≡ Some e.dial → out_close_follows (word_of w k) ≡ true
      over_free k came there de = subst (λ D. out_close_follows (stream_out_word (w.streams (w.apps k).stream).connect (w.apps k).number D (w.streams (w.apps k).stream).down) ≡ true) (sym de) (free e.state refl)
        where
          facts : Facts (tunnel_of w (w.apps k) (Some e.dial))
          facts = rw de at (keys.facts k came)

          free : (state : HeldState) → e.state ≡ state → out_close_follows (stream_out_word (w.streams (w.apps k).stream).connect (w.apps k).number (Some e.dial) (w.streams (w.apps k).stream).down) ≡ true
          free Open es = and_first _ _ (rw (at, front, es, there) at (out_order (tunnel_of w (w.apps k) (Some e.dial)) facts.stream))
          free Closing es = rw (at, front, es, there) at (over_order (tunnel_of w (w.apps k) (Some e.dial)) facts.stream)

      pub close_follows : (text : List ℕ) (k : ℕ) → (w.apps k).came ≡ true → (w.streams (w.apps k).stream).client ≡ true → (b : Bool) → ((w.apps k).stream == f) ≡ b → OutFollow (item_of w k) (word_of w k) (more_if b (CloseRsp text (pos e.dial)) [])
      close_follows text k came there b be = follow_if (item_of w k) (word_of w k) (CloseRsp text (pos e.dial)) b (λ yes. here (eqb-true (w.apps k).stream f (be ∙ yes)) (is_drawn_number (w.apps k).dial (pos e.dial)) refl)
        where
          here : (w.apps k).stream ≡ f → (c : Bool) → is_drawn_number (w.apps k).dial (pos e.dial) ≡ c → out_follows (word_of w k) (item_of w k (CloseRsp text (pos e.dial))) ≡ true
          here on true own =
              let de = drawn_is (w.apps k).dial e.dial own in
              ap (out_follows (word_of w k)) (ap (λ D. stream_out_item (w.streams (w.apps k).stream).connect (w.apps k).number D (CloseRsp text (pos e.dial))) de ∙ ended_item (w.streams (w.apps k).stream).connect (w.apps k).number e.dial text) ∙ over_free k came there de
          here on false other = ap (out_follows (word_of w k)) (ended_other (w.streams (w.apps k).stream).connect (w.apps k).number (w.apps k).dial (pos e.dial) text (a_client w keys e f k at front came on other) other)

      -- bytes of one that is open
      pub data_follows : e.state ≡ Open → (pieces : List (List ℕ)) (k : ℕ) → (w.apps k).came ≡ true → (w.streams (w.apps k).stream).client ≡ true → OutFollow (item_of w k) (word_of w k) (for_front (w.apps k).stream (data_to_front f e.dial pieces))
      data_follows es pieces k came there = by_stream ((w.apps k).stream == f) refl
        where
          free : (w.apps k).dial ≡ Some e.dial → out_bytes_follow (word_of w k) ≡ true
          free de =
              let facts : Facts (tunnel_of w (w.apps k) (Some e.dial)) = rw de at (keys.facts k came) in
              subst (λ D. out_bytes_follow (stream_out_word (w.streams (w.apps k).stream).connect (w.apps k).number D (w.streams (w.apps k).stream).down) ≡ true) (sym de) (rw (at, front, es, there) at (out_order (tunnel_of w (w.apps k) (Some e.dial)) facts.stream))

          here : (w.apps k).stream ≡ f → (c : Bool) → is_drawn_number (w.apps k).dial (pos e.dial) ≡ c → OutFollow (item_of w k) (word_of w k) (datas (pos e.dial) pieces)
          here on true own =
              let de = drawn_is (w.apps k).dial e.dial own in
              bytes_follow (item_of w k) (pos e.dial) (λ x. ap (λ D. stream_out_item (w.streams (w.apps k).stream).connect (w.apps k).number D (Data (pos e.dial) [] x)) de ∙ passed_item (w.streams (w.apps k).stream).connect (w.apps k).number e.dial x) pieces (word_of w k) (free de)
          here on false other = others_follow (item_of w k) (word_of w k) (datas (pos e.dial) pieces)
              (other_bytes (item_of w k) (pos e.dial) (λ x. passed_other (w.streams (w.apps k).stream).connect (w.apps k).number (w.apps k).dial (pos e.dial) x (a_client w keys e f k at front came on other) other) pieces)

          by_stream : (b : Bool) → ((w.apps k).stream == f) ≡ b → OutFollow (item_of w k) (word_of w k) (for_front (w.apps k).stream (data_to_front f e.dial pieces))
          by_stream true be = rw (at_front (w.apps k).stream f e.dial pieces be) (here (eqb-true (w.apps k).stream f be) (is_drawn_number (w.apps k).dial (pos e.dial)) refl)
          by_stream false be = rw (not_front (w.apps k).stream f e.dial pieces be) tt

      pub data_fits : (i : ℕ) (pieces : List (List ℕ)) → Each (FitsFront w i) (for_front i (data_to_front f e.dial pieces))
      data_fits i pieces = by_front (i == f) refl
        where
          each_data : (xs : List (List ℕ)) → Each (FitsFront w i) (datas (pos e.dial) xs)
          each_data [] = tt
          each_data (x ∷ xs) = ((held_older, λ client. tt), each_data xs)

          by_front : (b : Bool) → (i == f) ≡ b → Each (FitsFront w i) (for_front i (data_to_front f e.dial pieces))
          by_front true be = rw (at_front i f e.dial pieces be) (each_data pieces)
          by_front false be = rw (not_front i f e.dial pieces be) tt
