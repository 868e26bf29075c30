-- The server takes bytes of a link: an open entry passes them on to its front, all else drops them.
use Rattle.std.proofs.Common.{◌≡◌, ◌==◌, ◌&&◌, ◌⊎◌, ℕ, ℤ, pos, Bool, true, false, not, cond, List, [], ◌∷◌, Option, Some, None, inl, inr, refl, sym, ap, ◌∙◌, eqb-true}
use Rattle.kn_packet.specs.declared.packet.Packet.{Packet}
use Rattle.kn_packet.specs.declared.packet.Packet.TheVariants.{Data}
use Rattle.kn_tables.specs.Lists.{first_where}
use Rattle.kn_tables.specs.Awaiting.{is_dial}
use Rattle.kn_tables.specs.Holding.{is_held}
use Rattle.kn_tables.specs.declared.held_entry.HeldEntry.{HeldEntry}
use Rattle.kn_tables.specs.declared.held_entry.HeldState.{HeldState}
use Rattle.kn_tables.specs.declared.held_entry.HeldState.TheVariants.{Closing, Open}
use Rattle.kn_tables.specs.declared.awaited_entry.AwaitedEntry.{AwaitedEntry}
use Rattle.kn_server_core.specs.Packets.{data_to_front, in_packets}
use Rattle.kn_server_core.specs.Server.{data_down, ignored, open_down, told}
use Rattle.kn_tunnel.specs.Kinds.{is_carrying, is_gone}
use Rattle.kn_tunnel.specs.Steps.{Follows, appended}
use Rattle.kn_tunnel.specs.Tunnel.{Phase}
use Rattle.kn_words.specs.Numbers.{is_drawn_number}
use Rattle.kn_words.specs.Out.{BytesOut, OtherOut, stream_out_item, stream_out_word}
use Rattle.kn_words.specs.Up.{BytesUp, OtherUp, up_item}
use Rattle.kn_packets.specs.Keys.{Keys}
use Rattle.kn_packets.specs.Lifts.{Lifts}
use Rattle.kn_packets.specs.Moves.{served, up_is}
use Rattle.kn_packets.specs.Outputs.{all_answered, all_finish, asks, for_front, queued}
use Rattle.kn_packets.specs.World.{World, drawn_tunnel, entry_at, entry_of, held_entry, phase_in, tunnel_of}
use Rattle.kn_packets.proofs.DataParts.{at_front, data_answers, data_finishes, data_to_fronts, not_front, out_data, out_data_other, pieces_join}
use Rattle.kn_packets.proofs.Fresh.{eqb_refl}
use Rattle.kn_packets.proofs.Owners.{its_dial, its_entry, not_held, not_its_dial, own_or_other}
use Rattle.kn_packets.proofs.UpParts.{bytes_up}

data_item : (dial : ℕ) (cid : Option ℕ) (c : ℤ) (error bytes : List ℕ) → is_drawn_number cid c ≡ true → up_item dial cid (Data c error bytes) ≡ BytesUp bytes
data_item dial cid c error bytes e = rw e refl

data_other : (dial : ℕ) (cid : Option ℕ) (c : ℤ) (error bytes : List ℕ) → is_drawn_number cid c ≡ false → up_item dial cid (Data c error bytes) ≡ OtherUp
data_other dial cid c error bytes e = rw e refl

pub passed_item : (c : Bool) (n d : ℕ) (bytes : List ℕ) → stream_out_item c n (Some d) (Data (pos d) [] bytes) ≡ BytesOut bytes
passed_item true n d bytes = refl
passed_item false n d bytes = rw (eqb_refl d) refl

pub passed_other : (c : Bool) (n : ℕ) (D : Option ℕ) (z : ℤ) (bytes : List ℕ) → c ≡ false → is_drawn_number D z ≡ false → stream_out_item c n D (Data z [] bytes) ≡ OtherOut
passed_other true n D z bytes e h = absurd cc
passed_other false n D z bytes e h = rw h refl

module _ (w : World) (l : ℕ) (c : ℤ) (error bytes : List ℕ) (rest : List Packet) (keys : Keys w) (first : (w.links l).up ≡ Data c error bytes ∷ rest) (there : not (is_gone (w.links l).server) ≡ true) where
  -- nothing is passed on
  abbrev dropped : World
  dropped = served (pos 0) (ignored w.server) (up_is l rest w)

  drops : ((d : ℕ) → (w.dials d).link ≡ l → is_drawn_number (w.dials d).cid c ≡ true → is_carrying (entry_at w.server d) ≡ false) → Lifts w dropped
  drops idle k came = by_dial (w.apps k).dial refl
    where
      by_key : (d : ℕ) → (w.apps k).dial ≡ Some d → (w.dials d).link ≡ l → (b : Bool) → is_drawn_number (w.dials d).cid c ≡ b → Follows (tunnel_of w (w.apps k) (Some d)) (tunnel_of dropped (w.apps k) (Some d))
      by_key d de at true key =
          let here : (w.links (w.dials d).link).up ≡ Data c error bytes ∷ rest = ap (λ i. (w.links i).up) at ∙ first in
          rw (at, eqb_refl l) (bytes_up (w.streams (w.apps k).stream).connect (w.apps k).number (phase_in w (w.apps k)) (w.apps k).side (w.streams (w.apps k).stream) d (entry_at w.server d) (w.dials d).cid (w.dials d).side (w.agents l) (w.links l)
          (Data c error bytes) rest bytes first (data_item d (w.dials d).cid c error bytes key) there (rw at at ((keys.ordered k came).up d de)) (w.streams (w.apps k).stream).down
          (rw (idle d at key) refl))
      by_key d de at false key = inl (rw (at, eqb_refl l, first, data_other d (w.dials d).cid c error bytes key) refl)

      by_link : (d : ℕ) → (w.apps k).dial ≡ Some d → (b : Bool) → ((w.dials d).link == l) ≡ b → Follows (tunnel_of w (w.apps k) (Some d)) (tunnel_of dropped (w.apps k) (Some d))
      by_link d de true at = by_key d de (eqb-true (w.dials d).link l at) (is_drawn_number (w.dials d).cid c) refl
      by_link d de false at = inl (rw at refl)

      by_dial : (D : Option ℕ) → (w.apps k).dial ≡ D → Follows (tunnel_of w (w.apps k) D) (tunnel_of dropped (w.apps k) D)
      by_dial None de = inl refl
      by_dial (Some d) de = by_link d de ((w.dials d).link == l) refl

  -- the entry is open
  module _ (e : HeldEntry) (at : first_where (is_held l c) w.server.held ≡ Some e) (f : ℕ) (front : e.front ≡ Some f) (opened : e.state ≡ Open) where
    abbrev passing : World
    passing = served (pos 0) (told w.server (data_to_front f e.dial (in_packets bytes))) (up_is l rest w)

    carries : is_carrying (entry_at w.server e.dial) ≡ true
    carries = rw (its_entry w keys l c e at, front, opened) refl

    -- what an app's stream is told
    told_other : (k : ℕ) → (w.apps k).came ≡ true → (D : Option ℕ) → (w.apps k).dial ≡ D → is_drawn_number D (pos e.dial) ≡ false → (b : Bool) → ((w.apps k).stream == f) ≡ b
        → stream_out_word (w.streams (w.apps k).stream).connect (w.apps k).number D (queued (w.streams (w.apps k).stream).client (w.streams (w.apps k).stream).down (for_front (w.apps k).stream (data_to_front f e.dial (in_packets bytes))))
        ≡ stream_out_word (w.streams (w.apps k).stream).connect (w.apps k).number D (w.streams (w.apps k).stream).down
    told_other k came D de other false be = rw (not_front (w.apps k).stream f e.dial (in_packets bytes) be) refl
    told_other k came D de other true be = here (own_or_other w keys e f k (its_entry w keys l c e at) front came (eqb-true (w.apps k).stream f be))
      where
        goal : Type 0
        goal = stream_out_word (w.streams (w.apps k).stream).connect (w.apps k).number D (queued (w.streams (w.apps k).stream).client (w.streams (w.apps k).stream).down (for_front (w.apps k).stream (data_to_front f e.dial (in_packets bytes))))
            ≡ stream_out_word (w.streams (w.apps k).stream).connect (w.apps k).number D (w.streams (w.apps k).stream).down

        here : ((w.apps k).dial ≡ Some e.dial) ⊎ (((w.streams f).connect ≡ false) × (is_drawn_number (w.apps k).dial (pos e.dial) ≡ false)) → goal
        here (inl own) = let yes : is_drawn_number D (pos e.dial) ≡ true = rw (sym de ∙ own, eqb_refl e.dial) refl in absurd cc
        here (inr two) = rw (at_front (w.apps k).stream f e.dial (in_packets bytes) be)
            (out_data_other (stream_out_item (w.streams (w.apps k).stream).connect (w.apps k).number D) (pos e.dial) (w.streams (w.apps k).stream).client (w.streams (w.apps k).stream).down (in_packets bytes)
            (λ x. passed_other (w.streams (w.apps k).stream).connect (w.apps k).number D (pos e.dial) x (ap (λ i. (w.streams i).connect) (eqb-true (w.apps k).stream f be) ∙ two.0) other))

    told_own : (k : ℕ) → (w.apps k).came ≡ true → (w.apps k).dial ≡ Some e.dial
        → stream_out_word (w.streams (w.apps k).stream).connect (w.apps k).number (Some e.dial) (queued (w.streams (w.apps k).stream).client (w.streams (w.apps k).stream).down (for_front (w.apps k).stream (data_to_front f e.dial (in_packets bytes))))
        ≡ record (stream_out_word (w.streams (w.apps k).stream).connect (w.apps k).number (Some e.dial) (w.streams (w.apps k).stream).down) { bytes = appended (w.streams (w.apps k).stream).client (stream_out_word (w.streams (w.apps k).stream).connect (w.apps k).number (Some e.dial) (w.streams (w.apps k).stream).down).bytes bytes }
    told_own k came de =
        let here : (w.apps k).stream ≡ f = (keys.server.held e.dial e (its_entry w keys l c e at)).front k f came de front in
        let same : ((w.apps k).stream == f) ≡ true = rw here (eqb_refl f) in
        rw (at_front (w.apps k).stream f e.dial (in_packets bytes) same)
        (out_data (stream_out_item (w.streams (w.apps k).stream).connect (w.apps k).number (Some e.dial)) (pos e.dial) (w.streams (w.apps k).stream).client (w.streams (w.apps k).stream).down (in_packets bytes)
        (λ x. passed_item (w.streams (w.apps k).stream).connect (w.apps k).number e.dial x)
        ∙ ap (λ x. record (stream_out_word (w.streams (w.apps k).stream).connect (w.apps k).number (Some e.dial) (w.streams (w.apps k).stream).down) { bytes = appended (w.streams (w.apps k).stream).client (stream_out_word (w.streams (w.apps k).stream).connect (w.apps k).number (Some e.dial) (w.streams (w.apps k).stream).down).bytes x }) (pieces_join bytes))

    finish_same : (i : ℕ) (b : Bool) → (i == f) ≡ b → (connect finished : Bool) → all_finish connect (for_front i (data_to_front f e.dial (in_packets bytes))) finished ≡ finished
    finish_same i true be connect finished = rw (at_front i f e.dial (in_packets bytes) be) (data_finishes connect (pos e.dial) (in_packets bytes) finished)
    finish_same i false be connect finished = rw (not_front i f e.dial (in_packets bytes) be) refl

    answer_same : (i : ℕ) (b : Bool) → (i == f) ≡ b → (connect : Bool) (phase : Phase) → all_answered connect (for_front i (data_to_front f e.dial (in_packets bytes))) phase ≡ phase
    answer_same i true be connect phase = rw (at_front i f e.dial (in_packets bytes) be) (data_answers connect (pos e.dial) (in_packets bytes) phase)
    answer_same i false be connect phase = rw (not_front i f e.dial (in_packets bytes) be) refl

    after_drawn : (k d : ℕ) → tunnel_of passing (passing.apps k) (Some d)
        ≡ drawn_tunnel (w.streams (w.apps k).stream).connect (w.apps k).number (phase_in w (w.apps k)) (w.apps k).side
        (record (w.streams (w.apps k).stream) { down = queued (w.streams (w.apps k).stream).client (w.streams (w.apps k).stream).down (for_front (w.apps k).stream (data_to_front f e.dial (in_packets bytes))) })
        d (entry_at w.server d) (w.dials d).cid (w.dials d).side (w.agents (w.dials d).link) (record (w.links (w.dials d).link) { up = cond ((w.dials d).link == l) rest (w.links (w.dials d).link).up })
    after_drawn k d =
        let q = data_to_fronts f e.dial (in_packets bytes) in
        rw (
          q.new d (w.dials d),
          q.link (w.dials d).link,
          q.cut (w.dials d).link,
          finish_same (w.apps k).stream ((w.apps k).stream == f) refl (w.streams (w.apps k).stream).connect (w.streams (w.apps k).stream).finished,
          answer_same (w.apps k).stream ((w.apps k).stream == f) refl (w.streams (w.apps k).stream).connect (w.apps k).phase,
        ) refl

    after_undrawn : (k : ℕ) → (w.apps k).came ≡ true → (w.apps k).dial ≡ None → tunnel_of passing (passing.apps k) None ≡ tunnel_of w (w.apps k) None
    after_undrawn k came de =
        rw (
          told_other k came None de refl ((w.apps k).stream == f) refl,
          finish_same (w.apps k).stream ((w.apps k).stream == f) refl (w.streams (w.apps k).stream).connect (w.streams (w.apps k).stream).finished,
          answer_same (w.apps k).stream ((w.apps k).stream == f) refl (w.streams (w.apps k).stream).connect (w.apps k).phase,
        ) refl

    passes : Lifts w passing
    passes k came =
        rw ((data_to_fronts f e.dial (in_packets bytes)).made (w.apps k).stream (asks (w.streams (w.apps k).stream).connect (w.apps k).number (pos 0)) (w.apps k).dial) (by_dial (w.apps k).dial refl)
      where
        by_key : (d : ℕ) → (w.apps k).dial ≡ Some d → (w.dials d).link ≡ l → (b : Bool) → is_drawn_number (w.dials d).cid c ≡ b → Follows (tunnel_of w (w.apps k) (Some d)) (tunnel_of passing (passing.apps k) (Some d))
        by_key d de on true key =
            let own : d ≡ e.dial = its_dial w keys l c e d at on key in
            rw (after_drawn k d, on, eqb_refl l) (bytes_up (w.streams (w.apps k).stream).connect (w.apps k).number (phase_in w (w.apps k)) (w.apps k).side (w.streams (w.apps k).stream) d (entry_at w.server d) (w.dials d).cid (w.dials d).side (w.agents l) (w.links l)
            (Data c error bytes) rest bytes first (data_item d (w.dials d).cid c error bytes key) there (rw on at ((keys.ordered k came).up d de))
            (queued (w.streams (w.apps k).stream).client (w.streams (w.apps k).stream).down (for_front (w.apps k).stream (data_to_front f e.dial (in_packets bytes))))
            (rw (own, carries) (told_own k came (de ∙ ap Some own))))
        by_key d de on false key =
            let other : (e.dial == d) ≡ false = not_its_dial w keys l c e d at (rw (key, on) (no_and (l == l))) in
            inl (after_drawn k d ∙ rw (on, eqb_refl l, first, data_other d (w.dials d).cid c error bytes key, told_other k came (Some d) de other ((w.apps k).stream == f) refl) refl)
          where
            no_and : (b : Bool) → (b && false) ≡ false
            no_and true = refl
            no_and false = refl

        by_link : (d : ℕ) → (w.apps k).dial ≡ Some d → (b : Bool) → ((w.dials d).link == l) ≡ b → Follows (tunnel_of w (w.apps k) (Some d)) (tunnel_of passing (passing.apps k) (Some d))
        by_link d de true on = by_key d de (eqb-true (w.dials d).link l on) (is_drawn_number (w.dials d).cid c) refl
        by_link d de false on =
            let other : (e.dial == d) ≡ false = not_its_dial w keys l c e d at (rw on refl) in
            inl (after_drawn k d ∙ rw (on, told_other k came (Some d) de other ((w.apps k).stream == f) refl) refl)

        by_dial : (D : Option ℕ) → (w.apps k).dial ≡ D → Follows (tunnel_of w (w.apps k) D) (tunnel_of passing (passing.apps k) D)
        by_dial None de = inl (after_undrawn k came de)
        by_dial (Some d) de = by_link d de ((w.dials d).link == l) refl

  -- an entry that is not open
  shut : (e : HeldEntry) → first_where (is_held l c) w.server.held ≡ Some e → (state : HeldState) (front : Option ℕ) → e.state ≡ state → e.front ≡ front → is_carrying (held_entry state front) ≡ false
      → (d : ℕ) → (w.dials d).link ≡ l → is_drawn_number (w.dials d).cid c ≡ true → is_carrying (entry_at w.server d) ≡ false
  shut e at state front es ef closed d on key = rw (its_dial w keys l c e d at on key, its_entry w keys l c e at, es, ef) closed

  pub data_lifts : (o : Option HeldEntry) → first_where (is_held l c) w.server.held ≡ o → Lifts w (served (pos 0) (data_down w.server bytes o) (up_is l rest w))
  data_lifts None at = drops (λ d on key. rw (not_held w keys l c d at on key) (idle (first_where (is_dial d) w.server.awaited)))
    where
      idle : (a : Option AwaitedEntry) → is_carrying (entry_of a None) ≡ false
      idle None = refl
      idle (Some a) = refl
  data_lifts (Some e) at = here e.state e.front refl refl
    where
      here : (state : HeldState) (front : Option ℕ) → e.state ≡ state → e.front ≡ front → Lifts w (served (pos 0) (open_down w.server bytes state front e.dial) (up_is l rest w))
      here Open (Some f) es ef = passes e at f ef es
      here Open None es ef = drops (shut e at Open None es ef refl)
      here Closing (Some f) es ef = drops (shut e at Closing (Some f) es ef refl)
      here Closing None es ef = drops (shut e at Closing None es ef refl)
