-- The server takes a cancel or a close of a front.
use Rattle.std.proofs.Common.{◌≡◌, ◌==◌, ◌&&◌, ℕ, ℤ, pos, Bool, true, false, not, List, [], ◌∷◌, map, Option, Some, None, inl, inr, refl, sym, ap, ◌∙◌, eqb-true}
use Rattle.std.specs.Option.{IsSome}
use Rattle.std.specs.Ordering.{int_eq}
use Rattle.std.proofs.lemmas.Bool.Decides.{Decides-int_eq}
use Rattle.kn_packet.specs.declared.packet.Packet.{Packet}
use Rattle.kn_packet.specs.declared.packet.Packet.TheVariants.{CloseReq, CloseRsp, DialCls}
use Rattle.kn_tables.specs.Lists.{first_where}
use Rattle.kn_tables.specs.Awaiting.{is_dial, is_random}
use Rattle.kn_tables.specs.Holding.{closed_at, closed_entry, is_held, is_held_dial}
use Rattle.kn_tables.specs.declared.awaited_entry.AwaitedEntry.{AwaitedEntry}
use Rattle.kn_tables.specs.declared.held_entry.HeldEntry.{HeldEntry}
use Rattle.kn_tables.specs.declared.held_entry.HeldState.{HeldState}
use Rattle.kn_tables.specs.declared.held_entry.HeldState.TheVariants.{Closing, Open}
use Rattle.kn_server_core.specs.Packets.{close_asked, close_refused}
use Rattle.kn_server_core.specs.Server.{close_from_front, close_own, dial_cancelled, held_at, ignored, own}
use Rattle.kn_server_core.proofs.FrontIsolation.{found_by_number}
use Rattle.kn_server_core.proofs.SoundLemmas.{closed_dial, none_mapped, not_missed, own_held, passes}
use Rattle.kn_server_core.proofs.TunnelTables.{false_unless, other_connection}
use Rattle.kn_tunnel.specs.Events as event
use Rattle.kn_tunnel.specs.Kinds.{is_awaited, is_empty, is_present}
use Rattle.kn_tunnel.specs.Steps as step
use Rattle.kn_tunnel.specs.Steps.{Follows}
use Rattle.kn_words.specs.Down.{down_item, down_word}
use Rattle.kn_words.specs.In.{CancelIn, CloseIn, OtherIn, in_ordered, stream_in_item, stream_in_word}
use Rattle.kn_words.specs.Numbers.{is_drawn_number, is_number}
use Rattle.kn_words.specs.Out.{CloseOut, OtherOut, stream_out_item}
use Rattle.kn_packets.specs.Keys.{Keys}
use Rattle.kn_packets.specs.Lifts.{Lifts}
use Rattle.kn_packets.specs.Moves.{in_is, served}
use Rattle.kn_packets.specs.Outputs.{more_if, queued}
use Rattle.kn_packets.specs.World.{World, entry_at, entry_of, held_entry, tunnel, tunnel_of}
use Rattle.kn_packets.proofs.Fresh.{eqb_refl}
use Rattle.kn_packets.proofs.Owners.{is_key, key_is, pos_one, some_one}
use Rattle.kn_packets.proofs.Queues.{down_closed, down_other, out_closed, out_other}
use Rattle.kn_packets.proofs.Replies.{awaited_gone, awaited_kept, awaited_unheld, number_is}
use Rattle.kn_packets.proofs.Tables.{mapped_found}
use Rattle.kn_packets.proofs.TakesInData.{IsOwn, found_own, none_own}
use Rattle.kn_packets.proofs.TakesReply.{close_down, far_closed, not_down}
use Rattle.kn_packets.proofs.Taken.{and_both, in_cancel_first, in_cancel_taken, in_close_order, in_close_taken, in_other_taken, or_false}

cancel_in : (n : ℕ) (D : Option ℕ) (random : ℤ) → is_number n random ≡ true → stream_in_item false n D (DialCls random) ≡ CancelIn
cancel_in n D random e = rw e refl

cancel_not : (n : ℕ) (D : Option ℕ) (random : ℤ) → is_number n random ≡ false → stream_in_item false n D (DialCls random) ≡ OtherIn
cancel_not n D random e = rw e refl

not_is : (b : Bool) → b ≡ false → not b ≡ true
not_is b e = rw e refl

-- ---- a cancel
module _ (w : World) (f : ℕ) (random : ℤ) (rest : List Packet) (keys : Keys w) (first : (w.streams f).up ≡ DialCls random ∷ rest) (present : is_present (w.streams f).front ≡ true) (client : (w.streams f).connect ≡ false) where
  cancel_own : (n : ℕ) (D : Option ℕ) → is_number n random ≡ true → in_ordered (stream_in_item false n D) (w.streams f).up ≡ true → stream_in_word false n D rest ≡ record (stream_in_word false n D (w.streams f).up) { cancel = false }
  cancel_own n D e o = rw first (in_cancel_taken (stream_in_item false n D) (DialCls random) rest (cancel_in n D random e) (rw first at o))

  cancel_other : (n : ℕ) (D : Option ℕ) → is_number n random ≡ false → stream_in_word false n D rest ≡ stream_in_word false n D (w.streams f).up
  cancel_other n D e = rw first (in_other_taken (stream_in_item false n D) (DialCls random) rest (cancel_not n D random e))

  cancel_may : (n : ℕ) (D : Option ℕ) → is_number n random ≡ true → in_ordered (stream_in_item false n D) (w.streams f).up ≡ true
      → (is_present (w.streams f).front && not (stream_in_word false n D (w.streams f).up).request && (stream_in_word false n D (w.streams f).up).cancel) ≡ true
  cancel_may n D e o = rw (present, no_request, cancels) refl
    where
      no_request : (stream_in_word false n D (w.streams f).up).request ≡ false
      no_request = rw first (in_cancel_first (stream_in_item false n D) (DialCls random) rest (cancel_in n D random e) (rw first at o))

      cancels : (stream_in_word false n D (w.streams f).up).cancel ≡ true
      cancels = rw (first, cancel_in n D random e) refl

  order : (k : ℕ) (D : Option ℕ) → (w.apps k).came ≡ true → (w.apps k).stream ≡ f → (w.apps k).dial ≡ D → in_ordered (stream_in_item false (w.apps k).number D) (w.streams f).up ≡ true
  order k D came on de = rw (on, de, client) at ((keys.ordered k came).inward)

  -- no dial of this random is awaited
  abbrev passed_by : World
  passed_by = served (pos 0) (ignored w.server) (in_is f rest w)

  unawaited_lifts : first_where (is_random f random) w.server.awaited ≡ None → Lifts w passed_by
  unawaited_lifts none k came = by_stream ((w.apps k).stream == f) refl
    where
      idle : (d : ℕ) → (w.apps k).dial ≡ Some d → (w.apps k).stream ≡ f → is_number (w.apps k).number random ≡ true → (a : Option AwaitedEntry) → first_where (is_dial d) w.server.awaited ≡ a → a ≡ None
      idle d de on key None ae = refl
      idle d de on key (Some a) ae =
          let fits = keys.server.awaited d a ae in
          let front : a.front ≡ f = sym (fits.front k came de) ∙ on in
          let asked : is_number (w.apps k).number a.random ≡ true = rw (on, client) at (fits.random k came de) in
          let named : a.random ≡ random = number_is (w.apps k).number a.random asked ∙ sym (number_is (w.apps k).number random key) in
          let here : is_random f random a ≡ true = and_both (a.front == f) (int_eq a.random random) (rw (front, eqb_refl f) refl) ((Decides-int_eq a.random random).1 named) in
          absurd (none_is (first_where (is_random f random) w.server.awaited) none (not_missed (is_dial d) (is_random f random) a w.server.awaited ae here))
        where
          none_is : (o : Option AwaitedEntry) → o ≡ None → IsSome o → ⊥
          none_is None e s = cc
          none_is (Some x) e s = absurd cc

      not_awaited : (h : Option HeldEntry) → is_awaited (entry_of None h) ≡ false
      not_awaited None = refl
      not_awaited (Some e) = by_state e.state e.front
        where
          by_state : (state : HeldState) (front : Option ℕ) → is_awaited (held_entry state front) ≡ false
          by_state Open None = refl
          by_state Closing None = refl
          by_state Open (Some g) = refl
          by_state Closing (Some g) = refl

      by_key : (D : Option ℕ) → (w.apps k).dial ≡ D → (w.apps k).stream ≡ f → (b : Bool) → is_number (w.apps k).number random ≡ b → Follows (tunnel_of w (w.apps k) D) (tunnel_of passed_by (w.apps k) D)
      by_key None de on true key = inr (event.ServerTakesCancel, (rw (on, client) (cancel_may (w.apps k).number None key (order k None came on de)), tt), rw (on, client, eqb_refl f, cancel_own (w.apps k).number None key (order k None came on de)) refl)
      by_key (Some d) de on true key =
          let na : is_awaited (entry_at w.server d) ≡ false = rw (idle d de on key (first_where (is_dial d) w.server.awaited) refl) (not_awaited (first_where (is_held_dial d) w.server.held)) in
          inr (
            event.ServerTakesCancel,
            (rw (on, client) (cancel_may (w.apps k).number (Some d) key (order k (Some d) came on de)), tt),
            rw (na, on, client, eqb_refl f, cancel_own (w.apps k).number (Some d) key (order k (Some d) came on de)) refl,
          )
      by_key None de on false key = inl (rw (on, client, eqb_refl f, cancel_other (w.apps k).number None key) refl)
      by_key (Some d) de on false key = inl (rw (on, client, eqb_refl f, cancel_other (w.apps k).number (Some d) key) refl)

      elsewhere : (D : Option ℕ) → ((w.apps k).stream == f) ≡ false → tunnel_of passed_by (w.apps k) D ≡ tunnel_of w (w.apps k) D
      elsewhere None on = rw on refl
      elsewhere (Some d) on = rw on refl

      by_stream : (b : Bool) → ((w.apps k).stream == f) ≡ b → Follows (tunnel w k) (tunnel passed_by k)
      by_stream true on = by_key (w.apps k).dial refl (eqb-true (w.apps k).stream f on) (is_number (w.apps k).number random) refl
      by_stream false on = inl (elsewhere (w.apps k).dial on)

  -- one is, and is forgotten
  module _ (e : AwaitedEntry) (at : first_where (is_random f random) w.server.awaited ≡ Some e) where
    abbrev forgotten : World
    forgotten = served (pos 0) (dial_cancelled w.server (Some e)) (in_is f rest w)

    its_parts : (e.front ≡ f) × (e.random ≡ random)
    its_parts = split (e.front == f) (int_eq e.random random) refl refl (passes (is_random f random) e w.server.awaited at)
      where
        split : (p q : Bool) → (e.front == f) ≡ p → int_eq e.random random ≡ q → (p && q) ≡ true → (e.front ≡ f) × (e.random ≡ random)
        split true true a b h = (eqb-true e.front f a, (Decides-int_eq e.random random).0 b)
        split true false a b h = absurd cc
        split false q a b h = absurd cc

    pub its_place : first_where (is_dial e.dial) w.server.awaited ≡ Some e
    its_place = found_by_number (λ (x : AwaitedEntry). x.dial) (is_random f random) e w.server.awaited keys.server.orderly.awaited_rise at

    its_app : (k : ℕ) → (w.apps k).came ≡ true → (w.apps k).stream ≡ f → is_number (w.apps k).number random ≡ true → (w.apps k).dial ≡ Some e.dial
    its_app k came on key = (keys.server.awaited e.dial e its_place).app k came (on ∙ sym its_parts.0) (rw (on, client, its_parts.1) key)

    cancelled_lifts : Lifts w forgotten
    cancelled_lifts k came = by_stream ((w.apps k).stream == f) refl
      where
        others : (d : ℕ) → (w.apps k).dial ≡ Some d → (e.dial == d) ≡ false → (w.apps k).stream ≡ f → is_number (w.apps k).number random ≡ false → tunnel_of forgotten (w.apps k) (Some d) ≡ tunnel_of w (w.apps k) (Some d)
        others d de other on key = rw (awaited_kept w keys 0 e d its_place other, on, client, eqb_refl f, cancel_other (w.apps k).number (Some d) key) refl

        own : (w.apps k).dial ≡ Some e.dial → (w.apps k).stream ≡ f → is_number (w.apps k).number random ≡ true → Follows (tunnel_of w (w.apps k) (Some e.dial)) (tunnel_of forgotten (w.apps k) (Some e.dial))
        own de on key = inr (
          event.ServerTakesCancel,
          (rw (on, client) (cancel_may (w.apps k).number (Some e.dial) key (order k (Some e.dial) came on de)), tt),
          rw (awaited_gone w keys 0 e its_place, awaited_unheld w keys 0 e its_place, its_place, on, client, eqb_refl f, cancel_own (w.apps k).number (Some e.dial) key (order k (Some e.dial) came on de)) refl,
        )

        -- the dial is of the app whose cancel it is, so another app's dial is another
        not_dial : (d : ℕ) → (w.apps k).dial ≡ Some d → is_number (w.apps k).number random ≡ false → (e.dial == d) ≡ false
        not_dial d de key = here (e.dial == d) refl
          where
            here : (b : Bool) → (e.dial == d) ≡ b → b ≡ false
            here false h = refl
            here true h =
                let same : e.dial ≡ d = eqb-true e.dial d h in let fits = keys.server.awaited e.dial e its_place in
                let on : (w.apps k).stream ≡ f = fits.front k came (de ∙ ap Some (sym same)) ∙ its_parts.0 in
                let asked : is_number (w.apps k).number random ≡ true = rw (on, client, its_parts.1) at (fits.random k came (de ∙ ap Some (sym same))) in
                absurd (cc (asked, key))

        by_key : (D : Option ℕ) → (w.apps k).dial ≡ D → (w.apps k).stream ≡ f → (b : Bool) → is_number (w.apps k).number random ≡ b → Follows (tunnel_of w (w.apps k) D) (tunnel_of forgotten (w.apps k) D)
        by_key None de on true key = let no_dial : None ≡ Some e.dial = sym de ∙ its_app k came on key in absurd cc
        by_key (Some d) de on true key =
            let same : d ≡ e.dial = some_one d e.dial (sym de ∙ its_app k came on key) in rw same (own (de ∙ ap Some same) on key)
        by_key None de on false key = inl (rw (on, client, eqb_refl f, cancel_other (w.apps k).number None key) refl)
        by_key (Some d) de on false key = inl (others d de (not_dial d de key) on key)

        elsewhere : (D : Option ℕ) → (w.apps k).dial ≡ D → ((w.apps k).stream == f) ≡ false → tunnel_of forgotten (w.apps k) D ≡ tunnel_of w (w.apps k) D
        elsewhere None de on = rw on refl
        elsewhere (Some d) de on = rw (awaited_kept w keys 0 e d its_place (not_there (e.dial == d) refl), on) refl
          where
            not_there : (b : Bool) → (e.dial == d) ≡ b → b ≡ false
            not_there false h = refl
            not_there true h =
                let same : e.dial ≡ d = eqb-true e.dial d h in let fits = keys.server.awaited e.dial e its_place in
                let there : (w.apps k).stream ≡ f = fits.front k came (de ∙ ap Some (sym same)) ∙ its_parts.0 in absurd (cc (rw there at on, eqb_refl f))

        by_stream : (b : Bool) → ((w.apps k).stream == f) ≡ b → Follows (tunnel w k) (tunnel forgotten k)
        by_stream true on = by_key (w.apps k).dial refl (eqb-true (w.apps k).stream f on) (is_number (w.apps k).number random) refl
        by_stream false on = inl (elsewhere (w.apps k).dial refl on)

  pub cancel_lifts : (o : Option AwaitedEntry) → first_where (is_random f random) w.server.awaited ≡ o → Lifts w (served (pos 0) (dial_cancelled w.server o) (in_is f rest w))
  cancel_lifts None at = unawaited_lifts at
  cancel_lifts (Some e) at = cancelled_lifts e at

-- ---- a close
close_in : (n : ℕ) (D : Option ℕ) (c : ℤ) → is_drawn_number D c ≡ true → stream_in_item false n D (CloseReq c) ≡ CloseIn
close_in n D c e = rw e refl

close_not : (n : ℕ) (D : Option ℕ) (c : ℤ) → is_drawn_number D c ≡ false → stream_in_item false n D (CloseReq c) ≡ OtherIn
close_not n D c e = rw e refl

pub closed_out : (n : ℕ) (D : Option ℕ) (c : ℤ) (error : List ℕ) → is_drawn_number D c ≡ true → stream_out_item false n D (CloseRsp error c) ≡ CloseOut
closed_out n D c error e = rw e refl

pub closed_not : (n : ℕ) (D : Option ℕ) (c : ℤ) (error : List ℕ) → is_drawn_number D c ≡ false → stream_out_item false n D (CloseRsp error c) ≡ OtherOut
closed_not n D c error e = rw e refl

may_close : (p r c e q : Bool) → p ≡ true → (r && c && e) ≡ true → q ≡ true → (p && r && c && e && q) ≡ true
may_close true true true true q a b h = h
may_close true true true false q a b h = absurd cc
may_close true true false e q a b h = absurd cc
may_close true false c e q a b h = absurd cc
may_close false r c e q a b h = absurd cc

module _ (w : World) (f : ℕ) (c : ℤ) (rest : List Packet) (keys : Keys w) (first : (w.streams f).up ≡ CloseReq c ∷ rest) (present : is_present (w.streams f).front ≡ true) (client : (w.streams f).connect ≡ false) where
  close_word : (n : ℕ) (D : Option ℕ) → is_drawn_number D c ≡ true → in_ordered (stream_in_item false n D) (w.streams f).up ≡ true → stream_in_word false n D rest ≡ record (stream_in_word false n D (w.streams f).up) { close = false }
  close_word n D e o = rw first (in_close_taken (stream_in_item false n D) (CloseReq c) rest (close_in n D c e) (rw first at o))

  close_other : (n : ℕ) (D : Option ℕ) → is_drawn_number D c ≡ false → stream_in_word false n D rest ≡ stream_in_word false n D (w.streams f).up
  close_other n D e = rw first (in_other_taken (stream_in_item false n D) (CloseReq c) rest (close_not n D c e))

  pub close_may : (n : ℕ) (D : Option ℕ) → is_drawn_number D c ≡ true → in_ordered (stream_in_item false n D) (w.streams f).up ≡ true
      → (is_present (w.streams f).front && not (stream_in_word false n D (w.streams f).up).request && not (stream_in_word false n D (w.streams f).up).cancel && is_empty (stream_in_word false n D (w.streams f).up).bytes && (stream_in_word false n D (w.streams f).up).close) ≡ true
  close_may n D e o = may_close (is_present (w.streams f).front) (not (stream_in_word false n D (w.streams f).up).request) (not (stream_in_word false n D (w.streams f).up).cancel) (is_empty (stream_in_word false n D (w.streams f).up).bytes) (stream_in_word false n D (w.streams f).up).close
      present (rw first (in_close_order (stream_in_item false n D) (CloseReq c) rest (close_in n D c e) (rw first at o))) (rw (first, close_in n D c e) refl)

  pub in_turn : (k : ℕ) (D : Option ℕ) → (w.apps k).came ≡ true → (w.apps k).stream ≡ f → (w.apps k).dial ≡ D → in_ordered (stream_in_item false (w.apps k).number D) (w.streams f).up ≡ true
  in_turn k D came on de = rw (on, de, client) at ((keys.ordered k came).inward)

  may : (k d : ℕ) → (w.apps k).came ≡ true → (w.apps k).stream ≡ f → (w.apps k).dial ≡ Some d → is_number d c ≡ true → step.may event.ServerTakesClose (tunnel_of w (w.apps k) (Some d)) ≡ true
  may k d came on de key = rw (on, client) (close_may (w.apps k).number (Some d) key (in_turn k (Some d) came on de))

  -- the front has no such tunnel
  module _ (x : ℕ) (xs : List ℕ) where
    abbrev unknown : World
    unknown = served (pos 0) (record { state = w.server; outs = close_refused f c (x ∷ xs) ∷ [] }) (in_is f rest w)

    unknown_lifts : own f (held_at c w.server.held) ≡ None → Lifts w unknown
    unknown_lifts none k came = by_stream ((w.apps k).stream == f) refl
      where
        own_eq : (d : ℕ) → (w.apps k).dial ≡ Some d → (w.apps k).stream ≡ f → is_number d c ≡ true → (a : Option AwaitedEntry) (h : Option HeldEntry) → first_where (is_dial d) w.server.awaited ≡ a → first_where (is_held_dial d) w.server.held ≡ h
            → tunnel_of unknown (unknown.apps k) (Some d) ≡ step.after event.ServerTakesClose (tunnel_of w (w.apps k) (Some d))
        own_eq d de on key None None ae he = rw (
          ae,
          he,
          on,
          client,
          eqb_refl f,
          close_word (w.apps k).number (Some d) key (in_turn k (Some d) came on de),
          out_closed (stream_out_item false (w.apps k).number (Some d)) (w.streams f).client (w.streams f).down (CloseRsp (x ∷ xs) c) (closed_out (w.apps k).number (Some d) c (x ∷ xs) key),
        ) refl
        own_eq d de on key (Some a) None ae he = rw (
          ae,
          he,
          on,
          client,
          eqb_refl f,
          close_word (w.apps k).number (Some d) key (in_turn k (Some d) came on de),
          out_closed (stream_out_item false (w.apps k).number (Some d)) (w.streams f).client (w.streams f).down (CloseRsp (x ∷ xs) c) (closed_out (w.apps k).number (Some d) c (x ∷ xs) key),
        ) refl
        own_eq d de on key a (Some e) ae he = rw (
          he,
          none_own w keys f c k d none came de on (number_is d c key) e he,
          on,
          client,
          eqb_refl f,
          close_word (w.apps k).number (Some d) key (in_turn k (Some d) came on de),
          out_closed (stream_out_item false (w.apps k).number (Some d)) (w.streams f).client (w.streams f).down (CloseRsp (x ∷ xs) c) (closed_out (w.apps k).number (Some d) c (x ∷ xs) key),
        ) refl

        by_key : (D : Option ℕ) → (w.apps k).dial ≡ D → (w.apps k).stream ≡ f → (b : Bool) → is_drawn_number D c ≡ b → Follows (tunnel_of w (w.apps k) D) (tunnel_of unknown (unknown.apps k) D)
        by_key None de on true key = absurd cc
        by_key None de on false key = inl (rw (
          on,
          client,
          eqb_refl f,
          close_other (w.apps k).number None key,
          out_other (stream_out_item false (w.apps k).number None) (w.streams f).client (w.streams f).down (CloseRsp (x ∷ xs) c) (closed_not (w.apps k).number None c (x ∷ xs) key),
          or_false (w.streams f).finished,
        ) refl)
        by_key (Some d) de on true key = inr (event.ServerTakesClose, (may k d came on de key, tt), own_eq d de on key (first_where (is_dial d) w.server.awaited) (first_where (is_held_dial d) w.server.held) refl refl)
        by_key (Some d) de on false key = inl (rw (
          on,
          client,
          eqb_refl f,
          close_other (w.apps k).number (Some d) key,
          out_other (stream_out_item false (w.apps k).number (Some d)) (w.streams f).client (w.streams f).down (CloseRsp (x ∷ xs) c) (closed_not (w.apps k).number (Some d) c (x ∷ xs) key),
          or_false (w.streams f).finished,
        ) refl)

        elsewhere : (D : Option ℕ) → ((w.apps k).stream == f) ≡ false → tunnel_of unknown (unknown.apps k) D ≡ tunnel_of w (w.apps k) D
        elsewhere None on = rw on refl
        elsewhere (Some d) on = rw on refl

        by_stream : (b : Bool) → ((w.apps k).stream == f) ≡ b → Follows (tunnel w k) (tunnel unknown k)
        by_stream true on = by_key (w.apps k).dial refl (eqb-true (w.apps k).stream f on) (is_drawn_number (w.apps k).dial c) refl
        by_stream false on = inl (elsewhere (w.apps k).dial on)

  -- it has, and asked already
  module _ (e : HeldEntry) (is : IsOwn w f c e) where
    its : (k d : ℕ) → is_number d c ≡ true → d ≡ e.dial
    its k d key = pos_one d e.dial (sym (number_is d c key) ∙ is.named)

    not_off : (k d : ℕ) → (w.apps k).came ≡ true → (w.apps k).dial ≡ Some d → ((w.apps k).stream == f) ≡ false → (e.dial == d) ≡ false
    not_off k d came de on = here (e.dial == d) refl
      where
        here : (b : Bool) → (e.dial == d) ≡ b → b ≡ false
        here false h = refl
        here true h =
            let same : e.dial ≡ d = eqb-true e.dial d h in
            let there : (w.apps k).stream ≡ f = (keys.server.held e.dial e is.at).front k f came (de ∙ ap Some (sym same)) is.front in absurd (cc (rw there at on, eqb_refl f))

    not_named : (d : ℕ) → is_number d c ≡ false → (e.dial == d) ≡ false
    not_named d key = rw is.named at key

    abbrev ignoring : World
    ignoring = served (pos 0) (ignored w.server) (in_is f rest w)

    ignoring_lifts : e.state ≡ Closing → Lifts w ignoring
    ignoring_lifts closing k came = by_stream ((w.apps k).stream == f) refl
      where
        by_key : (D : Option ℕ) → (w.apps k).dial ≡ D → (w.apps k).stream ≡ f → (b : Bool) → is_drawn_number D c ≡ b → Follows (tunnel_of w (w.apps k) D) (tunnel_of ignoring (w.apps k) D)
        by_key None de on true key = absurd cc
        by_key None de on false key = inl (rw (on, client, eqb_refl f, close_other (w.apps k).number None key) refl)
        by_key (Some d) de on true key = inr (
          event.ServerTakesClose,
          (may k d came on de key, tt),
          rw (ap (λ i. first_where (is_held_dial i) w.server.held) (its k d key) ∙ is.at, closing, is.front, on, client, eqb_refl f, close_word (w.apps k).number (Some d) key (in_turn k (Some d) came on de)) refl,
        )
        by_key (Some d) de on false key = inl (rw (on, client, eqb_refl f, close_other (w.apps k).number (Some d) key) refl)

        elsewhere : (D : Option ℕ) → ((w.apps k).stream == f) ≡ false → tunnel_of ignoring (w.apps k) D ≡ tunnel_of w (w.apps k) D
        elsewhere None on = rw on refl
        elsewhere (Some d) on = rw on refl

        by_stream : (b : Bool) → ((w.apps k).stream == f) ≡ b → Follows (tunnel w k) (tunnel ignoring k)
        by_stream true on = by_key (w.apps k).dial refl (eqb-true (w.apps k).stream f on) (is_drawn_number (w.apps k).dial c) refl
        by_stream false on = inl (elsewhere (w.apps k).dial on)

    -- the agent is asked to close
    abbrev asking : World
    asking = served (pos 0) (record { state = record w.server { held = map (closed_at e.link e.connect_id true) w.server.held }; outs = close_asked e.link e.connect_id ∷ [] }) (in_is f rest w)

    pub held_own : first_where (is_held_dial e.dial) (map (closed_at e.link e.connect_id true) w.server.held) ≡ Some (closed_entry true e)
    held_own = mapped_found (closed_at e.link e.connect_id true) e.dial e w.server.held (λ y. closed_dial e.link e.connect_id true y) is.at ∙ ap Some (rw (own_held e) refl)

    pub held_other : (d : ℕ) → (e.dial == d) ≡ false → first_where (is_held_dial d) (map (closed_at e.link e.connect_id true) w.server.held) ≡ first_where (is_held_dial d) w.server.held
    held_other d other = here (first_where (is_held_dial d) w.server.held) refl
      where
        here : (o : Option HeldEntry) → first_where (is_held_dial d) w.server.held ≡ o → first_where (is_held_dial d) (map (closed_at e.link e.connect_id true) w.server.held) ≡ o
        here None h = none_mapped (closed_at e.link e.connect_id true) d (λ y. closed_dial e.link e.connect_id true y) w.server.held h
        here (Some y) h =
            let named : y.dial ≡ d = eqb-true y.dial d (passes (is_held_dial d) y w.server.held h) in
            let apart : (y.dial == e.dial) ≡ false = false_unless (y.dial == e.dial) (λ i. let m : e.dial ≡ d = sym (eqb-true y.dial e.dial i) ∙ named in cc (rw m at other, eqb_refl d)) in
            let not_it : is_held e.link e.connect_id y ≡ false = other_connection w.server y e e.dial keys.server.orderly (ap (λ i. first_where (is_held_dial i) w.server.held) named ∙ h) is.at apart in
            mapped_found (closed_at e.link e.connect_id true) d y w.server.held (λ z. closed_dial e.link e.connect_id true z) h ∙ ap Some (rw not_it refl)

    down_same : (d : ℕ) → (e.dial == d) ≡ false → (b : Bool) → ((w.dials d).link == e.link) ≡ b
        → down_word (w.dials d).cid (queued (not (w.agents (w.dials d).link).lost) (w.links (w.dials d).link).down (more_if b (CloseReq e.connect_id) [])) ≡ down_word (w.dials d).cid (w.links (w.dials d).link).down
    down_same d other false on = refl
    down_same d other true on = down_other (down_item (w.dials d).cid) (not (w.agents (w.dials d).link).lost) (w.links (w.dials d).link).down (CloseReq e.connect_id) (not_down (w.dials d).cid e.connect_id (here (is_drawn_number (w.dials d).cid e.connect_id) refl))
      where
        here : (b : Bool) → is_drawn_number (w.dials d).cid e.connect_id ≡ b → b ≡ false
        here false h = refl
        here true h =
            let fits = keys.server.held e.dial e is.at in let named = is_key (w.dials d).cid e.connect_id h in
            let same : e.dial ≡ d = keys.agents.cid_once e.dial d fits.cid (fits.link ∙ sym (eqb-true (w.dials d).link e.link on)) fits.drawn (named.1 ∙ ap Some (pos_one named.0 fits.cid (sym named.2 ∙ fits.named))) in
            absurd (cc (rw same at other, eqb_refl d))

    asking_lifts : e.state ≡ Open → Lifts w asking
    asking_lifts opened k came = by_stream ((w.apps k).stream == f) refl
      where
        own_eq : (w.apps k).dial ≡ Some e.dial → (w.apps k).stream ≡ f → is_number e.dial c ≡ true → tunnel_of asking (asking.apps k) (Some e.dial) ≡ step.after event.ServerTakesClose (tunnel_of w (w.apps k) (Some e.dial))
        own_eq de on key =
            let fits = keys.server.held e.dial e is.at in
            let drawn : is_drawn_number (w.dials e.dial).cid e.connect_id ≡ true = key_is (w.dials e.dial).cid e.connect_id fits.cid fits.drawn fits.named in
            rw (
              held_own,
              is.at,
              opened,
              is.front,
              on,
              client,
              eqb_refl f,
              close_word (w.apps k).number (Some e.dial) key (in_turn k (Some e.dial) came on de),
              fits.link,
              eqb_refl e.link,
              far_closed e.dial (w.dials e.dial).cid (w.agents e.link) (not (w.agents e.link).lost) true (w.links e.link).down e.connect_id,
              down_closed (down_item (w.dials e.dial).cid) (not (w.agents e.link).lost) (w.links e.link).down (CloseReq e.connect_id) (close_down (w.dials e.dial).cid e.connect_id drawn),
            ) refl

        by_key : (D : Option ℕ) → (w.apps k).dial ≡ D → (w.apps k).stream ≡ f → (b : Bool) → is_drawn_number D c ≡ b → Follows (tunnel_of w (w.apps k) D) (tunnel_of asking (asking.apps k) D)
        by_key None de on true key = absurd cc
        by_key None de on false key = inl (rw (on, client, eqb_refl f, close_other (w.apps k).number None key) refl)
        by_key (Some d) de on true key =
            let same : d ≡ e.dial = its k d key in
            inr (event.ServerTakesClose, (may k d came on de key, tt), rw same (own_eq (de ∙ ap Some same) on (rw same at key)))
        by_key (Some d) de on false key =
            let other = not_named d key in
            inl (rw (
              held_other d other,
              on,
              client,
              eqb_refl f,
              close_other (w.apps k).number (Some d) key,
              down_same d other ((w.dials d).link == e.link) refl,
              far_closed d (w.dials d).cid (w.agents (w.dials d).link) (not (w.agents (w.dials d).link).lost) ((w.dials d).link == e.link) (w.links (w.dials d).link).down e.connect_id,
            ) refl)

        elsewhere : (D : Option ℕ) → (w.apps k).dial ≡ D → ((w.apps k).stream == f) ≡ false → tunnel_of asking (asking.apps k) D ≡ tunnel_of w (w.apps k) D
        elsewhere None de on = rw on refl
        elsewhere (Some d) de on =
            let other = not_off k d came de on in
            rw (
              held_other d other,
              on,
              down_same d other ((w.dials d).link == e.link) refl,
              far_closed d (w.dials d).cid (w.agents (w.dials d).link) (not (w.agents (w.dials d).link).lost) ((w.dials d).link == e.link) (w.links (w.dials d).link).down e.connect_id,
            ) refl

        by_stream : (b : Bool) → ((w.apps k).stream == f) ≡ b → Follows (tunnel w k) (tunnel asking k)
        by_stream true on = by_key (w.apps k).dial refl (eqb-true (w.apps k).stream f on) (is_drawn_number (w.apps k).dial c) refl
        by_stream false on = inl (elsewhere (w.apps k).dial refl on)

  pub in_close_lifts : (o : Option HeldEntry) → own f (held_at c w.server.held) ≡ o → Lifts w (served (pos 0) (close_from_front w.server f c o) (in_is f rest w))
  in_close_lifts None at = unknown_lifts _ _ at
  in_close_lifts (Some e) at = here e.state refl
    where
      here : (state : HeldState) → e.state ≡ state → Lifts w (served (pos 0) (close_own w.server state e) (in_is f rest w))
      here Open es = asking_lifts e (found_own w f c e at) es
      here Closing es = ignoring_lifts e (found_own w f c e at) es
