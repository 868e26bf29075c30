-- The server takes a refusal of a link: an awaited dial is refused to its front.
use Rattle.std.proofs.Common.{◌≡◌, ◌==◌, ◌≤◌, ℕ, ℤ, pos, Bool, true, false, not, List, [], ◌∷◌, length, Option, Some, None, inl, inr, refl, sym, ap, ◌∙◌, eqb-true}
use Rattle.kn_packet.specs.declared.packet.Packet.{Packet}
use Rattle.kn_packet.specs.declared.packet.Packet.TheVariants.{DialRsp}
use Rattle.kn_tables.specs.Lists.{first_where, without}
use Rattle.kn_tables.specs.Awaiting.{is_dial}
use Rattle.kn_tables.specs.Holding.{is_held_dial}
use Rattle.kn_tables.specs.declared.awaited_entry.AwaitedEntry.{AwaitedEntry}
use Rattle.kn_tables.specs.declared.held_entry.HeldEntry.{HeldEntry}
use Rattle.kn_tables.specs.declared.held_entry.HeldState.{HeldState}
use Rattle.kn_tables.specs.declared.held_entry.HeldState.TheVariants.{Closing, Open}
use Rattle.kn_server_core.specs.Isolation.{Each}
use Rattle.kn_server_core.specs.Packets.{refusal}
use Rattle.kn_server_core.specs.Server.{dial_at, ignored, of_link, refused_reply}
use Rattle.kn_tunnel.specs.Events as event
use Rattle.kn_tunnel.specs.Kinds.{is_gone}
use Rattle.kn_tunnel.specs.Steps as step
use Rattle.kn_tunnel.specs.Steps.{Follows}
use Rattle.kn_tunnel.specs.Tunnel.{Phase}
use Rattle.kn_words.specs.Numbers.{is_drawn_number, is_number}
use Rattle.kn_words.specs.Out.{stream_out_item, stream_out_word}
use Rattle.kn_words.specs.Up.{OtherUp, RefusalUp, up_item, up_ordered, up_word}
use Rattle.kn_packets.specs.Keys.{Keys, ReplyFits}
use Rattle.kn_packets.specs.Lifts.{Lifts}
use Rattle.kn_packets.specs.Moves.{served, up_is}
use Rattle.kn_packets.specs.Outputs.{all_answered, all_finish, asks, more_if, queued}
use Rattle.kn_packets.specs.World.{World, tunnel_of}
use Rattle.kn_packets.proofs.Fresh.{eqb_refl}
use Rattle.kn_packets.proofs.Queues.{out_other, out_refused}
use Rattle.kn_packets.proofs.Replies.{IsFor, awaited_gone, awaited_kept, awaited_unheld, found_awaited, none_awaited, not_asked, number_is, whole_error}
use Rattle.kn_packets.proofs.TakesRequest.{not_connect, phase_refused, refusal_not, refusal_own}
use Rattle.kn_packets.proofs.Taken.{or_false, up_other_taken, up_refusal_taken}

refusal_item : (dial : ℕ) (cid : Option ℕ) (x : ℕ) (xs : List ℕ) (c random : ℤ) → is_number dial random ≡ true → up_item dial cid (DialRsp (x ∷ xs) c random) ≡ RefusalUp
refusal_item dial cid x xs c random e = rw e refl

refusal_other : (dial : ℕ) (cid : Option ℕ) (x : ℕ) (xs : List ℕ) (c random : ℤ) → is_number dial random ≡ false → up_item dial cid (DialRsp (x ∷ xs) c random) ≡ OtherUp
refusal_other dial cid x xs c random e = rw e refl

module _ (w : World) (l x : ℕ) (xs : List ℕ) (c random : ℤ) (rest : List Packet) (keys : Keys w) (first : (w.links l).up ≡ DialRsp (x ∷ xs) c random ∷ rest) (there : not (is_gone (w.links l).server) ≡ true) where
  word_own : (d : ℕ) (cid : Option ℕ) → is_number d random ≡ true → up_ordered (up_item d cid) (w.links l).up ≡ true → up_word d cid rest ≡ record (up_word d cid (w.links l).up) { refusal = false }
  word_own d cid e o = rw first (up_refusal_taken (up_item d cid) (DialRsp (x ∷ xs) c random) rest (refusal_item d cid x xs c random e) (rw first at o))

  word_other : (d : ℕ) (cid : Option ℕ) → is_number d random ≡ false → up_word d cid rest ≡ up_word d cid (w.links l).up
  word_other d cid e = rw first (up_other_taken (up_item d cid) (DialRsp (x ∷ xs) c random) rest (refusal_other d cid x xs c random e))

  refused_up : (d : ℕ) (cid : Option ℕ) → is_number d random ≡ true → (up_word d cid (w.links l).up).refusal ≡ true
  refused_up d cid e = rw (first, refusal_item d cid x xs c random e) refl

  may_own : (k d : ℕ) → (w.dials d).link ≡ l → is_number d random ≡ true → step.may event.ServerTakesRefusal (tunnel_of w (w.apps k) (Some d)) ≡ true
  may_own k d on key = rw (on, there, refused_up d (w.dials d).cid key) refl

  -- nobody awaits it
  abbrev unawaited : World
  unawaited = served (pos 0) (ignored w.server) (up_is l rest w)

  unawaited_lifts : of_link l (dial_at random w.server.awaited) ≡ None → Lifts w unawaited
  unawaited_lifts none k came = by_dial (w.apps k).dial refl
    where
      no_change : (d : ℕ) → (w.apps k).dial ≡ Some d → (h : Option HeldEntry) → first_where (is_held_dial d) w.server.held ≡ h → first_where (is_dial d) w.server.awaited ≡ None → (w.dials d).link ≡ l → is_number d random ≡ true
          → tunnel_of unawaited (w.apps k) (Some d) ≡ step.after event.ServerTakesRefusal (tunnel_of w (w.apps k) (Some d))
      no_change d de None he ae on key = rw (ae, he, on, eqb_refl l, word_own d (w.dials d).cid key (rw on at ((keys.ordered k came).up d de))) refl
      no_change d de (Some h) he ae on key = by_state h.state h.front refl refl
        where
          by_state : (state : HeldState) (front : Option ℕ) → h.state ≡ state → h.front ≡ front → tunnel_of unawaited (w.apps k) (Some d) ≡ step.after event.ServerTakesRefusal (tunnel_of w (w.apps k) (Some d))
          by_state Open None es ef = rw (ae, he, es, ef, on, eqb_refl l, word_own d (w.dials d).cid key (rw on at ((keys.ordered k came).up d de))) refl
          by_state Closing None es ef = rw (ae, he, es, ef, on, eqb_refl l, word_own d (w.dials d).cid key (rw on at ((keys.ordered k came).up d de))) refl
          by_state Open (Some f) es ef = rw (ae, he, es, ef, on, eqb_refl l, word_own d (w.dials d).cid key (rw on at ((keys.ordered k came).up d de))) refl
          by_state Closing (Some f) es ef = rw (ae, he, es, ef, on, eqb_refl l, word_own d (w.dials d).cid key (rw on at ((keys.ordered k came).up d de))) refl

      by_key : (d : ℕ) → (w.apps k).dial ≡ Some d → (w.dials d).link ≡ l → (b : Bool) → is_number d random ≡ b → Follows (tunnel_of w (w.apps k) (Some d)) (tunnel_of unawaited (w.apps k) (Some d))
      by_key d de on true key = inr (event.ServerTakesRefusal, (may_own k d on key, tt), no_change d de (first_where (is_held_dial d) w.server.held) refl (none_awaited w keys l random d none (number_is d random key) on) on key)
      by_key d de on false key = inl (rw (on, eqb_refl l, word_other d (w.dials d).cid key) refl)

      by_link : (d : ℕ) → (w.apps k).dial ≡ Some d → (b : Bool) → ((w.dials d).link == l) ≡ b → Follows (tunnel_of w (w.apps k) (Some d)) (tunnel_of unawaited (w.apps k) (Some d))
      by_link d de true on = by_key d de (eqb-true (w.dials d).link l on) (is_number d random) refl
      by_link d de false on = inl (rw on refl)

      by_dial : (D : Option ℕ) → (w.apps k).dial ≡ D → Follows (tunnel_of w (w.apps k) D) (tunnel_of unawaited (w.apps k) D)
      by_dial None de = inl refl
      by_dial (Some d) de = by_link d de ((w.dials d).link == l) refl

  -- its front is told
  module _ (e : AwaitedEntry) (for : IsFor w l random e) where
    abbrev failed : World
    failed = served (pos 0) (record { state = record w.server { awaited = without (is_dial e.dial) w.server.awaited }; outs = refusal e.front e.random (x ∷ xs) ∷ [] }) (up_is l rest w)

    out_same : (k : ℕ) → (w.apps k).came ≡ true → (D : Option ℕ) → (w.apps k).dial ≡ D → is_drawn_number D (pos e.dial) ≡ false → (b : Bool) → ((w.apps k).stream == e.front) ≡ b
        → stream_out_word (w.streams (w.apps k).stream).connect (w.apps k).number D (queued (w.streams (w.apps k).stream).client (w.streams (w.apps k).stream).down (more_if b (DialRsp (x ∷ xs) (pos 0) e.random) []))
        ≡ stream_out_word (w.streams (w.apps k).stream).connect (w.apps k).number D (w.streams (w.apps k).stream).down
    out_same k came D de other false be = refl
    out_same k came D de other true be = out_other (stream_out_item (w.streams (w.apps k).stream).connect (w.apps k).number D) (w.streams (w.apps k).stream).client (w.streams (w.apps k).stream).down (DialRsp (x ∷ xs) (pos 0) e.random)
        (refusal_not (w.streams (w.apps k).stream).connect (w.apps k).number D x xs (pos 0) e.random
        (not_asked w keys l e k for.at came (eqb-true (w.apps k).stream e.front be) (ap (λ y. is_drawn_number y (pos e.dial)) de ∙ other)))

    finish_same : (k : ℕ) → (w.apps k).came ≡ true → is_drawn_number (w.apps k).dial (pos e.dial) ≡ false → (b : Bool) → ((w.apps k).stream == e.front) ≡ b
        → all_finish (w.streams (w.apps k).stream).connect (more_if b (DialRsp (x ∷ xs) (pos 0) e.random) []) (w.streams (w.apps k).stream).finished ≡ (w.streams (w.apps k).stream).finished
    finish_same k came other false be = refl
    finish_same k came other true be =
        rw (not_connect (w.streams (w.apps k).stream).connect (w.apps k).number e.random (not_asked w keys l e k for.at came (eqb-true (w.apps k).stream e.front be) other)) (or_false (w.streams (w.apps k).stream).finished)

    answer_same : (k : ℕ) → (w.apps k).came ≡ true → is_drawn_number (w.apps k).dial (pos e.dial) ≡ false → (b : Bool) → ((w.apps k).stream == e.front) ≡ b → (phase : Phase)
        → all_answered (w.streams (w.apps k).stream).connect (more_if b (DialRsp (x ∷ xs) (pos 0) e.random) []) phase ≡ phase
    answer_same k came other false be phase = refl
    answer_same k came other true be phase =
        rw (not_connect (w.streams (w.apps k).stream).connect (w.apps k).number e.random (not_asked w keys l e k for.at came (eqb-true (w.apps k).stream e.front be) other)) refl

    failed_lifts : Lifts w failed
    failed_lifts k came = by_dial (w.apps k).dial refl
      where
        its_link : (w.dials e.dial).link ≡ l
        its_link = (keys.server.awaited e.dial e for.at).link ∙ for.link

        others : (d : ℕ) → (w.apps k).dial ≡ Some d → (e.dial == d) ≡ false → (b : Bool) → ((w.dials d).link == l) ≡ b → tunnel_of failed (failed.apps k) (Some d) ≡ tunnel_of w (w.apps k) (Some d)
        others d de other true on = rw (
          awaited_kept w keys l e d for.at other,
          eqb-true (w.dials d).link l on,
          eqb_refl l,
          word_other d (w.dials d).cid (not_this d other),
          out_same k came (Some d) de other ((w.apps k).stream == e.front) refl,
          finish_same k came (rw de other) ((w.apps k).stream == e.front) refl,
          answer_same k came (rw de other) ((w.apps k).stream == e.front) refl (w.apps k).phase,
        ) refl
          where
            not_this : (d : ℕ) → (e.dial == d) ≡ false → is_number d random ≡ false
            not_this d other = rw for.named other
        others d de other false on = rw (
          awaited_kept w keys l e d for.at other,
          on,
          out_same k came (Some d) de other ((w.apps k).stream == e.front) refl,
          finish_same k came (rw de other) ((w.apps k).stream == e.front) refl,
          answer_same k came (rw de other) ((w.apps k).stream == e.front) refl (w.apps k).phase,
        ) refl

        own : (w.apps k).dial ≡ Some e.dial → Follows (tunnel_of w (w.apps k) (Some e.dial)) (tunnel_of failed (failed.apps k) (Some e.dial))
        own de =
            let fits = keys.server.awaited e.dial e for.at in
            let on : (w.apps k).stream ≡ e.front = fits.front k came de in
            let asked : asks (w.streams e.front).connect (w.apps k).number e.random ≡ true = rw on at (fits.random k came de) in
            let key : is_number e.dial random ≡ true = rw (for.named, eqb_refl e.dial) refl in
            inr (
              event.ServerTakesRefusal,
              (may_own k e.dial its_link key, tt),
              rw (
                awaited_gone w keys l e for.at,
                awaited_unheld w keys l e for.at,
                for.at,
                its_link,
                eqb_refl l,
                word_own e.dial (w.dials e.dial).cid key (rw its_link at ((keys.ordered k came).up e.dial de)),
                on,
                eqb_refl e.front,
                out_refused (stream_out_item (w.streams e.front).connect (w.apps k).number (Some e.dial)) (w.streams e.front).client (w.streams e.front).down (DialRsp (x ∷ xs) (pos 0) e.random)
                    (refusal_own (w.streams e.front).connect (w.apps k).number (Some e.dial) x xs (pos 0) e.random asked),
                phase_refused (w.streams e.front).connect,
              ) refl,
            )

        by_key : (d : ℕ) → (w.apps k).dial ≡ Some d → (b : Bool) → (e.dial == d) ≡ b → Follows (tunnel_of w (w.apps k) (Some d)) (tunnel_of failed (failed.apps k) (Some d))
        by_key d de true same = let m : e.dial ≡ d = eqb-true e.dial d same in rw (← m) (own (de ∙ ap Some (sym m)))
        by_key d de false other = inl (others d de other ((w.dials d).link == l) refl)

        by_dial : (D : Option ℕ) → (w.apps k).dial ≡ D → Follows (tunnel_of w (w.apps k) D) (tunnel_of failed (failed.apps k) D)
        by_dial None de = inl (rw (out_same k came None de refl ((w.apps k).stream == e.front) refl, finish_same k came (rw de refl) ((w.apps k).stream == e.front) refl, answer_same k came (rw de refl) ((w.apps k).stream == e.front) refl (w.apps k).phase) refl)
        by_dial (Some d) de = by_key d de (e.dial == d) refl

  pub short : length (x ∷ xs) ≤ 256
  short = let fits : Each (ReplyFits w l) (DialRsp (x ∷ xs) c random ∷ rest) = rw first at (keys.agents.replies l) in fits.0

  pub refusal_lifts : (o : Option AwaitedEntry) → of_link l (dial_at random w.server.awaited) ≡ o → Lifts w (served (pos 0) (refused_reply w.server (x ∷ xs) o) (up_is l rest w))
  refusal_lifts None at = unawaited_lifts at
  refusal_lifts (Some e) at = rw (whole_error x xs short) (failed_lifts e (found_awaited w keys l random e at))
