-- The server takes a close of a link: the entry of the connection goes, and its front is told.
use Rattle.std.proofs.Common.{◌≡◌, ◌==◌, ◌&&◌, ℕ, ℤ, pos, Bool, true, false, not, List, [], ◌∷◌, Option, Some, None, pred, inl, inr, refl, ap, ◌∙◌, eqb-true}
use Rattle.kn_packet.specs.declared.packet.Packet.{Packet}
use Rattle.kn_packet.specs.declared.packet.Packet.TheVariants.{CloseRsp}
use Rattle.kn_tables.specs.Lists.{first_where, without}
use Rattle.kn_tables.specs.Awaiting.{is_dial}
use Rattle.kn_tables.specs.Holding.{is_held, is_held_dial}
use Rattle.kn_tables.specs.declared.awaited_entry.AwaitedEntry.{AwaitedEntry}
use Rattle.kn_tables.specs.declared.held_entry.HeldEntry.{HeldEntry}
use Rattle.kn_tables.specs.declared.held_entry.HeldState.{HeldState}
use Rattle.kn_tables.specs.declared.held_entry.HeldState.TheVariants.{Closing, Open}
use Rattle.kn_server_core.specs.Server.{ended_to, ignored, tunnel_ended}
use Rattle.kn_server_core.specs.Texts.{error_cut}
use Rattle.kn_tunnel.specs.Events as event
use Rattle.kn_tunnel.specs.Kinds.{is_empty, is_gone, is_zero}
use Rattle.kn_tunnel.specs.Steps as step
use Rattle.kn_tunnel.specs.Steps.{Follows, one_more_close}
use Rattle.kn_tunnel.specs.Tunnel.{Phase}
use Rattle.kn_words.specs.Numbers.{is_drawn_number}
use Rattle.kn_words.specs.Out.{CloseOut, OtherOut, stream_out_item, stream_out_word}
use Rattle.kn_words.specs.Up.{CloseUp, OtherUp, up_item, up_ordered, up_word}
use Rattle.kn_packets.specs.Keys.{Keys}
use Rattle.kn_packets.specs.Lifts.{Lifts}
use Rattle.kn_packets.specs.Moves.{served, up_is}
use Rattle.kn_packets.specs.Outputs.{all_answered, all_finish, more_if, queued}
use Rattle.kn_packets.specs.World.{World, tunnel_of}
use Rattle.kn_packets.proofs.Fresh.{eqb_refl}
use Rattle.kn_packets.proofs.Owners.{a_client, cond_same, its_dial, its_entry, not_held, not_its_dial}
use Rattle.kn_packets.proofs.Queues.{out_closed, out_other}
use Rattle.kn_packets.proofs.Tables.{gone_without, kept_without}
use Rattle.kn_packets.proofs.Taken.{or_false, up_close_order, up_close_taken, up_other_taken}

close_item : (dial : ℕ) (cid : Option ℕ) (c : ℤ) (error : List ℕ) → is_drawn_number cid c ≡ true → up_item dial cid (CloseRsp error c) ≡ CloseUp
close_item dial cid c error e = rw e refl

close_other : (dial : ℕ) (cid : Option ℕ) (c : ℤ) (error : List ℕ) → is_drawn_number cid c ≡ false → up_item dial cid (CloseRsp error c) ≡ OtherUp
close_other dial cid c error e = rw e refl

pub ended_item : (c : Bool) (n d : ℕ) (error : List ℕ) → stream_out_item c n (Some d) (CloseRsp error (pos d)) ≡ CloseOut
ended_item true n d error = refl
ended_item false n d error = rw (eqb_refl d) refl

pub ended_other : (c : Bool) (n : ℕ) (D : Option ℕ) (z : ℤ) (error : List ℕ) → c ≡ false → is_drawn_number D z ≡ false → stream_out_item c n D (CloseRsp error z) ≡ OtherOut
ended_other true n D z error e h = absurd cc
ended_other false n D z error e h = rw h refl

no_and : (b : Bool) → (b && false) ≡ false
no_and true = refl
no_and false = refl

module _ (w : World) (l : ℕ) (c : ℤ) (error : List ℕ) (rest : List Packet) (keys : Keys w) (first : (w.links l).up ≡ CloseRsp error c ∷ rest) (there : not (is_gone (w.links l).server) ≡ true) where
  word_own : (d : ℕ) (cid : Option ℕ) → is_drawn_number cid c ≡ true → up_word d cid rest ≡ record (up_word d cid (w.links l).up) { closes = pred (up_word d cid (w.links l).up).closes }
  word_own d cid e = rw first (up_close_taken (up_item d cid) (CloseRsp error c) rest (close_item d cid c error e))

  word_other : (d : ℕ) (cid : Option ℕ) → is_drawn_number cid c ≡ false → up_word d cid rest ≡ up_word d cid (w.links l).up
  word_other d cid e = rw first (up_other_taken (up_item d cid) (CloseRsp error c) rest (close_other d cid c error e))

  order_own : (d : ℕ) (cid : Option ℕ) → is_drawn_number cid c ≡ true → up_ordered (up_item d cid) (w.links l).up ≡ true
      → (not (up_word d cid (w.links l).up).reply && is_empty (up_word d cid (w.links l).up).bytes && not (is_zero (up_word d cid (w.links l).up).closes)) ≡ true
  order_own d cid e o = rw first (up_close_order (up_item d cid) (CloseRsp error c) rest (close_item d cid c error e) (rw first at o))

  may_own : (k d : ℕ) → (w.apps k).came ≡ true → (w.apps k).dial ≡ Some d → (w.dials d).link ≡ l → is_drawn_number (w.dials d).cid c ≡ true → step.may event.ServerTakesCloseReply (tunnel_of w (w.apps k) (Some d)) ≡ true
  may_own k d came de on key = rw (on, there) (order_own d (w.dials d).cid key (rw on at ((keys.ordered k came).up d de)))

  -- the connection is not held
  abbrev unheld : World
  unheld = served (pos 0) (ignored w.server) (up_is l rest w)

  unheld_lifts : first_where (is_held l c) w.server.held ≡ None → Lifts w unheld
  unheld_lifts none k came = by_dial (w.apps k).dial refl
    where
      no_change : (d : ℕ) (a : Option AwaitedEntry) → first_where (is_dial d) w.server.awaited ≡ a → first_where (is_held_dial d) w.server.held ≡ None → (w.dials d).link ≡ l → is_drawn_number (w.dials d).cid c ≡ true
          → tunnel_of unheld (w.apps k) (Some d) ≡ step.after event.ServerTakesCloseReply (tunnel_of w (w.apps k) (Some d))
      no_change d None ae he on key = rw (ae, he, on, eqb_refl l, word_own d (w.dials d).cid key) refl
      no_change d (Some a) ae he on key = rw (ae, he, on, eqb_refl l, word_own d (w.dials d).cid key) refl

      by_key : (d : ℕ) → (w.apps k).dial ≡ Some d → (w.dials d).link ≡ l → (b : Bool) → is_drawn_number (w.dials d).cid c ≡ b → Follows (tunnel_of w (w.apps k) (Some d)) (tunnel_of unheld (w.apps k) (Some d))
      by_key d de on true key = inr (event.ServerTakesCloseReply, (may_own k d came de on key, tt), no_change d (first_where (is_dial d) w.server.awaited) refl (not_held w keys l c d none on key) on key)
      by_key d de on false key = inl (rw (on, eqb_refl l, word_other d (w.dials d).cid key) refl)

      by_link : (d : ℕ) → (w.apps k).dial ≡ Some d → (b : Bool) → ((w.dials d).link == l) ≡ b → Follows (tunnel_of w (w.apps k) (Some d)) (tunnel_of unheld (w.apps k) (Some d))
      by_link d de true on = by_key d de (eqb-true (w.dials d).link l on) (is_drawn_number (w.dials d).cid c) refl
      by_link d de false on = inl (rw on refl)

      by_dial : (D : Option ℕ) → (w.apps k).dial ≡ D → Follows (tunnel_of w (w.apps k) D) (tunnel_of unheld (w.apps k) D)
      by_dial None de = inl refl
      by_dial (Some d) de = by_link d de ((w.dials d).link == l) refl

  -- it is held
  module _ (e : HeldEntry) (at : first_where (is_held l c) w.server.held ≡ Some e) where
    abbrev fewer : List HeldEntry
    fewer = without (is_held l c) w.server.held

    abbrev ends : Option ℕ → World
    ends front = served (pos 0) (record { state = record w.server { held = without (is_held l c) w.server.held }; outs = ended_to front e.dial (error_cut error) }) (up_is l rest w)

    -- no entry is left of its dial, and the others stay
    pub gone : first_where (is_held_dial e.dial) (without (is_held l c) w.server.held) ≡ None
    gone = gone_without (λ (x : HeldEntry). x.dial) (is_held l c) e.dial e w.server.held keys.server.orderly.held_rise (its_entry w keys l c e at) at

    pub kept : (d : ℕ) → (e.dial == d) ≡ false → first_where (is_held_dial d) (without (is_held l c) w.server.held) ≡ first_where (is_held_dial d) w.server.held
    kept d other = kept_without (is_held_dial d) (is_held l c) e w.server.held at other

    not_awaited : first_where (is_dial e.dial) w.server.awaited ≡ None
    not_awaited = here (first_where (is_dial e.dial) w.server.awaited) refl
      where
        here : (o : Option AwaitedEntry) → first_where (is_dial e.dial) w.server.awaited ≡ o → o ≡ None
        here None f = refl
        here (Some a) f = let held : first_where (is_held_dial e.dial) w.server.held ≡ None = keys.server.orderly.sound.apart e.dial (rw f refl) in absurd (cc (held, its_entry w keys l c e at))

    -- its front is gone
    frontless : e.front ≡ None → Lifts w (ends None)
    frontless front k came = by_dial (w.apps k).dial refl
      where
        own : (d : ℕ) → (w.apps k).dial ≡ Some d → (w.dials d).link ≡ l → is_drawn_number (w.dials d).cid c ≡ true → d ≡ e.dial → Follows (tunnel_of w (w.apps k) (Some d)) (tunnel_of (ends None) (w.apps k) (Some d))
        own d de on key same = inr (
          event.ServerTakesCloseReply,
          (may_own k d came de on key, tt),
          rw (
            ap (λ i. first_where (is_held_dial i) (without (is_held l c) w.server.held)) same ∙ gone,
            ap (λ i. first_where (is_dial i) w.server.awaited) same ∙ not_awaited,
            ap (λ i. first_where (is_held_dial i) w.server.held) same ∙ its_entry w keys l c e at,
            front,
            on,
            eqb_refl l,
            word_own d (w.dials d).cid key,
          ) refl,
        )

        by_key : (d : ℕ) → (w.apps k).dial ≡ Some d → (w.dials d).link ≡ l → (b : Bool) → is_drawn_number (w.dials d).cid c ≡ b → Follows (tunnel_of w (w.apps k) (Some d)) (tunnel_of (ends None) (w.apps k) (Some d))
        by_key d de on true key = own d de on key (its_dial w keys l c e d at on key)
        by_key d de on false key = inl (rw (kept d (not_its_dial w keys l c e d at (rw (key, on) (no_and (l == l)))), on, eqb_refl l, word_other d (w.dials d).cid key) refl)

        by_link : (d : ℕ) → (w.apps k).dial ≡ Some d → (b : Bool) → ((w.dials d).link == l) ≡ b → Follows (tunnel_of w (w.apps k) (Some d)) (tunnel_of (ends None) (w.apps k) (Some d))
        by_link d de true on = by_key d de (eqb-true (w.dials d).link l on) (is_drawn_number (w.dials d).cid c) refl
        by_link d de false on = inl (rw (kept d (not_its_dial w keys l c e d at (rw on refl)), on) refl)

        by_dial : (D : Option ℕ) → (w.apps k).dial ≡ D → Follows (tunnel_of w (w.apps k) D) (tunnel_of (ends None) (w.apps k) D)
        by_dial None de = inl refl
        by_dial (Some d) de = by_link d de ((w.dials d).link == l) refl

    -- its front is told
    module _ (f : ℕ) (front : e.front ≡ Some f) where
      -- of another dial nothing is told
      out_same : (k : ℕ) → (w.apps k).came ≡ true → (D : Option ℕ) → (w.apps k).dial ≡ D → is_drawn_number D (pos e.dial) ≡ false → (b : Bool) → ((w.apps k).stream == f) ≡ b
          → stream_out_word (w.streams (w.apps k).stream).connect (w.apps k).number D (queued (w.streams (w.apps k).stream).client (w.streams (w.apps k).stream).down (more_if b (CloseRsp (error_cut error) (pos e.dial)) []))
          ≡ stream_out_word (w.streams (w.apps k).stream).connect (w.apps k).number D (w.streams (w.apps k).stream).down
      out_same k came D de other false be = refl
      out_same k came D de other true be = out_other (stream_out_item (w.streams (w.apps k).stream).connect (w.apps k).number D) (w.streams (w.apps k).stream).client (w.streams (w.apps k).stream).down (CloseRsp (error_cut error) (pos e.dial))
          (ended_other (w.streams (w.apps k).stream).connect (w.apps k).number D (pos e.dial) (error_cut error)
          (a_client w keys e f k (its_entry w keys l c e at) front came (eqb-true (w.apps k).stream f be) (ap (λ x. is_drawn_number x (pos e.dial)) de ∙ other)) other)

      finish_same : (k : ℕ) → (w.apps k).came ≡ true → is_drawn_number (w.apps k).dial (pos e.dial) ≡ false → (b : Bool) → ((w.apps k).stream == f) ≡ b
          → all_finish (w.streams (w.apps k).stream).connect (more_if b (CloseRsp (error_cut error) (pos e.dial)) []) (w.streams (w.apps k).stream).finished ≡ (w.streams (w.apps k).stream).finished
      finish_same k came other false be = refl
      finish_same k came other true be = rw (a_client w keys e f k (its_entry w keys l c e at) front came (eqb-true (w.apps k).stream f be) other) (or_false (w.streams (w.apps k).stream).finished)

      answer_same : (b connect : Bool) (phase : Phase) → all_answered connect (more_if b (CloseRsp (error_cut error) (pos e.dial)) []) phase ≡ phase
      answer_same false connect phase = refl
      answer_same true connect phase = cond_same connect phase

      on_front : (k : ℕ) → (w.apps k).came ≡ true → (w.apps k).dial ≡ Some e.dial → (w.apps k).stream ≡ f
      on_front k came de = (keys.server.held e.dial e (its_entry w keys l c e at)).front k f came de front

      told_lifts : Lifts w (ends (Some f))
      told_lifts k came = by_dial (w.apps k).dial refl
        where
          own : (state : HeldState) → e.state ≡ state → (d : ℕ) → (w.apps k).dial ≡ Some d → (w.dials d).link ≡ l → is_drawn_number (w.dials d).cid c ≡ true → d ≡ e.dial → Follows (tunnel_of w (w.apps k) (Some d)) (tunnel_of (ends (Some f)) ((ends (Some f)).apps k) (Some d))
          own Open es d de on key same = inr (
            event.ServerTakesCloseReply,
            (may_own k d came de on key, tt),
            rw (
              ap (λ i. first_where (is_held_dial i) (without (is_held l c) w.server.held)) same ∙ gone,
              ap (λ i. first_where (is_dial i) w.server.awaited) same ∙ not_awaited,
              ap (λ i. first_where (is_held_dial i) w.server.held) same ∙ its_entry w keys l c e at,
              es,
              front,
              on,
              eqb_refl l,
              word_own d (w.dials d).cid key,
              on_front k came (de ∙ ap Some same),
              eqb_refl f,
              out_closed (stream_out_item (w.streams f).connect (w.apps k).number (Some d)) (w.streams f).client (w.streams f).down (CloseRsp (error_cut error) (pos e.dial))
                  (ap (λ i. stream_out_item (w.streams f).connect (w.apps k).number (Some i) (CloseRsp (error_cut error) (pos e.dial))) same ∙ ended_item (w.streams f).connect (w.apps k).number e.dial (error_cut error)),
              cond_same (w.streams f).connect (w.apps k).phase,
            ) refl,
          )
          own Closing es d de on key same = inr (
            event.ServerTakesCloseReply,
            (may_own k d came de on key, tt),
            rw (
              ap (λ i. first_where (is_held_dial i) (without (is_held l c) w.server.held)) same ∙ gone,
              ap (λ i. first_where (is_dial i) w.server.awaited) same ∙ not_awaited,
              ap (λ i. first_where (is_held_dial i) w.server.held) same ∙ its_entry w keys l c e at,
              es,
              front,
              on,
              eqb_refl l,
              word_own d (w.dials d).cid key,
              on_front k came (de ∙ ap Some same),
              eqb_refl f,
              out_closed (stream_out_item (w.streams f).connect (w.apps k).number (Some d)) (w.streams f).client (w.streams f).down (CloseRsp (error_cut error) (pos e.dial))
                  (ap (λ i. stream_out_item (w.streams f).connect (w.apps k).number (Some i) (CloseRsp (error_cut error) (pos e.dial))) same ∙ ended_item (w.streams f).connect (w.apps k).number e.dial (error_cut error)),
              cond_same (w.streams f).connect (w.apps k).phase,
            ) refl,
          )

          by_key : (d : ℕ) → (w.apps k).dial ≡ Some d → (w.dials d).link ≡ l → (b : Bool) → is_drawn_number (w.dials d).cid c ≡ b → Follows (tunnel_of w (w.apps k) (Some d)) (tunnel_of (ends (Some f)) ((ends (Some f)).apps k) (Some d))
          by_key d de on true key = own e.state refl d de on key (its_dial w keys l c e d at on key)
          by_key d de on false key =
              let other : (e.dial == d) ≡ false = not_its_dial w keys l c e d at (rw (key, on) (no_and (l == l))) in
              inl (rw (
                kept d other,
                on,
                eqb_refl l,
                word_other d (w.dials d).cid key,
                out_same k came (Some d) de other ((w.apps k).stream == f) refl,
                finish_same k came (rw de other) ((w.apps k).stream == f) refl,
                answer_same ((w.apps k).stream == f) (w.streams (w.apps k).stream).connect (w.apps k).phase,
              ) refl)

          by_link : (d : ℕ) → (w.apps k).dial ≡ Some d → (b : Bool) → ((w.dials d).link == l) ≡ b → Follows (tunnel_of w (w.apps k) (Some d)) (tunnel_of (ends (Some f)) ((ends (Some f)).apps k) (Some d))
          by_link d de true on = by_key d de (eqb-true (w.dials d).link l on) (is_drawn_number (w.dials d).cid c) refl
          by_link d de false on =
              let other : (e.dial == d) ≡ false = not_its_dial w keys l c e d at (rw on refl) in
              inl (rw (
                kept d other,
                on,
                out_same k came (Some d) de other ((w.apps k).stream == f) refl,
                finish_same k came (rw de other) ((w.apps k).stream == f) refl,
                answer_same ((w.apps k).stream == f) (w.streams (w.apps k).stream).connect (w.apps k).phase,
              ) refl)

          by_dial : (D : Option ℕ) → (w.apps k).dial ≡ D → Follows (tunnel_of w (w.apps k) D) (tunnel_of (ends (Some f)) ((ends (Some f)).apps k) D)
          by_dial None de = inl (rw (
            out_same k came None de refl ((w.apps k).stream == f) refl,
            finish_same k came (rw de refl) ((w.apps k).stream == f) refl,
            answer_same ((w.apps k).stream == f) (w.streams (w.apps k).stream).connect (w.apps k).phase,
          ) refl)
          by_dial (Some d) de = by_link d de ((w.dials d).link == l) refl

    held_lifts : (front : Option ℕ) → e.front ≡ front → Lifts w (ends front)
    held_lifts None front = frontless front
    held_lifts (Some f) front = told_lifts f front

  pub close_lifts : (o : Option HeldEntry) → first_where (is_held l c) w.server.held ≡ o → Lifts w (served (pos 0) (tunnel_ended w.server l c error o) (up_is l rest w))
  close_lifts None at = unheld_lifts at
  close_lifts (Some e) at = held_lifts e at e.front refl
