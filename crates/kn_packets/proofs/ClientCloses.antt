-- A client takes a close, or a packet that means nothing to it.
use Rattle.std.proofs.Common.{◌≡◌, ◌≢◌, ◌==◌, ◌&&◌, ◌⊎◌, ℕ, ℤ, pos, Bool, true, false, not, cond, List, [], ◌∷◌, length, pred, Option, Some, None, inl, inr, refl, sym, ap, ◌∙◌, eqb-true, arith}
use Rattle.std.proofs.lemmas.Bool.Decides.{Decides-int_eq}
use Rattle.kn_packet.specs.declared.packet.Packet.{Packet}
use Rattle.kn_packet.specs.declared.packet.Packet.TheVariants.{CloseRsp}
use Rattle.kn_tables.specs.Lists.{first_where}
use Rattle.kn_server_core.proofs.SoundLemmas.{passes}
use Rattle.kn_server_core.proofs.TunnelTables.{false_unless}
use Rattle.kn_edge_core.specs.Client.{app_left, app_turned, close_came, ignored}
use Rattle.kn_edge_core.specs.ClientTables.{app_changed, is_app, is_held_at, lingering, without_app}
use Rattle.kn_edge_core.specs.declared.app.App.{App}
use Rattle.kn_edge_core.specs.declared.app.AppState.{AppState}
use Rattle.kn_edge_core.specs.declared.app.AppState.TheVariants as app
use Rattle.kn_tunnel.specs.Events as event
use Rattle.kn_tunnel.specs.Kinds.{has, is_empty, is_zero, no_head}
use Rattle.kn_tunnel.specs.Steps as step
use Rattle.kn_tunnel.specs.Steps.{Follows}
use Rattle.kn_tunnel.specs.Tunnel.{Ended, Refused}
use Rattle.kn_words.specs.Numbers.{is_drawn_number, is_number}
use Rattle.kn_words.specs.Out.{CloseOut, OtherOut, out_cons, stream_out_item, stream_out_word}
use Rattle.kn_words.proofs.OutOrder.{out_order_first}
use Rattle.kn_words.proofs.Taken.{out_close_asks, out_close_taken}
use Rattle.kn_packets.specs.Keys.{Keys}
use Rattle.kn_packets.specs.Lifts.{Lifts}
use Rattle.kn_packets.specs.Moves.{client_stepped, out_is}
use Rattle.kn_packets.specs.World.{World, tunnel_of}
use Rattle.kn_packets.proofs.ClientBytes.{fits, found_not, its_app, not_found}
use Rattle.kn_packets.proofs.ClientLists.{held_is, its_place, left_other, left_own, turned_other, turned_own}
use Rattle.kn_packets.proofs.ClientParts.{drains, dry, dry_side, on_same, steps_lift}
use Rattle.kn_packets.proofs.ClientReplies.{left_is}
use Rattle.kn_packets.proofs.Fresh.{eqb_refl}
use Rattle.kn_packets.proofs.Owners.{is_key, some_one}

-- a packet that means nothing to a client
pub nothing_lifts : (w : World) (f : ℕ) (p : Packet) (rest : List Packet) → Keys w → (w.streams f).connect ≡ false → (w.streams f).client ≡ true → (w.streams f).down ≡ p ∷ rest → ((n : ℕ) (D : Option ℕ) → stream_out_item false n D p ≡ OtherOut)
    → Lifts w (client_stepped (w.streams f).owner false (ignored (w.clients (w.streams f).owner)) (out_is f rest w))
nothing_lifts w f p rest keys client there first item = steps_lift w f rest keys client there (ignored (w.clients (w.streams f).owner))
    (λ k came on. inl (on_same w f rest keys client there (ignored (w.clients (w.streams f).owner)) k came on (first_where (is_app (w.apps k).number) (w.clients (w.streams f).owner).apps) refl refl (λ xs. refl) (w.apps k).dial (word (w.apps k).number (w.apps k).dial) refl))
    (λ k L came cf ow lost le. (le, λ xs. refl))
  where
    word : (n : ℕ) (D : Option ℕ) → stream_out_word false n D rest ≡ stream_out_word false n D (w.streams f).down
    word n D = rw (first, item n D) refl

module _ (w : World) (f : ℕ) (error : List ℕ) (z : ℤ) (rest : List Packet) (keys : Keys w) (client : (w.streams f).connect ≡ false) (there : (w.streams f).client ≡ true) (first : (w.streams f).down ≡ CloseRsp error z ∷ rest) where
  abbrev apps : List App
  apps = (w.clients (w.streams f).owner).apps

  item : (n : ℕ) (D : Option ℕ) → is_drawn_number D z ≡ true → stream_out_item false n D (CloseRsp error z) ≡ CloseOut
  item n D e = rw e refl

  out_not : (n : ℕ) (D : Option ℕ) → is_drawn_number D z ≡ false → stream_out_word false n D rest ≡ stream_out_word false n D (w.streams f).down
  out_not n D e = rw (first, e) refl

  word : (n : ℕ) (D : Option ℕ) → is_drawn_number D z ≡ true → stream_out_word false n D rest ≡ record (stream_out_word false n D (w.streams f).down) { closes = pred (stream_out_word false n D (w.streams f).down).closes }
  word n D e = rw first (sym (ap (λ i. record (out_cons i (stream_out_word false n D rest)) { closes = pred (out_cons i (stream_out_word false n D rest)).closes }) (item n D e) ∙ out_close_taken (stream_out_word false n D rest)))

  asks : (k : ℕ) (D : Option ℕ) → (w.apps k).came ≡ true → (w.apps k).stream ≡ f → (w.apps k).dial ≡ D → is_drawn_number D z ≡ true
      → (no_head (stream_out_word false (w.apps k).number D (w.streams f).down).head && is_empty (stream_out_word false (w.apps k).number D (w.streams f).down).bytes && not (is_zero (stream_out_word false (w.apps k).number D (w.streams f).down).closes)) ≡ true
  asks k D came on de e = rw (first, item (w.apps k).number D e) (three (no_head (stream_out_word false (w.apps k).number D rest).head) (is_empty (stream_out_word false (w.apps k).number D rest).bytes) both.0 both.1)
    where
      three : (a b : Bool) → a ≡ true → b ≡ true → (a && b && true) ≡ true
      three true b h i = rw i refl
      three false b h i = absurd cc

      both : (no_head (stream_out_word false (w.apps k).number D rest).head ≡ true) × (is_empty (stream_out_word false (w.apps k).number D rest).bytes ≡ true)
      both = out_close_asks (stream_out_word false (w.apps k).number D rest) (rw (item (w.apps k).number D e) at (out_order_first (stream_out_item false (w.apps k).number D) (CloseRsp error z) rest (rw (on, de, client, first) at ((keys.ordered k came).outward))))

  may : (k d : ℕ) → (w.apps k).came ≡ true → (w.apps k).stream ≡ f → (w.apps k).dial ≡ Some d → is_number d z ≡ true → step.may event.ClientTakesClose (tunnel_of w (w.apps k) (Some d)) ≡ true
  may k d came on de e = rw (on, client, there) (asks k (Some d) came on de e)

  -- an app that has the tunnel: it leaves, or drains first
  module _ (a : App) (at : first_where (is_held_at z) apps ≡ Some a) where
    held : ((a.state ≡ app.Dialling → ⊥) × (a.state ≡ app.Lingering → ⊥)) × (a.connect_id ≡ z)
    held = held_is z a.state a.connect_id (passes (is_held_at z) a apps at)

    placed : first_where (is_app a.number) apps ≡ Some a
    placed = its_place (is_held_at z) a apps (keys.clients.apps_rise (w.streams f).owner) at

    other_away : (k : ℕ) → (w.apps k).came ≡ true → (w.streams (w.apps k).stream).connect ≡ false → (w.streams (w.apps k).stream).owner ≡ (w.streams f).owner → (w.streams (w.apps k).stream).client ≡ false → ((w.apps k).number == a.number) ≡ false
    other_away k came cf ow lost = false_unless ((w.apps k).number == a.number) (λ h.
        held.0.1 (drains w f rest keys client there (ignored (w.clients (w.streams f).owner)) k a came cf ow lost (ap (λ i. first_where (is_app i) apps) (eqb-true (w.apps k).number a.number h) ∙ placed)))

    its : (k : ℕ) → (w.apps k).came ≡ true → (w.apps k).stream ≡ f → is_drawn_number (w.apps k).dial z ≡ true → first_where (is_app (w.apps k).number) apps ≡ Some a
    its k came on key = its_app w f keys client k a z came on key placed held.0.0 held.1

    other : (k : ℕ) → (w.apps k).came ≡ true → (w.apps k).stream ≡ f → is_drawn_number (w.apps k).dial z ≡ false → ((w.apps k).number == a.number) ≡ false
    other k came on key = not_found w f keys client k a z came on key placed held.0.0 held.1

    number_of : (k : ℕ) → first_where (is_app (w.apps k).number) apps ≡ Some a → a.number ≡ (w.apps k).number
    number_of k h = eqb-true a.number (w.apps k).number (passes (is_app (w.apps k).number) a apps h)

    count : (k : ℕ) → (w.apps k).came ≡ true → (w.apps k).stream ≡ f → first_where (is_app (w.apps k).number) apps ≡ Some a → a.unwritten ≡ length (w.apps k).side.unwritten
    count k came on here = (fits w f keys client k a came on here).unwritten

    -- nothing is unwritten
    leaves : a.unwritten ≡ 0 → Lifts w (client_stepped (w.streams f).owner false (app_left (w.clients (w.streams f).owner) a.number error) (out_is f rest w))
    leaves none = steps_lift w f rest keys client there (app_left (w.clients (w.streams f).owner) a.number error) (λ k came on. by_key k came on (is_drawn_number (w.apps k).dial z) refl)
        (λ k L came cf ow lost le. (left_other (w.apps k).number a.number apps (other_away k came cf ow lost) ∙ le, λ ys. refl))
      where
        empty : (xs : List ℕ) → length xs ≡ 0 → xs ≡ []
        empty [] e = refl
        empty (x ∷ xs) e = absurd (omega (arith, e))

        now : (k : ℕ) → first_where (is_app (w.apps k).number) apps ≡ Some a → first_where (is_app (w.apps k).number) (without_app a.number apps) ≡ None
        now k here = ap (λ m. first_where (is_app (w.apps k).number) (without_app m apps)) (number_of k here) ∙ left_own (w.apps k).number a apps (keys.clients.apps_rise (w.streams f).owner) here

        eq : (k d : ℕ) → (w.apps k).came ≡ true → (w.apps k).stream ≡ f → (w.apps k).dial ≡ Some d → is_number d z ≡ true → first_where (is_app (w.apps k).number) apps ≡ Some a → (w.apps k).side.unwritten ≡ [] → (s : AppState) → a.state ≡ s
            → tunnel_of (client_stepped (w.streams f).owner false (app_left (w.clients (w.streams f).owner) a.number error) (out_is f rest w)) ((client_stepped (w.streams f).owner false (app_left (w.clients (w.streams f).owner) a.number error) (out_is f rest w)).apps k) (Some d)
            ≡ step.after event.ClientTakesClose (tunnel_of w (w.apps k) (Some d))
        eq k d came on de key here dry_is app.Dialling es = absurd (held.0.0 es)
        eq k d came on de key here dry_is app.Lingering es = absurd (held.0.1 es)
        eq k d came on de key here dry_is app.Open es = rw (on, client, there, eqb_refl (w.streams f).owner, eqb_refl f, now k here, here, es, dry_side (w.apps k).side dry_is, dry_is, word (w.apps k).number (Some d) key) refl
        eq k d came on de key here dry_is app.Closing es = rw (on, client, there, eqb_refl (w.streams f).owner, eqb_refl f, now k here, here, es, dry_side (w.apps k).side dry_is, dry_is, word (w.apps k).number (Some d) key) refl

        own : (k : ℕ) → (w.apps k).came ≡ true → (w.apps k).stream ≡ f → (D : Option ℕ) → (w.apps k).dial ≡ D → is_drawn_number D z ≡ true → first_where (is_app (w.apps k).number) apps ≡ Some a
            → Follows (tunnel_of w (w.apps k) D) (tunnel_of (client_stepped (w.streams f).owner false (app_left (w.clients (w.streams f).owner) a.number error) (out_is f rest w)) ((client_stepped (w.streams f).owner false (app_left (w.clients (w.streams f).owner) a.number error) (out_is f rest w)).apps k) D)
        own k came on None de key here = absurd cc
        own k came on (Some d) de key here = inr (event.ClientTakesClose, (may k d came on de key, tt), eq k d came on de key here (empty (w.apps k).side.unwritten (sym (count k came on here) ∙ none)) a.state refl)

        by_key : (k : ℕ) → (w.apps k).came ≡ true → (w.apps k).stream ≡ f → (b : Bool) → is_drawn_number (w.apps k).dial z ≡ b
            → Follows (tunnel_of w (w.apps k) (w.apps k).dial) (tunnel_of (client_stepped (w.streams f).owner false (app_left (w.clients (w.streams f).owner) a.number error) (out_is f rest w)) ((client_stepped (w.streams f).owner false (app_left (w.clients (w.streams f).owner) a.number error) (out_is f rest w)).apps k) (w.apps k).dial)
        by_key k came on true key = own k came on (w.apps k).dial refl key (its k came on key)
        by_key k came on false key = inl (on_same w f rest keys client there (app_left (w.clients (w.streams f).owner) a.number error) k came on (first_where (is_app (w.apps k).number) apps) refl
            (left_other (w.apps k).number a.number apps (other k came on key)) (λ ys. refl) (w.apps k).dial (out_not (w.apps k).number (w.apps k).dial key) refl)

    -- something is
    stays : (a.unwritten == 0) ≡ false → Lifts w (client_stepped (w.streams f).owner false (app_turned (w.clients (w.streams f).owner) a.number (lingering error) []) (out_is f rest w))
    stays some = steps_lift w f rest keys client there (app_turned (w.clients (w.streams f).owner) a.number (lingering error) []) (λ k came on. by_key k came on (is_drawn_number (w.apps k).dial z) refl)
        (λ k L came cf ow lost le. (turned_other (w.apps k).number a.number (lingering error) apps (λ x. refl) (other_away k came cf ow lost) ∙ le, λ ys. refl))
      where
        filled : (xs : List ℕ) → (length xs == 0) ≡ false → has xs ≡ true
        filled [] e = absurd cc
        filled (x ∷ xs) e = refl

        now : (k : ℕ) → first_where (is_app (w.apps k).number) apps ≡ Some a → first_where (is_app (w.apps k).number) (app_changed a.number (lingering error) apps) ≡ Some (lingering error a)
        now k here = ap (λ m. first_where (is_app (w.apps k).number) (app_changed m (lingering error) apps)) (number_of k here) ∙ turned_own (w.apps k).number (lingering error) a apps (λ x. refl) here

        eq : (k d : ℕ) → (w.apps k).came ≡ true → (w.apps k).stream ≡ f → (w.apps k).dial ≡ Some d → is_number d z ≡ true → first_where (is_app (w.apps k).number) apps ≡ Some a → has (w.apps k).side.unwritten ≡ true → (s : AppState) → a.state ≡ s
            → tunnel_of (client_stepped (w.streams f).owner false (app_turned (w.clients (w.streams f).owner) a.number (lingering error) []) (out_is f rest w)) ((client_stepped (w.streams f).owner false (app_turned (w.clients (w.streams f).owner) a.number (lingering error) []) (out_is f rest w)).apps k) (Some d)
            ≡ step.after event.ClientTakesClose (tunnel_of w (w.apps k) (Some d))
        eq k d came on de key here full app.Dialling es = absurd (held.0.0 es)
        eq k d came on de key here full app.Lingering es = absurd (held.0.1 es)
        eq k d came on de key here full app.Open es = rw (on, client, there, eqb_refl (w.streams f).owner, eqb_refl f, now k here, here, es, full, word (w.apps k).number (Some d) key) refl
        eq k d came on de key here full app.Closing es = rw (on, client, there, eqb_refl (w.streams f).owner, eqb_refl f, now k here, here, es, full, word (w.apps k).number (Some d) key) refl

        own : (k : ℕ) → (w.apps k).came ≡ true → (w.apps k).stream ≡ f → (D : Option ℕ) → (w.apps k).dial ≡ D → is_drawn_number D z ≡ true → first_where (is_app (w.apps k).number) apps ≡ Some a
            → Follows (tunnel_of w (w.apps k) D) (tunnel_of (client_stepped (w.streams f).owner false (app_turned (w.clients (w.streams f).owner) a.number (lingering error) []) (out_is f rest w)) ((client_stepped (w.streams f).owner false (app_turned (w.clients (w.streams f).owner) a.number (lingering error) []) (out_is f rest w)).apps k) D)
        own k came on None de key here = absurd cc
        own k came on (Some d) de key here = inr (event.ClientTakesClose, (may k d came on de key, tt), eq k d came on de key here (filled (w.apps k).side.unwritten (rw (count k came on here) at some)) a.state refl)

        by_key : (k : ℕ) → (w.apps k).came ≡ true → (w.apps k).stream ≡ f → (b : Bool) → is_drawn_number (w.apps k).dial z ≡ b
            → Follows (tunnel_of w (w.apps k) (w.apps k).dial) (tunnel_of (client_stepped (w.streams f).owner false (app_turned (w.clients (w.streams f).owner) a.number (lingering error) []) (out_is f rest w)) ((client_stepped (w.streams f).owner false (app_turned (w.clients (w.streams f).owner) a.number (lingering error) []) (out_is f rest w)).apps k) (w.apps k).dial)
        by_key k came on true key = own k came on (w.apps k).dial refl key (its k came on key)
        by_key k came on false key = inl (on_same w f rest keys client there (app_turned (w.clients (w.streams f).owner) a.number (lingering error) []) k came on (first_where (is_app (w.apps k).number) apps) refl
            (turned_other (w.apps k).number a.number (lingering error) apps (λ x. refl) (other k came on key)) (λ ys. refl) (w.apps k).dial (out_not (w.apps k).number (w.apps k).dial key) refl)

    closes : (b : Bool) → (a.unwritten == 0) ≡ b → Lifts w (client_stepped (w.streams f).owner false (cond b (app_left (w.clients (w.streams f).owner) a.number error) (app_turned (w.clients (w.streams f).owner) a.number (lingering error) [])) (out_is f rest w))
    closes true e = leaves (eqb-true a.unwritten 0 e)
    closes false e = stays e

  -- no app has it
  unheld : first_where (is_held_at z) apps ≡ None → Lifts w (client_stepped (w.streams f).owner false (ignored (w.clients (w.streams f).owner)) (out_is f rest w))
  unheld none = steps_lift w f rest keys client there (ignored (w.clients (w.streams f).owner)) (λ k came on. by_key k came on (is_drawn_number (w.apps k).dial z) refl) (λ k L came cf ow lost le. (le, λ ys. refl))
    where
      its_dry : (k : ℕ) → (w.apps k).came ≡ true → (w.apps k).stream ≡ f → first_where (is_app (w.apps k).number) apps ≡ None → (w.apps k).side.unwritten ≡ []
      its_dry k came on at = dry w f rest keys client there (ignored (w.clients (w.streams f).owner)) k came (rw on client) (ap (λ i. (w.streams i).owner) on) at

      named : (k : ℕ) → (w.apps k).came ≡ true → (w.apps k).stream ≡ f → is_drawn_number (w.apps k).dial z ≡ true → (x : App) → first_where (is_app (w.apps k).number) apps ≡ Some x → x.state ≢ app.Dialling → x.connect_id ≡ z
      named k came on key x at state = let more = (fits w f keys client k x came on at).dial state in let own = is_key (w.apps k).dial z key in more.2 ∙ ap pos (some_one more.0 own.0 (sym more.1 ∙ own.1)) ∙ sym own.2

      listed_own : (k d : ℕ) → (w.apps k).came ≡ true → (w.apps k).stream ≡ f → (w.apps k).dial ≡ Some d → is_number d z ≡ true → is_drawn_number (w.apps k).dial z ≡ true → (x : App) → first_where (is_app (w.apps k).number) apps ≡ Some x → (s : AppState) → x.state ≡ s
          → tunnel_of (client_stepped (w.streams f).owner false (ignored (w.clients (w.streams f).owner)) (out_is f rest w)) ((client_stepped (w.streams f).owner false (ignored (w.clients (w.streams f).owner)) (out_is f rest w)).apps k) (Some d) ≡ step.after event.ClientTakesClose (tunnel_of w (w.apps k) (Some d))
      listed_own k d came on de e key x at app.Dialling es = rw (on, client, there, eqb_refl (w.streams f).owner, eqb_refl f, at, es, word (w.apps k).number (Some d) e) refl
      listed_own k d came on de e key x at app.Lingering es = rw (on, client, there, eqb_refl (w.streams f).owner, eqb_refl f, at, es, word (w.apps k).number (Some d) e) refl
      listed_own k d came on de e key x at app.Open es =
          let no_it : is_held_at z x ≡ false = found_not (is_held_at z) x (w.apps k).number apps at none in
          let yes_it : is_held_at z x ≡ true = rw es ((Decides-int_eq x.connect_id z).1 (named k came on key x at (λ h. cc (es, h)))) in absurd (cc (no_it, yes_it))
      listed_own k d came on de e key x at app.Closing es =
          let no_it : is_held_at z x ≡ false = found_not (is_held_at z) x (w.apps k).number apps at none in
          let yes_it : is_held_at z x ≡ true = rw es ((Decides-int_eq x.connect_id z).1 (named k came on key x at (λ h. cc (es, h)))) in absurd (cc (no_it, yes_it))

      gone_own : (k d : ℕ) → (w.apps k).came ≡ true → (w.apps k).stream ≡ f → (w.apps k).dial ≡ Some d → is_number d z ≡ true → first_where (is_app (w.apps k).number) apps ≡ None → ((w.apps k).phase ≡ Ended) ⊎ ((w.apps k).phase ≡ Refused)
          → tunnel_of (client_stepped (w.streams f).owner false (ignored (w.clients (w.streams f).owner)) (out_is f rest w)) ((client_stepped (w.streams f).owner false (ignored (w.clients (w.streams f).owner)) (out_is f rest w)).apps k) (Some d) ≡ step.after event.ClientTakesClose (tunnel_of w (w.apps k) (Some d))
      gone_own k d came on de e at (inl pe) = rw (on, client, there, eqb_refl (w.streams f).owner, eqb_refl f, at, pe, dry_side (w.apps k).side (its_dry k came on at), word (w.apps k).number (Some d) e) refl
      gone_own k d came on de e at (inr pe) = rw (on, client, there, eqb_refl (w.streams f).owner, eqb_refl f, at, pe, dry_side (w.apps k).side (its_dry k came on at), word (w.apps k).number (Some d) e) refl

      by_listed : (k d : ℕ) → (w.apps k).came ≡ true → (w.apps k).stream ≡ f → (w.apps k).dial ≡ Some d → is_number d z ≡ true → is_drawn_number (w.apps k).dial z ≡ true → (L : Option App) → first_where (is_app (w.apps k).number) apps ≡ L
          → tunnel_of (client_stepped (w.streams f).owner false (ignored (w.clients (w.streams f).owner)) (out_is f rest w)) ((client_stepped (w.streams f).owner false (ignored (w.clients (w.streams f).owner)) (out_is f rest w)).apps k) (Some d) ≡ step.after event.ClientTakesClose (tunnel_of w (w.apps k) (Some d))
      by_listed k d came on de e key (Some x) at = listed_own k d came on de e key x at x.state refl
      by_listed k d came on de e key None at = gone_own k d came on de e at (left_is (w.apps k).phase (keys.clients.left k came (rw on client) (rw on at)))

      own : (k : ℕ) → (w.apps k).came ≡ true → (w.apps k).stream ≡ f → (D : Option ℕ) → (w.apps k).dial ≡ D → is_drawn_number D z ≡ true → is_drawn_number (w.apps k).dial z ≡ true
          → Follows (tunnel_of w (w.apps k) D) (tunnel_of (client_stepped (w.streams f).owner false (ignored (w.clients (w.streams f).owner)) (out_is f rest w)) ((client_stepped (w.streams f).owner false (ignored (w.clients (w.streams f).owner)) (out_is f rest w)).apps k) D)
      own k came on None de e key = absurd cc
      own k came on (Some d) de e key = inr (event.ClientTakesClose, (may k d came on de e, tt), by_listed k d came on de e key (first_where (is_app (w.apps k).number) apps) refl)

      by_key : (k : ℕ) → (w.apps k).came ≡ true → (w.apps k).stream ≡ f → (b : Bool) → is_drawn_number (w.apps k).dial z ≡ b
          → Follows (tunnel_of w (w.apps k) (w.apps k).dial) (tunnel_of (client_stepped (w.streams f).owner false (ignored (w.clients (w.streams f).owner)) (out_is f rest w)) ((client_stepped (w.streams f).owner false (ignored (w.clients (w.streams f).owner)) (out_is f rest w)).apps k) (w.apps k).dial)
      by_key k came on true key = own k came on (w.apps k).dial refl key key
      by_key k came on false key = inl (on_same w f rest keys client there (ignored (w.clients (w.streams f).owner)) k came on (first_where (is_app (w.apps k).number) apps) refl refl (λ ys. refl) (w.apps k).dial (out_not (w.apps k).number (w.apps k).dial key) refl)

  pub close_taken : (o : Option App) → first_where (is_held_at z) apps ≡ o → Lifts w (client_stepped (w.streams f).owner false (close_came (w.clients (w.streams f).owner) error o) (out_is f rest w))
  close_taken None at = unheld at
  close_taken (Some a) at = closes a at (a.unwritten == 0) refl
