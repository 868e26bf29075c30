-- A client takes bytes, or a close.
use Rattle.std.proofs.Common.{◌≡◌, ◌≢◌, ◌==◌, ◌&&◌, ◌++◌, ◌⊎◌, ℕ, ℤ, pos, Bool, true, false, not, cond, List, [], ◌∷◌, length, take, drop, Option, Some, None, inl, inr, refl, sym, ap, ◌∙◌, eqb-true, append-nil}
use Rattle.std.proofs.lemmas.Bool.Decides.{Decides-int_eq}
use Rattle.kn_packet.specs.declared.packet.Packet.{Packet}
use Rattle.kn_packet.specs.declared.packet.Packet.TheVariants.{Data}
use Rattle.kn_tables.specs.Lists.{first_where}
use Rattle.kn_server_core.proofs.SoundLemmas.{passes}
use Rattle.kn_server_core.proofs.TunnelTables.{false_unless}
use Rattle.kn_edge_core.specs.Client.{app_turned, data_came, ignored}
use Rattle.kn_edge_core.specs.ClientTables.{app_changed, is_app, is_open_at, with_more}
use Rattle.kn_edge_core.specs.Steps.{ClientStep}
use Rattle.kn_edge_core.specs.declared.app.App.{App}
use Rattle.kn_edge_core.specs.declared.app.AppState.{AppState}
use Rattle.kn_edge_core.specs.declared.app.AppState.TheVariants as app
use Rattle.kn_edge_core.specs.declared.client_event.ClientOut.TheVariants.{ToApp}
use Rattle.kn_tunnel.specs.Events as event
use Rattle.kn_tunnel.specs.Kinds.{has, is_opened, no_head}
use Rattle.kn_tunnel.specs.Steps.{Follows, appended}
use Rattle.kn_tunnel.specs.Tunnel.{Ended, Refused}
use Rattle.kn_words.specs.Numbers.{is_drawn_number}
use Rattle.kn_words.specs.Out.{BytesOut, out_cons, stream_out_item, stream_out_word}
use Rattle.kn_words.proofs.OutOrder.{out_order_first}
use Rattle.kn_words.proofs.Taken.{out_bytes_ask, out_bytes_taken}
use Rattle.kn_packets.specs.Keys.{Keys, ListedFits}
use Rattle.kn_packets.specs.Lifts.{Lifts}
use Rattle.kn_packets.specs.Moves.{client_stepped, out_is}
use Rattle.kn_packets.specs.World.{World, listed_phase, tunnel_of}
use Rattle.kn_packets.proofs.ClientLists.{its_place, open_is, turned_other, turned_own}
use Rattle.kn_packets.proofs.ClientParts.{drains, dry, dry_side, on_same, steps_lift}
use Rattle.kn_packets.proofs.ClientReplies.{left_is}
use Rattle.kn_packets.proofs.Fresh.{eqb_refl}
use Rattle.kn_packets.proofs.Owners.{is_key, pos_one, some_one}
use Rattle.kn_packets.proofs.Taken.{take_front}

none_is : (xs : List ℕ) → has xs ≡ false → xs ≡ []
none_is [] e = refl
none_is (x ∷ xs) e = absurd cc

pub found_not : (p : App → Bool) (x : App) (n : ℕ) (xs : List App) → first_where (is_app n) xs ≡ Some x → first_where p xs ≡ None → p x ≡ false
found_not p x n [] f g = absurd cc
found_not p x n (y ∷ ys) f g = here (is_app n y) (p y) refl f g (λ l m. found_not p x n ys l m)
  where
    here : (b c : Bool) → p y ≡ c → cond b (Some y) (first_where (is_app n) ys) ≡ Some x → cond c (Some y) (first_where p ys) ≡ None → (first_where (is_app n) ys ≡ Some x → first_where p ys ≡ None → p x ≡ false) → p x ≡ false
    here b true t f g later = absurd cc
    here true false t f g later = let m : y ≡ x = cc in ap p (sym m) ∙ t
    here false false t f g later = later f g

-- ---- what a connectID of a client's stream finds among its apps
module _ (w : World) (f : ℕ) (keys : Keys w) (client : (w.streams f).connect ≡ false) where
  pub fits : (k : ℕ) (x : App) → (w.apps k).came ≡ true → (w.apps k).stream ≡ f → first_where (is_app (w.apps k).number) (w.clients (w.streams f).owner).apps ≡ Some x → ListedFits w k x
  fits k x came on at = keys.clients.listed k x came (rw on client) (rw on at)

  -- an app that is no longer dialling has its own dial's number, so what it finds is of the app of that dial
  pub its_app : (k : ℕ) (a : App) (z : ℤ) → (w.apps k).came ≡ true → (w.apps k).stream ≡ f → is_drawn_number (w.apps k).dial z ≡ true → first_where (is_app a.number) (w.clients (w.streams f).owner).apps ≡ Some a → a.state ≢ app.Dialling → a.connect_id ≡ z
      → first_where (is_app (w.apps k).number) (w.clients (w.streams f).owner).apps ≡ Some a
  its_app k a z came on key at state named =
      let known = keys.clients.known (w.streams f).owner a.number a at in
      let j = known.0 in let is_of = known.1 in
      let cf : (w.streams (w.apps j).stream).connect ≡ false = client_of j is_of.1 in
      let ow : (w.streams (w.apps j).stream).owner ≡ (w.streams f).owner = owner_of j is_of.1 in
      let more = (keys.clients.listed j a is_of.0 cf (rw (is_of.2, ow) at)).dial state in
      let own = is_key (w.apps k).dial z key in
      let same_dial : more.0 ≡ own.0 = pos_one more.0 own.0 (sym more.2 ∙ named ∙ own.2) in
      let same : j ≡ k = keys.clients.dials_once j k own.0 is_of.0 came (more.1 ∙ ap Some same_dial) own.1 in
      ap (λ i. first_where (is_app i) (w.clients (w.streams f).owner).apps) (ap (λ i. (w.apps i).number) (sym same) ∙ is_of.2) ∙ at
    where
      split : (a b : Bool) → (not a && b) ≡ true → (a ≡ false) × (b ≡ true)
      split false b e = (refl, e)
      split true b e = absurd cc

      client_of : (j : ℕ) → (not (w.streams (w.apps j).stream).connect && ((w.streams (w.apps j).stream).owner == (w.streams f).owner)) ≡ true → (w.streams (w.apps j).stream).connect ≡ false
      client_of j e = (split (w.streams (w.apps j).stream).connect ((w.streams (w.apps j).stream).owner == (w.streams f).owner) e).0

      owner_of : (j : ℕ) → (not (w.streams (w.apps j).stream).connect && ((w.streams (w.apps j).stream).owner == (w.streams f).owner)) ≡ true → (w.streams (w.apps j).stream).owner ≡ (w.streams f).owner
      owner_of j e = eqb-true (w.streams (w.apps j).stream).owner (w.streams f).owner (split (w.streams (w.apps j).stream).connect ((w.streams (w.apps j).stream).owner == (w.streams f).owner) e).1

  -- and an app whose dial it does not name is not found
  pub not_found : (k : ℕ) (a : App) (z : ℤ) → (w.apps k).came ≡ true → (w.apps k).stream ≡ f → is_drawn_number (w.apps k).dial z ≡ false → first_where (is_app a.number) (w.clients (w.streams f).owner).apps ≡ Some a → a.state ≢ app.Dialling → a.connect_id ≡ z
      → ((w.apps k).number == a.number) ≡ false
  not_found k a z came on key at state named = false_unless ((w.apps k).number == a.number) (λ h.
      let here : first_where (is_app (w.apps k).number) (w.clients (w.streams f).owner).apps ≡ Some a = ap (λ i. first_where (is_app i) (w.clients (w.streams f).owner).apps) (eqb-true (w.apps k).number a.number h) ∙ at in
      let more = (fits k a came on here).dial state in
      let yes_key : is_drawn_number (w.apps k).dial z ≡ true = rw (more.1, sym named ∙ more.2, eqb_refl more.0) refl in cc (yes_key, key))

-- ---- bytes
module _ (w : World) (f : ℕ) (z : ℤ) (error bytes : List ℕ) (rest : List Packet) (keys : Keys w) (client : (w.streams f).connect ≡ false) (there : (w.streams f).client ≡ true) (first : (w.streams f).down ≡ Data z error bytes ∷ rest) where
  abbrev apps : List App
  apps = (w.clients (w.streams f).owner).apps

  item : (n : ℕ) (D : Option ℕ) → is_drawn_number D z ≡ true → stream_out_item false n D (Data z error bytes) ≡ BytesOut bytes
  item n D e = rw e refl

  out_not : (n : ℕ) (D : Option ℕ) → is_drawn_number D z ≡ false → stream_out_word false n D rest ≡ stream_out_word false n D (w.streams f).down
  out_not n D e = rw (first, e) refl

  word : (n : ℕ) (D : Option ℕ) → is_drawn_number D z ≡ true → stream_out_word false n D rest ≡ record (stream_out_word false n D (w.streams f).down) { bytes = drop (length bytes) (stream_out_word false n D (w.streams f).down).bytes }
  word n D e = rw first (sym (ap (λ i. record (out_cons i (stream_out_word false n D rest)) { bytes = drop (length bytes) (out_cons i (stream_out_word false n D rest)).bytes }) (item n D e) ∙ out_bytes_taken bytes (stream_out_word false n D rest)))

  piece : (n : ℕ) (D : Option ℕ) → is_drawn_number D z ≡ true → take (length bytes) (stream_out_word false n D (w.streams f).down).bytes ≡ bytes
  piece n D e = rw (first, item n D e) (take_front bytes (stream_out_word false n D rest).bytes)

  no_bytes : (n : ℕ) (D : Option ℕ) → is_drawn_number D z ≡ true → has bytes ≡ false → stream_out_word false n D rest ≡ stream_out_word false n D (w.streams f).down
  no_bytes n D e none = rw (first, item n D e, none_is bytes none) refl

  asks : (k : ℕ) (D : Option ℕ) → (w.apps k).came ≡ true → (w.apps k).stream ≡ f → (w.apps k).dial ≡ D → is_drawn_number D z ≡ true → has bytes ≡ true → no_head (stream_out_word false (w.apps k).number D (w.streams f).down).head ≡ true
  asks k D came on de e some = rw (first, item (w.apps k).number D e) (out_bytes_ask bytes (stream_out_word false (w.apps k).number D rest) (rw some refl)
      (rw (item (w.apps k).number D e) at (out_order_first (stream_out_item false (w.apps k).number D) (Data z error bytes) rest (rw (on, de, client, first) at ((keys.ordered k came).outward)))))

  same_bytes : (b : Bool) (xs : List ℕ) → appended b xs [] ≡ xs
  same_bytes true xs = append-nil xs
  same_bytes false xs = refl

  -- an open app gets them
  module _ (a : App) (at : first_where (is_open_at z) apps ≡ Some a) where
    is_open : (a.state ≡ app.Open) × (a.connect_id ≡ z)
    is_open = open_is z a.state a.connect_id (passes (is_open_at z) a apps at)

    placed : first_where (is_app a.number) apps ≡ Some a
    placed = its_place (is_open_at z) a apps (keys.clients.apps_rise (w.streams f).owner) at

    not_dialling : a.state ≢ app.Dialling
    not_dialling h = cc (is_open.0, h)

    abbrev S : ClientStep
    S = app_turned (w.clients (w.streams f).owner) a.number (with_more (length bytes)) (ToApp a.number bytes ∷ [])

    now : (n : ℕ) → n ≡ a.number → first_where (is_app n) (app_changed a.number (with_more (length bytes)) apps) ≡ Some (with_more (length bytes) a)
    now n same = ap (λ m. first_where (is_app n) (app_changed m (with_more (length bytes)) apps)) (sym same) ∙ turned_own n (with_more (length bytes)) a apps (λ x. refl) (ap (λ i. first_where (is_app i) apps) same ∙ placed)

    gets : Lifts w (client_stepped (w.streams f).owner false S (out_is f rest w))
    gets = steps_lift w f rest keys client there S (λ k came on. by_key k came on (is_drawn_number (w.apps k).dial z) refl) (λ k L came cf ow lost le. away k L came cf ow lost le)
      where
        away : (k : ℕ) (L : Option App) → (w.apps k).came ≡ true → (w.streams (w.apps k).stream).connect ≡ false → (w.streams (w.apps k).stream).owner ≡ (w.streams f).owner → (w.streams (w.apps k).stream).client ≡ false → first_where (is_app (w.apps k).number) apps ≡ L
            → (first_where (is_app (w.apps k).number) S.state.apps ≡ L) × ((xs : List ℕ) → cond ((w.apps k).number == a.number) (xs ++ bytes) xs ≡ xs)
        away k L came cf ow lost le =
            let other : ((w.apps k).number == a.number) ≡ false = false_unless ((w.apps k).number == a.number) (λ h.
            let here = ap (λ i. first_where (is_app i) apps) (eqb-true (w.apps k).number a.number h) ∙ placed in let lingers = drains w f rest keys client there S k a came cf ow lost here in cc (lingers, is_open.0)) in
            (turned_other (w.apps k).number a.number (with_more (length bytes)) apps (λ x. refl) other ∙ le, λ xs. rw other refl)

        own : (k : ℕ) → (w.apps k).came ≡ true → (w.apps k).stream ≡ f → first_where (is_app (w.apps k).number) apps ≡ Some a → (w.apps k).number ≡ a.number → (D : Option ℕ) → (w.apps k).dial ≡ D → is_drawn_number D z ≡ true → (b : Bool) → has bytes ≡ b
            → Follows (tunnel_of w (w.apps k) D) (tunnel_of (client_stepped (w.streams f).owner false S (out_is f rest w)) ((client_stepped (w.streams f).owner false S (out_is f rest w)).apps k) D)
        own k came on here same None de key b some = absurd cc
        own k came on here same (Some d) de key true some = inr (
          event.ClientTakesOut (length bytes),
          (rw (on, client, there) (asks k (Some d) came on de key some), tt),
          rw (on, client, there, eqb_refl (w.streams f).owner, eqb_refl f, now (w.apps k).number same, here, is_open.0, piece (w.apps k).number (Some d) key, word (w.apps k).number (Some d) key, same, eqb_refl a.number) refl,
        )
        own k came on here same (Some d) de key false none = inl (rw (on, client, there, eqb_refl (w.streams f).owner, eqb_refl f, now (w.apps k).number same, here, no_bytes (w.apps k).number (Some d) key none, same, eqb_refl a.number, none_is bytes none, append-nil (w.apps k).side.unwritten) refl)

        by_key : (k : ℕ) → (w.apps k).came ≡ true → (w.apps k).stream ≡ f → (b : Bool) → is_drawn_number (w.apps k).dial z ≡ b
            → Follows (tunnel_of w (w.apps k) (w.apps k).dial) (tunnel_of (client_stepped (w.streams f).owner false S (out_is f rest w)) ((client_stepped (w.streams f).owner false S (out_is f rest w)).apps k) (w.apps k).dial)
        by_key k came on true key =
            let here = its_app w f keys client k a z came on key placed not_dialling is_open.1 in
            own k came on here (sym (its_number_of k here)) (w.apps k).dial refl key (has bytes) refl
          where
            its_number_of : (k : ℕ) → first_where (is_app (w.apps k).number) apps ≡ Some a → a.number ≡ (w.apps k).number
            its_number_of k h = eqb-true a.number (w.apps k).number (passes (is_app (w.apps k).number) a apps h)
        by_key k came on false key =
            let other = not_found w f keys client k a z came on key placed not_dialling is_open.1 in
            inl (on_same w f rest keys client there S k came on (first_where (is_app (w.apps k).number) apps) refl (turned_other (w.apps k).number a.number (with_more (length bytes)) apps (λ x. refl) other) (λ xs. rw other refl) (w.apps k).dial (out_not (w.apps k).number (w.apps k).dial key) refl)

  -- no open app: they are dropped
  drops : first_where (is_open_at z) apps ≡ None → Lifts w (client_stepped (w.streams f).owner false (ignored (w.clients (w.streams f).owner)) (out_is f rest w))
  drops none = steps_lift w f rest keys client there (ignored (w.clients (w.streams f).owner)) (λ k came on. by_key k came on (is_drawn_number (w.apps k).dial z) refl) (λ k L came cf ow lost le. (le, λ xs. refl))
    where
      not_open : (k : ℕ) → (w.apps k).came ≡ true → (w.apps k).stream ≡ f → is_drawn_number (w.apps k).dial z ≡ true → (L : Option App) → first_where (is_app (w.apps k).number) apps ≡ L → is_opened (listed_phase L (w.apps k).phase) ≡ false
      not_open k came on key None at = by_phase (left_is (w.apps k).phase (keys.clients.left k came (rw on client) (rw on at)))
        where
          by_phase : ((w.apps k).phase ≡ Ended) ⊎ ((w.apps k).phase ≡ Refused) → is_opened (w.apps k).phase ≡ false
          by_phase (inl e) = rw e refl
          by_phase (inr e) = rw e refl
      not_open k came on key (Some x) at = by_state x.state refl
        where
          by_state : (s : AppState) → x.state ≡ s → is_opened (listed_phase (Some x) (w.apps k).phase) ≡ false
          by_state app.Dialling es = rw es refl
          by_state app.Closing es = rw es refl
          by_state app.Lingering es = rw es refl
          by_state app.Open es =
              let more = (fits w f keys client k x came on at).dial (λ h. cc (es, h)) in
              let own = is_key (w.apps k).dial z key in
              let same : x.connect_id ≡ z = more.2 ∙ ap pos (some_one more.0 own.0 (sym more.1 ∙ own.1)) ∙ sym own.2 in
              let no_it : is_open_at z x ≡ false = found_not (is_open_at z) x (w.apps k).number apps at none in
              let yes_it : is_open_at z x ≡ true = rw es ((Decides-int_eq x.connect_id z).1 same) in absurd (cc (no_it, yes_it))

      own : (k : ℕ) → (w.apps k).came ≡ true → (w.apps k).stream ≡ f → (L : Option App) → first_where (is_app (w.apps k).number) apps ≡ L → is_opened (listed_phase L (w.apps k).phase) ≡ false → (D : Option ℕ) → (w.apps k).dial ≡ D → is_drawn_number D z ≡ true → (b : Bool) → has bytes ≡ b
          → Follows (tunnel_of w (w.apps k) D) (tunnel_of (client_stepped (w.streams f).owner false (ignored (w.clients (w.streams f).owner)) (out_is f rest w)) ((client_stepped (w.streams f).owner false (ignored (w.clients (w.streams f).owner)) (out_is f rest w)).apps k) D)
      own k came on L at no_open None de key b some = absurd cc
      own k came on (Some x) at no_open (Some d) de key true some = inr (
        event.ClientTakesOut (length bytes),
        (rw (on, client, there) (asks k (Some d) came on de key some), tt),
        rw (on, client, there, eqb_refl (w.streams f).owner, eqb_refl f, at, no_open, word (w.apps k).number (Some d) key) refl,
      )
      own k came on None at no_open (Some d) de key true some = inr (
        event.ClientTakesOut (length bytes),
        (rw (on, client, there) (asks k (Some d) came on de key some), tt),
        rw (on, client, there, eqb_refl (w.streams f).owner, eqb_refl f, at, no_open, dry_side (w.apps k).side (its_dry k came on at), word (w.apps k).number (Some d) key) refl,
      )
        where
          its_dry : (k : ℕ) → (w.apps k).came ≡ true → (w.apps k).stream ≡ f → first_where (is_app (w.apps k).number) apps ≡ None → (w.apps k).side.unwritten ≡ []
          its_dry k came on at = dry w f rest keys client there (ignored (w.clients (w.streams f).owner)) k came (rw on client) (ap (λ i. (w.streams i).owner) on) at
      own k came on L at no_open (Some d) de key false none = inl (on_same w f rest keys client there (ignored (w.clients (w.streams f).owner)) k came on L at at (λ xs. refl) (Some d) (no_bytes (w.apps k).number (Some d) key none) refl)

      by_key : (k : ℕ) → (w.apps k).came ≡ true → (w.apps k).stream ≡ f → (b : Bool) → is_drawn_number (w.apps k).dial z ≡ b
          → Follows (tunnel_of w (w.apps k) (w.apps k).dial) (tunnel_of (client_stepped (w.streams f).owner false (ignored (w.clients (w.streams f).owner)) (out_is f rest w)) ((client_stepped (w.streams f).owner false (ignored (w.clients (w.streams f).owner)) (out_is f rest w)).apps k) (w.apps k).dial)
      by_key k came on true key = own k came on (first_where (is_app (w.apps k).number) apps) refl (not_open k came on key (first_where (is_app (w.apps k).number) apps) refl) (w.apps k).dial refl key (has bytes) refl
      by_key k came on false key = inl (on_same w f rest keys client there (ignored (w.clients (w.streams f).owner)) k came on (first_where (is_app (w.apps k).number) apps) refl refl (λ xs. refl) (w.apps k).dial (out_not (w.apps k).number (w.apps k).dial key) refl)

  pub bytes_taken : (o : Option App) → first_where (is_open_at z) apps ≡ o → Lifts w (client_stepped (w.streams f).owner false (data_came (w.clients (w.streams f).owner) bytes o) (out_is f rest w))
  bytes_taken None at = drops at
  bytes_taken (Some a) at = gets a at
