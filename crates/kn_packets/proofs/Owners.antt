-- Whose a packet is: by the entry that the server holds, by the app, or by the connectID.
use Rattle.std.proofs.Common.{◌≡◌, ◌==◌, ◌&&◌, ◌⊎◌, ℕ, ℤ, pos, negsuc, Bool, true, false, cond, List, Option, Some, None, inl, inr, refl, sym, ap, ◌∙◌, eqb-true}
use Rattle.std.specs.Option.{IsSome}
use Rattle.std.specs.Ordering.{int_eq}
use Rattle.std.proofs.lemmas.Bool.Decides.{Decides-int_eq}
use Rattle.kn_tables.specs.Lists.{first_where}
use Rattle.kn_tables.specs.Holding.{is_held, is_held_dial}
use Rattle.kn_tables.specs.declared.held_entry.HeldEntry.{HeldEntry}
use Rattle.kn_server_core.proofs.FrontIsolation.{found_by_number}
use Rattle.kn_server_core.proofs.SoundLemmas.{not_missed, passes}
use Rattle.kn_server_core.proofs.TunnelTables.{false_unless}
use Rattle.kn_words.specs.Numbers.{is_drawn_number}
use Rattle.kn_packets.specs.Keys.{Keys}
use Rattle.kn_packets.specs.World.{World}
use Rattle.kn_packets.proofs.Fresh.{eqb_refl}

pub is_key : (cid : Option ℕ) (c : ℤ) → is_drawn_number cid c ≡ true → (n : ℕ) × (cid ≡ Some n) × (c ≡ pos n)
is_key None c e = absurd cc
is_key (Some n) (pos m) e = let same : m ≡ n = eqb-true m n e in (n, refl, ap pos same)
is_key (Some n) (negsuc m) e = absurd cc

pub key_is : (cid : Option ℕ) (c : ℤ) (n : ℕ) → cid ≡ Some n → c ≡ pos n → is_drawn_number cid c ≡ true
key_is cid c n e f = rw (e, f, eqb_refl n) refl

pub some_one : (a b : ℕ) → Some a ≡ Some b → a ≡ b
some_one a b e = cc

pub pos_one : (a b : ℕ) → pos a ≡ pos b → a ≡ b
pos_one a b e = cc

none_is : (o : Option HeldEntry) → o ≡ None → IsSome o → ⊥
none_is None e s = cc
none_is (Some x) e s = absurd cc

both : (a b : Bool) → a ≡ true → b ≡ true → (a && b) ≡ true
both true b e f = f
both false b e f = e

found_dial : (d : ℕ) (xs : List HeldEntry) (e : HeldEntry) → first_where (is_held_dial d) xs ≡ Some e → e.dial ≡ d
found_dial d xs e f = eqb-true e.dial d (passes (is_held_dial d) e xs f)

module _ (w : World) (keys : Keys w) where
  -- a connection that the server does not hold has no entry
  pub not_held : (l : ℕ) (c : ℤ) (d : ℕ) → first_where (is_held l c) w.server.held ≡ None → (w.dials d).link ≡ l → is_drawn_number (w.dials d).cid c ≡ true → first_where (is_held_dial d) w.server.held ≡ None
  not_held l c d none at key = here (first_where (is_held_dial d) w.server.held) refl
    where
      here : (o : Option HeldEntry) → first_where (is_held_dial d) w.server.held ≡ o → o ≡ None
      here None f = refl
      here (Some e) f =
          let fits = keys.server.held d e f in let named = is_key (w.dials d).cid c key in
          let cids : fits.cid ≡ named.0 = some_one fits.cid named.0 (sym fits.drawn ∙ named.1) in
          let link : e.link ≡ l = sym fits.link ∙ at in
          let c_is : e.connect_id ≡ c = fits.named ∙ ap pos cids ∙ sym named.2 in
          absurd (none_is (first_where (is_held l c) w.server.held) none
          (not_missed (is_held_dial d) (is_held l c) e w.server.held f (both (e.link == l) (int_eq e.connect_id c) (rw link (eqb_refl l)) ((Decides-int_eq e.connect_id c).1 c_is))))

  -- the entry of a connection is that of its dial
  pub its_entry : (l : ℕ) (c : ℤ) (e : HeldEntry) → first_where (is_held l c) w.server.held ≡ Some e → first_where (is_held_dial e.dial) w.server.held ≡ Some e
  its_entry l c e f = found_by_number (λ (x : HeldEntry). x.dial) (is_held l c) e w.server.held keys.server.orderly.held_rise f

  pub its_link : (l : ℕ) (c : ℤ) (e : HeldEntry) → first_where (is_held l c) w.server.held ≡ Some e → (e.link ≡ l) × (e.connect_id ≡ c)
  its_link l c e f = parts e.link l e.connect_id c (passes (is_held l c) e w.server.held f)
    where
      parts : (a b : ℕ) (x y : ℤ) → (a == b && int_eq x y) ≡ true → (a ≡ b) × (x ≡ y)
      parts a b x y h = split (a == b) (int_eq x y) refl refl h
        where
          split : (p q : Bool) → (a == b) ≡ p → int_eq x y ≡ q → (p && q) ≡ true → (a ≡ b) × (x ≡ y)
          split true true e i h = (eqb-true a b e, (Decides-int_eq x y).0 i)
          split true false e i h = absurd cc
          split false q e i h = absurd cc

  -- the dial of a connection that is held is that of its entry
  pub its_dial : (l : ℕ) (c : ℤ) (e : HeldEntry) (d : ℕ) → first_where (is_held l c) w.server.held ≡ Some e → (w.dials d).link ≡ l → is_drawn_number (w.dials d).cid c ≡ true → d ≡ e.dial
  its_dial l c e d f at key =
      let fits = keys.server.held e.dial e (its_entry l c e f) in let link = its_link l c e f in let named = is_key (w.dials d).cid c key in
      keys.agents.cid_once d e.dial named.0 (at ∙ sym link.0 ∙ sym fits.link) named.1 (fits.drawn ∙ ap Some (pos_one fits.cid named.0 (sym fits.named ∙ link.1 ∙ named.2)))

  -- the dial of an entry is not another connection's
  pub not_its_dial : (l : ℕ) (c : ℤ) (e : HeldEntry) (d : ℕ) → first_where (is_held l c) w.server.held ≡ Some e → (((w.dials d).link == l) && is_drawn_number (w.dials d).cid c) ≡ false → (e.dial == d) ≡ false
  not_its_dial l c e d f other = false_unless (e.dial == d) (λ i.
      let same : e.dial ≡ d = eqb-true e.dial d i in let fits = keys.server.held e.dial e (its_entry l c e f) in let link = its_link l c e f in
      let at : (w.dials d).link ≡ l = ap (λ n. (w.dials n).link) (sym same) ∙ fits.link ∙ link.0 in
      let key : is_drawn_number (w.dials d).cid c ≡ true = key_is (w.dials d).cid c fits.cid (ap (λ n. (w.dials n).cid) (sym same) ∙ fits.drawn) (sym link.1 ∙ fits.named) in
      let yes : (((w.dials d).link == l) && is_drawn_number (w.dials d).cid c) ≡ true = both ((w.dials d).link == l) (is_drawn_number (w.dials d).cid c) (rw at (eqb_refl l)) key in
      cc)

  -- ---- of an app on the front of an entry: its dial is the entry's, or it is a client's app and its dial is another
  pub own_or_other : (e : HeldEntry) (f : ℕ) (k : ℕ) → first_where (is_held_dial e.dial) w.server.held ≡ Some e → e.front ≡ Some f → (w.apps k).came ≡ true → (w.apps k).stream ≡ f
      → ((w.apps k).dial ≡ Some e.dial) ⊎ (((w.streams f).connect ≡ false) × (is_drawn_number (w.apps k).dial (pos e.dial) ≡ false))
  own_or_other e f k entry front came at = here (is_drawn_number (w.apps k).dial (pos e.dial)) refl
    where
      own_here : (D : Option ℕ) → is_drawn_number D (pos e.dial) ≡ true → D ≡ Some e.dial
      own_here None h = absurd cc
      own_here (Some d) h = ap Some (sym (eqb-true e.dial d h))

      is_own : (w.apps k).dial ≡ Some e.dial → is_drawn_number (w.apps k).dial (pos e.dial) ≡ true
      is_own h = rw (h, eqb_refl e.dial) refl

      other_here : (c : Bool) → (w.streams f).connect ≡ c → is_drawn_number (w.apps k).dial (pos e.dial) ≡ false → (c ≡ false)
      other_here false ce h = refl
      other_here true ce h =
          let fits = keys.server.held e.dial e entry in let it = keys.agents.cid_app e.dial fits.cid fits.drawn in
          let there : (w.apps it.0).stream ≡ f = fits.front it.0 f it.1 it.2 front in
          let same : k ≡ it.0 = keys.clients.connect_one k it.0 came it.1 (at ∙ sym there) (ap (λ i. (w.streams i).connect) at ∙ ce) in
          let t : is_drawn_number (w.apps k).dial (pos e.dial) ≡ true = is_own (ap (λ i. (w.apps i).dial) same ∙ it.2) in
          absurd (cc (t, h))

      here : (b : Bool) → is_drawn_number (w.apps k).dial (pos e.dial) ≡ b → ((w.apps k).dial ≡ Some e.dial) ⊎ (((w.streams f).connect ≡ false) × (is_drawn_number (w.apps k).dial (pos e.dial) ≡ false))
      here true h = inl (own_here (w.apps k).dial h)
      here false h = inr (other_here (w.streams f).connect refl h, h)

  -- an app on the front of an entry whose dial is another is a client's
  pub a_client : (e : HeldEntry) (f : ℕ) (k : ℕ) → first_where (is_held_dial e.dial) w.server.held ≡ Some e → e.front ≡ Some f → (w.apps k).came ≡ true → (w.apps k).stream ≡ f
      → is_drawn_number (w.apps k).dial (pos e.dial) ≡ false → (w.streams (w.apps k).stream).connect ≡ false
  a_client e f k entry front came at other = here (own_or_other e f k entry front came at)
    where
      here : ((w.apps k).dial ≡ Some e.dial) ⊎ (((w.streams f).connect ≡ false) × (is_drawn_number (w.apps k).dial (pos e.dial) ≡ false)) → (w.streams (w.apps k).stream).connect ≡ false
      here (inl own) = let yes : is_drawn_number (w.apps k).dial (pos e.dial) ≡ true = rw (own, eqb_refl e.dial) refl in absurd (cc (yes, other))
      here (inr two) = ap (λ i. (w.streams i).connect) at ∙ two.0

pub cond_same : {A : Type 0} (b : Bool) (x : A) → cond b x x ≡ x
cond_same true x = refl
cond_same false x = refl
