-- What fits goes on to fit where a client has one app more.
use Rattle.std.proofs.Common.{◌≡◌, ◌==◌, ◌≤◌, ◌<◌, ◌++◌, ◌⊎◌, inl, inr, ℕ, suc, Bool, true, false, cond, List, [], ◌∷◌, length, Some, None, refl, sym, ap, ◌∙◌, subst, eqb-true, arith}
use Rattle.std.specs.Prelude.{slice_get}
use Rattle.kn_tables.specs.Lists.{first_where}
use Rattle.kn_server_core.proofs.TunnelTables.{false_unless}
use Rattle.kn_edge_core.specs.ClientTables.{is_app}
use Rattle.kn_edge_core.specs.declared.app.App.{App as ListedApp}
use Rattle.kn_packets.proofs.Fresh.{eqb_refl}
use Rattle.kn_world.specs.declared.parts.App.{App}
use Rattle.kn_world.specs.declared.parts.Client.{Client}
use Rattle.kn_world.specs.declared.parts.Home.TheVariants as home
use Rattle.kn_world.specs.declared.parts.Owner.TheVariants as owner
use Rattle.kn_world.specs.declared.state.State.{State}
use Rattle.kn_world.specs.Numbers.{nth}
use Rattle.kn_world.specs.States.{new_door}
use Rattle.kn_refinement.specs.Fits.{AskedFits, ClientFits, Fits, FrontFits}
use Rattle.kn_refinement.proofs.ClientBecame.{Noted}
use Rattle.kn_refinement.proofs.ClientKept.{all_noted}
use Rattle.kn_refinement.proofs.ClientStepped.{client_of_home, is_connect, number_of_home, some_same}
use Rattle.kn_refinement.proofs.NumberLemmas.{length_more, nth_front, nth_more, nth_within}

-- ---- a list with one member more
none_after : {X : Type 0} (xs : List X) → slice_get xs (length xs) ≡ None
none_after [] = refl
none_after (x ∷ xs) = none_after xs

pub nth_beyond : {X : Type 0} (xs : List X) → nth (suc (length xs)) xs ≡ None
nth_beyond xs = none_after xs

pub nth_last : {X : Type 0} (xs : List X) (x : X) → nth (suc (length xs)) (xs ++ x ∷ []) ≡ Some x
nth_last xs x = nth_more xs x (suc (length xs)) ∙ ap (λ b. cond b (Some x) (nth (suc (length xs)) xs)) (eqb_refl (suc (length xs)))

-- ---- what the client knows of its new app, and of the others as before
pub record Told (x y : Client) (b : App) : Type 0 where
  pub up_dry : (x.at_server ≡ false → x.up ≡ []) → y.at_server ≡ false → y.up ≡ []
  pub down_dry : (x.at_client ≡ false → x.down ≡ []) → y.at_client ≡ false → y.down ≡ []
  pub grows : x.core.top_app ≤ y.core.top_app
  pub top : y.core.top_app ≤ suc (length x.apps)
  pub all : y.at_client ≡ true → y.core.top_app ≡ suc (length x.apps)
  pub same : (n : ℕ) → n ≤ length x.apps → first_where (is_app n) y.core.apps ≡ first_where (is_app n) x.core.apps
  pub within : (n : ℕ) → n ≤ length x.apps → n ≤ y.core.top_app → n ≤ x.core.top_app
  pub told : (n : ℕ) (z : ListedApp) → first_where (is_app n) y.core.apps ≡ Some z → n ≤ y.core.top_app
  pub noted : suc (length x.apps) ≤ y.core.top_app → Noted (first_where (is_app (suc (length x.apps))) y.core.apps) b.stage

module _ (s : State) (c : ℕ) (x : Client) (fits : Fits s) (there : nth c s.clients ≡ Some x) (k : ℕ) (b : App) (y : Client) (xs : List Client) (ys : List App)
    (new_number : k ≡ suc (length s.apps)) (b_home : b.home ≡ home.Client c (suc (length x.apps))) (b_dial : b.dial ≡ 0) (b_door : b.door ≡ new_door)
    (own : nth c xs ≡ Some y) (others : (l : ℕ) → (l == c) ≡ false → nth l xs ≡ nth l s.clients) (own_app : nth k ys ≡ Some b) (other_apps : (j : ℕ) → (j == k) ≡ false → nth j ys ≡ nth j s.apps)
    (names : y.apps ≡ x.apps ++ k ∷ []) (front : y.front ≡ x.front) (told : Told x y b) where
  -- the apps and clients of before are there
  app_forth : (j : ℕ) (a : App) → nth j s.apps ≡ Some a → nth j ys ≡ Some a
  app_forth j a at = other_apps j (false_unless (j == k) (λ e. let same : j ≡ suc (length s.apps) = eqb-true j k e ∙ new_number in let bound : j ≤ length s.apps = nth_within j s.apps a at in omega arith)) ∙ at

  abbrev AppBefore : ℕ → App → Type 0
  AppBefore j a = ((j ≡ k) × (a ≡ b)) ⊎ (nth j s.apps ≡ Some a)

  app_before : (j : ℕ) (a : App) → nth j ys ≡ Some a → AppBefore j a
  app_before j a at = by (j == k) refl
    where
      by : (t : Bool) → (j == k) ≡ t → AppBefore j a
      by true e = let one : j ≡ k = eqb-true j k e in inl (one, some_same a b (sym at ∙ ap (λ i. nth i ys) one ∙ own_app))
      by false e = inr (sym (other_apps j e) ∙ at)

  abbrev ClientBefore : ℕ → Client → Type 0
  ClientBefore d z = ((d ≡ c) × (z ≡ y)) ⊎ (((d == c) ≡ false) × (nth d s.clients ≡ Some z))

  client_before : (d : ℕ) (z : Client) → nth d xs ≡ Some z → ClientBefore d z
  client_before d z at = by (d == c) refl
    where
      by : (t : Bool) → (d == c) ≡ t → ClientBefore d z
      by true e = let one : d ≡ c = eqb-true d c e in inl (one, some_same z y (sym at ∙ ap (λ i. nth i xs) one ∙ own))
      by false e = inr (e, sym (others d e) ∙ at)

  -- an app by CONNECT is one of before
  connected : (j : ℕ) (a : App) → nth j ys ≡ Some a → a.home ≡ home.Connect → nth j s.apps ≡ Some a
  connected j a at is = by (app_before j a at)
    where
      by : AppBefore j a → nth j s.apps ≡ Some a
      by (inr was) = was
      by (inl new) = let flags : true ≡ false = ap is_connect (sym is ∙ ap (λ (v : App). v.home) new.1 ∙ b_home) in absurd cc

  -- ---- fronts, and who asked
  arrived_asked : AskedFits s.dials ys
  arrived_asked = record { asker = λ d x at. let a = fits.asked.asker d x at in (a.0, app_forth x.app a.0 a.1, a.2) }

  arrived_fronts : FrontFits xs ys s.fronts s.server.fronts
  arrived_fronts = record {
    of_client = λ f d h. own_client f d (fits.fronts.of_client f d h);
    client = λ d z their. its_front d z (client_before d z their);
    of_app = λ f app h. let a = fits.fronts.of_app f app h in (a.0, app_forth app a.0 a.1, a.2, a.3);
    app = λ app n a at is. fits.fronts.app app n a (connected app a at is) is;
    unheard = λ app a at is. fits.fronts.unheard app a (connected app a at is) is;
    early = λ app a at is. fits.fronts.early app a (connected app a at is) is;
    refused = λ app a at is. fits.fronts.refused app a (connected app a at is) is;
    present = λ app n a at is. fits.fronts.present app n a (connected app a at is) is;
    gone = λ app n a at is. fits.fronts.gone app n a (connected app a at is) is;
    known = fits.fronts.known;
  }
    where
      own_client : (f d : ℕ) → (w : Client) × (nth d s.clients ≡ Some w) × (w.front ≡ f) → (w : Client) × (nth d xs ≡ Some w) × (w.front ≡ f)
      own_client f d w = by (d == c) refl
        where
          by : (t : Bool) → (d == c) ≡ t → (w : Client) × (nth d xs ≡ Some w) × (w.front ≡ f)
          by false e = (w.0, others d e ∙ w.1, w.2)
          by true e = let one : d ≡ c = eqb-true d c e in
              (y, ap (λ i. nth i xs) one ∙ own, front ∙ ap (λ (v : Client). v.front) (some_same x w.0 (sym there ∙ ap (λ i. nth i s.clients) (sym one) ∙ w.1)) ∙ w.2)

      its_front : (d : ℕ) (z : Client) → ClientBefore d z → nth z.front s.fronts ≡ Some (owner.Client d)
      its_front d z (inl new) = ap (λ (v : Client). nth v.front s.fronts) new.1 ∙ ap (λ f. nth f s.fronts) front ∙ fits.fronts.client c x there ∙ ap (λ i. Some (owner.Client i)) (sym new.0)
      its_front d z (inr was) = fits.fronts.client d z was.1

  -- ---- clients and their apps
  new_name : (n : ℕ) → nth n y.apps ≡ cond (n == suc (length x.apps)) (Some k) (nth n x.apps)
  new_name n = ap (λ ns. nth n ns) names ∙ nth_more x.apps k n

  of_number : (d n app : ℕ) (z : Client) → ClientBefore d z → nth n z.apps ≡ Some app → (a : App) × (nth app ys ≡ Some a) × (a.home ≡ home.Client d n)
  of_number d n app z (inr was) at = let a = fits.clients.of_number d n app z was.1 at in (a.0, app_forth app a.0 a.1, a.2)
  of_number d n app z (inl new) at = by (n == suc (length x.apps)) refl (sym (new_name n) ∙ ap (λ (v : Client). nth n v.apps) (sym new.1) ∙ at)
    where
      by : (t : Bool) → (n == suc (length x.apps)) ≡ t → cond t (Some k) (nth n x.apps) ≡ Some app → (a : App) × (nth app ys ≡ Some a) × (a.home ≡ home.Client d n)
      by true e h = let one : k ≡ app = some_same k app h in
          (b, ap (λ i. nth i ys) (sym one) ∙ own_app, b_home ∙ ap (λ i. home.Client i (suc (length x.apps))) (sym new.0) ∙ ap (λ i. home.Client d i) (sym (eqb-true n (suc (length x.apps)) e)))
      by false e h = let a = fits.clients.of_number c n app x there h in (a.0, app_forth app a.0 a.1, a.2 ∙ ap (λ i. home.Client i n) (sym new.0))

  -- the new app's home
  new_home : (d n : ℕ) (a : App) → a ≡ b → a.home ≡ home.Client d n → (d ≡ c) × (n ≡ suc (length x.apps))
  new_home d n a one is = let homes : home.Client d n ≡ home.Client c (suc (length x.apps)) = sym is ∙ ap (λ (v : App). v.home) one ∙ b_home in (ap client_of_home homes, ap number_of_home homes)

  number_of : (app d n : ℕ) (a : App) → AppBefore app a → a.home ≡ home.Client d n → (z : Client) × (nth d xs ≡ Some z) × (nth n z.apps ≡ Some app)
  number_of app d n a (inl new) is = let h = new_home d n a new.1 is in
      (y, ap (λ i. nth i xs) h.0 ∙ own, ap (λ i. nth i y.apps) h.1 ∙ new_name (suc (length x.apps)) ∙ ap (λ t. cond t (Some k) (nth (suc (length x.apps)) x.apps)) (eqb_refl (suc (length x.apps))) ∙ ap Some (sym new.0))
  number_of app d n a (inr was) is = by (d == c) refl (fits.clients.number_of app d n a was is)
    where
      by : (t : Bool) → (d == c) ≡ t → (w : Client) × (nth d s.clients ≡ Some w) × (nth n w.apps ≡ Some app) → (z : Client) × (nth d xs ≡ Some z) × (nth n z.apps ≡ Some app)
      by false e w = (w.0, others d e ∙ w.1, w.2)
      by true e w = let one : d ≡ c = eqb-true d c e in
          let its : x ≡ w.0 = some_same x w.0 (sym there ∙ ap (λ i. nth i s.clients) (sym one) ∙ w.1) in
          (y, ap (λ i. nth i xs) one ∙ own, ap (λ ns. nth n ns) names ∙ nth_front x.apps (k ∷ []) n app (ap (λ (v : Client). nth n v.apps) its ∙ w.2))

  -- an app of before has a number that its client had given
  old_number : (app n : ℕ) (a : App) → nth app s.apps ≡ Some a → a.home ≡ home.Client c n → n ≤ length x.apps
  old_number app n a was is = by (fits.clients.number_of app c n a was is)
    where
      by : (w : Client) × (nth c s.clients ≡ Some w) × (nth n w.apps ≡ Some app) → n ≤ length x.apps
      by w = nth_within n x.apps app (ap (λ (v : Client). nth n v.apps) (some_same x w.0 (sym there ∙ w.1)) ∙ w.2)

  all_told_of : (d : ℕ) (z : Client) → ClientBefore d z → z.at_client ≡ true → z.core.top_app ≡ length z.apps
  all_told_of d z (inr was) h = fits.clients.all_told d z was.1 h
  all_told_of d z (inl new) h = ap (λ (v : Client). v.core.top_app) new.1 ∙ told.all (ap (λ (v : Client). v.at_client) (sym new.1) ∙ h) ∙ sym (ap (λ (v : Client). length v.apps) new.1 ∙ ap length names ∙ length_more x.apps k)

  top_of : (d : ℕ) (z : Client) → ClientBefore d z → z.core.top_app ≤ length z.apps
  top_of d z (inr was) = fits.clients.top d z was.1
  top_of d z (inl new) = subst (λ (v : Client). v.core.top_app ≤ length v.apps) (sym new.1) (subst (λ m. y.core.top_app ≤ m) (sym (ap length names ∙ length_more x.apps k)) told.top)

  told_of : (d n : ℕ) (z : Client) (w : ListedApp) → ClientBefore d z → first_where (is_app n) z.core.apps ≡ Some w → n ≤ z.core.top_app
  told_of d n z w (inr was) h = fits.clients.told d n z w was.1 h
  told_of d n z w (inl new) h = subst (λ (v : Client). n ≤ v.core.top_app) (sym new.1) (told.told n w (ap (λ (v : Client). first_where (is_app n) v.core.apps) (sym new.1) ∙ h))

  -- what is noted of each
  noted_of : (app d n : ℕ) (a : App) (z : Client) → AppBefore app a → ClientBefore d z → a.home ≡ home.Client d n → n ≤ z.core.top_app → Noted (first_where (is_app n) z.core.apps) a.stage
  noted_of app d n a z (inl new) (inr was) is within = let h = new_home d n a new.1 is in let two : true ≡ false = sym (ap (λ i. i == c) h.0 ∙ eqb_refl c) ∙ was.0 in absurd cc
  noted_of app d n a z (inl new) (inl newer) is within =
      let h = new_home d n a new.1 is in
      let bound : suc (length x.apps) ≤ y.core.top_app = subst (λ i. i ≤ y.core.top_app) h.1 (subst (λ (v : Client). n ≤ v.core.top_app) newer.1 within) in
      subst (λ (v : App). Noted (first_where (is_app n) z.core.apps) v.stage) (sym new.1)
      (subst (λ (v : Client). Noted (first_where (is_app n) v.core.apps) b.stage) (sym newer.1) (subst (λ i. Noted (first_where (is_app i) y.core.apps) b.stage) (sym h.1) (told.noted bound)))
  noted_of app d n a z (inr was) (inr were) is within = all_noted s.clients s.apps fits.clients app d n a z was is were.1 within
  noted_of app d n a z (inr was) (inl newer) is within =
      let mine : a.home ≡ home.Client c n = is ∙ ap (λ i. home.Client i n) newer.0 in
      let old : n ≤ length x.apps = old_number app n a was mine in
      let bound : n ≤ x.core.top_app = told.within n old (subst (λ (v : Client). n ≤ v.core.top_app) newer.1 within) in
      subst (λ (v : Client). Noted (first_where (is_app n) v.core.apps) a.stage) (sym newer.1) (subst (λ o. Noted o a.stage) (sym (told.same n old)) (all_noted s.clients s.apps fits.clients app c n a x was mine there bound))

  unasked_of : (app d n : ℕ) (a : App) (z : Client) → AppBefore app a → ClientBefore d z → a.home ≡ home.Client d n → z.core.top_app < n → a.dial ≡ 0
  unasked_of app d n a z (inl new) their is above = ap (λ (v : App). v.dial) new.1 ∙ b_dial
  unasked_of app d n a z (inr was) (inr were) is above = fits.clients.unasked app d n a z was is were.1 above
  unasked_of app d n a z (inr was) (inl newer) is above =
      let higher : y.core.top_app < n = subst (λ (v : Client). v.core.top_app < n) newer.1 above in
      let grown : x.core.top_app ≤ y.core.top_app = told.grows in
      fits.clients.unasked app c n a x was (is ∙ ap (λ i. home.Client i n) newer.0) there (omega arith)

  no_door_of : (app d n : ℕ) (a : App) → AppBefore app a → a.home ≡ home.Client d n → a.door ≡ new_door
  no_door_of app d n a (inl new) is = ap (λ (v : App). v.door) new.1 ∙ b_door
  no_door_of app d n a (inr was) is = fits.clients.no_door app d n a was is

  up_dry_of : (d : ℕ) (z : Client) → ClientBefore d z → z.at_server ≡ false → z.up ≡ []
  up_dry_of d z (inr was) = fits.clients.up_dry d z was.1
  up_dry_of d z (inl new) = subst (λ (v : Client). v.at_server ≡ false → v.up ≡ []) (sym new.1) (told.up_dry (fits.clients.up_dry c x there))

  down_dry_of : (d : ℕ) (z : Client) → ClientBefore d z → z.at_client ≡ false → z.down ≡ []
  down_dry_of d z (inr was) = fits.clients.down_dry d z was.1
  down_dry_of d z (inl new) = subst (λ (v : Client). v.at_client ≡ false → v.down ≡ []) (sym new.1) (told.down_dry (fits.clients.down_dry c x there))

  arrived_clients : ClientFits xs ys
  arrived_clients = record {
    of_number = λ d n app z their at. of_number d n app z (client_before d z their) at;
    number_of = λ app d n a at is. number_of app d n a (app_before app a at) is;
    top = λ d z their. top_of d z (client_before d z their);
    all_told = λ d z their. all_told_of d z (client_before d z their);
    told = λ d n z w their h. told_of d n z w (client_before d z their) h;
    here = λ app d n a z w at is their h. subst (λ o. Noted o a.stage) h (noted_of app d n a z (app_before app a at) (client_before d z their) is (told_of d n z w (client_before d z their) h));
    left = λ app d n a z at is their h within. subst (λ o. Noted o a.stage) h (noted_of app d n a z (app_before app a at) (client_before d z their) is within);
    up_dry = λ d z their. up_dry_of d z (client_before d z their);
    down_dry = λ d z their. down_dry_of d z (client_before d z their);
    unasked = λ app d n a z at is their. unasked_of app d n a z (app_before app a at) (client_before d z their) is;
    no_door = λ app d n a at is. no_door_of app d n a (app_before app a at) is;
  }

  pub arrived_fits : Fits (record s { clients = xs; apps = ys })
  arrived_fits = record { asked = arrived_asked; agents = fits.agents; clients = arrived_clients; fronts = arrived_fronts; next_dial = fits.next_dial }
