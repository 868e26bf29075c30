-- Clients, their apps and the fronts fit as before: over a change of one client, with a client more, and over a change of one app.
use Rattle.std.proofs.Common.{◌≡◌, ◌≤◌, ◌<◌, ◌++◌, ◌⊎◌, ℕ, suc, Bool, true, false, List, [], ◌∷◌, length, Some, None, inl, inr, refl, sym, ap, ◌∙◌, subst, arith}
use Rattle.kn_packet.specs.declared.packet.Packet.{Packet}
use Rattle.kn_tables.specs.Lists.{first_where}
use Rattle.kn_server_core.specs.FrontLists.{FrontList, is_up}
use Rattle.kn_server_core.specs.Isolation.{Each}
use Rattle.kn_edge_core.specs.ClientTables.{is_app}
use Rattle.kn_edge_core.specs.declared.client_state.ClientState.{ClientState}
use Rattle.kn_world.specs.declared.parts.App.{App}
use Rattle.kn_world.specs.declared.parts.Client.{Client}
use Rattle.kn_world.specs.declared.parts.Home.TheVariants as home
use Rattle.kn_world.specs.declared.parts.Owner.{Owner}
use Rattle.kn_world.specs.declared.parts.Owner.TheVariants as owner
use Rattle.kn_world.specs.declared.parts.Stage.TheVariants as stage
use Rattle.kn_world.specs.Clients as clients
use Rattle.kn_world.specs.Numbers.{change, nth, rest_of}
use Rattle.kn_world.specs.States.{new_client}
use Rattle.kn_refinement.specs.Fits.{ClientFits, FrontFits, HasLeft, IsDataOf, IsNotedAs, IsPast, IsUnheard}
use Rattle.kn_refinement.proofs.Pairs.{Paired, came_last, came_or_was, nth_empty, paired_change, was_itself, was_still}

-- ---- a client whose core, front and apps are as they were
pub record ClientKept (c : ℕ) (x y : Client) : Type 0 where
  pub core : y.core ≡ x.core
  pub front : y.front ≡ x.front
  pub at_client : y.at_client ≡ x.at_client
  pub apps : y.apps ≡ x.apps
  pub up_dry : (x.at_server ≡ false → x.up ≡ []) → y.at_server ≡ false → y.up ≡ []
  pub down_dry : (x.at_client ≡ false → x.down ≡ []) → y.at_client ≡ false → y.down ≡ []

pub client_same : (c : ℕ) (x : Client) → ClientKept c x x
client_same c x = record { core = refl; front = refl; at_client = refl; apps = refl; up_dry = λ h. h; down_dry = λ h. h }

pub down_kept : (p : Packet) (c : ℕ) (x : Client) → ClientKept c x (clients.queued_down p x)
down_kept p c x = here x.at_client refl
  where
    here : (b : Bool) → x.at_client ≡ b → ClientKept c x (clients.with_down b p x)
    here true e = record { core = refl; front = refl; at_client = refl; apps = refl; up_dry = λ h. h; down_dry = λ h g. absurd cc }
    here false e = client_same c x

pub lost_kept : (c : ℕ) (x : Client) → ClientKept c x (clients.lost_at_server x)
lost_kept c x = record { core = refl; front = refl; at_client = refl; apps = refl; up_dry = λ h g. refl; down_dry = λ h. h }

pub rest_kept : (c : ℕ) (x : Client) → ClientKept c x (clients.rest_up x)
rest_kept c x = record { core = refl; front = refl; at_client = refl; apps = refl; up_dry = λ h g. ap rest_of (h g); down_dry = λ h. h }

pub clients_kept : (f : Client → Client) (c : ℕ) (xs : List Client) → ((x : Client) → ClientKept c x (f x)) → Paired ClientKept xs (change f c xs)
clients_kept f c xs kept = paired_change ClientKept f c xs (λ m x h. client_same m x) (λ x h. kept x)

pub clients_fit : (old new : List Client) (ks : List App) → Paired ClientKept old new → ClientFits old ks → ClientFits new ks
clients_fit old new ks pairs fits = record {
  of_number = λ c n app y h i. let z = pairs.before c y h in fits.of_number c n app z.0 z.1 (ap (λ (xs : List ℕ). nth n xs) (sym z.2.apps) ∙ i);
  number_of = λ app c n a h e. let w = fits.number_of app c n a h e in let z = pairs.later c w.0 w.1 in (z.0, z.1, ap (λ (xs : List ℕ). nth n xs) z.2.apps ∙ w.2);
  top = λ c y h. let z = pairs.before c y h in subst (λ (s : ClientState). s.top_app ≤ length y.apps) (sym z.2.core) (subst (λ (xs : List ℕ). z.0.core.top_app ≤ length xs) (sym z.2.apps) (fits.top c z.0 z.1));
  all_told = λ c y h e. let z = pairs.before c y h in
      ap (λ (s : ClientState). s.top_app) z.2.core ∙ fits.all_told c z.0 z.1 (sym z.2.at_client ∙ e) ∙ ap (λ (xs : List ℕ). length xs) (sym z.2.apps);
  told = λ c n y v h e. let z = pairs.before c y h in
      subst (λ (s : ClientState). n ≤ s.top_app) (sym z.2.core) (fits.told c n z.0 v z.1 (ap (λ (s : ClientState). first_where (is_app n) s.apps) (sym z.2.core) ∙ e));
  here = λ app c n a y v h e i g. let z = pairs.before c y i in fits.here app c n a z.0 v h e z.1 (ap (λ (s : ClientState). first_where (is_app n) s.apps) (sym z.2.core) ∙ g);
  left = λ app c n a y h e i g t. let z = pairs.before c y i in
      fits.left app c n a z.0 h e z.1 (ap (λ (s : ClientState). first_where (is_app n) s.apps) (sym z.2.core) ∙ g) (subst (λ (s : ClientState). n ≤ s.top_app) z.2.core t);
  up_dry = λ c y h e. let z = pairs.before c y h in z.2.up_dry (λ g. fits.up_dry c z.0 z.1 g) e;
  down_dry = λ c y h e. let z = pairs.before c y h in z.2.down_dry (λ g. fits.down_dry c z.0 z.1 g) e;
  unasked = λ app c n a y h e i t. let z = pairs.before c y i in fits.unasked app c n a z.0 h e z.1 (subst (λ (s : ClientState). s.top_app < n) z.2.core t);
  no_door = fits.no_door;
}

pub fronts_of_clients_fit : (old new : List Client) (ks : List App) (fronts : List Owner) (up : FrontList) → Paired ClientKept old new → FrontFits old ks fronts up → FrontFits new ks fronts up
fronts_of_clients_fit old new ks fronts up pairs fits = record {
  of_client = λ f c h. let w = fits.of_client f c h in let z = pairs.later c w.0 w.1 in (z.0, z.1, z.2.front ∙ w.2);
  client = λ c y h. let z = pairs.before c y h in ap (λ n. nth n fronts) z.2.front ∙ fits.client c z.0 z.1;
  of_app = fits.of_app;
  app = fits.app;
  unheard = fits.unheard;
  early = fits.early;
  refused = fits.refused;
  present = fits.present;
  gone = fits.gone;
  known = fits.known;
}

-- ---- the fronts that are up
pub fronts_up_fit : (cs : List Client) (ks : List App) (fronts : List Owner) (old new : FrontList) → FrontFits cs ks fronts old → ((f : ℕ) → is_up f new ≡ true → (o : Owner) × (nth f fronts ≡ Some o)) → FrontFits cs ks fronts new
fronts_up_fit cs ks fronts old new fits known = record {
  of_client = fits.of_client;
  client = fits.client;
  of_app = fits.of_app;
  app = fits.app;
  unheard = fits.unheard;
  early = fits.early;
  refused = fits.refused;
  present = fits.present;
  gone = fits.gone;
  known = known;
}

-- ---- a client comes, and its front
of_came : (P : Client → Type 0) (front : ℕ) (xs : List Client) (c : ℕ) (y : Client) → nth c (xs ++ new_client front ∷ []) ≡ Some y → P (new_client front) → (nth c xs ≡ Some y → P y) → P y
of_came P front xs c y h own other = at (came_or_was xs (new_client front) c y h)
  where
    at : ((c ≡ suc (length xs)) × (y ≡ new_client front)) ⊎ (nth c xs ≡ Some y) → P y
    at (inl (i, e)) = subst P (sym e) own
    at (inr i) = other i

-- an app's client is one of those that were there
of_app : (P : Client → Type 0) (front : ℕ) (xs : List Client) (ks : List App) (app c n : ℕ) (a : App) (y : Client) → ClientFits xs ks → nth app ks ≡ Some a → a.home ≡ home.Client c n
    → nth c (xs ++ new_client front ∷ []) ≡ Some y → ((x : Client) → nth c xs ≡ Some x → P x) → P y
of_app P front xs ks app c n a y fits h e i own = let w = fits.number_of app c n a h e in subst P (sym (was_itself xs (new_client front) c w.0 y w.1 i)) (own w.0 w.1)

pub client_more_fits : (front : ℕ) (xs : List Client) (ks : List App) → ClientFits xs ks → ClientFits (xs ++ new_client front ∷ []) ks
client_more_fits front xs ks fits = record {
  of_number = λ c n app y h. of_came (λ x. nth n x.apps ≡ Some app → (a : App) × (nth app ks ≡ Some a) × (a.home ≡ home.Client c n)) front xs c y h (λ e. absurd (nth_empty n app e)) (λ i e. fits.of_number c n app y i e);
  number_of = λ app c n a h e. let w = fits.number_of app c n a h e in (w.0, was_still xs (new_client front) c w.0 w.1, w.2);
  top = λ c y h. of_came (λ x. x.core.top_app ≤ length x.apps) front xs c y h (omega arith) (λ i. fits.top c y i);
  all_told = λ c y h. of_came (λ x. x.at_client ≡ true → x.core.top_app ≡ length x.apps) front xs c y h (λ e. refl) (λ i. fits.all_told c y i);
  told = λ c n y v h. of_came (λ x. first_where (is_app n) x.core.apps ≡ Some v → n ≤ x.core.top_app) front xs c y h (λ e. absurd cc) (λ i. fits.told c n y v i);
  here = λ app c n a y v h e i. of_app (λ x. first_where (is_app n) x.core.apps ≡ Some v → IsNotedAs v.state a.stage) front xs ks app c n a y fits h e i (λ x g. fits.here app c n a x v h e g);
  left = λ app c n a y h e i. of_app (λ x. first_where (is_app n) x.core.apps ≡ None → n ≤ x.core.top_app → HasLeft a.stage) front xs ks app c n a y fits h e i (λ x g. fits.left app c n a x h e g);
  up_dry = λ c y h. of_came (λ x. x.at_server ≡ false → x.up ≡ []) front xs c y h (λ e. refl) (λ i. fits.up_dry c y i);
  down_dry = λ c y h. of_came (λ x. x.at_client ≡ false → x.down ≡ []) front xs c y h (λ e. refl) (λ i. fits.down_dry c y i);
  unasked = λ app c n a y h e i. of_app (λ x. x.core.top_app < n → a.dial ≡ 0) front xs ks app c n a y fits h e i (λ x g. fits.unasked app c n a x h e g);
  no_door = fits.no_door;
}

owner_client : {c d : ℕ} → owner.Client c ≡ owner.Client d → c ≡ d
owner_client e = cc

abbrev next_owner : List Client → Owner
next_owner xs = owner.Client (suc (length xs))

pub front_more_fits : (xs : List Client) (ks : List App) (fronts : List Owner) (up : FrontList) (front : ℕ) → front ≡ suc (length fronts) → FrontFits xs ks fronts up
    → FrontFits (xs ++ new_client front ∷ []) ks (fronts ++ owner.Client (suc (length xs)) ∷ []) up
front_more_fits xs ks fronts up front is fits = record {
  of_client = of_client;
  client = client;
  of_app = of_its_app;
  app = λ app n a h e g. was_still fronts (next_owner xs) (suc n) (owner.App app) (fits.app app n a h e g);
  unheard = fits.unheard;
  early = fits.early;
  refused = fits.refused;
  present = fits.present;
  gone = fits.gone;
  known = λ f h. let w = fits.known f h in (w.0, was_still fronts (next_owner xs) f w.0 w.1);
}
  where
    of_client : (f c : ℕ) → nth f (fronts ++ next_owner xs ∷ []) ≡ Some (owner.Client c) → (x : Client) × (nth c (xs ++ new_client front ∷ []) ≡ Some x) × (x.front ≡ f)
    of_client f c h = at (came_or_was fronts (next_owner xs) f (owner.Client c) h)
      where
        at : ((f ≡ suc (length fronts)) × (owner.Client c ≡ next_owner xs)) ⊎ (nth f fronts ≡ Some (owner.Client c)) → (x : Client) × (nth c (xs ++ new_client front ∷ []) ≡ Some x) × (x.front ≡ f)
        at (inl (i, e)) = (new_client front, ap (λ n. nth n (xs ++ new_client front ∷ [])) (owner_client e) ∙ came_last xs (new_client front), is ∙ sym i)
        at (inr i) = let w = fits.of_client f c i in (w.0, was_still xs (new_client front) c w.0 w.1, w.2)

    client : (c : ℕ) (y : Client) → nth c (xs ++ new_client front ∷ []) ≡ Some y → nth y.front (fronts ++ next_owner xs ∷ []) ≡ Some (owner.Client c)
    client c y h = at (came_or_was xs (new_client front) c y h)
      where
        at : ((c ≡ suc (length xs)) × (y ≡ new_client front)) ⊎ (nth c xs ≡ Some y) → nth y.front (fronts ++ next_owner xs ∷ []) ≡ Some (owner.Client c)
        at (inl (i, e)) = ap (λ (x : Client). nth x.front (fronts ++ next_owner xs ∷ [])) e ∙ ap (λ n. nth n (fronts ++ next_owner xs ∷ [])) is ∙ came_last fronts (next_owner xs) ∙ ap (λ n. Some (owner.Client n)) (sym i)
        at (inr i) = was_still fronts (next_owner xs) y.front (owner.Client c) (fits.client c y i)

    of_its_app : (f app : ℕ) → nth f (fronts ++ next_owner xs ∷ []) ≡ Some (owner.App app) → (a : App) × (nth app ks ≡ Some a) × (a.home ≡ home.Connect) × (a.door.number ≡ f)
    of_its_app f app h = at (came_or_was fronts (next_owner xs) f (owner.App app) h)
      where
        at : ((f ≡ suc (length fronts)) × (owner.App app ≡ next_owner xs)) ⊎ (nth f fronts ≡ Some (owner.App app)) → (a : App) × (nth app ks ≡ Some a) × (a.home ≡ home.Connect) × (a.door.number ≡ f)
        at (inl (i, e)) = absurd cc
        at (inr i) = fits.of_app f app i

-- ---- an app whose home and number are as they were. What of it is a client's is the same; what of it is one's by CONNECT fits on
pub record AppKept (cs : List Client) (k : ℕ) (a b : App) : Type 0 where
  pub at : b.home ≡ a.home
  pub number : b.door.number ≡ a.door.number
  pub noted : (c n : ℕ) → a.home ≡ home.Client c n → b.stage ≡ a.stage
  pub door : (c n : ℕ) → a.home ≡ home.Client c n → b.door ≡ a.door
  pub untold : (c n : ℕ) (x : Client) → a.home ≡ home.Client c n → nth c cs ≡ Some x → x.core.top_app < n → b.dial ≡ a.dial
  pub unheard : a.home ≡ home.Connect → a.door.number ≡ 0 → IsUnheard a → IsUnheard b
  pub early : a.home ≡ home.Connect → Each (IsDataOf a.dial) a.door.early → Each (IsDataOf b.dial) b.door.early
  pub refused : (a.stage ≡ stage.Refused → a.door.closing ≡ false) → b.stage ≡ stage.Refused → b.door.closing ≡ false
  pub at_server : b.door.at_server ≡ a.door.at_server
  pub end_given : b.side.end_given ≡ a.side.end_given
  pub left : IsPast a × (a.door.early ≡ []) → IsPast b × (b.door.early ≡ [])

pub app_same : (cs : List Client) (k : ℕ) (a : App) → AppKept cs k a a
app_same cs k a = record {
  at = refl;
  number = refl;
  noted = λ c n h. refl;
  door = λ c n h. refl;
  untold = λ c n x h i t. refl;
  unheard = λ h g u. u;
  early = λ h u. u;
  refused = λ u. u;
  at_server = refl;
  end_given = refl;
  left = λ u. u;
}

pub apps_of_clients_fit : (cs : List Client) (old new : List App) → Paired (AppKept cs) old new → ClientFits cs old → ClientFits cs new
apps_of_clients_fit cs old new pairs fits = record {
  of_number = λ c n app x h i. let w = fits.of_number c n app x h i in let z = pairs.later app w.0 w.1 in (z.0, z.1, z.2.at ∙ w.2);
  number_of = λ app c n b h e. let z = pairs.before app b h in fits.number_of app c n z.0 z.1 (sym z.2.at ∙ e);
  top = fits.top;
  all_told = fits.all_told;
  told = fits.told;
  here = λ app c n b x v h e i g. let z = pairs.before app b h in let s : z.0.home ≡ home.Client c n = sym z.2.at ∙ e in
      subst (λ t. IsNotedAs v.state t) (sym (z.2.noted c n s)) (fits.here app c n z.0 x v z.1 s i g);
  left = λ app c n b x h e i g t. let z = pairs.before app b h in let s : z.0.home ≡ home.Client c n = sym z.2.at ∙ e in
      subst (λ u. HasLeft u) (sym (z.2.noted c n s)) (fits.left app c n z.0 x z.1 s i g t);
  up_dry = fits.up_dry;
  down_dry = fits.down_dry;
  unasked = λ app c n b x h e i t. let z = pairs.before app b h in let s : z.0.home ≡ home.Client c n = sym z.2.at ∙ e in z.2.untold c n x s i t ∙ fits.unasked app c n z.0 x z.1 s i t;
  no_door = λ app c n b h e. let z = pairs.before app b h in let s : z.0.home ≡ home.Client c n = sym z.2.at ∙ e in z.2.door c n s ∙ fits.no_door app c n z.0 z.1 s;
}

pub apps_of_fronts_fit : (cs : List Client) (old new : List App) (fronts : List Owner) (up : FrontList) → Paired (AppKept cs) old new → FrontFits cs old fronts up → FrontFits cs new fronts up
apps_of_fronts_fit cs old new fronts up pairs fits = record {
  of_client = fits.of_client;
  client = fits.client;
  of_app = λ f app h. let w = fits.of_app f app h in let z = pairs.later app w.0 w.1 in (z.0, z.1, z.2.at ∙ w.2, z.2.number ∙ w.3);
  app = λ app n b h e g. let z = pairs.before app b h in fits.app app n z.0 z.1 (sym z.2.at ∙ e) (sym z.2.number ∙ g);
  unheard = λ app b h e g. let z = pairs.before app b h in let s : z.0.home ≡ home.Connect = sym z.2.at ∙ e in let m : z.0.door.number ≡ 0 = sym z.2.number ∙ g in z.2.unheard s m (fits.unheard app z.0 z.1 s m);
  early = λ app b h e. let z = pairs.before app b h in let s : z.0.home ≡ home.Connect = sym z.2.at ∙ e in z.2.early s (fits.early app z.0 z.1 s);
  refused = λ app b h e. let z = pairs.before app b h in let s : z.0.home ≡ home.Connect = sym z.2.at ∙ e in z.2.refused (fits.refused app z.0 z.1 s);
  present = λ app n b h e g i. let z = pairs.before app b h in let s : z.0.home ≡ home.Connect = sym z.2.at ∙ e in z.2.at_server ∙ fits.present app n z.0 z.1 s (sym z.2.number ∙ g) (sym z.2.end_given ∙ i);
  gone = λ app n b h e g i. let z = pairs.before app b h in let s : z.0.home ≡ home.Connect = sym z.2.at ∙ e in z.2.left (fits.gone app n z.0 z.1 s (sym z.2.number ∙ g) (sym z.2.at_server ∙ i));
  known = fits.known;
}
