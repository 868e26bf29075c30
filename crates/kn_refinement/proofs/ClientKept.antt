-- What fits goes on to fit where apps and clients keep their numbers, and what is noted of a client's app stays as its client knows it.
use Rattle.std.proofs.Common.{◌≡◌, ◌==◌, ◌≤◌, ◌<◌, ℕ, Bool, true, false, List, [], length, Option, Some, None, refl, sym, ap, ◌∙◌, subst, eqb-true}
use Rattle.std.specs.Option.{option_map}
use Rattle.kn_tables.specs.Lists.{first_where}
use Rattle.kn_edge_core.specs.ClientTables.{is_app}
use Rattle.kn_edge_core.specs.declared.app.App.{App as ListedApp}
use Rattle.kn_world.specs.declared.parts.App.{App}
use Rattle.kn_world.specs.declared.parts.Client.{Client}
use Rattle.kn_world.specs.declared.parts.Home.TheVariants as home
use Rattle.kn_world.specs.declared.parts.Owner.TheVariants as owner
use Rattle.kn_world.specs.declared.parts.Dial.{Dial}
use Rattle.kn_world.specs.declared.state.State.{State}
use Rattle.kn_world.specs.Numbers.{change, changed, nth}
use Rattle.kn_world.specs.States.{new_door}
use Rattle.kn_refinement.specs.Fits.{AskedFits, ClientFits, Fits, FrontFits, HasLeft, IsNotedAs}
use Rattle.kn_refinement.proofs.Changes.{changed_own, changed_other}
use Rattle.kn_refinement.proofs.ClientBecame.{Noted}

-- ---- lists whose members of each number are alike
abbrev pub Alike : {X : Type 0} → (X → X → Type 0) → Option X → Option X → Type 0
Alike R None None = Unit {0}
Alike R None (Some y) = ⊥
Alike R (Some x) None = ⊥
Alike R (Some x) (Some y) = R x y

pub alike_self : {X : Type 0} (R : X → X → Type 0) → ((x : X) → R x x) → (o : Option X) → Alike R o o
alike_self R self None = tt
alike_self R self (Some x) = self x

pub alike_then : {X : Type 0} (R : X → X → Type 0) → ((x y z : X) → R x y → R y z → R x z) → (o p q : Option X) → Alike R o p → Alike R p q → Alike R o q
alike_then R then None None None first second = tt
alike_then R then None None (Some z) first second = absurd second
alike_then R then None (Some y) None first second = absurd first
alike_then R then None (Some y) (Some z) first second = absurd first
alike_then R then (Some x) None None first second = absurd first
alike_then R then (Some x) None (Some z) first second = absurd first
alike_then R then (Some x) (Some y) None first second = absurd second
alike_then R then (Some x) (Some y) (Some z) first second = then x y z first second

pub alike_forth : {X : Type 0} (R : X → X → Type 0) (o p : Option X) (x : X) → Alike R o p → o ≡ Some x → (y : X) × (p ≡ Some y) × R x y
alike_forth R None p x alike e = absurd cc
alike_forth R (Some z) None x alike e = absurd alike
alike_forth R (Some z) (Some y) x alike e = let same : z ≡ x = cc in (y, refl, subst (λ v. R v y) same alike)

pub alike_back : {X : Type 0} (R : X → X → Type 0) (o p : Option X) (y : X) → Alike R o p → p ≡ Some y → (x : X) × (o ≡ Some x) × R x y
alike_back R o None y alike e = absurd cc
alike_back R None (Some z) y alike e = absurd alike
alike_back R (Some x) (Some z) y alike e = let same : z ≡ y = cc in (x, refl, subst (λ v. R x v) same alike)

pub alike_mapped : {X : Type 0} (R : X → X → Type 0) (f : X → X) (o : Option X) → ((x : X) → o ≡ Some x → R x (f x)) → Alike R o (option_map f o)
alike_mapped R f None each = tt
alike_mapped R f (Some x) each = each x refl

pub alike_changed : {X : Type 0} (R : X → X → Type 0) (f : X → X) (n : ℕ) (xs : List X) → ((x : X) → R x x) → ((x : X) → nth n xs ≡ Some x → R x (f x)) → (m : ℕ) → Alike R (nth m xs) (nth m (change f n xs))
alike_changed R f n xs self own m = here (m == n) refl (nth m xs) refl
  where
    here : (b : Bool) → (m == n) ≡ b → (o : Option _) → nth m xs ≡ o → Alike R o (nth m (change f n xs))
    here false e o h = subst (λ p. Alike R o p) (sym (changed_other f n m xs e ∙ h)) (alike_self R self o)
    here true e None h = let i : m ≡ n = eqb-true m n e in
        let none : nth m (change f n xs) ≡ None = ap (λ j. nth j (change f n xs)) i ∙ ap (λ o. nth n (changed f n xs o)) (ap (λ j. nth j xs) (sym i) ∙ h) ∙ ap (λ j. nth j xs) (sym i) ∙ h in
        rw none tt
    here true e (Some x) h = let i : m ≡ n = eqb-true m n e in
        let at : nth n xs ≡ Some x = ap (λ j. nth j xs) (sym i) ∙ h in
        subst (λ p. Alike R (Some x) p) (sym (ap (λ j. nth j (change f n xs)) i ∙ changed_own f n xs x at)) (own x at)

-- ---- what each app and each client keeps
pub record AppKept (a b : App) : Type 0 where
  pub connect : a.home ≡ home.Connect → b ≡ a
  pub home : b.home ≡ a.home
  pub dial : b.dial ≡ a.dial
  pub door : b.door ≡ a.door

pub app_as_it_was : (a : App) → AppKept a a
app_as_it_was a = record { home = refl; dial = refl; door = refl; connect = λ e. refl }

pub app_then : (x y z : App) → AppKept x y → AppKept y z → AppKept x z
app_then x y z first second = record {
  home = second.home ∙ first.home;
  dial = second.dial ∙ first.dial;
  door = second.door ∙ first.door;
  connect = λ e. second.connect (first.home ∙ e) ∙ first.connect e;
}

pub record ClientKept (x y : Client) : Type 0 where
  pub front : y.front ≡ x.front
  pub names : y.apps ≡ x.apps
  pub top : y.core.top_app ≡ x.core.top_app
  pub listed : (n : ℕ) (z : ListedApp) → first_where (is_app n) y.core.apps ≡ Some z → (w : ListedApp) × (first_where (is_app n) x.core.apps ≡ Some w)
  pub up_dry : (x.at_server ≡ false → x.up ≡ []) → y.at_server ≡ false → y.up ≡ []
  pub down_dry : (x.at_client ≡ false → x.down ≡ []) → y.at_client ≡ false → y.down ≡ []
  pub there : y.at_client ≡ true → x.at_client ≡ true

pub client_as_it_was : (x : Client) → ClientKept x x
client_as_it_was x = record { front = refl; names = refl; top = refl; listed = λ n z h. (z, h); up_dry = λ h. h; down_dry = λ h. h; there = λ h. h }

pub client_then : (x y z : Client) → ClientKept x y → ClientKept y z → ClientKept x z
client_then x y z first second = record {
  front = second.front ∙ first.front;
  names = second.names ∙ first.names;
  top = second.top ∙ first.top;
  listed = λ n v h. let w = second.listed n v h in first.listed n w.0 w.1;
  up_dry = λ h. second.up_dry (first.up_dry h);
  down_dry = λ h. second.down_dry (first.down_dry h);
  there = λ h. first.there (second.there h);
}

abbrev pub AppsKept : List App → List App → Type 0
AppsKept old new = (k : ℕ) → Alike AppKept (nth k old) (nth k new)

abbrev pub ClientsKept : List Client → List Client → Type 0
ClientsKept old new = (c : ℕ) → Alike ClientKept (nth c old) (nth c new)

-- what is noted of each app that a client was told of
abbrev pub AllNoted : List Client → List App → Type 0
AllNoted clients apps = (k c n : ℕ) (a : App) (x : Client) → nth k apps ≡ Some a → a.home ≡ home.Client c n → nth c clients ≡ Some x → n ≤ x.core.top_app → Noted (first_where (is_app n) x.core.apps) a.stage

pub all_noted : (clients : List Client) (apps : List App) → ClientFits clients apps → AllNoted clients apps
all_noted clients apps fits k c n a x at is there within = by (first_where (is_app n) x.core.apps) refl
  where
    by : (o : Option ListedApp) → first_where (is_app n) x.core.apps ≡ o → Noted o a.stage
    by None h = fits.left k c n a x at is there h within
    by (Some y) h = fits.here k c n a x y at is there h

-- ---- it fits again
module _ (s : State) (xs : List Client) (ys : List App) (fits : Fits s) (apps_kept : AppsKept s.apps ys) (clients_kept : ClientsKept s.clients xs) (noted : AllNoted xs ys) where
  connected : (k : ℕ) (a : App) → nth k ys ≡ Some a → a.home ≡ home.Connect → nth k s.apps ≡ Some a
  connected k a at is = here (alike_back AppKept (nth k s.apps) (nth k ys) a (apps_kept k) at)
    where
      here : (b : App) × (nth k s.apps ≡ Some b) × AppKept b a → nth k s.apps ≡ Some a
      here b = b.1 ∙ ap Some (sym (b.2.connect (sym b.2.home ∙ is)))

  asked_again : AskedFits s.dials ys
  asked_again = record { asker = λ d x at. here d x (fits.asked.asker d x at) }
    where
      here : (d : ℕ) (x : Dial) → (a : App) × (nth x.app s.apps ≡ Some a) × (a.dial ≡ d) → (a : App) × (nth x.app ys ≡ Some a) × (a.dial ≡ d)
      here d x a = by (alike_forth AppKept (nth x.app s.apps) (nth x.app ys) a.0 (apps_kept x.app) a.1)
        where
          by : (b : App) × (nth x.app ys ≡ Some b) × AppKept a.0 b → (b : App) × (nth x.app ys ≡ Some b) × (b.dial ≡ d)
          by b = (b.0, b.1, b.2.dial ∙ a.2)

  fronts_again : FrontFits xs ys s.fronts s.server.fronts
  fronts_again = record {
    of_client = λ f c h. own_client f c (fits.fronts.of_client f c h);
    client = λ c x there. its_front c x there (alike_back ClientKept (nth c s.clients) (nth c xs) x (clients_kept c) there);
    of_app = λ f app h. own_app f app (fits.fronts.of_app f app h);
    app = λ app n a at is. fits.fronts.app app n a (connected app a at is) is;
    unheard = λ app a at is. fits.fronts.unheard app a (connected app a at is) is;
    early = λ app a at is. fits.fronts.early app a (connected app a at is) is;
    refused = λ app a at is. fits.fronts.refused app a (connected app a at is) is;
    present = λ app n a at is. fits.fronts.present app n a (connected app a at is) is;
    gone = λ app n a at is. fits.fronts.gone app n a (connected app a at is) is;
    known = fits.fronts.known;
  }
    where
      own_client : (f c : ℕ) → (x : Client) × (nth c s.clients ≡ Some x) × (x.front ≡ f) → (x : Client) × (nth c xs ≡ Some x) × (x.front ≡ f)
      own_client f c x = by (alike_forth ClientKept (nth c s.clients) (nth c xs) x.0 (clients_kept c) x.1)
        where
          by : (y : Client) × (nth c xs ≡ Some y) × ClientKept x.0 y → (y : Client) × (nth c xs ≡ Some y) × (y.front ≡ f)
          by y = (y.0, y.1, y.2.front ∙ x.2)

      its_front : (c : ℕ) (x : Client) → nth c xs ≡ Some x → (w : Client) × (nth c s.clients ≡ Some w) × ClientKept w x → nth x.front s.fronts ≡ Some (owner.Client c)
      its_front c x there w = ap (λ f. nth f s.fronts) w.2.front ∙ fits.fronts.client c w.0 w.1

      own_app : (f app : ℕ) → (a : App) × (nth app s.apps ≡ Some a) × (a.home ≡ home.Connect) × (a.door.number ≡ f) → (a : App) × (nth app ys ≡ Some a) × (a.home ≡ home.Connect) × (a.door.number ≡ f)
      own_app f app a = by (alike_forth AppKept (nth app s.apps) (nth app ys) a.0 (apps_kept app) a.1)
        where
          by : (b : App) × (nth app ys ≡ Some b) × AppKept a.0 b → (b : App) × (nth app ys ≡ Some b) × (b.home ≡ home.Connect) × (b.door.number ≡ f)
          by b = let same : b.0 ≡ a.0 = b.2.connect a.2 in (b.0, b.1, ap (λ (v : App). v.home) same ∙ a.2, ap (λ (v : App). v.door.number) same ∙ a.3)

  abbrev WasClient : ℕ → Client → Type 0
  WasClient c x = (w : Client) × (nth c s.clients ≡ Some w) × ClientKept w x

  abbrev WasApp : ℕ → App → Type 0
  WasApp k a = (b : App) × (nth k s.apps ≡ Some b) × AppKept b a

  clients_again : ClientFits xs ys
  clients_again = record {
    of_number = λ c n app x there at. of_number c n app x at (was_client c x there);
    number_of = λ app c n a at is. number_of app c n a is (was_app app a at);
    top = λ c x there. top c x (was_client c x there);
    told = λ c n x y there h. told c n x y h (was_client c x there);
    here = λ app c n a x y at is there h. is_here app c n a x y at is there h (told c n x y h (was_client c x there));
    left = λ app c n a x at is there h within. is_left app c n a x at is there h within;
    up_dry = λ c x there. up_dry c x (was_client c x there);
    down_dry = λ c x there. down_dry c x (was_client c x there);
    unasked = λ app c n a x at is there. unasked app c n a x is (was_app app a at) (was_client c x there);
    all_told = λ c x there. all_told c x (was_client c x there);
    no_door = λ app c n a at is. no_door app c n a is (was_app app a at);
  }
    where
      was_client : (c : ℕ) (x : Client) → nth c xs ≡ Some x → WasClient c x
      was_client c x there = alike_back ClientKept (nth c s.clients) (nth c xs) x (clients_kept c) there

      was_app : (k : ℕ) (a : App) → nth k ys ≡ Some a → WasApp k a
      was_app k a at = alike_back AppKept (nth k s.apps) (nth k ys) a (apps_kept k) at

      of_number : (c n app : ℕ) (x : Client) → nth n x.apps ≡ Some app → WasClient c x → (a : App) × (nth app ys ≡ Some a) × (a.home ≡ home.Client c n)
      of_number c n app x at w = old (fits.clients.of_number c n app w.0 w.1 (ap (λ names. nth n names) (sym w.2.names) ∙ at))
        where
          old : (b : App) × (nth app s.apps ≡ Some b) × (b.home ≡ home.Client c n) → (a : App) × (nth app ys ≡ Some a) × (a.home ≡ home.Client c n)
          old b = by (alike_forth AppKept (nth app s.apps) (nth app ys) b.0 (apps_kept app) b.1)
            where
              by : (a : App) × (nth app ys ≡ Some a) × AppKept b.0 a → (a : App) × (nth app ys ≡ Some a) × (a.home ≡ home.Client c n)
              by a = (a.0, a.1, a.2.home ∙ b.2)

      number_of : (app c n : ℕ) (a : App) → a.home ≡ home.Client c n → WasApp app a → (x : Client) × (nth c xs ≡ Some x) × (nth n x.apps ≡ Some app)
      number_of app c n a is b = old (fits.clients.number_of app c n b.0 b.1 (sym b.2.home ∙ is))
        where
          old : (w : Client) × (nth c s.clients ≡ Some w) × (nth n w.apps ≡ Some app) → (x : Client) × (nth c xs ≡ Some x) × (nth n x.apps ≡ Some app)
          old w = by (alike_forth ClientKept (nth c s.clients) (nth c xs) w.0 (clients_kept c) w.1)
            where
              by : (x : Client) × (nth c xs ≡ Some x) × ClientKept w.0 x → (x : Client) × (nth c xs ≡ Some x) × (nth n x.apps ≡ Some app)
              by x = (x.0, x.1, ap (λ names. nth n names) x.2.names ∙ w.2)

      top : (c : ℕ) (x : Client) → WasClient c x → x.core.top_app ≤ length x.apps
      top c x w = rw (w.2.top, w.2.names) (fits.clients.top c w.0 w.1)

      told : (c n : ℕ) (x : Client) (y : ListedApp) → first_where (is_app n) x.core.apps ≡ Some y → WasClient c x → n ≤ x.core.top_app
      told c n x y h w = let v = w.2.listed n y h in rw w.2.top (fits.clients.told c n w.0 v.0 w.1 v.1)

      is_here : (app c n : ℕ) (a : App) (x : Client) (y : ListedApp) → nth app ys ≡ Some a → a.home ≡ home.Client c n → nth c xs ≡ Some x → first_where (is_app n) x.core.apps ≡ Some y → n ≤ x.core.top_app → IsNotedAs y.state a.stage
      is_here app c n a x y at is there h within = subst (λ o. Noted o a.stage) h (noted app c n a x at is there within)

      is_left : (app c n : ℕ) (a : App) (x : Client) → nth app ys ≡ Some a → a.home ≡ home.Client c n → nth c xs ≡ Some x → first_where (is_app n) x.core.apps ≡ None → n ≤ x.core.top_app → HasLeft a.stage
      is_left app c n a x at is there h within = subst (λ o. Noted o a.stage) h (noted app c n a x at is there within)

      up_dry : (c : ℕ) (x : Client) → WasClient c x → x.at_server ≡ false → x.up ≡ []
      up_dry c x w = w.2.up_dry (fits.clients.up_dry c w.0 w.1)

      down_dry : (c : ℕ) (x : Client) → WasClient c x → x.at_client ≡ false → x.down ≡ []
      down_dry c x w = w.2.down_dry (fits.clients.down_dry c w.0 w.1)

      unasked : (app c n : ℕ) (a : App) (x : Client) → a.home ≡ home.Client c n → WasApp app a → WasClient c x → x.core.top_app < n → a.dial ≡ 0
      unasked app c n a x is b w above = b.2.dial ∙ fits.clients.unasked app c n b.0 w.0 b.1 (sym b.2.home ∙ is) w.1 (rw w.2.top at above)

      all_told : (c : ℕ) (x : Client) → WasClient c x → x.at_client ≡ true → x.core.top_app ≡ length x.apps
      all_told c x w h = w.2.top ∙ fits.clients.all_told c w.0 w.1 (w.2.there h) ∙ ap length (sym w.2.names)

      no_door : (app c n : ℕ) (a : App) → a.home ≡ home.Client c n → WasApp app a → a.door ≡ new_door
      no_door app c n a is b = b.2.door ∙ fits.clients.no_door app c n b.0 b.1 (sym b.2.home ∙ is)

  pub fits_again : Fits (record s { clients = xs; apps = ys })
  fits_again = record { asked = asked_again; agents = fits.agents; clients = clients_again; fronts = fronts_again; next_dial = fits.next_dial }
