-- A dial that the server makes is of the app that asked for it.
use Rattle.std.proofs.Common.{◌≡◌, ◌==◌, ◌&&◌, ℕ, ℤ, zero, suc, pos, negsuc, Bool, true, false, cond, List, [], ◌∷◌, Option, Some, None, refl, sym, ap, ◌∙◌, arith, eqb-true}
use Rattle.std.proofs.lemmas.Bool.{ne_eqb}
use Rattle.kn_server_core.specs.FrontLists.{FrontList}
use Rattle.kn_server_core.specs.Isolation.{Each}
use Rattle.kn_server_core.specs.declared.event.ServerOut.{ServerOut}
use Rattle.kn_server_core.specs.declared.event.ServerOut.TheVariants as out
use Rattle.kn_words.specs.Numbers.{is_number}
use Rattle.kn_packets.specs.Outputs.{dial_made}
use Rattle.kn_packets.proofs.Taken.{and_both, and_first, and_second}
use Rattle.kn_world.specs.declared.parts.App.{App}
use Rattle.kn_world.specs.declared.parts.Client.{Client}
use Rattle.kn_world.specs.declared.parts.Home.TheVariants as home
use Rattle.kn_world.specs.declared.parts.Owner.{Owner}
use Rattle.kn_world.specs.declared.parts.Owner.TheVariants as owner
use Rattle.kn_world.specs.Clients as clients
use Rattle.kn_world.specs.Numbers.{nth, number_of, or_none}
pub use Rattle.kn_refinement.specs.Asking.{AskedAt}
use Rattle.kn_refinement.specs.Fits.{ClientFits, FrontFits}
use Rattle.kn_refinement.specs.Shown.{number_if}
use Rattle.kn_refinement.proofs.DoorsKept.{dial_noted, noted}
use Rattle.kn_refinement.proofs.ServerStreams.{number_same, same_test, some_same}

client_same : {c d n m : ℕ} → home.Client c n ≡ home.Client d m → c ≡ d
client_same e = cc

number_here : {c d n m : ℕ} → home.Client c n ≡ home.Client d m → n ≡ m
number_here e = cc

owner_same : {c d : ℕ} → Some (owner.Client c) ≡ Some (owner.Client d) → c ≡ d
owner_same e = cc

app_same : {c d : ℕ} → Some (owner.App c) ≡ Some (owner.App d) → c ≡ d
app_same e = cc

-- a member has a number that is not 0
noted_there : {X : Type 0} (xs : List X) (x : X) (k : ℕ) (o : Option ℕ) → nth k xs ≡ Some x → k ≡ or_none o → o ≡ Some k
noted_there xs x k None there e = let none : nth k xs ≡ None = ap (λ n. nth n xs) e in absurd (cc (there, none))
noted_there xs x k (Some m) there e = ap Some (sym e)

names_number : (n : ℕ) (random : ℤ) (xs : List ℕ) (k : ℕ) → nth (number_of random) xs ≡ Some k → n ≡ number_of random → is_number n random ≡ true
names_number n (pos m) xs k there e = number_same m n (sym e)
names_number n (negsuc m) xs k there e = absurd cc

pub number_named : (n : ℕ) (random : ℤ) → is_number n random ≡ true → number_of random ≡ n
number_named n (pos m) h = eqb-true m n h
number_named n (negsuc m) h = absurd cc

module _ (cs : List Client) (ks : List App) (fronts : List Owner) (up : FrontList) (cfits : ClientFits cs ks) (fits : FrontFits cs ks fronts up) where
  -- the app of a client that asks on its front
  asker_home : (k c : ℕ) (a : App) (y : Client) (random : ℤ) → nth k ks ≡ Some a → nth c cs ≡ Some y → k ≡ clients.app_at (number_of random) (nth c cs)
      → (a.home ≡ home.Client c (number_of random))
  asker_home k c a y random there e h =
      let m : nth (number_of random) y.apps ≡ Some k = noted_there ks a k (nth (number_of random) y.apps) there (h ∙ ap (clients.app_at (number_of random)) e) in
      let z = cfits.of_number c (number_of random) k y e m in
      ap (λ (v : App). v.home) (some_same (sym there ∙ z.1)) ∙ z.2

  asker_number : (k c n : ℕ) (a : App) (y : Client) (random : ℤ) → nth k ks ≡ Some a → nth c cs ≡ Some y → k ≡ clients.app_at (number_of random) (nth c cs) → n ≡ number_of random → is_number n random ≡ true
  asker_number k c n a y random there e h s = names_number n random y.apps k (noted_there ks a k (nth (number_of random) y.apps) there (h ∙ ap (clients.app_at (number_of random)) e)) s

  pub client_asks : (k c n app front : ℕ) (a : App) (x : Client) (o : Owner) (random : ℤ) → nth k ks ≡ Some a → a.home ≡ home.Client c n → nth c cs ≡ Some x
      → nth front fronts ≡ Some o → AskedAt (Some o) random app cs → (k == app) ≡ ((x.front == front) && is_number n random)
  client_asks k c n app front a x (owner.Client d) random there h i e asked = same_test (k == app) ((x.front == front) && is_number n random)
      (λ t. let s : k ≡ app = eqb-true k app t in
      let y = fits.of_client front d e in
      let b : home.Client c n ≡ home.Client d (number_of random) = sym h ∙ asker_home k d a y.0 random there y.1 (s ∙ asked) in
      let z : x ≡ y.0 = some_same (sym i ∙ ap (λ m. nth m cs) (client_same b) ∙ y.1) in
      and_both (x.front == front) (is_number n random) (number_same x.front front (ap (λ (v : Client). v.front) z ∙ y.2)) (asker_number k d n a y.0 random there y.1 (s ∙ asked) (number_here b)))
      (λ t. let f : x.front ≡ front = eqb-true x.front front (and_first (x.front == front) (is_number n random) t) in
      let m : number_of random ≡ n = number_named n random (and_second (x.front == front) (is_number n random) t) in
      let s : c ≡ d = owner_same (sym (fits.client c x i) ∙ ap (λ j. nth j fronts) f ∙ e) in
      let y = cfits.number_of k c n a there h in
      let z : x ≡ y.0 = some_same (sym i ∙ y.1) in
      number_same k app (sym (asked ∙ ap (λ j. clients.app_at j (nth d cs)) m ∙ ap (λ j. clients.app_at n (nth j cs)) (sym s) ∙ ap (clients.app_at n) y.1 ∙ ap or_none y.2)))
  client_asks k c n app front a x (owner.App d) random there h i e asked = same_test (k == app) ((x.front == front) && is_number n random)
      (λ t. let s : k ≡ d = eqb-true k app t ∙ asked in
      let y = fits.of_app front d e in
      let z : a ≡ y.0 = some_same (sym there ∙ ap (λ m. nth m ks) s ∙ y.1) in
      let b : home.Client c n ≡ home.Connect = sym h ∙ ap (λ (v : App). v.home) z ∙ y.2 in absurd cc)
      (λ t. let f : x.front ≡ front = eqb-true x.front front (and_first (x.front == front) (is_number n random) t) in
      let b : Some (owner.Client c) ≡ Some (owner.App d) = sym (fits.client c x i) ∙ ap (λ j. nth j fronts) f ∙ e in absurd cc)

  pub connect_asks : (k f app front : ℕ) (a : App) (o : Owner) (random : ℤ) → nth k ks ≡ Some a → a.home ≡ home.Connect → nth f fronts ≡ Some (owner.App k)
      → nth front fronts ≡ Some o → AskedAt (Some o) random app cs → (k == app) ≡ ((f == front) && true)
  connect_asks k f app front a (owner.Client d) random there h i e asked = same_test (k == app) ((f == front) && true)
      (λ t. let s : k ≡ app = eqb-true k app t in
      let y = fits.of_client front d e in
      let b : home.Connect ≡ home.Client d (number_of random) = sym h ∙ asker_home k d a y.0 random there y.1 (s ∙ asked) in absurd cc)
      (λ t. let g : f ≡ front = eqb-true f front (and_first (f == front) true t) in
      let b : Some (owner.App k) ≡ Some (owner.Client d) = sym i ∙ ap (λ j. nth j fronts) g ∙ e in absurd cc)
  connect_asks k f app front a (owner.App d) random there h i e asked = same_test (k == app) ((f == front) && true)
      (λ t. let s : k ≡ d = eqb-true k app t ∙ asked in
      let y = fits.of_app front d e in
      let w = fits.of_app f k i in
      let z : w.0 ≡ y.0 = some_same (sym w.1 ∙ ap (λ m. nth m ks) s ∙ y.1) in
      and_both (f == front) true (number_same f front (sym w.3 ∙ ap (λ (v : App). v.door.number) z ∙ y.3)) refl)
      (λ t. let g : f ≡ front = eqb-true f front (and_first (f == front) true t) in
      let s : k ≡ d = app_same (sym i ∙ ap (λ j. nth j fronts) g ∙ e) in
      number_same k app (s ∙ sym asked))

  pub front_there : (front : ℕ) (o : Owner) → nth front fronts ≡ Some o → (0 == front) ≡ false
  front_there zero o e = absurd cc
  front_there (suc n) o e = ne_eqb zero (suc n) (λ (i : zero ≡ suc n). omega (arith, i))

-- ---- the dial of an app, after all outputs
-- a dial that is made is that of the app just where the packet world says so, and has a number that is not 0
abbrev pub NotesDial : ℕ → ℕ → Bool → ℕ → ServerOut → Type 0
NotesDial app stream own k (out.Made dial link front) = ((k == app) ≡ ((stream == front) && own)) × (number_if dial ≡ Some dial)
NotesDial app stream own k (out.ToLink link p) = Unit {0}
NotesDial app stream own k (out.ToFront front p) = Unit {0}
NotesDial app stream own k (out.CutLink link) = Unit {0}

noted_if : (b : Bool) (dial d : ℕ) → number_if dial ≡ Some dial → number_if (noted b dial d) ≡ cond b (Some dial) (number_if d)
noted_if true dial d e = e
noted_if false dial d e = refl

pub dial_shown : (os : List ServerOut) (app stream : ℕ) (own : Bool) (k d : ℕ) → Each (NotesDial app stream own k) os
    → number_if (dial_noted app k os d) ≡ dial_made stream own os (number_if d)
dial_shown [] app stream own k d h = refl
dial_shown (out.Made dial link front ∷ os) app stream own k d h =
    dial_shown os app stream own k (noted (k == app) dial d) h.1
    ∙ ap (dial_made stream own os) (noted_if (k == app) dial d h.0.1 ∙ ap (λ b. cond b (Some dial) (number_if d)) h.0.0)
dial_shown (out.ToLink link p ∷ os) app stream own k d h = dial_shown os app stream own k d h.1
dial_shown (out.ToFront front p ∷ os) app stream own k d h = dial_shown os app stream own k d h.1
dial_shown (out.CutLink link ∷ os) app stream own k d h = dial_shown os app stream own k d h.1

abbrev pub MadeOnFront : ServerOut → Type 0
MadeOnFront (out.Made dial link front) = (0 == front) ≡ false
MadeOnFront (out.ToLink link p) = Unit {0}
MadeOnFront (out.ToFront front p) = Unit {0}
MadeOnFront (out.CutLink link) = Unit {0}

pub none_made : (os : List ServerOut) (own : Bool) → Each MadeOnFront os → dial_made 0 own os None ≡ None
none_made [] own h = refl
none_made (out.Made dial link front ∷ os) own h = ap (λ b. dial_made 0 own os (cond (b && own) (Some dial) None)) h.0 ∙ none_made os own h.1
none_made (out.ToLink link p ∷ os) own h = none_made os own h.1
none_made (out.ToFront front p ∷ os) own h = none_made os own h.1
none_made (out.CutLink link ∷ os) own h = none_made os own h.1
