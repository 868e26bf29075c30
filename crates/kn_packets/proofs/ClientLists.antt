-- The apps of a client, of which one changes or leaves.
use Rattle.std.proofs.Common.{◌≡◌, ◌==◌, ℕ, ℤ, Bool, true, false, cond, List, [], ◌∷◌, Some, None, refl, sym, ap, ◌∙◌, eqb-true}
use Rattle.std.proofs.lemmas.Bool.Decides.{Decides-int_eq}
use Rattle.kn_tables.specs.Lists.{IsRising, first_where, without}
use Rattle.kn_server_core.proofs.FrontIsolation.{found_by_number}
use Rattle.kn_server_core.proofs.SoundLemmas.{passes}
use Rattle.kn_server_core.proofs.TunnelTables.{false_unless}
use Rattle.kn_edge_core.specs.ClientTables.{app_changed, is_app, takes_close, takes_data}
use Rattle.kn_edge_core.specs.declared.app.App.{App}
use Rattle.kn_edge_core.specs.declared.app.AppState.{AppState}
use Rattle.kn_edge_core.specs.declared.app.AppState.TheVariants as app
use Rattle.kn_packets.proofs.Fresh.{eqb_refl}
use Rattle.kn_packets.proofs.Tables.{gone_without}

apart : (n m : ℕ) (x : App) → (n == m) ≡ false → is_app n x ≡ true → is_app m x ≡ false
apart n m x other is = false_unless (x.number == m) (λ h. let same : n ≡ m = sym (eqb-true x.number n is) ∙ eqb-true x.number m h in cc (rw same at other, eqb_refl m))

pub turned_other : (n m : ℕ) (g : App → App) (xs : List App) → ((x : App) → (g x).number ≡ x.number) → (n == m) ≡ false → first_where (is_app n) (app_changed m g xs) ≡ first_where (is_app n) xs
turned_other n m g [] same other = refl
turned_other n m g (x ∷ xs) same other = here (is_app m x) (is_app n x) refl refl (turned_other n m g xs same other)
  where
    here : (b c : Bool) → is_app m x ≡ b → is_app n x ≡ c → first_where (is_app n) (app_changed m g xs) ≡ first_where (is_app n) xs → first_where (is_app n) (cond b (g x) x ∷ app_changed m g xs) ≡ cond c (Some x) (first_where (is_app n) xs)
    here true true i j later = absurd (cc (apart n m x other j, i))
    here true false i j later = let no_it : is_app n (g x) ≡ false = rw (same x) j in rw no_it later
    here false true i j later = rw j refl
    here false false i j later = rw j later

pub turned_own : (n : ℕ) (g : App → App) (x : App) (xs : List App) → ((y : App) → (g y).number ≡ y.number) → first_where (is_app n) xs ≡ Some x → first_where (is_app n) (app_changed n g xs) ≡ Some (g x)
turned_own n g x [] same f = absurd cc
turned_own n g x (y ∷ ys) same f = here (is_app n y) refl f (λ l. turned_own n g x ys same l)
  where
    here : (b : Bool) → is_app n y ≡ b → cond b (Some y) (first_where (is_app n) ys) ≡ Some x → (first_where (is_app n) ys ≡ Some x → first_where (is_app n) (app_changed n g ys) ≡ Some (g x)) → first_where (is_app n) (cond b (g y) y ∷ app_changed n g ys) ≡ Some (g x)
    here true i f later = let m : y ≡ x = cc in let yes_it : is_app n (g y) ≡ true = rw (same y) i in rw yes_it (ap (λ (z : App). Some (g z)) m)
    here false i f later = rw i (later f)

pub left_other : (n m : ℕ) (xs : List App) → (n == m) ≡ false → first_where (is_app n) (without (is_app m) xs) ≡ first_where (is_app n) xs
left_other n m [] other = refl
left_other n m (x ∷ xs) other = here (is_app m x) (is_app n x) refl refl (left_other n m xs other)
  where
    here : (b c : Bool) → is_app m x ≡ b → is_app n x ≡ c → first_where (is_app n) (without (is_app m) xs) ≡ first_where (is_app n) xs → first_where (is_app n) (cond b xs (x ∷ without (is_app m) xs)) ≡ cond c (Some x) (first_where (is_app n) xs)
    here true true i j later = absurd (cc (apart n m x other j, i))
    here true false i j later = refl
    here false true i j later = rw j refl
    here false false i j later = rw j later

pub left_own : (n : ℕ) (x : App) (xs : List App) → IsRising (λ (y : App). y.number) xs → first_where (is_app n) xs ≡ Some x → first_where (is_app n) (without (is_app n) xs) ≡ None
left_own n x xs r f = gone_without (λ (y : App). y.number) (is_app n) n x xs r f f

pub its_number : (n : ℕ) (x : App) (xs : List App) → first_where (is_app n) xs ≡ Some x → x.number ≡ n
its_number n x xs f = eqb-true x.number n (passes (is_app n) x xs f)

pub its_place : (p : App → Bool) (x : App) (xs : List App) → IsRising (λ (y : App). y.number) xs → first_where p xs ≡ Some x → first_where (is_app x.number) xs ≡ Some x
its_place p x xs r f = found_by_number (λ (y : App). y.number) p x xs r f

-- what a connectID finds
pub open_is : (z : ℤ) (state : AppState) (own : ℤ) → takes_data state own z ≡ true → (state ≡ app.Open) × (own ≡ z)
open_is z app.Open own e = (refl, (Decides-int_eq own z).0 e)
open_is z app.Dialling own e = absurd cc
open_is z app.Closing own e = absurd cc
open_is z app.Lingering own e = absurd cc

pub held_is : (z : ℤ) (state : AppState) (own : ℤ) → takes_close state own z ≡ true → ((state ≡ app.Dialling → ⊥) × (state ≡ app.Lingering → ⊥)) × (own ≡ z)
held_is z app.Open own e = ((λ h. cc, λ h. cc), (Decides-int_eq own z).0 e)
held_is z app.Closing own e = ((λ h. cc, λ h. cc), (Decides-int_eq own z).0 e)
held_is z app.Dialling own e = absurd cc
held_is z app.Lingering own e = absurd cc
