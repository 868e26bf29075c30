-- Lists whose members are numbered from 1: what a change, and a further member, do to the member of a number.
use Rattle.std.proofs.Common.{◌≡◌, ◌≤◌, ◌==◌, ◌++◌, ℕ, zero, suc, Bool, true, false, cond, List, [], ◌∷◌, length, Option, Some, None, refl, sym, ap, ◌∙◌, eqb-true, arith}
use Rattle.std.proofs.Math.Dec.{eqb-suc-suc, eqb-suc-zero, eqb-zero-suc}
use Rattle.std.specs.Option.{option_map}
use Rattle.std.specs.Prelude.{slice_get, slice_set}
use Rattle.kn_world.specs.Numbers.{change, changed, nth}

-- ---- by the index
pub set_same : {X : Type 0} (xs : List X) (i : ℕ) (x y : X) → slice_get xs i ≡ Some x → slice_get (slice_set xs i y) i ≡ Some y
set_same [] i x y h = absurd cc
set_same (z ∷ xs) zero x y h = refl
set_same (z ∷ xs) (suc i) x y h = set_same xs i x y h

pub set_other : {X : Type 0} (xs : List X) (i j : ℕ) (y : X) → (j == i) ≡ false → slice_get (slice_set xs i y) j ≡ slice_get xs j
set_other [] i j y h = refl
set_other (z ∷ xs) zero zero y h = absurd cc
set_other (z ∷ xs) zero (suc j) y h = refl
set_other (z ∷ xs) (suc i) zero y h = refl
set_other (z ∷ xs) (suc i) (suc j) y h = set_other xs i j y (sym (eqb-suc-suc j i) ∙ h)

pub set_length : {X : Type 0} (xs : List X) (i : ℕ) (y : X) → length (slice_set xs i y) ≡ length xs
set_length [] i y = refl
set_length (z ∷ xs) zero y = refl
set_length (z ∷ xs) (suc i) y = ap suc (set_length xs i y)

pub get_front : {X : Type 0} (xs ys : List X) (i : ℕ) (x : X) → slice_get xs i ≡ Some x → slice_get (xs ++ ys) i ≡ Some x
get_front [] ys i x h = absurd cc
get_front (z ∷ xs) ys zero x h = h
get_front (z ∷ xs) ys (suc i) x h = get_front xs ys i x h

pub get_last : {X : Type 0} (xs : List X) (x : X) → slice_get (xs ++ x ∷ []) (length xs) ≡ Some x
get_last [] x = refl
get_last (z ∷ xs) x = get_last xs x

pub get_more : {X : Type 0} (xs : List X) (x : X) (i : ℕ) → (i == length xs) ≡ false → slice_get (xs ++ x ∷ []) i ≡ slice_get xs i
get_more [] x zero h = absurd cc
get_more [] x (suc i) h = refl
get_more (z ∷ xs) x zero h = refl
get_more (z ∷ xs) x (suc i) h = get_more xs x i (sym (eqb-suc-suc i (length xs)) ∙ h)

-- the member at an index, changed where there is one
set_here : {X : Type 0} (f : X → X) (n j : ℕ) (xs : List X) → j ≡ n → slice_get (changed f (suc n) xs (slice_get xs n)) j ≡ option_map f (slice_get xs j)
set_here f n j xs e = at (slice_get xs n) refl
  where
    at : (o : Option _) → slice_get xs n ≡ o → slice_get (changed f (suc n) xs o) j ≡ option_map f (slice_get xs j)
    at None h = ap (λ i. slice_get xs i) e ∙ h ∙ sym (ap (λ i. option_map f (slice_get xs i)) e ∙ ap (λ o. option_map f o) h)
    at (Some x) h = ap (λ i. slice_get (slice_set xs n (f x)) i) e ∙ set_same xs n x (f x) h ∙ sym (ap (λ i. option_map f (slice_get xs i)) e ∙ ap (λ o. option_map f o) h)

set_there : {X : Type 0} (f : X → X) (n j : ℕ) (xs : List X) → (j == n) ≡ false → slice_get (changed f (suc n) xs (slice_get xs n)) j ≡ slice_get xs j
set_there f n j xs e = at (slice_get xs n)
  where
    at : (o : Option _) → slice_get (changed f (suc n) xs o) j ≡ slice_get xs j
    at None = refl
    at (Some x) = set_other xs n j (f x) e

cond_same : {A : Type 0} (b : Bool) (x : A) → x ≡ cond b x x
cond_same true x = refl
cond_same false x = refl

-- ---- by the number
-- the member of a number, where it is one of the list, after a change of another
pub nth_change : {X : Type 0} (f : X → X) (n m : ℕ) (xs : List X) → nth m (change f n xs) ≡ cond (m == n) (option_map f (nth m xs)) (nth m xs)
nth_change f zero zero xs = refl
nth_change f zero (suc m) xs = ap (λ b. cond b (option_map f (nth (suc m) xs)) (nth (suc m) xs)) (sym (eqb-suc-zero m))
nth_change f (suc n) zero xs = cond_same (zero == suc n) None
nth_change f (suc n) (suc j) xs = by (j == n) refl ∙ ap (λ b. cond b (option_map f (slice_get xs j)) (slice_get xs j)) (sym (eqb-suc-suc j n))
  where
    by : (b : Bool) → (j == n) ≡ b → nth (suc j) (change f (suc n) xs) ≡ cond b (option_map f (slice_get xs j)) (slice_get xs j)
    by true e = set_here f n j xs (eqb-true j n e)
    by false e = set_there f n j xs e

pub change_length : {X : Type 0} (f : X → X) (n : ℕ) (xs : List X) → length (change f n xs) ≡ length xs
change_length f zero xs = refl
change_length f (suc n) xs = at (slice_get xs n)
  where
    at : (o : Option _) → length (changed f (suc n) xs o) ≡ length xs
    at None = refl
    at (Some x) = set_length xs n (f x)

-- one more member has the next number, and the others keep theirs
pub nth_more : {X : Type 0} (xs : List X) (x : X) (n : ℕ) → nth n (xs ++ x ∷ []) ≡ cond (n == suc (length xs)) (Some x) (nth n xs)
nth_more xs x zero = ap (λ b. cond b (Some x) None) (sym (eqb-zero-suc (length xs)))
nth_more xs x (suc i) = by (i == length xs) refl ∙ ap (λ b. cond b (Some x) (slice_get xs i)) (sym (eqb-suc-suc i (length xs)))
  where
    by : (b : Bool) → (i == length xs) ≡ b → slice_get (xs ++ x ∷ []) i ≡ cond b (Some x) (slice_get xs i)
    by true e = ap (λ j. slice_get (xs ++ x ∷ []) j) (eqb-true i (length xs) e) ∙ get_last xs x
    by false e = get_more xs x i e

pub length_more : {X : Type 0} (xs : List X) (x : X) → length (xs ++ x ∷ []) ≡ suc (length xs)
length_more [] x = refl
length_more (z ∷ xs) x = ap suc (length_more xs x)

pub nth_front : {X : Type 0} (xs ys : List X) (n : ℕ) (x : X) → nth n xs ≡ Some x → nth n (xs ++ ys) ≡ Some x
nth_front xs ys zero x h = absurd cc
nth_front xs ys (suc i) x h = get_front xs ys i x h

pub nth_none : {X : Type 0} (f : X → X) (n : ℕ) (xs : List X) → nth n xs ≡ None → change f n xs ≡ xs
nth_none f n xs h = ap (λ o. changed f n xs o) h

pub nth_within : {X : Type 0} (n : ℕ) (xs : List X) (x : X) → nth n xs ≡ Some x → n ≤ length xs
nth_within zero xs x h = omega arith
nth_within (suc i) xs x h = within xs i h
  where
    within : (ys : List _) (j : ℕ) → slice_get ys j ≡ Some x → suc j ≤ length ys
    within [] j e = absurd cc
    within (y ∷ ys) zero e = omega arith
    within (y ∷ ys) (suc j) e = let r : suc j ≤ length ys = within ys j e in omega arith
