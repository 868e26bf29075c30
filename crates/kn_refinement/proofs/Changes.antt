-- Changes of a member, one after another.
use Rattle.std.proofs.Common.{◌≡◌, ℕ, zero, suc, Bool, true, false, cond, List, [], ◌∷◌, Option, Some, None, refl, sym, ap, ◌∙◌, ◌⊎◌, inl, inr, eqb-true, subst}
use Rattle.std.specs.Option.{option_map}
use Rattle.std.specs.Prelude.{◌==◌, slice_get, slice_set}
use Rattle.kn_world.specs.Numbers.{change, changed, nth}
use Rattle.kn_refinement.proofs.NumberLemmas.{nth_change, set_same}

-- a member that is put where it was
pub set_as_was : {X : Type 0} (xs : List X) (i : ℕ) (x : X) → slice_get xs i ≡ Some x → slice_set xs i x ≡ xs
set_as_was [] i x h = refl
set_as_was (z ∷ xs) zero x h = let e : x ≡ z = sym cc in ap (λ y. y ∷ xs) e
set_as_was (z ∷ xs) (suc i) x h = ap (λ ys. z ∷ ys) (set_as_was xs i x h)

set_twice : {X : Type 0} (xs : List X) (i : ℕ) (x y : X) → slice_set (slice_set xs i x) i y ≡ slice_set xs i y
set_twice [] i x y = refl
set_twice (z ∷ xs) zero x y = refl
set_twice (z ∷ xs) (suc i) x y = ap (λ ys. z ∷ ys) (set_twice xs i x y)

-- one that changes nothing
pub change_same : {X : Type 0} (f : X → X) (n : ℕ) (xs : List X) → ((x : X) → f x ≡ x) → change f n xs ≡ xs
change_same f zero xs same = refl
change_same f (suc i) xs same = here (slice_get xs i) refl
  where
    here : (o : Option _) → slice_get xs i ≡ o → changed f (suc i) xs o ≡ xs
    here None h = refl
    here (Some x) h = ap (λ y. slice_set xs i y) (same x) ∙ set_as_was xs i x h

-- one that changes nothing of the member that is there
pub change_kept : {X : Type 0} (f : X → X) (n : ℕ) (xs : List X) (x : X) → nth n xs ≡ Some x → f x ≡ x → change f n xs ≡ xs
change_kept f zero xs x h same = refl
change_kept f (suc i) xs x h same = ap (λ o. changed f (suc i) xs o) h ∙ ap (λ y. slice_set xs i y) same ∙ set_as_was xs i x h

-- two of one number
pub change_twice : {X : Type 0} (f g : X → X) (n : ℕ) (xs : List X) → change f n (change g n xs) ≡ change (λ x. f (g x)) n xs
change_twice f g zero xs = refl
change_twice f g (suc i) xs = here (slice_get xs i) refl
  where
    here : (o : Option _) → slice_get xs i ≡ o → change f (suc i) (changed g (suc i) xs o) ≡ changed (λ x. f (g x)) (suc i) xs o
    here None h = ap (λ o. changed f (suc i) xs o) h
    here (Some x) h = ap (λ o. changed f (suc i) (slice_set xs i (g x)) o) (set_same xs i x (g x) h) ∙ set_twice xs i (g x) (f (g x))

-- two that come to one
pub change_as : {X : Type 0} (f g h : X → X) (n : ℕ) (xs : List X) → ((x : X) → f (g x) ≡ h x) → change f n (change g n xs) ≡ change h n xs
change_as f g h n xs same = change_twice f g n xs ∙ ap (λ k. change k n xs) (λ i x. same x i)

-- ---- the member of a number after a change
pub changed_own : {X : Type 0} (f : X → X) (n : ℕ) (xs : List X) (x : X) → nth n xs ≡ Some x → nth n (change f n xs) ≡ Some (f x)
changed_own f zero xs x h = absurd cc
changed_own f (suc i) xs x h = ap (λ o. nth (suc i) (changed f (suc i) xs o)) h ∙ set_same xs i x (f x) h

pub changed_other : {X : Type 0} (f : X → X) (n m : ℕ) (xs : List X) → (m == n) ≡ false → nth m (change f n xs) ≡ nth m xs
changed_other f n m xs h = nth_change f n m xs ∙ ap (λ b. cond b (option_map f (nth m xs)) (nth m xs)) h

-- what it was before
pub record WasBefore {X : Type 0} (f : X → X) (n m : ℕ) (xs : List X) (y : X) : Type 0 where
  pub old : X
  pub there : nth m xs ≡ Some old
  pub is : ((m ≡ n) × (y ≡ f old)) ⊎ (((m == n) ≡ false) × (y ≡ old))

pub was_before : {X : Type 0} (f : X → X) (n m : ℕ) (xs : List X) (y : X) → nth m (change f n xs) ≡ Some y → WasBefore f n m xs y
was_before f n m xs y h = here (m == n) refl (nth m xs) refl (sym (nth_change f n m xs) ∙ h)
  where
    here : (b : Bool) → (m == n) ≡ b → (o : Option _) → nth m xs ≡ o → cond b (option_map f o) o ≡ Some y → WasBefore f n m xs y
    here true i None g e = absurd cc
    here true i (Some x) g e = record { old = x; there = g; is = inl (eqb-true m n i, sym cc) }
    here false i None g e = absurd cc
    here false i (Some x) g e = record { old = x; there = g; is = inr (i, sym cc) }

-- the members before and after a change of one of them, where each stands to what it comes to in some way
module _ {X : Type 0} (R : X → X → Type 0) (f : X → X) (n : ℕ) (xs : List X) (own : (x : X) → nth n xs ≡ Some x → R x (f x)) (same : (m : ℕ) (x : X) → nth m xs ≡ Some x → R x x) where
  pub back : (m : ℕ) (y : X) → nth m (change f n xs) ≡ Some y → (x : X) × (nth m xs ≡ Some x) × R x y
  back m y h = here (was_before f n m xs y h)
    where
      here : WasBefore f n m xs y → (x : X) × (nth m xs ≡ Some x) × R x y
      here w = by w.is
        where
          by : ((m ≡ n) × (y ≡ f w.old)) ⊎ (((m == n) ≡ false) × (y ≡ w.old)) → (x : X) × (nth m xs ≡ Some x) × R x y
          by (inl e) = (w.old, w.there, subst (R w.old) (sym e.1) (own w.old (ap (λ i. nth i xs) (sym e.0) ∙ w.there)))
          by (inr e) = (w.old, w.there, subst (R w.old) (sym e.1) (same m w.old w.there))

  pub forth : (m : ℕ) (x : X) → nth m xs ≡ Some x → (y : X) × (nth m (change f n xs) ≡ Some y) × R x y
  forth m x h = by (m == n) refl
    where
      by : (e : Bool) → (m == n) ≡ e → (y : X) × (nth m (change f n xs) ≡ Some y) × R x y
      by true e = let at : nth n xs ≡ Some x = ap (λ i. nth i xs) (sym (eqb-true m n e)) ∙ h in (f x, ap (λ i. nth i (change f n xs)) (eqb-true m n e) ∙ changed_own f n xs x at, own x at)
      by false e = (x, changed_other f n m xs e ∙ h, same m x h)

pub same_of : {X : Type 0} (o : Option X) (a b : X) → o ≡ Some a → o ≡ Some b → a ≡ b
same_of o a b p q = cc

-- the members after a change, where the one that changes is known
pub became : {X : Type 0} (f : X → X) (n : ℕ) (xs : List X) (x z : X) → nth n xs ≡ Some x → f x ≡ z → (m : ℕ) (y : X) → nth m (change f n xs) ≡ Some y → ((m ≡ n) × (y ≡ z)) ⊎ (((m == n) ≡ false) × (nth m xs ≡ Some y))
became f n xs x z at is m y h = here (was_before f n m xs y h)
  where
    here : WasBefore f n m xs y → ((m ≡ n) × (y ≡ z)) ⊎ (((m == n) ≡ false) × (nth m xs ≡ Some y))
    here w = by w.is
      where
        by : ((m ≡ n) × (y ≡ f w.old)) ⊎ (((m == n) ≡ false) × (y ≡ w.old)) → ((m ≡ n) × (y ≡ z)) ⊎ (((m == n) ≡ false) × (nth m xs ≡ Some y))
        by (inl e) = inl (e.0, e.1 ∙ ap f (same_of (nth n xs) w.old x (ap (λ i. nth i xs) (sym e.0) ∙ w.there) at) ∙ is)
        by (inr e) = inr (e.0, w.there ∙ ap Some (sym e.1))
