-- Lists of which a member changed, or to which one came: what the members of a number have in common.
use Rattle.std.proofs.Common.{◌≡◌, ◌==◌, ◌++◌, ◌⊎◌, ℕ, zero, suc, Bool, true, false, cond, List, [], ◌∷◌, length, Some, inl, inr, refl, sym, ap, ◌∙◌, subst, eqb-true}
use Rattle.kn_world.specs.Numbers.{change, nth}
use Rattle.kn_refinement.proofs.Changes.{WasBefore, changed_other, changed_own, was_before}
use Rattle.kn_refinement.proofs.NumberLemmas.{nth_front, nth_more}

pub some_is : {X : Type 0} {x y : X} → Some x ≡ Some y → x ≡ y
some_is e = cc

pub nth_empty : {X : Type 0} (n : ℕ) (x : X) → nth n [] ≡ Some x → ⊥
nth_empty zero x h = cc
nth_empty (suc n) x h = cc

-- ---- members of a number belong together
pub record Paired {X : Type 0} (P : ℕ → X → X → Type 0) (old new : List X) : Type 0 where
  pub before : (n : ℕ) (y : X) → nth n new ≡ Some y → (x : X) × (nth n old ≡ Some x) × P n x y
  pub later : (n : ℕ) (x : X) → nth n old ≡ Some x → (y : X) × (nth n new ≡ Some y) × P n x y

pub paired_change : {X : Type 0} (P : ℕ → X → X → Type 0) (f : X → X) (n : ℕ) (xs : List X)
    → ((m : ℕ) (x : X) → nth m xs ≡ Some x → P m x x) → ((x : X) → nth n xs ≡ Some x → P n x (f x)) → Paired P xs (change f n xs)
paired_change P f n xs same changed = record { before = λ m y h. was m y (was_before f n m xs y h); later = λ m x h. is m x h (m == n) refl }
  where
    was : (m : ℕ) (y : _) → WasBefore f n m xs y → (x : _) × (nth m xs ≡ Some x) × P m x y
    was m y w = at w.is
      where
        at : ((m ≡ n) × (y ≡ f w.old)) ⊎ (((m == n) ≡ false) × (y ≡ w.old)) → (x : _) × (nth m xs ≡ Some x) × P m x y
        at (inl (i, e)) = (w.old, w.there, subst (λ z. P m w.old z) (sym e) (subst (λ k. P k w.old (f w.old)) (sym i) (changed w.old (ap (λ k. nth k xs) (sym i) ∙ w.there))))
        at (inr (i, e)) = (w.old, w.there, subst (λ z. P m w.old z) (sym e) (same m w.old w.there))

    is : (m : ℕ) (x : _) → nth m xs ≡ Some x → (b : Bool) → (m == n) ≡ b → (y : _) × (nth m (change f n xs) ≡ Some y) × P m x y
    is m x h true e =
        let i : m ≡ n = eqb-true m n e in
        let own : nth n xs ≡ Some x = ap (λ k. nth k xs) (sym i) ∙ h in
        (f x, ap (λ k. nth k (change f n xs)) i ∙ changed_own f n xs x own, subst (λ k. P k x (f x)) (sym i) (changed x own))
    is m x h false e = (x, changed_other f n m xs e ∙ h, same m x h)

-- ---- a list with one member more
pub came_or_was : {X : Type 0} (xs : List X) (x : X) (n : ℕ) (y : X) → nth n (xs ++ x ∷ []) ≡ Some y → ((n ≡ suc (length xs)) × (y ≡ x)) ⊎ (nth n xs ≡ Some y)
came_or_was xs x n y h = here (n == suc (length xs)) refl (sym (nth_more xs x n) ∙ h)
  where
    here : (b : Bool) → (n == suc (length xs)) ≡ b → cond b (Some x) (nth n xs) ≡ Some y → ((n ≡ suc (length xs)) × (y ≡ x)) ⊎ (nth n xs ≡ Some y)
    here true e i = inl (eqb-true n (suc (length xs)) e, sym (some_is i))
    here false e i = inr i

pub came_last : {X : Type 0} (xs : List X) (x : X) → nth (suc (length xs)) (xs ++ x ∷ []) ≡ Some x
came_last [] x = refl
came_last (y ∷ xs) x = came_last xs x

pub was_still : {X : Type 0} (xs : List X) (x : X) (n : ℕ) (y : X) → nth n xs ≡ Some y → nth n (xs ++ x ∷ []) ≡ Some y
was_still xs x n y h = nth_front xs (x ∷ []) n y h

-- one that was there is itself
pub was_itself : {X : Type 0} (xs : List X) (x : X) (n : ℕ) (y z : X) → nth n xs ≡ Some y → nth n (xs ++ x ∷ []) ≡ Some z → z ≡ y
was_itself xs x n y z h i = some_is (sym i ∙ was_still xs x n y h)
