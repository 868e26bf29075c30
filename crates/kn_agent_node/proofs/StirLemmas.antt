-- Numbers that were stirred.
use Rattle.std.proofs.Common.{◌≡◌, ℕ, ◌==◌, Bool, true, false, ◌||◌, List, [], ◌∷◌, ◌++◌, refl, sym, ap, ◌∙◌}
use Rattle.std.proofs.lemmas.Bool.{or_parts, eq-eqb, true≢false}
use Rattle.kn_rising.specs.Stirring.{is_stirred}

or_true : (a b : Bool) → b ≡ true → (a || b) ≡ true
or_true true b e = refl
or_true false b e = e

or_first : (a b : Bool) → a ≡ true → (a || b) ≡ true
or_first true b e = refl
or_first false b e = absurd cc

or_none : (a b : Bool) → a ≡ false → b ≡ false → (a || b) ≡ false
or_none true b e f = absurd cc
or_none false b e f = f

-- one that is not stirred with one more was not before
pub stirred_before : (c n : ℕ) (ns : List ℕ) → is_stirred c (ns ++ n ∷ []) ≡ false → is_stirred c ns ≡ false
stirred_before c n [] h = refl
stirred_before c n (x ∷ xs) h =
    let parts = or_parts (x == c) (is_stirred c (xs ++ n ∷ [])) h in
    or_none (x == c) (is_stirred c xs) parts.0 (stirred_before c n xs parts.1)

-- the newest is stirred
pub stirred_newest : (n : ℕ) (ns : List ℕ) → is_stirred n (ns ++ n ∷ []) ≡ true
stirred_newest n [] = or_first (n == n) false (eq-eqb n n refl)
stirred_newest n (x ∷ xs) = or_true (x == n) (is_stirred n (xs ++ n ∷ [])) (stirred_newest n xs)

pub true_is_not_false : {b : Bool} → b ≡ true → b ≡ false → ⊥
true_is_not_false t f = true≢false (sym t ∙ f)

-- one that is stirred still is, where those that are not were not before
pub still_stirred : (c : ℕ) (old new : List ℕ) → (is_stirred c new ≡ false → is_stirred c old ≡ false) → is_stirred c old ≡ true → is_stirred c new ≡ true
still_stirred c old new before was = by (is_stirred c new) refl
  where
    by : (b : Bool) → is_stirred c new ≡ b → is_stirred c new ≡ true
    by true e = e
    by false e = absurd (true_is_not_false was (before e))

-- one that is not stirred is no one that is
pub is_other : (n c : ℕ) (ns : List ℕ) → is_stirred n ns ≡ true → is_stirred c ns ≡ false → n ≡ c → ⊥
is_other n c ns on off same = true_is_not_false on (ap (λ k. is_stirred k ns) same ∙ off)
