-- Whether bytes are there, after they were added to, taken or cut.
use Rattle.std.proofs.Common.{◌≡◌, ◌≤◌, ◌++◌, ◌&&◌, ◌||◌, ℕ, Bool, true, false, not, List, [], ◌∷◌, zero, suc, pred, take, drop, cond, refl, arith}
use Rattle.kn_tunnel.specs.Cuts.{IsPrefixOf}
use Rattle.kn_tunnel.specs.Kinds.{at_most_two, few, has, implies, is_empty, is_zero, none}
use Rattle.kn_tunnel.specs.Steps.{appended, one_more_close}
use Rattle.kn_tunnel.proofs.Counts.{few_within, next, next_if, previous}

pub has_append : (xs ys : List ℕ) → has (xs ++ ys) ≡ (has xs || has ys)
has_append [] ys = refl
has_append (x ∷ xs) ys = refl

pub has_appended : (b : Bool) (xs ys : List ℕ) → has (appended b xs ys) ≡ cond b (has xs || has ys) (has xs)
has_appended true xs ys = has_append xs ys
has_appended false xs ys = refl

pub empty_appended : (b g : Bool) (xs ys : List ℕ) → (g && not (has (appended b xs ys))) ≡ cond b ((g && not (has xs)) && not (has ys)) (g && not (has xs))
empty_appended false g xs ys = refl
empty_appended true false xs ys = refl
empty_appended true true [] ys = refl
empty_appended true true (x ∷ xs) ys = refl

pub drop_has : (n : ℕ) (xs : List ℕ) → implies (has (drop n xs)) (has xs) ≡ true
drop_has zero [] = refl
drop_has zero (x ∷ xs) = refl
drop_has (suc n) [] = refl
drop_has (suc n) (x ∷ xs) = here (has (drop n xs))
  where
    here : (b : Bool) → implies b true ≡ true
    here true = refl
    here false = refl

pub parts_have : (n : ℕ) (xs : List ℕ) → implies (has (take n xs) || has (drop n xs)) (has xs) ≡ true
parts_have zero [] = refl
parts_have zero (x ∷ xs) = refl
parts_have (suc n) [] = refl
parts_have (suc n) (x ∷ xs) = refl

pub few_next : (n : ℕ) → few (suc n) ≡ next (few n)
few_next zero = refl
few_next (suc zero) = refl
few_next (suc (suc zero)) = refl
few_next (suc (suc (suc n))) = refl

pub few_more : (b : Bool) (n : ℕ) → few (one_more_close b n) ≡ next_if b (few n)
few_more true n = few_next n
few_more false n = refl

pub fewer : (m n : ℕ) → m ≤ n → few_within (few m) (few n) ≡ true
fewer zero n le = refl
fewer (suc zero) zero le = absurd (omega arith)
fewer (suc zero) (suc zero) le = refl
fewer (suc zero) (suc (suc zero)) le = refl
fewer (suc zero) (suc (suc (suc n))) le = refl
fewer (suc (suc zero)) zero le = absurd (omega arith)
fewer (suc (suc zero)) (suc zero) le = absurd (omega arith)
fewer (suc (suc zero)) (suc (suc zero)) le = refl
fewer (suc (suc zero)) (suc (suc (suc n))) le = refl
fewer (suc (suc (suc m))) zero le = absurd (omega arith)
fewer (suc (suc (suc m))) (suc zero) le = absurd (omega arith)
fewer (suc (suc (suc m))) (suc (suc zero)) le = absurd (omega arith)
fewer (suc (suc (suc m))) (suc (suc (suc n))) le = refl

pub both : (a b : Bool) → a ≡ true → b ≡ true → (a && b) ≡ true
both true b e f = f
both false b e f = e

-- what is left of a prefix
pub prefix_has : (xs ys : List ℕ) → IsPrefixOf xs ys → implies (has xs) (has ys) ≡ true
prefix_has [] ys p = refl
prefix_has (x ∷ xs) [] p = absurd (cc p.1)
prefix_has (x ∷ xs) (y ∷ ys) p = refl

pub flag : (a b : Bool) → (a ≡ true → b ≡ true) → implies a b ≡ true
flag true b f = f refl
flag false b f = refl

-- what was got or is unwritten stays so when it is written
pub fresh_same : (n : ℕ) (got unwritten : List ℕ) → (is_empty (got ++ take n unwritten) && is_empty (drop n unwritten)) ≡ (is_empty got && is_empty unwritten)
fresh_same zero [] [] = refl
fresh_same zero [] (x ∷ xs) = refl
fresh_same (suc n) [] [] = refl
fresh_same (suc n) [] (x ∷ xs) = refl
fresh_same n (y ∷ ys) xs = refl

pub few_previous : (n : ℕ) → at_most_two (few n) ≡ true → few (pred n) ≡ previous (few n)
few_previous zero h = refl
few_previous (suc zero) h = refl
few_previous (suc (suc zero)) h = refl
few_previous (suc (suc (suc n))) h = absurd cc

pub none_few : (n : ℕ) → none (few n) ≡ is_zero n
none_few zero = refl
none_few (suc zero) = refl
none_few (suc (suc zero)) = refl
none_few (suc (suc (suc n))) = refl

pub one_less : (n : ℕ) → not (none (few n)) ≡ true → (few_within (few (pred n)) (few n) && few_within (few n) (next (few (pred n)))) ≡ true
one_less zero h = absurd cc
one_less (suc zero) h = refl
one_less (suc (suc zero)) h = refl
one_less (suc (suc (suc zero))) h = refl
one_less (suc (suc (suc (suc n)))) h = refl

pub or_left : (a b : Bool) → a ≡ true → (a || b) ≡ true
or_left true b e = refl
or_left false b e = absurd cc

pub or_right : (a b : Bool) → b ≡ true → (a || b) ≡ true
or_right true b e = refl
or_right false b e = e
