-- Bytes that pass.
use Rattle.std.proofs.Common.{◌≡◌, ℕ, zero, suc, ◌+◌, ◌-◌, ◌≤◌, min, List, [], ◌∷◌, ◌++◌, length, take, drop, refl, ap, arith}

pub take_min : (n : ℕ) (xs : List ℕ) → take (min n (length xs)) xs ≡ take n xs
take_min zero xs = let e : min zero (length xs) ≡ zero = omega arith in rw e refl
take_min (suc n) [] = let e : min (suc n) zero ≡ zero = omega arith in rw e refl
take_min (suc n) (x ∷ xs) = let e : min (suc n) (suc (length xs)) ≡ suc (min n (length xs)) = omega arith in rw e (ap (λ (ys : List ℕ). x ∷ ys) (take_min n xs))

pub drop_min : (n : ℕ) (xs : List ℕ) → drop (min n (length xs)) xs ≡ drop n xs
drop_min zero xs = let e : min zero (length xs) ≡ zero = omega arith in rw e refl
drop_min (suc n) [] = let e : min (suc n) zero ≡ zero = omega arith in rw e refl
drop_min (suc n) (x ∷ xs) = let e : min (suc n) (suc (length xs)) ≡ suc (min n (length xs)) = omega arith in rw e (drop_min n xs)

pub take_further : (place : ℕ) (bytes : List ℕ) (count : ℕ) → place ≤ length bytes → take (place + min count (length bytes - place)) bytes ≡ take place bytes ++ take count (drop place bytes)
take_further zero bytes count within = let e : zero + min count (length bytes - zero) ≡ min count (length bytes) = omega arith in rw e (take_min count bytes)
take_further (suc p) [] count within = absurd (omega arith)
take_further (suc p) (x ∷ xs) count within =
    let e : suc p + min count (suc (length xs) - suc p) ≡ suc (p + min count (length xs - p)) = omega arith in
    rw e (ap (λ (ys : List ℕ). x ∷ ys) (take_further p xs count (omega arith)))

pub drop_further : (place : ℕ) (bytes : List ℕ) (count : ℕ) → place ≤ length bytes → drop (place + min count (length bytes - place)) bytes ≡ drop count (drop place bytes)
drop_further zero bytes count within = let e : zero + min count (length bytes - zero) ≡ min count (length bytes) = omega arith in rw e (drop_min count bytes)
drop_further (suc p) [] count within = absurd (omega arith)
drop_further (suc p) (x ∷ xs) count within =
    let e : suc p + min count (suc (length xs) - suc p) ≡ suc (p + min count (length xs - p)) = omega arith in
    rw e (drop_further p xs count (omega arith))
