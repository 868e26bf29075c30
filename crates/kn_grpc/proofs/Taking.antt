-- How many bytes are taken.
use Rattle.std.proofs.Common.{◌≡◌, ℕ, suc, ◌+◌, ◌-◌, ◌≤◌, false, List, [], ◌∷◌, ◌++◌, length, get_or, min, cond, arith, refl, ap, ◌∙◌, length-append, inl, inr}
use Rattle.std.proofs.lemmas.Bool.{cases_lt}
use Rattle.kn_grpc.specs.Messages.{length_of}
use Rattle.kn_grpc.specs.Readers.{Less, first_message, is_less, taken}
use Rattle.kn_grpc.proofs.Firsts.{IsWell, length_of-append, flag-append, first_short, first_long, seen_of, short, long, bad}

-- one more byte
pub taken_more : (kept : List ℕ) (x : ℕ) (xs : List ℕ) → first_message kept ≡ Less → taken kept (x ∷ xs) ≡ suc (taken (kept ++ x ∷ []) xs)
taken_more kept x xs e = ap (λ f. cond (is_less f) (suc (taken (kept ++ x ∷ []) xs)) 0) e

-- no more
pub taken_none : (kept xs : List ℕ) → is_less (first_message kept) ≡ false → taken kept xs ≡ 0
taken_none kept [] e = refl
taken_none kept (x ∷ xs) e = ap (λ b. cond b (suc (taken (kept ++ x ∷ []) xs)) 0) e

-- behind a whole head as many bytes as it says
pub taken_body : (kept xs : List ℕ) → IsWell kept → 5 ≤ length kept → length kept ≤ 5 + length_of kept → taken kept xs ≡ min (5 + length_of kept - length kept) (length xs)
taken_body kept [] w h l = omega arith
taken_body kept (x ∷ xs) w h l = elim (cases_lt (length kept) (5 + length_of kept)) [
  | inl s ↦
      let t = kept ++ x ∷ [] in
      let n : length_of t ≡ length_of kept = length_of-append kept (x ∷ []) h in
      let k : length t ≡ length kept + 1 = length-append kept (x ∷ []) in
      let f : get_or t 0 0 ≡ get_or kept 0 0 = flag-append kept (x ∷ []) (omega arith) in
      let w' : IsWell t = record { flag = f ∙ w.flag; small = omega (arith, n, w.small) } in
      let more = taken_more kept x xs (first_short kept (record { well = w; short = s })) in
      let on = taken_body t xs w' (omega arith) (omega (arith, n, k)) in
      omega (arith, more, on, n, k)
  | inr s ↦
      let none = taken_none kept (x ∷ xs) (ap is_less (first_long kept (record { well = w; long = s }))) in
      omega (arith, none)
]

-- no more than there is
pub taken_within : (kept xs : List ℕ) → taken kept xs ≤ length xs
taken_within kept [] = omega arith
taken_within kept (x ∷ xs) = elim (seen_of kept) [
  | short s f ↦ let more = taken_more kept x xs f in omega (arith, more, taken_within (kept ++ x ∷ []) xs)
  | long s f ↦ let none = taken_none kept (x ∷ xs) (ap is_less f) in omega (arith, none)
  | bad r s f ↦ let none = taken_none kept (x ∷ xs) (ap is_less f) in omega (arith, none)
]
