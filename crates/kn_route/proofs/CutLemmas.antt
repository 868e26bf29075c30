-- Texts in parts.
use Rattle.std.proofs.Common.{◌≡◌, ◌≢◌, ℕ, ◌+◌, ◌-◌, ◌<◌, ◌==◌, List, [], ◌∷◌, length, take, drop, Option, Some, None, Bool, sym, ap, ◌∙◌, arith, ne_eqb, cond, inl, inr, ltb-true, lt-ltb, ◌≤◌}
use Rattle.std.proofs.lemmas.List.{take_rest}
use Rattle.std.proofs.lemmas.List.Splits.{slice_split_first, slice_split_none}
use Rattle.std.proofs.lemmas.List.Sums.{fails_before_first}
use Rattle.std.proofs.lemmas.Bool.{cases_lt}
use Rattle.std.proofs.lemmas.Option.{cond_some, none-some}
use Rattle.std.specs.Prelude.{MatchOption, position}
use Rattle.std.specs.Borrow.{Bor}
use Rattle.std.specs.List.{position_or_len}
use Rattle.kn_route.specs.Cuts.{IsStripped, parts_of}

-- what a `strip_prefix` gives, at a byte that is not 0
pub strips : (first : ℕ) (text : List ℕ) (r : Option (Bor (List ℕ))) → 0 < first → MatchOption r ((rest : List ℕ) → text ≢ first ∷ rest) (λ x. text ≡ first ∷ x.now) → IsStripped first text r
strips first text (Some x) some h = h
strips first [] None some h = ne_eqb 0 first (λ e. absurd (omega arith))
strips first (c ∷ cs) None some h = ne_eqb c first (λ e. h cs (ap (λ v. v ∷ cs) e))

position-some : (p : ℕ → Bool) (xs : List ℕ) (i : ℕ) → Some i ≡ position p xs → (i ≡ position_or_len p xs) × (i < length xs)
position-some p xs i h =
    let (test, same) = cond_some _ _ _ (sym h) in
    let within = ltb-true _ _ test in
    (sym same, omega (arith, same, within))

position-none : (p : ℕ → Bool) (xs : List ℕ) → None ≡ position p xs → length xs ≤ position_or_len p xs
position-none p xs h = elim (cases_lt (position_or_len p xs) (length xs)) [
  | inl within ↦ absurd (none-some _ (h ∙ ap (λ b. cond b (Some (position_or_len p xs)) None) (lt-ltb _ _ within)))
  | inr past ↦ past
]

pub parts_at : (at : ℕ) (bytes : List ℕ) (place : ℕ) → Some place ≡ position (λ b. b == at) bytes → parts_of at bytes ≡ take place bytes ∷ parts_of at (take (length bytes - (place + 1)) (drop (place + 1) bytes))
parts_at at bytes place h =
    let p : ℕ → Bool = λ b. b == at in
    let (same, within) = position-some p bytes place h in
    let cut = slice_split_first p bytes 0 (omega arith) in
    rw (take_rest bytes (place + 1), same) cut

pub one_part : (at : ℕ) (bytes : List ℕ) → None ≡ position (λ b. b == at) bytes → parts_of at bytes ≡ bytes ∷ []
one_part at bytes h =
    let p : ℕ → Bool = λ b. b == at in
    let past = position-none p bytes h in
    slice_split_none p bytes λ k d inside. fails_before_first p bytes k d (omega arith)
