-- What soundness says of a state.
use Rattle.std.specs.Prelude.{◌==◌}
use Rattle.std.proofs.Common.{◌≡◌, ◌≢◌, ℕ, ◌+◌, ◌-◌, ◌<◌, ◌≤◌, true, false, List, [], ◌∷◌, ◌++◌, length, min, arith, sym, ap, ◌∙◌, length-append, None}
use Rattle.std.proofs.lemmas.List.{nil_from_length}
use Rattle.std.proofs.lemmas.Bool.{ne_eqb}
use Rattle.std.proofs.lemmas.Bool.Decides.{nat_tests}
use Rattle.kn_grpc.specs.Messages.{length_of}
use Rattle.kn_grpc.specs.Readers.{reason_in, taken}
use Rattle.kn_grpc.specs.Stored.{is_sound_at}
use Rattle.kn_grpc.proofs.Firsts.{IsWell, none_well, length_of-append, flag-append}
use Rattle.kn_grpc.proofs.Taking.{taken_body}

-- the bytes behind a whole head
pub body_within : (head body : List ℕ) → is_sound_at head body ≡ true → length body ≤ length_of head
body_within head [] h = omega arith
body_within head (x ∷ body) h = grind (arith, nat_tests)

-- less than a head has nothing behind it
pub no_body : (head body : List ℕ) → is_sound_at head body ≡ true → length head < 5 → body ≡ []
no_body head body h l = nil_from_length body (grind (arith, nat_tests))

-- a whole head without a fault, and bytes behind it
pub record IsAtBody (head body : List ℕ) : Type 0 where
  pub well : IsWell (head ++ body)
  pub says : length_of (head ++ body) ≡ length_of head
  pub len : length (head ++ body) ≡ 5 + length body
  pub within : length body ≤ length_of head

pub at_body : (head body : List ℕ) → is_sound_at head body ≡ true → length head ≡ 5 → reason_in head ≡ None → IsAtBody head body
at_body head body h l e =
    let w = none_well head e in
    let n = length_of-append head body (omega arith) in
    let f = flag-append head body (omega arith) in
    let k = length-append head body in
    record { well = record { flag = f ∙ w.flag; small = omega (arith, n, w.small) }; says = n; len = omega (arith, k, l); within = body_within head body h }

pub count_of_body : (head body piece : List ℕ) → is_sound_at head body ≡ true → length head ≡ 5 → reason_in head ≡ None →
    taken (head ++ body) piece ≡ min (length_of head - length body) (length piece)
count_of_body head body piece h l e =
    let a = at_body head body h l e in
    let t = taken_body (head ++ body) piece a.well (omega (arith, a.len)) (omega (arith, a.len, a.says, a.within)) in
    omega (arith, t, a.len, a.says)

-- where the first of two lists is empty the join is empty exactly where the second is
pub first_is_none : (xs ys : List ℕ) → length xs ≡ 0 → (length ys == 0) ≡ (length (xs ++ ys) == 0)
first_is_none xs ys e = ap (λ (n : ℕ). n == 0) (omega (arith, length-append xs ys, e))

pub first_is_some : (xs ys : List ℕ) → length xs ≢ 0 → false ≡ (length (xs ++ ys) == 0)
first_is_some xs ys n = sym (ne_eqb (length (xs ++ ys)) 0 (λ z. n (omega (arith, length-append xs ys, z))))
