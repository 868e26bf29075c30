-- Inlets by the places of their streams.
use Rattle.std.proofs.Common.{◌≡◌, ℕ, zero, suc, ◌+◌, ◌-◌, ◌<◌, ◌≤◌, nat_lt, Bool, true, false, not, ◌&&◌, cond, eqb, List, [], ◌∷◌, ◌++◌, length, drop, get_or, refl, sym, ap, ◌∙◌, Option, Some, None, ◌⊎◌, inl, inr, arith}
use Rattle.std.specs.Prelude.{slice_get, slice_set}
use Rattle.std.specs.Bool.{◌==◌}
use Rattle.std.proofs.lemmas.Bool.{ltb-true, eq-eqb, ne_eqb, cases_lt}
use Rattle.std.proofs.lemmas.List.{drop_more, drop_all}
use Rattle.kn_rising.specs.Members.{place_in, AreAbove, AreRising}
use Rattle.kn_ends.specs.declared.inlet.Inlet.{Inlet}
use Rattle.kn_ends.specs.Numbers.{at, with, change, changed, without}
use Rattle.kn_ends.specs.Inlets.{numbers_of, put_back, change_place, ends_below, without_number, AreKept}

abbrev pub stream_of : Inlet → ℕ
stream_of i = i.stream

-- ---- one is found at the place of its stream

pub at_place : (xs : List Inlet) (n : ℕ) → slice_get xs (place_in (numbers_of xs) n) ≡ at stream_of xs n
unfolding place_in at
at_place [] n = refl
at_place (x ∷ xs) n = by_test (eqb x.stream n) (at_place xs n)
  where
    by_test : (b : Bool) → slice_get xs (place_in (numbers_of xs) n) ≡ at stream_of xs n → slice_get (x ∷ xs) (cond b 0 (suc (place_in (numbers_of xs) n))) ≡ cond b (Some x) (at stream_of xs n)
    by_test true rest = refl
    by_test false rest = rest

pub with_place : (xs : List Inlet) (n : ℕ) (w : Inlet) → slice_set xs (place_in (numbers_of xs) n) w ≡ with stream_of xs n w
unfolding place_in with
with_place [] n w = refl
with_place (x ∷ xs) n w = by_test (eqb x.stream n) (with_place xs n w)
  where
    by_test : (b : Bool) → slice_set xs (place_in (numbers_of xs) n) w ≡ with stream_of xs n w → slice_set (x ∷ xs) (cond b 0 (suc (place_in (numbers_of xs) n))) w ≡ cond b (w ∷ xs) (x ∷ with stream_of xs n w)
    by_test true rest = refl
    by_test false rest = ap (λ ys. x ∷ ys) rest

pub put_back_is : (xs : List Inlet) (n : ℕ) (f : Inlet → Inlet) (found : Option Inlet) → put_back xs (place_in (numbers_of xs) n) f found ≡ changed stream_of xs n f found
put_back_is xs n f None = refl
put_back_is xs n f (Some x) = with_place xs n (f x)

pub changes : (xs : List Inlet) (n : ℕ) (f : Inlet → Inlet) → change_place xs (place_in (numbers_of xs) n) f ≡ change stream_of xs n f
changes xs n f = put_back_is xs n f (slice_get xs (place_in (numbers_of xs) n)) ∙ ap (changed stream_of xs n f) (at_place xs n)

-- ---- the streams beside them

pub numbers_set : (xs : List Inlet) (p : ℕ) (x w : Inlet) → slice_get xs p ≡ Some x → w.stream ≡ x.stream → numbers_of (slice_set xs p w) ≡ numbers_of xs
numbers_set [] p x w found same = refl
numbers_set (y ∷ xs) zero x w found same = let is : y ≡ x = cc in rw (same, ← is) refl
numbers_set (y ∷ xs) (suc p) x w found same = ap (λ ns. y.stream ∷ ns) (numbers_set xs p x w found same)

pub numbers_push : (xs : List Inlet) (x : Inlet) → numbers_of (xs ++ x ∷ []) ≡ numbers_of xs ++ x.stream ∷ []
numbers_push [] x = refl
numbers_push (y ∷ xs) x = ap (λ ns. y.stream ∷ ns) (numbers_push xs x)

pub numbers_without : (xs : List Inlet) (n : ℕ) → numbers_of (without stream_of xs n) ≡ without_number (numbers_of xs) n
numbers_without [] n = refl
numbers_without (x ∷ xs) n = by_test (not (eqb x.stream n)) (numbers_without xs n)
  where
    by_test : (b : Bool) → numbers_of (without stream_of xs n) ≡ without_number (numbers_of xs) n
        → numbers_of (cond b (x ∷ without stream_of xs n) (without stream_of xs n)) ≡ cond b (x.stream ∷ without_number (numbers_of xs) n) (without_number (numbers_of xs) n)
    by_test true rest = ap (λ ns. x.stream ∷ ns) rest
    by_test false rest = rest

-- ---- they rise

pub first_below : (x : ℕ) (xs : List ℕ) (n : ℕ) → AreRising (x ∷ xs) → ends_below n (x ∷ xs) ≡ true → x < n
unfolding ends_below
first_below x [] n r e = ltb-true x n e
first_below x (y ∷ xs) n r e = let next = first_below y xs n r.1 e in let above = r.0.0 in omega arith

pub above_push : (x : ℕ) (xs : List ℕ) (n : ℕ) → AreAbove x xs → x < n → AreAbove x (xs ++ n ∷ [])
above_push x [] n a l = (l, tt)
above_push x (y ∷ xs) n a l = (a.0, above_push x xs n a.1 l)

pub rest_below : (x : ℕ) (xs : List ℕ) (n : ℕ) → ends_below n (x ∷ xs) ≡ true → ends_below n xs ≡ true
unfolding ends_below
rest_below x [] n e = refl
rest_below x (y ∷ xs) n e = e

pub rising_push : (xs : List ℕ) (n : ℕ) → AreRising xs → ends_below n xs ≡ true → AreRising (xs ++ n ∷ [])
rising_push [] n r e = (tt, tt)
rising_push (x ∷ xs) n r e = (above_push x xs n r.0 (first_below x xs n r e), rising_push xs n r.1 (rest_below x xs n e))

pub above_without : (x : ℕ) (xs : List ℕ) (n : ℕ) → AreAbove x xs → AreAbove x (without_number xs n)
above_without x [] n a = tt
above_without x (y ∷ xs) n a = by_test (not (eqb y n)) (above_without x xs n a.1)
  where
    by_test : (b : Bool) → AreAbove x (without_number xs n) → AreAbove x (cond b (y ∷ without_number xs n) (without_number xs n))
    by_test true rest = (a.0, rest)
    by_test false rest = rest

pub rising_without : (xs : List ℕ) (n : ℕ) → AreRising xs → AreRising (without_number xs n)
rising_without [] n r = tt
rising_without (x ∷ xs) n r = by_test (not (eqb x n)) (rising_without xs n r.1)
  where
    by_test : (b : Bool) → AreRising (without_number xs n) → AreRising (cond b (x ∷ without_number xs n) (without_number xs n))
    by_test true rest = (above_without x xs n r.0, rest)
    by_test false rest = rest

-- ---- what is kept beside them stays

pub kept_same : (streams : List ℕ) (old new : List Inlet) (rising : Bool) → AreKept streams old rising → numbers_of new ≡ numbers_of old → AreKept streams new rising
kept_same streams old new rising kept same = record { beside = kept.beside ∙ sym same; risen = kept.risen }

pub kept_push : (streams : List ℕ) (is : List Inlet) (rising above : Bool) (x : Inlet) → AreKept streams is rising → above ≡ ends_below x.stream streams → AreKept (streams ++ x.stream ∷ []) (is ++ x ∷ []) (rising && above)
kept_push streams is rising above x kept e = record { beside = rw (numbers_push is x, kept.beside) refl; risen = risen rising above kept.risen e }
  where
    risen : (r a : Bool) → (r ≡ true → AreRising streams) → a ≡ ends_below x.stream streams → (r && a) ≡ true → AreRising (streams ++ x.stream ∷ [])
    risen true true rises e t = rising_push streams x.stream (rises refl) (sym e)
    risen true false rises e t = absurd cc
    risen false a rises e t = absurd cc

pub kept_without : (streams : List ℕ) (is : List Inlet) (rising : Bool) (n : ℕ) → AreKept streams is rising → AreKept (without_number streams n) (without stream_of is n) rising
kept_without streams is rising n kept = record { beside = rw kept.beside (sym (numbers_without is n)); risen = λ t. rising_without streams n (kept.risen t) }

pub kept_pushed : (ss ds rs ns : List ℕ) (xs ys : List Inlet) (rising above now : Bool) (number : ℕ) (x : Inlet) → AreKept ss xs rising → ds ≡ ss → number ≡ x.stream → above ≡ ends_below number ds
    → rs ≡ ss → ns ≡ rs ++ number ∷ [] → ys ≡ xs ++ x ∷ [] → now ≡ (rising && above) → AreKept ns ys now
kept_pushed ss ds rs ns xs ys rising above now number x kept dis num above_is ris nis yis is =
    let known : above ≡ ends_below x.stream ss = rw (← num, ← dis) above_is in
    rw (nis, yis, is, ris, num) (kept_push ss xs rising above x kept known)

pub kept_removed : (ss ns : List ℕ) (xs ys : List Inlet) (rising : Bool) (number n : ℕ) → AreKept ss xs rising → number ≡ n → ys ≡ without stream_of xs n → ns ≡ without_number ss number → AreKept ns ys rising
kept_removed ss ns xs ys rising number n kept num yis nis = rw (nis, yis, num) (kept_without ss xs rising n kept)

pub found_at : (ss ds : List ℕ) (xs es self : List Inlet) (rising : Bool) (place n : ℕ) → AreKept ss xs rising → ds ≡ ss → es ≡ xs → xs ≡ self → place ≡ place_in ds n → slice_get es place ≡ at stream_of self n
found_at ss ds xs es self rising place n kept dis eis is pis =
    let there : ds ≡ numbers_of xs = dis ∙ kept.beside in
    rw (← is, eis, pis, there) (at_place xs n)

-- ---- the last number

abbrev pub last_below : ℕ → Option ℕ → Bool
last_below n None = true
last_below n (Some x) = nat_lt x n

pub ends_below_last : (xs : List ℕ) (n : ℕ) → ends_below n xs ≡ last_below n (slice_get xs (length xs - 1))
unfolding ends_below
ends_below_last [] n = refl
ends_below_last (x ∷ []) n = refl
ends_below_last (x ∷ y ∷ xs) n =
    let at_end : length (x ∷ y ∷ xs) - 1 ≡ suc (length (y ∷ xs) - 1) = omega arith in
    rw at_end (ends_below_last (y ∷ xs) n)

-- ---- a search over all

pub place-here : (x : ℕ) (xs : List ℕ) (n : ℕ) → (x == n) ≡ true → place_in (x ∷ xs) n ≡ 0
unfolding place_in
place-here x xs n e = rw e refl

pub place-skip : (x : ℕ) (xs : List ℕ) (n : ℕ) → (x == n) ≡ false → place_in (x ∷ xs) n ≡ suc (place_in xs n)
unfolding place_in
place-skip x xs n e = rw e refl

pub place-none : (n : ℕ) → place_in [] n ≡ 0
unfolding place_in
place-none n = refl

pub record Searched (xs : List ℕ) (n place : ℕ) : Type 0 where
  pub within : place ≤ length xs
  pub found : place + place_in (drop place xs) n ≡ place_in xs n

pub searched_start : (xs : List ℕ) (n : ℕ) → Searched xs n 0
searched_start xs n = record { within = omega arith; found = omega arith }

pub searched_more : (xs : List ℕ) (n place d : ℕ) → Searched xs n place → place < length xs → (get_or xs place d ≡ n → ⊥) → Searched xs n (place + 1)
searched_more xs n place d s l h =
    let other : (get_or xs place d == n) ≡ false = ne_eqb (get_or xs place d) n h in
    let cut : drop place xs ≡ get_or xs place d ∷ drop (place + 1) xs = drop_more xs place d l in
    let next : place_in (drop place xs) n ≡ suc (place_in (drop (place + 1) xs) n) = rw cut (place-skip (get_or xs place d) (drop (place + 1) xs) n other) in
    let found = s.found in
    record { within = omega arith; found = omega arith }

pub searched_found : (xs : List ℕ) (n place d : ℕ) → Searched xs n place → place < length xs → get_or xs place d ≡ n → place ≡ place_in xs n
searched_found xs n place d s l h =
    let same : (get_or xs place d == n) ≡ true = eq-eqb (get_or xs place d) n h in
    let cut : drop place xs ≡ get_or xs place d ∷ drop (place + 1) xs = drop_more xs place d l in
    let here : place_in (drop place xs) n ≡ 0 = rw cut (place-here (get_or xs place d) (drop (place + 1) xs) n same) in
    let found = s.found in
    omega arith

pub searched_none : (xs : List ℕ) (n place : ℕ) → Searched xs n place → length xs ≤ place → place ≡ place_in xs n
searched_none xs n place s l =
    let none : place_in (drop place xs) n ≡ 0 = rw (drop_all place xs l) (place-none n) in
    let found = s.found in
    omega arith

pub is_past : (p n : ℕ) → (p < n → false ≡ true) → n ≤ p
is_past p n none = by_order (cases_lt p n)
  where
    impossible : false ≡ true → n ≤ p
    impossible e = absurd cc

    by_order : (p < n) ⊎ (n ≤ p) → n ≤ p
    by_order (inl l) = impossible (none l)
    by_order (inr l) = l
