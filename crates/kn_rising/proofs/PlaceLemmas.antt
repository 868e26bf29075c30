-- The place of a number among numbers that rise.
use Rattle.std.proofs.Common.{◌≡◌, ℕ, zero, suc, ◌+◌, ◌<◌, ◌≤◌, Bool, true, false, cond, List, [], ◌∷◌, None, length, get_or, refl, sym, ap, ◌∙◌, ◌⊎◌, inl, inr, arith}
use Rattle.std.specs.Prelude.{MatchResult, Result, Ok, Err, eqb}
use Rattle.std.specs.Prelude.{nat_eq}
use Rattle.std.specs.List.{list_any, insert, remove}
use Rattle.std.proofs.lemmas.Option.{slice_get_past}
use Rattle.std.proofs.lemmas.Bool.{or_parts, eqb-false, eq-eqb, ne_eqb, lt-ltb, le-ltb, cases_lt}
use Rattle.std.proofs.lemmas.List.Edits.{length-insert, length-remove}
use Rattle.std.proofs.lemmas.List.{take_all, drop_all, append-nil}
use Rattle.kn_rising.specs.Members.{Members, AreMembers, at, place_in, rank_in, without, AreAbove, AreRising}

pub place-here : (x : ℕ) (xs : List ℕ) (n : ℕ) → x ≡ n → place_in (x ∷ xs) n ≡ 0
unfolding place_in
place-here x xs n e = rw (eq-eqb x n e) refl

pub place-skip : (x : ℕ) (xs : List ℕ) (n : ℕ) → (x ≡ n → ⊥) → place_in (x ∷ xs) n ≡ suc (place_in xs n)
unfolding place_in
place-skip x xs n e = rw (ne_eqb x n e) refl

pub place-none : (n : ℕ) → place_in [] n ≡ 0
unfolding place_in
place-none n = refl

pub above_at : (n : ℕ) (xs : List ℕ) (i : ℕ) → AreAbove n xs → i < length xs → n < get_or xs i 0
above_at n [] i a l = absurd (omega arith)
above_at n (x ∷ xs) zero a l = a.0
above_at n (x ∷ xs) (suc i) a l = above_at n xs i a.1 (omega arith)

pub rising_at : (xs : List ℕ) (i j : ℕ) → AreRising xs → i ≤ j → j < length xs → get_or xs i 0 ≤ get_or xs j 0
rising_at [] i j r e l = absurd (omega arith)
rising_at (x ∷ xs) zero zero r e l = omega arith
rising_at (x ∷ xs) zero (suc j) r e l = let above = above_at x xs j r.0 (omega arith) in omega arith
rising_at (x ∷ xs) (suc i) zero r e l = absurd (omega arith)
rising_at (x ∷ xs) (suc i) (suc j) r e l = rising_at xs i j r.1 (omega arith) (omega arith)

pub place_found : (xs : List ℕ) (n i : ℕ) → AreRising xs → i < length xs → get_or xs i 0 ≡ n → place_in xs n ≡ i
place_found [] n i r l e = absurd (omega arith)
place_found (x ∷ xs) n zero r l e = place-here x xs n e
place_found (x ∷ xs) n (suc i) r l e =
    let above = above_at x xs i r.0 (omega arith) in
    place-skip x xs n (λ same. omega (arith, same, above, e)) ∙ (rw (place_found xs n i r.1 (omega arith) e) refl)

pub rank-none : (n : ℕ) → rank_in [] n ≡ 0
unfolding rank_in
rank-none n = refl

pub rank-above : (x : ℕ) (xs : List ℕ) (n : ℕ) → n ≤ x → rank_in (x ∷ xs) n ≡ rank_in xs n
unfolding rank_in
rank-above x xs n l = rw (le-ltb x n l) refl

pub rank-below : (x : ℕ) (xs : List ℕ) (n : ℕ) → x < n → rank_in (x ∷ xs) n ≡ suc (rank_in xs n)
unfolding rank_in
rank-below x xs n l = rw (lt-ltb x n l) refl

pub place_absent : (xs : List ℕ) (n i : ℕ) → i ≤ length xs → ((k : ℕ) → k < i → get_or xs k 0 < n) → ((k : ℕ) → i ≤ k → k < length xs → n < get_or xs k 0) → (place_in xs n ≡ length xs) × (rank_in xs n ≡ i) × (i ≤ length xs)
place_absent [] n i l below above = (place-none n, rank-none n ∙ omega arith, l)
place_absent (x ∷ xs) n zero l below above =
    let first : n < x = above 0 (omega arith) (omega arith) in
    let rest = place_absent xs n zero (omega arith) (λ k m. absurd (omega arith)) (λ k m b. above (suc k) (omega arith) (omega arith)) in
    (place-skip x xs n (λ e. omega (arith, e, first)) ∙ (rw rest.0 refl), rank-above x xs n (omega arith) ∙ rest.1, l)
place_absent (x ∷ xs) n (suc i) l below above =
    let first : x < n = below 0 (omega arith) in
    let rest = place_absent xs n i (omega arith) (λ k m. below (suc k) (omega arith)) (λ k m b. above (suc k) (omega arith) (omega arith)) in
    (place-skip x xs n (λ e. omega (arith, e, first)) ∙ (rw rest.0 refl), rank-below x xs n first ∙ (rw rest.1 refl), l)

abbrev pub IsPlace : List ℕ → ℕ → Result ℕ ℕ → Type 0
IsPlace xs n r = MatchResult r (λ i. (place_in xs n ≡ i) × (i < length xs)) (λ i. (place_in xs n ≡ length xs) × (rank_in xs n ≡ i) × (i ≤ length xs))

pub place_by : (xs : List ℕ) (n : ℕ) (r : Result ℕ ℕ) → AreRising xs → MatchResult r (λ i. (i < length xs) × (get_or xs i 0 ≡ n)) (λ i. (i ≤ length xs) × ((k : ℕ) → k < i → get_or xs k 0 < n) × ((k : ℕ) → i ≤ k → k < length xs → n < get_or xs k 0)) → IsPlace xs n r
place_by xs n (Ok i) s p = (place_found xs n i s p.0 p.1, p.0)
place_by xs n (Err i) s p = place_absent xs n i p.0 p.1 p.2

-- a number that is not among them has no place
pub place_nowhere : (xs : List ℕ) (n : ℕ) → list_any (nat_eq n) xs ≡ false → place_in xs n ≡ length xs
place_nowhere [] n e = place-none n
place_nowhere (x ∷ xs) n e =
    let parts = or_parts (nat_eq n x) (list_any (nat_eq n) xs) e in
    let other : x ≡ n → ⊥ = λ same. eqb-false n x parts.0 (sym same) in
    place-skip x xs n other ∙ (rw (place_nowhere xs n parts.1) refl)

pub nothing_there : {T : Type 0} (m : Members T) → AreMembers m → (n : ℕ) → list_any (nat_eq n) m.numbers ≡ false → at m n ≡ None
nothing_there m kept n e =
    let long = kept.same in
    let place = place_nowhere m.numbers n e in
    slice_get_past m.items (place_in m.numbers n) (omega arith)

-- ---- the numbers still rise

pub above_less : (n m : ℕ) (xs : List ℕ) → n < m → AreAbove m xs → AreAbove n xs
above_less n m [] l a = tt
above_less n m (x ∷ xs) l a = (let first = a.0 in omega arith, above_less n m xs l a.1)

pub rank_zero : (n x : ℕ) (xs : List ℕ) → n < x → AreAbove x xs → rank_in xs n ≡ 0
rank_zero n x [] l a = rank-none n
rank_zero n x (y ∷ xs) l a = let first = a.0 in rank-above y xs n (omega arith) ∙ rank_zero n x xs l a.1

pub above_insert : (x n : ℕ) (xs : List ℕ) (i : ℕ) → x < n → AreAbove x xs → AreAbove x (insert xs i n)
above_insert x n xs zero l a = (l, a)
above_insert x n [] (suc i) l a = (l, tt)
above_insert x n (y ∷ xs) (suc i) l a = (a.0, above_insert x n xs i l a.1)

pub insert_rises : (xs : List ℕ) (n : ℕ) → AreRising xs → place_in xs n ≡ length xs → AreRising (insert xs (rank_in xs n) n)
insert_rises [] n r e = rw (rank-none n) (tt, tt)
insert_rises (x ∷ xs) n r e = by_order (cases_lt x n) (λ rest. insert_rises xs n r.1 rest)
  where
    other : x ≡ n → ⊥
    other same = let here = place-here x xs n same in omega arith

    by_which : (n < x) ⊎ (x ≤ n) → n ≤ x → n < x
    by_which (inl b) l = b
    by_which (inr b) l = absurd (other (omega arith))

    by_order : (x < n) ⊎ (n ≤ x) → (place_in xs n ≡ length xs → AreRising (insert xs (rank_in xs n) n)) → AreRising (insert (x ∷ xs) (rank_in (x ∷ xs) n) n)
    by_order (inl l) rises =
        let skipped : suc (place_in xs n) ≡ suc (length xs) = sym (place-skip x xs n other) ∙ e in
        rw (rank-below x xs n l) (above_insert x n xs (rank_in xs n) l r.0, rises (omega arith))
    by_order (inr l) rises =
        let below : n < x = by_which (cases_lt n x) l in
        rw (rank-above x xs n l, rank_zero n x xs below r.0) ((below, above_less n x xs below r.0), r)

pub above_remove : (x : ℕ) (xs : List ℕ) (i : ℕ) → AreAbove x xs → AreAbove x (remove xs i)
above_remove x [] i a = nothing i
  where
    nothing : (i : ℕ) → AreAbove x (remove [] i)
    nothing zero = tt
    nothing (suc i) = tt
above_remove x (y ∷ xs) zero a = a.1
above_remove x (y ∷ xs) (suc i) a = (a.0, above_remove x xs i a.1)

pub remove_rises : (xs : List ℕ) (i : ℕ) → AreRising xs → AreRising (remove xs i)
remove_rises [] zero r = tt
remove_rises [] (suc i) r = tt
remove_rises (x ∷ xs) zero r = r.1
remove_rises (x ∷ xs) (suc i) r = (above_remove x xs i r.0, remove_rises xs i r.1)

pub place_within : (xs : List ℕ) (n : ℕ) → place_in xs n ≤ length xs
unfolding place_in
place_within [] n = omega arith
place_within (x ∷ xs) n = by_test (eqb x n) (place_within xs n)
  where
    by_test : (b : Bool) → place_in xs n ≤ length xs → cond b 0 (suc (place_in xs n)) ≤ suc (length xs)
    by_test true l = omega arith
    by_test false l = omega arith

-- where it is past the end nothing is taken out
pub remove_past : {T : Type 0} (xs : List T) (i : ℕ) → length xs ≤ i → remove xs i ≡ xs
remove_past xs i l = rw (take_all i xs l, drop_all (suc i) xs (omega arith)) (append-nil xs)

-- ---- members

pub inserted_members : {T : Type 0} (ds ns : List ℕ) (is : List T) (n p : ℕ) (x : T) → ds ≡ ns → AreMembers (record { numbers = ns; items = is }) → place_in ds n ≡ length ds → rank_in ds n ≡ p → p ≤ length ds → AreMembers (record { numbers = insert ns p n; items = insert is p x })
inserted_members ds ns is n p x same m absent rank within =
    let absent' : place_in ns n ≡ length ns = rw (← same) absent in
    let rank' : rank_in ns n ≡ p = rw (← same) rank in
    let within' : p ≤ length ns = rw (← same) within in
    let long = m.same in
    let rises : AreRising (insert ns p n) = rw (← rank') (insert_rises ns n m.rising absent') in
    let left : length (insert ns p n) ≡ length ns + 1 = length-insert ns p n within' in
    let right : length (insert is p x) ≡ length is + 1 = length-insert is p x (omega arith) in
    record { rising = rises; same = omega arith }

pub removed_members : {T : Type 0} (ns : List ℕ) (is : List T) (p : ℕ) → AreMembers (record { numbers = ns; items = is }) → p < length ns → AreMembers (record { numbers = remove ns p; items = remove is p })
removed_members ns is p m within =
    let long = m.same in
    let left : length (remove ns p) + 1 ≡ length ns = length-remove ns p within in
    let right : length (remove is p) + 1 ≡ length is = length-remove is p (omega arith) in
    record { rising = remove_rises ns p m.rising; same = omega arith }

pub removed_none : {T : Type 0} (ds ns : List ℕ) (is : List T) (n : ℕ) → ds ≡ ns → AreMembers (record { numbers = ns; items = is }) → length ns ≤ place_in ds n → record { numbers = ns; items = is } ≡ without (record { numbers = ns; items = is }) n
removed_none ds ns is n same m past =
    let moved : place_in ds n ≡ place_in ns n = ap (λ d. place_in d n) same in
    let past' : length ns ≤ place_in ns n = omega arith in
    let long = m.same in
    rw (remove_past ns (place_in ns n) past', remove_past is (place_in ns n) (omega arith)) refl
