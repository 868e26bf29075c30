-- Marks of the connections at hand, and the journal that gives connections and gives them up.
use Rattle.std.proofs.Common.{◌≡◌, ℕ, zero, suc, ◌+◌, ◌==◌, Bool, true, false, List, [], ◌∷◌, ◌++◌, length, Option, Some, None, refl, ap, if◌then◌else◌, slice_get, slice_set, arith}
use Rattle.std.proofs.Math.Dec.{eqb-suc-zero, eqb-zero-suc, eqb-suc-suc}
use Rattle.std.proofs.lemmas.Bool.{eqb-true}
use Rattle.std.proofs.lemmas.Option.{none-some}
use Rattle.std.proofs.lemmas.List.{length-set}
use Rattle.kn_port.specs.declared.entry.Entry.TheVariants as entry
use Rattle.kn_port.specs.declared.entry.Entry.{Entry}
use Rattle.kn_port.specs.Journal.{open_after, open_from, is_open}
use Rattle.kn_port.specs.Keeping.{open_count, is_marked, unmarked, IsPlain, Opens}
use Rattle.kn_port.specs.Numbers.{nth, changed}

-- one more entry behind the others
pub open_behind : (es : List Entry) (e : Entry) (c : ℕ) (b : Bool) → open_from (es ++ e ∷ []) c b ≡ open_after e c (open_from es c b)
open_behind [] e c b = refl
open_behind (x ∷ xs) e c b = open_behind xs e c (open_after x c b)

pub plain_keeps : (ms : List Bool) (es : List Entry) (e : Entry) → IsPlain e → ((c : ℕ) → is_marked (nth c ms) ≡ is_open es c) → (c : ℕ) → is_marked (nth c ms) ≡ is_open (es ++ e ∷ []) c
plain_keeps ms es e plain marked c = rw (open_behind es e c false) (rw (plain c (is_open es c)) (marked c))

if_none : (b : Bool) → (if b then false else false) ≡ false
if_none true = refl
if_none false = refl

last_mark : (ms : List Bool) (k : ℕ) → is_marked (slice_get (ms ++ true ∷ []) k) ≡ (if length ms == k then true else is_marked (slice_get ms k))
last_mark [] zero = refl
last_mark [] (suc k) = rw (eqb-zero-suc k) refl
last_mark (m ∷ ms) zero = rw (eqb-suc-zero (length ms)) refl
last_mark (m ∷ ms) (suc k) = rw (eqb-suc-suc (length ms) k) (last_mark ms k)

first_none : (k : ℕ) → false ≡ (if suc k == zero then true else false)
first_none k = rw (eqb-suc-zero k) refl

pub new_mark : (ms : List Bool) (c : ℕ) → is_marked (nth c (ms ++ true ∷ [])) ≡ (if length ms + 1 == c then true else is_marked (nth c ms))
new_mark ms zero = let e : length ms + 1 ≡ suc (length ms) = omega arith in rw e (first_none (length ms))
new_mark ms (suc k) = let e : length ms + 1 ≡ suc (length ms) = omega arith in rw e (rw (eqb-suc-suc (length ms) k) (last_mark ms k))

pub opens_mark : (ms : List Bool) (es : List Entry) (e : Entry) → Opens (length ms + 1) e → ((c : ℕ) → is_marked (nth c ms) ≡ is_open es c) → (c : ℕ) → is_marked (nth c (ms ++ true ∷ [])) ≡ is_open (es ++ e ∷ []) c
opens_mark ms es e opens marked c = rw (open_behind es e c false) (rw (opens c (is_open es c)) (rw (← marked c) (new_mark ms c)))

pub count_more : (ms : List Bool) → open_count (ms ++ true ∷ []) ≡ open_count ms + 1
count_more [] = refl
count_more (true ∷ ms) = omega (arith, count_more ms)
count_more (false ∷ ms) = count_more ms

-- one mark is taken away
pub one_if : Bool → ℕ
one_if true = 1
one_if false = 0

count_first : (m : Bool) (ms : List Bool) → open_count ms + one_if m ≡ open_count (m ∷ ms)
unfolding one_if
count_first true ms = refl
count_first false ms = omega arith

count_later : (m : Bool) (ms ns : List Bool) (n : ℕ) → open_count ms + n ≡ open_count ns → open_count (m ∷ ms) + n ≡ open_count (m ∷ ns)
count_later true ms ns n e = omega (arith, e)
count_later false ms ns n e = e

-- by what stands at the place
count_at : (ms : List Bool) (i : ℕ) (v : Option Bool) → slice_get ms i ≡ v → open_count (changed (λ mark. false) (suc i) ms v) + one_if (is_marked v) ≡ open_count ms
unfolding one_if
count_at ms i None e = omega arith
count_at [] i (Some m) e = absurd (none-some m e)
count_at (x ∷ xs) zero (Some m) e = let same : x ≡ m = ap is_marked e in rw (← same) (count_first x xs)
count_at (x ∷ xs) (suc j) (Some m) e = count_later x (slice_set xs j false) xs (one_if m) (count_at xs j (Some m) e)

pub count_less : (c : ℕ) (ms : List Bool) → open_count (unmarked c ms) + one_if (is_marked (nth c ms)) ≡ open_count ms
unfolding one_if
count_less zero ms = omega arith
count_less (suc i) ms = count_at ms i (slice_get ms i) refl

stays_false : (b r : Bool) → (b ≡ true → r ≡ false) → r ≡ (if b then false else r)
stays_false true r f = f refl
stays_false false r f = refl

mark_at : (ms : List Bool) (i k : ℕ) (v : Option Bool) → slice_get ms i ≡ v → is_marked (slice_get (changed (λ mark. false) (suc i) ms v) k) ≡ (if i == k then false else is_marked (slice_get ms k))
mark_at ms i k None e = stays_false (i == k) (is_marked (slice_get ms k)) (λ same. rw (← eqb-true i k same) (ap is_marked e))
mark_at [] i k (Some m) e = absurd (none-some m e)
mark_at (x ∷ xs) zero zero (Some m) e = refl
mark_at (x ∷ xs) zero (suc k) (Some m) e = rw (eqb-zero-suc k) refl
mark_at (x ∷ xs) (suc j) zero (Some m) e = rw (eqb-suc-zero j) refl
mark_at (x ∷ xs) (suc j) (suc k) (Some m) e = rw (eqb-suc-suc j k) (mark_at xs j k (Some m) e)

pub mark_less : (n : ℕ) (ms : List Bool) (c : ℕ) → is_marked (nth c (unmarked n ms)) ≡ (if n == c then false else is_marked (nth c ms))
mark_less zero ms zero = refl
mark_less zero ms (suc k) = rw (eqb-zero-suc k) refl
mark_less (suc i) ms zero = rw (eqb-suc-zero i) refl
mark_less (suc i) ms (suc k) = rw (eqb-suc-suc i k) (mark_at ms i k (slice_get ms i) refl)

-- a connection at hand is given up
pub shut_marks : (ms : List Bool) (es : List Entry) (n : ℕ) → ((c : ℕ) → is_marked (nth c ms) ≡ is_open es c) → (c : ℕ) → is_marked (nth c (unmarked n ms)) ≡ is_open (es ++ entry.Shut n ∷ []) c
shut_marks ms es n marked c = rw (open_behind es (entry.Shut n) c false) (rw (← marked c) (mark_less n ms c))

-- one that is not at hand has no mark to lose
pub kept_marks : (ms : List Bool) (es : List Entry) (n : ℕ) → is_marked (nth n ms) ≡ false → ((c : ℕ) → is_marked (nth c ms) ≡ is_open es c) → (c : ℕ) → is_marked (nth c (unmarked n ms)) ≡ is_open es c
kept_marks ms es n none marked c = rw (mark_less n ms c) (rw (← stays_false (n == c) (is_marked (nth c ms)) (λ same. rw (← eqb-true n c same) none)) (marked c))

pub shut_count : (n : ℕ) (ms : List Bool) (kept : ℕ) → is_marked (nth n ms) ≡ true → open_count ms ≡ kept → open_count (unmarked n ms) + 1 ≡ kept
unfolding one_if
shut_count n ms kept has e = rw (← e) (rw has at (count_less n ms))

pub kept_count : (n : ℕ) (ms : List Bool) (kept : ℕ) → is_marked (nth n ms) ≡ false → open_count ms ≡ kept → open_count (unmarked n ms) ≡ kept
unfolding one_if
kept_count n ms kept none e = let f : open_count (unmarked n ms) + 0 ≡ open_count ms = rw none at (count_less n ms) in omega (arith, e, f)

length_set : (ms : List Bool) (i : ℕ) (v : Option Bool) → length (changed (λ mark. false) (suc i) ms v) ≡ length ms
length_set ms i None = refl
length_set ms i (Some m) = length-set ms i false

pub length_unmarked : (n : ℕ) (ms : List Bool) → length (unmarked n ms) ≡ length ms
length_unmarked zero ms = refl
length_unmarked (suc i) ms = length_set ms i (slice_get ms i)
