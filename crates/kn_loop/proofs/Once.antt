-- How often a connection stands in a list, and how often it is visited.
use Rattle.std.proofs.Common.{◌≡◌, ℕ, ◌+◌, ◌≤◌, ◌<◌, ◌==◌, Bool, true, false, List, [], ◌∷◌, ◌++◌, take, drop, sym, refl, ap, ◌∙◌, subst, append-nil, arith}
use Rattle.std.specs.Prelude.{if◌then◌else◌}
use Rattle.std.specs.List.{AllByRecursion}
use Rattle.std.specs.List.Sorted.{IsStrictlySortedBy}
use Rattle.std.specs.Ordering.{nat_cmp}
use Rattle.std.specs.declared.cmp.Ordering.TheVariants.{Less}
use Rattle.std.proofs.lemmas.Bool.Decides.{nat_tests}
use Rattle.kn_port.specs.declared.entry.Entry.{Entry}
use Rattle.kn_loop.specs.Kept.{copies, NoTwice}
use Rattle.kn_loop.specs.Visited.{times, is_ask, is_read, is_write, Within, VisitsOnce}
use Rattle.kn_loop.proofs.Covering.{joined}

-- it cannot be both
pub not_both : {A : Type 0} (b : Bool) → b ≡ false → b ≡ true → A
not_both b e h = let no : false ≡ true = sym e ∙ h in cc

pub same_le : (n : ℕ) → n ≤ n
same_le n = omega arith

-- ---- how often a number is in a list
pub copies_then : (c : ℕ) (xs ys : List ℕ) → copies c (xs ++ ys) ≡ copies c xs + copies c ys
copies_then c [] ys = omega arith
copies_then c (x ∷ xs) ys = let rest : copies c (xs ++ ys) ≡ copies c xs + copies c ys = copies_then c xs ys in omega arith

pub apart_kept : (ns : List ℕ) (n : ℕ) (ms : List ℕ) → NoTwice (ns ++ n ∷ ms) → NoTwice ((ns ++ n ∷ []) ++ ms)
apart_kept ns n ms p c =
    let all : copies c (ns ++ n ∷ ms) ≡ copies c ns + copies c (n ∷ ms) = copies_then c ns (n ∷ ms) in
    let front : copies c (ns ++ n ∷ []) ≡ copies c ns + copies c (n ∷ []) = copies_then c ns (n ∷ []) in
    let kept : copies c ((ns ++ n ∷ []) ++ ms) ≡ copies c (ns ++ n ∷ []) + copies c ms = copies_then c (ns ++ n ∷ []) ms in
    let most : copies c (ns ++ n ∷ ms) ≤ 1 = p c in
    omega arith

pub apart_dropped : (ns : List ℕ) (n : ℕ) (ms : List ℕ) → NoTwice (ns ++ n ∷ ms) → NoTwice (ns ++ ms)
apart_dropped ns n ms p c =
    let all : copies c (ns ++ n ∷ ms) ≡ copies c ns + copies c (n ∷ ms) = copies_then c ns (n ∷ ms) in
    let less : copies c (ns ++ ms) ≡ copies c ns + copies c ms = copies_then c ns ms in
    let most : copies c (ns ++ n ∷ ms) ≤ 1 = p c in
    omega arith

pub apart_begun : (ns ms : List ℕ) → ns ≡ [] → NoTwice ms → NoTwice (ns ++ ms)
apart_begun ns ms e p = subst (λ xs. NoTwice (xs ++ ms)) (sym e) p

pub apart_end : (ns ms : List ℕ) → ms ≡ [] → NoTwice (ns ++ ms) → NoTwice ns
apart_end ns ms e p = subst NoTwice (append-nil ns) (subst (λ xs. NoTwice (ns ++ xs)) e p)

-- whatever a list is turned by
pub single_turned : (k : ℕ) (ns : List ℕ) → NoTwice ns → NoTwice (drop k ns ++ take k ns)
single_turned k ns p c =
    let front : copies c (take k ns ++ drop k ns) ≡ copies c (take k ns) + copies c (drop k ns) = copies_then c (take k ns) (drop k ns) in
    let turned : copies c (drop k ns ++ take k ns) ≡ copies c (drop k ns) + copies c (take k ns) = copies_then c (drop k ns) (take k ns) in
    let same : copies c (take k ns ++ drop k ns) ≡ copies c ns = ap (copies c) (joined k ns) in
    let most : copies c ns ≤ 1 = p c in
    omega arith

other_above : (n m : ℕ) → nat_cmp n m ≡ Less → (m == n) ≡ false
other_above n m h = grind (arith, nat_tests)

none_above : (n : ℕ) (ns : List ℕ) → AllByRecursion (λ m. nat_cmp n m ≡ Less) ns → copies n ns ≡ 0
none_above n [] h = refl
none_above n (m ∷ ms) h =
    let rest : copies n ms ≡ 0 = none_above n ms h.1 in
    let first : copies n (m ∷ ms) ≡ 0 + copies n ms = ap (λ b. (if b then 1 else 0) + copies n ms) (other_above n m h.0) in
    omega arith

same_number : (n c : ℕ) → (n == c) ≡ true → n ≡ c
same_number n c e = grind arith

single_at : (n c : ℕ) (t : Bool) (ns : List ℕ) → (n == c) ≡ t → copies n ns ≡ 0 → copies c ns ≤ 1 → copies c (n ∷ ns) ≤ 1
single_at n c true ns e none rest =
    let own : copies c ns ≡ 0 = subst (λ k. copies k ns ≡ 0) (same_number n c e) none in
    let first : copies c (n ∷ ns) ≡ 1 + copies c ns = ap (λ b. (if b then 1 else 0) + copies c ns) e in
    omega arith
single_at n c false ns e none rest =
    let first : copies c (n ∷ ns) ≡ 0 + copies c ns = ap (λ b. (if b then 1 else 0) + copies c ns) e in
    omega arith

-- the numbers of a set
pub single_sorted : (ns : List ℕ) → IsStrictlySortedBy nat_cmp ns → NoTwice ns
unfolding IsStrictlySortedBy
single_sorted [] h c = omega arith
single_sorted (n ∷ ns) h c = single_at n c (n == c) ns refl (none_above n ns h.0) (single_sorted ns h.1 c)

-- ---- how often a connection is visited
times_then : (so : Entry → Bool) (es fs : List Entry) → times so (es ++ fs) ≡ times so es + times so fs
times_then so [] fs = omega arith
times_then so (e ∷ es) fs = let rest : times so (es ++ fs) ≡ times so es + times so fs = times_then so es fs in omega arith

then_at : (so : Entry → Bool) (c : ℕ) (xs ys : List ℕ) (es fs : List Entry) → times so es ≤ copies c xs → times so fs ≤ copies c ys → times so (es ++ fs) ≤ copies c (xs ++ ys)
then_at so c xs ys es fs p q =
    let made : times so (es ++ fs) ≡ times so es + times so fs = times_then so es fs in
    let met : copies c (xs ++ ys) ≡ copies c xs + copies c ys = copies_then c xs ys in
    omega arith

pub within_then : (a b r s w v : List ℕ) (es fs : List Entry) → Within a r w es → Within b s v fs → Within (a ++ b) (r ++ s) (w ++ v) (es ++ fs)
within_then a b r s w v es fs p q c =
    (then_at (is_ask c) c a b es fs (p c).0 (q c).0, then_at (is_read c) c r s es fs (p c).1 (q c).1, then_at (is_write c) c w v es fs (p c).2 (q c).2)

quiet_at : (so : Entry → Bool) (c : ℕ) (xs : List ℕ) (es fs : List Entry) → times so es ≤ copies c xs → times so fs ≤ 0 → times so (es ++ fs) ≤ copies c xs
quiet_at so c xs es fs p q = let made : times so (es ++ fs) ≡ times so es + times so fs = times_then so es fs in omega arith

-- and then nobody is visited
pub within_quiet : (a r w : List ℕ) (es fs : List Entry) → Within a r w es → Within [] [] [] fs → Within a r w (es ++ fs)
within_quiet a r w es fs p q c =
    (quiet_at (is_ask c) c a es fs (p c).0 (q c).0, quiet_at (is_read c) c r es fs (p c).1 (q c).1, quiet_at (is_write c) c w es fs (p c).2 (q c).2)

no_le : (n : ℕ) → 0 ≤ n
no_le n = omega arith

pub within_nothing : (a r w : List ℕ) → Within a r w []
within_nothing a r w c = (no_le (copies c a), no_le (copies c r), no_le (copies c w))

less_le : (k n : ℕ) → k ≤ 0 → k ≤ n
less_le k n h = omega arith

pub asked_within : (n : ℕ) (es : List Entry) → Within (n ∷ []) [] [] es → Within (n ∷ []) (n ∷ []) (n ∷ []) es
asked_within n es p c = ((p c).0, less_le (times (is_read c) es) (copies c (n ∷ [])) (p c).1, less_le (times (is_write c) es) (copies c (n ∷ [])) (p c).2)

pub exchanged_within : (n : ℕ) (es : List Entry) → Within [] (n ∷ []) (n ∷ []) es → Within (n ∷ []) (n ∷ []) (n ∷ []) es
exchanged_within n es p c = (less_le (times (is_ask c) es) (copies c (n ∷ [])) (p c).0, (p c).1, (p c).2)

-- of a batch, but for those that are left
abbrev pub WithinBut : List ℕ → List ℕ → List Entry → Type 0
WithinBut left batch es = (c : ℕ) → (times (is_ask c) es + copies c left ≤ copies c batch) × (times (is_read c) es + copies c left ≤ copies c batch) × (times (is_write c) es + copies c left ≤ copies c batch)

next_at : (so : Entry → Bool) (c n : ℕ) (ns batch : List ℕ) (es fs : List Entry) → times so es + copies c (n ∷ ns) ≤ copies c batch → times so fs ≤ copies c (n ∷ []) → times so (es ++ fs) + copies c ns ≤ copies c batch
next_at so c n ns batch es fs p q =
    let made : times so (es ++ fs) ≡ times so es + times so fs = times_then so es fs in
    let split : copies c (n ∷ ns) ≡ copies c (n ∷ []) + copies c ns = copies_then c (n ∷ []) ns in
    omega arith

pub within_next : (n : ℕ) (ns batch : List ℕ) (es fs : List Entry) → WithinBut (n ∷ ns) batch es → Within (n ∷ []) (n ∷ []) (n ∷ []) fs → WithinBut ns batch (es ++ fs)
within_next n ns batch es fs p q c =
    (next_at (is_ask c) c n ns batch es fs (p c).0 (q c).0, next_at (is_read c) c n ns batch es fs (p c).1 (q c).1, next_at (is_write c) c n ns batch es fs (p c).2 (q c).2)

all_at : (k n : ℕ) → k + 0 ≤ n → k ≤ n
all_at k n h = omega arith

pub within_all : (batch : List ℕ) (es : List Entry) → WithinBut [] batch es → Within batch batch batch es
within_all batch es p c =
    (all_at (times (is_ask c) es) (copies c batch) (p c).0, all_at (times (is_read c) es) (copies c batch) (p c).1, all_at (times (is_write c) es) (copies c batch) (p c).2)

begun_at : (n : ℕ) → 0 + n ≤ n
begun_at n = omega arith

pub within_begun : (batch : List ℕ) → WithinBut batch batch []
within_begun batch c = (begun_at (copies c batch), begun_at (copies c batch), begun_at (copies c batch))

once_at : (k n : ℕ) → k ≤ n → n ≤ 1 → k ≤ 1
once_at k n p q = omega arith

pub visits_once : (batch : List ℕ) (es : List Entry) → NoTwice batch → Within batch batch batch es → VisitsOnce es
visits_once batch es single p c =
    (once_at (times (is_ask c) es) (copies c batch) (p c).0 (single c), once_at (times (is_read c) es) (copies c batch) (p c).1 (single c), once_at (times (is_write c) es) (copies c batch) (p c).2 (single c))
