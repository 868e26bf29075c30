-- Entries in an ordered map by their numbers, and the ordered maps that find them by other keys.
-- No public clause cites this file.
use Rattle.std.specs.Prelude.{◌≡◌, ℕ, ℤ, negsuc, ◌≤◌, Bool, false, List, [], ◌∷◌, Option, Some, None, unwrap_or}
use Rattle.std.specs.declared.cmp.Ordering.{Ordering}
use Rattle.std.specs.Ordering.{nat_cmp, int_cmp, ordering_then, is_gt}
use Rattle.std.specs.Option.{IsSome}
use Rattle.std.specs.Map.{lookup}
use Rattle.std.specs.BTreeMap.{is_at}

-- the entry under a number
abbrev pub at_number : {E : Type 0} → List (ℕ × E) → ℕ → Option E
at_number es q = lookup (is_at (nat_cmp q)) es

-- each entry lies under its own number
abbrev pub IsKeyed : {E : Type 0} → (E → ℕ) → List (ℕ × E) → Type 0
IsKeyed number [] = Unit {0}
IsKeyed number (x ∷ xs) = (number x.1 ≡ x.0) × IsKeyed number xs

-- what tells the entry under a number, where there is one
abbrev pub told : {K E : Type 0} → (E → Option K) → Option E → Option K
told tells None = None
told tells (Some e) = tells e

-- the number that an index has at a key
abbrev pub at_key : {K : Type 0} → (K → K → Ordering) → List (K × ℕ) → K → Option ℕ
at_key cmp index k = lookup (is_at (cmp k)) index

-- whether what tells an entry is this key
abbrev pub hits : {K : Type 0} → (K → K → Ordering) → Option K → K → Bool
hits cmp None k = false
hits cmp (Some t) k = is_at (cmp t) k

-- an index has, at what tells an entry, exactly the number of that entry
pub record Indexes {K : Type 0} (told_at : ℕ → Option K) (index : K → Option ℕ) : Type 0 where
  pub finds : (q : ℕ) (k : K) → told_at q ≡ Some k → index k ≡ Some q
  pub holds : (k : K) (q : ℕ) → index k ≡ Some q → told_at q ≡ Some k

abbrev pub pair_cmp : ℕ × ℕ → ℕ × ℕ → Ordering
pair_cmp a b = ordering_then (nat_cmp a.0 b.0) (nat_cmp a.1 b.1)

abbrev pub signed_pair_cmp : ℕ × ℤ → ℕ × ℤ → Ordering
signed_pair_cmp a b = ordering_then (nat_cmp a.0 b.0) (int_cmp a.1 b.1)

-- what an index found, in the map by number
abbrev pub entry_at : {E : Type 0} → List (ℕ × E) → Option ℕ → Option E
entry_at es None = None
entry_at es (Some q) = at_number es q

-- the number under the least pair that begins so, where there is one
abbrev pub FirstAt : List ((ℕ × ℕ) × ℕ) → ℕ → Option ℕ → Type 0
FirstAt index a None = (b : ℕ) → lookup (is_at (pair_cmp (a, b))) index ≡ None
FirstAt index a (Some q) = (b : ℕ) × (lookup (is_at (pair_cmp (a, b))) index ≡ Some q)
    × ((c : ℕ) → IsSome (lookup (is_at (pair_cmp (a, c))) index) → b ≤ c)

-- the same of pairs with a signed number, of which none lies below a lowest one
abbrev pub FirstSignedAt : ℤ → List ((ℕ × ℤ) × ℕ) → ℕ → Option ℕ → Type 0
FirstSignedAt low index a None = (b : ℤ) → is_gt (int_cmp low b) ≡ false → lookup (is_at (signed_pair_cmp (a, b))) index ≡ None
FirstSignedAt low index a (Some q) = (b : ℤ) × (lookup (is_at (signed_pair_cmp (a, b))) index ≡ Some q)
    × ((c : ℤ) → is_gt (int_cmp low c) ≡ false → IsSome (lookup (is_at (signed_pair_cmp (a, c))) index) → is_gt (int_cmp b c) ≡ false)

-- the least number of 64 bits with a sign
abbrev pub lowest : ℤ
lowest = negsuc 9223372036854775807

-- a front, where there is one, and the number of a dial
abbrev pub pair_of : Option ℕ → ℕ → Option (ℕ × ℕ)
pair_of None dial = None
pair_of (Some front) dial = Some (front, dial)

-- how many are counted under a number
abbrev pub count_at : List (ℕ × ℕ) → ℕ → ℕ
count_at counts q = unwrap_or (lookup (is_at (nat_cmp q)) counts) 0
