-- A header block leaves the dynamic table within its limit.
use Rattle.std.proofs.Common.{◌≡◌, ℕ, zero, suc, ◌-◌, ◌≤◌, Bool, true, false, not, ◌||◌, cond, ltb, leb, slice_index, List, [], ◌∷◌, length, Result, Ok, Err, refl, subst, arith}
use Rattle.std.proofs.lemmas.Bool.{leb-true, ltb-false}
use Rattle.kn_hpack.specs.Faults.{◌>>=◌}
use Rattle.kn_hpack.specs.Fields.{Field, Table, size, total, table_of, kept, added, resized}
use Rattle.kn_hpack.specs.Integers.{integer_at}
use Rattle.kn_hpack.specs.Blocks.{kind_of, indexed_at, literal_at, Progress, progress, is_none, limit_at, one_more, taken, step_of, step_at, placed, read_from, read_block}
use Rattle.kn_hpack.specs.declared.fault.HpackReason.{HpackReason}
use Rattle.kn_hpack.specs.declared.fault.HpackReason.TheVariants.{TableSize}
use Rattle.kn_hpack.specs.declared.fault.HpackFault.{HpackFault}
use Rattle.kn_hpack.specs.declared.representation.Kind.{Kind}
use Rattle.kn_hpack.specs.declared.representation.Kind.TheVariants.{Indexed, Added, Resized, Never, Plain}
use Rattle.kn_h2_courses.specs.Tables.{IsSmallTable}

kept_bound : (room : ℕ) (fs : List Field) → total (kept room fs) ≤ room
unfolding kept
kept_bound room [] = omega arith
kept_bound room (f ∷ fs) = by_test (leb (size f) room) refl (kept_bound (room - size f) fs)
  where
    by_test : (b : Bool) → leb (size f) room ≡ b → total (kept (room - size f) fs) ≤ room - size f → total (cond b (f ∷ kept (room - size f) fs) []) ≤ room
    by_test true t rest = let fits = leb-true (size f) room t in omega (arith, fits, rest)
    by_test false t rest = omega arith

-- ---- one representation

abbrev Steps : Type 0
Steps = Result (Progress × List ℕ) HpackReason

-- where it is read, the table after it is small
abbrev OkSmall : Steps → Type 0
OkSmall (Ok x) = IsSmallTable x.0.table
OkSmall (Err e) = Unit {0}

after_read : {A : Type 0} (r : Result A HpackReason) (f : A → Steps) → ((a : A) → r ≡ Ok a → OkSmall (f a)) → OkSmall (r >>= f)
after_read (Ok a) f h = h a refl
after_read (Err e) f h = tt

taken_small : (fields : List Field) (t : Table) (x : Field × List ℕ) → IsSmallTable t → OkSmall (taken fields t x)
taken_small fields t x h = after_read (one_more fields x.0) (λ fs. Ok (progress t fs, x.1)) (λ fs e. h)

added_small : (t : Table) (f : Field) → IsSmallTable t → IsSmallTable (added t f)
added_small t f h = record { fields = kept_bound t.limit (f ∷ t.fields); limit = h.limit }

resized_small : (t : Table) (limit : ℕ) → limit ≤ 4096 → IsSmallTable (resized t limit)
resized_small t limit h = record { fields = kept_bound limit t.fields; limit = h }

abbrev Limits : Type 0
Limits = Result (ℕ × List ℕ) HpackReason

abbrev is_read : ℕ × List ℕ → Limits
is_read m = Ok m

pairs_same : (a b : ℕ × List ℕ) → is_read a ≡ is_read b → a ≡ b
pairs_same a b e = cc

limit_small : (fields : List Field) (bytes : List ℕ) (n : ℕ × List ℕ) → limit_at fields bytes ≡ Ok n → n.0 ≤ 4096
unfolding limit_at
limit_small fields bytes n e = by_read (integer_at 31 bytes) e
  where
    by_test : (m : ℕ × List ℕ) (b c : Bool) → ltb 4096 m.0 ≡ b → cond (b || c) (Err TableSize) (Ok m) ≡ Ok n → n.0 ≤ 4096
    by_test m true c t h = absurd cc
    by_test m false true t h = absurd cc
    by_test m false false t h = subst (λ (x : ℕ × List ℕ). x.0 ≤ 4096) (pairs_same m n h) (ltb-false 4096 m.0 t)

    by_read : (r : Result (ℕ × List ℕ) HpackReason) → (r >>= λ m. cond (ltb 4096 m.0 || not (is_none fields)) (Err TableSize) (Ok m)) ≡ Ok n → n.0 ≤ 4096
    by_read (Ok m) h = by_test m (ltb 4096 m.0) (not (is_none fields)) refl h
    by_read (Err r) h = absurd cc

step_of_small : (k : Kind) (p : Progress) (bytes : List ℕ) → IsSmallTable p.table → OkSmall (step_of k p bytes)
step_of_small Indexed p bytes h = after_read (indexed_at p.table bytes) (λ x. taken p.fields p.table x) (λ x e. taken_small p.fields p.table x h)
step_of_small Added p bytes h = after_read (literal_at p.table 63 bytes) (λ x. taken p.fields (added p.table x.0) x) (λ x e. taken_small p.fields (added p.table x.0) x (added_small p.table x.0 h))
step_of_small Resized p bytes h = after_read (limit_at p.fields bytes) (λ n. Ok (progress (resized p.table n.0) p.fields, n.1)) (λ n e. resized_small p.table n.0 (limit_small p.fields bytes n e))
step_of_small Never p bytes h = after_read (literal_at p.table 15 bytes) (λ x. taken p.fields p.table x) (λ x e. taken_small p.fields p.table x h)
step_of_small Plain p bytes h = after_read (literal_at p.table 15 bytes) (λ x. taken p.fields p.table x) (λ x e. taken_small p.fields p.table x h)

step_small : (p : Progress) (bytes : List ℕ) → IsSmallTable p.table → OkSmall (step_at p bytes)
unfolding step_at
step_small p bytes h = step_of_small (kind_of (slice_index bytes 0)) p bytes h

-- ---- a block

abbrev pub OkTable : Result Progress HpackFault → Type 0
OkTable (Ok p) = IsSmallTable p.table
OkTable (Err e) = Unit {0}

placed_small : (place : ℕ) (r : Steps) (f : Progress × List ℕ → Result Progress HpackFault) → OkSmall r → ((x : Progress × List ℕ) → IsSmallTable x.0.table → OkTable (f x)) → OkTable (placed place r f)
placed_small place (Ok x) f h k = k x h
placed_small place (Err e) f h k = tt

read_small : (len steps : ℕ) (p : Progress) (bytes : List ℕ) → IsSmallTable p.table → OkTable (read_from len steps p bytes)
unfolding read_from
read_small len steps p [] h = h
read_small len zero p (b ∷ bs) h = h
read_small len (suc k) p (b ∷ bs) h =
    placed_small (len - length (b ∷ bs)) (step_at p (b ∷ bs)) (λ x. read_from len k x.0 x.1) (step_small p (b ∷ bs) h) (λ x small. read_small len k x.0 x.1 small)

pub block_small : (t : Table) (bytes : List ℕ) → IsSmallTable t → OkTable (read_block t bytes)
unfolding read_block
block_small t bytes h = read_small (length bytes) (length bytes) (progress t []) bytes h

pub first_small : IsSmallTable (table_of 4096 [])
first_small = record { fields = omega arith; limit = omega arith }
