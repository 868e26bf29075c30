-- Header blocks as they are read, from left to right: one representation after the other (RFC 7541, sections 3 and 6).
use Rattle.std.specs.Prelude.{◌≡◌, ℕ, zero, suc, ◌-◌, ◌==◌, Bool, true, false, not, ◌||◌, List, [], ◌∷◌, ◌++◌, length, nat_lt, nat_le, slice_index, Option, Some, None, Result, Ok, Err, if◌then◌else◌}
use Rattle.kn_hpack.specs.Faults.{◌>>=◌}
use Rattle.kn_hpack.specs.Integers.{integer_at}
use Rattle.kn_hpack.specs.Strings.{string_at}
use Rattle.kn_hpack.specs.Fields.{Field, Table, pair, total, added, resized}
use Rattle.kn_hpack.specs.Indexes.{field_at}
use Rattle.kn_hpack.specs.declared.fault.HpackReason.{HpackReason}
use Rattle.kn_hpack.specs.declared.fault.HpackReason.TheVariants.{Index, TableSize, TooLarge}
use Rattle.kn_hpack.specs.declared.fault.HpackFault.{HpackFault}
use Rattle.kn_hpack.specs.declared.fault.BlockError.{BlockError}
use Rattle.kn_hpack.specs.declared.fault.BlockError.TheVariants as blocks
use Rattle.kn_hpack.specs.declared.representation.Kind.{Kind}
use Rattle.kn_hpack.specs.declared.representation.Kind.TheVariants.{Indexed, Added, Resized, Never, Plain}

-- the representation that begins with this byte
unfoldable pub kind_of : ℕ → Kind
kind_of b = if nat_le 128 b then Indexed else (if nat_le 64 b then Added else (if nat_le 32 b then Resized else (if nat_le 16 b then Never else Plain)))

-- what an index names
abbrev pub found : Option Field → Result Field HpackReason
found None = Err Index
found (Some f) = Ok f

unfoldable pub indexed_at : Table → List ℕ → Result (Field × List ℕ) HpackReason
indexed_at t bytes = do
  n ← integer_at 127 bytes
  f ← found (field_at t n.0)
  Ok (f, n.1)

-- a name by its index, or in text where the index is 0
unfoldable pub name_at : Table → ℕ → List ℕ → Result (List ℕ × List ℕ) HpackReason
name_at t top bytes = do
  n ← integer_at top bytes
  if n.0 == 0 then string_at n.1 else (found (field_at t n.0) >>= λ f. Ok (f.name, n.1))

unfoldable pub literal_at : Table → ℕ → List ℕ → Result (Field × List ℕ) HpackReason
literal_at t top bytes = do
  n ← name_at t top bytes
  v ← string_at n.1
  Ok (pair n.0 v.0, v.1)

-- what has been read: the table, and the fields so far
pub record Progress : Type 0 where
  pub table : Table
  pub fields : List Field

abbrev pub progress : Table → List Field → Progress
progress t fields = record { table = t; fields = fields }

abbrev pub is_none : List Field → Bool
is_none [] = true
is_none (f ∷ fs) = false

-- a new limit, of at most 4096, before the first field
unfoldable pub limit_at : List Field → List ℕ → Result (ℕ × List ℕ) HpackReason
limit_at fields bytes = do
  n ← integer_at 31 bytes
  if nat_lt 4096 n.0 || not (is_none fields) then Err TableSize else Ok n

-- with one more field, if the list is not too large
unfoldable pub one_more : List Field → Field → Result (List Field) HpackReason
one_more fields f = if nat_lt 16384 (total (fields ++ f ∷ [])) then Err TooLarge else Ok (fields ++ f ∷ [])

abbrev pub taken : List Field → Table → Field × List ℕ → Result (Progress × List ℕ) HpackReason
taken fields t x = one_more fields x.0 >>= λ fs. Ok (progress t fs, x.1)

abbrev pub step_of : Kind → Progress → List ℕ → Result (Progress × List ℕ) HpackReason
step_of Indexed p bytes = indexed_at p.table bytes >>= λ x. taken p.fields p.table x
step_of Added p bytes = literal_at p.table 63 bytes >>= λ x. taken p.fields (added p.table x.0) x
step_of Resized p bytes = limit_at p.fields bytes >>= λ n. Ok (progress (resized p.table n.0) p.fields, n.1)
step_of Never p bytes = literal_at p.table 15 bytes >>= λ x. taken p.fields p.table x
step_of Plain p bytes = literal_at p.table 15 bytes >>= λ x. taken p.fields p.table x

-- one representation
unfoldable pub step_at : Progress → List ℕ → Result (Progress × List ℕ) HpackReason
step_at p bytes = step_of (kind_of (slice_index bytes 0)) p bytes

-- a fault has its place
abbrev pub placed : {A B : Type 0} → ℕ → Result A HpackReason → (A → Result B HpackFault) → Result B HpackFault
placed place (Ok x) f = f x
placed place (Err r) f = Err (record { place = place; reason = r })

-- one representation after the other, of a block of so many bytes; each takes at least a byte, so as many steps are enough
unfoldable pub read_from : ℕ → ℕ → Progress → List ℕ → Result Progress HpackFault
read_from len steps p [] = Ok p
read_from len zero p (b ∷ bs) = Ok p
read_from len (suc k) p (b ∷ bs) = placed (len - length (b ∷ bs)) (step_at p (b ∷ bs)) (λ x. read_from len k x.0 x.1)

-- the fields that a block stands for, and the table after it, or the first fault
unfoldable pub read_block : Table → List ℕ → Result Progress HpackFault
read_block t bytes = read_from (length bytes) (length bytes) (progress t []) bytes

-- What a function returned is what reading gives, unless memory ran out.
abbrev pub BlockFails : {Y : Type 0} → BlockError → Result Y HpackFault → Type 0
BlockFails blocks.NoMemory read = Unit {0}
BlockFails (blocks.Fault f) read = read ≡ Err f

abbrev pub BlockGives : {X Y : Type 0} → (X → Y) → Result X BlockError → Result Y HpackFault → Type 0
BlockGives view (Ok x) read = read ≡ Ok (view x)
BlockGives view (Err e) read = BlockFails e read
