-- How long a header block of an encoder is.
use Rattle.std.proofs.Common.{ℕ, zero, suc, ◌+◌, ◌-◌, ◌*◌, ◌/◌, ◌%◌, ◌≤◌, Bool, true, false, nat_lt, List, [], ◌∷◌, ◌++◌, length, length-append, Option, Some, None, arith, if◌then◌else◌}
use Rattle.std.specs.List.{flat_map}
use Rattle.kn_hpack.specs.Fields.{Field, size, total}
use Rattle.kn_hpack.specs.StaticTable.{static_table, place_in}
use Rattle.kn_hpack.specs.Encoding.{tail_of, integer_of, plain, placed_or, field_text, block_of}
use Rattle.kn_h2_state.specs.InStep.{OwnBlocksAreShort}

tail_short : (left n : ℕ) → length (tail_of left n) ≤ left
unfolding tail_of
tail_short zero n = omega arith
tail_short (suc left) n = by_test (nat_lt n 128) (tail_short left (n / 128))
  where
    by_test : (b : Bool) → length (tail_of left (n / 128)) ≤ left → length (if b then n ∷ [] else (n % 128 + 128) ∷ tail_of left (n / 128)) ≤ suc left
    by_test true rest = omega arith
    by_test false rest = omega (arith, rest)

integer_short : (kind top n : ℕ) → length (integer_of kind top n) ≤ 11
unfolding integer_of
integer_short kind top n = by_test (nat_lt n top) (tail_short 10 (n - top))
  where
    by_test : (b : Bool) → length (tail_of 10 (n - top)) ≤ 10 → length (if b then (kind * suc top + n) ∷ [] else (kind * suc top + top) ∷ tail_of 10 (n - top)) ≤ 11
    by_test true rest = omega arith
    by_test false rest = omega (arith, rest)

plain_short : (text : List ℕ) → length (plain text) ≤ 11 + length text
unfolding plain
plain_short text = omega (arith, integer_short 0 127 (length text), length-append (integer_of 0 127 (length text)) text)

placed_short : (o : Option ℕ) (f : Field) → length (placed_or o f) ≤ size f
placed_short (Some i) f = omega (arith, integer_short 1 127 (i + 1))
placed_short None f = omega (arith, plain_short f.name, plain_short f.value, length-append (plain f.name) (plain f.value))

field_short : (f : Field) → length (field_text f) ≤ size f
unfolding field_text
field_short f = placed_short (place_in static_table 0 f) f

fields_short : (fields : List Field) → length (flat_map field_text fields) ≤ total fields
fields_short [] = omega arith
fields_short (f ∷ fs) =
    let one : length (field_text f) ≤ size f = field_short f in
    let rest : length (flat_map field_text fs) ≤ total fs = fields_short fs in
    omega (arith, one, rest, length-append (field_text f) (flat_map field_text fs))

pub own_blocks_are_short : OwnBlocksAreShort
unfolding block_of
own_blocks_are_short wrote fields = by_test wrote (fields_short fields)
  where
    by_test : (b : Bool) → length (flat_map field_text fields) ≤ total fields → length ((if b then [] else 32 ∷ []) ++ flat_map field_text fields) ≤ 1 + total fields
    by_test true rest = omega (arith, rest)
    by_test false rest = omega (arith, rest)
