-- What the encoder writes: integers (RFC 7541, section 5.1), plain strings (5.2), indexed fields (6.1), literals without
-- indexing (6.2.2), and a dynamic table size update to 0 (6.3) at the start of the first block.
use Rattle.std.specs.Prelude.{ℕ, zero, suc, ◌+◌, ◌*◌, ◌-◌, ◌/◌, ◌%◌, Bool, List, [], ◌∷◌, ◌++◌, length, nat_lt, Option, Some, None, if◌then◌else◌}
use Rattle.std.specs.List.{flat_map}
use Rattle.kn_hpack.specs.Fields.{Field}
use Rattle.kn_hpack.specs.StaticTable.{static_table, place_in}

-- what is over the prefix: seven bits each, the least first
unfoldable pub tail_of : ℕ → ℕ → List ℕ
tail_of zero n = []
tail_of (suc left) n = if nat_lt n 128 then n ∷ [] else (n % 128 + 128) ∷ tail_of left (n / 128)

unfoldable pub integer_of : ℕ → ℕ → ℕ → List ℕ
integer_of kind top n = if nat_lt n top then (kind * suc top + n) ∷ [] else (kind * suc top + top) ∷ tail_of 10 (n - top)

unfoldable pub plain : List ℕ → List ℕ
plain text = integer_of 0 127 (length text) ++ text

-- the index of a field in the static table, or a literal
abbrev pub placed_or : Option ℕ → Field → List ℕ
placed_or (Some i) f = integer_of 1 127 (i + 1)
placed_or None f = 0 ∷ (plain f.name ++ plain f.value)

unfoldable pub field_text : Field → List ℕ
field_text f = placed_or (place_in static_table 0 f) f

-- the block that an encoder writes: whether it wrote one before, and the fields
unfoldable pub block_of : Bool → List Field → List ℕ
block_of wrote fields = (if wrote then [] else 32 ∷ []) ++ flat_map field_text fields
