-- Header fields, and the dynamic table (RFC 7541, sections 2.3.2 and 4).
use Rattle.std.specs.Prelude.{ℕ, ◌+◌, ◌-◌, List, [], ◌∷◌, length, nat_le, if◌then◌else◌}

-- a header field
pub record Field : Type 0 where
  pub name : List ℕ
  pub value : List ℕ

abbrev pub pair : List ℕ → List ℕ → Field
pair name value = record { name = name; value = value }

-- what a field counts
abbrev pub size : Field → ℕ
size f = length f.name + length f.value + 32

abbrev pub total : List Field → ℕ
total [] = 0
total (f ∷ fs) = size f + total fs

-- the dynamic table, the newest field first, and its limit
pub record Table : Type 0 where
  pub limit : ℕ
  pub fields : List Field

abbrev pub table_of : ℕ → List Field → Table
table_of limit fields = record { limit = limit; fields = fields }

-- the newest fields, as long as there is room
unfoldable pub kept : ℕ → List Field → List Field
kept room [] = []
kept room (f ∷ fs) = if nat_le (size f) room then f ∷ kept (room - size f) fs else []

-- with one more field: the oldest leave until there is room, and a field that is over the limit empties the table
abbrev pub added : Table → Field → Table
added t f = table_of t.limit (kept t.limit (f ∷ t.fields))

-- with another limit
abbrev pub resized : Table → ℕ → Table
resized t limit = table_of limit (kept limit t.fields)
