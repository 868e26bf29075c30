-- What an index names (RFC 7541, section 2.3.3).
use Rattle.std.specs.Prelude.{ℕ, zero, suc, List, ◌++◌, slice_get, Option, Some, None}
use Rattle.std.specs.Borrow.{Bor}
use Rattle.kn_hpack.specs.Fields.{Field, Table, pair}
use Rattle.kn_hpack.specs.StaticTable.{static_table}

-- from 1 on: the static table, and then the dynamic one
unfoldable pub field_in : List Field → ℕ → Option Field
field_in fs zero = None
field_in fs (suc i) = slice_get (static_table ++ fs) i

abbrev pub field_at : Table → ℕ → Option Field
field_at t i = field_in t.fields i

-- the field whose name and value are lent
abbrev pub lent : Option (Bor (List ℕ) × Bor (List ℕ)) → Option Field
lent None = None
lent (Some x) = Some (pair x.0.now x.1.now)
