-- The static table as the code keeps it: the texts of its fields joined, and where each ends.
use Rattle.std.specs.Prelude.{ℕ, List, slice_index}
use Rattle.kn_hpack.specs.declared.static_table.TheConstants.{TEXT, ENDS}

unfoldable pub static_text : List ℕ
static_text = TEXT

unfoldable pub end_at : ℕ → ℕ
end_at at = slice_index ENDS at
