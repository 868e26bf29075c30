-- How many bytes a reader of messages holds.
use Rattle.std.specs.Prelude.{ℕ, ◌≤◌, length, List}
use Rattle.kn_grpc.specs.Readers.{Reading, start, fed, popped}

-- a message's five bytes and its longest text
abbrev pub longest_kept : ℕ
longest_kept = 4194309

abbrev pub IsWithin : Reading → Type 0
IsWithin r = length r.kept ≤ longest_kept

-- no reader holds more: none at its beginning, and a piece and a message that is taken leave it so
pub record KeptIsBounded : Type 0 where
  pub start : IsWithin start
  pub fed : (r : Reading) (piece : List ℕ) → IsWithin r → IsWithin (fed r piece)
  pub popped : (r : Reading) → IsWithin r → IsWithin (popped r)
