-- How bytes fall into lines, and a line into words.
use Rattle.std.specs.Prelude.{ℕ, ◌==◌, Bool, List, [], ◌∷◌, if◌then◌else◌}
use Rattle.std.specs.List.{onto_first, slice_split}

abbrev pub is_line_feed : ℕ → Bool
is_line_feed byte = byte == 10

abbrev pub is_space : ℕ → Bool
is_space byte = byte == 32

-- A line feed ends a line. Another byte stands at the front of the line that goes on after it, or is the last
-- line where nothing goes on. So nothing after a last line feed is no line.
abbrev pub lines_of : List ℕ → List (List ℕ)
lines_of [] = []
lines_of (byte ∷ bytes) = if is_line_feed byte then [] ∷ lines_of bytes else onto_first byte (lines_of bytes)

-- the pieces of a line between its spaces, also the empty ones
abbrev pub pieces_of : List ℕ → List (List ℕ)
pieces_of line = slice_split is_space line
