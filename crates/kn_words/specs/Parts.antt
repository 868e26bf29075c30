-- Bytes that go in several packets.
use Rattle.std.specs.Prelude.{◌++◌, ℕ, List, [], ◌∷◌}

abbrev pub all_bytes : List (List ℕ) → List ℕ
all_bytes [] = []
all_bytes (bytes ∷ parts) = bytes ++ all_bytes parts
