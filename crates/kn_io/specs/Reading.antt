-- What one read of a source may answer, and what it does to the bytes that the source has left.
use Rattle.std.specs.Prelude.{ℕ, ◌<◌, ◌≤◌, List, take, ⊤, Option}
use Rattle.std.specs.Io.KnownBytes.{Keeps, Consumes, IsAtEnd}
use Rattle.kn_io.specs.Faults.{Rose}
use Rattle.kn_io.specs.declared.source.Got.{Got}
use Rattle.kn_io.specs.declared.source.Got.TheVariants.{Bytes, End, Failed}

-- the count of faults never falls, and a read fails only where it rose
abbrev pub ReadCounts : Got → ℕ → ℕ → Type 0
ReadCounts (Bytes n) before after = before ≤ after
ReadCounts End before after = before ≤ after
ReadCounts Failed before after = (before ≤ after) × Rose before after

-- at least one byte is given, and no more than there is room for
abbrev pub ReadFits : Got → ℕ → Type 0
ReadFits (Bytes n) room = (0 < n) × (n ≤ room)
ReadFits End room = ⊤
ReadFits Failed room = ⊤

-- The bytes left, where they are known, lose those that the read gave, which stand at the front of the
-- room. The end comes where none is left, and a read that failed takes none.
abbrev pub ReadTakes : Got → Option (List ℕ) → Option (List ℕ) → List ℕ → Type 0
ReadTakes (Bytes n) old new room = Consumes old new (take n room)
ReadTakes End old new room = Keeps old new × IsAtEnd new
ReadTakes Failed old new room = Keeps old new
