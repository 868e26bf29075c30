-- What one write to a sink may answer, and what it does to the bytes that the sink took.
use Rattle.std.specs.Prelude.{◌≡◌, ℕ, ◌≤◌, List, ◌++◌, Option}
use Rattle.std.specs.Io.KnownBytes.{Appends}
use Rattle.kn_io.specs.Faults.{Rose}
use Rattle.kn_io.specs.declared.sink.Put.{Put}
use Rattle.kn_io.specs.declared.sink.Put.TheVariants.{Done, Failed, NoMemory}

-- the count of faults never falls, and a write fails only where it rose
abbrev pub WriteCounts : Put → ℕ → ℕ → Type 0
WriteCounts Done before after = before ≤ after
WriteCounts Failed before after = (before ≤ after) × Rose before after
WriteCounts NoMemory before after = before ≤ after

-- the bytes that were written, where they are known, grow by some front of these bytes
abbrev pub AppendsFront : Option (List ℕ) → Option (List ℕ) → List ℕ → Type 0
AppendsFront old new bytes = (front rest : List ℕ) × (bytes ≡ front ++ rest) × Appends old new front

-- all of the bytes are written, or a front of them where the write failed or found no memory
abbrev pub WritePuts : Put → Option (List ℕ) → Option (List ℕ) → List ℕ → Type 0
WritePuts Done old new bytes = Appends old new bytes
WritePuts Failed old new bytes = AppendsFront old new bytes
WritePuts NoMemory old new bytes = AppendsFront old new bytes
