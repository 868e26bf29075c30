-- What came of reading a source to its end.
use Rattle.std.specs.Prelude.{ℕ, ◌<◌, ◌≤◌, List, length, ⊤, Option}
use Rattle.std.specs.Io.KnownBytes.{Consumes, IsAtEnd}
use Rattle.kn_io.specs.Faults.{Rose}
use Rattle.kn_cmd.specs.declared.input.Input.{Input}
use Rattle.kn_cmd.specs.declared.input.Input.TheVariants.{Whole, TooLong, Fault, NoMemory}

-- the most bytes that a plain command reads
abbrev pub input_limit : ℕ
input_limit = 1048576

-- these bytes were read, where the source tells its bytes, and none is left
abbrev pub ReadWhole : Option (List ℕ) → Option (List ℕ) → List ℕ → Type 0
ReadWhole old new bytes = Consumes old new bytes × IsAtEnd new

-- more bytes than the limit were read
abbrev pub ReadTooMany : Option (List ℕ) → Option (List ℕ) → Type 0
ReadTooMany old new = (bytes : List ℕ) × (input_limit < length bytes) × Consumes old new bytes

abbrev pub ReadsAll : Input → ℕ → ℕ → Option (List ℕ) → Option (List ℕ) → Type 0
ReadsAll (Whole bytes) before after old new = (length bytes ≤ input_limit) × ReadWhole old new bytes
ReadsAll TooLong before after old new = ReadTooMany old new
ReadsAll Fault before after old new = Rose before after
ReadsAll NoMemory before after old new = ⊤
