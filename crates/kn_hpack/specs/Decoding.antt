-- What a decoder answers, and what it is after that.
use Rattle.std.specs.Prelude.{◌≡◌, ℕ, List, Result, Ok, Err}
use Rattle.kn_hpack.specs.Fields.{Field, Table}
use Rattle.kn_hpack.specs.Blocks.{read_block, progress}
use Rattle.kn_hpack.specs.declared.standing.Standing.{Standing}
use Rattle.kn_hpack.specs.declared.standing.Standing.TheVariants.{Reading, Failed, OutOfMemory}
use Rattle.kn_hpack.specs.declared.fault.HpackError.{HpackError}
use Rattle.kn_hpack.specs.declared.fault.HpackError.TheVariants as errors

-- the dynamic table, and whether blocks are still read
pub record Decoding : Type 0 where
  pub table : Table
  pub standing : Standing

abbrev pub decoding : Table → Standing → Decoding
decoding t standing = record { table = t; standing = standing }

-- while blocks are read: the list and the new table, or the first fault of the block
abbrev pub Answers : Table → List ℕ → Result (List Field) HpackError → Decoding → Type 0
Answers t block (Ok fields) new = (read_block t block ≡ Ok (progress new.table fields)) × (new.standing ≡ Reading)
Answers t block (Err (errors.Fault f)) new = (read_block t block ≡ Err f) × (new.standing ≡ Failed f)
Answers t block (Err (errors.Failed f)) new = ⊥
Answers t block (Err errors.NoMemory) new = new.standing ≡ OutOfMemory

-- once it has failed: that fault, and nothing changes; and likewise once memory ran out
abbrev pub DecodesAs : Standing → Decoding → List ℕ → Result (List Field) HpackError → Decoding → Type 0
DecodesAs Reading old block result new = Answers old.table block result new
DecodesAs (Failed f) old block result new = (result ≡ Err (errors.Failed f)) × (new ≡ old)
DecodesAs OutOfMemory old block result new = (result ≡ Err errors.NoMemory) × (new ≡ old)

abbrev pub Decodes : Decoding → List ℕ → Result (List Field) HpackError → Decoding → Type 0
Decodes old block result new = DecodesAs old.standing old block result new
