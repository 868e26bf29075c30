-- What an output tells, and what is told on it.
use Rattle.std.specs.Prelude.{ℕ, List, Option}
use Rattle.kn_io.specs.Writing.{WriteCounts, WritePuts}
use Rattle.kn_io.specs.declared.sink.Put.{Put}

-- what a sink tells at a moment: its count of faults, and the bytes that were written
pub record Told : Type 0 where
  pub faults : ℕ
  pub bytes : Option (List ℕ)

abbrev pub told : ℕ → Option (List ℕ) → Told
told faults bytes = record { faults = faults; bytes = bytes }

-- the message went to the output in one write, whatever that answered
abbrev pub Tells : Told → Told → List ℕ → Type 0
Tells old new message =
    (answer : Put) × WriteCounts answer old.faults new.faults × WritePuts answer old.bytes new.bytes message
