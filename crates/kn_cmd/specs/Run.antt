-- How a plain command may end: for each status what was asked, what was read, and what was written where.
use Rattle.std.specs.Prelude.{◌≡◌, ℕ, ◌⊎◌, ◌≤◌, List, length, Option}
use Rattle.kn_io.specs.Faults.{Rose}
use Rattle.kn_io.specs.Writing.{WriteCounts, WritePuts}
use Rattle.kn_io.specs.declared.sink.Put.{Put}
use Rattle.kn_io.specs.declared.sink.Put.TheVariants as put
use Rattle.kn_cmd.specs.Command.{Asks}
use Rattle.kn_cmd.specs.Input.{input_limit, ReadWhole, ReadTooMany}
use Rattle.kn_cmd.specs.Outcome.{HasFewLines, Answers, Refuses}
use Rattle.kn_cmd.specs.Status.{message_of}
use Rattle.kn_cmd.specs.declared.command.Command.{Command}
use Rattle.kn_cmd.specs.declared.outcome.Outcome.{Outcome}
use Rattle.kn_cmd.specs.declared.outcome.Outcome.TheVariants.{Output, Refused, TooLong, NoMemory}
use Rattle.kn_cmd.specs.declared.status.Status.{Status}
use Rattle.kn_cmd.specs.declared.status.Status.TheVariants as status

-- what a source or a sink tells at a moment: its count of faults, and the bytes that are left or were written
pub record Told : Type 0 where
  pub faults : ℕ
  pub bytes : Option (List ℕ)

-- what the source and the two sinks tell
pub record Streams : Type 0 where
  pub source : Told
  pub out : Told
  pub err : Told

abbrev pub told : ℕ → Option (List ℕ) → Told
told faults bytes = record { faults = faults; bytes = bytes }

abbrev pub streams : Told → Told → Told → Streams
streams source out err = record { source = source; out = out; err = err }

-- one write of these bytes, with its answer
pub record Writes (old new : Told) (bytes : List ℕ) (answer : Put) : Type 0 where
  pub count : WriteCounts answer old.faults new.faults
  pub puts : WritePuts answer old.bytes new.bytes bytes

-- the message went to the error output in one write, whatever that answered
abbrev pub Tells : Told → Told → List ℕ → Type 0
Tells old new message = (answer : Put) × Writes old new message answer

-- the whole input was read, and is within the limits of the command
pub record ReadInput (command : Command) (old new : Streams) (bytes : List ℕ) : Type 0 where
  pub whole : ReadWhole old.source.bytes new.source.bytes bytes
  pub size : length bytes ≤ input_limit
  pub lines : HasFewLines command bytes

-- How a command ends. Nothing is written but where it says so.
abbrev pub CommandEnds : Command → Streams → Streams → Status → Type 0
CommandEnds command old new status.Done = (bytes output : List ℕ) × ReadInput command old new bytes
    × Answers command bytes output × Writes old.out new.out output put.Done × (new.err ≡ old.err)
CommandEnds command old new status.WriteFault = (bytes output : List ℕ) × ReadInput command old new bytes
    × Answers command bytes output × Writes old.out new.out output put.Failed × Tells old.err new.err (message_of status.WriteFault)
CommandEnds command old new status.BadInput = (bytes message : List ℕ) × ReadInput command old new bytes
    × Refuses command bytes message × (new.out ≡ old.out) × Tells old.err new.err message
CommandEnds command old new status.ReadFault = Rose old.source.faults new.source.faults
    × (new.out ≡ old.out) × Tells old.err new.err (message_of status.ReadFault)
CommandEnds command old new status.TooLong =
    (ReadTooMany old.source.bytes new.source.bytes
    ⊎ ((bytes : List ℕ) × ReadWhole old.source.bytes new.source.bytes bytes × (length bytes ≤ input_limit) × (¬ HasFewLines command bytes)))
    × (new.out ≡ old.out) × Tells old.err new.err (message_of status.TooLong)
CommandEnds command old new status.NoMemory =
    ((new.out ≡ old.out)
    ⊎ ((bytes output : List ℕ) × ReadInput command old new bytes × Answers command bytes output × Writes old.out new.out output put.NoMemory))
    × Tells old.err new.err (message_of status.NoMemory)
CommandEnds command old new status.Usage = ⊥

-- Nothing is read, and the error output gets the status's message.
abbrev pub EndsUnread : Streams → Streams → Status → Type 0
EndsUnread old new end = (new.source ≡ old.source) × (new.out ≡ old.out) × Tells old.err new.err (message_of end)

-- The words ask for a command, which ends so; or they are those of no command, and nothing is read; or memory ran
-- out while they were read.
abbrev pub Ends : List (List ℕ) → Streams → Streams → Status → Type 0
Ends words old new end =
    ((command : Command) × Asks words command × CommandEnds command old new end)
    ⊎ (((((command : Command) → ¬ Asks words command) × (end ≡ status.Usage)) ⊎ (end ≡ status.NoMemory)) × EndsUnread old new end)

-- What became of an outcome: the output in one write, or what is told of it.
abbrev pub Delivers : Outcome → Told → Told → Told → Told → Status → Type 0
Delivers (Output text) out new_out err new_err status.Done = Writes out new_out text put.Done × (new_err ≡ err)
Delivers (Output text) out new_out err new_err status.WriteFault = Writes out new_out text put.Failed × Tells err new_err (message_of status.WriteFault)
Delivers (Output text) out new_out err new_err status.NoMemory = Writes out new_out text put.NoMemory × Tells err new_err (message_of status.NoMemory)
Delivers (Output text) out new_out err new_err status.Usage = ⊥
Delivers (Output text) out new_out err new_err status.BadInput = ⊥
Delivers (Output text) out new_out err new_err status.ReadFault = ⊥
Delivers (Output text) out new_out err new_err status.TooLong = ⊥
Delivers (Refused message) out new_out err new_err end = (end ≡ status.BadInput) × (new_out ≡ out) × Tells err new_err message
Delivers TooLong out new_out err new_err end = (end ≡ status.TooLong) × (new_out ≡ out) × Tells err new_err (message_of status.TooLong)
Delivers NoMemory out new_out err new_err end = (end ≡ status.NoMemory) × (new_out ≡ out) × Tells err new_err (message_of status.NoMemory)
