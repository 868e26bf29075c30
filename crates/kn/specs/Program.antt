-- How the whole program may end.
use Rattle.std.specs.Prelude.{◌≡◌, ℕ, Bool, true, false, List, Option, Some, None}
use Rattle.kn_cmd.specs.Run.{Told, Streams, Tells, Writes, Ends}
use Rattle.kn_cmd.specs.Status as plain
use Rattle.kn_cmd.specs.declared.status.Status.{Status}
use Rattle.kn_cmd.specs.declared.status.Status.TheVariants as status
use Rattle.kn_io.specs.declared.sink.Put.{Put}
use Rattle.kn_io.specs.declared.sink.Put.TheVariants as put
use Rattle.kn_net.specs.Ends.{number_of, TellsEnd}
use Rattle.kn_net.specs.Run.{ComesTo}
use Rattle.kn_net.specs.Told as net
use Rattle.kn_net.specs.declared.end.End.{End}
use Rattle.kn_options.specs.Help.{help_of, text_of}
use Rattle.kn_options.specs.Programs.{is_net}
use Rattle.kn_options.specs.declared.help.Help.{Help}

-- what was written of the help, and told of the write
abbrev pub HelpWrote : Put → Told → Told → ℕ → Type 0
HelpWrote put.Done err new_err ended = (ended ≡ 0) × (new_err ≡ err)
HelpWrote put.Failed err new_err ended = (ended ≡ plain.number_of status.WriteFault) × Tells err new_err (plain.message_of status.WriteFault)
HelpWrote put.NoMemory err new_err ended = (ended ≡ plain.number_of status.NoMemory) × Tells err new_err (plain.message_of status.NoMemory)

-- The text of the help went to the output in one write.
abbrev pub HelpEnds : Help → Told → Told → Told → Told → ℕ → Type 0
HelpEnds help out new_out err new_err ended =
    (answer : Put) × Writes out new_out (text_of help) answer × HelpWrote answer err new_err ended

-- what an output tells, as the programs that use the network have it
abbrev pub net_told : Told → net.Told
net_told t = net.told t.faults t.bytes

-- a program that uses the network reads and writes neither of the standard streams
abbrev pub NetworkEnds : List (List ℕ) → Streams → Streams → ℕ → Type 0
NetworkEnds words old new ended = (new.source ≡ old.source) × (new.out ≡ old.out)
    × ((end : End) × (ended ≡ number_of end) × ComesTo words end × TellsEnd end (net_told old.err) (net_told new.err))

abbrev pub CommandOrNetworkEnds : Bool → List (List ℕ) → Streams → Streams → ℕ → Type 0
CommandOrNetworkEnds true words old new ended = NetworkEnds words old new ended
CommandOrNetworkEnds false words old new ended = (end : Status) × (ended ≡ plain.number_of end) × Ends words old new end

abbrev pub EndsBy : Option Help → List (List ℕ) → Streams → Streams → ℕ → Type 0
EndsBy (Some help) words old new ended = (new.source ≡ old.source) × HelpEnds help old.out new.out old.err new.err ended
EndsBy None words old new ended = CommandOrNetworkEnds (is_net words) words old new ended

-- A question about the program is answered, else a program that uses the network runs where the first word is its
-- name, else a plain command.
abbrev pub ProgramEnds : List (List ℕ) → Streams → Streams → ℕ → Type 0
ProgramEnds words old new ended = EndsBy (help_of words) words old new ended
