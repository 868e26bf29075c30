-- The statuses of a plain command: their numbers, and what is told of them on the error output.
use Rattle.std.specs.Prelude.{ℕ, List, [], ◌∷◌, ◌++◌, codes}
use Rattle.kn_cmd.specs.declared.status.Status.{Status}
use Rattle.kn_cmd.specs.declared.status.Status.TheVariants.{Done, Usage, BadInput, ReadFault, WriteFault, TooLong, NoMemory}

abbrev pub number_of : Status → ℕ
number_of Done = 0
number_of Usage = 2
number_of BadInput = 3
number_of ReadFault = 4
number_of WriteFault = 5
number_of TooLong = 6
number_of NoMemory = 7

-- a line of its own for each fault; that of a bad input names the place, and stands with the command
unfoldable pub message_of : Status → List ℕ
message_of Done = []
message_of Usage = codes "kn: usage" ++ 10 ∷ []
message_of BadInput = []
message_of ReadFault = codes "kn: read fault" ++ 10 ∷ []
message_of WriteFault = codes "kn: write fault" ++ 10 ∷ []
message_of TooLong = codes "kn: input too long" ++ 10 ∷ []
message_of NoMemory = codes "kn: no memory" ++ 10 ∷ []
