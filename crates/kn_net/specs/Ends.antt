-- How a program that uses the network may end, with its status and what is told on the error output.
use Rattle.std.specs.Prelude.{◌≡◌, ℕ, List, [], ◌∷◌, ◌++◌, codes}
use Rattle.kn_net.specs.Told.{Told, Tells}
use Rattle.kn_net.specs.declared.end.End.{End}
use Rattle.kn_net.specs.declared.end.End.TheVariants.{Done, Usage, NoMemory, CannotListen, WaitFault, ServerLost, TurnBound}

abbrev pub number_of : End → ℕ
number_of Done = 0
number_of Usage = 2
number_of NoMemory = 7
number_of CannotListen = 8
number_of WaitFault = 9
number_of ServerLost = 10
number_of TurnBound = 11

-- a line of its own for each, but for the one that all went well
unfoldable pub message_of : End → List ℕ
message_of Done = []
message_of Usage = codes "kn: usage" ++ 10 ∷ []
message_of NoMemory = codes "kn: no memory" ++ 10 ∷ []
message_of CannotListen = codes "kn: cannot listen" ++ 10 ∷ []
message_of WaitFault = codes "kn: wait fault" ++ 10 ∷ []
message_of ServerLost = codes "kn: server lost" ++ 10 ∷ []
message_of TurnBound = codes "kn: turn bound" ++ 10 ∷ []

-- the error output gets the end's message, and nothing where all went well
abbrev pub TellsEnd : End → Told → Told → Type 0
TellsEnd Done old new = new ≡ old
TellsEnd Usage old new = Tells old new (message_of Usage)
TellsEnd NoMemory old new = Tells old new (message_of NoMemory)
TellsEnd CannotListen old new = Tells old new (message_of CannotListen)
TellsEnd WaitFault old new = Tells old new (message_of WaitFault)
TellsEnd ServerLost old new = Tells old new (message_of ServerLost)
TellsEnd TurnBound old new = Tells old new (message_of TurnBound)
