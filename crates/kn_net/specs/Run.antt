-- How a run of a program that uses the network may end.
use Rattle.std.specs.Prelude.{◌≡◌, ◌⊎◌, ℕ, ◌≤◌, List, length, Option, ⊤}
use Rattle.kn_loop.specs.declared.turn.Turn.{Turn}
use Rattle.kn_loop.specs.declared.turn.Turn.TheVariants as turn
use Rattle.kn_net.specs.declared.end.End.{End}
use Rattle.kn_net.specs.declared.end.End.TheVariants as end
use Rattle.kn_options.specs.Asked.{Asks}
use Rattle.kn_options.specs.declared.options.Options.{Options}
use Rattle.kn_options.specs.declared.options.Options.TheVariants as options
use Rattle.kn_port.specs.Answers.{Failing}
use Rattle.kn_port.specs.declared.entry.Entry.{Entry}
use Rattle.kn_serve.specs.Programs.{ServerRuns, AgentRuns, ClientRuns}

-- the address of a client's destination is one that an agent can be asked for
abbrev pub HasShortAddress : Options → Type 0
HasShortAddress (options.Server o) = ⊤
HasShortAddress (options.Agent o) = ⊤
HasShortAddress (options.Client o) = length o.address ≤ 1048576

-- the program of these options made its turns, and the last one had this answer
abbrev pub ProgramRuns : Options → Option (List Entry) → Option (List Entry) → Turn → Type 0
ProgramRuns (options.Server o) told0 told1 answer = ServerRuns o told0 told1 answer
ProgramRuns (options.Agent o) told0 told1 answer = AgentRuns o told0 told1 answer
ProgramRuns (options.Client o) told0 told1 answer = ClientRuns o told0 told1 answer

-- what a port tells at a moment: its count of faults, and its journal
pub record Network : Type 0 where
  pub faults : ℕ
  pub told : Option (List Entry)

abbrev pub network : ℕ → Option (List Entry) → Network
network faults told = record { faults = faults; told = told }

-- Its turns were made, and the last one's answer brings this end.
abbrev pub Finishes : Options → Option (List Entry) → Option (List Entry) → End → Type 0
Finishes o told0 told1 end.Done = ProgramRuns o told0 told1 turn.Done
Finishes o told0 told1 end.Usage = ⊥
Finishes o told0 told1 end.NoMemory = ProgramRuns o told0 told1 turn.NoMemory
Finishes o told0 told1 end.CannotListen = ProgramRuns o told0 told1 turn.BindFault
Finishes o told0 told1 end.WaitFault = ProgramRuns o told0 told1 turn.WaitFault
Finishes o told0 told1 end.ServerLost = ProgramRuns o told0 told1 turn.ServerLost
Finishes o told0 told1 end.TurnBound = ProgramRuns o told0 told1 turn.Bound

-- the count of faults never falls; the program ends as it could not listen, or as the wait failed, only where it rose
abbrev pub EndCounts : End → ℕ → ℕ → Type 0
EndCounts end.Done before after = before ≤ after
EndCounts end.Usage before after = before ≤ after
EndCounts end.NoMemory before after = before ≤ after
EndCounts end.CannotListen before after = Failing before after
EndCounts end.WaitFault before after = Failing before after
EndCounts end.ServerLost before after = before ≤ after
EndCounts end.TurnBound before after = before ≤ after

-- the program of these options made its turns up to a last one
pub record Runs (o : Options) (old new : Network) (ended : End) : Type 0 where
  pub turns : Finishes o old.told new.told ended
  pub faults : EndCounts ended old.faults new.faults

-- The words ask for a program, which runs to this end; or they are those of none, and nothing is done; or memory ran out
-- while they were read.
abbrev pub Comes : List (List ℕ) → Network → Network → End → Type 0
Comes words old new ended =
    ((o : Options) × Asks words o × Runs o old new ended)
    ⊎ (((((o : Options) → ¬ Asks words o) × (ended ≡ end.Usage)) ⊎ (ended ≡ end.NoMemory)) × (new ≡ old))

-- the same over some port
abbrev pub ComesTo : List (List ℕ) → End → Type 0
ComesTo words ended = (old : Network) × (new : Network) × Comes words old new ended
