-- What turns come to in the packet world.
use Rattle.std.specs.Prelude.{List}
use Rattle.kn_route.specs.declared.strategy.Strategy.{Strategy}
use Rattle.kn_packets.specs.Keys.{Keys}
use Rattle.kn_packets.specs.Moves.{Makes, Move}
use Rattle.kn_packets.specs.Moves as packets
use Rattle.kn_world.specs.declared.state.State.{State}
use Rattle.kn_world.specs.States as running
use Rattle.kn_refinement.specs.Fits.{Fits}
use Rattle.kn_refinement.specs.Leads.{Leads}
use Rattle.kn_refinement.specs.Shown.{shown}
use Rattle.kn_turns.specs.Turns.{MayTurn, Turn, Turns, turned}

-- one turn leads by moves from what is shown to what is shown
abbrev pub TurnsLead : Type 0
TurnsLead = (t : Turn) (s : State) → MayTurn t s → Fits s → Keys (shown s) → Leads s (turned t s)

-- so do several
abbrev pub RunsLead : Type 0
RunsLead = (ts : List Turn) (s t : State) → Turns ts s t → Fits s → Keys (shown s) → Leads s t

-- and from the start on nothing else is asked
abbrev pub StartsLead : Type 0
StartsLead = (strategies : List Strategy) (ts : List Turn) (s : State) → Turns ts (running.start strategies) s → Fits s × Keys (shown s) × (moves : List Move) × Makes (packets.start strategies) moves (shown s)
