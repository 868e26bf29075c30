-- One running world leads to another by moves of the packet world.
use Rattle.std.specs.Prelude.{List}
use Rattle.kn_packets.specs.Keys.{Keys}
use Rattle.kn_packets.specs.Moves.{Makes, Move}
use Rattle.kn_world.specs.declared.state.State.{State}
use Rattle.kn_refinement.specs.Fits.{Fits}
use Rattle.kn_refinement.specs.Shown.{shown}

-- what a step comes to: its parts fit again, and what it shows is what some moves make of what was shown before
pub record Leads (old new : State) : Type 0 where
  pub fits : Fits new
  pub moves : List Move
  pub made : Makes (shown old) moves (shown new)

-- a step that is made where the parts fit, and the facts on keys hold of what is shown
abbrev pub Steps : (State → State) → Type 0
Steps f = (s : State) → Fits s → Keys (shown s) → Leads s (f s)
