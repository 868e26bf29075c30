-- A connection with both its ends and the bytes between them.
use Rattle.std.specs.Prelude.{◌≡◌, ℕ, List, [], ◌++◌, take}
use Rattle.std.specs.List.{AllByRecursion}
use Rattle.kn_frames.specs.declared.frame.Frame.{Frame}
use Rattle.kn_frames.specs.Frames.{IsWithinLimits}
use Rattle.kn_h2_state.specs.declared.role.Role.TheVariants.{Server, Client}
use Rattle.kn_h2_state.specs.declared.state.State.{State}
use Rattle.kn_h2_state.specs.Feeding.{Connection, after_piece}
use Rattle.kn_h2_state.specs.Calls.{fresh, after_took}
use Rattle.kn_h2_state.specs.Wire.{spellings}
use Rattle.kn_facing.specs.Ways.{Way, IsWhole}
use Rattle.kn_facing.specs.Facing.{coming}
use Rattle.kn_facing.specs.Faces.{Faces}

-- from the end a to the end b
abbrev pub way : Connection → List ℕ → Connection → Way
way a pipe b = record { to = b; pipe = pipe; from = a }

-- The ends a and b face each other over the bytes from a to b, and those from b to a: these are whole frames, with what
-- waits at their writers.
pub record Facing (a b : Connection) (ab ba : List ℕ) : Type 0 where
  pub whole_ab : IsWhole (way a ab b)
  pub whole_ba : IsWhole (way b ba a)
  pub faces : Faces a.state b.state (coming (way a ab b)) (coming (way b ba a))

-- whichever is named first
abbrev pub FacingTurns : Type 0
FacingTurns = (a b : Connection) (ab ba : List ℕ) → Facing a b ab ba → Facing b a ba ab

-- a client's end and a server's, before anything goes on its way
abbrev pub FacingBegins : Type 0
FacingBegins = Facing (fresh Client) (fresh Server) [] []

-- a piece of what is on its way is delivered
abbrev pub PiecesKeepFacing : Type 0
PiecesKeepFacing = (a b : Connection) (ab ba piece rest : List ℕ) → Facing a b ab ba → ab ≡ piece ++ rest → Facing a (after_piece b piece) rest ba

abbrev pub with_state : State → Connection → Connection
with_state s c = record c { state = s }

-- what waits at an end goes on its way
abbrev pub EntersKeepFacing : Type 0
EntersKeepFacing = (a b : Connection) (ab ba : List ℕ) (count : ℕ) → Facing a b ab ba → Facing (with_state (after_took count a.state) a) b (ab ++ take count a.state.out.bytes) ba

-- a step of an end's own that leaves them facing each other, and writes these frames
abbrev pub StepsKeepFacing : Type 0
StepsKeepFacing = (a b : Connection) (ab ba : List ℕ) (t : State) (fs : List Frame) → Facing a b ab ba → Faces t b.state (coming (way a ab b) ++ fs) (coming (way b ba a))
    → AllByRecursion IsWithinLimits fs → t.out.bytes ≡ a.state.out.bytes ++ spellings fs → Facing (with_state t a) b ab ba
