-- A connection with both its ends, and what is on its way from the one to the other.
use Rattle.std.specs.Prelude.{ℕ, List, ◌++◌, take}
use Rattle.kn_frames.specs.Readers.{after_bytes}
use Rattle.kn_h2_state.specs.declared.state.State.{State}
use Rattle.kn_h2_state.specs.Feeding.{Connection, after_piece}
use Rattle.kn_h2_state.specs.Calls.{after_took}
use Rattle.kn_h2_state.specs.Wire.{IsBetweenFrames}

-- one way of a connection: the end that it comes to, the bytes on their way, and the end that they are from
pub record Way : Type 0 where
  pub to : Connection
  pub pipe : List ℕ
  pub from : Connection

-- what one end has still to read of the other: first what is on its way, then what waits at the other
abbrev pub wire : Way → List ℕ
wire w = w.pipe ++ w.from.state.out.bytes

-- once all that is on the wire was read, a frame begins
abbrev pub IsWhole : Way → Type 0
IsWhole w = IsBetweenFrames (after_bytes w.to.cutter (wire w))

-- ---- steps of one way

-- the first bytes of what is on its way come to the end
abbrev pub delivered : List ℕ → List ℕ → Way → Way
delivered piece rest w = record w { to = after_piece w.to piece; pipe = rest }

-- what waits at the other end goes on its way
abbrev pub entered : ℕ → Way → Way
entered count w = record w { pipe = w.pipe ++ take count w.from.state.out.bytes; from = record w.from { state = after_took count w.from.state } }

-- the state of the end that writes changes
abbrev pub with_from : (State → State) → Way → Way
with_from f w = record w { from = record w.from { state = f w.from.state } }
