use Rattle.std.proofs.Common.{◌≡◌, ◌-◌, ◌≤◌, ◌++◌, length, drop, true, None}
use Rattle.kn_frames.specs.Frames.{KeepsLimits}
use Rattle.kn_frames.specs.Readers.{after_bytes, frames_in, fault_in}
use Rattle.kn_frames.specs.Cutters.{seen, is_sound}
use Rattle.kn_frames.proofs.steps.cut.Given as goal

-- what was read and what is still to be read are together the piece
abbrev pub invariant-loop-at : goal.invariant-loop-at
invariant-loop-at l = record {
  within : l.at ≤ length l.piece;
  read : after_bytes (seen l.state) (drop l.at l.piece) ≡ after_bytes (seen l.fn.state) l.piece;
  frames : l.frames.items ++ frames_in (seen l.state) (drop l.at l.piece) ≡ l.fn.frames.items ++ frames_in (seen l.fn.state) l.piece;
  well : fault_in l.state.phase ≡ None;
  sound : is_sound l.state ≡ true;
  limits : KeepsLimits l.fn.frames.items l.frames.items;
}

abbrev pub decreases-loop-at : goal.decreases-loop-at
decreases-loop-at l = length l.piece - l.at
