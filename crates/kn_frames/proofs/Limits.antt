-- Frames that keep to their limits.
use Rattle.std.proofs.Common.{List, [], ◌∷◌, ◌++◌}
use Rattle.kn_frames.specs.declared.frame.Frame.{Frame}
use Rattle.kn_frames.specs.Frames.{IsWithinLimits, KeepsLimits}

-- one more frame within the limits
pub keeps_limits : (fs : List Frame) (f : Frame) → IsWithinLimits f → KeepsLimits fs (fs ++ f ∷ [])
keeps_limits [] f h all = (h, tt)
keeps_limits (g ∷ fs) f h all = (all.0, keeps_limits fs f h all.1)
