-- What a cutter holds, seen as a reading.
use Rattle.std.specs.Prelude.{◌≡◌, ℕ, ◌<◌, ◌≤◌, Bool, List, ◌++◌, length, drop, ◌==◌, nat_le, nat_lt, ◌&&◌, ◌||◌, Result, Ok, Err, Some, None}
use Rattle.kn_frames.specs.declared.state.State.{State}
use Rattle.kn_frames.specs.declared.frame.Frame.{Frame}
use Rattle.kn_frames.specs.declared.fault.CutError.{CutError}
use Rattle.kn_frames.specs.declared.fault.CutError.TheVariants.{NoMemory, Fault}
use Rattle.kn_frames.specs.declared.fault.Phase.{Phase}
use Rattle.kn_frames.specs.declared.fault.Phase.TheVariants.{InPreface, InFrames, Failed}
use Rattle.kn_frames.specs.Frames.{length_of}
use Rattle.kn_frames.specs.Readers.{Reading, after_bytes, frames_in, fault_in}

abbrev pub seen : State → Reading
seen s = record { phase = s.phase; rest = s.front ++ s.body; offset = s.offset }

abbrev pub is_sound_in : Phase → List ℕ → List ℕ → Bool
is_sound_in InPreface front body = nat_lt (length front) 24 && (length body == 0)
is_sound_in InFrames front body = nat_le (length_of front) 16384
    && ((nat_lt (length front) 9 && (length body == 0)) || ((length front == 9) && nat_lt (length body) (length_of front)))
is_sound_in (Failed fault) front body = (length front == 0) && (length body == 0)

-- a payload begins only after a whole head, and neither the preface nor a frame is held whole
abbrev pub is_sound : State → Bool
is_sound s = is_sound_in s.phase s.front s.body

-- A step took the front of a piece, or found a fault: what was read and what is still to be read are
-- together what was to be read.
abbrev pub Takes : Result ℕ CutError → Reading → Reading → List ℕ → List Frame → List Frame → Type 0
Takes (Ok n) old new piece before after = (0 < n) × (n ≤ length piece) × (after_bytes new (drop n piece) ≡ after_bytes old piece)
    × (after ++ frames_in new (drop n piece) ≡ before ++ frames_in old piece) × (fault_in new.phase ≡ None)
Takes (Err NoMemory) old new piece before after = Unit {0}
Takes (Err (Fault f)) old new piece before after = (new ≡ after_bytes old piece) × (after ≡ before ++ frames_in old piece) × (fault_in new.phase ≡ Some f)
