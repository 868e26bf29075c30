-- How many bytes of its peer a connection lacks to the end of what is under way.
use Rattle.std.specs.Prelude.{◌≡◌, ◌⊎◌, ℕ, ◌<◌, false, List, [], ◌∷◌, length, None, is_some, if◌then◌else◌}
use Rattle.kn_frames.specs.declared.frame.Frame.{Frame}
use Rattle.kn_frames.specs.Readers.{after_bytes, frames_in, fault_in}
use Rattle.kn_frames.specs.Missing as frames
use Rattle.kn_h2_state.specs.Feeding.{Connection, after_frame, after_fault, after_piece}

-- what is left of the preface, of the head of a frame, or of its payload; once the connection has failed each byte
-- stands by itself
unfoldable pub missing : Connection → ℕ
missing c = if is_some c.state.failed then 1 else frames.missing c.cutter

-- fewer bytes than are missing change nothing but what cuts them, unless a fault is among them
abbrev pub FewerChangeNothing : Type 0
FewerChangeNothing = (c : Connection) (piece : List ℕ) → length piece < missing c →
    (after_piece c piece).state ≡ after_fault c.state (fault_in (after_bytes c.cutter piece).phase)

-- as many as are missing bring one frame, or none
abbrev pub AsManyBringOne : Type 0
AsManyBringOne = (c : Connection) (piece : List ℕ) → is_some c.state.failed ≡ false → 0 < length piece → length piece ≡ missing c →
    fault_in (after_bytes c.cutter piece).phase ≡ None →
    ((frames_in c.cutter piece ≡ []) × ((after_piece c piece).state ≡ c.state))
    ⊎ ((f : Frame) × (frames_in c.cutter piece ≡ f ∷ []) × ((after_piece c piece).state ≡ after_frame c.state f))
