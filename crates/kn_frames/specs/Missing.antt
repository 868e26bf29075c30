-- How many bytes a reader lacks to the end of what is under way.
use Rattle.std.specs.Prelude.{◌≡◌, ◌⊎◌, ℕ, ◌+◌, ◌-◌, List, [], ◌∷◌, length, drop, nat_lt, if◌then◌else◌}
use Rattle.kn_frames.specs.declared.frame.Frame.{Frame}
use Rattle.kn_frames.specs.declared.fault.Phase.{Phase}
use Rattle.kn_frames.specs.declared.fault.Phase.TheVariants.{InPreface, InFrames, Failed}
use Rattle.kn_frames.specs.Frames.{length_of, frame_of}
use Rattle.kn_frames.specs.Readers.{Reading, in_frames, count_up}

-- of a frame (RFC 9113, section 4.1): what is left of its head of nine bytes, or of its payload
abbrev pub missing_of_frame : List ℕ → ℕ
missing_of_frame bytes = if nat_lt (length bytes) 9 then 9 - length bytes else 9 + length_of bytes - length bytes

abbrev pub missing_in : Phase → List ℕ → ℕ
missing_in InPreface rest = 24 - length rest
missing_in InFrames rest = missing_of_frame rest
missing_in (Failed fault) rest = 1

-- what is left of the preface, of the head or of the payload under way; after a fault each byte stands by itself
unfoldable pub missing : Reading → ℕ
missing r = missing_in r.phase r.rest

-- what a reader comes to with the last byte that was missing, of all bytes of what was under way: the preface is
-- over; or the head is held, and no frame was told; or the frame was told, and nothing is held
abbrev pub Ended : Phase → List ℕ → ℕ → Reading → List Frame → Type 0
Ended InPreface bytes offset after fs = (after ≡ in_frames [] (count_up offset 24)) × (fs ≡ [])
Ended InFrames bytes offset after fs = ((length bytes ≡ 9) × (after ≡ in_frames bytes offset) × (fs ≡ []))
    ⊎ ((after ≡ in_frames [] (count_up offset (length bytes))) × (fs ≡ frame_of bytes (drop 9 bytes) ∷ []))
Ended (Failed fault) bytes offset after fs = fs ≡ []
