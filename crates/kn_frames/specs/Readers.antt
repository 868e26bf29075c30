-- A reader of frames, which is given one byte after another.
use Rattle.std.specs.Prelude.{◌≡◌, ◌≢◌, ◌⊎◌, ℕ, ◌+◌, Bool, true, false, List, [], ◌∷◌, ◌++◌, length, drop, slice_index, min, ◌==◌, nat_le, nat_lt, ◌&&◌, if◌then◌else◌, Option, Some, None, Result, Ok, Err}
use Rattle.kn_frames.specs.declared.frame.Frame.{Frame}
use Rattle.kn_frames.specs.declared.fault.FrameReason.TheVariants.{Preface, TooLong}
use Rattle.kn_frames.specs.declared.fault.FrameFault.{FrameFault}
use Rattle.kn_frames.specs.declared.fault.CutError.{CutError}
use Rattle.kn_frames.specs.declared.fault.CutError.TheVariants.{NoMemory, Fault}
use Rattle.kn_frames.specs.declared.fault.Phase.{Phase}
use Rattle.kn_frames.specs.declared.fault.Phase.TheVariants.{InPreface, InFrames, Failed}
use Rattle.kn_frames.specs.Frames.{length_of, frame_of, preface, IsPartialPreface, AreFrames, BeginsNoFrame}

-- what a reader is in, the bytes of a partial preface or frame, and how many bytes came before these
pub record Reading : Type 0 where
  pub phase : Phase
  pub rest : List ℕ
  pub offset : ℕ

abbrev pub in_frames : List ℕ → ℕ → Reading
in_frames rest offset = record { phase = InFrames; rest = rest; offset = offset }

abbrev pub in_preface : List ℕ → ℕ → Reading
in_preface rest offset = record { phase = InPreface; rest = rest; offset = offset }

abbrev pub failed : FrameFault → ℕ → Reading
failed fault offset = record { phase = Failed fault; rest = []; offset = offset }

-- before the first byte of a stream, which begins with the preface or with a frame
abbrev pub start : Bool → Reading
start true = in_preface [] 0
start false = in_frames [] 0

-- a count that stays at its type's end
abbrev pub count_up : ℕ → ℕ → ℕ
count_up n by = min (n + by) 18446744073709551615

-- the bytes are a whole frame
abbrev pub is_whole : List ℕ → Bool
is_whole bytes = nat_le 9 (length bytes) && (length bytes == 9 + length_of bytes)

-- a head says too much, or will, whatever comes: bytes that did not come yet count as 0
abbrev pub is_too_long : List ℕ → Bool
is_too_long bytes = nat_lt 16384 (length_of bytes)

-- one more byte after these of the preface
abbrev pub preface_byte : List ℕ → ℕ → ℕ → Reading
preface_byte rest offset x =
    if x == slice_index preface (length rest)
    then (if length rest == 23 then in_frames [] (count_up offset 24) else in_preface (rest ++ x ∷ []) offset)
    else failed (record { offset = count_up offset (length rest); reason = Preface }) offset

-- the bytes of a frame so far
abbrev pub frame_bytes : List ℕ → ℕ → Reading
frame_bytes bytes offset =
    if is_too_long bytes then failed (record { offset = offset; reason = TooLong }) offset
    else (if is_whole bytes then in_frames [] (count_up offset (length bytes)) else in_frames bytes offset)

abbrev pub after_byte_in : Phase → Reading → ℕ → Reading
after_byte_in InPreface r x = preface_byte r.rest r.offset x
after_byte_in InFrames r x = frame_bytes (r.rest ++ x ∷ []) r.offset
after_byte_in (Failed fault) r x = r

-- after one more byte
unfoldable pub after_byte : Reading → ℕ → Reading
after_byte r x = after_byte_in r.phase r x

-- the frame that these bytes make whole, if they do
abbrev pub whole_frame : List ℕ → List Frame
whole_frame bytes =
    if is_too_long bytes then [] else (if is_whole bytes then frame_of bytes (drop 9 bytes) ∷ [] else [])

abbrev pub frame_at_in : Phase → Reading → ℕ → List Frame
frame_at_in InPreface r x = []
frame_at_in InFrames r x = whole_frame (r.rest ++ x ∷ [])
frame_at_in (Failed fault) r x = []

-- the frame that one more byte makes whole, if it does
unfoldable pub frame_at : Reading → ℕ → List Frame
frame_at r x = frame_at_in r.phase r x

-- after more bytes
abbrev pub after_bytes : Reading → List ℕ → Reading
after_bytes r [] = r
after_bytes r (x ∷ xs) = after_bytes (after_byte r x) xs

-- the frames that more bytes make whole
abbrev pub frames_in : Reading → List ℕ → List Frame
frames_in r [] = []
frames_in r (x ∷ xs) = frame_at r x ++ frames_in (after_byte r x) xs

-- what holds unless memory ran out
abbrev pub Told : {T : Type 0} → Result T CutError → Type 0 → Type 0
Told (Ok x) P = P
Told (Err NoMemory) P = Unit {0}
Told (Err (Fault f)) P = P

abbrev pub fault_of : Result (Unit {0}) CutError → Option FrameFault
fault_of (Ok x) = None
fault_of (Err NoMemory) = None
fault_of (Err (Fault f)) = Some f

abbrev pub fault_in : Phase → Option FrameFault
fault_in InPreface = None
fault_in InFrames = None
fault_in (Failed f) = Some f

-- Whole frames stand at the front, and no frame begins as the bytes after them do: a head says too
-- much. The fault is at that head.
abbrev pub IsTooLongAfter : Bool → List ℕ → List Frame → FrameFault → Type 0
IsTooLongAfter wants_preface bytes fs fault = (front : List ℕ) × (more : List ℕ) × (bytes ≡ front ++ more)
    × AreFrames wants_preface front fs × BeginsNoFrame more × (fault ≡ record { offset = count_up 0 (length front); reason = TooLong })

-- A byte differs from the preface. The fault is at that byte.
abbrev pub DiffersFromPreface : List ℕ → List Frame → FrameFault → Type 0
DiffersFromPreface bytes fs fault = (front : List ℕ) × (x : ℕ) × (more : List ℕ) × (bytes ≡ front ++ x ∷ more) × (fs ≡ [])
    × IsPartialPreface front × (x ≢ slice_index preface (length front)) × (fault ≡ record { offset = length front; reason = Preface })

-- how the bytes break the format, and where
abbrev pub IsFaultOf : Bool → List ℕ → List Frame → FrameFault → Type 0
IsFaultOf false bytes fs fault = IsTooLongAfter false bytes fs fault
IsFaultOf true bytes fs fault = DiffersFromPreface bytes fs fault ⊎ IsTooLongAfter true bytes fs fault
