-- Frames as they are spelled (RFC 9113, section 4.1), and the stream of one direction (section 3.4).
use Rattle.std.specs.Prelude.{◌≡◌, ℕ, ◌+◌, ◌*◌, ◌%◌, ◌<◌, ◌≤◌, ◌⊎◌, Bool, true, false, List, [], ◌∷◌, ◌++◌, length, drop, slice_index}
use Rattle.std.specs.Int.{to_be_bytes, w32}
use Rattle.std.specs.List.{AllByRecursion}
use Rattle.kn_frames.specs.declared.frame.Frame.{Frame}

-- what a head of nine bytes says: the length in three bytes, the highest first
unfoldable pub length_of : List ℕ → ℕ
length_of head = slice_index head 0 * 65536 + slice_index head 1 * 256 + slice_index head 2

-- the stream in four bytes, without the reserved bit at their top
unfoldable pub stream_of : List ℕ → ℕ
stream_of head = (slice_index head 5 % 128) * 16777216 + slice_index head 6 * 65536 + slice_index head 7 * 256 + slice_index head 8

-- the frame that a head and its payload are
abbrev pub frame_of : List ℕ → List ℕ → Frame
frame_of head payload = record { kind = slice_index head 3; flags = slice_index head 4; stream = stream_of head; payload = payload }

-- a head of nine bytes that says the frame, and its payload of at most 16,384 bytes
pub record IsSpelling (f : Frame) (text : List ℕ) : Type 0 where
  pub len : length text ≡ 9 + length_of text
  pub small : length_of text ≤ 16384
  pub frame : frame_of text (drop 9 text) ≡ f

-- what a frame that was cut keeps to: its payload has at most 16,384 bytes, its stream 31 bits
pub record IsWithinLimits (f : Frame) : Type 0 where
  pub payload : length f.payload ≤ 16384
  pub stream : f.stream < 2147483648

-- frames were added within the limits
abbrev pub KeepsLimits : List Frame → List Frame → Type 0
KeepsLimits before after = AllByRecursion IsWithinLimits before → AllByRecursion IsWithinLimits after

-- the front of a frame that is not whole
abbrev pub IsPartialFrame : List ℕ → Type 0
IsPartialFrame rest = (f : Frame) × (more : List ℕ) × IsSpelling f (rest ++ more) × (0 < length more)

-- the bytes are the join of the frames' spellings, and a rest that is a partial frame
abbrev pub Spells : List ℕ → List Frame → List ℕ → Type 0
Spells bytes [] rest = (bytes ≡ rest) × IsPartialFrame rest
Spells bytes (f ∷ fs) rest = (text : List ℕ) × (more : List ℕ) × (bytes ≡ text ++ more) × IsSpelling f text × Spells more fs rest

-- no frame stands at the front of these bytes, whatever follows them
abbrev pub BeginsNoFrame : List ℕ → Type 0
BeginsNoFrame bytes = (f : Frame) (text after more : List ℕ) → IsSpelling f text → text ++ after ≡ bytes ++ more → ⊥

-- the 24 bytes that a client sends first: PRI * HTTP/2.0, two line ends, SM, two line ends
unfoldable pub preface : List ℕ
preface = 80 ∷ 82 ∷ 73 ∷ 32 ∷ 42 ∷ 32 ∷ 72 ∷ 84 ∷ 84 ∷ 80 ∷ 47 ∷ 50 ∷ 46 ∷ 48 ∷ 13 ∷ 10 ∷ 13 ∷ 10 ∷ 83 ∷ 77 ∷ 13 ∷ 10 ∷ 13 ∷ 10 ∷ []

-- the front of the preface, but not all of it
abbrev pub IsPartialPreface : List ℕ → Type 0
IsPartialPreface rest = (more : List ℕ) × (rest ++ more ≡ preface) × (0 < length more)

-- The bytes of one direction so far: frames and a partial frame, and from a client the preface before them.
abbrev pub IsStream : Bool → List ℕ → List Frame → List ℕ → Type 0
IsStream false bytes fs rest = Spells bytes fs rest
IsStream true bytes fs rest = ((bytes ≡ rest) × (fs ≡ []) × IsPartialPreface rest)
    ⊎ ((more : List ℕ) × (bytes ≡ preface ++ more) × Spells more fs rest)

-- whole frames, and from a client the preface before them
abbrev pub AreFrames : Bool → List ℕ → List Frame → Type 0
AreFrames false bytes fs = Spells bytes fs []
AreFrames true bytes fs = (more : List ℕ) × (bytes ≡ preface ++ more) × Spells more fs []

-- how many bytes frames take
abbrev pub spelled_length : List Frame → ℕ
spelled_length [] = 0
spelled_length (f ∷ fs) = 9 + length f.payload + spelled_length fs

-- the nine bytes of a head, as they are written: the reserved bit is 0
unfoldable pub head : ℕ → ℕ → ℕ → ℕ → List ℕ
head kind flags stream len = drop 1 (to_be_bytes w32 len) ++ kind ∷ flags ∷ to_be_bytes w32 stream

-- a frame as it is written
abbrev pub spelled : ℕ → ℕ → ℕ → List ℕ → List ℕ
spelled kind flags stream payload = head kind flags stream (length payload) ++ payload
