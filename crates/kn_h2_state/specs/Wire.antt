-- What is on its way from one end to the other: the frames that are written, and what they bring.
use Rattle.std.specs.Prelude.{◌≡◌, ℕ, zero, suc, ◌+◌, ◌<◌, ◌^◌, ◌==◌, nat_le, Bool, true, ◌&&◌, ◌||◌, List, [], ◌∷◌, ◌++◌, length, take, drop, Option, Some, None, if◌then◌else◌}
use Rattle.std.specs.Int.{to_be_bytes, w32}
use Rattle.std.specs.List.{AllByRecursion}
use Rattle.kn_frames.specs.declared.frame.Frame.{Frame}
use Rattle.kn_frames.specs.Frames.{spelled, IsWithinLimits}
use Rattle.kn_frames.specs.Readers.{Reading, in_frames, after_bytes, frames_in}
use Rattle.kn_hpack.specs.Fields.{Field}
use Rattle.kn_hpack.specs.Encoding.{block_of}
use Rattle.kn_h2_state.specs.declared.moves.Move.{Move}
use Rattle.kn_h2_state.specs.declared.moves.Move.TheVariants.{GrantAll, Grant, Send, End, Stop}
use Rattle.kn_h2_state.specs.declared.stream.Stream.{Stream}
use Rattle.kn_h2_state.specs.declared.state.State.{State}
use Rattle.kn_h2_state.specs.Limits.{frame_limit}
use Rattle.kn_h2_state.specs.Streams.{stream_at}
use Rattle.kn_h2_state.specs.Payloads.{has, content, increment_of}
use Rattle.kn_h2_state.specs.Rules.{is_client}
use Rattle.kn_h2_state.specs.Feeding.{after_frame}
use Rattle.kn_h2_state.specs.Moves.{may, target, after_move, headers_frames}
use Rattle.kn_h2_state.specs.Calls.{text_of, queue_of}
use Rattle.kn_h2_state.specs.Holding.{Holds}

-- ---- what frames bring to a stream

-- the text that a frame brings to a stream, where that is open
unfoldable pub frame_text : ℕ → Frame → List ℕ
frame_text n f = if (f.kind == 0) && (f.stream == n) then content f else []

unfoldable pub texts_in : ℕ → List Frame → List ℕ
texts_in n [] = []
texts_in n (f ∷ fs) = frame_text n f ++ texts_in n fs

-- the text of a stream in bytes that a reader is about to read
abbrev pub wire_text : ℕ → Reading → List ℕ → List ℕ
wire_text n r bytes = texts_in n (frames_in r bytes)

-- by how much a frame grants the window of a stream, or of the connection as stream 0
unfoldable pub frame_grant : ℕ → Frame → ℕ
frame_grant n f = if (f.kind == 8) && (f.stream == n) then increment_of f.payload else 0

unfoldable pub grants_in : ℕ → List Frame → ℕ
grants_in n [] = 0
grants_in n (f ∷ fs) = frame_grant n f + grants_in n fs

abbrev pub wire_grants : ℕ → Reading → List ℕ → ℕ
wire_grants n r bytes = grants_in n (frames_in r bytes)

-- what a frame takes of the window of a stream: DATA with its padding
unfoldable pub data_length : ℕ → Frame → ℕ
data_length n f = if (f.kind == 0) && (f.stream == n) then length f.payload else 0

unfoldable pub data_lengths_in : ℕ → List Frame → ℕ
data_lengths_in n [] = 0
data_lengths_in n (f ∷ fs) = data_length n f + data_lengths_in n fs

abbrev pub wire_data : ℕ → Reading → List ℕ → ℕ
wire_data n r bytes = data_lengths_in n (frames_in r bytes)

-- what a frame takes of the window of the connection: DATA with its padding, on whichever stream
unfoldable pub any_data_length : Frame → ℕ
any_data_length f = if f.kind == 0 then length f.payload else 0

unfoldable pub all_data_in : List Frame → ℕ
all_data_in [] = 0
all_data_in (f ∷ fs) = any_data_length f + all_data_in fs

abbrev pub wire_all_data : Reading → List ℕ → ℕ
wire_all_data r bytes = all_data_in (frames_in r bytes)

-- a frame ends the sender's half of a stream: END_STREAM, or RST_STREAM
unfoldable pub is_end : ℕ → Frame → Bool
is_end n f = (f.stream == n) && ((nat_le f.kind 1 && has f 1) || (f.kind == 3))

unfoldable pub ends_in : ℕ → List Frame → ℕ
ends_in n [] = 0
ends_in n (f ∷ fs) = (if is_end n f then 1 else 0) + ends_in n fs

abbrev pub wire_ends : ℕ → Reading → List ℕ → ℕ
wire_ends n r bytes = ends_in n (frames_in r bytes)

-- the sums of joined bytes are those of the parts, from any reader
pub record WireSplits (n : ℕ) (r : Reading) (xs ys : List ℕ) : Type 0 where
  pub text : wire_text n r (xs ++ ys) ≡ wire_text n r xs ++ wire_text n (after_bytes r xs) ys
  pub grants : wire_grants n r (xs ++ ys) ≡ wire_grants n r xs + wire_grants n (after_bytes r xs) ys
  pub taken : wire_data n r (xs ++ ys) ≡ wire_data n r xs + wire_data n (after_bytes r xs) ys
  pub ends : wire_ends n r (xs ++ ys) ≡ wire_ends n r xs + wire_ends n (after_bytes r xs) ys

-- and so of the DATA of all streams together
abbrev pub AllDataSplits : Type 0
AllDataSplits = (r : Reading) (xs ys : List ℕ) → wire_all_data r (xs ++ ys) ≡ wire_all_data r xs + wire_all_data (after_bytes r xs) ys

-- frames that bring no stream DATA bring none
abbrev pub NoneOfEachIsNone : Type 0
NoneOfEachIsNone = (fs : List Frame) → ((n : ℕ) → data_lengths_in n fs ≡ 0) → all_data_in fs ≡ 0

-- ---- what is written are frames

abbrev pub frame : ℕ → ℕ → ℕ → List ℕ → Frame
frame kind flags stream payload = record { kind = kind; flags = flags; stream = stream; payload = payload }

-- these frames as they are written, one behind the other
unfoldable pub spellings : List Frame → List ℕ
spellings [] = []
spellings (f ∷ fs) = spelled f.kind f.flags f.stream f.payload ++ spellings fs

-- a reader stands between two frames
abbrev pub IsBetweenFrames : Reading → Type 0
IsBetweenFrames r = (offset : ℕ) × (r ≡ in_frames [] offset)

-- Frames within the limits are read back as they were written, by a reader between two frames, which then stands so again.
pub record ReadsBack (fs : List Frame) (r : Reading) : Type 0 where
  pub frames : frames_in r (spellings fs) ≡ fs
  pub state : IsBetweenFrames (after_bytes r (spellings fs))

abbrev pub WrittenIsRead : Type 0
WrittenIsRead = (fs : List Frame) (r : Reading) → AllByRecursion IsWithinLimits fs → IsBetweenFrames r → ReadsBack fs r

-- ---- header blocks

unfoldable pub more_list : ℕ → ℕ → List ℕ → List Frame
more_list zero n block = []
more_list (suc fuel) n block =
    if nat_le (length block) frame_limit then frame 9 4 n block ∷ []
    else frame 9 0 n (take frame_limit block) ∷ more_list fuel n (drop frame_limit block)

-- the frames of a header block: HEADERS, and CONTINUATION where it is long
unfoldable pub head_list : ℕ → ℕ → List ℕ → List Frame
head_list n flags block =
    if nat_le (length block) frame_limit then frame 1 (flags + 4) n block ∷ []
    else frame 1 flags n (take frame_limit block) ∷ more_list (length block) n (drop frame_limit block)

-- the payloads of frames, joined
unfoldable pub payloads : List Frame → List ℕ
payloads [] = []
payloads (f ∷ fs) = f.payload ++ payloads fs

-- A header block is written as these frames, whose payloads are the block (RFC 9113, section 4.3).
pub record HeadIsWritten (n flags : ℕ) (block : List ℕ) : Type 0 where
  pub written : headers_frames n flags block ≡ spellings (head_list n flags block)
  pub whole : payloads (head_list n flags block) ≡ block
  pub limits : n < 2 ^ 31 → AllByRecursion IsWithinLimits (head_list n flags block)

-- ---- moves

abbrev pub end_list : State → ℕ → Option (List Field) → List Frame
end_list s n None = []
end_list s n (Some trailers) = if is_client s.role then frame 0 1 n [] ∷ [] else head_list n 1 (block_of s.encoder trailers)

abbrev pub made_frames : State → Move → Option Stream → List Frame
made_frames s GrantAll found = frame 8 0 0 (to_be_bytes w32 s.owed) ∷ []
made_frames s (Grant n) None = []
made_frames s (Grant n) (Some st) = frame 8 0 n (to_be_bytes w32 st.owed) ∷ []
made_frames s (Send n count) None = []
made_frames s (Send n count) (Some st) = frame 0 0 n (take count st.queue) ∷ []
made_frames s (End n) None = []
made_frames s (End n) (Some st) = end_list s n st.finish
made_frames s (Stop n) None = []
made_frames s (Stop n) (Some st) = frame 3 0 n (to_be_bytes w32 0) ∷ []

-- the frames that a move writes
unfoldable pub move_frames : State → Move → List Frame
move_frames s m = made_frames s m (stream_at s.streams (target m))

-- the first bytes of a stream's queue, where a move sends them
abbrev pub moved_text : ℕ → State → Move → List ℕ
moved_text n s GrantAll = []
moved_text n s (Grant k) = []
moved_text n s (Send k count) = if k == n then take count (queue_of s n) else []
moved_text n s (End k) = []
moved_text n s (Stop k) = []

-- A move appends its frames to what waits for the socket; they are within the limits, and bring the text that it sends.
pub record MoveIsWritten (s : State) (m : Move) : Type 0 where
  pub written : (after_move s m).out.bytes ≡ s.out.bytes ++ spellings (move_frames s m)
  pub limits : AllByRecursion IsWithinLimits (move_frames s m)
  pub text : (n : ℕ) → texts_in n (move_frames s m) ≡ moved_text n s m

abbrev pub MovesAreWritten : Type 0
MovesAreWritten = (s : State) (m : Move) → Holds s → may s m ≡ true → MoveIsWritten s m

-- ---- a list of frames that comes

-- each of these frames adds to the stream what it brings to it
unfoldable pub Hears : ℕ → State → List Frame → Type 0
Hears n s [] = Unit {0}
Hears n s (f ∷ fs) = (text_of (after_frame s f) n ≡ text_of s n ++ frame_text n f) × Hears n (after_frame s f) fs

-- ---- what a frame is answered with

-- RST_STREAM, SETTINGS, PING or GOAWAY
abbrev pub is_answer_kind : ℕ → Bool
is_answer_kind kind = (kind == 3) || (kind == 4) || (kind == 6) || (kind == 7)

pub record IsAnswer (f : Frame) : Type 0 where
  pub limits : IsWithinLimits f
  pub kind : is_answer_kind f.kind ≡ true

-- such frames were appended to what waits for the socket, and nothing else
pub record Answers (s t : State) : Type 0 where
  pub frames : List Frame
  pub written : t.out.bytes ≡ s.out.bytes ++ spellings frames
  pub answers : AllByRecursion IsAnswer frames

abbrev pub FramesAreAnswered : Type 0
FramesAreAnswered = (s : State) (f : Frame) → IsWithinLimits f → Answers s (after_frame s f)
