-- The frames with which an end answers those of its peer, each named.
use Rattle.std.specs.Prelude.{◌≡◌, ◌≢◌, ℕ, ◌==◌, nat_le, nat_lt, Bool, false, not, ◌&&◌, ◌||◌, List, [], ◌∷◌, ◌++◌, Option, Some, None, is_some, Result, Ok, Err, if◌then◌else◌}
use Rattle.std.specs.List.{AllByRecursion}
use Rattle.kn_frames.specs.declared.frame.Frame.{Frame}
use Rattle.kn_frames.specs.declared.fault.FrameFault.{FrameFault}
use Rattle.kn_frames.specs.Frames.{IsWithinLimits}
use Rattle.kn_frames.specs.Readers.{frames_in, after_bytes, fault_in}
use Rattle.kn_hpack.specs.Fields.{Field}
use Rattle.kn_hpack.specs.Blocks.{Progress, read_block}
use Rattle.kn_hpack.specs.declared.fault.HpackFault.{HpackFault}
use Rattle.kn_h2_state.specs.declared.stream.Stream.{Stream}
use Rattle.kn_h2_state.specs.declared.state.State.{State}
use Rattle.kn_h2_state.specs.Limits.{stream_limit}
use Rattle.kn_h2_state.specs.Streams.{is_open, stream_at, open_count}
use Rattle.kn_h2_state.specs.Payloads.{has}
use Rattle.kn_h2_state.specs.Heads.{is_malformed_request, is_malformed_response, is_informational}
use Rattle.kn_h2_state.specs.Rules.{is_client, block_with, ends_block, verdict}
use Rattle.kn_h2_state.specs.Effects.{opens, block_ends}
use Rattle.kn_h2_state.specs.Feeding.{Connection, after_frame, after_frames, frame_code, after_piece}
use Rattle.kn_h2_state.specs.Wire.{frame, ends_in}
use Rattle.kn_h2.specs.Written.{Writes, goaway_list, replied, reset_list, Brings}

-- a request that is refused: with REFUSED_STREAM where as many streams are open as may be, with PROTOCOL_ERROR where it is
-- malformed (RFC 9113, sections 5.1.2 and 8.1.1)
abbrev pub request_answer : ℕ → List Field → State → List Frame
request_answer n fields s =
    if nat_le stream_limit (open_count s.streams) then replied (opens n s) (reset_list n 7)
    else (if is_malformed_request fields then replied (opens n s) (reset_list n 1)
    else [])

-- a head on an open stream of a client, which is malformed: no trailers, and no interim response
abbrev pub response_answer : ℕ → Bool → List Field → Stream → State → List Frame
response_answer n ends fields st s =
    if st.answered then []
    else (if is_informational fields && not ends then []
    else (if is_malformed_response fields || is_informational fields then replied s (reset_list n 1)
    else []))

abbrev pub response_answer_at : ℕ → Bool → List Field → Option Stream → State → List Frame
response_answer_at n ends fields None s = []
response_answer_at n ends fields (Some st) s = if is_open st then response_answer n ends fields st s else []

abbrev pub head_answer : ℕ → Bool → List Field → State → List Frame
head_answer n ends fields s =
    if is_client s.role then response_answer_at n ends fields (stream_at s.streams n) s
    else (if nat_lt s.opened n then request_answer n fields s
    else [])

abbrev pub decoded_answer : ℕ → Bool → State → Result Progress HpackFault → List Frame
decoded_answer n ends s (Ok p) = head_answer n ends p.fields s
decoded_answer n ends s (Err e) = []

-- a frame that breaks no rule: the end of a header block, SETTINGS or PING
unfoldable pub kept_answer : State → Frame → List Frame
kept_answer s f =
    if (f.kind == 1) || (f.kind == 9) then (if ends_block f then decoded_answer f.stream (block_ends s.block f) s (read_block s.decoder (block_with s f)) else [])
    else (if f.kind == 4 then (if has f 1 then [] else replied s (frame 4 1 0 [] ∷ []))
    else (if f.kind == 6 then (if has f 1 then [] else replied s (frame 6 1 0 f.payload ∷ []))
    else []))

-- any frame: GOAWAY where it breaks a rule
abbrev pub judged_answer : State → Frame → Option ℕ → List Frame
judged_answer s f (Some code) = goaway_list s code
judged_answer s f None = kept_answer s f

unfoldable pub frame_answer : State → Frame → List Frame
frame_answer s f = if is_some s.failed then [] else judged_answer s f (verdict s f)

abbrev pub FramesWrite : Type 0
FramesWrite = (s : State) (f : Frame) → IsWithinLimits f → Writes s (after_frame s f) (frame_answer s f)

-- An answer brings no text, no grant and no DATA, and ends no other stream than that of the frame.
pub record AnswerBrings (s : State) (f : Frame) (n : ℕ) : Type 0 where
  pub sums : Brings n (frame_answer s f) [] 0 0 (ends_in n (frame_answer s f))
  pub others : f.stream ≢ n → ends_in n (frame_answer s f) ≡ 0

abbrev pub AnswersBring : Type 0
AnswersBring = (s : State) (f : Frame) (n : ℕ) → IsWithinLimits f → AnswerBrings s f n

-- ---- pieces of the peer's bytes

unfoldable pub frames_answer : State → List Frame → List Frame
frames_answer s [] = []
frames_answer s (f ∷ fs) = frame_answer s f ++ frames_answer (after_frame s f) fs

-- bytes that are no frames
abbrev pub fault_answer : State → Option FrameFault → List Frame
fault_answer s None = []
fault_answer s (Some fault) = if is_some s.failed then [] else goaway_list s (frame_code fault.reason)

unfoldable pub piece_answer : Connection → List ℕ → List Frame
piece_answer c piece =
    if is_some c.state.failed then []
    else frames_answer c.state (frames_in c.cutter piece)
    ++ fault_answer (after_frames c.state (frames_in c.cutter piece)) (fault_in (after_bytes c.cutter piece).phase)

abbrev pub PiecesWrite : Type 0
PiecesWrite = (c : Connection) (piece : List ℕ) → (is_some c.state.failed ≡ false → AllByRecursion IsWithinLimits (frames_in c.cutter piece))
    → Writes c.state (after_piece c piece).state (piece_answer c piece)

-- The answer to a piece brings no text, no grant and no DATA, and ends no stream that none of its frames is on.
pub record PieceBrings (c : Connection) (piece : List ℕ) (n : ℕ) : Type 0 where
  pub sums : Brings n (piece_answer c piece) [] 0 0 (ends_in n (piece_answer c piece))
  pub others : AllByRecursion (λ f. f.stream ≢ n) (frames_in c.cutter piece) → ends_in n (piece_answer c piece) ≡ 0

abbrev pub PiecesBring : Type 0
PiecesBring = (c : Connection) (piece : List ℕ) (n : ℕ) → (is_some c.state.failed ≡ false → AllByRecursion IsWithinLimits (frames_in c.cutter piece))
    → PieceBrings c piece n
