-- What an end writes: whole frames, named for each call, and what their bytes bring to a stream.
use Rattle.std.specs.Prelude.{◌≡◌, ℕ, ◌+◌, ◌-◌, ◌==◌, nat_lt, Bool, true, List, [], ◌∷◌, ◌++◌, length, None, if◌then◌else◌}
use Rattle.std.specs.Int.{to_be_bytes, w32}
use Rattle.std.specs.List.{AllByRecursion}
use Rattle.kn_frames.specs.declared.frame.Frame.{Frame}
use Rattle.kn_frames.specs.Frames.{preface, IsWithinLimits}
use Rattle.kn_frames.specs.Readers.{Reading, after_bytes}
use Rattle.kn_hpack.specs.Fields.{Field}
use Rattle.kn_hpack.specs.Encoding.{block_of}
use Rattle.kn_h2_state.specs.declared.role.Role.{Role}
use Rattle.kn_h2_state.specs.declared.role.Role.TheVariants.{Server, Client}
use Rattle.kn_h2_state.specs.declared.moves.Move.{Move}
use Rattle.kn_h2_state.specs.declared.moves.Move.TheVariants.{GrantAll, Grant, Send, End, Stop}
use Rattle.kn_h2_state.specs.declared.state.State.{State}
use Rattle.kn_h2_state.specs.Limits.{default_window, connection_window, stream_limit, list_limit, reply_limit}
use Rattle.kn_h2_state.specs.Outgoing.{reply_bytes}
use Rattle.kn_h2_state.specs.Streams.{stream_at}
use Rattle.kn_h2_state.specs.Payloads.{setting_text}
use Rattle.kn_h2_state.specs.Effects.{highest_of_peer}
use Rattle.kn_h2_state.specs.Moves.{may, after_move, Makes}
use Rattle.kn_h2_state.specs.Calls.{opening, next_number, begin_refusal, after_begin, takes_more, refusal, after_take, after_queue, after_finish, after_answer, after_reset}
use Rattle.kn_h2_state.specs.Holding.{Holds}
use Rattle.kn_h2_state.specs.Wire.{wire_text, wire_grants, wire_data, wire_ends, frame, spellings, IsBetweenFrames, head_list, move_frames, moved_text}
use Rattle.kn_h2.specs.Finding.{owed_in}
use Rattle.kn_h2.specs.Sending.{sent}

-- ---- frames that are appended

-- the frames were appended to what waits for the socket, and are within the limits of what is read back
pub record Writes (s t : State) (fs : List Frame) : Type 0 where
  pub written : t.out.bytes ≡ s.out.bytes ++ spellings fs
  pub limits : AllByRecursion IsWithinLimits fs

-- the frames with which an end begins; a client's preface stands before them
abbrev pub opening_list : Role → List Frame
opening_list Server = frame 4 0 0 (setting_text 3 stream_limit ++ setting_text 6 list_limit) ∷ frame 8 0 0 (to_be_bytes w32 (connection_window - default_window)) ∷ []
opening_list Client = frame 4 0 0 (setting_text 2 0 ++ setting_text 6 list_limit) ∷ frame 8 0 0 (to_be_bytes w32 (connection_window - default_window)) ∷ []

abbrev pub opening_preface : Role → List ℕ
opening_preface Server = []
opening_preface Client = preface

pub record OpeningIsWritten (role : Role) : Type 0 where
  pub written : opening role ≡ opening_preface role ++ spellings (opening_list role)
  pub limits : AllByRecursion IsWithinLimits (opening_list role)

-- so many bytes of reply frames more would be too many (RFC 9113, section 10.5)
abbrev pub is_flooded : State → List Frame → Bool
is_flooded s fs = nat_lt reply_limit (reply_bytes s.out + length (spellings fs))

-- the GOAWAY with which a connection fails (section 6.8)
abbrev pub goaway_list : State → ℕ → List Frame
goaway_list s code = frame 7 0 0 (to_be_bytes w32 (highest_of_peer s) ++ to_be_bytes w32 code) ∷ []

-- reply frames, or the GOAWAY in their place with which the connection fails
abbrev pub replied : State → List Frame → List Frame
replied s fs = if is_flooded s fs then goaway_list s 11 else fs

-- what each call writes
abbrev pub begin_list : State → List Field → List Frame
begin_list s fields = head_list (next_number s) 0 (block_of s.encoder fields)

abbrev pub answer_list : State → ℕ → List Field → List Frame
answer_list s n fields = replied s (head_list n 0 (block_of s.encoder fields))

abbrev pub reset_list : ℕ → ℕ → List Frame
reset_list n code = frame 3 0 n (to_be_bytes w32 code) ∷ []

pub record CallsWrite (s : State) (n : ℕ) : Type 0 where
  pub begin : (fields : List Field) → begin_refusal s ≡ None → Writes s (after_begin fields s) (begin_list s fields)
  pub answer : (fields : List Field) → refusal takes_more s n ≡ None → Writes s (after_answer n fields s) (answer_list s n fields)
  pub reset : (code : ℕ) → refusal (λ st. st.own_open) s n ≡ None → Writes s (after_reset n code s) (replied s (reset_list n code))
  pub take : (count : ℕ) → Writes s (after_take n count s) []
  pub queue : (bytes : List ℕ) → Writes s (after_queue n bytes s) []
  pub finish : (trailers : List Field) → Writes s (after_finish n trailers s) []

abbrev pub CallsAreWritten : Type 0
CallsAreWritten = (s : State) (n : ℕ) → Holds s → CallsWrite s n

-- the frames of moves, one after another
abbrev pub moves_list : State → List Move → List Frame
moves_list s [] = []
moves_list s (m ∷ ms) = move_frames s m ++ moves_list (after_move s m) ms

abbrev pub FillsAreWritten : Type 0
FillsAreWritten = (old new : State) (ms : List Move) → Holds old → Makes old ms new → Writes old new (moves_list old ms)

-- ---- what the bytes bring

-- So much these bytes bring to a stream: text, grants, DATA with its padding, and ends of the writer's half. The reader
-- stands between two frames behind them.
pub record Carries (n : ℕ) (r : Reading) (bytes : List ℕ) (words : List ℕ) (granted spent ended : ℕ) : Type 0 where
  pub text : wire_text n r bytes ≡ words
  pub grants : wire_grants n r bytes ≡ granted
  pub taken : wire_data n r bytes ≡ spent
  pub ends : wire_ends n r bytes ≡ ended
  pub between : IsBetweenFrames (after_bytes r bytes)

-- the same of the bytes of frames, to any reader that stands between two frames
abbrev pub Brings : ℕ → List Frame → List ℕ → ℕ → ℕ → ℕ → Type 0
Brings n fs text grants taken ends = (r : Reading) → IsBetweenFrames r → Carries n r (spellings fs) text grants taken ends

abbrev pub once : Bool → ℕ
once b = if b then 1 else 0

-- what an end begins with raises the connection's window
abbrev pub OpeningsAreCarried : Type 0
OpeningsAreCarried = (role : Role) (n : ℕ) → Brings n (opening_list role) [] (if 0 == n then connection_window - default_window else 0) 0 0

-- a call brings nothing to a stream m, but for the end that a reset of its own stream is
pub record CallsBring (s : State) (n m : ℕ) : Type 0 where
  pub begin : (fields : List Field) → begin_refusal s ≡ None → Brings m (begin_list s fields) [] 0 0 0
  pub answer : (fields : List Field) → refusal takes_more s n ≡ None → Brings m (answer_list s n fields) [] 0 0 0
  pub reset : (code : ℕ) → refusal (λ st. st.own_open) s n ≡ None
      → Brings m (replied s (reset_list n code)) [] 0 0 (if is_flooded s (reset_list n code) then 0 else once (n == m))

abbrev pub CallsAreCarried : Type 0
CallsAreCarried = (s : State) (n m : ℕ) → Holds s → CallsBring s n m

-- by how much a move grants the window of a stream, or of the connection as stream 0
abbrev pub granted_by : ℕ → State → Move → ℕ
granted_by n s GrantAll = if 0 == n then s.owed else 0
granted_by n s (Grant k) = if k == n then owed_in (stream_at s.streams k) else 0
granted_by n s (Send k count) = 0
granted_by n s (End k) = 0
granted_by n s (Stop k) = 0

-- how often a move ends this end's half of a stream
abbrev pub ended_by : ℕ → Move → ℕ
ended_by n GrantAll = 0
ended_by n (Grant k) = 0
ended_by n (Send k count) = 0
ended_by n (End k) = once (k == n)
ended_by n (Stop k) = once (k == n)

abbrev pub MovesBring : Type 0
MovesBring = (s : State) (m : Move) (n : ℕ) → Holds s → may s m ≡ true → Brings n (move_frames s m) (moved_text n s m) (granted_by n s m) (length (moved_text n s m)) (ended_by n m)

-- the same of moves, one after another
abbrev pub granted_in : ℕ → State → List Move → ℕ
granted_in n s [] = 0
granted_in n s (m ∷ ms) = granted_by n s m + granted_in n (after_move s m) ms

abbrev pub ended_in : ℕ → List Move → ℕ
ended_in n [] = 0
ended_in n (m ∷ ms) = ended_by n m + ended_in n ms

abbrev pub FillsBring : Type 0
FillsBring = (old new : State) (ms : List Move) (n : ℕ) → Holds old → Makes old ms new
    → Brings n (moves_list old ms) (sent n old ms) (granted_in n old ms) (length (sent n old ms)) (ended_in n ms)
