-- What the windows of two ends that face each other come to together (RFC 9113, section 6.9).
use Rattle.std.specs.Prelude.{◌≡◌, ◌≢◌, ◌⊎◌, ℕ, pos, ◌+◌, ◌+ℤ◌, ◌-ℤ◌, ℤ, ◌<◌, true, List, length, None, Some}
use Rattle.kn_frames.specs.declared.frame.Frame.{Frame}
use Rattle.kn_hpack.specs.Fields.{Field}
use Rattle.kn_h2_state.specs.declared.moves.Move.{Move}
use Rattle.kn_h2_state.specs.declared.stream.Stream.{Stream}
use Rattle.kn_h2_state.specs.declared.state.State.{State}
use Rattle.kn_h2_state.specs.Limits.{stream_window, default_window}
use Rattle.kn_h2_state.specs.Streams.{stream_at, is_open}
use Rattle.kn_h2_state.specs.Rules.{verdict}
use Rattle.kn_h2_state.specs.Feeding.{after_frame}
use Rattle.kn_h2_state.specs.Moves.{may, after_move}
use Rattle.kn_h2_state.specs.Calls.{after_take, after_begin, after_queue, after_finish, after_answer, after_took}
use Rattle.kn_h2_state.specs.Holding.{Holds}
use Rattle.kn_h2_state.specs.Preorder.{OwnFacts}
use Rattle.kn_h2_state.specs.Wire.{frame_grant, grants_in, data_length, data_lengths_in, moved_text}
use Rattle.kn_h2.specs.Written.{granted_by}

-- ---- the two windows of a stream

-- So much text of the stream may come: it is open, or not begun yet.
abbrev pub MayCome : State → ℕ → ℤ → Type 0
MayCome t n y = ((b : Stream) × (stream_at t.streams n ≡ Some b) × (is_open b ≡ true) × (y ≡ b.receive)) ⊎ ((t.opened < n) × (y ≡ pos stream_window))

-- and so much may go
abbrev pub MayGo : State → ℕ → ℤ → Type 0
MayGo s n x = ((a : Stream) × (stream_at s.streams n ≡ Some a) × (is_open a ≡ true) × (x ≡ a.send)) ⊎ ((s.opened < n) × (x ≡ pos default_window))

-- What may go at the one end, with the text and the grants on their way, is what may come at the other: s writes these frames
-- to t, which writes the frames `back`.
abbrev pub StreamSum : ℕ → State → List Frame → State → List Frame → Type 0
StreamSum n s fs t back = (x y : ℤ) → MayGo s n x → MayCome t n y → x +ℤ pos (data_lengths_in n fs + grants_in n back) ≡ y

-- ---- frames that come

-- Text takes of what may come, as much as its DATA has with its padding.
abbrev pub FramesTake : Type 0
FramesTake = (t : State) (f : Frame) (n : ℕ) (y : ℤ) → Holds t → t.failed ≡ None → verdict t f ≡ None
    → MayCome (after_frame t f) n y → MayCome t n (y +ℤ pos (data_length n f))

-- A grant adds to what may go, where INITIAL_WINDOW_SIZE stays what it is at first.
abbrev pub FramesGrant : Type 0
FramesGrant = (s : State) (f : Frame) (n : ℕ) (x : ℤ) → Holds s → s.failed ≡ None → verdict s f ≡ None → s.initial ≡ default_window → (after_frame s f).initial ≡ default_window
    → MayGo (after_frame s f) n x → MayGo s n (x -ℤ pos (frame_grant n f))

-- ---- what an end does of its own

-- a move takes of what may go what it sends, and adds to what may come what it grants
pub record MoveShiftsBoth (s : State) (m : Move) (n : ℕ) : Type 0 where
  pub goes : (x : ℤ) → MayGo (after_move s m) n x → MayGo s n (x +ℤ pos (length (moved_text n s m)))
  pub comes : (y : ℤ) → MayCome (after_move s m) n y → MayCome s n (y -ℤ pos (granted_by n s m))

abbrev pub MovesShiftBoth : Type 0
MovesShiftBoth = (s : State) (m : Move) (n : ℕ) → Holds s → OwnFacts s → may s m ≡ true → n ≢ 0 → MoveShiftsBoth s m n

-- neither is changed
pub record LeavesWindows (s t : State) (n : ℕ) : Type 0 where
  pub goes : (x : ℤ) → MayGo t n x → MayGo s n x
  pub comes : (y : ℤ) → MayCome t n y → MayCome s n y

-- by no call on a stream m
pub record CallsLeaveWindows (s : State) (m n : ℕ) : Type 0 where
  pub take : (count : ℕ) → LeavesWindows s (after_take m count s) n
  pub queue : (bytes : List ℕ) → LeavesWindows s (after_queue m bytes s) n
  pub finish : (trailers : List Field) → LeavesWindows s (after_finish m trailers s) n
  pub answer : (fields : List Field) → LeavesWindows s (after_answer m fields s) n
  pub took : (count : ℕ) → LeavesWindows s (after_took count s) n
  -- nor by the call that begins one, at a client whose peer set no other window
  pub begin : (fields : List Field) → s.initial ≡ default_window → LeavesWindows s (after_begin fields s) n

abbrev pub CallsLeaveBoth : Type 0
CallsLeaveBoth = (s : State) (m n : ℕ) → Holds s → CallsLeaveWindows s m n
