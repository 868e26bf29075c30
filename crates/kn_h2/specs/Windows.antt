-- The windows of one stream, and of the connection, as moves and frames change them (RFC 9113, section 6.9).
use Rattle.std.specs.Prelude.{◌≡◌, ℕ, pos, ◌+ℤ◌, ◌-ℤ◌, ◌==◌, true, List, length, Some, None, if◌then◌else◌}
use Rattle.kn_frames.specs.declared.frame.Frame.{Frame}
use Rattle.kn_h2_state.specs.declared.moves.Move.{Move}
use Rattle.kn_h2_state.specs.declared.stream.Stream.{Stream}
use Rattle.kn_h2_state.specs.declared.state.State.{State}
use Rattle.kn_h2_state.specs.Streams.{stream_at, is_open}
use Rattle.kn_h2_state.specs.Rules.{verdict}
use Rattle.kn_h2_state.specs.Feeding.{after_frame}
use Rattle.kn_h2_state.specs.Moves.{may, after_move, Makes}
use Rattle.kn_h2_state.specs.Holding.{Holds}
use Rattle.kn_h2_state.specs.Wire.{frame_grant, data_length, moved_text}
use Rattle.kn_h2.specs.Sending.{sent}
use Rattle.kn_h2.specs.Written.{granted_by, granted_in}

-- Its sending window falls by what was sent of it, and its receiving window rises by what was granted.
pub record Windows (old new : Stream) (sent : List ℕ) (granted : ℕ) : Type 0 where
  pub send : new.send ≡ old.send -ℤ pos (length sent)
  pub receive : new.receive ≡ old.receive +ℤ pos granted

-- of each stream that the connection still has after a move
abbrev pub MoveShifts : Type 0
MoveShifts = (s : State) (m : Move) (n : ℕ) (st new : Stream) → Holds s → may s m ≡ true
    → stream_at s.streams n ≡ Some st → stream_at (after_move s m).streams n ≡ Some new → Windows st new (moved_text n s m) (granted_by n s m)

-- and after moves, one after another
abbrev pub MovesShift : Type 0
MovesShift = (old new : State) (ms : List Move) (n : ℕ) (st last : Stream) → Holds old → Makes old ms new
    → stream_at old.streams n ≡ Some st → stream_at new.streams n ≡ Some last → Windows st last (sent n old ms) (granted_in n old ms)

-- the receiving window of the connection rises as well, which counts as stream 0
abbrev pub ConnectionRises : Type 0
ConnectionRises = (old new : State) (ms : List Move) → Holds old → Makes old ms new → new.receive ≡ old.receive +ℤ pos (granted_in 0 old ms)

-- ---- frames of the peer

-- of a stream that is open: DATA with its padding takes of its receiving window, a grant and a higher INITIAL_WINDOW_SIZE add to
-- its sending window (sections 6.9.1 and 6.9.2)
pub record Follows (s t : State) (f : Frame) (n : ℕ) (old new : Stream) : Type 0 where
  pub receive : new.receive ≡ old.receive -ℤ pos (data_length n f)
  pub send : new.send ≡ (old.send +ℤ pos (frame_grant n f)) +ℤ (pos t.initial -ℤ pos s.initial)

abbrev pub FramesShift : Type 0
FramesShift = (s : State) (f : Frame) (n : ℕ) (st new : Stream) → Holds s → s.failed ≡ None → verdict s f ≡ None
    → stream_at s.streams n ≡ Some st → is_open st ≡ true → stream_at (after_frame s f).streams n ≡ Some new → Follows s (after_frame s f) f n st new

-- and the same of the connection, of which all DATA takes, and which counts as stream 0
pub record ConnectionFollows (s t : State) (f : Frame) : Type 0 where
  pub receive : t.receive ≡ s.receive -ℤ pos (if f.kind == 0 then length f.payload else 0)
  pub send : t.send ≡ s.send +ℤ pos (frame_grant 0 f)

abbrev pub FramesShiftAll : Type 0
FramesShiftAll = (s : State) (f : Frame) → s.failed ≡ None → verdict s f ≡ None → ConnectionFollows s (after_frame s f) f
