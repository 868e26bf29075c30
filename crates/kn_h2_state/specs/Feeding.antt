-- What frames, and the bytes of a connection, do to it.
use Rattle.std.specs.Prelude.{ℕ, true, List, [], ◌∷◌, Option, Some, None, is_some, if◌then◌else◌}
use Rattle.kn_frames.specs.declared.frame.Frame.{Frame}
use Rattle.kn_frames.specs.declared.fault.FrameReason.{FrameReason}
use Rattle.kn_frames.specs.declared.fault.FrameReason.TheVariants.{Preface, TooLong}
use Rattle.kn_frames.specs.declared.fault.FrameFault.{FrameFault}
use Rattle.kn_frames.specs.Readers.{Reading, after_bytes, frames_in, fault_in}
use Rattle.kn_h2_state.specs.declared.state.State.{State}
use Rattle.kn_h2_state.specs.Decoded.{first_table}
use Rattle.kn_h2_state.specs.Rules.{verdict}
use Rattle.kn_h2_state.specs.Effects.{fail, effect}

-- nothing is kept of header blocks
abbrev pub without_blocks : State → State
without_blocks s = record s { block = None; decoder = first_table }

-- a connection that fails at a frame reads no more blocks
abbrev pub judged : State → Frame → Option ℕ → State
judged s f (Some code) = fail code (without_blocks s)
judged s f None = effect (record s { began = true }) f

-- after one frame: nothing where the connection has failed, else its failure where the frame breaks a rule, else the frame's effect
unfoldable pub after_frame : State → Frame → State
after_frame s f = if is_some s.failed then s else judged s f (verdict s f)

unfoldable pub after_frames : State → List Frame → State
after_frames s [] = s
after_frames s (f ∷ fs) = after_frames (after_frame s f) fs

-- the errors of what is no frame: another preface (RFC 9113, section 3.4), and too long a frame (section 4.2)
abbrev pub frame_code : FrameReason → ℕ
frame_code Preface = 1
frame_code TooLong = 6

-- after the fault that bytes may end in
abbrev pub after_fault : State → Option FrameFault → State
after_fault s None = s
after_fault s (Some fault) = if is_some s.failed then s else fail (frame_code fault.reason) s

-- a connection: what cuts its bytes into frames, and its state
pub record Connection : Type 0 where
  pub cutter : Reading
  pub state : State

-- after the next piece of the stream. Where the connection has failed, nothing more is read
unfoldable pub after_piece : Connection → List ℕ → Connection
after_piece c piece =
    if is_some c.state.failed then c
    else record {
      cutter = after_bytes c.cutter piece;
      state = after_fault (after_frames c.state (frames_in c.cutter piece)) (fault_in (after_bytes c.cutter piece).phase);
    }
