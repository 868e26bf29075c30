-- The DATA of all streams together, and the window of the connection (RFC 9113, section 6.9.1).
use Rattle.std.specs.Prelude.{◌≡◌, ℕ, pos, ◌-ℤ◌, false, List, None, is_some}
use Rattle.std.specs.List.{AllByRecursion}
use Rattle.kn_frames.specs.declared.frame.Frame.{Frame}
use Rattle.kn_frames.specs.Frames.{IsWithinLimits}
use Rattle.kn_frames.specs.Readers.{Reading, frames_in}
use Rattle.kn_hpack.specs.Fields.{Field}
use Rattle.kn_h2_state.specs.declared.role.Role.{Role}
use Rattle.kn_h2_state.specs.declared.moves.Move.{Move}
use Rattle.kn_h2_state.specs.declared.state.State.{State}
use Rattle.kn_h2_state.specs.Feeding.{Connection, after_frames}
use Rattle.kn_h2_state.specs.Moves.{Makes}
use Rattle.kn_h2_state.specs.Calls.{begin_refusal, takes_more, refusal}
use Rattle.kn_h2_state.specs.Holding.{Holds}
use Rattle.kn_h2_state.specs.Wire.{all_data_in, wire_all_data, spellings, IsBetweenFrames}
use Rattle.kn_h2.specs.Sending.{spent}
use Rattle.kn_h2.specs.Written.{opening_list, begin_list, answer_list, replied, reset_list, moves_list}
use Rattle.kn_h2.specs.Answered.{piece_answer}

-- to any reader that stands between two frames the bytes of these frames bring so much DATA, padding included
abbrev pub BringsData : List Frame → ℕ → Type 0
BringsData fs count = (r : Reading) → IsBetweenFrames r → wire_all_data r (spellings fs) ≡ count

-- The DATA that moves write is what the connection's sending window falls by.
pub record FillSpends (old new : State) (ms : List Move) : Type 0 where
  pub brings : BringsData (moves_list old ms) (spent ms)
  pub window : new.send ≡ old.send -ℤ pos (spent ms)

abbrev pub FillsSpend : Type 0
FillsSpend = (old new : State) (ms : List Move) → Holds old → Makes old ms new → FillSpends old new ms

-- an end begins with none
abbrev pub OpeningsSpendNothing : Type 0
OpeningsSpendNothing = (role : Role) → BringsData (opening_list role) 0

-- a call writes none
pub record CallSpendsNothing (s : State) (n : ℕ) : Type 0 where
  pub begin : (fields : List Field) → begin_refusal s ≡ None → BringsData (begin_list s fields) 0
  pub answer : (fields : List Field) → refusal takes_more s n ≡ None → BringsData (answer_list s n fields) 0
  pub reset : (code : ℕ) → refusal (λ st. st.own_open) s n ≡ None → BringsData (replied s (reset_list n code)) 0

abbrev pub CallsSpendNothing : Type 0
CallsSpendNothing = (s : State) (n : ℕ) → Holds s → CallSpendsNothing s n

-- a piece of the peer's bytes is answered with none
abbrev pub AnswersSpendNothing : Type 0
AnswersSpendNothing = (c : Connection) (piece : List ℕ) → (is_some c.state.failed ≡ false → AllByRecursion IsWithinLimits (frames_in c.cutter piece))
    → BringsData (piece_answer c piece) 0

-- At the other end, where the connection has not failed after some frames, its receiving window fell by all their DATA.
abbrev pub FramesTakeAll : Type 0
FramesTakeAll = (s : State) (fs : List Frame) → (after_frames s fs).failed ≡ None → (after_frames s fs).receive ≡ s.receive -ℤ pos (all_data_in fs)
