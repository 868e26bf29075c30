-- Which numbers are told as opened, and when a stream of a server is answered.
use Rattle.std.specs.Prelude.{◌≡◌, ◌≢◌, ℕ, ◌<◌, ◌≤◌, Bool, false, List, ◌++◌, Option, Some, None}
use Rattle.std.specs.List.{AllByRecursion}
use Rattle.kn_frames.specs.declared.frame.Frame.{Frame}
use Rattle.kn_hpack.specs.Fields.{Field}
use Rattle.kn_h2_state.specs.declared.event.H2Event.{H2Event}
use Rattle.kn_h2_state.specs.declared.event.H2Event.TheVariants.{Opened, Head, Text, Ended, Reset, Away, Closed}
use Rattle.kn_h2_state.specs.declared.moves.Move.{Move}
use Rattle.kn_h2_state.specs.declared.stream.Stream.{Stream}
use Rattle.kn_h2_state.specs.declared.state.State.{State}
use Rattle.kn_h2_state.specs.Streams.{stream_at}
use Rattle.kn_h2_state.specs.Rules.{is_client}
use Rattle.kn_h2_state.specs.Feeding.{after_frame}
use Rattle.kn_h2_state.specs.Moves.{after_move}
use Rattle.kn_h2_state.specs.Calls.{after_take, after_queue, after_finish, after_answer, after_reset}
use Rattle.kn_h2_state.specs.Holding.{Holds}

-- ---- numbers

-- where a stream is told as opened, its number is above the one and not above the other
abbrev pub OpensWithin : ℕ → ℕ → H2Event → Type 0
OpensWithin low high (Opened n fields) = (low < n) × (n ≤ high)
OpensWithin low high (Head n fields) = Unit {0}
OpensWithin low high (Text n) = Unit {0}
OpensWithin low high (Ended n) = Unit {0}
OpensWithin low high (Reset n code) = Unit {0}
OpensWithin low high (Away code) = Unit {0}
OpensWithin low high (Closed code) = Unit {0}

-- the highest number that was opened did not fall, and what was told as opened is above those before
pub record OpensAbove (s t : State) : Type 0 where
  pub told : List H2Event
  pub events : t.events ≡ s.events ++ told
  pub opened : s.opened ≤ t.opened
  pub above : AllByRecursion (OpensWithin s.opened t.opened) told

abbrev pub FramesOpenAbove : Type 0
FramesOpenAbove = (s : State) (f : Frame) → Holds s → OpensAbove s (after_frame s f)

-- ---- answers

-- what there was of the stream was answered
abbrev pub answered_in : Option Stream → Bool
answered_in None = false
answered_in (Some st) = st.answered

-- If there is such a stream afterwards, it is answered where it was before; one that there was not before is not answered.
abbrev pub KeepsAnswered : ℕ → State → State → Type 0
KeepsAnswered n s t = (st : Stream) → stream_at t.streams n ≡ Some st → st.answered ≡ answered_in (stream_at s.streams n)

-- at a server a stream is answered by `answer` alone, on this very stream
pub record OnlyAnswerAnswers (s : State) (n : ℕ) : Type 0 where
  pub frame : (f : Frame) → KeepsAnswered n s (after_frame s f)
  pub move : (m : Move) → KeepsAnswered n s (after_move s m)
  pub take : (m count : ℕ) → KeepsAnswered n s (after_take m count s)
  pub queue : (m : ℕ) (bytes : List ℕ) → KeepsAnswered n s (after_queue m bytes s)
  pub finish : (m : ℕ) (trailers : List Field) → KeepsAnswered n s (after_finish m trailers s)
  pub reset : (m code : ℕ) → KeepsAnswered n s (after_reset m code s)
  pub answer : (m : ℕ) (fields : List Field) → m ≢ n → KeepsAnswered n s (after_answer m fields s)

abbrev pub AnsweredIsKept : Type 0
AnsweredIsKept = (s : State) (n : ℕ) → Holds s → is_client s.role ≡ false → OnlyAnswerAnswers s n
