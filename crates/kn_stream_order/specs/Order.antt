-- The order in which streams are told as opened, and how many bytes are queued on them.
use Rattle.std.specs.Prelude.{◌≡◌, ◌≢◌, ◌+◌, ℕ, ◌<◌, ◌≤◌, List, [], ◌∷◌, ◌++◌, length}
use Rattle.kn_hpack.specs.Fields.{Field}
use Rattle.kn_h2_state.specs.declared.event.H2Event.{H2Event}
use Rattle.kn_h2_state.specs.declared.event.H2Event.TheVariants.{Opened, Head, Text, Ended, Reset, Away, Closed}
use Rattle.kn_h2_state.specs.declared.stream.Stream.{Stream}
use Rattle.kn_h2_state.specs.declared.state.State.{State}
use Rattle.kn_h2_state.specs.declared.moves.Move.{Move}
use Rattle.kn_h2_state.specs.Moves.{after_move}
use Rattle.kn_h2_state.specs.Calls.{after_take, after_queue, after_finish, after_answer, after_reset}
use Rattle.kn_h2_state.specs.Feeding.{Connection, after_piece}

-- what is told as opened is above the first number, each above those before it, and none above the last number
abbrev pub OpensRising : ℕ → List H2Event → ℕ → Type 0
OpensRising low [] high = low ≤ high
OpensRising low (Opened n fields ∷ es) high = (low < n) × OpensRising n es high
OpensRising low (Head n fields ∷ es) high = OpensRising low es high
OpensRising low (Text n ∷ es) high = OpensRising low es high
OpensRising low (Ended n ∷ es) high = OpensRising low es high
OpensRising low (Reset n code ∷ es) high = OpensRising low es high
OpensRising low (Away code ∷ es) high = OpensRising low es high
OpensRising low (Closed code ∷ es) high = OpensRising low es high

-- no stream of this number has more bytes queued than so many
abbrev pub IsShortAt : ℕ → ℕ → List Stream → Type 0
IsShortAt n most [] = Unit {0}
IsShortAt n most (st ∷ ss) = (st.number ≡ n → length st.queue ≤ most) × IsShortAt n most ss

-- what a connection told since it had told these events
pub record TellsInOrder (low : ℕ) (base : List H2Event) (t : State) : Type 0 where
  pub told : List H2Event
  pub events : t.events ≡ base ++ told
  pub rising : OpensRising low told t.opened

abbrev pub PiecesTellInOrder : Type 0
PiecesTellInOrder = (c : Connection) (piece : List ℕ) → TellsInOrder c.state.opened c.state.events (after_piece c piece).state

abbrev pub PiecesLengthenNoQueue : Type 0
PiecesLengthenNoQueue = (c : Connection) (piece : List ℕ) (n most : ℕ) → IsShortAt n most c.state.streams → IsShortAt n most (after_piece c piece).state.streams

-- nor has it after a step of this end, but for bytes that are queued on this very stream
pub record OwnStepsKeep (s : State) (n most : ℕ) : Type 0 where
  pub take : (m count : ℕ) → IsShortAt n most (after_take m count s).streams
  pub finish : (m : ℕ) (trailers : List Field) → IsShortAt n most (after_finish m trailers s).streams
  pub answer : (m : ℕ) (fields : List Field) → IsShortAt n most (after_answer m fields s).streams
  pub reset : (m code : ℕ) → IsShortAt n most (after_reset m code s).streams
  pub move : (m : Move) → IsShortAt n most (after_move s m).streams
  pub queue : (bytes : List ℕ) → IsShortAt n (most + length bytes) (after_queue n bytes s).streams
  pub other : (m : ℕ) (bytes : List ℕ) → m ≢ n → IsShortAt n most (after_queue m bytes s).streams

abbrev pub OwnStepsLengthenNoQueue : Type 0
OwnStepsLengthenNoQueue = (s : State) (n most : ℕ) → IsShortAt n most s.streams → OwnStepsKeep s n most
