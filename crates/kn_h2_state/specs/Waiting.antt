-- A server sends nothing on a stream before it answers it (RFC 9113, section 8.1).
use Rattle.std.specs.Prelude.{◌≡◌, ℕ, true, false, not, ◌&&◌, List, [], Some}
use Rattle.kn_frames.specs.declared.frame.Frame.{Frame}
use Rattle.kn_hpack.specs.Fields.{Field}
use Rattle.kn_h2_state.specs.declared.moves.Move.{Move}
use Rattle.kn_h2_state.specs.declared.role.Role.{Role}
use Rattle.kn_h2_state.specs.declared.stream.Stream.{Stream}
use Rattle.kn_h2_state.specs.declared.state.State.{State}
use Rattle.kn_h2_state.specs.Streams.{stream_at, on_open}
use Rattle.kn_h2_state.specs.Rules.{is_client}
use Rattle.kn_h2_state.specs.Feeding.{Connection, after_frame, after_piece}
use Rattle.kn_h2_state.specs.Moves.{after_move}
use Rattle.kn_h2_state.specs.Calls.{fresh_state, takes_more, after_take, after_queue, after_finish, after_answer, after_reset, after_took}
use Rattle.kn_h2_state.specs.Holding.{Holds}

-- nothing waits to be sent on a stream that is not answered
abbrev pub WaitsForAnswer : State → Type 0
WaitsForAnswer s = (n : ℕ) (st : Stream) → stream_at s.streams n ≡ Some st → st.answered ≡ false → st.queue ≡ []

-- what `queue` needs of its stream, and finds: the stream takes more, and at a server it is answered
pub record MayQueue (s : State) (n : ℕ) : Type 0 where
  pub takes : on_open s.streams n takes_more ≡ true
  pub answered : on_open s.streams n (λ st. takes_more st && not (is_client s.role) && not st.answered) ≡ false

-- it goes on to hold at a server
pub record WaitsForAnswerStill (s : State) : Type 0 where
  pub frame : (f : Frame) → WaitsForAnswer (after_frame s f)
  pub move : (m : Move) → WaitsForAnswer (after_move s m)
  pub take : (n count : ℕ) → WaitsForAnswer (after_take n count s)
  pub took : (count : ℕ) → WaitsForAnswer (after_took count s)
  pub queue : (n : ℕ) (bytes : List ℕ) → MayQueue s n → WaitsForAnswer (after_queue n bytes s)
  pub finish : (n : ℕ) (trailers : List Field) → WaitsForAnswer (after_finish n trailers s)
  pub answer : (n : ℕ) (fields : List Field) → WaitsForAnswer (after_answer n fields s)
  pub reset : (n code : ℕ) → WaitsForAnswer (after_reset n code s)

abbrev pub WaitsForAnswerFirst : Type 0
WaitsForAnswerFirst = (role : Role) → WaitsForAnswer (fresh_state role)

abbrev pub WaitsForAnswerStays : Type 0
WaitsForAnswerStays = (s : State) → Holds s → is_client s.role ≡ false → WaitsForAnswer s → WaitsForAnswerStill s

-- and through a piece of the peer's bytes
abbrev pub PiecesWaitForAnswer : Type 0
PiecesWaitForAnswer = (c : Connection) (piece : List ℕ) → Holds c.state → is_client c.state.role ≡ false → WaitsForAnswer c.state → WaitsForAnswer (after_piece c piece).state
