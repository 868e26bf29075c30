-- What never changes, and what the moves of an end leave as it is: laws over all states.
use Rattle.std.specs.Prelude.{◌≡◌, ℕ, ◌<◌, false, List, length, Some, None}
use Rattle.kn_frames.specs.declared.frame.Frame.{Frame}
use Rattle.kn_hpack.specs.Fields.{Field}
use Rattle.kn_h2_state.specs.declared.moves.Move.{Move}
use Rattle.kn_h2_state.specs.declared.stream.Stream.{Stream}
use Rattle.kn_h2_state.specs.declared.state.State.{State}
use Rattle.kn_h2_state.specs.Limits.{full_out}
use Rattle.kn_h2_state.specs.Streams.{stream_at}
use Rattle.kn_h2_state.specs.Feeding.{Connection, after_frame, after_piece}
use Rattle.kn_h2_state.specs.Moves.{may, after_move}
use Rattle.kn_h2_state.specs.Calls.{text_of, after_take, after_begin, after_queue, after_finish, after_answer, after_reset, after_took}
use Rattle.kn_h2_state.specs.Holding.{Holds}

-- an end stays the end that it is, through bytes of its peer, calls and moves
pub record RoleStays : Type 0 where
  pub frame : (s : State) (f : Frame) → (after_frame s f).role ≡ s.role
  pub piece : (c : Connection) (bytes : List ℕ) → (after_piece c bytes).state.role ≡ c.state.role
  pub move : (s : State) (m : Move) → (after_move s m).role ≡ s.role
  pub take : (s : State) (n count : ℕ) → (after_take n count s).role ≡ s.role
  pub took : (s : State) (count : ℕ) → (after_took count s).role ≡ s.role
  pub begin : (s : State) (fields : List Field) → (after_begin fields s).role ≡ s.role
  pub queue : (s : State) (n : ℕ) (bytes : List ℕ) → (after_queue n bytes s).role ≡ s.role
  pub finish : (s : State) (n : ℕ) (trailers : List Field) → (after_finish n trailers s).role ≡ s.role
  pub answer : (s : State) (n : ℕ) (fields : List Field) → (after_answer n fields s).role ≡ s.role
  pub reset : (s : State) (n code : ℕ) → (after_reset n code s).role ≡ s.role

-- a move tells nothing, fails nothing, and leaves the text that nobody took
pub record TellsNothing (s : State) (m : Move) : Type 0 where
  pub events : (after_move s m).events ≡ s.events
  pub failed : (after_move s m).failed ≡ s.failed
  pub text : (n : ℕ) → text_of (after_move s m) n ≡ text_of s n

abbrev pub MovesTellNothing : Type 0
MovesTellNothing = (s : State) (m : Move) → Holds s → TellsNothing s m

-- Where there is room and no move is left, each end that was asked for was written, unless bytes wait before it.
abbrev pub EndsAreWritten : Type 0
EndsAreWritten = (s : State) (n : ℕ) (st : Stream) → Holds s → s.failed ≡ None → length s.out.bytes < full_out → ((m : Move) → may s m ≡ false)
    → stream_at s.streams n ≡ Some st → length st.queue ≡ 0 → st.finish ≡ None
