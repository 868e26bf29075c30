-- Laws of a connection over all that may come: each is the clause of a public function.
use Rattle.std.specs.Prelude.{◌≡◌, ◌≢◌, ◌⊎◌, ◌↔◌, ℕ, ◌==◌, Bool, true, false, ◌&&◌, List, [], ◌∷◌, ◌++◌, Option, Some, None, if◌then◌else◌}
use Rattle.kn_frames.specs.declared.frame.Frame.{Frame}
use Rattle.kn_hpack.specs.Fields.{Field}
use Rattle.kn_h2_state.specs.declared.moves.Move.{Move}
use Rattle.kn_h2_state.specs.declared.stream.Stream.{Stream}
use Rattle.kn_h2_state.specs.declared.state.State.{State}
use Rattle.kn_h2_state.specs.Streams.{stream_at, on_open}
use Rattle.kn_h2_state.specs.Payloads.{content}
use Rattle.kn_h2_state.specs.Rules.{verdict}
use Rattle.kn_h2_state.specs.Effects.{effect}
use Rattle.kn_h2_state.specs.Feeding.{Connection, after_frame, after_frames, after_piece}
use Rattle.kn_h2_state.specs.Moves.{after_move, target}
use Rattle.kn_h2_state.specs.Calls.{text_of, next_number, after_take, after_begin, after_queue, after_finish, after_answer, after_reset}
use Rattle.kn_h2_state.specs.Holding.{Holds}

-- ---- it does not matter how the bytes are cut into pieces

-- While the connection has not failed, two pieces are as good as their join.
abbrev pub AnyPieces : Type 0
AnyPieces = (c : Connection) (a b : List ℕ) → (after_piece c a).state.failed ≡ None → after_piece (after_piece c a) b ≡ after_piece c (a ++ b)

-- ---- a connection fails at the first frame that breaks a rule, or at the reply that is one too many

-- the frame brings the end with this code
abbrev pub Fells : State → Frame → ℕ → Type 0
Fells s f code = (verdict s f ≡ Some code) ⊎ ((verdict s f ≡ None) × ((effect (record s { began = true }) f).failed ≡ Some code))

-- one of the frames does, and those before it do not
abbrev pub FailsAt : State → List Frame → ℕ → Type 0
FailsAt s fs code = (before : List Frame) × (f : Frame) × (after : List Frame) × (fs ≡ before ++ f ∷ after)
    × ((after_frames s before).failed ≡ None) × Fells (after_frames s before) f code

abbrev pub FailsFirst : Type 0
FailsFirst = (s : State) (fs : List Frame) (code : ℕ) → s.failed ≡ None → ((after_frames s fs).failed ≡ Some code) ↔ FailsAt s fs code

-- ---- what is done to one stream leaves the others alone

-- a stream without its windows and what is owed of it
pub record Seen : Type 0 where
  pub text : List ℕ
  pub queue : List ℕ
  pub answered : Bool
  pub peer_open : Bool
  pub own_open : Bool
  pub finish : Option (List Field)
  pub resets : Bool

abbrev pub seen : Option Stream → Option Seen
seen None = None
seen (Some st) = Some (record {
  text = st.text;
  queue = st.queue;
  answered = st.answered;
  peer_open = st.peer_open;
  own_open = st.own_open;
  finish = st.finish;
  resets = st.resets;
})

abbrev pub seen_at : State → ℕ → Option Seen
seen_at s n = seen (stream_at s.streams n)

-- a frame changes nothing of another stream than its own but its windows
abbrev pub FramesLeaveOthers : Type 0
FramesLeaveOthers = (s : State) (f : Frame) (n : ℕ) → Holds s → f.stream ≢ n → seen_at (after_frame s f) n ≡ seen_at s n

-- a move changes nothing of another stream than its own
abbrev pub MovesLeaveOthers : Type 0
MovesLeaveOthers = (s : State) (m : Move) (n : ℕ) → Holds s → target m ≢ n → stream_at (after_move s m).streams n ≡ stream_at s.streams n

-- nor does a call on the stream m
pub record LeavesOthers (s : State) (m n : ℕ) : Type 0 where
  pub take : (count : ℕ) → stream_at (after_take m count s).streams n ≡ stream_at s.streams n
  pub queue : (bytes : List ℕ) → stream_at (after_queue m bytes s).streams n ≡ stream_at s.streams n
  pub finish : (trailers : List Field) → stream_at (after_finish m trailers s).streams n ≡ stream_at s.streams n
  pub answer : (fields : List Field) → stream_at (after_answer m fields s).streams n ≡ stream_at s.streams n
  pub reset : (code : ℕ) → stream_at (after_reset m code s).streams n ≡ stream_at s.streams n

abbrev pub CallsLeaveOthers : Type 0
CallsLeaveOthers = (s : State) (m n : ℕ) → Holds s → m ≢ n → LeavesOthers s m n

-- nor does the call that begins a stream
abbrev pub BeginsLeaveOthers : Type 0
BeginsLeaveOthers = (s : State) (fields : List Field) (n : ℕ) → next_number s ≢ n → stream_at (after_begin fields s).streams n ≡ stream_at s.streams n

-- ---- text comes out as it came in

-- the text that a frame brings to a stream: the content of DATA while the stream is open
unfoldable pub brought : ℕ → State → Frame → List ℕ
brought n s f = if (f.kind == 0) && ((f.stream == n) && on_open s.streams n (λ st. true)) then content f else []

-- A frame that breaks no rule appends what it brings to the text that nobody took, unless it resets the stream.
abbrev pub TextGrows : Type 0
TextGrows = (s : State) (f : Frame) (n : ℕ) → Holds s → s.failed ≡ None → verdict s f ≡ None → ((f.kind == 3) && (f.stream == n)) ≡ false
    → text_of (after_frame s f) n ≡ text_of s n ++ brought n s f
