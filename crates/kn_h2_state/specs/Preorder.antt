-- Which of two states hears at least as much of the peer: whatever frame breaks no rule in the one, breaks none in the other.
use Rattle.std.specs.Prelude.{◌≡◌, ◌⊎◌, ℕ, pos, ◌≤ℤ◌, ◌<◌, ◌≤◌, Bool, true, false, List, [], ◌∷◌, Some, None, IfSome}
use Rattle.kn_frames.specs.declared.frame.Frame.{Frame}
use Rattle.kn_hpack.specs.Fields.{Field}
use Rattle.kn_h2_state.specs.declared.moves.Move.{Move}
use Rattle.kn_h2_state.specs.declared.role.Role.{Role}
use Rattle.kn_h2_state.specs.declared.stream.Stream.{Stream}
use Rattle.kn_h2_state.specs.declared.state.State.{State}
use Rattle.kn_h2_state.specs.Limits.{stream_limit}
use Rattle.kn_h2_state.specs.Streams.{stream_at, is_open, open_count}
use Rattle.kn_h2_state.specs.Rules.{is_client, verdict}
use Rattle.kn_h2_state.specs.Feeding.{after_frame, after_frames}
use Rattle.kn_h2_state.specs.Moves.{can_stop, may, after_move}
use Rattle.kn_h2_state.specs.Calls.{fresh_state, after_take, after_begin, after_queue, after_finish, after_answer, after_reset, after_took}
use Rattle.kn_h2_state.specs.Holding.{Holds}

-- An open stream b hears at least as much as a: it has as much room for text, its sending window is no nearer to the
-- largest, and the peer's half is as open. At a client both have their head, or neither.
pub record HearsAsMuch (client : Bool) (a b : Stream) : Type 0 where
  pub receive : a.receive ≤ℤ b.receive
  pub send : b.send ≤ℤ a.send
  pub half : b.peer_open ≡ a.peer_open
  pub own : b.own_open ≡ true → a.own_open ≡ true
  pub head : client ≡ true → b.answered ≡ a.answered

-- in s the stream is open too, and b hears at least as much
abbrev pub IsOpenIn : State → ℕ → Stream → Type 0
IsOpenIn s n b = (a : Stream) × (stream_at s.streams n ≡ Some a) × (is_open a ≡ true) × HearsAsMuch (is_client s.role) a b

-- or it was never opened there: this end began it
abbrev pub IsNewTo : State → State → ℕ → Stream → Type 0
IsNewTo s t n b = (is_client s.role ≡ true) × (s.opened < n) × (b.send ≤ℤ pos t.initial)

-- The state t hears at least as much as s. A closed stream hears everything; what waits for the socket, and what is
-- told, is not looked at.
pub record HearsMore (s t : State) : Type 0 where
  pub role : t.role ≡ s.role
  pub began : t.began ≡ s.began
  pub block : t.block ≡ s.block
  pub decoder : t.decoder ≡ s.decoder
  pub initial : t.initial ≡ s.initial
  pub receive : s.receive ≤ℤ t.receive
  pub send : t.send ≤ℤ s.send
  pub opened : s.opened ≤ t.opened
  pub server : is_client s.role ≡ false → t.opened ≡ s.opened
  pub known : is_client s.role ≡ true → IfSome s.block (λ b. b.stream ≤ s.opened)
  pub streams : (n : ℕ) (b : Stream) → stream_at t.streams n ≡ Some b → is_open b ≡ true → IsOpenIn s n b ⊎ IsNewTo s t n b

-- ---- rules

-- where a frame breaks no rule in s, it breaks none in t
abbrev pub MoreIsHeard : Type 0
MoreIsHeard = (s t : State) (f : Frame) → Holds t → HearsMore s t → verdict s f ≡ None → verdict t f ≡ None

-- ---- what an end does of its own

-- no block of a client is of a stream that it never began
abbrev pub KnowsItsBlock : State → Type 0
KnowsItsBlock s = is_client s.role ≡ true → IfSome s.block (λ b. b.stream ≤ s.opened)

-- where the peer is to be told to stop, this end's half has ended
abbrev pub StopsWhereEnded : State → Type 0
StopsWhereEnded s = (n : ℕ) (st : Stream) → stream_at s.streams n ≡ Some st → can_stop st ≡ true → st.own_open ≡ false

-- after each of its own steps an end hears at least as much as before
pub record OwnStepsHearMore (s : State) : Type 0 where
  pub none : HearsMore s s
  pub move : (m : Move) → StopsWhereEnded s → may s m ≡ true → HearsMore s (after_move s m)
  pub take : (n count : ℕ) → HearsMore s (after_take n count s)
  pub took : (count : ℕ) → HearsMore s (after_took count s)
  pub begin : (fields : List Field) → is_client s.role ≡ true → HearsMore s (after_begin fields s)
  pub queue : (n : ℕ) (bytes : List ℕ) → HearsMore s (after_queue n bytes s)
  pub finish : (n : ℕ) (trailers : List Field) → HearsMore s (after_finish n trailers s)
  pub answer : (n : ℕ) (fields : List Field) → is_client s.role ≡ false → HearsMore s (after_answer n fields s)
  pub reset : (n code : ℕ) → HearsMore s (after_reset n code s)

abbrev pub OwnStepsAreHeard : Type 0
OwnStepsAreHeard = (s : State) → Holds s → KnowsItsBlock s → OwnStepsHearMore s

-- and so through many: it is a preorder
abbrev pub HearsMoreInTurn : Type 0
HearsMoreInTurn = (s t u : State) → HearsMore s t → HearsMore t u → HearsMore s u

-- ---- what frames do

-- A frame that breaks no rule in s leaves t hearing at least as much, where neither has failed, and at a server neither
-- has as many streams open as there may be. That too many reply frames wait is not looked at.
abbrev pub FramesKeepMore : Type 0
FramesKeepMore = (s t : State) (f : Frame) → Holds s → Holds t → HearsMore s t → s.failed ≡ None → t.failed ≡ None → verdict s f ≡ None
    → (is_client s.role ≡ false → open_count s.streams < stream_limit) → (is_client s.role ≡ false → open_count t.streams < stream_limit) → HearsMore (after_frame s f) (after_frame t f)

-- none of the frames breaks a rule, one after another
unfoldable pub Accepts : State → List Frame → Type 0
Accepts s [] = Unit {0}
Accepts s (f ∷ fs) = (verdict s f ≡ None) × Accepts (after_frame s f) fs

-- the connection has not failed before any of them, and a server has room for one stream more
unfoldable pub HasRoomFor : State → List Frame → Type 0
HasRoomFor s [] = Unit {0}
HasRoomFor s (f ∷ fs) = (s.failed ≡ None) × (is_client s.role ≡ false → open_count s.streams < stream_limit) × HasRoomFor (after_frame s f) fs

-- What s accepts, t accepts, which hears at least as much after them all.
pub record AcceptsAll (s t : State) (fs : List Frame) : Type 0 where
  pub accepts : Accepts t fs
  pub more : HearsMore (after_frames s fs) (after_frames t fs)

abbrev pub MoreIsAccepted : Type 0
MoreIsAccepted = (s t : State) (fs : List Frame) → Holds s → Holds t → HearsMore s t → HasRoomFor s fs → HasRoomFor t fs → Accepts s fs → AcceptsAll s t fs

-- ---- what these laws rest on goes on to hold

-- no block of a client is of a stream that it never began, and an end tells its peer to stop only where its own half has ended
pub record OwnFacts (s : State) : Type 0 where
  pub known : KnowsItsBlock s
  pub ended : StopsWhereEnded s

pub record OwnFactsStay (s : State) : Type 0 where
  pub frame : (f : Frame) → OwnFacts (after_frame s f)
  pub move : (m : Move) → OwnFacts (after_move s m)
  pub take : (n count : ℕ) → OwnFacts (after_take n count s)
  pub took : (count : ℕ) → OwnFacts (after_took count s)
  pub begin : (fields : List Field) → OwnFacts (after_begin fields s)
  pub queue : (n : ℕ) (bytes : List ℕ) → OwnFacts (after_queue n bytes s)
  pub finish : (n : ℕ) (trailers : List Field) → OwnFacts (after_finish n trailers s)
  pub answer : (n : ℕ) (fields : List Field) → OwnFacts (after_answer n fields s)
  pub reset : (n code : ℕ) → OwnFacts (after_reset n code s)

-- they hold of a new connection, and after each step
abbrev pub OwnFactsBegin : Type 0
OwnFactsBegin = (role : Role) → OwnFacts (fresh_state role)

abbrev pub OwnFactsAreKept : Type 0
OwnFactsAreKept = (s : State) → Holds s → OwnFacts s → OwnFactsStay s
