-- What may be done with one end of a connection, one act after another, and what comes of it.
use Rattle.std.specs.Prelude.{◌≡◌, ℕ, ◌+◌, ◌≤◌, ◌==◌, Bool, true, false, not, ◌&&◌, ◌||◌, List, [], ◌∷◌, ◌++◌, length, take, drop, None, if◌then◌else◌}
use Rattle.kn_frames.specs.declared.frame.Frame.{Frame}
use Rattle.kn_frames.specs.Readers.{Reading, start, frames_in}
use Rattle.kn_hpack.specs.Fields.{Field}
use Rattle.kn_hpack.specs.Strings.{IsBytes}
use Rattle.kn_h2_state.specs.declared.role.Role.{Role}
use Rattle.kn_h2_state.specs.declared.role.Role.TheVariants.{Server, Client}
use Rattle.kn_h2_state.specs.declared.moves.Move.{Move}
use Rattle.kn_h2_state.specs.declared.moves.Move.TheVariants.{GrantAll, Grant, Send, End, Stop}
use Rattle.kn_h2_state.specs.declared.state.State.{State}
use Rattle.kn_h2_state.specs.Streams.{on_open}
use Rattle.kn_h2_state.specs.Rules.{is_client}
use Rattle.kn_h2_state.specs.Feeding.{Connection, after_frame, after_piece}
use Rattle.kn_h2_state.specs.Moves.{may, after_move}
use Rattle.kn_h2_state.specs.Calls.{fresh, text_of, begin_refusal, takes_more, refusal, queue_refusal, after_take, after_begin, after_queue, after_finish, after_answer, after_reset, after_took}
use Rattle.kn_h2_state.specs.Hearing.{is_peer_open}
use Rattle.kn_h2_state.specs.Wire.{frame_text, moved_text}
use Rattle.kn_h2.specs.Sending.{spent_by}
use Rattle.kn_h2.specs.Written.{granted_by}

-- ---- acts

-- A piece of the peer's bytes is fed; so many events are taken; so much text of a stream is taken; a stream is begun,
-- answered, queued to, finished, or reset with a code; a move of `fill` is made; so many bytes of `out` go to the peer.
pub data Act : Type 0 where
  Feeds : List ℕ → Act
  Tells : ℕ → Act
  Takes : ℕ → ℕ → Act
  Begins : List Field → Act
  Answers : ℕ → List Field → Act
  Queues : ℕ → List ℕ → Act
  Finishes : ℕ → List Field → Act
  Resets : ℕ → ℕ → Act
  Makes : Move → Act
  Writes : ℕ → Act

-- an act may be done: what the calls of a connection ask, and that they are not refused
abbrev pub MayDo : State → Act → Type 0
MayDo s (Feeds piece) = IsBytes piece
MayDo s (Tells count) = Unit {0}
MayDo s (Takes m count) = count ≤ length (text_of s m)
MayDo s (Begins fields) = (s.role ≡ Client) × (begin_refusal s ≡ None)
MayDo s (Answers m fields) = (s.role ≡ Server) × (refusal takes_more s m ≡ None) × (on_open s.streams m (λ st. takes_more st && st.answered) ≡ false)
MayDo s (Queues m bytes) = (queue_refusal s m ≡ None) × (on_open s.streams m (λ st. takes_more st && not (is_client s.role) && not st.answered) ≡ false)
MayDo s (Finishes m trailers) = (is_client s.role ≡ true → trailers ≡ []) × (refusal takes_more s m ≡ None)
MayDo s (Resets m code) = refusal (λ st. st.own_open) s m ≡ None
MayDo s (Makes move) = may s move ≡ true
MayDo s (Writes count) = count ≤ length s.out.bytes

abbrev pub with_state : Connection → State → Connection
with_state c s = record c { state = s }

-- the connection after it
abbrev pub after : Connection → Act → Connection
after c (Feeds piece) = after_piece c piece
after c (Tells count) = with_state c (record c.state { events = drop count c.state.events })
after c (Takes m count) = with_state c (after_take m count c.state)
after c (Begins fields) = with_state c (after_begin fields c.state)
after c (Answers m fields) = with_state c (after_answer m fields c.state)
after c (Queues m bytes) = with_state c (after_queue m bytes c.state)
after c (Finishes m trailers) = with_state c (after_finish m trailers c.state)
after c (Resets m code) = with_state c (after_reset m code c.state)
after c (Makes move) = with_state c (after_move c.state move)
after c (Writes count) = with_state c (after_took count c.state)

-- ---- what an act does to the sums of a stream n

abbrev pub fed_by : Act → List ℕ
fed_by (Feeds piece) = piece
fed_by _ = []

-- the text of the stream that is taken
abbrev pub given_by : ℕ → State → Act → List ℕ
given_by n s (Takes m count) = if m == n then take count (text_of s n) else []
given_by n s _ = []

-- of the frames, the text of DATA on the stream while the peer's half of it is open
unfoldable pub heard_in : ℕ → State → List Frame → List ℕ
heard_in n s [] = []
heard_in n s (f ∷ fs) = (if is_peer_open n s then frame_text n f else []) ++ heard_in n (after_frame s f) fs

abbrev pub heard_by : ℕ → Connection → Act → List ℕ
heard_by n c (Feeds piece) = heard_in n c.state (frames_in c.cutter piece)
heard_by n c _ = []

abbrev pub queued_by : ℕ → Act → List ℕ
queued_by n (Queues m bytes) = if m == n then bytes else []
queued_by n _ = []

-- what a move sends of its queue
abbrev pub sent_by : ℕ → State → Act → List ℕ
sent_by n s (Makes move) = moved_text n s move
sent_by n s _ = []

-- a move writes the end of this end's half
abbrev pub ends_half : ℕ → Move → Bool
ends_half n GrantAll = false
ends_half n (Grant k) = false
ends_half n (Send k count) = false
ends_half n (End k) = k == n
ends_half n (Stop k) = false

abbrev pub ended_by : ℕ → Act → Bool
ended_by n (Makes move) = ends_half n move
ended_by n _ = false

-- how many bytes of DATA a move sends, on any stream
abbrev pub spends_of : Act → ℕ
spends_of (Makes move) = spent_by move
spends_of _ = 0

-- by how much a move grants the window of the connection, which counts as stream 0
abbrev pub grants : State → Act → ℕ
grants s (Makes move) = granted_by 0 s move
grants s _ = 0

-- by how much a move grants the window of the stream
abbrev pub grants_to : ℕ → State → Act → ℕ
grants_to n s (Makes move) = granted_by n s move
grants_to n s _ = 0

-- ---- a life, in which one stream is looked at

-- The connection, and all bytes that were fed. Of the stream: the text that came, and what was given of it; what was
-- queued, and what was sent of it; whether the end of this end's half was written; and what was granted of its window.
-- Of the connection: how many bytes of DATA were sent, and what was granted.
pub record Course : Type 0 where
  pub connection : Connection
  pub fed : List ℕ
  pub heard : List ℕ
  pub given : List ℕ
  pub queued : List ℕ
  pub sent : List ℕ
  pub ended : Bool
  pub returned : ℕ
  pub spent : ℕ
  pub granted : ℕ

-- a new connection
abbrev pub begins : Role → Course
begins role = record { connection = fresh role; fed = []; heard = []; given = []; queued = []; sent = []; ended = false; returned = 0; spent = 0; granted = 0 }

abbrev pub after_act : ℕ → Course → Act → Course
after_act n c a = record {
  connection = after c.connection a;
  fed = c.fed ++ fed_by a;
  heard = c.heard ++ heard_by n c.connection a;
  given = c.given ++ given_by n c.connection.state a;
  queued = c.queued ++ queued_by n a;
  sent = c.sent ++ sent_by n c.connection.state a;
  ended = c.ended || ended_by n a;
  returned = c.returned + grants_to n c.connection.state a;
  spent = c.spent + spends_of a;
  granted = c.granted + grants c.connection.state a;
}

abbrev pub after_acts : ℕ → Course → List Act → Course
after_acts n c [] = c
after_acts n c (a ∷ later) = after_acts n (after_act n c a) later

-- each of the acts may be done where it is done
abbrev pub MayDoAll : ℕ → Course → List Act → Type 0
MayDoAll n c [] = Unit {0}
MayDoAll n c (a ∷ later) = MayDo c.connection.state a × MayDoAll n (after_act n c a) later

-- this is true after every list of acts from a new connection on, whatever stream is looked at
abbrev pub OfEveryLife : (ℕ → Role → Course → Type 0) → Type 0
OfEveryLife P = (n : ℕ) (role : Role) (acts : List Act) → MayDoAll n (begins role) acts → P n role (after_acts n (begins role) acts)

-- what cuts the peer's bytes into frames, before the first of them
abbrev pub first_reading : Role → Reading
first_reading role = start (not (is_client role))
