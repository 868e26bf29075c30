-- What is on its way on a stream, from one end of a connection to the other: what came and was not handled, what is on the wire, and what waits to be
-- written.
use Rattle.std.specs.Prelude.{◌≡◌, ◌≤◌, ◌==◌, ℕ, true, false, List, [], ◌++◌, take, None, Some}
use Rattle.std.specs.List.{AllByRecursion}
use Rattle.kn_frames.specs.declared.frame.Frame.{Frame}
use Rattle.kn_frames.specs.Readers.{frames_in}
use Rattle.kn_h2_state.specs.declared.state.State.{State}
use Rattle.kn_h2_state.specs.Payloads.{number_at}
use Rattle.kn_h2_state.specs.Rules.{is_client, verdict}
use Rattle.kn_h2_state.specs.Feeding.{after_frame, after_frames, after_piece}
use Rattle.kn_h2_state.specs.declared.stream.Stream.{Stream}
use Rattle.kn_h2_state.specs.Streams.{stream_at}
use Rattle.kn_h2_state.specs.Moves.{Reaches}
use Rattle.kn_h2_state.specs.Calls.{text_of, queue_of, refusal, takes_more, after_take, after_queue}
use Rattle.kn_h2_state.specs.Hearing.{StaysOpen, is_peer_open, is_reset_of}
use Rattle.kn_h2_state.specs.Holding.{Holds}
use Rattle.kn_h2_state.specs.Wire.{Hears, wire_text, spellings}
use Rattle.kn_h2.specs.Written.{Brings}
use Rattle.kn_facing.specs.Ways.{Way, wire, IsWhole, delivered, entered, with_from}
use Rattle.kn_pending.specs.Packets.{IsFrontOf}

-- What came of a stream and was not handled: the bytes of the message under way, and text that nobody took.
abbrev pub unhandled : ℕ → List ℕ → Way → List ℕ
unhandled n kept w = kept ++ text_of w.to.state n

-- What was not written: what is queued, and what is kept behind a full queue.
abbrev pub unwritten : ℕ → Way → List ℕ → List ℕ
unwritten n w behind = queue_of w.from.state n ++ behind

abbrev pub pending : ℕ → List ℕ → Way → List ℕ → List ℕ
pending n kept w behind = unhandled n kept w ++ (wire_text n w.to.cutter (wire w) ++ unwritten n w behind)

-- ---- steps

-- the state of the end that reads changes
abbrev pub with_to : (State → State) → Way → Way
with_to f w = record w { to = record w.to { state = f w.to.state } }

-- ---- what they do to what is pending

-- a piece that comes, while the stream's half stays open, changes nothing
abbrev pub Delivers : Type 0
Delivers = (n : ℕ) (kept behind piece rest : List ℕ) (w : Way) → w.pipe ≡ piece ++ rest → Holds w.to.state → (after_piece w.to piece).state.failed ≡ None
    → StaysOpen n w.to.state (frames_in w.to.cutter piece)
    → pending n kept (delivered piece rest w) behind ≡ pending n kept w behind

-- so with frames each of which adds to the text what it brings
abbrev pub DeliversHeard : Type 0
DeliversHeard = (n : ℕ) (kept behind piece rest : List ℕ) (w : Way) → w.pipe ≡ piece ++ rest → (after_piece w.to piece).state.failed ≡ None
    → Hears n w.to.state (frames_in w.to.cutter piece)
    → pending n kept (delivered piece rest w) behind ≡ pending n kept w behind

-- a client whose response is whole is told to send no more, by a reset with no error: the text stays until it is taken (RFC 9113, section 8.1)
abbrev pub GentleReset : Type 0
GentleReset = (n : ℕ) (s : State) (f : Frame) → Holds s → s.failed ≡ None → verdict s f ≡ None → is_client s.role ≡ true → is_reset_of n f ≡ true → (number_at f.payload 0 == 0) ≡ true
    → is_peer_open n s ≡ false → text_of (after_frame s f) n ≡ text_of s n

-- once the stream's half is closed, what came of it stays as it was, whatever else comes but a reset of the stream
abbrev pub ClosedStays : Type 0
ClosedStays = (n : ℕ) (kept piece rest : List ℕ) (w : Way) → Holds w.to.state → n ≤ w.to.state.opened → (after_piece w.to piece).state.failed ≡ None → is_peer_open n w.to.state ≡ false
    → AllByRecursion (λ f. is_reset_of n f ≡ false) (frames_in w.to.cutter piece)
    → unhandled n kept (delivered piece rest w) ≡ unhandled n kept w

-- what goes on its way leaves what is pending as it was
abbrev pub Enters : Type 0
Enters = (n count : ℕ) (kept behind : List ℕ) (w : Way) → pending n kept (entered count w) behind ≡ pending n kept w behind

-- so does text that is taken to the message under way
abbrev pub Reads : Type 0
Reads = (n count : ℕ) (kept behind : List ℕ) (w : Way) → Holds w.to.state
    → pending n (kept ++ take count (text_of w.to.state n)) (with_to (after_take n count) w) behind ≡ pending n kept w behind

-- a message that is handled goes from the front
abbrev pub Handles : Type 0
Handles = (n : ℕ) (kept behind : List ℕ) (w : Way) → pending n kept w behind ≡ kept ++ pending n [] w behind

-- what is queued stands at the end
abbrev pub Queues : Type 0
Queues = (n : ℕ) (kept bytes : List ℕ) (w : Way) → refusal takes_more w.from.state n ≡ None
    → pending n kept (with_from (after_queue n bytes) w) [] ≡ pending n kept w [] ++ bytes

-- and so does what is kept behind a full queue
abbrev pub KeepsBehind : Type 0
KeepsBehind = (n : ℕ) (kept behind bytes : List ℕ) (w : Way) → pending n kept w (behind ++ bytes) ≡ pending n kept w behind ++ bytes

-- which goes to the queue from the front
abbrev pub Admits : Type 0
Admits = (n : ℕ) (kept first behind : List ℕ) (w : Way) → refusal takes_more w.from.state n ≡ None
    → pending n kept (with_from (after_queue n first) w) behind ≡ pending n kept w (first ++ behind)

-- frames that are written leave it as it was
abbrev pub Writes : Type 0
Writes = (n : ℕ) (kept behind : List ℕ) (w : Way) (new : State) → Holds w.from.state → IsWhole w → Reaches w.from.state new
    → pending n kept (with_from (λ s. new) w) behind ≡ pending n kept w behind

-- so do frames that bring no text: heads, acknowledgements, grants, resets
abbrev pub WritesNothing : Type 0
WritesNothing = (n granted spent ended : ℕ) (kept behind : List ℕ) (w : Way) (new : State) (fs : List Frame) → IsWhole w
    → new.out.bytes ≡ w.from.state.out.bytes ++ spellings fs → Brings n fs [] granted spent ended → queue_of new n ≡ queue_of w.from.state n
    → pending n kept (with_from (λ s. new) w) behind ≡ pending n kept w behind

-- ---- and a frame begins behind all that is on the wire, still
pub record Between : Type 0 where
  pub delivers : (piece rest : List ℕ) (w : Way) → w.pipe ≡ piece ++ rest → w.to.state.failed ≡ None → IsWhole w → IsWhole (delivered piece rest w)
  pub enters : (count : ℕ) (w : Way) → IsWhole w → IsWhole (entered count w)
  pub writes : (w : Way) (new : State) → Holds w.from.state → IsWhole w → Reaches w.from.state new → IsWhole (with_from (λ s. new) w)
  pub nothing : (n granted spent ended : ℕ) (w : Way) (new : State) (fs : List Frame) → IsWhole w
      → new.out.bytes ≡ w.from.state.out.bytes ++ spellings fs → Brings n fs [] granted spent ended → IsWhole (with_from (λ s. new) w)

-- ---- what frames that come leave of the queue: all of it, as long as this end's half is open behind them
abbrev pub QueueStays : Type 0
QueueStays = (n : ℕ) (s : State) (fs : List Frame) (st : Stream) → Holds s → stream_at (after_frames s fs).streams n ≡ Some st → st.own_open ≡ true → st.queue ≡ queue_of s n

-- ---- what is left where the sender lost its end: what it queued and what waited there go
abbrev pub LeavesFront : Type 0
LeavesFront = (n : ℕ) (kept behind : List ℕ) (w : Way) → IsFrontOf (unhandled n kept w ++ wire_text n w.to.cutter w.pipe) (pending n kept w behind)
