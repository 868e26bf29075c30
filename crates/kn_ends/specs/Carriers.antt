-- One HTTP/2 connection whose streams carry packets: what comes of its steps.
use Rattle.std.specs.Prelude.{◌≡◌, ℕ, nat_lt, Bool, true, false, not, ◌&&◌, ◌||◌, List, [], ◌∷◌, ◌++◌, length, Option, Some, None, is_some, is_none, ◌==◌, if◌then◌else◌}
use Rattle.kn_hpack.specs.Fields.{Field}
use Rattle.kn_packet.specs.declared.packet.Packet.{Packet}
use Rattle.kn_grpc.specs.Readers.{First, Reading, start, taken, fed, fault_in, popped}
use Rattle.kn_grpc.specs.Packets.{first_of}
use Rattle.kn_h2_state.specs.declared.event.H2Event.{H2Event}
use Rattle.kn_h2_state.specs.declared.moves.Move.{Move}
use Rattle.kn_h2_state.specs.declared.refusal.QueueRefusal.{QueueRefusal}
use Rattle.kn_h2_state.specs.declared.state.State.{State}
use Rattle.kn_h2_state.specs.Streams.{on_open}
use Rattle.kn_h2_state.specs.Rules.{is_client}
use Rattle.kn_h2_state.specs.Limits.{queue_limit}
use Rattle.kn_h2_state.specs.Feeding.{after_piece}
use Rattle.kn_h2_state.specs.Moves.{may, after_move}
use Rattle.kn_h2_state.specs.Moves as h2
use Rattle.kn_h2_state.specs.Calls.{text_of, queue_of, after_take, takes_more, refusal, after_queue, after_finish, after_answer, after_reset, after_took, next_number, begin_refusal, after_begin, is_closed, unsent}
use Rattle.kn_ends.specs.declared.who.Who.{Who}
use Rattle.kn_ends.specs.declared.inlet.Inlet.{Inlet}
use Rattle.kn_ends.specs.declared.carrier.Carrier.{Carrier}
use Rattle.kn_ends.specs.Numbers.{at, change, without}
use Rattle.kn_ends.specs.Queues.{is_empty}

abbrev pub inlet_at : List Inlet → ℕ → Option Inlet
inlet_at is n = at (λ (i : Inlet). i.stream) is n

abbrev pub change_inlet : List Inlet → ℕ → (Inlet → Inlet) → List Inlet
change_inlet is n f = change (λ (i : Inlet). i.stream) is n f

abbrev pub on_inlet : ℕ → (Inlet → Inlet) → Carrier → Carrier
on_inlet n f c = record c { inlets = change_inlet c.inlets n f }

abbrev pub on_conn : (State → State) → Carrier → Carrier
on_conn f c = record c { conn = record c.conn { state = f c.conn.state } }

-- it was not lost and has not failed
abbrev pub is_live : Carrier → Bool
is_live c = not c.lost && is_none c.conn.state.failed

-- ---- what came in

abbrev pub kept_in : Option Inlet → List ℕ
kept_in None = []
kept_in (Some i) = i.messages.kept

-- all that came of a stream and was not handled
abbrev pub unhandled : Carrier → ℕ → List ℕ
unhandled c n = kept_in (inlet_at c.inlets n) ++ text_of c.conn.state n

-- what stands at the front of a stream
abbrev pub front_of : Carrier → ℕ → First Packet ℕ
front_of c n = first_of (unhandled c n)

-- how much of its text goes to the message under way: up to its end, or all where no message begins so
abbrev pub count_with : Bool → List ℕ → ℕ → ℕ
count_with true text count = length text
count_with false text count = count

abbrev pub read_by : Reading → List ℕ → ℕ
read_by r text = count_with (is_some (fault_in (fed r text))) text (taken r.kept text)

-- a deaf stream takes and drops all
abbrev pub read_count : Option Inlet → List ℕ → ℕ
read_count None text = length text
read_count (Some i) text = read_by i.messages text

unfoldable pub can_read : Carrier → ℕ → Bool
can_read c n = is_live c && nat_lt 0 (read_count (inlet_at c.inlets n) (text_of c.conn.state n))

abbrev pub with_read : List ℕ → Inlet → Inlet
with_read text i = record i { messages = fed i.messages text }

-- text goes from the connection to the message under way
unfoldable pub after_read : ℕ → Carrier → Carrier
after_read n c = record c {
  conn = record c.conn { state = after_take n (read_count (inlet_at c.inlets n) (text_of c.conn.state n)) c.conn.state };
  inlets = change_inlet c.inlets n (with_read (text_of c.conn.state n));
}

-- ---- what goes out

-- a call that is refused does nothing
abbrev pub unless_refused : Option QueueRefusal → State → State → State
unless_refused None s t = t
unless_refused (Some r) s t = s

-- the stream was not answered yet
abbrev pub awaits_answer : State → ℕ → Bool
awaits_answer s n = on_open s.streams n (λ st. takes_more st && not (is_client s.role) && not st.answered)

-- this end's half of the stream takes nothing more, or the connection failed
abbrev pub is_over : State → ℕ → Bool
is_over s n = is_some (refusal takes_more s n)

-- more bytes wait already than a queue may hold
abbrev pub is_full : State → ℕ → Bool
is_full s n = nat_lt queue_limit (length (queue_of s n))

-- Bytes are queued. A stream that is over or was not answered yet drops them; so does, apart from that, one whose queue is
-- full.
unfoldable pub queued : ℕ → List ℕ → State → State
queued n bytes s = if awaits_answer s n then s else (if is_over s n then s else (if is_full s n then s else after_queue n bytes s))

-- bytes are queued, where the stream still takes any
abbrev pub queue_bytes : ℕ → List ℕ → Carrier → Carrier
queue_bytes n bytes c = if c.lost then c else on_conn (queued n bytes) c

unfoldable pub finished : ℕ → List Field → State → State
finished n fields s = if is_client s.role then s else unless_refused (refusal takes_more s n) s (after_finish n fields s)

abbrev pub finish_stream : ℕ → List Field → Carrier → Carrier
finish_stream n fields c = if c.lost then c else on_conn (finished n fields) c

-- ---- what is written where there is room

unfoldable pub can_write : Carrier → Move → Bool
can_write c m = not c.lost && may c.conn.state m

abbrev pub after_write : Move → Carrier → Carrier
after_write m c = on_conn (λ s. after_move s m) c

-- what may be written was, and nothing else is other than before
abbrev pub Fills : Carrier → Carrier → Type 0
Fills old new = (new ≡ on_conn (λ s. new.conn.state) old) × h2.Reaches old.conn.state new.conn.state

-- ---- a message is taken

abbrev pub with_popped : Inlet → Inlet
with_popped i = record i { messages = popped i.messages }

-- the message that is whole is taken, and the text behind it read
unfoldable pub taken_from : ℕ → Carrier → Carrier
taken_from s c = after_read s (on_inlet s with_popped c)

-- nothing more of a stream is handled, and what came of it is dropped
unfoldable pub deafened : ℕ → Carrier → Carrier
deafened n c = after_read n (record c { inlets = without (λ (i : Inlet). i.stream) c.inlets n })

-- ---- what the peer does

abbrev pub with_end : Inlet → Inlet
with_end i = record i { ended = true }

-- what was under way is dropped
abbrev pub with_reset : Inlet → Inlet
with_reset i = record i { messages = start; ended = true }

abbrev pub fed_with : List ℕ → Carrier → Carrier
fed_with piece c = record c { conn = after_piece c.conn piece }

-- ---- answers

-- the head of an answer is written, where the stream still takes one
unfoldable pub answered : ℕ → List Field → State → State
answered n fields s = if awaits_answer s n then unless_refused (refusal takes_more s n) s (after_answer n fields s) else s

abbrev pub answer_stream : ℕ → List Field → Carrier → Carrier
answer_stream n fields c = if c.lost then c else on_conn (answered n fields) c

-- ---- streams begin, and are given up

abbrev pub new_inlet : ℕ → Who → Inlet
new_inlet n who = record { stream = n; who = who; messages = start; ended = false }

-- somebody has the stream: what comes on it is kept
abbrev pub with_inlet : ℕ → Who → Carrier → Carrier
with_inlet n who c = record c { inlets = c.inlets ++ new_inlet n who ∷ [] }

-- a client's connection begins a stream
abbrev pub can_begin : Carrier → Bool
can_begin c = not c.lost && (is_client c.conn.state.role && is_none (begin_refusal c.conn.state))

-- the next stream begins with this head, and somebody has it
abbrev pub with_call : List Field → Who → Carrier → Carrier
with_call fields who c = with_inlet (next_number c.conn.state) who (on_conn (after_begin fields) c)

unfoldable pub reset_with : ℕ → ℕ → State → State
reset_with n code s = unless_refused (refusal (λ st. st.own_open) s n) s (after_reset n code s)

-- a stream is given up, where this end's half of it is open
abbrev pub reset_stream : ℕ → ℕ → Carrier → Carrier
reset_stream n code c = if c.lost then c else on_conn (reset_with n code) c

-- ---- the socket

-- what waits for the socket; what is left at a loss is dropped
abbrev pub out_of : Carrier → List ℕ
out_of c = if c.lost then [] else c.conn.state.out.bytes

-- so many bytes went to the socket
abbrev pub took : ℕ → Carrier → Carrier
took count c = if c.lost then c else on_conn (after_took count) c

abbrev pub with_loss : Carrier → Carrier
with_loss c = record c { lost = true }

-- it was lost, or it failed and all is written
abbrev pub is_gone : Carrier → Bool
is_gone c = c.lost || (is_some c.conn.state.failed && is_empty c.conn.state.out.bytes)

-- the stream of somebody may still be open
abbrev pub counts : ℕ → Carrier → Bool
counts n c = is_live c && not (is_closed c.conn.state n)

-- ---- what it told

abbrev pub without_events : Carrier → Carrier
without_events c = on_conn (λ s. record s { events = [] }) c

-- the first of what it told is taken
abbrev pub events_then : List H2Event → Carrier → Carrier
events_then events c = on_conn (λ s. record s { events = events }) c

-- ---- nothing is under way

-- no message or part of one is kept for the stream, and no text
abbrev pub is_bare_inlet : Carrier → Inlet → Bool
is_bare_inlet c i = is_empty i.messages.kept && is_empty (text_of c.conn.state i.stream)

abbrev pub are_bare : Carrier → List Inlet → Bool
are_bare c [] = true
are_bare c (i ∷ is) = is_bare_inlet c i && are_bare c is

-- nothing is queued, and no part of a frame was read
abbrev pub is_idle : State → List ℕ → Bool
is_idle s rest = (unsent s.streams == 0) && is_empty rest

-- it was lost, or nothing waits for the socket and it failed, or nothing is under way on it
abbrev pub is_bare : Carrier → Bool
is_bare c = c.lost || (is_empty c.conn.state.out.bytes && (is_some c.conn.state.failed || (is_idle c.conn.state c.conn.cutter.rest && are_bare c c.inlets)))

-- all text that came was read
abbrev pub IsAllRead : Carrier → Type 0
IsAllRead c = (n : ℕ) → can_read c n ≡ false
