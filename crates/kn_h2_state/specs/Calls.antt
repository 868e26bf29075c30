-- What the calls of this end do, and when they are refused.
use Rattle.std.specs.Prelude.{◌≡◌, ℕ, pos, ◌+◌, ◌-◌, ◌%◌, ◌==◌, nat_le, nat_lt, Bool, true, false, not, ◌&&◌, List, [], ◌∷◌, ◌++◌, length, drop, Option, Some, None, is_none, if◌then◌else◌}
use Rattle.kn_frames.specs.Frames.{preface, spelled}
use Rattle.kn_frames.specs.Readers.{start}
use Rattle.kn_hpack.specs.Fields.{Field}
use Rattle.kn_hpack.specs.Encoding.{block_of}
use Rattle.kn_h2_state.specs.declared.role.Role.{Role}
use Rattle.kn_h2_state.specs.declared.role.Role.TheVariants.{Server, Client}
use Rattle.kn_h2_state.specs.declared.refusal.BeginRefusal.{BeginRefusal}
use Rattle.kn_h2_state.specs.declared.refusal.BeginRefusal.TheVariants as begins
use Rattle.kn_h2_state.specs.declared.refusal.QueueRefusal.{QueueRefusal}
use Rattle.kn_h2_state.specs.declared.refusal.QueueRefusal.TheVariants as queues
use Rattle.kn_h2_state.specs.declared.stream.Stream.{Stream}
use Rattle.kn_h2_state.specs.declared.state.State.{State}
use Rattle.kn_h2_state.specs.Limits.{default_window, connection_window, stream_limit, list_limit, queue_limit, highest_stream}
use Rattle.kn_h2_state.specs.Decoded.{first_table}
use Rattle.kn_h2_state.specs.Outgoing.{nothing_out, put, taken}
use Rattle.kn_h2_state.specs.Streams.{stream_at, change, open_count, on_open, shut}
use Rattle.kn_h2_state.specs.Payloads.{setting_text, reset_frame, grant_frame}
use Rattle.kn_h2_state.specs.Rules.{is_client}
use Rattle.kn_h2_state.specs.Effects.{reply, on_stream, new_stream}
use Rattle.kn_h2_state.specs.Feeding.{Connection}
use Rattle.kn_h2_state.specs.Moves.{headers_frames}

-- a call changed the state, and left what cuts the bytes into frames
abbrev pub Changes : Connection → Connection → (State → State) → Type 0
Changes old new f = new ≡ record old { state = f old.state }

-- ---- a new connection (RFC 9113, section 3.4)

-- WINDOW_UPDATE of the connection, from the default
abbrev pub opening_grant : List ℕ
opening_grant = grant_frame 0 (connection_window - default_window)

-- A server sends SETTINGS with MAX_CONCURRENT_STREAMS and MAX_HEADER_LIST_SIZE; a client the preface, and SETTINGS with
-- ENABLE_PUSH 0 and MAX_HEADER_LIST_SIZE. The grant follows.
unfoldable pub opening : Role → List ℕ
opening Server = spelled 4 0 0 (setting_text 3 stream_limit ++ setting_text 6 list_limit) ++ opening_grant
opening Client = preface ++ (spelled 4 0 0 (setting_text 2 0 ++ setting_text 6 list_limit) ++ opening_grant)

unfoldable pub fresh_state : Role → State
fresh_state role = record {
  role = role;
  failed = None;
  began = false;
  away = false;
  block = None;
  decoder = first_table;
  encoder = false;
  initial = default_window;
  most = None;
  receive = pos connection_window;
  send = pos default_window;
  owed = 0;
  opened = 0;
  streams = [];
  out = put nothing_out false (opening role);
  events = [];
}

-- a client's bytes begin with the preface
unfoldable pub fresh : Role → Connection
fresh role = record { cutter = start (not (is_client role)); state = fresh_state role }

-- ---- text that was taken

-- a stream with its first bytes of text taken
abbrev pub with_taken : ℕ → Stream → Stream
with_taken count st = record st { text = drop count st.text; owed = st.owed + count }

unfoldable pub after_take : ℕ → ℕ → State → State
after_take n count s = record (on_stream n (with_taken count) s) { owed = s.owed + count }

abbrev pub text_in : Option Stream → List ℕ
text_in None = []
text_in (Some st) = st.text

abbrev pub text_of : State → ℕ → List ℕ
text_of s n = text_in (stream_at s.streams n)

-- ---- a new stream (section 5.1.1)

abbrev pub is_many : Option ℕ → ℕ → Bool
is_many None count = false
is_many (Some most) count = nat_le most count

abbrev pub next_number : State → ℕ
next_number s = if s.opened == 0 then 1 else s.opened + 2

abbrev pub begin_refused : State → Option ℕ → Option BeginRefusal
begin_refused s (Some code) = Some (begins.Gone code)
begin_refused s None =
    if s.away then Some begins.Away
    else (if is_many s.most (open_count s.streams) then Some begins.Many
    else (if nat_lt highest_stream (next_number s) then Some begins.Numbers
    else None))

-- why no stream is begun: the first cause that holds
unfoldable pub begin_refusal : State → Option BeginRefusal
begin_refusal s = begin_refused s s.failed

unfoldable pub after_begin : List Field → State → State
after_begin fields s =
    let n = next_number s in
    record s {
      opened = n;
      streams = s.streams ++ new_stream n s ∷ [];
      out = put s.out false (headers_frames n 0 (block_of s.encoder fields));
      encoder = true;
    }

-- ---- the own half of a stream

-- it is open, and its end was not asked for
abbrev pub takes_more : Stream → Bool
takes_more st = st.own_open && is_none st.finish

abbrev pub queue_in : Option Stream → List ℕ
queue_in None = []
queue_in (Some st) = st.queue

abbrev pub queue_of : State → ℕ → List ℕ
queue_of s n = queue_in (stream_at s.streams n)

-- the bytes that are queued on all streams together
unfoldable pub unsent : List Stream → ℕ
unsent [] = 0
unsent (st ∷ ss) = length st.queue + unsent ss

abbrev pub refused_where : Option ℕ → Bool → Option QueueRefusal
refused_where (Some code) fits = Some (queues.Gone code)
refused_where None true = None
refused_where None false = Some queues.NoStream

-- why a call on a stream is refused that needs this of the stream
unfoldable pub refusal : (Stream → Bool) → State → ℕ → Option QueueRefusal
refusal needs s n = refused_where s.failed (on_open s.streams n needs)

-- `queue` alone has one cause more
abbrev pub or_full : ℕ → Option QueueRefusal → Option QueueRefusal
or_full held (Some r) = Some r
or_full held None = if nat_lt queue_limit held then Some (queues.Full held) else None

unfoldable pub queue_refusal : State → ℕ → Option QueueRefusal
queue_refusal s n = or_full (length (queue_of s n)) (refusal takes_more s n)

abbrev pub with_queued : List ℕ → Stream → Stream
with_queued bytes st = record st { queue = st.queue ++ bytes }

unfoldable pub after_queue : ℕ → List ℕ → State → State
after_queue n bytes s = record s { streams = change s.streams n (with_queued bytes) }

abbrev pub with_finish : List Field → Stream → Stream
with_finish trailers st = record st { finish = Some trailers }

unfoldable pub after_finish : ℕ → List Field → State → State
after_finish n trailers s = record s { streams = change s.streams n (with_finish trailers) }

-- the head of a response counts as a reply frame
unfoldable pub after_answer : ℕ → List Field → State → State
after_answer n fields s =
    reply (headers_frames n 0 (block_of s.encoder fields))
    (record s { streams = change s.streams n (λ st. record st { answered = true }); encoder = true })

unfoldable pub after_reset : ℕ → ℕ → State → State
after_reset n code s = reply (reset_frame n code) (on_stream n shut s)

-- ---- what waits for the socket, and what is told

unfoldable pub after_took : ℕ → State → State
after_took count s = record s { out = taken s.out count }

-- ---- a closed stream: neither idle nor open (section 5.1)
unfoldable pub is_closed : State → ℕ → Bool
is_closed s n = not (n % 2 == 0) && nat_le n s.opened && not (on_open s.streams n (λ st. true))
