-- What a frame does that breaks no rule, and how a connection fails (RFC 9113, sections 5 to 8).
use Rattle.std.specs.Prelude.{ℕ, pos, ◌+◌, ◌-◌, ◌+ℤ◌, ◌-ℤ◌, ◌==◌, nat_le, nat_lt, Bool, true, false, not, ◌&&◌, ◌||◌, List, [], ◌∷◌, ◌++◌, length, Option, Some, None, Result, Ok, Err, if◌then◌else◌}
use Rattle.kn_frames.specs.declared.frame.Frame.{Frame}
use Rattle.kn_frames.specs.Frames.{spelled}
use Rattle.kn_hpack.specs.Fields.{Field}
use Rattle.kn_hpack.specs.Blocks.{Progress, read_block}
use Rattle.kn_hpack.specs.declared.fault.HpackFault.{HpackFault}
use Rattle.kn_h2_state.specs.declared.event.H2Event.{H2Event}
use Rattle.kn_h2_state.specs.declared.event.H2Event.TheVariants.{Opened, Head, Text, Ended, Reset, Away, Closed}
use Rattle.kn_h2_state.specs.declared.stream.Stream.{Stream}
use Rattle.kn_h2_state.specs.declared.state.Block.{Block}
use Rattle.kn_h2_state.specs.declared.state.State.{State}
use Rattle.kn_h2_state.specs.Limits.{stream_window, reply_limit, stream_limit}
use Rattle.kn_h2_state.specs.Outgoing.{reply_bytes, put}
use Rattle.kn_h2_state.specs.Streams.{is_open, stream_at, change, tidied, open_count, shut}
use Rattle.kn_h2_state.specs.Payloads.{has, content, number_at, increment_of, settings_of, reset_frame, goaway_frame}
use Rattle.kn_h2_state.specs.Heads.{is_malformed_request, is_malformed_response, is_informational}
use Rattle.kn_h2_state.specs.Rules.{is_client, block_with, ends_block, shifted}

-- ---- the parts of which effects are made

abbrev pub event : State → H2Event → State
event s e = record s { events = s.events ++ e ∷ [] }

-- the highest stream that the peer opened: a server opens none
abbrev pub highest_of_peer : State → ℕ
highest_of_peer s = if is_client s.role then 0 else s.opened

-- The connection fails (section 5.4.1): GOAWAY is the last frame, and Closed the last event.
unfoldable pub fail : ℕ → State → State
fail code s = record s {
  failed = Some code;
  out = put s.out false (goaway_frame (highest_of_peer s) code);
  events = s.events ++ Closed code ∷ [];
}

-- a reply frame, or the end where too many would wait (section 10.5)
unfoldable pub reply : List ℕ → State → State
reply frame s =
    if nat_lt reply_limit (reply_bytes s.out + length frame) then fail 11 s
    else record s { out = put s.out true frame }

-- one stream changed, and dropped if nothing of it is left
abbrev pub on_stream : ℕ → (Stream → Stream) → State → State
on_stream n f s = record s { streams = tidied (change s.streams n f) }

-- the peer's half ends
unfoldable pub peer_ends : ℕ → State → State
peer_ends n s = event (on_stream n (λ st. record st { peer_open = false }) s) (Ended n)

-- the stream is open, and then this
abbrev pub if_open : Option Stream → State → (Stream → State) → State
if_open None s next = s
if_open (Some st) s next = if is_open st then next st else s

-- ---- DATA (section 6.1)

-- a stream with this much less window, and this text behind the other. What is no text, the padding, counts as taken
abbrev pub with_text : ℕ → List ℕ → Stream → Stream
with_text n text st = record st { receive = st.receive -ℤ pos n; owed = st.owed + (n - length text); text = st.text ++ text }

-- the windows shrink, and the text waits to be taken (section 6.9.1)
unfoldable pub data_taken : Frame → State → State
data_taken f s =
    let n = length f.payload in
    record s {
      receive = s.receive -ℤ pos n;
      owed = s.owed + (n - length (content f));
      streams = change s.streams f.stream (with_text n (content f));
    }

-- text is told where there is some
abbrev pub text_told : ℕ → List ℕ → State → State
text_told n text s = if length text == 0 then s else event s (Text n)

abbrev pub ended_if : Bool → ℕ → State → State
ended_if ends n s = if ends then peer_ends n s else s

-- on an open stream
unfoldable pub data_in : Frame → State → State
data_in f s = ended_if (has f 1) f.stream (text_told f.stream (content f) (data_taken f s))

-- on a closed stream: dropped, and it counts as taken on the connection (section 5.1)
unfoldable pub data_dropped : Frame → State → State
data_dropped f s = record s { receive = s.receive -ℤ pos (length f.payload); owed = s.owed + length f.payload }

abbrev pub data_of : Frame → State → Option Stream → State
data_of f s None = data_dropped f s
data_of f s (Some st) = if is_open st then data_in f s else data_dropped f s

-- ---- header blocks (sections 6.2, 6.10 and 8.1)

-- a stream at its beginning: both halves are open
abbrev pub new_stream : ℕ → State → Stream
new_stream n s = record {
  number = n;
  receive = pos stream_window;
  send = pos s.initial;
  text = [];
  owed = 0;
  queue = [];
  answered = false;
  peer_open = true;
  own_open = true;
  finish = None;
  resets = false;
}

abbrev pub opens : ℕ → State → State
opens n s = record s { opened = n }

-- a request begins a stream
unfoldable pub accepted : ℕ → Bool → List Field → State → State
accepted n ends fields s =
    ended_if ends n (event (record s { opened = n; streams = s.streams ++ new_stream n s ∷ [] }) (Opened n fields))

-- a request on a new stream: refused with REFUSED_STREAM where as many are open as may be (section 5.1.2), and
-- with PROTOCOL_ERROR where it is malformed (section 8.1.1)
unfoldable pub request : ℕ → Bool → List Field → State → State
request n ends fields s =
    if nat_le stream_limit (open_count s.streams) then reply (reset_frame n 7) (opens n s)
    else (if is_malformed_request fields then reply (reset_frame n 1) (opens n s)
    else accepted n ends fields s)

-- the head of a response
unfoldable pub headed : ℕ → Bool → List Field → State → State
headed n ends fields s = ended_if ends n (event (on_stream n (λ st. record st { answered = true }) s) (Head n fields))

-- a malformed response: the stream is reset with PROTOCOL_ERROR
unfoldable pub refused_response : ℕ → State → State
refused_response n s = reply (reset_frame n 1) (event (on_stream n shut s) (Reset n 1))

-- A head on an open stream of a client: trailers after the head, an interim response, a malformed one, or the head.
unfoldable pub response : ℕ → Bool → List Field → Stream → State → State
response n ends fields st s =
    if st.answered then peer_ends n s
    else (if is_informational fields && not ends then s
    else (if is_malformed_response fields || is_informational fields then refused_response n s
    else headed n ends fields s))

-- the fields of a block that has ended: at a server a request, or the trailers of one
unfoldable pub head_of : ℕ → Bool → List Field → State → State
head_of n ends fields s =
    if is_client s.role then if_open (stream_at s.streams n) s (λ st. response n ends fields st s)
    else (if nat_lt s.opened n then request n ends fields s
    else if_open (stream_at s.streams n) s (λ st. peer_ends n s))

-- no block is under way, and the decoder has read one more
abbrev pub decoded : ℕ → Bool → State → Result Progress HpackFault → State
decoded n ends s (Ok p) = head_of n ends p.fields (record s { block = None; decoder = p.table })
decoded n ends s (Err e) = s

-- the stream ends with the block: its HEADERS had END_STREAM
abbrev pub block_ends : Option Block → Frame → Bool
block_ends None f = has f 1
block_ends (Some b) f = b.ends

-- the block goes on
unfoldable pub block_grown : Frame → State → State
block_grown f s = record s { block = Some (record { stream = f.stream; ends = block_ends s.block f; bytes = block_with s f }) }

unfoldable pub block_of_headers : Frame → State → State
block_of_headers f s =
    if ends_block f then decoded f.stream (block_ends s.block f) s (read_block s.decoder (block_with s f))
    else block_grown f s

-- ---- RST_STREAM (section 6.4)

-- The stream is gone, and its text counts as taken on the connection.
unfoldable pub cut_off : ℕ → ℕ → Stream → State → State
cut_off n code st s =
    event (record (on_stream n (λ st. record (shut st) { text = [] }) s) { owed = s.owed + length st.text }) (Reset n code)

-- A client whose response is whole takes NO_ERROR for no loss (section 8.1): the text stays until it is taken.
unfoldable pub reset_of : Frame → Stream → State → State
reset_of f st s =
    if is_client s.role && (number_at f.payload 0 == 0) && not st.peer_open then on_stream f.stream shut s
    else cut_off f.stream (number_at f.payload 0) st s

-- ---- SETTINGS (section 6.5)

-- INITIAL_WINDOW_SIZE and MAX_CONCURRENT_STREAMS; no other setting changes what this end sends
unfoldable pub after_setting : State → ℕ × ℕ → State
after_setting s x =
    if x.0 == 4 then record s { initial = x.1; streams = shifted s.initial x.1 s.streams }
    else (if x.0 == 3 then record s { most = Some x.1 } else s)

unfoldable pub after_settings : State → List (ℕ × ℕ) → State
after_settings s [] = s
after_settings s (x ∷ xs) = after_settings (after_setting s x) xs

-- they are taken in turn, and then acknowledged (section 6.5.3)
unfoldable pub settings : Frame → State → State
settings f s = if has f 1 then s else reply (spelled 4 1 0 []) (after_settings s (settings_of f.payload))

-- ---- PING and GOAWAY (sections 6.7 and 6.8)

-- the eight bytes go back
unfoldable pub ping : Frame → State → State
ping f s = if has f 1 then s else reply (spelled 6 1 0 f.payload) s

unfoldable pub goaway : Frame → State → State
goaway f s = event (record s { away = true }) (Away (number_at f.payload 4))

-- ---- WINDOW_UPDATE (section 6.9)

abbrev pub with_grant : ℕ → Stream → Stream
with_grant by st = if is_open st then record st { send = st.send +ℤ pos by } else st

unfoldable pub window_update : Frame → State → State
window_update f s =
    if f.stream == 0 then record s { send = s.send +ℤ pos (increment_of f.payload) }
    else record s { streams = change s.streams f.stream (with_grant (increment_of f.payload)) }

-- ---- a frame

-- What a frame does that breaks no rule. PRIORITY and unknown types do nothing (sections 5.3 and 5.5).
unfoldable pub effect : State → Frame → State
effect s f =
    if f.kind == 0 then data_of f s (stream_at s.streams f.stream)
    else (if (f.kind == 1) || (f.kind == 9) then block_of_headers f s
    else (if f.kind == 3 then if_open (stream_at s.streams f.stream) s (λ st. reset_of f st s)
    else (if f.kind == 4 then settings f s
    else (if f.kind == 6 then ping f s
    else (if f.kind == 7 then goaway f s
    else (if f.kind == 8 then window_update f s
    else s))))))
