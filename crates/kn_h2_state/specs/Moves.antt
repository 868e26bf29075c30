-- What is written where there is room for it: grants, text, and ends of streams (RFC 9113, sections 6.9 and 8.1).
use Rattle.std.specs.Prelude.{◌≡◌, ℕ, zero, suc, ℤ, pos, ◌+◌, ◌+ℤ◌, ◌-ℤ◌, int_le, ◌==◌, nat_le, nat_lt, Bool, true, false, not, ◌&&◌, ◌||◌, List, [], ◌∷◌, ◌++◌, length, take, drop, Option, Some, None, is_some, is_none, if◌then◌else◌}
use Rattle.kn_frames.specs.Frames.{spelled}
use Rattle.kn_hpack.specs.Fields.{Field}
use Rattle.kn_hpack.specs.Encoding.{block_of}
use Rattle.kn_h2_state.specs.declared.moves.Move.{Move}
use Rattle.kn_h2_state.specs.declared.moves.Move.TheVariants.{GrantAll, Grant, Send, End, Stop}
use Rattle.kn_h2_state.specs.declared.stream.Stream.{Stream}
use Rattle.kn_h2_state.specs.declared.state.State.{State}
use Rattle.kn_h2_state.specs.Limits.{frame_limit, grant_size, full_out}
use Rattle.kn_h2_state.specs.Outgoing.{put}
use Rattle.kn_h2_state.specs.Streams.{stream_at, change, on_open}
use Rattle.kn_h2_state.specs.Payloads.{reset_frame, grant_frame}
use Rattle.kn_h2_state.specs.Rules.{is_client}
use Rattle.kn_h2_state.specs.Effects.{on_stream}

-- ---- a header block as it is written (section 4.3)

-- the rest of a long block, in CONTINUATION frames. Its own length is fuel enough
unfoldable pub more_headers : ℕ → ℕ → List ℕ → List ℕ
more_headers zero n block = []
more_headers (suc fuel) n block =
    if nat_le (length block) frame_limit then spelled 9 4 n block
    else spelled 9 0 n (take frame_limit block) ++ more_headers fuel n (drop frame_limit block)

-- the block goes out as HEADERS, and CONTINUATION where it is long; END_HEADERS is on the last frame
unfoldable pub headers_frames : ℕ → ℕ → List ℕ → List ℕ
headers_frames n flags block =
    if nat_le (length block) frame_limit then spelled 1 (flags + 4) n block
    else spelled 1 flags n (take frame_limit block) ++ more_headers (length block) n (drop frame_limit block)

-- ---- what may be written

-- the peer may still send, and enough is owed to it
abbrev pub is_owed : Stream → Bool
is_owed st = st.peer_open && nat_le grant_size st.owed

-- this many bytes may go: a frame holds them, they wait, and both windows allow them
abbrev pub can_send : ℕ → ℤ → Stream → Bool
can_send count window st = st.own_open && nat_lt 0 count && nat_le count frame_limit && nat_le count (length st.queue)
    && int_le (pos count) window && int_le (pos count) st.send

-- the end is asked for, and nothing waits before it
abbrev pub can_end : Stream → Bool
can_end st = st.own_open && is_some st.finish && (length st.queue == 0)

-- this end's half has ended while the peer's is open, and the peer is to be told to stop
abbrev pub can_stop : Stream → Bool
can_stop st = st.resets && st.peer_open

-- there is something to do
abbrev pub is_due : State → Move → Bool
is_due s GrantAll = nat_le grant_size s.owed
is_due s (Grant n) = on_open s.streams n is_owed
is_due s (Send n count) = on_open s.streams n (can_send count s.send)
is_due s (End n) = on_open s.streams n can_end
is_due s (Stop n) = on_open s.streams n can_stop

-- a move may be made: the connection has not failed, there is room, and the move is due
unfoldable pub may : State → Move → Bool
may s m = is_none s.failed && (nat_lt (length s.out.bytes) full_out && is_due s m)

-- ---- what a move does

-- trailers at the server, an empty DATA frame at the client; both with END_STREAM
abbrev pub end_frames : State → ℕ → Option (List Field) → List ℕ
end_frames s n None = []
end_frames s n (Some trailers) = if is_client s.role then spelled 0 1 n [] else headers_frames n 1 (block_of s.encoder trailers)

abbrev pub granted : Stream → Stream
granted st = record st { receive = st.receive +ℤ pos st.owed; owed = 0 }

abbrev pub sent_some : ℕ → Stream → Stream
sent_some count st = record st { queue = drop count st.queue; send = st.send -ℤ pos count }

-- this end's half has ended. At the server the peer is told to stop where it goes on
abbrev pub own_ended : Bool → Stream → Stream
own_ended server st = record st { own_open = false; finish = None; resets = server && st.peer_open }

abbrev pub stopped : Stream → Stream
stopped st = record st { peer_open = false; resets = false }

abbrev pub made : State → Move → Option Stream → State
made s GrantAll found = record s { out = put s.out false (grant_frame 0 s.owed); receive = s.receive +ℤ pos s.owed; owed = 0 }
made s (Grant n) None = s
made s (Grant n) (Some st) = record s { out = put s.out false (grant_frame n st.owed); streams = change s.streams n granted }
made s (Send n count) None = s
made s (Send n count) (Some st) = record s {
  out = put s.out false (spelled 0 0 n (take count st.queue));
  send = s.send -ℤ pos count;
  streams = change s.streams n (sent_some count);
}
made s (End n) None = s
made s (End n) (Some st) = record (on_stream n (own_ended (not (is_client s.role))) s) {
  out = put s.out false (end_frames s n st.finish);
  encoder = s.encoder || not (is_client s.role);
}
made s (Stop n) None = s
made s (Stop n) (Some st) = record (on_stream n stopped s) { out = put s.out true (reset_frame n 0) }

-- the stream of a move, or 0
abbrev pub target : Move → ℕ
target GrantAll = 0
target (Grant n) = n
target (Send n count) = n
target (End n) = n
target (Stop n) = n

-- the state after a move
unfoldable pub after_move : State → Move → State
after_move s m = made s m (stream_at s.streams (target m))

-- these moves may be made one after another, and lead there
abbrev pub Makes : State → List Move → State → Type 0
Makes old [] new = new ≡ old
Makes old (m ∷ ms) new = (may old m ≡ true) × Makes (after_move old m) ms new

-- some moves were made
abbrev pub Reaches : State → State → Type 0
Reaches old new = (moves : List Move) × Makes old moves new
