-- Streams by their numbers (RFC 9113, section 5.1).
use Rattle.std.specs.Prelude.{ℕ, ◌==◌, Bool, false, not, ◌&&◌, ◌||◌, List, [], ◌∷◌, length, filter, count_by, Option, Some, None, if◌then◌else◌}
use Rattle.kn_h2_state.specs.declared.stream.Stream.{Stream}

-- one of its halves is open
abbrev pub is_open : Stream → Bool
is_open s = s.peer_open || s.own_open

-- the stream of this number that the connection still has
unfoldable pub stream_at : List Stream → ℕ → Option Stream
stream_at [] n = None
stream_at (s ∷ ss) n = if s.number == n then Some s else stream_at ss n

-- the streams with this in the place of the one of that number
unfoldable pub with_stream : List Stream → ℕ → Stream → List Stream
with_stream [] n w = []
with_stream (s ∷ ss) n w = if s.number == n then w ∷ ss else s ∷ with_stream ss n w

-- the streams with one of them changed, if it is there
unfoldable pub change : List Stream → ℕ → (Stream → Stream) → List Stream
change [] n f = []
change (s ∷ ss) n f = if s.number == n then f s ∷ ss else s ∷ change ss n f

-- a stream is kept while it is open or has text that nobody took
abbrev pub is_kept : Stream → Bool
is_kept s = is_open s || not (length s.text == 0)

abbrev pub tidied : List Stream → List Stream
tidied ss = filter is_kept ss

abbrev pub open_count : List Stream → ℕ
open_count ss = count_by is_open ss

-- the stream of this number is open, and passes the test
abbrev pub passes : (Stream → Bool) → Option Stream → Bool
passes p None = false
passes p (Some s) = is_open s && p s

abbrev pub on_open : List Stream → ℕ → (Stream → Bool) → Bool
on_open ss n p = passes p (stream_at ss n)

-- with every half closed and nothing to send
abbrev pub shut : Stream → Stream
shut s = record s { peer_open = false; own_open = false; queue = []; finish = None; resets = false }
