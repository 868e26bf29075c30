-- What is true of a connection at every moment.
use Rattle.std.specs.Prelude.{◌≡◌, ℕ, pos, ◌+◌, ◌%◌, ◌+ℤ◌, ◌≤ℤ◌, ◌<◌, ◌≤◌, ◌==◌, Bool, true, ◌&&◌, ◌||◌, List, [], ◌∷◌, length, is_none, IfSome}
use Rattle.std.specs.List.{AllByRecursion}
use Rattle.kn_h2_state.specs.declared.stream.Stream.{Stream}
use Rattle.kn_h2_state.specs.declared.state.State.{State}
use Rattle.kn_h2_state.specs.Limits.{stream_window, connection_window, reply_limit, block_limit, largest_window, highest_stream}
use Rattle.kn_h2_state.specs.Outgoing.{reply_bytes}
use Rattle.kn_h2_state.specs.Streams.{is_open, is_kept}

-- the numbers of the streams are odd and rise, up to the highest that was opened (RFC 9113, section 5.1.1)
unfoldable pub Rising : ℕ → ℕ → List Stream → Type 0
Rising low high [] = low ≤ high
Rising low high (st ∷ ss) = (low < st.number) × (st.number % 2 ≡ 1) × Rising st.number high ss

-- what is left of the receiving window, what is owed, and the text that nobody took, are always as many
abbrev pub HasSum : Stream → Type 0
HasSum st = st.receive +ℤ pos (st.owed + length st.text) ≡ pos stream_window

-- no receiving window is below 0: nothing is taken that it has no room for
abbrev pub HasRoom : Stream → Type 0
HasRoom st = pos 0 ≤ℤ st.receive

unfoldable pub text_bytes : List Stream → ℕ
text_bytes [] = 0
text_bytes (st ∷ ss) = length st.text + text_bytes ss

-- An open stream's sending window is at most 2^31 - 1 below INITIAL_WINDOW_SIZE: it is spent down to 0 at most, and
-- shifts with the setting.
abbrev pub IsHigh : ℕ → Stream → Type 0
IsHigh initial st = is_open st ≡ true → pos initial ≤ℤ (st.send +ℤ pos largest_window)

-- where this end's half has ended nothing waits to be sent, and no end is asked for
abbrev pub is_at_rest : Stream → Bool
is_at_rest st = st.own_open || ((length st.queue == 0) && is_none st.finish)

abbrev pub is_odd_or_none : ℕ → Bool
is_odd_or_none n = (n == 0) || (n % 2 == 1)

-- the facts on which the code rests
pub record Holds (s : State) : Type 0 where
  pub rising : Rising 0 s.opened s.streams
  pub numbers : s.opened ≤ highest_stream
  pub parity : is_odd_or_none s.opened ≡ true
  pub kept : AllByRecursion (λ st. is_kept st ≡ true) s.streams
  pub rest : AllByRecursion (λ st. is_at_rest st ≡ true) s.streams
  pub sums : AllByRecursion HasSum s.streams
  pub sum : s.receive +ℤ pos (s.owed + text_bytes s.streams) ≡ pos connection_window
  pub room : pos 0 ≤ℤ s.receive
  pub rooms : AllByRecursion HasRoom s.streams
  pub high : AllByRecursion (IsHigh s.initial) s.streams
  pub block : IfSome s.block (λ b. (length b.bytes ≤ block_limit) × (b.stream % 2 ≡ 1) × (b.stream ≤ highest_stream))
  pub marked : length s.out.replies ≡ length s.out.bytes
  pub replies : reply_bytes s.out ≤ reply_limit
  pub initial : s.initial ≤ largest_window
