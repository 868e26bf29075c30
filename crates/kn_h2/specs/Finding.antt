-- Moves as they are found, stream by stream.
use Rattle.std.specs.Prelude.{ℕ, ℤ, ◌==◌, Bool, false, ◌&&◌, ◌||◌, List, Option, Some, None}
use Rattle.kn_hpack.specs.Fields.{Field}
use Rattle.kn_h2_state.specs.declared.moves.Move.{Move}
use Rattle.kn_h2_state.specs.declared.moves.Move.TheVariants.{GrantAll, Grant, Send, End, Stop}
use Rattle.kn_h2_state.specs.declared.stream.Stream.{Stream}
use Rattle.kn_h2_state.specs.Moves.{is_owed, can_send, can_end, can_stop}

-- a move of this stream that is due
unfoldable pub is_due_of : ℤ → Stream → Move → Bool
is_due_of window st GrantAll = false
is_due_of window st (Grant n) = (n == st.number) && is_owed st
is_due_of window st (Send n count) = (n == st.number) && can_send count window st
is_due_of window st (End n) = (n == st.number) && can_end st
is_due_of window st (Stop n) = (n == st.number) && can_stop st

-- there is more to write of this stream than its WINDOW_UPDATE
unfoldable pub has_work : ℤ → Stream → Bool
has_work window st = can_send 1 window st || can_end st || can_stop st

-- the bytes that are owed to a stream's peer
abbrev pub owed_in : Option Stream → ℕ
owed_in None = 0
owed_in (Some st) = st.owed

-- the fields that a stream is to end with
abbrev pub finish_in : Option Stream → Option (List Field)
finish_in None = None
finish_in (Some st) = st.finish
