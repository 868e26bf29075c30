-- The table of one CONNECT connection, row by row. 'It has left': its end of the connection is closed or lost.
-- To the server only bytes are in flight, and the head at first; what is in flight to the app is said.
use Rattle.std.specs.Prelude.{◌≡◌, ◌+◌, ◌&&◌, ◌||◌, ℕ, Bool, true, false, not}
use Rattle.kn_tunnel.specs.Kinds.{at_most_one, exactly_one, is_awaited, is_carrying, is_dialling, is_gone, is_opened, is_refusal, is_reply, needs_front, no_entry, none}
use Rattle.kn_tunnel.specs.LinkRows.{one_if}
use Rattle.kn_tunnel.specs.StreamSide.{StreamView, nothing_in, nothing_out, stream_view}
use Rattle.kn_tunnel.specs.Tunnel.{Phase, Refused, Tunnel}

pub data ConnectRow : Type 0 where
  HeadComes : ConnectRow  -- no dial, the app dials or has left: the head is on its way; to the app nothing
  HeadWaits : ConnectRow  -- awaited entry, it dials or has left: nothing
  Connected : ConnectRow  -- open entry, it is open or has left: at most the reply, bytes
  ServerClosed : ConnectRow  -- no entry, it is open, and the front was sent a close: at most the reply, bytes, the close
  ServerRefused : ConnectRow  -- no entry, it is refused, and the front was sent the refusal: at most the refusal
  AppLeft : ConnectRow  -- no entry, it has left: nothing
  LostDialling : ConnectRow  -- the server lost the front, it dials: nothing
  LostOpen : ConnectRow  -- the server lost the front, it is open: at most the reply, bytes, at most one close
  LostRefused : ConnectRow  -- the server lost the front, it is refused: at most the refusal
  LostBoth : ConnectRow  -- the server lost the front, it has left: nothing

abbrev pub is_refused : Phase → Bool
is_refused Refused = true
is_refused p = false

-- a front that the server has, or whose head is on its way
abbrev pub nothing_but_bytes_in : StreamView → Bool
nothing_but_bytes_in v = not v.request && not v.cancel && not v.in_close

abbrev pub in_connect_row : ConnectRow → StreamView → Bool
in_connect_row HeadComes v = not (is_gone v.front) && no_entry v.entry && not v.drawn && (is_dialling v.phase || not v.client) && v.request && not v.cancel && not v.in_close && nothing_out v && not v.finished
in_connect_row HeadWaits v = not (is_gone v.front) && is_awaited v.entry && (is_dialling v.phase || not v.client) && nothing_but_bytes_in v && nothing_out v && not v.finished
in_connect_row Connected v = not (is_gone v.front) && is_carrying v.entry && (is_opened v.phase || not v.client) && nothing_but_bytes_in v && not (is_refusal v.head) && none v.out_closes && not v.finished
in_connect_row ServerClosed v = not (is_gone v.front) && no_entry v.entry && is_opened v.phase && v.finished && nothing_but_bytes_in v && not (is_refusal v.head) && exactly_one v.out_closes
in_connect_row ServerRefused v = not (is_gone v.front) && no_entry v.entry && is_refused v.phase && v.client && v.finished && nothing_but_bytes_in v && not (is_reply v.head) && not v.out_data && none v.out_closes
in_connect_row AppLeft v = not (is_gone v.front) && no_entry v.entry && not v.client && nothing_but_bytes_in v && nothing_out v
in_connect_row LostDialling v = is_gone v.front && not (needs_front v.entry) && is_dialling v.phase && nothing_in v && nothing_out v
in_connect_row LostOpen v = is_gone v.front && not (needs_front v.entry) && is_opened v.phase && nothing_in v && not (is_refusal v.head) && at_most_one v.out_closes
in_connect_row LostRefused v = is_gone v.front && not (needs_front v.entry) && is_refused v.phase && v.client && nothing_in v && not (is_reply v.head) && not v.out_data && none v.out_closes
in_connect_row LostBoth v = is_gone v.front && not (needs_front v.entry) && not v.client && nothing_in v && nothing_out v

-- how many rows hold
abbrev pub connect_rows_met : StreamView → ℕ
connect_rows_met v =
    one_if (in_connect_row HeadComes v) + one_if (in_connect_row HeadWaits v) + one_if (in_connect_row Connected v) + one_if (in_connect_row ServerClosed v)
    + one_if (in_connect_row ServerRefused v) + one_if (in_connect_row AppLeft v) + one_if (in_connect_row LostDialling v) + one_if (in_connect_row LostOpen v)
    + one_if (in_connect_row LostRefused v) + one_if (in_connect_row LostBoth v)

-- it is in a row, and in no other
pub record InOneConnectRow (t : Tunnel) : Type 0 where
  pub row : ConnectRow
  pub holds : in_connect_row row (stream_view t) ≡ true
  pub once : connect_rows_met (stream_view t) ≡ 1
