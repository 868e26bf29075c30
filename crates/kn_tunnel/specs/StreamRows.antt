-- The table of one app on a client's stream that server and client both have, row by row. The entry is that of the app's dial.
-- 'To the server' and 'to the app' are all that is in flight of it, in order; DATA may stand for any number of them, also none.
use Rattle.std.specs.Prelude.{◌≡◌, ◌&&◌, ◌||◌, Bool, true, false, not}
use Rattle.kn_tunnel.specs.Kinds.{at_most_two, exactly_one, has_left, implies, is_awaited, is_carrying, is_dialling, is_draining, is_opened, is_refusal, is_reply, no_entry, no_head, none, one_or_two}
use Rattle.kn_tunnel.specs.StreamSide.{StreamView, nothing_in, nothing_out, stream_view}
use Rattle.kn_tunnel.specs.Tunnel.{Closing, Ending, Entry, Phase, Tunnel}

pub data StreamRow : Type 0 where
  Asks : StreamRow  -- no entry, the app dials: to the server DIAL_REQ; to the app nothing
  AsksAndCancels : StreamRow  -- no entry, it has left: DIAL_REQ, DIAL_CLS; nothing
  Waits : StreamRow  -- awaited entry, it dials: nothing; nothing
  Cancels : StreamRow  -- awaited entry, it has left: DIAL_CLS; nothing
  RefusedSoon : StreamRow  -- no entry, it dials: nothing; DIAL_RSP with an error
  OverBefore : StreamRow  -- no entry, it has left: at most one DIAL_CLS; at most one DIAL_RSP with an error
  OpensSoon : StreamRow  -- open entry, it dials: nothing; DIAL_RSP, DATA
  OpensAndCloses : StreamRow  -- no entry, it dials: nothing; DIAL_RSP, DATA, CLOSE_RSP
  LeftUnopened : StreamRow  -- open entry, it has left: at most one DIAL_CLS; DIAL_RSP, DATA
  LeftAndClosed : StreamRow  -- no entry, it has left: at most one DIAL_CLS; DIAL_RSP, DATA, CLOSE_RSP
  Open : StreamRow  -- open entry, it is open: DATA; DATA
  ClosedSoon : StreamRow  -- no entry, it is open: DATA; DATA, CLOSE_RSP
  Closes : StreamRow  -- open entry, it ended or has left: at most one DIAL_CLS, DATA, CLOSE_REQ; DATA
  ServerCloses : StreamRow  -- closing entry, it ended or has left: nothing; DATA
  ClosesCross : StreamRow  -- no entry, it ended or has left: at most one DIAL_CLS, DATA, CLOSE_REQ; DATA, CLOSE_RSP
  CloseComes : StreamRow  -- no entry, it ended: nothing; DATA, one or two CLOSE_RSP
  Over : StreamRow  -- no entry, it drains or has left: at most one DIAL_CLS, DATA, at most one CLOSE_REQ; DATA, CLOSE_RSP, with the CLOSE_REQ at most two

-- it ended, or has left
abbrev pub ended_or_left : Phase → Bool
ended_or_left Ending = true
ended_or_left p = has_left p

abbrev pub is_ending : Phase → Bool
is_ending Ending = true
is_ending p = false

abbrev pub is_closing_here : Entry → Bool
is_closing_here Closing = true
is_closing_here e = false

abbrev pub in_stream_row : StreamRow → StreamView → Bool
in_stream_row Asks v = no_entry v.entry && is_dialling v.phase && v.request && not v.cancel && not v.in_data && not v.in_close && nothing_out v
in_stream_row AsksAndCancels v = no_entry v.entry && has_left v.phase && v.request && v.cancel && not v.in_data && not v.in_close && nothing_out v
in_stream_row Waits v = is_awaited v.entry && is_dialling v.phase && nothing_in v && nothing_out v
in_stream_row Cancels v = is_awaited v.entry && has_left v.phase && not v.request && v.cancel && not v.in_data && not v.in_close && nothing_out v
in_stream_row RefusedSoon v = no_entry v.entry && is_dialling v.phase && nothing_in v && is_refusal v.head && not v.out_data && none v.out_closes
in_stream_row OverBefore v = no_entry v.entry && has_left v.phase && not v.request && not v.in_data && not v.in_close && not (is_reply v.head) && not v.out_data && none v.out_closes
in_stream_row OpensSoon v = is_carrying v.entry && is_dialling v.phase && nothing_in v && is_reply v.head && none v.out_closes
in_stream_row OpensAndCloses v = no_entry v.entry && is_dialling v.phase && nothing_in v && is_reply v.head && exactly_one v.out_closes
in_stream_row LeftUnopened v = is_carrying v.entry && has_left v.phase && not v.request && not v.in_data && not v.in_close && is_reply v.head && none v.out_closes
in_stream_row LeftAndClosed v = no_entry v.entry && has_left v.phase && not v.request && not v.in_data && not v.in_close && is_reply v.head && exactly_one v.out_closes
in_stream_row Open v = is_carrying v.entry && is_opened v.phase && not v.request && not v.cancel && not v.in_close && no_head v.head && none v.out_closes
in_stream_row ClosedSoon v = no_entry v.entry && is_opened v.phase && not v.request && not v.cancel && not v.in_close && no_head v.head && exactly_one v.out_closes
in_stream_row Closes v = is_carrying v.entry && ended_or_left v.phase && not v.request && v.in_close && no_head v.head && none v.out_closes
in_stream_row ServerCloses v = is_closing_here v.entry && ended_or_left v.phase && nothing_in v && no_head v.head && none v.out_closes
in_stream_row ClosesCross v = no_entry v.entry && ended_or_left v.phase && not v.request && v.in_close && no_head v.head && exactly_one v.out_closes
in_stream_row CloseComes v = no_entry v.entry && is_ending v.phase && nothing_in v && no_head v.head && one_or_two v.out_closes
in_stream_row Over v = no_entry v.entry && (is_draining v.phase || has_left v.phase) && not v.request && no_head v.head && implies v.in_close (at_most_two v.out_closes)

-- it is in a row
pub record InStreamRow (t : Tunnel) : Type 0 where
  pub row : StreamRow
  pub holds : in_stream_row row (stream_view t) ≡ true
