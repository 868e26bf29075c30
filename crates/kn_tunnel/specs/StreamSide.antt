-- The facts of the stream side: what server and app hold of a tunnel, and what is in flight between them.
-- Bytes are told apart only as present or absent, and closes as none, one, two or more: so each fact is a test on small values.
use Rattle.std.specs.Prelude.{◌&&◌, ◌||◌, Bool, true, false, not}
use Rattle.kn_tunnel.specs.Kinds.{Few, at_most_one, at_most_two, exactly_one, few, has, has_left, implies, is_awaited, is_coming, is_dialling, is_drawn, is_gone, is_opened, is_refusal, is_reply, needs_front, no_entry, no_head, none, one_or_two}
use Rattle.kn_tunnel.specs.Tunnel.{Awaited, Carrying, Closing, Coming, Dialling, Draining, Ended, Ending, Entry, Front, Frontless, Gone, Head, NoEntry, Opened, Phase, Present, Refused, Tunnel}

pub record StreamView : Type 0 where
  pub connect : Bool  -- a CONNECT connection
  pub front : Front
  pub client : Bool  -- the app's end still has the stream
  pub finished : Bool  -- a CONNECT front that was sent a refusal or a close
  pub phase : Phase
  pub entry : Entry
  pub drawn : Bool  -- there is a dial
  pub request : Bool  -- to the server: DIAL_REQ
  pub cancel : Bool  -- DIAL_CLS
  pub in_data : Bool  -- DATA
  pub in_close : Bool  -- CLOSE_REQ
  pub head : Head  -- to the app: DIAL_RSP
  pub out_data : Bool  -- DATA
  pub out_closes : Few  -- CLOSE_RSP
  pub unwritten : Bool  -- towards the app
  pub got : Bool

-- the stream side of a tunnel
abbrev pub stream_view : Tunnel → StreamView
stream_view t = record {
  connect = t.connect;
  front = t.front;
  client = t.client;
  finished = t.finished;
  phase = t.phase;
  entry = t.entry;
  drawn = is_drawn t.far;
  request = t.inward.request;
  cancel = t.inward.cancel;
  in_data = has t.inward.bytes;
  in_close = t.inward.close;
  head = t.outward.head;
  out_data = has t.outward.bytes;
  out_closes = few t.outward.closes;
  unwritten = has t.app.unwritten;
  got = has t.app.got;
}

abbrev pub nothing_in : StreamView → Bool
nothing_in v = not v.request && not v.cancel && not v.in_data && not v.in_close

abbrev pub nothing_out : StreamView → Bool
nothing_out v = no_head v.head && not v.out_data && none v.out_closes

-- The table of a client's stream that both ends have. (The rows by name stand in StreamRows.)

-- the app's CLOSE_REQ and the server's CLOSE_RSP cross
abbrev pub late_close : StreamView → Bool
late_close v = not v.request && v.in_close && no_head v.head && exactly_one v.out_closes

-- the app took its close: what is still in flight is answered or dropped
abbrev pub done_row : StreamView → Bool
done_row v = not v.request && no_head v.head && implies v.in_close (at_most_two v.out_closes)

-- an app whose dial has no entry
abbrev pub idle_row : StreamView → Phase → Bool
-- its request is on the way, or its refusal, or it was opened and closed since
idle_row v Dialling =
    (v.request && not v.cancel && not v.in_data && not v.in_close && nothing_out v)
    || (nothing_in v && is_refusal v.head && not v.out_data && none v.out_closes)
    || (nothing_in v && is_reply v.head && exactly_one v.out_closes)
-- its close is on the way
idle_row v Opened = not v.request && not v.cancel && not v.in_close && no_head v.head && exactly_one v.out_closes
idle_row v Ending = late_close v || (nothing_in v && no_head v.head && one_or_two v.out_closes)
idle_row v Draining = done_row v
-- it has left: while its request was on the way, before its answer came, or after
idle_row v phase =
    (v.request && v.cancel && not v.in_data && not v.in_close && nothing_out v)
    || (not v.request && not v.in_data && not v.in_close && not (is_reply v.head) && not v.out_data && none v.out_closes)
    || (not v.request && not v.in_data && not v.in_close && is_reply v.head && exactly_one v.out_closes)
    || late_close v || done_row v

-- the app asked to close, and the server has not taken that yet
abbrev pub closing_asked : StreamView → Bool
closing_asked v = not v.request && v.in_close && no_head v.head && none v.out_closes

-- an app whose entry is open
abbrev pub open_row : StreamView → Phase → Bool
open_row v Dialling = nothing_in v && is_reply v.head && none v.out_closes
open_row v Opened = not v.request && not v.cancel && not v.in_close && no_head v.head && none v.out_closes
open_row v Ending = closing_asked v
open_row v Draining = false
open_row v phase = (not v.request && not v.in_data && not v.in_close && is_reply v.head && none v.out_closes) || closing_asked v

abbrev pub app_closing : Phase → Bool
app_closing Dialling = false
app_closing Opened = false
app_closing Draining = false
app_closing p = true

-- of an awaited dial only DIAL_CLS may be on the way
abbrev pub awaited_row : StreamView → Bool
awaited_row v = not v.request && not v.in_data && not v.in_close && nothing_out v && ((is_dialling v.phase && not v.cancel) || (has_left v.phase && v.cancel))

abbrev pub stream_row : StreamView → Entry → Bool
stream_row v NoEntry = idle_row v v.phase
stream_row v Awaited = awaited_row v
stream_row v Carrying = open_row v v.phase
-- an entry closes because its app asked: nothing comes from the app after that
stream_row v Closing = app_closing v.phase && nothing_in v && no_head v.head && none v.out_closes
stream_row v Frontless = false

-- The table of a CONNECT connection. (The rows by name stand in ConnectRows.)

-- one without an entry that the server has: its head is on the way, the app has left, or the server has finished with it
abbrev pub idle_connect_row : StreamView → Bool
idle_connect_row v =
    (v.request && not v.drawn && (not v.client || is_dialling v.phase) && nothing_out v && not v.finished)
    || (not v.request
    && (not v.client
    || (v.finished && is_opened v.phase && not (is_refusal v.head) && exactly_one v.out_closes)
    || (v.finished && not (is_dialling v.phase) && not (is_opened v.phase) && not (is_reply v.head) && not v.out_data && none v.out_closes)))

-- one that the server has
abbrev pub connect_row : StreamView → Entry → Bool
connect_row v NoEntry = idle_connect_row v
connect_row v Awaited = not v.request && (not v.client || is_dialling v.phase) && nothing_out v && not v.finished
connect_row v Carrying = not v.request && (not v.client || is_opened v.phase) && not (is_refusal v.head) && none v.out_closes && not v.finished
-- a CONNECT app cannot ask to close: its end is a lost front
connect_row v e = false

-- one that the server lost: what is left on the way to the app
abbrev pub connect_lost : StreamView → Phase → Bool
connect_lost v Dialling = nothing_out v
connect_lost v Opened = not (is_refusal v.head) && at_most_one v.out_closes
connect_lost v phase = not (is_reply v.head) && not v.out_data && none v.out_closes

-- What the server and the app hold.

-- an entry with a front has it at the server; a request comes over a front that is not lost
abbrev pub front_fits : Front → Entry → Bool → Bool
front_fits Coming entry request = no_entry entry
front_fits Present Frontless request = false
front_fits Present entry request = true
front_fits Gone entry request = not (needs_front entry) && not request

-- an app that dials, is open or ended has its end of the stream, and from the reply on it has its dial
abbrev pub phase_fits : Bool → Phase → Bool → Bool → Bool
phase_fits connect Dialling client drawn = client
phase_fits connect Opened client drawn = client && drawn
phase_fits connect Ending client drawn = not connect && client && drawn
phase_fits connect Draining client drawn = not connect && drawn
-- a CONNECT app that ended has closed its end
phase_fits true Ended client drawn = not client
phase_fits false Ended client drawn = true
phase_fits connect Refused client drawn = true

abbrev pub stream_control : Bool → Front → Bool → Bool → Phase → Entry → Bool → Bool → Bool
stream_control connect front client finished phase entry drawn request =
    front_fits front entry request
    && phase_fits connect phase client drawn
    && implies finished connect
    -- an entry has a dial, and a request on the way has none yet
    && implies (not drawn) (no_entry entry)
    && implies request (not drawn)

-- what is on the way to the server
abbrev pub in_ok : Bool → Front → Entry → Bool → Bool → Bool → Bool → Bool → Bool
in_ok connect front entry drawn request cancel in_data in_close =
    -- nothing, once it lost the front
    implies (is_gone front) (not request && not cancel && not in_data && not in_close)
    -- over a CONNECT connection only its head and bytes
    && implies connect (not cancel && not in_close)
    -- a client sends neither bytes nor a close before the reply
    && implies (not connect && (not drawn || is_awaited entry)) (not in_data && not in_close)

-- the order of what is on the way to the app: nothing follows a refusal, and a CONNECT app is closed once
abbrev pub order_out : StreamView → Bool
order_out v = implies (is_refusal v.head) (not v.out_data && none v.out_closes) && implies v.connect (at_most_one v.out_closes)

-- nothing is on the way to an app that lost the stream, nor before its head reached the server
abbrev pub lost_out : StreamView → Bool
lost_out v = implies (not v.client) (nothing_out v) && implies (is_coming v.front) (nothing_out v && implies (v.connect && v.client) v.request)

abbrev pub app_bytes : StreamView → Bool
app_bytes v =
    -- a CONNECT app takes its bytes at once
    implies v.connect (not v.unwritten)
    -- without a dial nothing came
    && implies (not v.drawn) (not v.got && not v.unwritten && not v.out_data && none v.out_closes && not (is_reply v.head))
    -- nor to an app that dials
    && implies (is_dialling v.phase) (not v.got && not v.unwritten)
    -- an app that has left has nothing unwritten
    && implies (has_left v.phase) (not v.unwritten)

abbrev pub rows : StreamView → Bool
rows v =
    -- to a client whose app dials, the answer comes first
    implies (not v.connect && v.client && is_dialling v.phase) (nothing_out v || not (no_head v.head))
    && implies (not v.connect && v.client && not (is_gone v.front)) (stream_row v v.entry)
    && implies (v.connect && not (is_gone v.front)) (connect_row v v.entry)
    && implies (v.connect && is_gone v.front && v.client) (connect_lost v v.phase)

abbrev pub stream_ok : StreamView → Bool
stream_ok v =
    stream_control v.connect v.front v.client v.finished v.phase v.entry v.drawn v.request
    && (in_ok v.connect v.front v.entry v.drawn v.request v.cancel v.in_data v.in_close
    && (lost_out v && (order_out v && (app_bytes v && rows v))))
