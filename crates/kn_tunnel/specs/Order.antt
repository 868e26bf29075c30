-- What may follow what in each list. What an event appends goes behind all that is there, so nothing may be there that must come after it.
use Rattle.std.specs.Prelude.{◌&&◌, Bool, true, not}
use Rattle.kn_tunnel.specs.Events.{AgentRefuses, AppEnds, AppFails, AppHands, ClientTakesReply, DestinationHands, DialSucceeds, Event, FrontLost, LinkLostAtServer, ServerRefuses, ServerTakesClose, ServerTakesCloseReply, ServerTakesIn, ServerTakesRefusal, ServerTakesReply, ServerTakesUp}
use Rattle.kn_tunnel.specs.Kinds.{implies, is_awaited, is_carrying, is_dialling, is_empty, is_gone, is_joined, is_refusal, no_closes, no_head}
use Rattle.kn_tunnel.specs.Tunnel.{Awaited, Carrying, Closing, Dialling, Downward, Entry, Inward, NoEntry, Opened, Outward, Phase, Tunnel, Upward}

-- to the server: DIAL_REQ, DIAL_CLS, DATA, CLOSE_REQ
abbrev pub cancel_follows : Inward → Bool
cancel_follows w = not w.cancel && is_empty w.bytes && not w.close

abbrev pub in_bytes_follow : Inward → Bool
in_bytes_follow w = not w.close

abbrev pub in_close_follows : Inward → Bool
in_close_follows w = not w.close

-- to the app: a refusal alone; or the reply, DATA, CLOSE_RSP
abbrev pub head_follows : Outward → Bool
head_follows w = no_head w.head && is_empty w.bytes && no_closes w.closes

abbrev pub out_bytes_follow : Outward → Bool
out_bytes_follow w = not (is_refusal w.head) && no_closes w.closes

abbrev pub out_close_follows : Outward → Bool
out_close_follows w = not (is_refusal w.head)

-- from the agent: a refusal alone; or the reply, DATA, CLOSE_RSP
abbrev pub up_refusal_follows : Upward → Bool
up_refusal_follows w = not w.refusal && not w.reply && is_empty w.bytes && no_closes w.closes

abbrev pub up_reply_follows : Upward → Bool
up_reply_follows w = not w.refusal && not w.reply && is_empty w.bytes && no_closes w.closes

abbrev pub up_bytes_follow : Upward → Bool
up_bytes_follow w = no_closes w.closes

-- to the agent: DATA, CLOSE_REQ
abbrev pub down_bytes_follow : Downward → Bool
down_bytes_follow w = not w.close

abbrev pub down_close_follows : Downward → Bool
down_close_follows w = not w.close

-- the server tells the front that the tunnel is over: its dial refused, or its connection closed
abbrev pub over_follows : Entry → Tunnel → Bool
over_follows Awaited t = implies t.client (head_follows t.outward)
over_follows Carrying t = implies t.client (out_close_follows t.outward)
over_follows Closing t = implies t.client (out_close_follows t.outward)
over_follows e t = true

-- CLOSE_REQ of a client: an open dial's goes on to the agent, one of no held dial is answered
abbrev pub close_follows : Entry → Tunnel → Bool
close_follows Carrying t = implies t.agent (down_close_follows t.down)
close_follows Closing t = true
close_follows e t = implies t.client (out_close_follows t.outward)

-- a reply: of an awaited dial it goes on to the app, one that nobody awaits is answered by CLOSE_REQ
abbrev pub reply_follows : Entry → Tunnel → Bool
reply_follows Awaited t = implies t.client (head_follows t.outward)
reply_follows NoEntry t = implies t.agent (down_close_follows t.down)
reply_follows e t = true

abbrev pub close_reply_follows : Entry → Tunnel → Bool
close_reply_follows Carrying t = implies t.client (out_close_follows t.outward)
close_reply_follows Closing t = implies t.client (out_close_follows t.outward)
close_reply_follows e t = true

-- an app that ends or fails: DIAL_CLS while it dials, CLOSE_REQ once it is open
abbrev pub app_end_follows : Phase → Tunnel → Bool
app_end_follows Dialling t = implies (not (is_gone t.front)) (cancel_follows t.inward)
app_end_follows Opened t = implies (not (is_gone t.front)) (in_close_follows t.inward)
app_end_follows p t = true

-- what each event appends may follow what is there; what goes to an end that lost the list is dropped, so nothing is asked of it
abbrev pub in_order : Event → Tunnel → Bool
in_order ServerRefuses t = implies t.client (head_follows t.outward)
in_order (ServerTakesIn n) t = implies (is_carrying t.entry && t.agent) (down_bytes_follow t.down)
in_order ServerTakesClose t = close_follows t.entry t
in_order ServerTakesRefusal t = implies (is_awaited t.entry) (over_follows Awaited t)
in_order ServerTakesReply t = reply_follows t.entry t
in_order (ServerTakesUp n) t = implies (is_carrying t.entry && t.client) (out_bytes_follow t.outward)
in_order ServerTakesCloseReply t = close_reply_follows t.entry t
in_order AgentRefuses t = implies t.server (up_refusal_follows t.up)
in_order DialSucceeds t = implies t.server (up_reply_follows t.up)
in_order (DestinationHands n) t = implies (is_joined t.far && t.server) (up_bytes_follow t.up)
in_order ClientTakesReply t = implies (not (is_dialling t.phase) && not (is_gone t.front)) (in_close_follows t.inward)
in_order (AppHands n) t = implies (not (is_gone t.front)) (in_bytes_follow t.inward)
in_order AppEnds t = app_end_follows t.phase t
in_order AppFails t = app_end_follows t.phase t
in_order (LinkLostAtServer left request_left) t = over_follows t.entry t
in_order (FrontLost left) t = implies (is_carrying t.entry && t.agent) (down_close_follows t.down)
in_order e t = true
