-- What is appended finds nothing that must come after it, by computing it.
use Rattle.std.proofs.Common.{◌≡◌, ◌&&◌, ◌||◌, true, not, refl, Bool}
use Rattle.kn_tunnel.specs.Kinds.{few, has, implies, is_asked, is_awaited, is_carrying, is_dialled, is_dialling, is_gone, is_joined, is_opened, is_present, is_refusal, is_reply, no_entry, none}
use Rattle.kn_tunnel.specs.LinkSide.{LinkView, link_ok, link_view}
use Rattle.kn_tunnel.specs.StreamRows.{is_closing_here}
use Rattle.kn_tunnel.specs.StreamSide.{StreamView, nothing_out, stream_ok, stream_view}
use Rattle.kn_tunnel.specs.Tunnel.{Tunnel}
use Rattle.kn_tunnel.proofs.EveryLink.{at_ok, ok_views}
use Rattle.kn_tunnel.proofs.EveryStream.{at_stream, ok_streams}

-- DATA and CLOSE_REQ to the agent go behind no CLOSE_REQ
abbrev down_order_at : LinkView → Bool
down_order_at v = implies (is_carrying v.entry && v.agent) (not v.down_close)

down_order_row : ok_views down_order_at ≡ true
down_order_row = refl

pub down_order : (t : Tunnel) → link_ok (link_view t) ≡ true → implies (is_carrying t.entry && t.agent) (not t.down.close) ≡ true
down_order t h = at_ok down_order_at down_order_row (link_view t) h

-- the CLOSE_REQ for a reply that nobody awaits is the only one
abbrev unawaited_order_at : LinkView → Bool
unawaited_order_at v = implies (v.reply && no_entry v.entry && v.agent) (not v.down_close)

unawaited_order_row : ok_views unawaited_order_at ≡ true
unawaited_order_row = refl

pub unawaited_order : (t : Tunnel) → link_ok (link_view t) ≡ true → implies (t.up.reply && no_entry t.entry && t.agent) (not t.down.close) ≡ true
unawaited_order t h = at_ok unawaited_order_at unawaited_order_row (link_view t) h

-- the answer to a dial is the first of what comes from the agent
abbrev answer_order_at : LinkView → Bool
answer_order_at v = implies (is_asked v.far || is_dialled v.far) (not v.refusal && not v.reply && not v.up_data && none v.up_closes)

answer_order_row : ok_views answer_order_at ≡ true
answer_order_row = refl

pub answer_order : (t : Tunnel) → link_ok (link_view t) ≡ true → implies (is_asked t.far || is_dialled t.far) (not t.up.refusal && not t.up.reply && not (has t.up.bytes) && none (few t.up.closes)) ≡ true
answer_order t h = at_ok answer_order_at answer_order_row (link_view t) h

-- DATA of the agent goes behind no CLOSE_RSP
abbrev up_order_at : LinkView → Bool
up_order_at v = implies (is_joined v.far && v.server) (none v.up_closes)

up_order_row : ok_views up_order_at ≡ true
up_order_row = refl

pub up_order : (t : Tunnel) → link_ok (link_view t) ≡ true → implies (is_joined t.far && t.server) (none (few t.up.closes)) ≡ true
up_order t h = at_ok up_order_at up_order_row (link_view t) h

-- the refusal of a request is the first of what comes to the app
abbrev refusal_order_at : StreamView → Bool
refusal_order_at v = implies (is_present v.front && v.request && v.client) (nothing_out v)

refusal_order_row : ok_streams refusal_order_at ≡ true
refusal_order_row = refl

pub refusal_order : (t : Tunnel) → stream_ok (stream_view t) ≡ true → implies (is_present t.front && t.inward.request && t.client) (nothing_out (stream_view t)) ≡ true
refusal_order t h = at_stream refusal_order_at refusal_order_row (stream_view t) h

-- the answer to an awaited dial is the first of what comes to the app
abbrev head_order_at : StreamView → Bool
head_order_at v = implies (is_awaited v.entry && v.client) (nothing_out v)

head_order_row : ok_streams head_order_at ≡ true
head_order_row = refl

pub head_order : (t : Tunnel) → stream_ok (stream_view t) ≡ true → implies (is_awaited t.entry && t.client) (nothing_out (stream_view t)) ≡ true
head_order t h = at_stream head_order_at head_order_row (stream_view t) h

-- DATA to the app goes behind no refusal and no CLOSE_RSP
abbrev out_order_at : StreamView → Bool
out_order_at v = implies (is_carrying v.entry && v.client) (not (is_refusal v.head) && none v.out_closes)

out_order_row : ok_streams out_order_at ≡ true
out_order_row = refl

pub out_order : (t : Tunnel) → stream_ok (stream_view t) ≡ true → implies (is_carrying t.entry && t.client) (not (is_refusal t.outward.head) && none (few t.outward.closes)) ≡ true
out_order t h = at_stream out_order_at out_order_row (stream_view t) h

-- CLOSE_RSP to the app goes behind no refusal
abbrev over_order_at : StreamView → Bool
over_order_at v = implies (is_closing_here v.entry && v.client) (not (is_refusal v.head))

over_order_row : ok_streams over_order_at ≡ true
over_order_row = refl

pub over_order : (t : Tunnel) → stream_ok (stream_view t) ≡ true → implies (is_closing_here t.entry && t.client) (not (is_refusal t.outward.head)) ≡ true
over_order t h = at_stream over_order_at over_order_row (stream_view t) h

-- nor does the answer to a close of no held connection
abbrev unknown_order_at : StreamView → Bool
unknown_order_at v = implies (is_present v.front && not v.request && not v.cancel && not v.in_data && v.in_close && v.client) (not (is_refusal v.head))

unknown_order_row : ok_streams unknown_order_at ≡ true
unknown_order_row = refl

pub unknown_order : (t : Tunnel) → stream_ok (stream_view t) ≡ true → implies (is_present t.front && not t.inward.request && not t.inward.cancel && not (has t.inward.bytes) && t.inward.close && t.client) (not (is_refusal t.outward.head)) ≡ true
unknown_order t h = at_stream unknown_order_at unknown_order_row (stream_view t) h

-- the CLOSE_REQ for a reply that no app awaits is the only one
abbrev late_order_at : StreamView → Bool
late_order_at v = implies (v.client && not v.connect && is_reply v.head && not (is_dialling v.phase) && not (is_gone v.front)) (not v.in_close)

late_order_row : ok_streams late_order_at ≡ true
late_order_row = refl

pub late_order : (t : Tunnel) → stream_ok (stream_view t) ≡ true → implies (t.client && not t.connect && is_reply t.outward.head && not (is_dialling t.phase) && not (is_gone t.front)) (not t.inward.close) ≡ true
late_order t h = at_stream late_order_at late_order_row (stream_view t) h

-- DATA and CLOSE_REQ of an app go behind no CLOSE_REQ
abbrev in_order_kept_at : StreamView → Bool
in_order_kept_at v = implies ((is_opened v.phase || (v.connect && is_dialling v.phase)) && not (is_gone v.front)) (not v.in_close)

in_order_kept_row : ok_streams in_order_kept_at ≡ true
in_order_kept_row = refl

pub in_order_kept : (t : Tunnel) → stream_ok (stream_view t) ≡ true → implies ((is_opened t.phase || (t.connect && is_dialling t.phase)) && not (is_gone t.front)) (not t.inward.close) ≡ true
in_order_kept t h = at_stream in_order_kept_at in_order_kept_row (stream_view t) h

-- DIAL_CLS goes behind nothing but DIAL_REQ
abbrev cancel_order_at : StreamView → Bool
cancel_order_at v = implies (not v.connect && is_dialling v.phase && not (is_gone v.front)) (not v.cancel && not v.in_data && not v.in_close)

cancel_order_row : ok_streams cancel_order_at ≡ true
cancel_order_row = refl

pub cancel_order : (t : Tunnel) → stream_ok (stream_view t) ≡ true → implies (not t.connect && is_dialling t.phase && not (is_gone t.front)) (not t.inward.cancel && not (has t.inward.bytes) && not t.inward.close) ≡ true
cancel_order t h = at_stream cancel_order_at cancel_order_row (stream_view t) h
