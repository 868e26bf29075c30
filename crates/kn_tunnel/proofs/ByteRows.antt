-- What the facts on bytes ask of the two sides, by computing it.
use Rattle.std.proofs.Common.{◌≡◌, ◌&&◌, ◌||◌, true, not, refl, Bool}
use Rattle.kn_tunnel.specs.Kinds.{has, implies, is_awaited, is_carrying, is_dialled, is_dialling, is_empty, is_gone, is_lingering, is_listed, is_opened, is_taking, needs_front, no_head}
use Rattle.kn_tunnel.specs.LinkSide.{LinkView, link_ok, link_view}
use Rattle.kn_tunnel.specs.StreamSide.{StreamView, stream_ok, stream_view}
use Rattle.kn_tunnel.specs.Tunnel.{Tunnel}
use Rattle.kn_tunnel.proofs.EveryLink.{at_ok, ok_views}
use Rattle.kn_tunnel.proofs.EveryStream.{at_stream, ok_streams}
use Rattle.kn_tunnel.proofs.Lists.{says}

-- of the link side

-- the server has the link of a dial whose bytes it carries
abbrev carried_server_at : LinkView → Bool
carried_server_at v = implies (is_carrying v.entry || (is_awaited v.entry && v.reply)) v.server

carried_server_row : ok_views carried_server_at ≡ true
carried_server_row = refl

pub carried_server : (t : Tunnel) → link_ok (link_view t) ≡ true → (is_carrying t.entry || (is_awaited t.entry && t.up.reply)) ≡ true → t.server ≡ true
carried_server t h = says (is_carrying t.entry || (is_awaited t.entry && t.up.reply)) t.server (at_ok carried_server_at carried_server_row (link_view t) h)

-- a reply on the way finds nothing at the destination and nothing on the way to it
abbrev reply_finds_at : LinkView → Bool
reply_finds_at v = implies (is_awaited v.entry && v.reply && is_listed v.far) (v.fresh && not v.down_data)

reply_finds_row : ok_views reply_finds_at ≡ true
reply_finds_row = refl

pub reply_finds : (t : Tunnel) → link_ok (link_view t) ≡ true → (is_awaited t.entry && t.up.reply && is_listed t.far) ≡ true → ((is_empty t.dest.got && is_empty t.dest.unwritten) && not (has t.down.bytes)) ≡ true
reply_finds t h = says (is_awaited t.entry && t.up.reply && is_listed t.far) ((is_empty t.dest.got && is_empty t.dest.unwritten) && not (has t.down.bytes)) (at_ok reply_finds_at reply_finds_row (link_view t) h)

-- no bytes are on the way to a connection that was asked to close
abbrev lingers_empty_at : LinkView → Bool
lingers_empty_at v = implies (is_lingering v.far) (not v.down_data)

lingers_empty_row : ok_views lingers_empty_at ≡ true
lingers_empty_row = refl

pub lingers_empty : (t : Tunnel) → link_ok (link_view t) ≡ true → (is_lingering t.far) ≡ true → (not (has t.down.bytes)) ≡ true
lingers_empty t h = says (is_lingering t.far) (not (has t.down.bytes)) (at_ok lingers_empty_at lingers_empty_row (link_view t) h)

-- there is no reply before the request was taken
abbrev request_first_at : LinkView → Bool
request_first_at v = implies v.request (not v.reply)

request_first_row : ok_views request_first_at ≡ true
request_first_row = refl

pub request_first : (t : Tunnel) → link_ok (link_view t) ≡ true → t.inward.request ≡ true → (not t.up.reply) ≡ true
request_first t h = says t.inward.request (not t.up.reply) (at_ok request_first_at request_first_row (link_view t) h)

-- a dial that succeeds finds nothing on the way and no open entry
abbrev dial_finds_at : LinkView → Bool
dial_finds_at v = implies (is_dialled v.far) (v.fresh && not v.up_data && not v.down_data && not (is_carrying v.entry) && not v.cid)

dial_finds_row : ok_views dial_finds_at ≡ true
dial_finds_row = refl

pub dial_finds : (t : Tunnel) → link_ok (link_view t) ≡ true → (is_dialled t.far) ≡ true → ((is_empty t.dest.got && is_empty t.dest.unwritten) && not (has t.up.bytes) && not (has t.down.bytes) && not (is_carrying t.entry) && not t.cid) ≡ true
dial_finds t h = says (is_dialled t.far) ((is_empty t.dest.got && is_empty t.dest.unwritten) && not (has t.up.bytes) && not (has t.down.bytes) && not (is_carrying t.entry) && not t.cid) (at_ok dial_finds_at dial_finds_row (link_view t) h)

-- an agent that lost its link has no connection
abbrev listed_agent_at : LinkView → Bool
listed_agent_at v = implies (is_listed v.far) v.agent

listed_agent_row : ok_views listed_agent_at ≡ true
listed_agent_row = refl

pub listed_agent : (t : Tunnel) → link_ok (link_view t) ≡ true → (is_listed t.far) ≡ true → t.agent ≡ true
listed_agent t h = says (is_listed t.far) t.agent (at_ok listed_agent_at listed_agent_row (link_view t) h)

-- a connection has a connectID
abbrev joined_drawn_at : LinkView → Bool
joined_drawn_at v = implies (is_listed v.far) v.cid

joined_drawn_row : ok_views joined_drawn_at ≡ true
joined_drawn_row = refl

pub joined_drawn : (t : Tunnel) → link_ok (link_view t) ≡ true → (is_listed t.far) ≡ true → t.cid ≡ true
joined_drawn t h = says (is_listed t.far) t.cid (at_ok joined_drawn_at joined_drawn_row (link_view t) h)

-- a server that lost the link has no open entry
abbrev lost_carries_at : LinkView → Bool
lost_carries_at v = implies (not v.server) (not (is_carrying v.entry))

lost_carries_row : ok_views lost_carries_at ≡ true
lost_carries_row = refl

pub lost_carries : (t : Tunnel) → link_ok (link_view t) ≡ true → (not t.server) ≡ true → (not (is_carrying t.entry)) ≡ true
lost_carries t h = says (not t.server) (not (is_carrying t.entry)) (at_ok lost_carries_at lost_carries_row (link_view t) h)

-- of the stream side

-- of a client, no bytes are on the way while its dial is awaited
abbrev awaited_in_at : StreamView → Bool
awaited_in_at v = implies (is_awaited v.entry && not v.connect) (not v.in_data)

awaited_in_row : ok_streams awaited_in_at ≡ true
awaited_in_row = refl

pub awaited_in : (t : Tunnel) → stream_ok (stream_view t) ≡ true → (is_awaited t.entry && not t.connect) ≡ true → (not (has t.inward.bytes)) ≡ true
awaited_in t h = says (is_awaited t.entry && not t.connect) (not (has t.inward.bytes)) (at_stream awaited_in_at awaited_in_row (stream_view t) h)

-- a front that is gone has no entry and no request on the way
abbrev gone_front_at : StreamView → Bool
gone_front_at v = implies (is_gone v.front) (not (needs_front v.entry) && not v.request)

gone_front_row : ok_streams gone_front_at ≡ true
gone_front_row = refl

pub gone_front : (t : Tunnel) → stream_ok (stream_view t) ≡ true → (is_gone t.front) ≡ true → (not (needs_front t.entry) && not t.inward.request) ≡ true
gone_front t h = says (is_gone t.front) (not (needs_front t.entry) && not t.inward.request) (at_stream gone_front_at gone_front_row (stream_view t) h)

-- an app that takes bytes has its end of the stream
abbrev taking_client_at : StreamView → Bool
taking_client_at v = implies (is_taking v.phase) v.client

taking_client_row : ok_streams taking_client_at ≡ true
taking_client_row = refl

pub taking_client : (t : Tunnel) → stream_ok (stream_view t) ≡ true → (is_taking t.phase) ≡ true → t.client ≡ true
taking_client t h = says (is_taking t.phase) t.client (at_stream taking_client_at taking_client_row (stream_view t) h)

-- to a client whose app dials, bytes come after the reply
abbrev dialling_out_at : StreamView → Bool
dialling_out_at v = implies (v.client && not v.connect && no_head v.head && is_dialling v.phase) (not v.out_data)

dialling_out_row : ok_streams dialling_out_at ≡ true
dialling_out_row = refl

pub dialling_out : (t : Tunnel) → stream_ok (stream_view t) ≡ true → (t.client && not t.connect && no_head t.outward.head && is_dialling t.phase) ≡ true → (not (has t.outward.bytes)) ≡ true
dialling_out t h = says (t.client && not t.connect && no_head t.outward.head && is_dialling t.phase) (not (has t.outward.bytes)) (at_stream dialling_out_at dialling_out_row (stream_view t) h)

-- to a CONNECT app bytes come once it is open
abbrev connect_out_at : StreamView → Bool
connect_out_at v = implies (v.client && v.connect && v.out_data) (is_opened v.phase)

connect_out_row : ok_streams connect_out_at ≡ true
connect_out_row = refl

pub connect_out : (t : Tunnel) → stream_ok (stream_view t) ≡ true → (t.client && t.connect && (has t.outward.bytes)) ≡ true → (is_opened t.phase) ≡ true
connect_out t h = says (t.client && t.connect && (has t.outward.bytes)) (is_opened t.phase) (at_stream connect_out_at connect_out_row (stream_view t) h)

-- a CONNECT app takes its bytes at once
abbrev connect_unwritten_at : StreamView → Bool
connect_unwritten_at v = implies v.connect (not v.unwritten)

connect_unwritten_row : ok_streams connect_unwritten_at ≡ true
connect_unwritten_row = refl

pub connect_unwritten : (t : Tunnel) → stream_ok (stream_view t) ≡ true → t.connect ≡ true → (not (has t.app.unwritten)) ≡ true
connect_unwritten t h = says t.connect (not (has t.app.unwritten)) (at_stream connect_unwritten_at connect_unwritten_row (stream_view t) h)
