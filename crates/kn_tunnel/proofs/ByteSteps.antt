-- Each event keeps what holds of the bytes.
use Rattle.std.proofs.Common.{◌≡◌, ◌++◌, ◌&&◌, ◌||◌, Bool, true, false, not, [], pred, take, drop, refl, ap}
use Rattle.kn_tunnel.specs.Bytes.{Bytes, is_early}
use Rattle.kn_tunnel.specs.Events.{AgentRefuses, AgentTakesClose, AgentTakesDown, AgentTakesRequest, AppEnds, AppFails, AppHands, AppSends, AppWrote, ClientTakesClose, ClientTakesOut, ClientTakesRefusal, ClientTakesReply, ConnectLeaves, ConnectTakesClose, ConnectTakesOut, ConnectTakesRefusal, ConnectTakesReply, DestinationHands, DestinationLeaves, DestinationSends, DestinationWrote, DialSucceeds, Event, FrontLost, FrontUp, LinkLostAtAgent, LinkLostAtServer, ResetDown, ResetIn, ResetOut, ResetUp, ServerDials, ServerRefuses, ServerTakesCancel, ServerTakesClose, ServerTakesCloseReply, ServerTakesIn, ServerTakesRefusal, ServerTakesReply, ServerTakesUp, StreamLost}
use Rattle.kn_tunnel.specs.Kinds.{has, is_awaited, is_dialled, is_dialling, is_empty, is_gone, is_here, is_lingering, is_listed, is_present, needs_front, no_head}
use Rattle.kn_tunnel.specs.LinkSide.{link_ok, link_view}
use Rattle.kn_tunnel.specs.Steps.{May, after, start}
use Rattle.kn_tunnel.specs.StreamSide.{stream_ok, stream_view}
use Rattle.kn_tunnel.specs.Tunnel.{NoHead, Tunnel}
use Rattle.kn_tunnel.proofs.ByteAgent.{agent_leaves_bytes, close_comes_bytes, dest_hands_bytes, dest_sends_bytes, dest_wrote_bytes, dial_bytes, leaves_if_bytes, takes_down_bytes}
use Rattle.kn_tunnel.proofs.ByteApp.{app_hands_bytes, app_sends_bytes, app_wrote_bytes, client_takes_bytes, closed_at_bytes, connect_takes_bytes, ends_at_bytes, fails_at_bytes, false_never, refused_at_bytes, replied_at_bytes}
use Rattle.kn_tunnel.proofs.ByteLosses.{agent_lost_bytes, connect_leaves_bytes, front_lost_bytes, link_lost_bytes, reset_down_bytes, reset_in_bytes, reset_out_bytes, reset_up_bytes, stream_lost_bytes}
use Rattle.kn_tunnel.proofs.ByteRows.{awaited_in, connect_out, connect_unwritten, dial_finds, dialling_out, gone_front, listed_agent, lost_carries, request_first, taking_client}
use Rattle.kn_tunnel.proofs.ByteServer.{cancel_bytes, close_reply_bytes, dest_nothing, far_dialled, far_left, front_closes_bytes, refusal_comes_bytes, reply_bytes, server_dials_bytes, server_refuses_bytes, takes_in_bytes, takes_up_bytes}
use Rattle.kn_tunnel.proofs.Every.{first, second}
use Rattle.kn_tunnel.proofs.Flows.{FlowOf}
use Rattle.kn_tunnel.proofs.ListBits.{both}
use Rattle.kn_tunnel.proofs.Lists.{is_false, not_both, nothing}

-- while the dial is still to be answered, nothing that the server takes is there
early_none : (t : Tunnel) → stream_ok (stream_view t) ≡ true → (not t.inward.request && not (t.connect && is_awaited t.entry)) ≡ true → is_early t ≡ true → t.inward.bytes ≡ []
early_none t s g x = here t.inward.request t.connect (is_awaited t.entry) refl refl refl g x
  where
    here : (q c a : Bool) → t.inward.request ≡ q → t.connect ≡ c → is_awaited t.entry ≡ a → (not q && not (c && a)) ≡ true → (q || a) ≡ true → t.inward.bytes ≡ []
    here true c a eq ec ea g x = absurd (false_never g)
    here false true true eq ec ea g x = absurd (false_never g)
    here false false true eq ec ea g x = nothing t.inward.bytes (awaited_in t s (both (is_awaited t.entry) (not t.connect) ea (ap not ec)))
    here false c false eq ec ea g x = absurd (false_never x)

in_guard : (p q c r : Bool) → (p && not q && not c && not r) ≡ true → (not q && not r) ≡ true
in_guard true false false r e = e
in_guard true true c r e = absurd cc
in_guard true false true r e = absurd cc
in_guard false true true r e = absurd cc
in_guard false true false r e = absurd cc
in_guard false false true r e = absurd cc
in_guard false false false r e = absurd cc

pub flow_kept : (e : Event) (t : Tunnel) → May e t → link_ok (link_view t) ≡ true → stream_ok (stream_view t) ≡ true → FlowOf t → FlowOf (after e t)
flow_kept FrontUp t g l s h = h
flow_kept ServerRefuses t g l s h = server_refuses_bytes t h
flow_kept (ServerDials there) t g l s h = server_dials_bytes there t (second (is_present t.front) t.inward.request g.0) (is_false t.up.reply (request_first t l (second (is_present t.front) t.inward.request g.0))) h
flow_kept ServerTakesCancel t g l s h = cancel_bytes t.entry t h
flow_kept (ServerTakesIn n) t g l s h = takes_in_bytes n t h l (early_none t s (in_guard (is_present t.front) t.inward.request t.inward.cancel (t.connect && is_awaited t.entry) g.0))
flow_kept ServerTakesClose t g l s h = front_closes_bytes t.entry (record t { inward = record t.inward { close = false } }) h
flow_kept ServerTakesRefusal t g l s h = refusal_comes_bytes t.entry (record t { up = record t.up { refusal = false } }) h
flow_kept ServerTakesReply t g l s h = reply_bytes t.entry t (second t.server t.up.reply g.0) (λ a x. dest_nothing t l a (second t.server t.up.reply g.0) x) h
flow_kept (ServerTakesUp n) t g l s h = takes_up_bytes n t h (λ k. taking_client t s k) (second t.server (not t.up.reply) g.0)
flow_kept ServerTakesCloseReply t g l s h = close_reply_bytes t.entry (record t { up = record t.up { closes = pred t.up.closes } }) h
flow_kept AgentTakesRequest t g l s h = far_dialled t h
flow_kept AgentRefuses t g l s h = far_left t h
flow_kept DialSucceeds t g l s h = dial_bytes t h (dial_finds t l (second t.agent (is_dialled t.far) g.0))
flow_kept (AgentTakesDown n) t g l s h = takes_down_bytes n t h l
flow_kept AgentTakesClose t g l s h = close_comes_bytes t.far (record t { down = record t.down { close = false } }) h
flow_kept (DestinationSends bytes) t g l s h = dest_sends_bytes bytes t h g.0
flow_kept (DestinationHands n) t g l s h = dest_hands_bytes n t h l (second t.agent (is_listed t.far) g.0)
flow_kept (DestinationWrote n) t g l s h = leaves_if_bytes (is_lingering t.far && is_empty (drop n t.dest.unwritten)) (record t { dest = record t.dest { got = t.dest.got ++ take n t.dest.unwritten; unwritten = drop n t.dest.unwritten } }) (dest_wrote_bytes n t h (second t.agent (is_listed t.far) g.0))
flow_kept DestinationLeaves t g l s h = agent_leaves_bytes t h
flow_kept ClientTakesRefusal t g l s h = refused_at_bytes t.phase (record t { outward = record t.outward { head = NoHead } }) h
flow_kept ClientTakesReply t g l s h = replied_at_bytes t.phase (record t { outward = record t.outward { head = NoHead } }) h
flow_kept (ClientTakesOut n) t g l s h = client_takes_bytes n t.phase t (λ d. nothing t.outward.bytes (dialling_out t s (both (t.client && not t.connect && no_head t.outward.head) (is_dialling t.phase) g.0 d))) h
flow_kept ClientTakesClose t g l s h = closed_at_bytes t.phase (record t { outward = record t.outward { closes = pred t.outward.closes } }) h
flow_kept (AppSends bytes) t g l s h = app_sends_bytes bytes t h
flow_kept (AppHands n) t g l s h = app_hands_bytes n t h g.0 (λ x. gone_front t s x)
flow_kept (AppWrote n) t g l s h = app_wrote_bytes n t (second (not t.connect) (is_here t.phase) g.0) h
flow_kept AppEnds t g l s h = ends_at_bytes t.phase t h
flow_kept AppFails t g l s h = fails_at_bytes t.phase t h
flow_kept ConnectTakesRefusal t g l s h = connect_leaves_bytes t.phase t h
flow_kept ConnectTakesReply t g l s h = h
flow_kept (ConnectTakesOut n) t g l s h = connect_takes_bytes n t h (nothing t.app.unwritten (connect_unwritten t s (second t.client t.connect (first (t.client && t.connect) (no_head t.outward.head) g.0)))) (λ x. connect_out t s (both (t.client && t.connect) (has t.outward.bytes) (first (t.client && t.connect) (no_head t.outward.head) g.0) x))
flow_kept ConnectTakesClose t g l s h = connect_leaves_bytes t.phase t h
flow_kept ConnectLeaves t g l s h = connect_leaves_bytes t.phase t h
flow_kept (LinkLostAtServer w k) t g l s h = link_lost_bytes k t w g.1 h
flow_kept (LinkLostAtAgent w) t g l s h = agent_lost_bytes t w g.1 h
flow_kept (FrontLost w) t g l s h = front_lost_bytes t w g.1 h
flow_kept (StreamLost w) t g l s h = stream_lost_bytes t.connect t w g.1 h
flow_kept ResetDown t g l s h = reset_down_bytes t (lost_carries t l (second t.agent (not t.server) g.0)) h
flow_kept ResetUp t g l s h = reset_up_bytes t (λ x. not_both t.agent (second t.server (not t.agent) g.0) (listed_agent t l x)) h
flow_kept ResetIn t g l s h = reset_in_bytes t (λ k. not_both t.client (second (not (is_gone t.front)) (not t.client) g.0) (taking_client t s k)) h
flow_kept ResetOut t g l s h = reset_out_bytes t (first (not (needs_front t.entry)) (not t.inward.request) (gone_front t s (second t.client (is_gone t.front) g.0))) h

pub starts_empty : (connect : Bool) → Bytes (start connect)
starts_empty connect = record { app_got = ([], refl); dest_got = ([], refl); app_holds = λ k. ([], refl); out = λ k. ([], refl); up = λ k c. ([], refl); all_up = λ k c j. refl; dest_holds = λ l. ([], refl); inward = λ l c. ([], refl); all_in = λ l c k. refl; early = λ x. ([], refl); all_early = λ x k. refl; waiting = λ x. refl; unsent = λ e. refl }
