-- Each event appends in order.
use Rattle.std.proofs.Common.{◌≡◌, ◌&&◌, ◌||◌, Bool, true, false, not, refl, ap, ◌∙◌}
use Rattle.kn_tunnel.specs.Events.{AgentRefuses, AgentTakesClose, AgentTakesDown, AgentTakesRequest, AppEnds, AppFails, AppHands, AppSends, AppWrote, ClientTakesClose, ClientTakesOut, ClientTakesRefusal, ClientTakesReply, ConnectLeaves, ConnectTakesClose, ConnectTakesOut, ConnectTakesRefusal, ConnectTakesReply, DestinationHands, DestinationLeaves, DestinationSends, DestinationWrote, DialSucceeds, Event, FrontLost, FrontUp, LinkLostAtAgent, LinkLostAtServer, ResetDown, ResetIn, ResetOut, ResetUp, ServerDials, ServerRefuses, ServerTakesCancel, ServerTakesClose, ServerTakesCloseReply, ServerTakesIn, ServerTakesRefusal, ServerTakesReply, ServerTakesUp, StreamLost}
use Rattle.kn_tunnel.specs.Kinds.{implies, is_asked, is_awaited, is_carrying, is_dialled, is_dialling, is_empty, is_gone, is_opened, is_present, is_refusal, is_reply, no_closes, no_entry}
use Rattle.kn_tunnel.specs.LinkSide.{link_ok, link_view}
use Rattle.kn_tunnel.specs.Order.{app_end_follows, cancel_follows, close_follows, close_reply_follows, down_close_follows, head_follows, in_bytes_follow, in_close_follows, in_order, out_close_follows, over_follows, reply_follows, up_refusal_follows, up_reply_follows}
use Rattle.kn_tunnel.specs.Steps.{May, may}
use Rattle.kn_tunnel.specs.StreamRows.{is_closing_here}
use Rattle.kn_tunnel.specs.StreamSide.{stream_ok, stream_view}
use Rattle.kn_tunnel.specs.Tunnel.{Awaited, Carrying, Closing, Dialling, Draining, Ended, Ending, Entry, Frontless, NoEntry, Opened, Phase, Refused, Tunnel}
use Rattle.kn_tunnel.proofs.Every.{first, second}
use Rattle.kn_tunnel.proofs.ListBits.{both, or_left, or_right}
use Rattle.kn_tunnel.proofs.Lists.{is_false}
use Rattle.kn_tunnel.proofs.OrderChecks.{answer_order, cancel_order, down_order, head_order, in_order_kept, late_order, out_order, over_order, refusal_order, unawaited_order, unknown_order, up_order}

-- of a premise in two parts, the first is known
given : (a b c : Bool) → implies (a && b) c ≡ true → a ≡ true → implies b c ≡ true
given true b c e f = e
given false b c e f = absurd cc

trivially : (b : Bool) → implies b true ≡ true
trivially true = refl
trivially false = refl

weaker : (a b c : Bool) → implies a (b && c) ≡ true → implies a b ≡ true
weaker true b c e = first b c e
weaker false b c e = refl

awaited_head : (t : Tunnel) → stream_ok (stream_view t) ≡ true → is_awaited t.entry ≡ true → implies t.client (head_follows t.outward) ≡ true
awaited_head t s a = given (is_awaited t.entry) t.client (head_follows t.outward) (head_order t s) a

carrying_close : (t : Tunnel) → stream_ok (stream_view t) ≡ true → is_carrying t.entry ≡ true → implies t.client (out_close_follows t.outward) ≡ true
carrying_close t s a = weaker t.client (not (is_refusal t.outward.head)) (no_closes t.outward.closes) (given (is_carrying t.entry) t.client (not (is_refusal t.outward.head) && no_closes t.outward.closes) (out_order t s) a)

closing_close : (t : Tunnel) → stream_ok (stream_view t) ≡ true → is_closing_here t.entry ≡ true → implies t.client (out_close_follows t.outward) ≡ true
closing_close t s a = given (is_closing_here t.entry) t.client (out_close_follows t.outward) (over_order t s) a

over_in_order : (e : Entry) (t : Tunnel) → t.entry ≡ e → stream_ok (stream_view t) ≡ true → over_follows e t ≡ true
over_in_order NoEntry t e s = refl
over_in_order Awaited t e s = awaited_head t s (ap is_awaited e)
over_in_order Carrying t e s = carrying_close t s (ap is_carrying e)
over_in_order Closing t e s = closing_close t s (ap is_closing_here e)
over_in_order Frontless t e s = refl

close_reply_in_order : (e : Entry) (t : Tunnel) → t.entry ≡ e → stream_ok (stream_view t) ≡ true → close_reply_follows e t ≡ true
close_reply_in_order NoEntry t e s = refl
close_reply_in_order Awaited t e s = refl
close_reply_in_order Carrying t e s = carrying_close t s (ap is_carrying e)
close_reply_in_order Closing t e s = closing_close t s (ap is_closing_here e)
close_reply_in_order Frontless t e s = refl

unknown_close : (t : Tunnel) → may ServerTakesClose t ≡ true → stream_ok (stream_view t) ≡ true → implies t.client (out_close_follows t.outward) ≡ true
unknown_close t g s = given (is_present t.front && not t.inward.request && not t.inward.cancel && is_empty t.inward.bytes && t.inward.close) t.client (out_close_follows t.outward) (unknown_order t s) g

close_in_order : (e : Entry) (t : Tunnel) → t.entry ≡ e → may ServerTakesClose t ≡ true → link_ok (link_view t) ≡ true → stream_ok (stream_view t) ≡ true → close_follows e t ≡ true
close_in_order NoEntry t e g l s = unknown_close t g s
close_in_order Awaited t e g l s = unknown_close t g s
close_in_order Carrying t e g l s = given (is_carrying t.entry) t.agent (down_close_follows t.down) (down_order t l) (ap is_carrying e)
close_in_order Closing t e g l s = refl
close_in_order Frontless t e g l s = unknown_close t g s

reply_in_order : (e : Entry) (t : Tunnel) → t.entry ≡ e → t.up.reply ≡ true → link_ok (link_view t) ≡ true → stream_ok (stream_view t) ≡ true → reply_follows e t ≡ true
reply_in_order NoEntry t e r l s = given (t.up.reply && no_entry t.entry) t.agent (down_close_follows t.down) (unawaited_order t l) (both t.up.reply (no_entry t.entry) r (ap no_entry e))
reply_in_order Awaited t e r l s = awaited_head t s (ap is_awaited e)
reply_in_order Carrying t e r l s = refl
reply_in_order Closing t e r l s = refl
reply_in_order Frontless t e r l s = refl

app_end_in_order : (p : Phase) (t : Tunnel) → t.phase ≡ p → t.connect ≡ false → stream_ok (stream_view t) ≡ true → app_end_follows p t ≡ true
app_end_in_order Dialling t e c s = given (not t.connect && is_dialling t.phase) (not (is_gone t.front)) (cancel_follows t.inward) (cancel_order t s) (both (not t.connect) (is_dialling t.phase) (ap not c) (ap is_dialling e))
app_end_in_order Opened t e c s = given (is_opened t.phase || (t.connect && is_dialling t.phase)) (not (is_gone t.front)) (in_close_follows t.inward) (in_order_kept t s) (or_left (is_opened t.phase) (t.connect && is_dialling t.phase) (ap is_opened e))
app_end_in_order Ending t e c s = refl
app_end_in_order Draining t e c s = refl
app_end_in_order Ended t e c s = refl
app_end_in_order Refused t e c s = refl

late_in_order : (t : Tunnel) → may ClientTakesReply t ≡ true → stream_ok (stream_view t) ≡ true → implies (not (is_dialling t.phase) && not (is_gone t.front)) (in_close_follows t.inward) ≡ true
late_in_order t g s = here (t.client && not t.connect && is_reply t.outward.head) (not (is_dialling t.phase)) (not (is_gone t.front)) (not t.inward.close) (late_order t s) g
  where
    here : (g a b c : Bool) → implies (g && a && b) c ≡ true → g ≡ true → implies (a && b) c ≡ true
    here true a b c e f = e
    here false a b c e f = absurd cc

awaited_over : (b : Bool) (t : Tunnel) → is_awaited t.entry ≡ b → stream_ok (stream_view t) ≡ true → implies b (over_follows Awaited t) ≡ true
awaited_over true t e s = awaited_head t s e
awaited_over false t e s = refl

known : (a b c : Bool) → implies a c ≡ true → a ≡ true → implies b c ≡ true
known true b c e f = ap (implies b) e ∙ trivially b
known false b c e f = absurd cc

pub appends_in_order : (e : Event) (t : Tunnel) → May e t → link_ok (link_view t) ≡ true → stream_ok (stream_view t) ≡ true → in_order e t ≡ true
appends_in_order FrontUp t g l s = refl
appends_in_order ServerRefuses t g l s = given (is_present t.front && t.inward.request) t.client (head_follows t.outward) (refusal_order t s) g.0
appends_in_order (ServerDials there) t g l s = refl
appends_in_order ServerTakesCancel t g l s = refl
appends_in_order (ServerTakesIn n) t g l s = down_order t l
appends_in_order ServerTakesClose t g l s = close_in_order t.entry t refl g.0 l s
appends_in_order ServerTakesRefusal t g l s = awaited_over (is_awaited t.entry) t refl s
appends_in_order ServerTakesReply t g l s = reply_in_order t.entry t refl (second t.server t.up.reply g.0) l s
appends_in_order (ServerTakesUp n) t g l s = out_order t s
appends_in_order ServerTakesCloseReply t g l s = close_reply_in_order t.entry t refl s
appends_in_order AgentTakesRequest t g l s = refl
appends_in_order AgentRefuses t g l s = known (is_asked t.far || is_dialled t.far) t.server (up_refusal_follows t.up) (answer_order t l) (second t.agent (is_asked t.far || is_dialled t.far) g.0)
appends_in_order DialSucceeds t g l s = known (is_asked t.far || is_dialled t.far) t.server (up_reply_follows t.up) (answer_order t l) (or_right (is_asked t.far) (is_dialled t.far) (second t.agent (is_dialled t.far) g.0))
appends_in_order (AgentTakesDown n) t g l s = refl
appends_in_order AgentTakesClose t g l s = refl
appends_in_order (DestinationSends bytes) t g l s = refl
appends_in_order (DestinationHands n) t g l s = up_order t l
appends_in_order (DestinationWrote n) t g l s = refl
appends_in_order DestinationLeaves t g l s = refl
appends_in_order ClientTakesRefusal t g l s = refl
appends_in_order ClientTakesReply t g l s = late_in_order t g.0 s
appends_in_order (ClientTakesOut n) t g l s = refl
appends_in_order ClientTakesClose t g l s = refl
appends_in_order (AppSends bytes) t g l s = refl
appends_in_order (AppHands n) t g l s = given (is_opened t.phase || (t.connect && is_dialling t.phase)) (not (is_gone t.front)) (in_bytes_follow t.inward) (in_order_kept t s) g.0
appends_in_order (AppWrote n) t g l s = refl
appends_in_order AppEnds t g l s = app_end_in_order t.phase t refl (is_false t.connect g.0) s
appends_in_order AppFails t g l s = app_end_in_order t.phase t refl (is_false t.connect g.0) s
appends_in_order ConnectTakesRefusal t g l s = refl
appends_in_order ConnectTakesReply t g l s = refl
appends_in_order (ConnectTakesOut n) t g l s = refl
appends_in_order ConnectTakesClose t g l s = refl
appends_in_order ConnectLeaves t g l s = refl
appends_in_order (LinkLostAtServer w k) t g l s = over_in_order t.entry t refl s
appends_in_order (LinkLostAtAgent w) t g l s = refl
appends_in_order (FrontLost w) t g l s = down_order t l
appends_in_order (StreamLost w) t g l s = refl
appends_in_order ResetDown t g l s = refl
appends_in_order ResetUp t g l s = refl
appends_in_order ResetIn t g l s = refl
appends_in_order ResetOut t g l s = refl
