-- Each event keeps the facts of the link side.
use Rattle.std.proofs.Common.{◌≡◌, ◌++◌, ◌&&◌, ◌||◌, ℕ, Bool, true, false, not, pred, take, drop, if◌then◌else◌, cond, refl, sym, ap, ap₂, ◌∙◌}
use Rattle.kn_tunnel.specs.Cuts.{IsCutDown, IsCutIn, IsCutUp}
use Rattle.kn_tunnel.specs.Events.{AgentRefuses, AgentTakesClose, AgentTakesDown, AgentTakesRequest, AppEnds, AppFails, AppHands, AppSends, AppWrote, ClientTakesClose, ClientTakesOut, ClientTakesRefusal, ClientTakesReply, ConnectLeaves, ConnectTakesClose, ConnectTakesOut, ConnectTakesRefusal, ConnectTakesReply, DestinationHands, DestinationLeaves, DestinationSends, DestinationWrote, DialSucceeds, Event, FrontLost, FrontUp, LinkLostAtAgent, LinkLostAtServer, ResetDown, ResetIn, ResetOut, ResetUp, ServerDials, ServerRefuses, ServerTakesCancel, ServerTakesClose, ServerTakesCloseReply, ServerTakesIn, ServerTakesRefusal, ServerTakesReply, ServerTakesUp, StreamLost}
use Rattle.kn_tunnel.specs.Kinds.{few, has, implies, is_asked, is_carrying, is_empty, is_joined, is_lingering, is_present}
use Rattle.kn_tunnel.specs.LinkSide.{LinkView, link_ok, link_view}
use Rattle.kn_tunnel.specs.Steps.{May, after, agent_leaves, close_comes, close_reply_comes, closed_at, ends_at, fails_at, front_closes, front_goes, leaves_if_done, link_goes, lost_at, may, no_in, no_up, refusal_comes, refused_at, replied_at, reply_comes, stream_goes}
use Rattle.kn_tunnel.specs.Tunnel.{Asked, Awaited, Carrying, Closing, Dialled, Dialling, Downward, Draining, Ended, Ending, Entry, Far, Frontless, Gone, Inward, Joined, Left, Lingering, NoEntry, NoHead, Opened, Phase, Refused, Tunnel, Undrawn, Upward}
use Rattle.kn_tunnel.proofs.Counts.{few_within}
use Rattle.kn_tunnel.proofs.Every.{at_bool, at_few, bools, fews, met, second, when}
use Rattle.kn_tunnel.proofs.EveryLink.{at_ok}
use Rattle.kn_tunnel.proofs.LinkChecks.{agent_losses, agent_losses_at, agent_lost, cancels, cancels_at, close_replied, close_replies_come, close_replies_come_at, closed, closings, closings_at, down_resets, down_resets_at, drawn_seen, draws, draws_at, few_closes, few_closes_at, front_closed, front_closings, front_closings_at, front_losses, front_losses_at, front_lost, leavings, leavings_at, left, less_down, less_downs, less_downs_at, less_ups, less_ups_at, more_down, more_downs, more_downs_at, more_up, more_ups, more_ups_at, refusals, refusals_at, refusals_come, refusals_come_at, refusals_sent, refusals_sent_at, refused, replied, replies_come, replies_come_at, requests, requests_at, server_losses, server_losses_at, server_lost, successes, successes_at, up_resets, up_resets_at, writings, writings_at, wrote}
use Rattle.kn_tunnel.proofs.ListBits.{both, drop_has, empty_appended, few_more, few_previous, fewer, flag, fresh_same, has_appended, none_few, parts_have, prefix_has}

draw_kept : (there : Bool) (t : Tunnel) → t.inward.request ≡ true → link_ok (link_view t) ≡ true → link_ok (drawn_seen there (link_view t)) ≡ true
draw_kept there t g h = at_bool (λ there. link_ok (drawn_seen there (link_view t))) (met _ _ (at_ok draws_at draws (link_view t) h) g) there

in_kept : (n : ℕ) (t : Tunnel) → link_ok (link_view t) ≡ true → link_ok (link_view (after (ServerTakesIn n) t)) ≡ true
in_kept n t h =
    let v : LinkView = link_view t in
    ap (λ d. link_ok (record v { down_data = d })) (has_appended (is_carrying t.entry && t.agent) t.down.bytes (take n t.inward.bytes))
    ∙ at_bool (λ p. link_ok (more_down p v)) (at_ok more_downs_at more_downs v h) (has (take n t.inward.bytes))

front_closes_view : (e : Entry) (t : Tunnel) → link_view (front_closes e t) ≡ front_closed e (link_view t)
front_closes_view NoEntry t = refl
front_closes_view Awaited t = refl
front_closes_view Carrying t = refl
front_closes_view Closing t = refl
front_closes_view Frontless t = refl

down_kept : (n : ℕ) (t : Tunnel) → t.agent ≡ true → link_ok (link_view t) ≡ true → link_ok (link_view (after (AgentTakesDown n) t)) ≡ true
down_kept n t g h =
    let v : LinkView = link_view t in let p : Bool = has (take n t.down.bytes) in let r : Bool = has (drop n t.down.bytes) in
    let c = at_bool (λ r. when (implies (p || r) v.down_data && v.agent) (link_ok (less_down p r v))) (at_bool (λ p. bools (λ r. when (implies (p || r) v.down_data && v.agent) (link_ok (less_down p r v)))) (at_ok less_downs_at less_downs v h) p) r in
    ap₂ (λ u f. link_ok (record v { down_data = r; unwritten = u; fresh = f })) (has_appended (is_joined t.far) t.dest.unwritten (take n t.down.bytes)) (empty_appended (is_joined t.far) (is_empty t.dest.got) t.dest.unwritten (take n t.down.bytes))
    ∙ met _ _ c (both (implies (p || r) v.down_data) v.agent (parts_have n t.down.bytes) g)

leaves_view : (t : Tunnel) → link_view (agent_leaves t) ≡ left (is_empty t.dest.got && true) (link_view t)
leaves_view t = ap (λ c. record (left (is_empty t.dest.got && true) (link_view t)) { up_closes = c }) (few_more t.server t.up.closes)

split_view : (b : Bool) (x y : Tunnel) → link_view (cond (not b) x y) ≡ cond b (link_view y) (link_view x)
split_view true x y = refl
split_view false x y = refl

close_comes_view : (far : Far) (t : Tunnel) → link_view (close_comes far t) ≡ closed far (is_empty t.dest.got && true) (link_view t)
close_comes_view Joined t = split_view (has t.dest.unwritten) (agent_leaves t) (record t { far = Lingering }) ∙ ap (λ x. cond (has t.dest.unwritten) (link_view (record t { far = Lingering })) x) (leaves_view t)
close_comes_view Lingering t = refl
close_comes_view Undrawn t = ap (λ c. record (link_view t) { up_closes = c }) (few_more t.server t.up.closes)
close_comes_view Asked t = ap (λ c. record (link_view t) { up_closes = c }) (few_more t.server t.up.closes)
close_comes_view Dialled t = ap (λ c. record (link_view t) { up_closes = c }) (few_more t.server t.up.closes)
close_comes_view Left t = ap (λ c. record (link_view t) { up_closes = c }) (few_more t.server t.up.closes)

close_kept : (t : Tunnel) → may AgentTakesClose t ≡ true → link_ok (link_view t) ≡ true → link_ok (link_view (after AgentTakesClose t)) ≡ true
close_kept t g h =
    let v : LinkView = link_view t in let f : Bool = is_empty t.dest.got && true in
    let c = met _ _ (at_ok closings_at closings v h) g in
    ap link_ok (close_comes_view t.far (record t { down = record t.down { close = false } })) ∙ at_bool (λ f. link_ok (closed v.far f (record v { down_close = false }))) c f

hands_kept : (n : ℕ) (t : Tunnel) → may (DestinationHands n) t ≡ true → link_ok (link_view t) ≡ true → link_ok (link_view (after (DestinationHands n) t)) ≡ true
hands_kept n t g h =
    let v : LinkView = link_view t in
    let c = met _ _ (at_ok more_ups_at more_ups v h) g in
    ap (λ d. link_ok (record v { up_data = d })) (has_appended (is_joined t.far && t.server) t.up.bytes (take n t.dest.kept)) ∙ at_bool (λ p. link_ok (more_up p v)) c (has (take n t.dest.kept))

leaves_if_view : (b : Bool) (t : Tunnel) → link_view (leaves_if_done b t) ≡ cond b (left (is_empty t.dest.got && true) (link_view t)) (link_view t)
leaves_if_view true t = leaves_view t
leaves_if_view false t = refl

wrote_view : (n : ℕ) (t : Tunnel) → link_view (record t { dest = record t.dest { got = t.dest.got ++ take n t.dest.unwritten; unwritten = drop n t.dest.unwritten } }) ≡ record (link_view t) { unwritten = has (drop n t.dest.unwritten) }
wrote_view n t = ap (λ f. record (link_view t) { fresh = f; unwritten = has (drop n t.dest.unwritten) }) (fresh_same n t.dest.got t.dest.unwritten)

wrote_kept : (n : ℕ) (t : Tunnel) → may (DestinationWrote n) t ≡ true → link_ok (link_view t) ≡ true → link_ok (link_view (after (DestinationWrote n) t)) ≡ true
wrote_kept n t g h =
    let v : LinkView = link_view t in let r : Bool = has (drop n t.dest.unwritten) in let f : Bool = is_empty (t.dest.got ++ take n t.dest.unwritten) && true in
    let c = met _ _ (at_ok writings_at writings v h) g in
    let d = at_bool (λ f. bools (λ r. when (implies r v.unwritten) (link_ok (wrote f r v)))) c f in
    let e = met _ _ (at_bool (λ r. when (implies r v.unwritten) (link_ok (wrote f r v))) d r) (drop_has n t.dest.unwritten) in
    ap link_ok (leaves_if_view (is_lingering t.far && is_empty (drop n t.dest.unwritten)) (record t { dest = record t.dest { got = t.dest.got ++ take n t.dest.unwritten; unwritten = drop n t.dest.unwritten } })
    ∙ ap (λ w. cond (is_lingering t.far && not r) (left f w) w) (wrote_view n t))
    ∙ e

leave_kept : (t : Tunnel) → may DestinationLeaves t ≡ true → link_ok (link_view t) ≡ true → link_ok (link_view (after DestinationLeaves t)) ≡ true
leave_kept t g h =
    let v : LinkView = link_view t in
    let c = met _ _ (at_ok leavings_at leavings v h) g in
    ap link_ok (leaves_view t) ∙ at_bool (λ f. link_ok (left f v)) c (is_empty t.dest.got && true)

refusal_view : (e : Entry) (t : Tunnel) → link_view (refusal_comes e t) ≡ refused e (link_view t)
refusal_view NoEntry t = refl
refusal_view Awaited t = refl
refusal_view Carrying t = refl
refusal_view Closing t = refl
refusal_view Frontless t = refl

reply_view : (e : Entry) (t : Tunnel) → link_view (reply_comes e t) ≡ replied e (link_view t)
reply_view NoEntry t = refl
reply_view Awaited t = refl
reply_view Carrying t = refl
reply_view Closing t = refl
reply_view Frontless t = refl

close_reply_view : (e : Entry) (t : Tunnel) → link_view (close_reply_comes e t) ≡ close_replied e (link_view t)
close_reply_view NoEntry t = refl
close_reply_view Awaited t = refl
close_reply_view Carrying t = refl
close_reply_view Closing t = refl
close_reply_view Frontless t = refl

link_goes_view : (e : Entry) (t : Tunnel) → link_view (link_goes e (record t { entry = e })) ≡ record (link_view t) { entry = NoEntry }
link_goes_view NoEntry t = refl
link_goes_view Awaited t = refl
link_goes_view Carrying t = refl
link_goes_view Closing t = refl
link_goes_view Frontless t = refl

front_goes_view : (e : Entry) (t : Tunnel) → link_view (front_goes e t) ≡ front_lost e (link_view t)
front_goes_view NoEntry t = refl
front_goes_view Awaited t = refl
front_goes_view Carrying t = refl
front_goes_view Closing t = refl
front_goes_view Frontless t = refl

up_kept : (n : ℕ) (t : Tunnel) → may (ServerTakesUp n) t ≡ true → link_ok (link_view t) ≡ true → link_ok (link_view (after (ServerTakesUp n) t)) ≡ true
up_kept n t g h =
    let v : LinkView = link_view t in
    let c = met _ _ (at_ok less_ups_at less_ups v h) g in
    met _ _ (at_bool (λ r. when (implies r v.up_data) (link_ok (record v { up_data = r }))) c (has (drop n t.up.bytes))) (drop_has n t.up.bytes)

close_reply_kept : (t : Tunnel) → may ServerTakesCloseReply t ≡ true → link_ok (link_view t) ≡ true → link_ok (link_view (after ServerTakesCloseReply t)) ≡ true
close_reply_kept t g h =
    let v : LinkView = link_view t in
    let small = at_ok few_closes_at few_closes v h in
    let g2 = rw (← none_few t.up.closes) at g in
    let c = met _ _ (at_ok close_replies_come_at close_replies_come v h) g2 in
    ap link_ok (close_reply_view t.entry (record t { up = record t.up { closes = pred t.up.closes } }) ∙ ap (λ n. close_replied t.entry (record v { up_closes = n })) (few_previous t.up.closes small)) ∙ c

server_loss_kept : (w : Downward) (k : Bool) (t : Tunnel) → t.server ≡ true → IsCutDown w t.down → link_ok (link_view t) ≡ true → link_ok (link_view (after (LinkLostAtServer w k) t)) ≡ true
server_loss_kept w k t g cut h =
    let v : LinkView = link_view t in let d : Bool = has w.bytes in let c : Bool = w.close in
    let all = met _ _ (at_ok server_losses_at server_losses v h) g in
    let at_d = at_bool (λ d. bools (λ c. bools (λ k. when (implies d v.down_data && implies c v.down_close) (link_ok (server_lost d c k v))))) all d in
    let at_c = at_bool (λ c. bools (λ k. when (implies d v.down_data && implies c v.down_close) (link_ok (server_lost d c k v)))) at_d c in
    let at_k = at_bool (λ k. when (implies d v.down_data && implies c v.down_close) (link_ok (server_lost d c k v))) at_c k in
    ap link_ok (link_goes_view t.entry (record t { server = false; up = no_up; down = w; far = (if is_asked t.far && not k then Left else t.far) }))
    ∙ met _ _ at_k (both (implies d v.down_data) (implies c v.down_close) (prefix_has w.bytes t.down.bytes cut.bytes) (flag c t.down.close cut.close))

agent_loss : (w : Upward) (t : Tunnel) → t.agent ≡ true → link_ok (link_view t) ≡ true
    → implies w.refusal t.up.refusal ≡ true → implies w.reply t.up.reply ≡ true → implies (has w.bytes) (has t.up.bytes) ≡ true → few_within (few w.closes) (few t.up.closes) ≡ true
    → link_ok (agent_lost w.refusal w.reply (has w.bytes) (few w.closes) (is_empty t.dest.got && true) (link_view t)) ≡ true
agent_loss w t g h he hp hd hc =
    let v : LinkView = link_view t in let f : Bool = is_empty t.dest.got && true in
    let all = met _ _ (at_ok agent_losses_at agent_losses v h) g in
    let a1 = met _ _ (at_bool (λ e. when (implies e v.refusal) (bools (λ p. when (implies p v.reply) (bools (λ d. when (implies d v.up_data) (fews (λ c. when (few_within c v.up_closes) (bools (λ f. when (implies v.fresh f) (link_ok (agent_lost e p d c f v))))))))))) all w.refusal) he in
    let a2 = met _ _ (at_bool (λ p. when (implies p v.reply) (bools (λ d. when (implies d v.up_data) (fews (λ c. when (few_within c v.up_closes) (bools (λ f. when (implies v.fresh f) (link_ok (agent_lost w.refusal p d c f v))))))))) a1 w.reply) hp in
    let a3 = met _ _ (at_bool (λ d. when (implies d v.up_data) (fews (λ c. when (few_within c v.up_closes) (bools (λ f. when (implies v.fresh f) (link_ok (agent_lost w.refusal w.reply d c f v))))))) a2 (has w.bytes)) hd in
    let a4 = met _ _ (at_few (λ c. when (few_within c v.up_closes) (bools (λ f. when (implies v.fresh f) (link_ok (agent_lost w.refusal w.reply (has w.bytes) c f v))))) a3 (few w.closes)) hc in
    met _ _ (at_bool (λ f. when (implies v.fresh f) (link_ok (agent_lost w.refusal w.reply (has w.bytes) (few w.closes) f v))) a4 f) (fresher (is_empty t.dest.got) (is_empty t.dest.unwritten))
  where
    fresher : (a b : Bool) → implies (a && b) (a && true) ≡ true
    fresher true true = refl
    fresher true false = refl
    fresher false b = refl

agent_loss_kept : (w : Upward) (t : Tunnel) → t.agent ≡ true → IsCutUp w t.up → link_ok (link_view t) ≡ true → link_ok (link_view (after (LinkLostAtAgent w) t)) ≡ true
agent_loss_kept w t g cut h = agent_loss w t g h (flag w.refusal t.up.refusal cut.refusal) (flag w.reply t.up.reply cut.reply) (prefix_has w.bytes t.up.bytes cut.bytes) (fewer w.closes t.up.closes cut.closes)

-- what the client does is not seen on the link side, but for the request that it may lose
request_gone : (t : Tunnel) → link_ok (link_view t) ≡ true → link_ok (record (link_view t) { request = false }) ≡ true
request_gone t h = at_ok refusals_sent_at refusals_sent (link_view t) h

refused_at_view : (p : Phase) (t : Tunnel) → link_view (refused_at p t) ≡ link_view t
refused_at_view Dialling t = refl
refused_at_view Opened t = refl
refused_at_view Ending t = refl
refused_at_view Draining t = refl
refused_at_view Ended t = refl
refused_at_view Refused t = refl

replied_at_view : (p : Phase) (t : Tunnel) → link_view (replied_at p t) ≡ link_view t
replied_at_view Dialling t = refl
replied_at_view Opened t = refl
replied_at_view Ending t = refl
replied_at_view Draining t = refl
replied_at_view Ended t = refl
replied_at_view Refused t = refl

closed_at_view : (p : Phase) (t : Tunnel) → link_view (closed_at p t) ≡ link_view t
closed_at_view Dialling t = refl
closed_at_view Opened t = refl
closed_at_view Ending t = refl
closed_at_view Draining t = refl
closed_at_view Ended t = refl
closed_at_view Refused t = refl

lost_at_view : (p : Phase) (t : Tunnel) → link_view (lost_at p t) ≡ link_view t
lost_at_view Dialling t = refl
lost_at_view Opened t = refl
lost_at_view Ending t = refl
lost_at_view Draining t = refl
lost_at_view Ended t = refl
lost_at_view Refused t = refl

ends_at_view : (p : Phase) (t : Tunnel) → link_view (ends_at p t) ≡ link_view t
ends_at_view Dialling t = refl
ends_at_view Opened t = refl
ends_at_view Ending t = refl
ends_at_view Draining t = refl
ends_at_view Ended t = refl
ends_at_view Refused t = refl

fails_at_view : (p : Phase) (t : Tunnel) → link_view (fails_at p t) ≡ link_view t
fails_at_view Dialling t = refl
fails_at_view Opened t = refl
fails_at_view Ending t = refl
fails_at_view Draining t = refl
fails_at_view Ended t = refl
fails_at_view Refused t = refl

stream_goes_view : (b : Bool) (t : Tunnel) → link_view (stream_goes b t) ≡ link_view t
stream_goes_view true t = refl
stream_goes_view false t = lost_at_view t.phase t

stream_loss_kept : (w : Inward) (t : Tunnel) → IsCutIn w t.inward → link_ok (link_view t) ≡ true → link_ok (link_view (after (StreamLost w) t)) ≡ true
stream_loss_kept w t cut h = ap link_ok (stream_goes_view t.connect (record t { inward = w })) ∙ here w.request t.inward.request refl cut.request
  where
    here : (a b : Bool) → t.inward.request ≡ b → (a ≡ true → b ≡ true) → link_ok (record (link_view t) { request = a }) ≡ true
    here false b e f = request_gone t h
    here true b e f = ap (λ r. link_ok (record (link_view t) { request = r })) (sym (e ∙ f refl)) ∙ h

pub link_kept : (e : Event) (t : Tunnel) → May e t → link_ok (link_view t) ≡ true → link_ok (link_view (after e t)) ≡ true
link_kept FrontUp t g h = h
link_kept ServerRefuses t g h = at_ok refusals_sent_at refusals_sent (link_view t) h
link_kept (ServerDials there) t g h = draw_kept there t (second (is_present t.front) t.inward.request g.0) h
link_kept ServerTakesCancel t g h = at_ok cancels_at cancels (link_view t) h
link_kept (ServerTakesIn n) t g h = in_kept n t h
link_kept ServerTakesClose t g h = ap link_ok (front_closes_view t.entry (record t { inward = record t.inward { close = false } })) ∙ at_ok front_closings_at front_closings (link_view t) h
link_kept AgentTakesRequest t g h = met _ _ (at_ok requests_at requests (link_view t) h) g.0
link_kept AgentRefuses t g h = met _ _ (at_ok refusals_at refusals (link_view t) h) g.0
link_kept DialSucceeds t g h = met _ _ (at_ok successes_at successes (link_view t) h) g.0
link_kept (AgentTakesDown n) t g h = down_kept n t g.0 h
link_kept AgentTakesClose t g h = close_kept t g.0 h
link_kept (DestinationSends bytes) t g h = h
link_kept (DestinationHands n) t g h = hands_kept n t g.0 h
link_kept (DestinationWrote n) t g h = wrote_kept n t g.0 h
link_kept DestinationLeaves t g h = leave_kept t g.0 h
link_kept ServerTakesRefusal t g h = ap link_ok (refusal_view t.entry (record t { up = record t.up { refusal = false } })) ∙ met _ _ (at_ok refusals_come_at refusals_come (link_view t) h) (second t.server t.up.refusal g.0)
link_kept ServerTakesReply t g h = ap link_ok (reply_view t.entry (record t { up = record t.up { reply = false } })) ∙ met _ _ (at_ok replies_come_at replies_come (link_view t) h) (second t.server t.up.reply g.0)
link_kept (ServerTakesUp n) t g h = up_kept n t g.0 h
link_kept ServerTakesCloseReply t g h = close_reply_kept t g.0 h
link_kept (LinkLostAtServer w k) t g h = server_loss_kept w k t g.0 g.1 h
link_kept (LinkLostAtAgent w) t g h = agent_loss_kept w t g.0 g.1 h
link_kept ResetDown t g h = met _ _ (at_ok down_resets_at down_resets (link_view t) h) g.0
link_kept ResetUp t g h = met _ _ (at_ok up_resets_at up_resets (link_view t) h) g.0
link_kept (FrontLost w) t g h = ap link_ok (front_goes_view t.entry (record t { front = Gone; inward = no_in; outward = w })) ∙ at_ok front_losses_at front_losses (link_view t) h
link_kept ClientTakesRefusal t g h = ap link_ok (refused_at_view t.phase (record t { outward = record t.outward { head = NoHead } })) ∙ h
link_kept ClientTakesReply t g h = ap link_ok (replied_at_view t.phase (record t { outward = record t.outward { head = NoHead } })) ∙ h
link_kept (ClientTakesOut n) t g h = h
link_kept ClientTakesClose t g h = ap link_ok (closed_at_view t.phase (record t { outward = record t.outward { closes = pred t.outward.closes } })) ∙ h
link_kept (AppSends bytes) t g h = h
link_kept (AppHands n) t g h = h
link_kept (AppWrote n) t g h = h
link_kept AppEnds t g h = ap link_ok (ends_at_view t.phase t) ∙ h
link_kept AppFails t g h = ap link_ok (fails_at_view t.phase t) ∙ h
link_kept ConnectTakesRefusal t g h = h
link_kept ConnectTakesReply t g h = h
link_kept (ConnectTakesOut n) t g h = h
link_kept ConnectTakesClose t g h = h
link_kept ConnectLeaves t g h = h
link_kept (StreamLost w) t g h = stream_loss_kept w t g.1 h
link_kept ResetIn t g h = request_gone t h
link_kept ResetOut t g h = h
