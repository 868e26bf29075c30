-- Each event keeps the facts of the stream side.
use Rattle.std.proofs.Common.{◌≡◌, ◌++◌, ◌&&◌, ◌||◌, ◌⊎◌, ℕ, Bool, true, false, not, pred, take, drop, if◌then◌else◌, cond, inl, inr, refl, sym, ap, ◌∙◌}
use Rattle.kn_tunnel.specs.Cuts.{IsCutIn, IsCutOut}
use Rattle.kn_tunnel.specs.Events.{AgentRefuses, AgentTakesClose, AgentTakesDown, AgentTakesRequest, AppEnds, AppFails, AppHands, AppSends, AppWrote, ClientTakesClose, ClientTakesOut, ClientTakesRefusal, ClientTakesReply, ConnectLeaves, ConnectTakesClose, ConnectTakesOut, ConnectTakesRefusal, ConnectTakesReply, DestinationHands, DestinationLeaves, DestinationSends, DestinationWrote, DialSucceeds, Event, FrontLost, FrontUp, LinkLostAtAgent, LinkLostAtServer, ResetDown, ResetIn, ResetOut, ResetUp, ServerDials, ServerRefuses, ServerTakesCancel, ServerTakesClose, ServerTakesCloseReply, ServerTakesIn, ServerTakesRefusal, ServerTakesReply, ServerTakesUp, StreamLost}
use Rattle.kn_tunnel.specs.Kinds.{Few, Zero, few, has, implies, is_asked, is_awaited, is_carrying, is_dialled, is_draining, is_drawn, is_empty, is_gone, is_lingering, is_listed, is_opened, is_refusal, is_zero, no_head, none}
use Rattle.kn_tunnel.specs.Steps.{May, after, agent_leaves, appended, close_comes, close_reply_comes, closed_at, connect_leaves, ends_at, fails_at, front_closes, front_goes, leaves_if_done, link_goes, lost_at, may, no_in, no_out, no_up, refusal_comes, refused_at, replied_at, reply_comes, send_close, stream_goes}
use Rattle.kn_tunnel.specs.StreamSide.{StreamView, stream_ok, stream_view}
use Rattle.kn_tunnel.specs.Tunnel.{Asked, Awaited, Carrying, Closing, Dialled, Dialling, Downward, Draining, Ended, Ending, Entry, Far, Frontless, Gone, Head, Inward, Joined, Left, Lingering, NoEntry, NoHead, Opened, Outward, Phase, Refusal, Refused, Reply, Tunnel, Undrawn}
use Rattle.kn_tunnel.proofs.Counts.{few_within, next}
use Rattle.kn_tunnel.proofs.Every.{at_bool, at_few, at_head, bools, fews, first, met, second, when}
use Rattle.kn_tunnel.proofs.EveryStream.{at_stream}
use Rattle.kn_tunnel.proofs.ListBits.{both, drop_has, few_more, fewer, flag, has_append, has_appended, none_few, one_less, or_left, or_right, parts_have, prefix_has}
use Rattle.kn_tunnel.proofs.StreamAppChecks.{app_ends, app_ends_at, app_fails, app_fails_at, app_hands, app_hands_at, app_wrote, app_wrote_at, client_closed, client_closed_at, client_refused, client_refused_at, client_replied, client_replied_at, client_takes, client_takes_at, connect_left, connect_left_at, connect_replied, connect_replied_at, connect_takes, connect_takes_at}
use Rattle.kn_tunnel.proofs.StreamEffects.{close_reply_seen, close_seen, closed_seen, ends_seen, fails_seen, front_close_seen, front_loss_seen, is_left_out, link_loss_seen, lost_seen, nothing_to_server, out_left, refusal_comes_seen, refused_seen, replied_seen, reply_comes_seen, same_head, stream_loss_seen}
use Rattle.kn_tunnel.proofs.StreamLossChecks.{fronts_lost, fronts_lost_at, ins_reset, ins_reset_at, outs_reset, outs_reset_at, streams_lost, streams_lost_at}
use Rattle.kn_tunnel.proofs.StreamServerChecks.{closes_pass, closes_pass_at, closes_reply, closes_reply_at, data_passes, data_passes_at, fronts_come, fronts_come_at, refusals_pass, refusals_pass_at, replies_pass, replies_pass_at, server_cancels, server_cancels_at, server_dials, server_dials_at, server_refuses, server_refuses_at, server_takes_close, server_takes_close_at, server_takes_in, server_takes_in_at}

-- the views of what a step does

send_close_seen : (t : Tunnel) → stream_view (send_close t) ≡ close_seen (stream_view t)
send_close_seen t = ap (λ c. record (close_seen (stream_view t)) { out_closes = c }) (few_more t.client t.outward.closes)

send_close_gone : (t : Tunnel) → stream_view (record (send_close t) { entry = NoEntry }) ≡ record (close_seen (stream_view t)) { entry = NoEntry }
send_close_gone t = ap (λ c. record (close_seen (stream_view t)) { out_closes = c; entry = NoEntry }) (few_more t.client t.outward.closes)

front_closes_seen : (e : Entry) (t : Tunnel) → stream_view (front_closes e t) ≡ front_close_seen e (stream_view t)
front_closes_seen NoEntry t = send_close_seen t
front_closes_seen Awaited t = send_close_seen t
front_closes_seen Carrying t = refl
front_closes_seen Closing t = refl
front_closes_seen Frontless t = send_close_seen t

refusal_seen_at : (e : Entry) (t : Tunnel) → stream_view (refusal_comes e t) ≡ refusal_comes_seen e (stream_view t)
refusal_seen_at NoEntry t = refl
refusal_seen_at Awaited t = refl
refusal_seen_at Carrying t = refl
refusal_seen_at Closing t = refl
refusal_seen_at Frontless t = refl

reply_seen_at : (e : Entry) (t : Tunnel) → stream_view (reply_comes e t) ≡ reply_comes_seen e (stream_view t)
reply_seen_at NoEntry t = refl
reply_seen_at Awaited t = refl
reply_seen_at Carrying t = refl
reply_seen_at Closing t = refl
reply_seen_at Frontless t = refl

close_reply_seen_at : (e : Entry) (t : Tunnel) → stream_view (close_reply_comes e t) ≡ close_reply_seen e (stream_view t)
close_reply_seen_at NoEntry t = refl
close_reply_seen_at Awaited t = refl
close_reply_seen_at Carrying t = send_close_gone t
close_reply_seen_at Closing t = send_close_gone t
close_reply_seen_at Frontless t = refl

link_goes_seen : (e : Entry) (t : Tunnel) → stream_view (link_goes e t) ≡ link_loss_seen e (stream_view t)
link_goes_seen NoEntry t = refl
link_goes_seen Awaited t = refl
link_goes_seen Carrying t = send_close_gone t
link_goes_seen Closing t = send_close_gone t
link_goes_seen Frontless t = refl

front_goes_seen : (e : Entry) (t : Tunnel) → stream_view (front_goes e t) ≡ front_loss_seen e (stream_view t)
front_goes_seen NoEntry t = refl
front_goes_seen Awaited t = refl
front_goes_seen Carrying t = refl
front_goes_seen Closing t = refl
front_goes_seen Frontless t = refl

refused_at_seen : (p : Phase) (t : Tunnel) → stream_view (refused_at p t) ≡ refused_seen p (stream_view t)
refused_at_seen Dialling t = refl
refused_at_seen Opened t = refl
refused_at_seen Ending t = refl
refused_at_seen Draining t = refl
refused_at_seen Ended t = refl
refused_at_seen Refused t = refl

replied_at_seen : (p : Phase) (t : Tunnel) → stream_view (replied_at p t) ≡ replied_seen p (stream_view t)
replied_at_seen Dialling t = refl
replied_at_seen Opened t = refl
replied_at_seen Ending t = refl
replied_at_seen Draining t = refl
replied_at_seen Ended t = refl
replied_at_seen Refused t = refl

closed_at_seen : (p : Phase) (t : Tunnel) → stream_view (closed_at p t) ≡ closed_seen p (stream_view t)
closed_at_seen Dialling t = refl
closed_at_seen Opened t = refl
closed_at_seen Ending t = refl
closed_at_seen Draining t = refl
closed_at_seen Ended t = refl
closed_at_seen Refused t = refl

ends_at_seen : (p : Phase) (t : Tunnel) → stream_view (ends_at p t) ≡ ends_seen p (stream_view t)
ends_at_seen Dialling t = refl
ends_at_seen Opened t = refl
ends_at_seen Ending t = refl
ends_at_seen Draining t = refl
ends_at_seen Ended t = refl
ends_at_seen Refused t = refl

fails_at_seen : (p : Phase) (t : Tunnel) → stream_view (fails_at p t) ≡ fails_seen p (stream_view t)
fails_at_seen Dialling t = refl
fails_at_seen Opened t = refl
fails_at_seen Ending t = refl
fails_at_seen Draining t = refl
fails_at_seen Ended t = refl
fails_at_seen Refused t = refl

lost_at_seen : (p : Phase) (t : Tunnel) → stream_view (record (lost_at p t) { client = false; outward = no_out }) ≡ record (lost_seen p (stream_view t)) { client = false; head = NoHead; out_data = false; out_closes = Zero }
lost_at_seen Dialling t = refl
lost_at_seen Opened t = refl
lost_at_seen Ending t = refl
lost_at_seen Draining t = refl
lost_at_seen Ended t = refl
lost_at_seen Refused t = refl

stream_goes_seen : (b : Bool) (t : Tunnel) → stream_view (stream_goes b t) ≡ stream_loss_seen b (stream_view t)
stream_goes_seen true t = refl
stream_goes_seen false t = lost_at_seen t.phase t

-- whether there is a dial

asked_drawn : (f : Far) → is_asked f ≡ true → is_drawn f ≡ true
asked_drawn Asked e = refl
asked_drawn Undrawn e = absurd cc
asked_drawn Dialled e = absurd cc
asked_drawn Joined e = absurd cc
asked_drawn Lingering e = absurd cc
asked_drawn Left e = absurd cc

dialled_drawn : (f : Far) → is_dialled f ≡ true → is_drawn f ≡ true
dialled_drawn Dialled e = refl
dialled_drawn Undrawn e = absurd cc
dialled_drawn Asked e = absurd cc
dialled_drawn Joined e = absurd cc
dialled_drawn Lingering e = absurd cc
dialled_drawn Left e = absurd cc

either_drawn : (f : Far) → (is_asked f || is_dialled f) ≡ true → is_drawn f ≡ true
either_drawn Asked e = refl
either_drawn Dialled e = refl
either_drawn Undrawn e = absurd cc
either_drawn Joined e = absurd cc
either_drawn Lingering e = absurd cc
either_drawn Left e = absurd cc

listed_drawn : (f : Far) → is_listed f ≡ true → is_drawn f ≡ true
listed_drawn Joined e = refl
listed_drawn Lingering e = refl
listed_drawn Undrawn e = absurd cc
listed_drawn Asked e = absurd cc
listed_drawn Dialled e = absurd cc
listed_drawn Left e = absurd cc

left_drawn : (f : Far) → is_drawn (cond (is_drawn f) Left Undrawn) ≡ is_drawn f
left_drawn Undrawn = refl
left_drawn Asked = refl
left_drawn Dialled = refl
left_drawn Joined = refl
left_drawn Lingering = refl
left_drawn Left = refl

unasked_drawn : (k : Bool) (f : Far) → is_drawn (cond (is_asked f && k) Left f) ≡ is_drawn f
unasked_drawn k Undrawn = refl
unasked_drawn true Asked = refl
unasked_drawn false Asked = refl
unasked_drawn k Dialled = refl
unasked_drawn k Joined = refl
unasked_drawn k Lingering = refl
unasked_drawn k Left = refl

reset_drawn : (f : Far) → is_drawn (cond (is_asked f) Left f) ≡ is_drawn f
reset_drawn Undrawn = refl
reset_drawn Asked = refl
reset_drawn Dialled = refl
reset_drawn Joined = refl
reset_drawn Lingering = refl
reset_drawn Left = refl

drawn_same : (d : Bool) (t : Tunnel) → d ≡ is_drawn t.far → stream_ok (stream_view t) ≡ true → stream_ok (record (stream_view t) { drawn = d }) ≡ true
drawn_same d t e h = ap (λ x. stream_ok (record (stream_view t) { drawn = x })) e ∙ h

is_drawn_still : (t : Tunnel) → is_drawn t.far ≡ true → stream_ok (stream_view t) ≡ true → stream_ok (record (stream_view t) { drawn = true }) ≡ true
is_drawn_still t e h = drawn_same true t (sym e) h

-- the agent's answers do not show on the stream side

close_comes_seen : (f : Far) (t : Tunnel) → t.far ≡ f → stream_ok (stream_view t) ≡ true → stream_ok (stream_view (close_comes f t)) ≡ true
close_comes_seen Joined t e h = here (has t.dest.unwritten)
  where
    drawn_here : is_drawn t.far ≡ true
    drawn_here = ap is_drawn e

    here : (b : Bool) → stream_ok (stream_view (cond (not b) (agent_leaves t) (record t { far = Lingering }))) ≡ true
    here true = is_drawn_still t drawn_here h
    here false = is_drawn_still t drawn_here h
close_comes_seen Lingering t e h = h
close_comes_seen Undrawn t e h = h
close_comes_seen Asked t e h = h
close_comes_seen Dialled t e h = h
close_comes_seen Left t e h = h

leaves_if_seen : (b : Bool) (t : Tunnel) → is_drawn t.far ≡ true → stream_ok (stream_view t) ≡ true → stream_ok (stream_view (leaves_if_done b t)) ≡ true
leaves_if_seen true t e h = is_drawn_still t e h
leaves_if_seen false t e h = h

-- bytes

in_seen : (n : ℕ) (t : Tunnel) → may (ServerTakesIn n) t ≡ true → stream_ok (stream_view t) ≡ true → stream_ok (stream_view (after (ServerTakesIn n) t)) ≡ true
in_seen n t g h = here (has (drop n t.inward.bytes)) (drop_has n t.inward.bytes)
  where
    v : StreamView
    v = stream_view t

    whole : (b : Bool) → has t.inward.bytes ≡ b → b ≡ true → stream_ok (record v { in_data = true }) ≡ true
    whole b e f = ap (λ d. stream_ok (record v { in_data = d })) (sym (e ∙ f)) ∙ h

    here : (r : Bool) → implies r (has t.inward.bytes) ≡ true → stream_ok (record v { in_data = r }) ≡ true
    here false e = met _ _ (at_stream server_takes_in_at server_takes_in v h) g
    here true e = whole (has t.inward.bytes) refl e

up_seen : (n : ℕ) (t : Tunnel) → stream_ok (stream_view t) ≡ true → stream_ok (stream_view (after (ServerTakesUp n) t)) ≡ true
up_seen n t h = here (is_carrying t.entry && t.client) refl (has (take n t.up.bytes)) refl
  where
    v : StreamView
    v = stream_view t

    more : (p d : Bool) → (is_carrying t.entry && t.client) ≡ true → d ≡ has t.outward.bytes → stream_ok (record v { out_data = d || p }) ≡ true
    more p true c e = met _ _ (at_stream data_passes_at data_passes v h) c
    more true false c e = met _ _ (at_stream data_passes_at data_passes v h) c
    more false false c e = ap (λ d. stream_ok (record v { out_data = d })) e ∙ h

    here : (b : Bool) → (is_carrying t.entry && t.client) ≡ b → (p : Bool) → has (take n t.up.bytes) ≡ p → stream_ok (record v { out_data = has (appended b t.outward.bytes (take n t.up.bytes)) }) ≡ true
    here false c p e = h
    here true c p e = ap (λ d. stream_ok (record v { out_data = d })) (has_append t.outward.bytes (take n t.up.bytes)) ∙ more (has (take n t.up.bytes)) (has t.outward.bytes) c refl

hands_seen : (n : ℕ) (t : Tunnel) → may (AppHands n) t ≡ true → stream_ok (stream_view t) ≡ true → stream_ok (stream_view (after (AppHands n) t)) ≡ true
hands_seen n t g h = here (is_gone t.front) refl
  where
    v : StreamView
    v = stream_view t

    check : is_gone t.front ≡ false → stream_ok (record v { in_data = true }) ≡ true
    check c = met _ _ (at_stream app_hands_at app_hands v h) (both _ _ g (ap not c))

    more : (p d : Bool) → is_gone t.front ≡ false → d ≡ has t.inward.bytes → stream_ok (record v { in_data = d || p }) ≡ true
    more p true c e = check c
    more true false c e = check c
    more false false c e = ap (λ d. stream_ok (record v { in_data = d })) e ∙ h

    here : (b : Bool) → is_gone t.front ≡ b → stream_ok (record v { in_data = has (appended (not b) t.inward.bytes (take n t.app.kept)) }) ≡ true
    here true c = h
    here false c = ap (λ d. stream_ok (record v { in_data = d })) (has_append t.inward.bytes (take n t.app.kept)) ∙ more (has (take n t.app.kept)) (has t.inward.bytes) c refl

out_seen : (n : ℕ) (t : Tunnel) → may (ClientTakesOut n) t ≡ true → stream_ok (stream_view t) ≡ true → stream_ok (stream_view (after (ClientTakesOut n) t)) ≡ true
out_seen n t g h =
    let v : StreamView = stream_view t in let p : Bool = has (take n t.outward.bytes) in let r : Bool = has (drop n t.outward.bytes) in
    let c = met _ _ (at_stream client_takes_at client_takes v h) g in
    let d = at_bool (λ p. bools (λ r. when (implies (p || r) v.out_data) (stream_ok (record v { out_data = r; unwritten = cond (is_opened v.phase) (v.unwritten || p) v.unwritten })))) c p in
    let e = met _ _ (at_bool (λ r. when (implies (p || r) v.out_data) (stream_ok (record v { out_data = r; unwritten = cond (is_opened v.phase) (v.unwritten || p) v.unwritten }))) d r) (parts_have n t.outward.bytes) in
    ap (λ u. stream_ok (record v { out_data = r; unwritten = u })) (has_appended (is_opened t.phase) t.app.unwritten (take n t.outward.bytes)) ∙ e

connect_out_seen : (n : ℕ) (t : Tunnel) → may (ConnectTakesOut n) t ≡ true → stream_ok (stream_view t) ≡ true → stream_ok (stream_view (after (ConnectTakesOut n) t)) ≡ true
connect_out_seen n t g h =
    let v : StreamView = stream_view t in let p : Bool = has (take n t.outward.bytes) in let r : Bool = has (drop n t.outward.bytes) in
    let c = met _ _ (at_stream connect_takes_at connect_takes v h) g in
    let d = at_bool (λ p. bools (λ r. when (implies (p || r) v.out_data) (stream_ok (record v { out_data = r; got = v.got || p })))) c p in
    let e = met _ _ (at_bool (λ r. when (implies (p || r) v.out_data) (stream_ok (record v { out_data = r; got = v.got || p }))) d r) (parts_have n t.outward.bytes) in
    ap (λ u. stream_ok (record v { out_data = r; got = u })) (has_append t.app.got (take n t.outward.bytes)) ∙ e

wrote_seen : (n : ℕ) (t : Tunnel) → may (AppWrote n) t ≡ true → stream_ok (stream_view t) ≡ true → stream_ok (stream_view (after (AppWrote n) t)) ≡ true
wrote_seen n t g h =
    let v : StreamView = stream_view t in let p : Bool = has (take n t.app.unwritten) in let r : Bool = has (drop n t.app.unwritten) in
    let c = met _ _ (at_stream app_wrote_at app_wrote v h) g in
    let d = at_bool (λ p. bools (λ r. when (implies (p || r) v.unwritten) (stream_ok (record v { unwritten = r; got = v.got || p; phase = cond (is_draining v.phase && not r) Ended v.phase })))) c p in
    let e = met _ _ (at_bool (λ r. when (implies (p || r) v.unwritten) (stream_ok (record v { unwritten = r; got = v.got || p; phase = cond (is_draining v.phase && not r) Ended v.phase }))) d r) (parts_have n t.app.unwritten) in
    ap (λ u. stream_ok (record v { unwritten = r; got = u; phase = cond (is_draining v.phase && not r) Ended v.phase })) (has_append t.app.got (take n t.app.unwritten)) ∙ e

client_close_seen : (t : Tunnel) → may ClientTakesClose t ≡ true → stream_ok (stream_view t) ≡ true → stream_ok (stream_view (after ClientTakesClose t)) ≡ true
client_close_seen t g h =
    let v : StreamView = stream_view t in let m : Few = few (pred t.outward.closes) in
    let g2 = rw (← none_few t.outward.closes) at g in
    let some = second (t.client && not t.connect && no_head t.outward.head && is_empty t.outward.bytes) (not (none (few t.outward.closes))) g2 in
    let c = met _ _ (at_stream client_closed_at client_closed v h) g2 in
    let d = met _ _ (at_few (λ c. when (few_within c v.out_closes && few_within v.out_closes (next c)) (stream_ok (closed_seen v.phase (record v { out_closes = c })))) c m) (one_less t.outward.closes some) in
    ap stream_ok (closed_at_seen t.phase (record t { outward = record t.outward { closes = pred t.outward.closes } })) ∙ d

head_itself : (h : Head) → same_head h h ≡ true
head_itself NoHead = refl
head_itself Refusal = refl
head_itself Reply = refl

head_left : (w whole : Outward) → (w.head ≡ whole.head) ⊎ (w ≡ no_out) → (same_head w.head whole.head || (no_head w.head && not (has w.bytes) && none (few w.closes))) ≡ true
head_left w whole (inl e) = or_left (same_head w.head whole.head) _ (ap (λ x. same_head w.head x) (sym e) ∙ head_itself w.head)
head_left w whole (inr e) = or_right (same_head w.head whole.head) _ (ap (λ w. no_head w.head && not (has w.bytes) && none (few w.closes)) e)

left_out : (w : Outward) (t : Tunnel) → IsCutOut w t.outward → is_left_out w.head (has w.bytes) (few w.closes) (stream_view t) ≡ true
left_out w t cut = both _ _ (both _ _ (head_left w t.outward cut.head) (prefix_has w.bytes t.outward.bytes cut.bytes)) (fewer w.closes t.outward.closes cut.closes)

connect_left_kept : (t : Tunnel) → (t.client && t.connect) ≡ true → stream_ok (stream_view t) ≡ true → stream_ok (stream_view (connect_leaves t)) ≡ true
connect_left_kept t g h = met _ _ (at_stream connect_left_at connect_left (stream_view t) h) g

-- losses

link_loss_kept : (w : Downward) (k : Bool) (t : Tunnel) → stream_ok (stream_view t) ≡ true → stream_ok (stream_view (after (LinkLostAtServer w k) t)) ≡ true
link_loss_kept w k t h =
    let u : Tunnel = record t { server = false; up = no_up; down = w; far = (if is_asked t.far && not k then Left else t.far) } in
    ap stream_ok (link_goes_seen t.entry u) ∙ at_stream closes_pass_at closes_pass (stream_view u) (drawn_same _ t (unasked_drawn (not k) t.far) h)

front_loss_kept : (w : Outward) (t : Tunnel) → not (is_gone t.front) ≡ true → IsCutOut w t.outward → stream_ok (stream_view t) ≡ true → stream_ok (stream_view (after (FrontLost w) t)) ≡ true
front_loss_kept w t g cut h =
    let v : StreamView = stream_view t in let d : Bool = has w.bytes in let c : Few = few w.closes in
    let all = met _ _ (at_stream fronts_lost_at fronts_lost v h) g in
    let at_h = at_head (λ h. bools (λ d. fews (λ c. when (is_left_out h d c v) (stream_ok (front_loss_seen v.entry (out_left h d c (nothing_to_server (record v { front = Gone })))))))) all w.head in
    let at_d = at_bool (λ d. fews (λ c. when (is_left_out w.head d c v) (stream_ok (front_loss_seen v.entry (out_left w.head d c (nothing_to_server (record v { front = Gone }))))))) at_h d in
    let at_c = at_few (λ c. when (is_left_out w.head d c v) (stream_ok (front_loss_seen v.entry (out_left w.head d c (nothing_to_server (record v { front = Gone })))))) at_d c in
    ap stream_ok (front_goes_seen t.entry (record t { front = Gone; inward = no_in; outward = w })) ∙ met _ _ at_c (left_out w t cut)

stream_loss_kept : (w : Inward) (t : Tunnel) → t.client ≡ true → IsCutIn w t.inward → stream_ok (stream_view t) ≡ true → stream_ok (stream_view (after (StreamLost w) t)) ≡ true
stream_loss_kept w t g cut h =
    let v : StreamView = stream_view t in let d : Bool = has w.bytes in
    let all = met _ _ (at_stream streams_lost_at streams_lost v h) g in
    let at_r = met _ _ (at_bool (λ r. when (implies r v.request) (bools (λ x. when (implies x v.cancel) (bools (λ d. when (implies d v.in_data) (bools (λ q. when (implies q v.in_close) (stream_ok (stream_loss_seen v.connect (record v { request = r; cancel = x; in_data = d; in_close = q })))))))))) all w.request) (flag w.request t.inward.request cut.request) in
    let at_x = met _ _ (at_bool (λ x. when (implies x v.cancel) (bools (λ d. when (implies d v.in_data) (bools (λ q. when (implies q v.in_close) (stream_ok (stream_loss_seen v.connect (record v { request = w.request; cancel = x; in_data = d; in_close = q })))))))) at_r w.cancel) (flag w.cancel t.inward.cancel cut.cancel) in
    let at_d = met _ _ (at_bool (λ d. when (implies d v.in_data) (bools (λ q. when (implies q v.in_close) (stream_ok (stream_loss_seen v.connect (record v { request = w.request; cancel = w.cancel; in_data = d; in_close = q })))))) at_x d) (prefix_has w.bytes t.inward.bytes cut.bytes) in
    let at_q = met _ _ (at_bool (λ q. when (implies q v.in_close) (stream_ok (stream_loss_seen v.connect (record v { request = w.request; cancel = w.cancel; in_data = d; in_close = q })))) at_d w.close) (flag w.close t.inward.close cut.close) in
    ap stream_ok (stream_goes_seen t.connect (record t { inward = w })) ∙ at_q

pub stream_kept : (e : Event) (t : Tunnel) → May e t → stream_ok (stream_view t) ≡ true → stream_ok (stream_view (after e t)) ≡ true
stream_kept FrontUp t g h = met _ _ (at_stream fronts_come_at fronts_come (stream_view t) h) g.0
stream_kept ServerRefuses t g h = met _ _ (at_stream server_refuses_at server_refuses (stream_view t) h) g.0
stream_kept (ServerDials true) t g h = met _ _ (at_stream server_dials_at server_dials (stream_view t) h) g.0
stream_kept (ServerDials false) t g h = met _ _ (at_stream server_dials_at server_dials (stream_view t) h) g.0
stream_kept ServerTakesCancel t g h = met _ _ (at_stream server_cancels_at server_cancels (stream_view t) h) g.0
stream_kept (ServerTakesIn n) t g h = in_seen n t g.0 h
stream_kept ServerTakesClose t g h = ap stream_ok (front_closes_seen t.entry (record t { inward = record t.inward { close = false } })) ∙ met _ _ (at_stream server_takes_close_at server_takes_close (stream_view t) h) g.0
stream_kept ServerTakesRefusal t g h = ap stream_ok (refusal_seen_at t.entry (record t { up = record t.up { refusal = false } })) ∙ here t.entry refl
  where
    here : (e : Entry) → t.entry ≡ e → stream_ok (refusal_comes_seen e (stream_view t)) ≡ true
    here Awaited e = ap (λ x. stream_ok (refusal_comes_seen x (stream_view t))) (sym e) ∙ met _ _ (at_stream refusals_pass_at refusals_pass (stream_view t) h) (ap is_awaited e)
    here NoEntry e = h
    here Carrying e = h
    here Closing e = h
    here Frontless e = h
stream_kept ServerTakesReply t g h = ap stream_ok (reply_seen_at t.entry (record t { up = record t.up { reply = false } })) ∙ here t.entry refl
  where
    here : (e : Entry) → t.entry ≡ e → stream_ok (reply_comes_seen e (stream_view t)) ≡ true
    here Awaited e = ap (λ x. stream_ok (reply_comes_seen x (stream_view t))) (sym e) ∙ met _ _ (at_stream replies_pass_at replies_pass (stream_view t) h) (ap is_awaited e)
    here NoEntry e = h
    here Carrying e = h
    here Closing e = h
    here Frontless e = h
stream_kept (ServerTakesUp n) t g h = up_seen n t h
stream_kept ServerTakesCloseReply t g h = ap stream_ok (close_reply_seen_at t.entry (record t { up = record t.up { closes = pred t.up.closes } })) ∙ at_stream closes_reply_at closes_reply (stream_view t) h
stream_kept AgentTakesRequest t g h = is_drawn_still t (asked_drawn t.far (second t.agent (is_asked t.far) g.0)) h
stream_kept AgentRefuses t g h = is_drawn_still t (either_drawn t.far (second t.agent (is_asked t.far || is_dialled t.far) g.0)) h
stream_kept DialSucceeds t g h = is_drawn_still t (dialled_drawn t.far (second t.agent (is_dialled t.far) g.0)) h
stream_kept (AgentTakesDown n) t g h = h
stream_kept AgentTakesClose t g h = close_comes_seen t.far (record t { down = record t.down { close = false } }) refl h
stream_kept (DestinationSends bytes) t g h = h
stream_kept (DestinationHands n) t g h = h
stream_kept (DestinationWrote n) t g h = leaves_if_seen (is_lingering t.far && is_empty (drop n t.dest.unwritten)) (record t { dest = record t.dest { got = t.dest.got ++ take n t.dest.unwritten; unwritten = drop n t.dest.unwritten } }) (listed_drawn t.far (second t.agent (is_listed t.far) g.0)) h
stream_kept DestinationLeaves t g h = is_drawn_still t (listed_drawn t.far (second t.agent (is_listed t.far) g.0)) h
stream_kept ClientTakesRefusal t g h = ap stream_ok (refused_at_seen t.phase (record t { outward = record t.outward { head = NoHead } })) ∙ met _ _ (at_stream client_refused_at client_refused (stream_view t) h) g.0
stream_kept ClientTakesReply t g h = ap stream_ok (replied_at_seen t.phase (record t { outward = record t.outward { head = NoHead } })) ∙ met _ _ (at_stream client_replied_at client_replied (stream_view t) h) g.0
stream_kept (ClientTakesOut n) t g h = out_seen n t g.0 h
stream_kept ClientTakesClose t g h = client_close_seen t g.0 h
stream_kept (AppSends bytes) t g h = h
stream_kept (AppHands n) t g h = hands_seen n t g.0 h
stream_kept (AppWrote n) t g h = wrote_seen n t g.0 h
stream_kept AppEnds t g h = ap stream_ok (ends_at_seen t.phase t) ∙ met _ _ (at_stream app_ends_at app_ends (stream_view t) h) g.0
stream_kept AppFails t g h = ap stream_ok (fails_at_seen t.phase t) ∙ met _ _ (at_stream app_fails_at app_fails (stream_view t) h) g.0
stream_kept ConnectTakesRefusal t g h = connect_left_kept t (first (t.client && t.connect) (is_refusal t.outward.head) g.0) h
stream_kept ConnectTakesReply t g h = met _ _ (at_stream connect_replied_at connect_replied (stream_view t) h) g.0
stream_kept (ConnectTakesOut n) t g h = connect_out_seen n t g.0 h
stream_kept ConnectTakesClose t g h = connect_left_kept t (first (t.client && t.connect) (no_head t.outward.head) (first (t.client && t.connect && no_head t.outward.head) (is_empty t.outward.bytes) (first (t.client && t.connect && no_head t.outward.head && is_empty t.outward.bytes) (not (is_zero t.outward.closes)) g.0))) h
stream_kept ConnectLeaves t g h = connect_left_kept t g.0 h
stream_kept (LinkLostAtServer w k) t g h = link_loss_kept w k t h
stream_kept (LinkLostAtAgent w) t g h = drawn_same _ t (left_drawn t.far) h
stream_kept (FrontLost w) t g h = front_loss_kept w t g.0 g.1 h
stream_kept (StreamLost w) t g h = stream_loss_kept w t g.0 g.1 h
stream_kept ResetDown t g h = drawn_same _ t (reset_drawn t.far) h
stream_kept ResetUp t g h = h
stream_kept ResetIn t g h = met _ _ (at_stream ins_reset_at ins_reset (stream_view t) h) g.0
stream_kept ResetOut t g h = met _ _ (at_stream outs_reset_at outs_reset (stream_view t) h) g.0
