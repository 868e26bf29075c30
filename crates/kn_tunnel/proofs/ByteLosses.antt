-- Losses and resets keep what holds of the bytes.
use Rattle.std.proofs.Common.{◌≡◌, ◌&&◌, ◌||◌, Bool, true, false, not, [], cond, refl}
use Rattle.kn_tunnel.specs.Bytes.{is_carried}
use Rattle.kn_tunnel.specs.Cuts.{IsCutDown, IsCutIn, IsCutOut, IsCutUp}
use Rattle.kn_tunnel.specs.Events.{FrontLost, LinkLostAtAgent, LinkLostAtServer, ResetDown, ResetIn, ResetOut, ResetUp}
use Rattle.kn_tunnel.specs.Kinds.{has, is_asked, is_awaited, is_carrying, is_joined, is_lingering, is_listed, is_taking, needs_front}
use Rattle.kn_tunnel.specs.Steps.{after, connect_leaves, front_goes, link_goes, lost_at, no_down, no_in, no_out, no_up, stream_goes}
use Rattle.kn_tunnel.specs.Tunnel.{Asked, Awaited, Carrying, Closing, Dialled, Dialling, Downward, Draining, Ended, Ending, Entry, Far, Frontless, Gone, Inward, Joined, Left, Lingering, NoEntry, Opened, Outward, Phase, Refused, Tunnel, Undrawn, Upward}
use Rattle.kn_tunnel.proofs.ByteApp.{closed_at_bytes, false_never, refused_at_bytes}
use Rattle.kn_tunnel.proofs.ByteServer.{and_less, entry_frontless, entry_gone, far_left, or_more, phase_ended, phase_refused, reply_off, request_taken, send_refusal_bytes, unasked}
use Rattle.kn_tunnel.proofs.Flows.{FlowOf, cut_down, cut_in, cut_out, cut_up, dest_gone, weaken}
use Rattle.kn_tunnel.proofs.ListBits.{or_left, or_right}
use Rattle.kn_tunnel.proofs.Lists.{never, not_both}

pub out_gone : (t : Tunnel) → (is_taking t.phase ≡ true → is_carried t ≡ true → ⊥) → FlowOf t → FlowOf (record t { outward = no_out })
out_gone t n h = cut_out [] n (t.outward.bytes, refl) h

-- an app leaves its CONNECT connection
pub connect_leaves_bytes : (p : Phase) (t : Tunnel) → FlowOf (record t { phase = p }) → FlowOf (connect_leaves (record t { phase = p }))
connect_leaves_bytes Dialling t h = out_gone (record t { phase = Ended }) (λ k c. false_never k) (phase_ended (record t { phase = Dialling }) h)
connect_leaves_bytes Opened t h = out_gone (record t { phase = Ended }) (λ k c. false_never k) (phase_ended (record t { phase = Opened }) h)
connect_leaves_bytes Ending t h = out_gone (record t { phase = Ended }) (λ k c. false_never k) (phase_ended (record t { phase = Ending }) h)
connect_leaves_bytes Draining t h = out_gone (record t { phase = Ended }) (λ k c. false_never k) (phase_ended (record t { phase = Draining }) h)
connect_leaves_bytes Ended t h = out_gone (record t { phase = Ended }) (λ k c. false_never k) (phase_ended (record t { phase = Ended }) h)
connect_leaves_bytes Refused t h = out_gone (record t { phase = Refused }) (λ k c. false_never k) (phase_refused (record t { phase = Refused }) h)

or_first : (a a' b : Bool) → (a ≡ true → a' ≡ true) → (a || b) ≡ true → (a' || b) ≡ true
or_first true a' b f e = or_left a' b (f refl)
or_first false a' b f e = or_right a' b e

in_left : (t : Tunnel) (w : Inward) → IsCutIn w t.inward → (is_taking t.phase ≡ true → ⊥) → FlowOf t → FlowOf (record t { inward = w })
in_left t w cut n h = cut_in w.bytes (λ l c k. n k) (λ x k. n k) cut.bytes (weaken (record { here = λ x. x; taking = λ x. x; waiting = λ x. x; carried = λ x. x; joined = λ x. x; listed = λ x. x; carrying = λ x. x; early = λ x. or_first w.request t.inward.request (is_awaited t.entry) cut.request x; cid = λ x. x }) h)

connect_lost_bytes : (p : Phase) (t : Tunnel) (w : Inward) → IsCutIn w t.inward → FlowOf (record t { phase = p }) → FlowOf (connect_leaves (record t { phase = p; inward = w }))
connect_lost_bytes Dialling t w cut h = in_left (connect_leaves (record t { phase = Dialling })) w cut (λ k. false_never k) (connect_leaves_bytes Dialling t h)
connect_lost_bytes Opened t w cut h = in_left (connect_leaves (record t { phase = Opened })) w cut (λ k. false_never k) (connect_leaves_bytes Opened t h)
connect_lost_bytes Ending t w cut h = in_left (connect_leaves (record t { phase = Ending })) w cut (λ k. false_never k) (connect_leaves_bytes Ending t h)
connect_lost_bytes Draining t w cut h = in_left (connect_leaves (record t { phase = Draining })) w cut (λ k. false_never k) (connect_leaves_bytes Draining t h)
connect_lost_bytes Ended t w cut h = in_left (connect_leaves (record t { phase = Ended })) w cut (λ k. false_never k) (connect_leaves_bytes Ended t h)
connect_lost_bytes Refused t w cut h = in_left (connect_leaves (record t { phase = Refused })) w cut (λ k. false_never k) (connect_leaves_bytes Refused t h)

closed_taking : (b : Bool) → is_taking (cond b Draining Ended) ≡ true → ⊥
closed_taking true k = false_never k
closed_taking false k = false_never k

-- a client lost the stream
client_lost_bytes : (p : Phase) (t : Tunnel) (w : Inward) → IsCutIn w t.inward → FlowOf (record t { phase = p }) → FlowOf (record (lost_at p (record t { phase = p; inward = w })) { client = false; outward = no_out })
client_lost_bytes Dialling t w cut h = in_left (record t { phase = Refused; app = record t.app { unwritten = [] }; outward = no_out }) w cut (λ k. false_never k) (out_gone (record t { phase = Refused; app = record t.app { unwritten = [] } }) (λ k c. false_never k) (refused_at_bytes Dialling (record t { phase = Dialling }) h))
client_lost_bytes Opened t w cut h = in_left (record t { phase = cond (has t.app.unwritten) Draining Ended; outward = no_out }) w cut (closed_taking (has t.app.unwritten)) (out_gone (record t { phase = cond (has t.app.unwritten) Draining Ended }) (λ k c. closed_taking (has t.app.unwritten) k) (closed_at_bytes Opened t h))
client_lost_bytes Ending t w cut h = in_left (record t { phase = cond (has t.app.unwritten) Draining Ended; outward = no_out }) w cut (closed_taking (has t.app.unwritten)) (out_gone (record t { phase = cond (has t.app.unwritten) Draining Ended }) (λ k c. closed_taking (has t.app.unwritten) k) (closed_at_bytes Ending t h))
client_lost_bytes Draining t w cut h = in_left (record t { phase = Draining; outward = no_out }) w cut (λ k. false_never k) (out_gone (record t { phase = Draining }) (λ k c. false_never k) h)
client_lost_bytes Ended t w cut h = in_left (record t { phase = Ended; outward = no_out }) w cut (λ k. false_never k) (out_gone (record t { phase = Ended }) (λ k c. false_never k) h)
client_lost_bytes Refused t w cut h = in_left (record t { phase = Refused; outward = no_out }) w cut (λ k. false_never k) (out_gone (record t { phase = Refused }) (λ k c. false_never k) h)

pub stream_lost_bytes : (c : Bool) (t : Tunnel) (w : Inward) → IsCutIn w t.inward → FlowOf t → FlowOf (stream_goes c (record t { inward = w }))
stream_lost_bytes true t w cut h = connect_lost_bytes t.phase t w cut h
stream_lost_bytes false t w cut h = client_lost_bytes t.phase t w cut h

-- the server lost the link

link_lost : (e : Entry) (t : Tunnel) (w : Downward) → IsCutDown w t.down → FlowOf (record t { entry = e }) → FlowOf (record t { entry = NoEntry; server = false; up = no_up; down = w })
link_lost e t w cut h = cut_down w.bytes (λ l c. false_never c) cut.bytes (cut_up [] (λ c j. false_never c) (t.up.bytes, refl) (reply_off (record t { entry = NoEntry }) (entry_gone (record t { entry = e }) h)))

link_goes_bytes : (e : Entry) (t : Tunnel) (w : Downward) → IsCutDown w t.down → FlowOf (record t { entry = e }) → FlowOf (link_goes e (record t { entry = e; server = false; up = no_up; down = w }))
link_goes_bytes NoEntry t w cut h = link_lost NoEntry t w cut h
link_goes_bytes Awaited t w cut h = send_refusal_bytes t.connect t.phase (record t { entry = NoEntry; server = false; up = no_up; down = w }) (link_lost Awaited t w cut h)
link_goes_bytes Carrying t w cut h = link_lost Carrying t w cut h
link_goes_bytes Closing t w cut h = link_lost Closing t w cut h
link_goes_bytes Frontless t w cut h = link_lost Frontless t w cut h

pub link_lost_bytes : (k : Bool) (t : Tunnel) (w : Downward) → IsCutDown w t.down → FlowOf t → FlowOf (after (LinkLostAtServer w k) t)
link_lost_bytes k t w cut h = link_goes_bytes t.entry (record t { far = cond (is_asked t.far && not k) Left t.far }) w cut (unasked (not k) t.far t h)

-- the agent lost the link

agent_gone : (f : Far) (t : Tunnel) (w : Upward) → is_listed f ≡ false → is_joined f ≡ false → IsCutUp w t.up → FlowOf (record t { far = f }) → FlowOf (record t { far = f; agent = false; dest = record t.dest { unwritten = [] }; down = no_down; up = w })
agent_gone f t w l j cut h = cut_down [] (λ x c. never (is_listed f) l x) (t.down.bytes, refl) (dest_gone l (cut_up w.bytes (λ c x. never (is_joined f) j x) cut.bytes (weaken (record { here = λ x. x; taking = λ x. x; waiting = λ x. x; carried = λ x. or_more (is_carrying t.entry) (is_awaited t.entry && w.reply) (is_awaited t.entry && t.up.reply) (λ y. and_less (is_awaited t.entry) w.reply t.up.reply cut.reply y) x; joined = λ x. x; listed = λ x. x; carrying = λ x. x; early = λ x. x; cid = λ x. x }) h)))

agent_lost_at : (f : Far) (t : Tunnel) (w : Upward) → IsCutUp w t.up → FlowOf (record t { far = f }) → FlowOf (after (LinkLostAtAgent w) (record t { far = f }))
agent_lost_at Undrawn t w cut h = agent_gone Undrawn t w refl refl cut h
agent_lost_at Asked t w cut h = agent_gone Left t w refl refl cut (far_left (record t { far = Asked }) h)
agent_lost_at Dialled t w cut h = agent_gone Left t w refl refl cut (far_left (record t { far = Dialled }) h)
agent_lost_at Joined t w cut h = agent_gone Left t w refl refl cut (far_left (record t { far = Joined }) h)
agent_lost_at Lingering t w cut h = agent_gone Left t w refl refl cut (far_left (record t { far = Lingering }) h)
agent_lost_at Left t w cut h = agent_gone Left t w refl refl cut (far_left (record t { far = Left }) h)

pub agent_lost_bytes : (t : Tunnel) (w : Upward) → IsCutUp w t.up → FlowOf t → FlowOf (after (LinkLostAtAgent w) t)
agent_lost_bytes t w cut h = agent_lost_at t.far t w cut h

-- the server lost the front

front_lost_none : (e : Entry) (t : Tunnel) (w : Outward) → IsCutOut w t.outward → FlowOf (record t { entry = e }) → FlowOf (record t { entry = NoEntry; front = Gone; inward = no_in; outward = w })
front_lost_none e t w cut h = cut_out w.bytes (λ k c. false_never c) cut.bytes (cut_in [] (λ l c k. false_never c) (λ x k. false_never x) (t.inward.bytes, refl) (request_taken (record t { entry = NoEntry }) (entry_gone (record t { entry = e }) h)))

front_lost_closing : (e : Entry) (t : Tunnel) (w : Outward) → IsCutOut w t.outward → FlowOf (record t { entry = e }) → FlowOf (record t { entry = Frontless; front = Gone; inward = no_in; outward = w })
front_lost_closing e t w cut h = cut_out w.bytes (λ k c. false_never c) cut.bytes (cut_in [] (λ l c k. false_never c) (λ x k. false_never x) (t.inward.bytes, refl) (request_taken (record t { entry = Frontless }) (entry_frontless (record t { entry = e }) h)))

front_goes_bytes : (e : Entry) (t : Tunnel) (w : Outward) → IsCutOut w t.outward → FlowOf (record t { entry = e }) → FlowOf (front_goes e (record t { entry = e; front = Gone; inward = no_in; outward = w }))
front_goes_bytes NoEntry t w cut h = front_lost_none NoEntry t w cut h
front_goes_bytes Awaited t w cut h = front_lost_none Awaited t w cut h
front_goes_bytes Carrying t w cut h = front_lost_closing Carrying t w cut h
front_goes_bytes Closing t w cut h = front_lost_closing Closing t w cut h
front_goes_bytes Frontless t w cut h = front_lost_closing Frontless t w cut h

pub front_lost_bytes : (t : Tunnel) (w : Outward) → IsCutOut w t.outward → FlowOf t → FlowOf (after (FrontLost w) t)
front_lost_bytes t w cut h = front_goes_bytes t.entry t w cut h

-- resets

unasked_all : (f : Far) (t : Tunnel) → FlowOf (record t { far = f }) → FlowOf (record t { far = cond (is_asked f) Left f })
unasked_all Undrawn t h = h
unasked_all Asked t h = h
unasked_all Dialled t h = h
unasked_all Joined t h = h
unasked_all Lingering t h = h
unasked_all Left t h = h

pub reset_down_bytes : (t : Tunnel) → not (is_carrying t.entry) ≡ true → FlowOf t → FlowOf (after ResetDown t)
reset_down_bytes t n h = cut_down [] (λ l c. not_both (is_carrying t.entry) n c) (t.down.bytes, refl) (unasked_all t.far t h)

pub reset_up_bytes : (t : Tunnel) → (is_listed t.far ≡ true → ⊥) → FlowOf t → FlowOf (after ResetUp t)
reset_up_bytes t n h = cut_up [] (λ c j. n (or_left (is_joined t.far) (is_lingering t.far) j)) (t.up.bytes, refl) (reply_off t h)

pub reset_in_bytes : (t : Tunnel) → (is_taking t.phase ≡ true → ⊥) → FlowOf t → FlowOf (after ResetIn t)
reset_in_bytes t n h = cut_in [] (λ l c k. n k) (λ x k. n k) (t.inward.bytes, refl) (request_taken t h)

carried_needs : (e : Entry) (r : Bool) → (is_carrying e || (is_awaited e && r)) ≡ true → needs_front e ≡ true
carried_needs NoEntry r c = absurd (false_never c)
carried_needs Awaited r c = refl
carried_needs Carrying r c = refl
carried_needs Closing r c = refl
carried_needs Frontless r c = absurd (false_never c)

pub reset_out_bytes : (t : Tunnel) → not (needs_front t.entry) ≡ true → FlowOf t → FlowOf (after ResetOut t)
reset_out_bytes t n h = out_gone t (λ k c. not_both (needs_front t.entry) n (carried_needs t.entry t.up.reply c)) h
