-- What the server takes keeps what holds of the bytes.
use Rattle.std.proofs.Common.{◌≡◌, ◌++◌, ◌&&◌, ◌||◌, ℕ, Bool, true, false, not, [], take, drop, cond, refl, sym, ap, ◌∙◌, append_assoc}
use Rattle.kn_tunnel.specs.Bytes.{app_has, app_has_out, app_has_up, dest_has, dest_has_in, is_carried, is_early}
use Rattle.kn_tunnel.specs.Cuts.{IsPrefixOf}
use Rattle.kn_tunnel.specs.Events.{ServerDials, ServerRefuses, ServerTakesIn, ServerTakesUp}
use Rattle.kn_tunnel.specs.Kinds.{is_asked, is_awaited, is_carrying, is_empty, is_listed, is_taking, none, opened_phase, refused_phase}
use Rattle.kn_tunnel.specs.LinkSide.{link_ok, link_view}
use Rattle.kn_tunnel.specs.Steps.{after, appended, close_reply_comes, front_closes, refusal_comes, reply_comes}
use Rattle.kn_tunnel.specs.Tunnel.{Asked, Awaited, Carrying, Closing, Dialled, Dialling, Draining, Ended, Ending, Entry, Far, Frontless, Joined, Left, Lingering, NoEntry, Opened, Phase, Refused, Tunnel, Undrawn, sent}
use Rattle.kn_tunnel.proofs.ByteRows.{listed_agent, reply_finds}
use Rattle.kn_tunnel.proofs.Every.{first, second}
use Rattle.kn_tunnel.proofs.Flows.{FlowOf, weaken}
use Rattle.kn_tunnel.proofs.ListBits.{both, or_left, or_right}
use Rattle.kn_tunnel.proofs.Lists.{drop_none, empty_prefix, front_of, moved, never, not_both, nothing, of_same}

-- tests that are met no longer

pub or_less : (q b : Bool) → (q || false) ≡ true → (q || b) ≡ true
or_less true b e = refl
or_less false b e = absurd cc

pub false_less : (q b : Bool) → (false || b) ≡ true → (q || b) ≡ true
false_less true b e = refl
false_less false b e = e

pub and_less : (a b b' : Bool) → (b ≡ true → b' ≡ true) → (a && b) ≡ true → (a && b') ≡ true
and_less true b b' f e = f e
and_less false b b' f e = e

pub or_more : (a b b' : Bool) → (b ≡ true → b' ≡ true) → (a || b) ≡ true → (a || b') ≡ true
or_more true b b' f e = refl
or_more false b b' f e = f e

-- the entry of a dial goes, or closes

pub entry_gone : (t : Tunnel) → FlowOf t → FlowOf (record t { entry = NoEntry })
entry_gone t h = weaken (record { here = λ x. x; taking = λ x. x; waiting = λ x. x; carried = λ x. absurd cc; joined = λ x. x; listed = λ x. x; carrying = λ x. absurd cc; early = λ x. or_less t.inward.request (is_awaited t.entry) x; cid = λ x. x }) h

pub entry_closing : (t : Tunnel) → FlowOf t → FlowOf (record t { entry = Closing })
entry_closing t h = weaken (record { here = λ x. x; taking = λ x. x; waiting = λ x. x; carried = λ x. absurd cc; joined = λ x. x; listed = λ x. x; carrying = λ x. absurd cc; early = λ x. or_less t.inward.request (is_awaited t.entry) x; cid = λ x. x }) h

pub entry_frontless : (t : Tunnel) → FlowOf t → FlowOf (record t { entry = Frontless })
entry_frontless t h = weaken (record { here = λ x. x; taking = λ x. x; waiting = λ x. x; carried = λ x. absurd cc; joined = λ x. x; listed = λ x. x; carrying = λ x. absurd cc; early = λ x. or_less t.inward.request (is_awaited t.entry) x; cid = λ x. x }) h

-- the request is taken off, the reply is

pub request_taken : (t : Tunnel) → FlowOf t → FlowOf (record t { inward = record t.inward { request = false } })
request_taken t h = weaken (record { here = λ x. x; taking = λ x. x; waiting = λ x. x; carried = λ x. x; joined = λ x. x; listed = λ x. x; carrying = λ x. x; early = λ x. false_less t.inward.request (is_awaited t.entry) x; cid = λ x. x }) h

pub and_false : (a b : Bool) → (a && false) ≡ true → (a && b) ≡ true
and_false true b e = absurd cc
and_false false b e = e

pub reply_off : (t : Tunnel) → FlowOf t → FlowOf (record t { up = record t.up { reply = false } })
reply_off t h = weaken (record { here = λ x. x; taking = λ x. x; waiting = λ x. x; carried = λ x. or_more (is_carrying t.entry) (is_awaited t.entry && false) (is_awaited t.entry && t.up.reply) (and_false (is_awaited t.entry) t.up.reply) x; joined = λ x. x; listed = λ x. x; carrying = λ x. x; early = λ x. x; cid = λ x. x }) h

-- the agent's connection is asked for, gone, or asked to close

pub far_dialled : (t : Tunnel) → FlowOf t → FlowOf (record t { far = Dialled })
far_dialled t h = weaken (record { here = λ x. x; taking = λ x. x; waiting = λ x. x; carried = λ x. x; joined = λ x. absurd cc; listed = λ x. absurd cc; carrying = λ x. x; early = λ x. x; cid = λ x. x }) h

pub far_left : (t : Tunnel) → FlowOf t → FlowOf (record t { far = Left })
far_left t h = weaken (record { here = λ x. x; taking = λ x. x; waiting = λ x. x; carried = λ x. x; joined = λ x. absurd cc; listed = λ x. absurd cc; carrying = λ x. x; early = λ x. x; cid = λ x. x }) h

-- a request that is lost
pub unasked : (k : Bool) (f : Far) (t : Tunnel) → FlowOf (record t { far = f }) → FlowOf (record t { far = cond (is_asked f && k) Left f })
unasked k Undrawn t h = h
unasked true Asked t h = h
unasked false Asked t h = h
unasked k Dialled t h = h
unasked k Joined t h = h
unasked k Lingering t h = h
unasked k Left t h = h

pub and_never : (a : Bool) → (a && false) ≡ true → ⊥
and_never true e = absurd cc
and_never false e = absurd cc

-- the app's phase: refused, opened or left

pub phase_refused : (t : Tunnel) → FlowOf t → FlowOf (record t { phase = Refused })
phase_refused t h = weaken (record { here = λ x. absurd cc; taking = λ x. absurd cc; waiting = λ x. absurd (and_never (not t.connect) x); carried = λ x. x; joined = λ x. x; listed = λ x. x; carrying = λ x. x; early = λ x. x; cid = λ x. x }) h

pub phase_ended : (t : Tunnel) → FlowOf t → FlowOf (record t { phase = Ended })
phase_ended t h = weaken (record { here = λ x. absurd cc; taking = λ x. absurd cc; waiting = λ x. absurd (and_never (not t.connect) x); carried = λ x. x; joined = λ x. x; listed = λ x. x; carrying = λ x. x; early = λ x. x; cid = λ x. x }) h

pub send_refusal_bytes : (c : Bool) (p : Phase) (t : Tunnel) → FlowOf (record t { connect = c; phase = p }) → FlowOf (record t { connect = c; phase = cond c (refused_phase p) p })
send_refusal_bytes false p t h = h
send_refusal_bytes true Dialling t h = phase_refused (record t { connect = true; phase = Dialling }) h
send_refusal_bytes true Opened t h = h
send_refusal_bytes true Ending t h = h
send_refusal_bytes true Draining t h = h
send_refusal_bytes true Ended t h = h
send_refusal_bytes true Refused t h = h

pub send_reply_bytes : (c : Bool) (p : Phase) (t : Tunnel) → FlowOf (record t { connect = c; phase = p }) → FlowOf (record t { connect = c; phase = cond c (opened_phase p) p })
send_reply_bytes false p t h = h
send_reply_bytes true Dialling t h = h
send_reply_bytes true Opened t h = h
send_reply_bytes true Ending t h = h
send_reply_bytes true Draining t h = h
send_reply_bytes true Ended t h = h
send_reply_bytes true Refused t h = h

-- the server takes a request

pub server_refuses_bytes : (t : Tunnel) → FlowOf t → FlowOf (after ServerRefuses t)
server_refuses_bytes t h = send_refusal_bytes t.connect t.phase (record t { inward = record t.inward { request = false } }) (request_taken t h)

-- a dial is drawn: what waited for the request waits for the reply
pub server_dials_bytes : (there : Bool) (t : Tunnel) → t.inward.request ≡ true → t.up.reply ≡ false → FlowOf t → FlowOf (after (ServerDials there) t)
server_dials_bytes true t r n h = weaken (record { here = λ x. x; taking = λ x. x; waiting = λ x. x; carried = λ x. absurd (never t.up.reply n x); joined = λ x. absurd cc; listed = λ x. absurd cc; carrying = λ x. absurd cc; early = λ x. or_left t.inward.request (is_awaited t.entry) r; cid = λ x. x }) h
server_dials_bytes false t r n h = weaken (record { here = λ x. x; taking = λ x. x; waiting = λ x. x; carried = λ x. absurd (never t.up.reply n x); joined = λ x. absurd cc; listed = λ x. absurd cc; carrying = λ x. absurd cc; early = λ x. or_left t.inward.request (is_awaited t.entry) r; cid = λ x. x }) h

pub cancel_bytes : (e : Entry) (t : Tunnel) → FlowOf (record t { entry = e }) → FlowOf (record t { entry = cond (is_awaited e) NoEntry e })
cancel_bytes NoEntry t h = h
cancel_bytes Awaited t h = entry_gone (record t { entry = Awaited }) h
cancel_bytes Carrying t h = h
cancel_bytes Closing t h = h
cancel_bytes Frontless t h = h

-- the server takes bytes of the client
module _ (n : ℕ) (t : Tunnel) (h : FlowOf t) (ok : link_ok (link_view t) ≡ true) where
  in_held : (b : Bool) → (is_carrying t.entry && t.agent) ≡ b → is_listed t.far ≡ true → is_carrying t.entry ≡ true → ((t.dest.got ++ t.dest.unwritten) ++ appended b t.down.bytes (take n t.inward.bytes)) ++ drop n t.inward.bytes ≡ dest_has_in t
  in_held true e l c = ap (λ x. x ++ drop n t.inward.bytes) (sym (append_assoc (t.dest.got ++ t.dest.unwritten) t.down.bytes (take n t.inward.bytes))) ∙ moved n (dest_has t) t.inward.bytes
  in_held false e l c = absurd (never _ e (both (is_carrying t.entry) t.agent c (listed_agent t ok l)))

  in_dest : (b : Bool) → (is_carrying t.entry && t.agent) ≡ b → is_listed t.far ≡ true → IsPrefixOf ((t.dest.got ++ t.dest.unwritten) ++ appended b t.down.bytes (take n t.inward.bytes)) (sent t.app)
  in_dest false e l = h.dest_holds l
  in_dest true e l = front_of _ (drop n t.inward.bytes) _ (of_same _ (dest_has_in t) _ (in_held true e l (first (is_carrying t.entry) t.agent e)) (h.inward l (first (is_carrying t.entry) t.agent e)))

  pub takes_in_bytes : (is_early t ≡ true → t.inward.bytes ≡ []) → FlowOf (after (ServerTakesIn n) t)
  takes_in_bytes none = record {
    app_got = h.app_got;
    dest_got = h.dest_got;
    app_holds = h.app_holds;
    out = h.out;
    up = h.up;
    all_up = h.all_up;
    waiting = h.waiting;
    unsent = h.unsent;
    dest_holds = λ l. in_dest (is_carrying t.entry && t.agent) refl l;
    inward = λ l c. of_same _ _ _ (in_held (is_carrying t.entry && t.agent) refl l c) (h.inward l c);
    all_in = λ l c k. in_held (is_carrying t.entry && t.agent) refl l c ∙ h.all_in l c k;
    early = λ x. empty_prefix _ _ (drop_none n t.inward.bytes (none x));
    all_early = λ x k. (drop_none n t.inward.bytes (none x) ∙ sym (none x)) ∙ h.all_early x k;
  }

pub front_closes_bytes : (e : Entry) (t : Tunnel) → FlowOf t → FlowOf (front_closes e t)
front_closes_bytes NoEntry t h = h
front_closes_bytes Awaited t h = h
front_closes_bytes Carrying t h = entry_closing t h
front_closes_bytes Closing t h = h
front_closes_bytes Frontless t h = h

pub refusal_comes_bytes : (e : Entry) (t : Tunnel) → FlowOf t → FlowOf (refusal_comes e t)
refusal_comes_bytes NoEntry t h = h
refusal_comes_bytes Awaited t h = send_refusal_bytes t.connect t.phase (record t { entry = NoEntry }) (entry_gone t h)
refusal_comes_bytes Carrying t h = h
refusal_comes_bytes Closing t h = h
refusal_comes_bytes Frontless t h = h

pub close_reply_bytes : (e : Entry) (t : Tunnel) → FlowOf t → FlowOf (close_reply_comes e t)
close_reply_bytes NoEntry t h = h
close_reply_bytes Awaited t h = h
close_reply_bytes Carrying t h = entry_gone t h
close_reply_bytes Closing t h = entry_gone t h
close_reply_bytes Frontless t h = entry_gone t h

-- the server takes a reply: of an awaited dial, what waited for it is all that the destination is to get
pub dest_nothing : (t : Tunnel) → link_ok (link_view t) ≡ true → is_awaited t.entry ≡ true → t.up.reply ≡ true → is_listed t.far ≡ true → dest_has t ≡ []
dest_nothing t ok a r l =
    let found = reply_finds t ok (both (is_awaited t.entry && t.up.reply) (is_listed t.far) (both (is_awaited t.entry) t.up.reply a r) l) in
    let fresh = first (is_empty t.dest.got && is_empty t.dest.unwritten) (is_empty t.down.bytes) found in
    rw (nothing t.dest.got (first (is_empty t.dest.got) (is_empty t.dest.unwritten) fresh), nothing t.dest.unwritten (second (is_empty t.dest.got) (is_empty t.dest.unwritten) fresh), nothing t.down.bytes (second (is_empty t.dest.got && is_empty t.dest.unwritten) (is_empty t.down.bytes) found)) refl

pub reply_carries : (t : Tunnel) → t.up.reply ≡ true → (is_listed t.far ≡ true → dest_has t ≡ []) → FlowOf (record t { entry = Awaited }) → FlowOf (record t { entry = Carrying; up = record t.up { reply = false } })
reply_carries t r none h =
    let soon : (t.inward.request || true) ≡ true = or_right t.inward.request true refl in
    record {
      app_got = h.app_got;
      dest_got = h.dest_got;
      app_holds = h.app_holds;
      out = h.out;
      dest_holds = h.dest_holds;
      waiting = h.waiting;
      unsent = h.unsent;
      up = λ k c. h.up k r;
      all_up = λ k c j. h.all_up k r j;
      inward = λ l c. of_same _ t.inward.bytes _ (ap (λ x. x ++ t.inward.bytes) (none l)) (h.early soon);
      all_in = λ l c k. ap (λ x. x ++ t.inward.bytes) (none l) ∙ h.all_early soon k;
      early = λ x. h.early soon;
      all_early = λ x k. h.all_early soon k;
    }

pub reply_bytes : (e : Entry) (t : Tunnel) → t.up.reply ≡ true → (is_awaited e ≡ true → is_listed t.far ≡ true → dest_has t ≡ []) → FlowOf (record t { entry = e }) → FlowOf (reply_comes e (record t { entry = e; up = record t.up { reply = false } }))
reply_bytes NoEntry t r none h = reply_off (record t { entry = NoEntry }) h
reply_bytes Awaited t r none h = send_reply_bytes t.connect t.phase (record t { entry = Carrying; up = record t.up { reply = false } }) (reply_carries t r (none refl) h)
reply_bytes Carrying t r none h = reply_off (record t { entry = Carrying }) h
reply_bytes Closing t r none h = reply_off (record t { entry = Closing }) h
reply_bytes Frontless t r none h = reply_off (record t { entry = Frontless }) h

-- the server takes bytes of the agent

pub carried_open : (a b r : Bool) → not r ≡ true → (a || (b && r)) ≡ true → a ≡ true
carried_open true b r n e = refl
carried_open false true r n e = absurd (not_both r n e)
carried_open false false r n e = e

module _ (n : ℕ) (t : Tunnel) (h : FlowOf t) (client : is_taking t.phase ≡ true → t.client ≡ true) (no_reply : not t.up.reply ≡ true) where
  up_out : (b : Bool) → (is_carrying t.entry && t.client) ≡ b → is_taking t.phase ≡ true → IsPrefixOf (app_has t ++ appended b t.outward.bytes (take n t.up.bytes)) (sent t.dest)
  up_out false e k = h.out k
  up_out true e k =
      front_of _ (drop n t.up.bytes) _ (of_same _ (app_has_up t) _ (ap (λ x. x ++ drop n t.up.bytes) (sym (append_assoc (app_has t) t.outward.bytes (take n t.up.bytes))) ∙ moved n (app_has_out t) t.up.bytes)
      (h.up k (or_left (is_carrying t.entry) (is_awaited t.entry && t.up.reply) (first (is_carrying t.entry) t.client e))))

  same_up : (b : Bool) → (is_carrying t.entry && t.client) ≡ b → is_taking t.phase ≡ true → is_carried t ≡ true → (app_has t ++ appended b t.outward.bytes (take n t.up.bytes)) ++ drop n t.up.bytes ≡ app_has_up t
  same_up true e k c = ap (λ x. x ++ drop n t.up.bytes) (sym (append_assoc (app_has t) t.outward.bytes (take n t.up.bytes))) ∙ moved n (app_has_out t) t.up.bytes
  same_up false e k c = absurd (never _ e (both (is_carrying t.entry) t.client (carried_open (is_carrying t.entry) (is_awaited t.entry) t.up.reply no_reply c) (client k)))

  pub takes_up_bytes : FlowOf (after (ServerTakesUp n) t)
  takes_up_bytes = record {
    app_got = h.app_got;
    dest_got = h.dest_got;
    app_holds = h.app_holds;
    dest_holds = h.dest_holds;
    inward = h.inward;
    all_in = h.all_in;
    early = h.early;
    all_early = h.all_early;
    waiting = h.waiting;
    unsent = h.unsent;
    out = λ k. up_out (is_carrying t.entry && t.client) refl k;
    up = λ k c. of_same _ _ _ (same_up (is_carrying t.entry && t.client) refl k c) (h.up k c);
    all_up = λ k c j. same_up (is_carrying t.entry && t.client) refl k c ∙ h.all_up k c j;
  }
