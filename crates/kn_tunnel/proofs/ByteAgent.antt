-- What the agent and the destination do keeps what holds of the bytes.
use Rattle.std.proofs.Common.{◌≡◌, ◌++◌, ◌&&◌, ℕ, Bool, true, false, not, List, [], take, drop, cond, refl, sym, ap, ◌∙◌, append_assoc, append-nil}
use Rattle.kn_tunnel.specs.Bytes.{app_has_out, app_has_up, dest_has, is_carried}
use Rattle.kn_tunnel.specs.Cuts.{IsPrefixOf}
use Rattle.kn_tunnel.specs.Events.{AgentTakesDown, DestinationHands, DestinationSends, DialSucceeds}
use Rattle.kn_tunnel.specs.Kinds.{has, is_carrying, is_empty, is_joined, is_lingering, is_listed, is_taking}
use Rattle.kn_tunnel.specs.LinkSide.{link_ok, link_view}
use Rattle.kn_tunnel.specs.Steps.{after, agent_leaves, appended, close_comes, leaves_if_done}
use Rattle.kn_tunnel.specs.Tunnel.{Asked, Dialled, Far, Joined, Left, Lingering, Tunnel, Undrawn, sent}
use Rattle.kn_tunnel.proofs.ByteRows.{carried_server, joined_drawn, lingers_empty}
use Rattle.kn_tunnel.proofs.ByteServer.{far_left}
use Rattle.kn_tunnel.proofs.Every.{first, second}
use Rattle.kn_tunnel.proofs.Flows.{FlowOf, dest_gone, weaken}
use Rattle.kn_tunnel.proofs.ListBits.{both}
use Rattle.kn_tunnel.proofs.Lists.{drop_none, empty_prefix, front_none, front_of, moved, never, not_both, nothing, of_same, prefix_none, to_longer, to_same}

-- the agent's dial succeeds: nothing is on the way yet, and the destination has sent nothing
module _ (t : Tunnel) (h : FlowOf t) (found : ((is_empty t.dest.got && is_empty t.dest.unwritten) && not (has t.up.bytes) && not (has t.down.bytes) && not (is_carrying t.entry) && not t.cid) ≡ true) where
  no_cid_yet : t.cid ≡ false
  no_cid_yet = here t.cid (second ((is_empty t.dest.got && is_empty t.dest.unwritten) && not (has t.up.bytes) && not (has t.down.bytes) && not (is_carrying t.entry)) (not t.cid) found)
    where
      here : (b : Bool) → not b ≡ true → b ≡ false
      here true e = absurd cc
      here false e = refl

  not_open : not (is_carrying t.entry) ≡ true
  not_open = second ((is_empty t.dest.got && is_empty t.dest.unwritten) && not (has t.up.bytes) && not (has t.down.bytes)) (not (is_carrying t.entry)) (first ((is_empty t.dest.got && is_empty t.dest.unwritten) && not (has t.up.bytes) && not (has t.down.bytes) && not (is_carrying t.entry)) (not t.cid) found)

  three : ((is_empty t.dest.got && is_empty t.dest.unwritten) && not (has t.up.bytes) && not (has t.down.bytes)) ≡ true
  three = first ((is_empty t.dest.got && is_empty t.dest.unwritten) && not (has t.up.bytes) && not (has t.down.bytes)) (not (is_carrying t.entry)) (first ((is_empty t.dest.got && is_empty t.dest.unwritten) && not (has t.up.bytes) && not (has t.down.bytes) && not (is_carrying t.entry)) (not t.cid) found)

  two : ((is_empty t.dest.got && is_empty t.dest.unwritten) && not (has t.up.bytes)) ≡ true
  two = first ((is_empty t.dest.got && is_empty t.dest.unwritten) && not (has t.up.bytes)) (not (has t.down.bytes)) three

  up_none : t.up.bytes ≡ []
  up_none = nothing t.up.bytes (second (is_empty t.dest.got && is_empty t.dest.unwritten) (not (has t.up.bytes)) two)

  new_fresh : (is_empty t.dest.got && is_empty t.dest.unwritten) ≡ true
  new_fresh = first (is_empty t.dest.got && is_empty t.dest.unwritten) (not (has t.up.bytes)) two

  dest_none : dest_has t ≡ []
  dest_none = rw (nothing t.dest.got (first (is_empty t.dest.got) (is_empty t.dest.unwritten) new_fresh), nothing t.dest.unwritten (second (is_empty t.dest.got) (is_empty t.dest.unwritten) new_fresh), nothing t.down.bytes (second ((is_empty t.dest.got && is_empty t.dest.unwritten) && not (has t.up.bytes)) (not (has t.down.bytes)) three)) refl

  same_out : app_has_up t ≡ app_has_out t
  same_out = ap (λ u. app_has_out t ++ u) up_none ∙ append-nil (app_has_out t)

  pub dial_bytes : FlowOf (after DialSucceeds t)
  dial_bytes = record {
    app_got = h.app_got;
    dest_got = h.dest_got;
    app_holds = h.app_holds;
    out = h.out;
    early = h.early;
    all_early = h.all_early;
    waiting = h.waiting;
    up = λ k c. of_same _ _ _ same_out (h.out k);
    all_up = λ k c j. (same_out ∙ prefix_none (app_has_out t) (sent t.dest) (h.unsent no_cid_yet) (h.out k)) ∙ sym (front_none t.dest.handed t.dest.kept (h.unsent no_cid_yet));
    dest_holds = λ l. empty_prefix _ _ dest_none;
    inward = λ l c. absurd (not_both (is_carrying t.entry) not_open c);
    all_in = λ l c k. absurd (not_both (is_carrying t.entry) not_open c);
    unsent = λ e. absurd (never true e refl);
  }

-- the agent takes bytes
module _ (n : ℕ) (t : Tunnel) (h : FlowOf t) (ok : link_ok (link_view t) ≡ true) where
  dest_same : (far : Far) → t.far ≡ far → is_listed far ≡ true → (t.dest.got ++ appended (is_joined far) t.dest.unwritten (take n t.down.bytes)) ++ drop n t.down.bytes ≡ dest_has t
  dest_same Joined e l = ap (λ x. x ++ drop n t.down.bytes) (sym (append_assoc t.dest.got t.dest.unwritten (take n t.down.bytes))) ∙ moved n (t.dest.got ++ t.dest.unwritten) t.down.bytes
  dest_same Lingering e l =
      let none = nothing t.down.bytes (lingers_empty t ok (ap is_lingering e)) in
      ap (λ x. (t.dest.got ++ t.dest.unwritten) ++ x) (drop_none n t.down.bytes none ∙ sym none)
  dest_same Undrawn e l = absurd cc
  dest_same Asked e l = absurd cc
  dest_same Dialled e l = absurd cc
  dest_same Left e l = absurd cc

  pub takes_down_bytes : FlowOf (after (AgentTakesDown n) t)
  takes_down_bytes = record {
    app_got = h.app_got;
    dest_got = h.dest_got;
    app_holds = h.app_holds;
    out = h.out;
    up = h.up;
    all_up = h.all_up;
    early = h.early;
    all_early = h.all_early;
    waiting = h.waiting;
    unsent = h.unsent;
    dest_holds = λ l. of_same _ _ _ (dest_same t.far refl l) (h.dest_holds l);
    inward = λ l c. of_same _ _ _ (ap (λ x. x ++ t.inward.bytes) (dest_same t.far refl l)) (h.inward l c);
    all_in = λ l c k. ap (λ x. x ++ t.inward.bytes) (dest_same t.far refl l) ∙ h.all_in l c k;
  }

-- the connection leaves the agent, or lingers

pub agent_leaves_bytes : (t : Tunnel) → FlowOf t → FlowOf (agent_leaves t)
agent_leaves_bytes t h = dest_gone refl (far_left t h)

pub lingers_bytes : (t : Tunnel) → FlowOf (record t { far = Joined }) → FlowOf (record t { far = Lingering })
lingers_bytes t h = weaken (record { here = λ x. x; taking = λ x. x; waiting = λ x. x; carried = λ x. x; joined = λ x. absurd cc; listed = λ x. refl; carrying = λ x. x; early = λ x. x; cid = λ x. x }) h

pub close_splits : (b : Bool) (t : Tunnel) → FlowOf (record t { far = Joined }) → FlowOf (cond (not b) (agent_leaves (record t { far = Joined })) (record t { far = Lingering }))
close_splits true t h = lingers_bytes t h
close_splits false t h = agent_leaves_bytes (record t { far = Joined }) h

pub close_comes_bytes : (f : Far) (t : Tunnel) → FlowOf (record t { far = f }) → FlowOf (close_comes f (record t { far = f }))
close_comes_bytes Joined t h = close_splits (has t.dest.unwritten) t h
close_comes_bytes Lingering t h = h
close_comes_bytes Undrawn t h = h
close_comes_bytes Asked t h = h
close_comes_bytes Dialled t h = h
close_comes_bytes Left t h = h

pub leaves_if_bytes : (b : Bool) (t : Tunnel) → FlowOf t → FlowOf (leaves_if_done b t)
leaves_if_bytes true t h = agent_leaves_bytes t h
leaves_if_bytes false t h = h

-- the destination sends
module _ (bytes : List ℕ) (t : Tunnel) (h : FlowOf t) (drawn_here : t.cid ≡ true) where
  dest_more : (xs : List ℕ) → IsPrefixOf xs (sent t.dest) → IsPrefixOf xs (t.dest.handed ++ (t.dest.kept ++ bytes))
  dest_more xs p = to_same _ _ _ (append_assoc t.dest.handed t.dest.kept bytes) (to_longer xs (sent t.dest) bytes p)

  pub dest_sends_bytes : FlowOf (after (DestinationSends bytes) t)
  dest_sends_bytes = record {
    dest_got = h.dest_got;
    all_up = h.all_up;
    dest_holds = h.dest_holds;
    inward = h.inward;
    all_in = h.all_in;
    early = h.early;
    all_early = h.all_early;
    waiting = h.waiting;
    app_got = dest_more _ h.app_got;
    app_holds = λ k. dest_more _ (h.app_holds k);
    out = λ k. dest_more _ (h.out k);
    up = λ k c. dest_more _ (h.up k c);
    unsent = λ e. absurd (never t.cid e drawn_here);
  }

-- the destination's bytes are handed over
module _ (n : ℕ) (t : Tunnel) (h : FlowOf t) (ok : link_ok (link_view t) ≡ true) (listed : is_listed t.far ≡ true) where
  dest_sent_same : (t.dest.handed ++ take n t.dest.kept) ++ drop n t.dest.kept ≡ sent t.dest
  dest_sent_same = moved n t.dest.handed t.dest.kept

  dest_still : (xs : List ℕ) → IsPrefixOf xs (sent t.dest) → IsPrefixOf xs ((t.dest.handed ++ take n t.dest.kept) ++ drop n t.dest.kept)
  dest_still xs p = to_same _ _ _ (sym dest_sent_same) p

  hands_all : (b : Bool) → (is_joined t.far && t.server) ≡ b → is_taking t.phase ≡ true → is_carried t ≡ true → is_joined t.far ≡ true → app_has_out t ++ appended b t.up.bytes (take n t.dest.kept) ≡ t.dest.handed ++ take n t.dest.kept
  hands_all true e k c j = sym (append_assoc (app_has_out t) t.up.bytes (take n t.dest.kept)) ∙ ap (λ x. x ++ take n t.dest.kept) (h.all_up k c j)
  hands_all false e k c j = absurd (never _ e (both (is_joined t.far) t.server j (carried_server t ok c)))

  hands_up : (b : Bool) → (is_joined t.far && t.server) ≡ b → is_taking t.phase ≡ true → is_carried t ≡ true → IsPrefixOf (app_has_out t ++ appended b t.up.bytes (take n t.dest.kept)) ((t.dest.handed ++ take n t.dest.kept) ++ drop n t.dest.kept)
  hands_up false e k c = dest_still _ (h.up k c)
  hands_up true e k c = (drop n t.dest.kept, ap (λ x. x ++ drop n t.dest.kept) (hands_all true e k c (first (is_joined t.far) t.server e)))

  pub dest_hands_bytes : FlowOf (after (DestinationHands n) t)
  dest_hands_bytes = record {
    dest_got = h.dest_got;
    dest_holds = h.dest_holds;
    inward = h.inward;
    all_in = h.all_in;
    early = h.early;
    all_early = h.all_early;
    waiting = h.waiting;
    app_got = dest_still _ h.app_got;
    app_holds = λ k. dest_still _ (h.app_holds k);
    out = λ k. dest_still _ (h.out k);
    up = λ k c. hands_up (is_joined t.far && t.server) refl k c;
    all_up = λ k c j. hands_all (is_joined t.far && t.server) refl k c j;
    unsent = λ e. absurd (never t.cid e (joined_drawn t ok listed));
  }

-- bytes are written to the destination
module _ (n : ℕ) (t : Tunnel) (h : FlowOf t) (listed : is_listed t.far ≡ true) where
  dest_moved : ((t.dest.got ++ take n t.dest.unwritten) ++ drop n t.dest.unwritten) ++ t.down.bytes ≡ dest_has t
  dest_moved = ap (λ x. x ++ t.down.bytes) (moved n t.dest.got t.dest.unwritten)

  pub dest_wrote_bytes : FlowOf (record t { dest = record t.dest { got = t.dest.got ++ take n t.dest.unwritten; unwritten = drop n t.dest.unwritten } })
  dest_wrote_bytes = record {
    app_got = h.app_got;
    app_holds = h.app_holds;
    out = h.out;
    up = h.up;
    all_up = h.all_up;
    early = h.early;
    all_early = h.all_early;
    waiting = h.waiting;
    unsent = h.unsent;
    dest_got = front_of _ (drop n t.dest.unwritten) _ (of_same _ _ _ (moved n t.dest.got t.dest.unwritten) (front_of _ t.down.bytes _ (h.dest_holds listed)));
    dest_holds = λ l. of_same _ _ _ dest_moved (h.dest_holds l);
    inward = λ l c. of_same _ _ _ (ap (λ x. x ++ t.inward.bytes) dest_moved) (h.inward l c);
    all_in = λ l c k. ap (λ x. x ++ t.inward.bytes) dest_moved ∙ h.all_in l c k;
  }
