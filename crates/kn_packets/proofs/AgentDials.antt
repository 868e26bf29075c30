-- A dial of an agent wins its connection, which draws a connectID, or fails.
use Rattle.std.proofs.Common.{◌≡◌, ◌<◌, ◌≤◌, ◌+◌, ℕ, ℤ, pos, negsuc, Bool, true, false, not, cond, List, [], ◌∷◌, Option, Some, None, inl, inr, refl, sym, ap, ap₂, ◌∙◌, eqb-true, subst, arith}
use Rattle.std.specs.Prelude.{codes, nat_lt}
use Rattle.std.specs.Option.{IsSome}
use Rattle.kn_packet.specs.declared.packet.Packet.{Packet}
use Rattle.kn_packet.specs.declared.packet.Packet.TheVariants.{CloseReq, CloseRsp, Data, DialCls, DialReq, DialRsp, Drain, Other}
use Rattle.kn_tables.specs.Lists.{first_where}
use Rattle.kn_server_core.specs.Isolation.{Each}
use Rattle.kn_server_core.proofs.SoundLemmas.{first_in_place, not_missed, passes}
use Rattle.kn_server_core.proofs.TunnelTables.{put_found}
use Rattle.kn_edge_core.specs.Agent.{connection_opened, dial_refused, dial_up, ids_used_up, ignored}
use Rattle.kn_edge_core.specs.AgentTables.{is_connection, is_dial, without_dial}
use Rattle.kn_edge_core.specs.Steps.{AgentStep}
use Rattle.kn_edge_core.specs.declared.agent_event.AgentEvent.TheVariants as at_agent
use Rattle.kn_edge_core.specs.declared.agent_state.AgentState.{AgentState}
use Rattle.kn_edge_core.specs.declared.connection.Connection.{Connection}
use Rattle.kn_edge_core.specs.declared.connection.DestState.TheVariants.{Open}
use Rattle.kn_edge_core.specs.declared.dial.Dial.{Dial}
use Rattle.kn_tunnel.specs.Events as event
use Rattle.kn_tunnel.specs.Facts.{Facts}
use Rattle.kn_tunnel.specs.Kinds.{is_gone}
use Rattle.kn_tunnel.specs.Steps.{Follows}
use Rattle.kn_tunnel.specs.Tunnel.{Dialled, Side, Upward}
use Rattle.kn_words.specs.Down.{down_cons, down_item, down_word, has_request}
use Rattle.kn_words.specs.Numbers.{is_number}
use Rattle.kn_words.specs.Up.{OtherUp, RefusalUp, ReplyUp, UpItem, up_cons, up_item, up_of, up_snoc, up_word}
use Rattle.kn_words.proofs.Ends.{up_append}
use Rattle.kn_packets.specs.Keys.{CidOlder, IsBelow, Keys, MakesDial, asked_at, made_at}
use Rattle.kn_packets.specs.Lifts.{Lifts}
use Rattle.kn_packets.specs.Moves.{DialFailed, DialWon, after, agent_stepped}
use Rattle.kn_packets.specs.Outputs.{queued}
use Rattle.kn_packets.specs.World.{World, WorldLink, dial_far, has_random}
use Rattle.kn_packets.proofs.AgentLists.{asked_none, made_less, made_none}
use Rattle.kn_packets.proofs.AgentParts.{Apart, apart_same, ignored_apart, linked, of_agent, of_link, stepped, steps_lift}
use Rattle.kn_packets.proofs.AgentRows.{unanswered}
use Rattle.kn_packets.proofs.Fresh.{above, below, eqb_refl}
use Rattle.kn_packets.proofs.Queues.{up_other}
use Rattle.kn_packets.proofs.Tables.{kept_without}

-- ---- what is known of each entry is known of the one that is found
pub each_found : {E : Type 0} (P : E → Type 0) (p : E → Bool) (xs : List E) (x : E) → Each P xs → first_where p xs ≡ Some x → P x
each_found P p [] x h f = absurd cc
each_found P p (y ∷ ys) x h f = here (p y) f (λ g. each_found P p ys x h.1 g)
  where
    here : (b : Bool) → cond b (Some y) (first_where p ys) ≡ Some x → (first_where p ys ≡ Some x → P x) → P x
    here true g later = let m : y ≡ x = cc in subst P m h.0
    here false g later = later g

-- ---- a connectID that is drawn stands nowhere before
not_named : (c : ℕ) (z : ℤ) → IsBelow c z → is_number c z ≡ false
not_named c (pos m) h = below m c h
not_named c (negsuc m) h = refl

pub up_item_fresh : (d c : ℕ) (p : Packet) → CidOlder c p → up_item d (Some c) p ≡ up_item d None p
up_item_fresh d c (DialRsp [] connect_id random) h = rw (not_named c connect_id h) refl
up_item_fresh d c (DialRsp (x ∷ xs) connect_id random) h = refl
up_item_fresh d c (Data connect_id error bytes) h = rw (not_named c connect_id h) refl
up_item_fresh d c (CloseRsp error connect_id) h = rw (not_named c connect_id h) refl
up_item_fresh d c (CloseReq connect_id) h = refl
up_item_fresh d c (DialReq protocol address random) h = refl
up_item_fresh d c (DialCls random) h = refl
up_item_fresh d c Drain h = refl
up_item_fresh d c (Other number) h = refl

pub up_cid_fresh : (d c : ℕ) (ps : List Packet) → Each (CidOlder c) ps → up_word d (Some c) ps ≡ up_word d None ps
up_cid_fresh d c [] h = refl
up_cid_fresh d c (p ∷ ps) h = ap₂ up_cons (up_item_fresh d c p h.0) (up_cid_fresh d c ps h.1)

pub down_item_fresh : (c : ℕ) (p : Packet) → CidOlder c p → down_item (Some c) p ≡ down_item None p
down_item_fresh c (Data connect_id error bytes) h = rw (not_named c connect_id h) refl
down_item_fresh c (CloseReq connect_id) h = rw (not_named c connect_id h) refl
down_item_fresh c (DialRsp error connect_id random) h = refl
down_item_fresh c (CloseRsp error connect_id) h = refl
down_item_fresh c (DialReq protocol address random) h = refl
down_item_fresh c (DialCls random) h = refl
down_item_fresh c Drain h = refl
down_item_fresh c (Other number) h = refl

pub down_cid_fresh : (c : ℕ) (ps : List Packet) → Each (CidOlder c) ps → down_word (Some c) ps ≡ down_word None ps
down_cid_fresh c [] h = refl
down_cid_fresh c (p ∷ ps) h = ap₂ down_cons (down_item_fresh c p h.0) (down_cid_fresh c ps h.1)

-- ---- what the agent answers
reply_other : (d : ℕ) (cid : Option ℕ) (next : ℕ) (random : ℤ) → ((c : ℕ) → cid ≡ Some c → c < next) → up_item d cid (DialRsp [] (pos next) random) ≡ OtherUp
reply_other d None next random older = refl
reply_other d (Some c) next random older = rw (above c next (older c refl)) refl

pub refusal_own : (d : ℕ) (cid : Option ℕ) (x : ℕ) (xs : List ℕ) (c random : ℤ) → is_number d random ≡ true → up_item d cid (DialRsp (x ∷ xs) c random) ≡ RefusalUp
refusal_own d cid x xs c random e = rw e refl

pub refusal_other : (d : ℕ) (cid : Option ℕ) (x : ℕ) (xs : List ℕ) (c random : ℤ) → is_number d random ≡ false → up_item d cid (DialRsp (x ∷ xs) c random) ≡ OtherUp
refusal_other d cid x xs c random e = rw e refl

-- a refusal, and a reply, of which none is on its way
pub up_refused : (item : Packet → UpItem) (b : Bool) (ps : List Packet) (p : Packet) → item p ≡ RefusalUp → (up_of item ps).refusal ≡ false → up_of item (queued b ps (p ∷ [])) ≡ record (up_of item ps) { refusal = b }
up_refused item true ps p e f = up_append item ps p ∙ ap (up_snoc (up_of item ps)) e
up_refused item false ps p e f = ap (λ r. record (up_of item ps) { refusal = r }) f

up_replied : (item : Packet → UpItem) (b : Bool) (ps : List Packet) (p : Packet) → item p ≡ ReplyUp → (up_of item ps).reply ≡ false → up_of item (queued b ps (p ∷ [])) ≡ record (up_of item ps) { reply = b }
up_replied item true ps p e f = up_append item ps p ∙ ap (up_snoc (up_of item ps)) e
up_replied item false ps p e f = ap (λ r. record (up_of item ps) { reply = r }) f

-- ---- the tunnel of the dial, and the others
pub dialled : (d : ℕ) (r : Dial → Bool) (x : Dial) (xs : List Dial) → first_where r xs ≡ Some x → has_random d x ≡ true → (b : Bool) → dial_far (first_where (has_random d) xs) b ≡ Dialled
dialled d r x xs f h b = here (first_where (has_random d) xs) (not_missed r (has_random d) x xs f h)
  where
    here : (o : Option Dial) → IsSome o → dial_far o b ≡ Dialled
    here (Some y) s = refl
    here None s = absurd cc

module _ (w : World) (k d : ℕ) (side : Side) (a : AgentState) (link : WorldLink) (x : Dial) (at : first_where (is_dial x.ticket) a.dials ≡ Some x) where
  -- of another dial
  opened_apart : (cid : Option ℕ) → is_number d x.random ≡ false → ((c : ℕ) → cid ≡ Some c → c < a.next_connect_id) → Apart d cid a (connection_opened a x)
  opened_apart cid other older = record {
    lost = refl;
    dial = λ e. kept_without (has_random d) (is_dial x.ticket) x a.dials at other;
    connection = λ c e. first_in_place (λ (y : Connection). y.connect_id) (is_connection c) (record { connect_id = a.next_connect_id; state = Open; unwritten = 0 }) a.connections (above c a.next_connect_id (older c e));
    writes = λ o. refl;
    draws = rw other refl;
    word = λ b ps. up_other (up_item d cid) b ps (DialRsp [] (pos a.next_connect_id) x.random) (reply_other d cid a.next_connect_id x.random older);
  }

  used_apart : (cid : Option ℕ) → is_number d x.random ≡ false → Apart d cid a (ids_used_up a x)
  used_apart cid other = record {
    lost = refl;
    dial = λ e. kept_without (has_random d) (is_dial x.ticket) x a.dials at other;
    connection = λ c e. refl;
    writes = λ o. refl;
    draws = refl;
    word = λ b ps. up_other (up_item d cid) b ps (DialRsp (codes "connection ids used up") (pos 0) x.random) (rw other refl);
  }

  failed_apart : (cid : Option ℕ) → is_number d x.random ≡ false → Apart d cid a (dial_refused a (Some x))
  failed_apart cid other = record {
    lost = refl;
    dial = λ e. kept_without (has_random d) (is_dial x.ticket) x a.dials at other;
    connection = λ c e. refl;
    writes = λ o. refl;
    draws = refl;
    word = λ b ps. up_other (up_item d cid) b ps (DialRsp (codes "dial failed") (pos 0) x.random) (rw other refl);
  }

  -- its own
  module _ (facts : Facts (of_agent w k d None side a link)) (there : not a.lost ≡ true) (own : is_number d x.random ≡ true) where
    far : (b : Bool) → dial_far (first_where (has_random d) a.dials) b ≡ Dialled
    far b = dialled d (is_dial x.ticket) x a.dials at own b

    nothing : ((of_agent w k d None side a link).up.refusal ≡ false) × ((of_agent w k d None side a link).up.reply ≡ false) × (false ≡ false)
    nothing = unanswered (of_agent w k d None side a link) facts.link (rw (far (has_request d link.down)) refl)

    opened : Each (CidOlder a.next_connect_id) link.up → Each (CidOlder a.next_connect_id) link.down → first_where (is_connection a.next_connect_id) a.connections ≡ None
        → Follows (of_agent w k d None side a link) (stepped w k d None side (connection_opened a x) link link.down)
    opened ups downs free = inr (
      event.DialSucceeds,
      (rw (there, far (has_request d link.down)) refl, tt),
      rw (
        own,
        put_found (λ (y : Connection). y.connect_id) (is_connection a.next_connect_id) (record { connect_id = a.next_connect_id; state = Open; unwritten = 0 }) a.connections free (eqb_refl a.next_connect_id),
        up_replied (up_item d (Some a.next_connect_id)) (not (is_gone link.server)) link.up (DialRsp [] (pos a.next_connect_id) x.random) (rw (eqb_refl a.next_connect_id) refl) (ap (λ (u : Upward). u.reply) (up_cid_fresh d a.next_connect_id link.up ups) ∙ nothing.1),
        up_cid_fresh d a.next_connect_id link.up ups,
        down_cid_fresh a.next_connect_id link.down downs,
      ) refl,
    )

    -- it is on no list any more, and nobody asks for it
    module _ (once : asked_at d link.down + made_at d a.dials ≤ 1) where
      left : dial_far (first_where (has_random d) (without_dial x.ticket a.dials)) (has_request d link.down) ≡ dial_far None false
      left =
          let less = made_less d (is_dial x.ticket) x a.dials at own in
          rw (made_none d (without_dial x.ticket a.dials) (omega (arith, once, less)), asked_none d link.down (omega (arith, once, less))) refl

      used : Follows (of_agent w k d None side a link) (stepped w k d None side (ids_used_up a x) link link.down)
      used = inr (
        event.AgentRefuses,
        (rw (there, far (has_request d link.down)) refl, tt),
        rw (
          left,
          up_refused (up_item d None) (not (is_gone link.server)) link.up (DialRsp (codes "connection ids used up") (pos 0) x.random) (rw own refl) nothing.0,
        ) refl,
      )

      failed : Follows (of_agent w k d None side a link) (stepped w k d None side (dial_refused a (Some x)) link link.down)
      failed = inr (
        event.AgentRefuses,
        (rw (there, far (has_request d link.down)) refl, tt),
        rw (
          left,
          up_refused (up_item d None) (not (is_gone link.server)) link.up (DialRsp (codes "dial failed") (pos 0) x.random) (rw own refl) nothing.0,
        ) refl,
      )

-- ---- the moves
module _ (w : World) (l : ℕ) (keys : Keys w) (there : not (w.agents l).lost ≡ true) where
  same : (s : AgentStep) (k d : ℕ) → (w.apps k).came ≡ true → (w.apps k).dial ≡ Some d → (w.dials d).link ≡ l → Apart d (w.dials d).cid (w.agents l) s
      → Follows (of_agent w k d (w.dials d).cid (w.dials d).side (w.agents l) (w.links l)) (stepped w k d (w.dials d).cid (w.dials d).side s (w.links l) (w.links l).down)
  same s k d came de on it = inl (apart_same w k d (w.dials d).side (w.agents l) (w.links l) (w.dials d).cid (of_link w l keys k d came de on) s it (w.links l).down refl (λ e. refl))

  -- a dial that an agent makes has no connectID
  pub undrawn : (x : Dial) → first_where (is_dial x.ticket) (w.agents l).dials ≡ Some x → (d : ℕ) → is_number d x.random ≡ true → (w.dials d).cid ≡ None
  undrawn x at d own =
      let made = each_found (λ (y : Dial). MakesDial w l y.random) (is_dial x.ticket) (w.agents l).dials x (keys.agents.dials l) at in
      let same_dial : made.dial ≡ d = eqb-true made.dial d (ap (is_number d) (sym made.asked) ∙ own) in
      ap (λ i. (w.dials i).cid) (sym same_dial) ∙ made.undrawn

  older : (d : ℕ) → (w.dials d).link ≡ l → (c : ℕ) → (w.dials d).cid ≡ Some c → c < (w.agents l).next_connect_id
  older d on c e = rw on at (keys.agents.cids_older d c e)

  once : (d : ℕ) → (w.dials d).link ≡ l → asked_at d (w.links l).down + made_at d (w.agents l).dials ≤ 1
  once d on = rw on at (keys.agents.asked_once d)

  pub found : (ticket : ℕ) (x : Dial) → first_where (is_dial ticket) (w.agents l).dials ≡ Some x → first_where (is_dial x.ticket) (w.agents l).dials ≡ Some x
  found ticket x f = ap (λ t. first_where (is_dial t) (w.agents l).dials) (eqb-true x.ticket ticket (passes (is_dial ticket) x (w.agents l).dials f)) ∙ f

  won : (o : Option Dial) (ticket : ℕ) → first_where (is_dial ticket) (w.agents l).dials ≡ o → Lifts w (agent_stepped l (dial_up (w.agents l) o) w)
  won None ticket f = steps_lift w l (ignored (w.agents l)) (λ k d came de on. same (ignored (w.agents l)) k d came de on (ignored_apart d (w.dials d).cid (w.agents l)))
  won (Some x) ticket f = here (nat_lt (w.agents l).next_connect_id 9223372036854775807)
    where
      at : first_where (is_dial x.ticket) (w.agents l).dials ≡ Some x
      at = found ticket x f

      open_at : (k d : ℕ) → (w.apps k).came ≡ true → (w.apps k).dial ≡ Some d → (w.dials d).link ≡ l → (b : Bool) → is_number d x.random ≡ b
          → Follows (of_agent w k d (w.dials d).cid (w.dials d).side (w.agents l) (w.links l)) (stepped w k d (w.dials d).cid (w.dials d).side (connection_opened (w.agents l) x) (w.links l) (w.links l).down)
      open_at k d came de on true own =
          let none : (w.dials d).cid ≡ None = undrawn x at d own in
          rw none (opened w k d (w.dials d).side (w.agents l) (w.links l) x at (rw none at (of_link w l keys k d came de on)) there own (keys.agents.ups_older l) (keys.agents.downs_older l) (keys.agents.connections_older l (w.agents l).next_connect_id (omega arith)))
      open_at k d came de on false other = same (connection_opened (w.agents l) x) k d came de on (opened_apart w k d (w.dials d).side (w.agents l) (w.links l) x at (w.dials d).cid other (older d on))

      used_at : (k d : ℕ) → (w.apps k).came ≡ true → (w.apps k).dial ≡ Some d → (w.dials d).link ≡ l → (b : Bool) → is_number d x.random ≡ b
          → Follows (of_agent w k d (w.dials d).cid (w.dials d).side (w.agents l) (w.links l)) (stepped w k d (w.dials d).cid (w.dials d).side (ids_used_up (w.agents l) x) (w.links l) (w.links l).down)
      used_at k d came de on true own =
          let none : (w.dials d).cid ≡ None = undrawn x at d own in
          rw none (used w k d (w.dials d).side (w.agents l) (w.links l) x at (rw none at (of_link w l keys k d came de on)) there own (once d on))
      used_at k d came de on false other = same (ids_used_up (w.agents l) x) k d came de on (used_apart w k d (w.dials d).side (w.agents l) (w.links l) x at (w.dials d).cid other)

      here : (b : Bool) → Lifts w (agent_stepped l (cond b (connection_opened (w.agents l) x) (ids_used_up (w.agents l) x)) w)
      here true = steps_lift w l (connection_opened (w.agents l) x) (λ k d came de on. open_at k d came de on (is_number d x.random) refl)
      here false = steps_lift w l (ids_used_up (w.agents l) x) (λ k d came de on. used_at k d came de on (is_number d x.random) refl)

  pub won_lifts : (ticket : ℕ) → Lifts w (after (DialWon l ticket) w)
  won_lifts ticket = subst (λ s. Lifts w (agent_stepped l s w)) (sym (linked (w.agents l) (at_agent.DialUp ticket) there)) (won (first_where (is_dial ticket) (w.agents l).dials) ticket refl)

  lost : (o : Option Dial) (ticket : ℕ) → first_where (is_dial ticket) (w.agents l).dials ≡ o → Lifts w (agent_stepped l (dial_refused (w.agents l) o) w)
  lost None ticket f = steps_lift w l (ignored (w.agents l)) (λ k d came de on. same (ignored (w.agents l)) k d came de on (ignored_apart d (w.dials d).cid (w.agents l)))
  lost (Some x) ticket f = steps_lift w l (dial_refused (w.agents l) (Some x)) (λ k d came de on. failed_at k d came de on (is_number d x.random) refl)
    where
      at : first_where (is_dial x.ticket) (w.agents l).dials ≡ Some x
      at = found ticket x f

      failed_at : (k d : ℕ) → (w.apps k).came ≡ true → (w.apps k).dial ≡ Some d → (w.dials d).link ≡ l → (b : Bool) → is_number d x.random ≡ b
          → Follows (of_agent w k d (w.dials d).cid (w.dials d).side (w.agents l) (w.links l)) (stepped w k d (w.dials d).cid (w.dials d).side (dial_refused (w.agents l) (Some x)) (w.links l) (w.links l).down)
      failed_at k d came de on true own =
          let none : (w.dials d).cid ≡ None = undrawn x at d own in
          rw none (failed w k d (w.dials d).side (w.agents l) (w.links l) x at (rw none at (of_link w l keys k d came de on)) there own (once d on))
      failed_at k d came de on false other = same (dial_refused (w.agents l) (Some x)) k d came de on (failed_apart w k d (w.dials d).side (w.agents l) (w.links l) x at (w.dials d).cid other)

  pub failed_lifts : (ticket : ℕ) → Lifts w (after (DialFailed l ticket) w)
  failed_lifts ticket = subst (λ s. Lifts w (agent_stepped l s w)) (sym (linked (w.agents l) (at_agent.DialRefused ticket) there)) (lost (first_where (is_dial ticket) (w.agents l).dials) ticket refl)
