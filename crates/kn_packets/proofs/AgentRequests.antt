-- An agent takes the request of a dial: it dials, or refuses it; and all that it may take.
use Rattle.std.proofs.Common.{◌≡◌, ◌≤◌, ◌+◌, ℕ, ℤ, pos, Bool, true, false, not, cond, List, [], ◌∷◌, Option, Some, None, suc, inl, inr, refl, sym, ap, ◌∙◌, eqb-true, subst, arith}
use Rattle.std.specs.Prelude.{codes}
use Rattle.kn_packet.specs.declared.packet.Packet.{Packet}
use Rattle.kn_packet.specs.declared.packet.Packet.TheVariants.{CloseReq, CloseRsp, Data, DialCls, DialReq, DialRsp, Drain, Other}
use Rattle.kn_tables.specs.Lists.{first_where}
use Rattle.kn_server_core.specs.Isolation.{Each}
use Rattle.kn_server_core.proofs.SoundLemmas.{first_in_place}
use Rattle.kn_server_core.proofs.TunnelTables.{put_found}
use Rattle.kn_edge_core.specs.Agent.{dial_begun, dial_requested, is_tcp, may_dial, packet_came, refusal, tcp_asked, told}
use Rattle.kn_edge_core.specs.AgentTables.{connection_at}
use Rattle.kn_edge_core.specs.Steps.{AgentStep}
use Rattle.kn_edge_core.specs.declared.agent_event.AgentEvent.TheVariants as at_agent
use Rattle.kn_edge_core.specs.declared.agent_state.AgentState.{AgentState}
use Rattle.kn_edge_core.specs.declared.dial.Dial.{Dial}
use Rattle.kn_tunnel.specs.Events as event
use Rattle.kn_tunnel.specs.Facts.{Facts}
use Rattle.kn_tunnel.specs.Kinds.{is_gone}
use Rattle.kn_tunnel.specs.Steps.{Follows}
use Rattle.kn_tunnel.specs.Tunnel.{Asked, Side}
use Rattle.kn_words.specs.Down.{has_request}
use Rattle.kn_words.specs.Numbers.{is_number}
use Rattle.kn_words.specs.Up.{up_item}
use Rattle.kn_packets.specs.Keys.{Keys, RequestFits, asked_at, made_at, one_more}
use Rattle.kn_packets.specs.Lifts.{Lifts}
use Rattle.kn_packets.specs.Moves.{AgentTakes, after, agent_stepped, down_is, takes_down}
use Rattle.kn_packets.specs.World.{World, WorldLink, dial_far, has_random}
use Rattle.kn_packets.proofs.AgentDials.{refusal_other, refusal_own, up_refused}
use Rattle.kn_packets.proofs.AgentLists.{asked_none, made_none}
use Rattle.kn_packets.proofs.AgentParts.{Apart, apart_same, linked, of_agent, of_link, stepped, takings_lift}
use Rattle.kn_packets.proofs.AgentRows.{unanswered}
use Rattle.kn_packets.proofs.AgentTakes.{bytes_lift, close_lift, other_lift}
use Rattle.kn_packets.proofs.Queues.{up_other}

-- ---- of another dial
begun_apart : (d : ℕ) (cid : Option ℕ) (a : AgentState) (address : List ℕ) (random : ℤ) → is_number d random ≡ false → Apart d cid a (dial_begun a address random)
begun_apart d cid a address random other = record {
  lost = refl;
  dial = λ e. first_in_place (λ (y : Dial). y.ticket) (has_random d) (record { ticket = a.next_ticket; random = random }) a.dials other;
  connection = λ c e. refl;
  writes = λ o. refl;
  draws = refl;
  word = λ b ps. refl;
}

refused_apart : (d : ℕ) (cid : Option ℕ) (a : AgentState) (x : ℕ) (xs : List ℕ) (random : ℤ) → is_number d random ≡ false → Apart d cid a (told a (refusal (x ∷ xs) random ∷ []))
refused_apart d cid a x xs random other = record {
  lost = refl;
  dial = λ e. refl;
  connection = λ c e. refl;
  writes = λ o. refl;
  draws = refl;
  word = λ b ps. up_other (up_item d cid) b ps (DialRsp (x ∷ xs) (pos 0) random) (refusal_other d cid x xs (pos 0) random other);
}

-- ---- its own
module _ (w : World) (k d : ℕ) (side : Side) (a : AgentState) (link : WorldLink) (facts : Facts (of_agent w k d None side a link)) (there : not a.lost ≡ true) (protocol address : List ℕ) (random : ℤ) (rest : List Packet)
    (first : link.down ≡ DialReq protocol address random ∷ rest) (own : is_number d random ≡ true) (once : asked_at d link.down + made_at d a.dials ≤ 1) where
  counted : one_more (is_number d random) (asked_at d rest) + made_at d a.dials ≤ 1
  counted = rw first at once

  alone : suc (asked_at d rest) + made_at d a.dials ≤ 1
  alone = rw own at counted

  not_made : first_where (has_random d) a.dials ≡ None
  not_made = made_none d a.dials (omega (arith, alone))

  not_asked : has_request d rest ≡ false
  not_asked = asked_none d rest (omega (arith, alone))

  was_asked : dial_far (first_where (has_random d) a.dials) (has_request d link.down) ≡ Asked
  was_asked = rw (not_made, first, own) refl

  begins : Follows (of_agent w k d None side a link) (stepped w k d None side (dial_begun a address random) link rest)
  begins = inr (
    event.AgentTakesRequest,
    (rw (there, was_asked) refl, tt),
    rw (first, put_found (λ (y : Dial). y.ticket) (has_random d) (record { ticket = a.next_ticket; random = random }) a.dials not_made own) refl,
  )

  refuses : (x : ℕ) (xs : List ℕ) → Follows (of_agent w k d None side a link) (stepped w k d None side (told a (refusal (x ∷ xs) random ∷ [])) link rest)
  refuses x xs = inr (
    event.AgentRefuses,
    (rw (there, was_asked) refl, tt),
    rw (
      not_made,
      not_asked,
      first,
      up_refused (up_item d None) (not (is_gone link.server)) link.up (DialRsp (x ∷ xs) (pos 0) random) (refusal_own d None x xs (pos 0) random own) (unanswered (of_agent w k d None side a link) facts.link (rw was_asked refl)).0,
    ) refl,
  )

-- ---- the move
module _ (w : World) (l : ℕ) (keys : Keys w) (there : not (w.agents l).lost ≡ true) where
  module _ (protocol address : List ℕ) (random : ℤ) (rest : List Packet) (first : (w.links l).down ≡ DialReq protocol address random ∷ rest) where
    undrawn : (d : ℕ) → is_number d random ≡ true → (w.dials d).cid ≡ None
    undrawn d own =
        let asked : Each (RequestFits w l) (DialReq protocol address random ∷ rest) = rw first at (keys.agents.requests l) in
        let same : asked.0.dial ≡ d = eqb-true asked.0.dial d (ap (is_number d) (sym asked.0.asked) ∙ own) in
        ap (λ i. (w.dials i).cid) (sym same) ∙ asked.0.undrawn

    by_dial : (s : AgentStep) → ((d : ℕ) (cid : Option ℕ) → is_number d random ≡ false → Apart d cid (w.agents l) s)
        → ((k d : ℕ) → Facts (of_agent w k d None (w.dials d).side (w.agents l) (w.links l)) → is_number d random ≡ true → asked_at d (w.links l).down + made_at d (w.agents l).dials ≤ 1
        → Follows (of_agent w k d None (w.dials d).side (w.agents l) (w.links l)) (stepped w k d None (w.dials d).side s (w.links l) rest))
        → Lifts w (agent_stepped l s (down_is l rest w))
    by_dial s others owns = takings_lift w l s rest (λ k d came de on. here k d came de on (is_number d random) refl)
      where
        here : (k d : ℕ) → (w.apps k).came ≡ true → (w.apps k).dial ≡ Some d → (w.dials d).link ≡ l → (b : Bool) → is_number d random ≡ b
            → Follows (of_agent w k d (w.dials d).cid (w.dials d).side (w.agents l) (w.links l)) (stepped w k d (w.dials d).cid (w.dials d).side s (w.links l) rest)
        here k d came de on true own = let none : (w.dials d).cid ≡ None = undrawn d own in rw none (owns k d (rw none at (of_link w l keys k d came de on)) own (rw on at (keys.agents.asked_once d)))
        here k d came de on false other = inl (apart_same w k d (w.dials d).side (w.agents l) (w.links l) (w.dials d).cid (of_link w l keys k d came de on) s (others d (w.dials d).cid other) rest (rw first refl) (λ e. rw (first, other) refl))

    refusal_lift : (x : ℕ) (xs : List ℕ) → Lifts w (agent_stepped l (told (w.agents l) (refusal (x ∷ xs) random ∷ [])) (down_is l rest w))
    refusal_lift x xs = by_dial (told (w.agents l) (refusal (x ∷ xs) random ∷ [])) (λ d cid other. refused_apart d cid (w.agents l) x xs random other)
        (λ k d facts own once. refuses w k d (w.dials d).side (w.agents l) (w.links l) facts there protocol address random rest first own once x xs)

    dial_lift : Lifts w (agent_stepped l (dial_begun (w.agents l) address random) (down_is l rest w))
    dial_lift = by_dial (dial_begun (w.agents l) address random) (λ d cid other. begun_apart d cid (w.agents l) address random other)
        (λ k d facts own once. begins w k d (w.dials d).side (w.agents l) (w.links l) facts there protocol address random rest first own once)

    by_room : (b : Bool) → Lifts w (agent_stepped l (cond b (dial_begun (w.agents l) address random) (told (w.agents l) (refusal (codes "too many connections") random ∷ []))) (down_is l rest w))
    by_room true = dial_lift
    by_room false = refusal_lift _ _

    by_protocol : (b : Bool) → Lifts w (agent_stepped l (cond b (tcp_asked (w.agents l) address random) (told (w.agents l) (refusal (codes "unsupported protocol") random ∷ []))) (down_is l rest w))
    by_protocol true = by_room (may_dial (w.agents l))
    by_protocol false = refusal_lift _ _

    request_lift : Lifts w (agent_stepped l (dial_requested (w.agents l) protocol address random) (down_is l rest w))
    request_lift = by_protocol (is_tcp protocol)

  by_packet : (p : Packet) (rest : List Packet) → (w.links l).down ≡ p ∷ rest → Lifts w (agent_stepped l (packet_came (w.agents l) p) (down_is l rest w))
  by_packet (DialReq protocol address random) rest first = request_lift protocol address random rest first
  by_packet (Data c error bytes) rest first = bytes_lift w l keys there rest c error bytes first (connection_at c (w.agents l).connections) refl
  by_packet (CloseReq c) rest first = close_lift w l keys there rest c first (connection_at c (w.agents l).connections) refl
  by_packet (DialRsp error c random) rest first = other_lift w l keys there rest (DialRsp error c random) first (λ cid. refl) (λ d. refl)
  by_packet (CloseRsp error c) rest first = other_lift w l keys there rest (CloseRsp error c) first (λ cid. refl) (λ d. refl)
  by_packet (DialCls random) rest first = other_lift w l keys there rest (DialCls random) first (λ cid. refl) (λ d. refl)
  by_packet Drain rest first = other_lift w l keys there rest Drain first (λ cid. refl) (λ d. refl)
  by_packet (Other number) rest first = other_lift w l keys there rest (Other number) first (λ cid. refl) (λ d. refl)

  by_first : (ps : List Packet) → (w.links l).down ≡ ps → Lifts w (takes_down l ps w)
  by_first [] first = λ k came. inl refl
  by_first (p ∷ rest) first = subst (λ s. Lifts w (agent_stepped l s (down_is l rest w))) (sym (linked (w.agents l) (at_agent.Packet p) there)) (by_packet p rest first)

  pub takes_lifts : Lifts w (after (AgentTakes l) w)
  takes_lifts = by_first (w.links l).down refl
