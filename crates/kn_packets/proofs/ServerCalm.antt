-- A step of the server that draws no dial: what it brings.
use Rattle.std.proofs.Common.{◌≡◌, ◌≤◌, ◌+◌, ◌++◌, ℕ, ℤ, Bool, true, false, not, cond, List, [], ◌∷◌, Option, Some, None, inl, inr, refl, sym, ap, ◌∙◌, subst, append-nil, append_assoc, arith}
use Rattle.kn_packet.specs.declared.packet.Packet.{Packet}
use Rattle.kn_packet.specs.declared.packet.Packet.TheVariants.{CloseReq, CloseRsp, Data, DialCls, DialReq, DialRsp, Drain, Other}
use Rattle.kn_route.specs.LinkLists.{has_link}
use Rattle.kn_tables.specs.Lists.{first_where}
use Rattle.kn_tables.specs.Awaiting.{is_dial}
use Rattle.kn_tables.specs.Holding.{is_held_dial}
use Rattle.kn_tables.specs.declared.awaited_entry.AwaitedEntry.{AwaitedEntry}
use Rattle.kn_tables.specs.declared.held_entry.HeldEntry.{HeldEntry}
use Rattle.kn_server_core.specs.declared.event.ServerOut.{ServerOut}
use Rattle.kn_server_core.specs.FrontLists.{is_up}
use Rattle.kn_server_core.specs.Isolation.{Each, IsOrderly}
use Rattle.kn_server_core.specs.Steps.{Step}
use Rattle.kn_tunnel.specs.Kinds.{is_present}
use Rattle.kn_tunnel.specs.Tunnel.{Downward, Outward}
use Rattle.kn_words.specs.Down.{DownItem, OtherDown, down_follows, down_item, down_of, down_ordered, down_snoc, is_request}
use Rattle.kn_words.specs.In.{InItem, in_ordered, stream_in_item}
use Rattle.kn_words.specs.Numbers.{is_drawn_number}
use Rattle.kn_words.specs.Out.{OtherOut, OutItem, out_follows, out_of, out_ordered, out_snoc, stream_out_item}
use Rattle.kn_words.specs.Up.{UpItem, up_item, up_ordered}
use Rattle.kn_words.proofs.DownGiven.{DownFollow, down_order_follow}
use Rattle.kn_words.proofs.DownOrder.{down_prefix_ordered}
use Rattle.kn_words.proofs.InOrder.{in_order_rest}
use Rattle.kn_words.proofs.OutGiven.{OutFollow, out_order_follow}
use Rattle.kn_words.proofs.OutOrder.{out_prefix_ordered}
use Rattle.kn_words.proofs.UpOrder.{up_order_rest}
use Rattle.kn_packets.specs.Keys.{AnswerFits, AwaitedFits, HeldFits, InOrder, IsBelow, Keys, StreamOlder, asked_at, made_at, one_more}
use Rattle.kn_packets.specs.Lifts.{Lifts}
use Rattle.kn_packets.specs.Moves.{new_dial}
use Rattle.kn_packets.specs.Outputs.{dial_made, for_front, for_link, is_cut, queued}
use Rattle.kn_packets.specs.World.{World, WorldDial}
use Rattle.kn_packets.proofs.AgentKept.{each_as}
use Rattle.kn_packets.proofs.DataParts.{ToFronts, ToLinks}
use Rattle.kn_packets.proofs.ServerKept.{Before, Brings, FitsFront, FitsLink, Remains, brings_keep, dial_after, dropped, world_after}
use Rattle.kn_packets.proofs.Told.{IsOne}

-- outputs that make no dial, and cut no link
pub record NoDial (outs : List ServerOut) : Type 0 where
  pub uncut : (l : ℕ) → is_cut l outs ≡ false
  pub made : (i : ℕ) (own : Bool) (D : Option ℕ) → dial_made i own outs D ≡ D
  pub new : (d : ℕ) (x : WorldDial) → new_dial d outs x ≡ x

pub fronts_no_dial : (outs : List ServerOut) → ToFronts outs → NoDial outs
fronts_no_dial outs to = record { uncut = to.cut; made = to.made; new = to.new }

pub links_no_dial : (outs : List ServerOut) → ToLinks outs → NoDial outs
links_no_dial outs to = record { uncut = to.cut; made = to.made; new = to.new }

-- to a link go bytes and closes of connectIDs that were drawn
abbrev pub OfConnections : ℕ → Packet → Type 0
OfConnections n (Data c error bytes) = IsBelow n c
OfConnections n (CloseReq c) = IsBelow n c
OfConnections n (DialReq protocol address random) = ⊥
OfConnections n (DialRsp error c random) = ⊥
OfConnections n (CloseRsp error c) = ⊥
OfConnections n (DialCls random) = ⊥
OfConnections n Drain = ⊥
OfConnections n (Other number) = ⊥

-- what a packet is to an app
abbrev pub item_of : World → ℕ → Packet → OutItem
item_of w k p = stream_out_item (w.streams (w.apps k).stream).connect (w.apps k).number (w.apps k).dial p

pub record Calm (w : World) (s : Step) (b : Before) : Type 0 where
  pub remains : Remains w b
  pub orderly : IsOrderly s.state
  pub undrawn : NoDial s.outs
  pub links : (l : ℕ) → has_link l s.state.links ≡ is_present (b.links l)
  pub fronts : (f : ℕ) → is_present (b.fronts f) ≡ true → is_up f s.state.fronts ≡ true
  pub number : s.state.next_dial ≡ w.server.next_dial
  pub awaited : (d : ℕ) (e : AwaitedEntry) → first_where (is_dial d) s.state.awaited ≡ Some e → AwaitedFits w d e
  pub held : (d : ℕ) (e : HeldEntry) → first_where (is_held_dial d) s.state.held ≡ Some e → HeldFits w d e
  pub to_links : (l : ℕ) → Each (OfConnections (w.agents l).next_connect_id) (for_link l s.outs)
  pub to_fronts : (f : ℕ) → Each (FitsFront w f) (for_front f s.outs)
  pub outward : (k : ℕ) → (w.apps k).came ≡ true → (w.streams (w.apps k).stream).client ≡ true → OutFollow (item_of w k) (out_of (item_of w k) (b.outs (w.apps k).stream)) (for_front (w.apps k).stream s.outs)
  pub down : (k d : ℕ) → (w.apps k).came ≡ true → (w.apps k).dial ≡ Some d → not (w.agents (w.dials d).link).lost ≡ true → DownFollow (down_item (w.dials d).cid) (down_of (down_item (w.dials d).cid) (b.downs (w.dials d).link)) (for_link (w.dials d).link s.outs)

-- ---- lists
pub queued_all : (ps qs : List Packet) → queued true ps qs ≡ ps ++ qs
queued_all ps [] = sym (append-nil ps)
queued_all ps (q ∷ qs) = queued_all (ps ++ q ∷ []) qs ∙ append_assoc ps (q ∷ []) qs

pub out_queued : (item : Packet → OutItem) (there : Bool) (ps qs : List Packet) → out_ordered item ps ≡ true → (there ≡ true → OutFollow item (out_of item ps) qs) → out_ordered item (queued there ps qs) ≡ true
out_queued item true ps qs h f = ap (out_ordered item) (queued_all ps qs) ∙ out_order_follow item ps qs h (f refl)
out_queued item false ps qs h f = ap (out_ordered item) (dropped ps qs) ∙ h

pub down_queued : (item : Packet → DownItem) (there : Bool) (ps qs : List Packet) → down_ordered item ps ≡ true → (there ≡ true → DownFollow item (down_of item ps) qs) → down_ordered item (queued there ps qs) ≡ true
down_queued item true ps qs h f = ap (down_ordered item) (queued_all ps qs) ∙ down_order_follow item ps qs h (f refl)
down_queued item false ps qs h f = ap (down_ordered item) (dropped ps qs) ∙ h

pub in_rear : (item : Packet → InItem) (taken ps : List Packet) → in_ordered item (taken ++ ps) ≡ true → in_ordered item ps ≡ true
in_rear item [] ps h = h
in_rear item (p ∷ taken) ps h = in_rear item taken ps (in_order_rest item p (taken ++ ps) h)

pub up_rear : (item : Packet → UpItem) (taken ps : List Packet) → up_ordered item (taken ++ ps) ≡ true → up_ordered item ps ≡ true
up_rear item [] ps h = h
up_rear item (p ∷ taken) ps h = up_rear item taken ps (up_order_rest item p (taken ++ ps) h)

-- packets of others may follow anything, and among them one that may follow
pub others_follow : (item : Packet → OutItem) (v : Outward) (qs : List Packet) → Each (λ q. item q ≡ OtherOut) qs → OutFollow item v qs
others_follow item v [] h = tt
others_follow item v (q ∷ qs) h = rw h.0 (refl, others_follow item v qs h.1)

pub one_follows : (item : Packet → OutItem) (P : Packet → Type 0) → ((q : Packet) → P q → item q ≡ OtherOut) → (v : Outward) (p : Packet) (qs : List Packet) → out_follows v (item p) ≡ true → IsOne P p qs → OutFollow item v qs
one_follows item P quiet v p [] f h = absurd h
one_follows item P quiet v p (q ∷ qs) f (inl h) = (ap (λ x. out_follows v (item x)) h.0 ∙ f, others_follow item (out_snoc v (item q)) qs (each_as P (λ x. item x ≡ OtherOut) quiet qs h.1))
one_follows item P quiet v p (q ∷ qs) f (inr h) = rw (quiet q h.0) (refl, one_follows item P quiet v p qs f h.1)

pub others_down : (item : Packet → DownItem) (v : Downward) (qs : List Packet) → Each (λ q. item q ≡ OtherDown) qs → DownFollow item v qs
others_down item v [] h = tt
others_down item v (q ∷ qs) h = rw h.0 (refl, others_down item v qs h.1)

pub one_down : (item : Packet → DownItem) (P : Packet → Type 0) → ((q : Packet) → P q → item q ≡ OtherDown) → (v : Downward) (p : Packet) (qs : List Packet) → down_follows v (item p) ≡ true → IsOne P p qs → DownFollow item v qs
one_down item P quiet v p [] f h = absurd h
one_down item P quiet v p (q ∷ qs) f (inl h) = (ap (λ x. down_follows v (item x)) h.0 ∙ f, others_down item (down_snoc v (item q)) qs (each_as P (λ x. item x ≡ OtherDown) quiet qs h.1))
one_down item P quiet v p (q ∷ qs) f (inr h) = rw (quiet q h.0) (refl, one_down item P quiet v p qs f h.1)

-- ---- requests
asked_queued : (d n : ℕ) (there : Bool) (ps qs : List Packet) → Each (OfConnections n) qs → asked_at d (queued there ps qs) ≡ asked_at d ps
asked_queued d n there ps [] h = refl
asked_queued d n false ps (q ∷ qs) h = asked_queued d n false ps qs h.1
asked_queued d n true ps (q ∷ qs) h = asked_queued d n true (ps ++ q ∷ []) qs h.1 ∙ more ps q h.0
  where
    none : (q : Packet) → OfConnections n q → is_request d q ≡ false
    none (Data c error bytes) h = refl
    none (CloseReq c) h = refl
    none (DialReq protocol address random) h = absurd h
    none (DialRsp error c random) h = absurd h
    none (CloseRsp error c) h = absurd h
    none (DialCls random) h = absurd h
    none Drain h = absurd h
    none (Other number) h = absurd h

    more : (ps : List Packet) (q : Packet) → OfConnections n q → asked_at d (ps ++ q ∷ []) ≡ asked_at d ps
    more [] q h = rw (none q h) refl
    more (p ∷ ps) q h = ap (one_more (is_request d p)) (more ps q h)

pub asked_front : (d : ℕ) (left rest : List Packet) → asked_at d left ≤ asked_at d (left ++ rest)
asked_front d [] rest = omega arith
asked_front d (p ∷ left) rest = here (is_request d p) (asked_front d left rest)
  where
    here : (b : Bool) → asked_at d left ≤ asked_at d (left ++ rest) → one_more b (asked_at d left) ≤ one_more b (asked_at d (left ++ rest))
    here true h = omega (arith, h)
    here false h = h

module _ (w : World) (random : ℤ) (s : Step) (b : Before) (keys : Keys w) (calm : Calm w s b) where
  abbrev next : World
  next = world_after w random s b

  dial_same : (k : ℕ) → dial_after w random s k ≡ (w.apps k).dial
  dial_same k = calm.undrawn.made (w.apps k).stream _ (w.apps k).dial

  link_fits : (l : ℕ) (p : Packet) → OfConnections (w.agents l).next_connect_id p → FitsLink next l p
  link_fits l (Data c error bytes) h = (tt, h, tt)
  link_fits l (CloseReq c) h = (tt, h, tt)
  link_fits l (DialReq protocol address random) h = absurd h
  link_fits l (DialRsp error c random) h = absurd h
  link_fits l (CloseRsp error c) h = absurd h
  link_fits l (DialCls random) h = absurd h
  link_fits l Drain h = absurd h
  link_fits l (Other number) h = absurd h

  answer_fits : (f : ℕ) (p : Packet) → AnswerFits w f p → AnswerFits next f p
  answer_fits f (DialRsp [] c r) h = (h.0, λ k came on. ap (λ D. is_drawn_number D c) (dial_same k) ∙ h.1 k came on)
  answer_fits f (DialRsp (x ∷ xs) c r) h = h
  answer_fits f (DialReq protocol address random) h = tt
  answer_fits f (Data c error bytes) h = tt
  answer_fits f (CloseReq c) h = tt
  answer_fits f (CloseRsp error c) h = tt
  answer_fits f (DialCls random) h = tt
  answer_fits f Drain h = tt
  answer_fits f (Other number) h = tt

  awaited_fits : (d : ℕ) (e : AwaitedEntry) → AwaitedFits w d e → AwaitedFits next d e
  awaited_fits d e f = record {
    link = ap (λ (x : WorldDial). x.link) (calm.undrawn.new d (w.dials d)) ∙ f.link;
    front = λ k came h. f.front k came (sym (dial_same k) ∙ h);
    random = λ k came h. f.random k came (sym (dial_same k) ∙ h);
    app = λ k came on own. dial_same k ∙ f.app k came on own;
    has_app = (f.has_app.0, f.has_app.1, dial_same f.has_app.0 ∙ f.has_app.2);
  }

  held_fits : (d : ℕ) (e : HeldEntry) → HeldFits w d e → HeldFits next d e
  held_fits d e f = record {
    link = ap (λ (x : WorldDial). x.link) (calm.undrawn.new d (w.dials d)) ∙ f.link;
    cid = f.cid;
    drawn = ap (λ (x : WorldDial). x.cid) (calm.undrawn.new d (w.dials d)) ∙ f.drawn;
    named = f.named;
    front = λ k g came h ef. f.front k g came (sym (dial_same k) ∙ h) ef;
  }

  once : (d : ℕ) → asked_at d (next.links (next.dials d).link).down + made_at d (w.agents (next.dials d).link).dials ≤ 1
  once d = subst (λ (x : WorldDial). asked_at d (queued (not (w.agents x.link).lost) (b.downs x.link) (for_link x.link s.outs)) + made_at d (w.agents x.link).dials ≤ 1) (sym (calm.undrawn.new d (w.dials d))) here
    where
      here : asked_at d (queued (not (w.agents (w.dials d).link).lost) (b.downs (w.dials d).link) (for_link (w.dials d).link s.outs)) + made_at d (w.agents (w.dials d).link).dials ≤ 1
      here =
          let l = (w.dials d).link in
          let same : asked_at d (queued (not (w.agents l).lost) (b.downs l) (for_link l s.outs)) ≡ asked_at d (b.downs l) = asked_queued d (w.agents l).next_connect_id (not (w.agents l).lost) (b.downs l) (for_link l s.outs) (calm.to_links l) in
          let fewer : asked_at d (b.downs l) ≤ asked_at d (w.links l).down = subst (λ ps. asked_at d (b.downs l) ≤ asked_at d ps) (calm.remains.downs l).1 (asked_front d (b.downs l) (calm.remains.downs l).0) in
          let old : asked_at d (w.links l).down + made_at d (w.agents l).dials ≤ 1 = keys.agents.asked_once d in
          rw same (omega (arith, fewer, old))

  order : (k : ℕ) → (w.apps k).came ≡ true → InOrder next k
  order k came =
      let old = keys.ordered k came in let f = (w.apps k).stream in record {
        inward = subst (λ D. in_ordered (stream_in_item (w.streams f).connect (w.apps k).number D) (b.ins f) ≡ true) (sym (dial_same k))
            (in_rear (stream_in_item (w.streams f).connect (w.apps k).number (w.apps k).dial) (calm.remains.ins f).0 (b.ins f) (subst (λ ps. in_ordered (stream_in_item (w.streams f).connect (w.apps k).number (w.apps k).dial) ps ≡ true) (sym (calm.remains.ins f).1) old.inward));
        outward = subst (λ D. out_ordered (stream_out_item (w.streams f).connect (w.apps k).number D) (queued (w.streams f).client (b.outs f) (for_front f s.outs)) ≡ true) (sym (dial_same k))
            (out_queued (item_of w k) (w.streams f).client (b.outs f) (for_front f s.outs) (out_prefix_ordered (item_of w k) (b.outs f) (calm.remains.outs f).0 (subst (λ ps. out_ordered (item_of w k) ps ≡ true) (sym (calm.remains.outs f).1) old.outward)) (calm.outward k came));
        up = λ d de. subst (λ (x : WorldDial). up_ordered (up_item d x.cid) (cond (is_cut x.link s.outs) [] (b.ups x.link)) ≡ true) (sym (calm.undrawn.new d (w.dials d))) (up_kept d (old.up d (sym (dial_same k) ∙ de)));
        down = λ d de. subst (λ (x : WorldDial). down_ordered (down_item x.cid) (queued (not (w.agents x.link).lost) (b.downs x.link) (for_link x.link s.outs)) ≡ true) (sym (calm.undrawn.new d (w.dials d)))
            (down_kept d (sym (dial_same k) ∙ de) (old.down d (sym (dial_same k) ∙ de)));
      }
    where
      up_kept : (d : ℕ) → up_ordered (up_item d (w.dials d).cid) (w.links (w.dials d).link).up ≡ true → up_ordered (up_item d (w.dials d).cid) (cond (is_cut (w.dials d).link s.outs) [] (b.ups (w.dials d).link)) ≡ true
      up_kept d h = rw (calm.undrawn.uncut (w.dials d).link) (up_rear (up_item d (w.dials d).cid) (calm.remains.ups (w.dials d).link).0 (b.ups (w.dials d).link) (subst (λ ps. up_ordered (up_item d (w.dials d).cid) ps ≡ true) (sym (calm.remains.ups (w.dials d).link).1) h))

      down_kept : (d : ℕ) → (w.apps k).dial ≡ Some d → down_ordered (down_item (w.dials d).cid) (w.links (w.dials d).link).down ≡ true
          → down_ordered (down_item (w.dials d).cid) (queued (not (w.agents (w.dials d).link).lost) (b.downs (w.dials d).link) (for_link (w.dials d).link s.outs)) ≡ true
      down_kept d de h = down_queued (down_item (w.dials d).cid) (not (w.agents (w.dials d).link).lost) (b.downs (w.dials d).link) (for_link (w.dials d).link s.outs)
          (down_prefix_ordered (down_item (w.dials d).cid) (b.downs (w.dials d).link) (calm.remains.downs (w.dials d).link).0 (subst (λ ps. down_ordered (down_item (w.dials d).cid) ps ≡ true) (sym (calm.remains.downs (w.dials d).link).1) h)) (calm.down k d came de)

  pub calm_brings : Brings w random s b
  calm_brings = record {
    remains = calm.remains;
    orderly = calm.orderly;
    uncut = calm.undrawn.uncut;
    links = calm.links;
    fronts = calm.fronts;
    counts = let same = calm.number in omega (arith, same);
    awaited = λ d e h. awaited_fits d e (calm.awaited d e h);
    held = λ d e h. held_fits d e (calm.held d e h);
    same_dials = λ d h. calm.undrawn.new d (w.dials d);
    same_cids = λ d c h. sym (ap (λ (x : WorldDial). x.cid) (calm.undrawn.new d (w.dials d))) ∙ h;
    app_dials = λ k came. inl (dial_same k);
    one_new = λ j k cj ck nj nk. absurd (let old : None ≡ Some w.server.next_dial = sym nj.undrawn ∙ sym (dial_same j) ∙ nj.drawn in cc);
    to_links = λ l. each_as (OfConnections (w.agents l).next_connect_id) (FitsLink next l) (link_fits l) (for_link l s.outs) (calm.to_links l);
    to_fronts = λ f. each_as (FitsFront w f) (FitsFront next f) (λ p h. (subst (λ n. StreamOlder n p) (sym calm.number) h.0, λ c. answer_fits f p (h.1 c))) (for_front f s.outs) (calm.to_fronts f);
    asked_once = once;
    ordered = order;
  }

  pub calm_keeps : Lifts w next → Keys next
  calm_keeps lifts = brings_keep w random s b keys calm_brings lifts
