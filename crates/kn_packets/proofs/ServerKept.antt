-- A step of the server keeps the facts on keys, by what it brings.
use Rattle.std.proofs.Common.{◌≡◌, ◌≤◌, ◌<◌, ◌+◌, ◌++◌, ◌&&◌, ◌||◌, ◌⊎◌, ℕ, ℤ, pos, negsuc, Bool, true, false, not, cond, List, [], ◌∷◌, length, Option, Some, None, inl, inr, refl, sym, ap, ◌∙◌, subst, arith}
use Rattle.kn_packet.specs.declared.packet.Packet.{Packet}
use Rattle.kn_packet.specs.declared.packet.Packet.TheVariants.{CloseReq, CloseRsp, Data, DialCls, DialReq, DialRsp, Drain, Other}
use Rattle.kn_route.specs.LinkLists.{has_link}
use Rattle.kn_tables.specs.Lists.{first_where}
use Rattle.kn_tables.specs.Awaiting.{is_dial}
use Rattle.kn_tables.specs.Holding.{is_held_dial}
use Rattle.kn_tables.specs.declared.awaited_entry.AwaitedEntry.{AwaitedEntry}
use Rattle.kn_tables.specs.declared.held_entry.HeldEntry.{HeldEntry}
use Rattle.kn_server_core.specs.FrontLists.{is_up}
use Rattle.kn_server_core.specs.Isolation.{Each, IsOrderly}
use Rattle.kn_server_core.specs.Steps.{Step}
use Rattle.kn_edge_core.specs.AgentTables.{is_connection}
use Rattle.kn_edge_core.specs.ClientTables.{is_app}
use Rattle.kn_edge_core.specs.declared.app.App.{App}
use Rattle.kn_edge_core.specs.declared.connection.Connection.{Connection}
use Rattle.kn_edge_core.specs.declared.dial.Dial.{Dial}
use Rattle.kn_tunnel.specs.Kinds.{has_left, is_present}
use Rattle.kn_tunnel.specs.Tunnel.{Front, Gone, Phase}
use Rattle.kn_tunnel.proofs.AllSteps.{facts_followed}
use Rattle.kn_words.specs.Numbers.{is_drawn_number, is_number}
use Rattle.kn_packets.specs.Keys.{AgentKeys, AnswerFits, AwaitedFits, CidOlder, ClientKeys, HasApp, HeldFits, InOrder, IsBelow, Keys, LinkOlder, ListedFits, MakesDial, OfConnection, ReplyFits, RequestFits, RequestOf, ServerKeys, StreamOlder, asked_at, made_at}
use Rattle.kn_packets.specs.Lifts.{Lifts}
use Rattle.kn_packets.specs.Moves.{IsFrontOf, new_dial, served}
use Rattle.kn_packets.specs.Outputs.{all_answered, all_finish, asks, dial_made, finishes, for_front, for_link, is_cut, queued}
use Rattle.kn_packets.specs.World.{World, WorldDial, tunnel}
use Rattle.kn_packets.proofs.AgentKept.{each_as, each_front, each_queued, each_rear}
use Rattle.kn_packets.proofs.Fresh.{not_named}

-- ---- the world in which the step is made: what the server has of links and fronts, and what is in the lists
pub record Before : Type 0 where
  pub links : ℕ → Front
  pub ups : ℕ → List Packet
  pub downs : ℕ → List Packet
  pub fronts : ℕ → Front
  pub ins : ℕ → List Packet
  pub outs : ℕ → List Packet

abbrev pub set : World → Before → World
set w b = record w {
  links = λ i. record (w.links i) { server = b.links i; up = b.ups i; down = b.downs i };
  streams = λ i. record (w.streams i) { front = b.fronts i; up = b.ins i; down = b.outs i };
}

-- of what comes to the server a rear is left, of what it sent a front
pub record Remains (w : World) (b : Before) : Type 0 where
  pub ups : (i : ℕ) → (taken : List Packet) × (taken ++ b.ups i ≡ (w.links i).up)
  pub downs : (i : ℕ) → IsFrontOf (b.downs i) (w.links i).down
  pub ins : (i : ℕ) → (taken : List Packet) × (taken ++ b.ins i ≡ (w.streams i).up)
  pub outs : (i : ℕ) → IsFrontOf (b.outs i) (w.streams i).down

abbrev pub world_after : World → ℤ → Step → Before → World
world_after w random s b = served random s (set w b)

-- ---- what the step brings
-- an app gets the dial that is drawn
abbrev pub dial_after : World → ℤ → Step → ℕ → Option ℕ
dial_after w random s k = dial_made (w.apps k).stream (asks (w.streams (w.apps k).stream).connect (w.apps k).number random) s.outs (w.apps k).dial

pub record IsNew (w : World) (random : ℤ) (s : Step) (k : ℕ) : Type 0 where
  pub undrawn : (w.apps k).dial ≡ None
  pub drawn : dial_after w random s k ≡ Some w.server.next_dial
  pub counted : w.server.next_dial < s.state.next_dial

-- a packet for a link, for a front
abbrev pub FitsLink : World → ℕ → Packet → Type 0
FitsLink new l p = LinkOlder new.server.next_dial p × CidOlder (new.agents l).next_connect_id p × RequestFits new l p

abbrev pub FitsFront : World → ℕ → Packet → Type 0
FitsFront new f p = StreamOlder new.server.next_dial p × ((new.streams f).connect ≡ false → AnswerFits new f p)

pub record Brings (w : World) (random : ℤ) (s : Step) (b : Before) : Type 0 where
  pub remains : Remains w b
  pub orderly : IsOrderly s.state
  pub uncut : (l : ℕ) → is_cut l s.outs ≡ false
  pub links : (l : ℕ) → has_link l s.state.links ≡ is_present (b.links l)
  pub fronts : (f : ℕ) → is_present (b.fronts f) ≡ true → is_up f s.state.fronts ≡ true
  pub counts : w.server.next_dial ≤ s.state.next_dial
  pub awaited : (d : ℕ) (e : AwaitedEntry) → first_where (is_dial d) s.state.awaited ≡ Some e → AwaitedFits (world_after w random s b) d e
  pub held : (d : ℕ) (e : HeldEntry) → first_where (is_held_dial d) s.state.held ≡ Some e → HeldFits (world_after w random s b) d e
  pub same_dials : (d : ℕ) → HasApp w d → new_dial d s.outs (w.dials d) ≡ w.dials d
  pub same_cids : (d c : ℕ) → (new_dial d s.outs (w.dials d)).cid ≡ Some c → (w.dials d).cid ≡ Some c
  pub app_dials : (k : ℕ) → (w.apps k).came ≡ true → (dial_after w random s k ≡ (w.apps k).dial) ⊎ IsNew w random s k
  pub one_new : (j k : ℕ) → (w.apps j).came ≡ true → (w.apps k).came ≡ true → IsNew w random s j → IsNew w random s k → j ≡ k
  pub to_links : (l : ℕ) → Each (FitsLink (world_after w random s b) l) (for_link l s.outs)
  pub to_fronts : (f : ℕ) → Each (FitsFront (world_after w random s b) f) (for_front f s.outs)
  pub asked_once : (d : ℕ) → asked_at d ((world_after w random s b).links ((world_after w random s b).dials d).link).down + made_at d (w.agents ((world_after w random s b).dials d).link).dials ≤ 1
  pub ordered : (k : ℕ) → (w.apps k).came ≡ true → InOrder (world_after w random s b) k

-- ---- a bound that rises
below_more : (m n : ℕ) → m ≤ n → (z : ℤ) → IsBelow m z → IsBelow n z
below_more m n h (pos x) k = omega (arith, h, k)
below_more m n h (negsuc x) k = tt

pub link_older_more : (m n : ℕ) → m ≤ n → (p : Packet) → LinkOlder m p → LinkOlder n p
link_older_more m n h (DialReq protocol address random) k = below_more m n h random k
link_older_more m n h (DialRsp error c random) k = below_more m n h random k
link_older_more m n h (Data c error bytes) k = tt
link_older_more m n h (CloseReq c) k = tt
link_older_more m n h (CloseRsp error c) k = tt
link_older_more m n h (DialCls random) k = tt
link_older_more m n h Drain k = tt
link_older_more m n h (Other number) k = tt

pub stream_older_more : (m n : ℕ) → m ≤ n → (p : Packet) → StreamOlder m p → StreamOlder n p
stream_older_more m n h (DialRsp error c random) k = below_more m n h c k
stream_older_more m n h (Data c error bytes) k = below_more m n h c k
stream_older_more m n h (CloseReq c) k = below_more m n h c k
stream_older_more m n h (CloseRsp error c) k = below_more m n h c k
stream_older_more m n h (DialReq protocol address random) k = tt
stream_older_more m n h (DialCls random) k = tt
stream_older_more m n h Drain k = tt
stream_older_more m n h (Other number) k = tt

-- ---- lists
pub each_two : {E : Type 0} (P Q R : E → Type 0) → ((x : E) → P x → Q x → R x) → (xs : List E) → Each P xs → Each Q xs → Each R xs
each_two P Q R f [] h k = tt
each_two P Q R f (x ∷ xs) h k = (f x h.0 k.0, each_two P Q R f xs h.1 k.1)

-- what goes to an end that lost the list is dropped
pub dropped : (ps qs : List Packet) → queued false ps qs ≡ ps
dropped ps [] = refl
dropped ps (q ∷ qs) = dropped ps qs

front_none : (left rest : List Packet) → left ++ rest ≡ [] → left ≡ []
front_none [] rest e = refl
front_none (p ∷ left) rest e = absurd cc

none_if_cut : (b : Bool) → b ≡ false → (xs : List Packet) → cond b [] xs ≡ xs
none_if_cut false e xs = refl
none_if_cut true e xs = absurd cc

module _ (w : World) (random : ℤ) (s : Step) (b : Before) (keys : Keys w) (brings : Brings w random s b) where
  abbrev next : World
  next = world_after w random s b

  up_is : (i : ℕ) → (next.links i).up ≡ b.ups i
  up_is i = none_if_cut (is_cut i s.outs) (brings.uncut i) (b.ups i)

  ups : (P : Packet → Type 0) (i : ℕ) → Each P (w.links i).up → Each P (next.links i).up
  ups P i old = subst (λ ps. Each P ps) (sym (up_is i)) (each_rear P (brings.remains.ups i).0 (b.ups i) (subst (λ ps. Each P ps) (sym (brings.remains.ups i).1) old))

  downs : (P : Packet → Type 0) (i : ℕ) → Each P (w.links i).down → Each P (for_link i s.outs) → Each P (next.links i).down
  downs P i old new = each_queued P (not (w.agents i).lost) (b.downs i) (for_link i s.outs) (each_front P (b.downs i) (brings.remains.downs i).0 (subst (λ ps. Each P ps) (sym (brings.remains.downs i).1) old)) new

  ins : (P : Packet → Type 0) (f : ℕ) → Each P (w.streams f).up → Each P (next.streams f).up
  ins P f old = each_rear P (brings.remains.ins f).0 (b.ins f) (subst (λ ps. Each P ps) (sym (brings.remains.ins f).1) old)

  outs : (P : Packet → Type 0) (f : ℕ) → Each P (w.streams f).down → Each P (for_front f s.outs) → Each P (next.streams f).down
  outs P f old new = each_queued P (w.streams f).client (b.outs f) (for_front f s.outs) (each_front P (b.outs f) (brings.remains.outs f).0 (subst (λ ps. Each P ps) (sym (brings.remains.outs f).1) old)) new

  -- ---- dials and their apps
  some_dial : (d e : ℕ) → Some d ≡ Some e → d ≡ e
  some_dial d e h = cc

  keeps_dial : (k d : ℕ) → (w.apps k).came ≡ true → (w.apps k).dial ≡ Some d → dial_after w random s k ≡ Some d
  keeps_dial k d came e = here (brings.app_dials k came)
    where
      here : (dial_after w random s k ≡ (w.apps k).dial) ⊎ IsNew w random s k → dial_after w random s k ≡ Some d
      here (inl same) = same ∙ e
      here (inr new) = let none : None ≡ Some d = sym new.undrawn ∙ e in absurd cc

  has_app : (d : ℕ) → HasApp w d → HasApp next d
  has_app d h = (h.0, h.1, keeps_dial h.0 d h.1 h.2)

  has_dial : (d c : ℕ) → (next.dials d).cid ≡ Some c → HasApp w d
  has_dial d c h = keys.agents.cid_app d c (brings.same_cids d c h)

  link_same : (d : ℕ) → HasApp w d → (next.dials d).link ≡ (w.dials d).link
  link_same d h = ap (λ (x : WorldDial). x.link) (brings.same_dials d h)

  cid_same : (d : ℕ) → HasApp w d → (next.dials d).cid ≡ (w.dials d).cid
  cid_same d h = ap (λ (x : WorldDial). x.cid) (brings.same_dials d h)

  older_dial : (k d : ℕ) → (w.apps k).came ≡ true → (w.apps k).dial ≡ Some d → d < s.state.next_dial
  older_dial k d came e = let old : d < w.server.next_dial = keys.server.dials_older k d came e in let more = brings.counts in omega (arith, old, more)

  -- ---- the server
  server_kept : ServerKeys next
  server_kept = record {
    orderly = brings.orderly;
    from_one = let one = keys.server.from_one in let more = brings.counts in omega (arith, one, more);
    links_up = λ l. brings.links l ∙ sym (present l (is_cut l s.outs) (brings.uncut l));
    fronts_up = brings.fronts;
    awaited = brings.awaited;
    held = brings.held;
    dials_older = λ k d came e. drawn_older k d came e (brings.app_dials k came);
    ups_older = λ i. ups (LinkOlder s.state.next_dial) i (each_as (LinkOlder w.server.next_dial) (LinkOlder s.state.next_dial) (link_older_more w.server.next_dial s.state.next_dial brings.counts) (w.links i).up (keys.server.ups_older i));
    downs_older = λ i. downs (LinkOlder s.state.next_dial) i (each_as (LinkOlder w.server.next_dial) (LinkOlder s.state.next_dial) (link_older_more w.server.next_dial s.state.next_dial brings.counts) (w.links i).down (keys.server.downs_older i))
        (each_as (FitsLink next i) (LinkOlder s.state.next_dial) (λ p h. h.0) (for_link i s.outs) (brings.to_links i));
    agents_older = λ i. each_as (λ (x : Dial). IsBelow w.server.next_dial x.random) (λ (x : Dial). IsBelow s.state.next_dial x.random) (λ x h. below_more w.server.next_dial s.state.next_dial brings.counts x.random h) (w.agents i).dials (keys.server.agents_older i);
    ins_older = λ f. ins (StreamOlder s.state.next_dial) f (each_as (StreamOlder w.server.next_dial) (StreamOlder s.state.next_dial) (stream_older_more w.server.next_dial s.state.next_dial brings.counts) (w.streams f).up (keys.server.ins_older f));
    outs_older = λ f. outs (StreamOlder s.state.next_dial) f (each_as (StreamOlder w.server.next_dial) (StreamOlder s.state.next_dial) (stream_older_more w.server.next_dial s.state.next_dial brings.counts) (w.streams f).down (keys.server.outs_older f))
        (each_as (FitsFront next f) (StreamOlder s.state.next_dial) (λ p h. h.0) (for_front f s.outs) (brings.to_fronts f));
  }
    where
      present : (l : ℕ) (c : Bool) → c ≡ false → is_present (cond c Gone (b.links l)) ≡ is_present (b.links l)
      present l false e = refl
      present l true e = absurd cc

      drawn_older : (k d : ℕ) → (w.apps k).came ≡ true → dial_after w random s k ≡ Some d → (dial_after w random s k ≡ (w.apps k).dial) ⊎ IsNew w random s k → d < s.state.next_dial
      drawn_older k d came e (inl same) = older_dial k d came (sym same ∙ e)
      drawn_older k d came e (inr new) = let it : w.server.next_dial ≡ d = some_dial w.server.next_dial d (sym new.drawn ∙ e) in subst (λ n. n < s.state.next_dial) it new.counted

  -- ---- the agents
  makes : (i : ℕ) (r : ℤ) → MakesDial w i r → MakesDial next i r
  makes i r m = record { dial = m.dial; asked = m.asked; on = link_same m.dial m.app ∙ m.on; undrawn = cid_same m.dial m.app ∙ m.undrawn; app = has_app m.dial m.app }

  reply_kept : (i : ℕ) (p : Packet) → ReplyFits w i p → ReplyFits next i p
  reply_kept i (DialRsp [] c r) h =
      let app = keys.agents.cid_app h.dial h.cid h.drawn in
      record { dial = h.dial; cid = h.cid; asked = h.asked; named = h.named; on = link_same h.dial app ∙ h.on; drawn = cid_same h.dial app ∙ h.drawn }
  reply_kept i (DialRsp (x ∷ xs) c r) h = h
  reply_kept i (DialReq protocol address random) h = tt
  reply_kept i (Data c error bytes) h = tt
  reply_kept i (CloseReq c) h = tt
  reply_kept i (CloseRsp error c) h = tt
  reply_kept i (DialCls random) h = tt
  reply_kept i Drain h = tt
  reply_kept i (Other number) h = tt

  request_kept : (i : ℕ) (p : Packet) → RequestFits w i p → RequestFits next i p
  request_kept i (DialReq protocol address random) h = makes i random h
  request_kept i (DialRsp error c r) h = tt
  request_kept i (Data c error bytes) h = tt
  request_kept i (CloseReq c) h = tt
  request_kept i (CloseRsp error c) h = tt
  request_kept i (DialCls random) h = tt
  request_kept i Drain h = tt
  request_kept i (Other number) h = tt

  agents_kept : AgentKeys next
  agents_kept = record {
    cid_once = λ d e c on h g. keys.agents.cid_once d e c (sym (link_same d (has_dial d c h)) ∙ on ∙ link_same e (has_dial e c g)) (brings.same_cids d c h) (brings.same_cids e c g);
    cid_app = λ d c h. has_app d (has_dial d c h);
    replies = λ i. ups (ReplyFits next i) i (each_as (ReplyFits w i) (ReplyFits next i) (reply_kept i) (w.links i).up (keys.agents.replies i));
    cids_older = λ d c h. subst (λ i. c < (w.agents i).next_connect_id) (sym (link_same d (has_dial d c h))) (keys.agents.cids_older d c (brings.same_cids d c h));
    ups_older = λ i. ups (CidOlder (w.agents i).next_connect_id) i (keys.agents.ups_older i);
    downs_older = λ i. downs (CidOlder (w.agents i).next_connect_id) i (keys.agents.downs_older i) (each_as (FitsLink next i) (CidOlder (w.agents i).next_connect_id) (λ p h. h.1) (for_link i s.outs) (brings.to_links i));
    connections_rise = keys.agents.connections_rise;
    connections_older = keys.agents.connections_older;
    unwritten = λ d c x h f. unwritten_kept d c x h f;
    dials = λ i. each_as (λ (x : Dial). MakesDial w i x.random) (λ (x : Dial). MakesDial next i x.random) (λ x h. makes i x.random h) (w.agents i).dials (keys.agents.dials i);
    requests = λ i. downs (RequestFits next i) i (each_as (RequestFits w i) (RequestFits next i) (request_kept i) (w.links i).down (keys.agents.requests i)) (each_as (FitsLink next i) (RequestFits next i) (λ p h. h.2) (for_link i s.outs) (brings.to_links i));
    asked_once = brings.asked_once;
    lost = λ i h. let all = keys.agents.lost i h in (all.0, all.1, nothing_down i h all.2);
  }
    where
      unwritten_kept : (d c : ℕ) (x : Connection) → (next.dials d).cid ≡ Some c → first_where (is_connection c) (w.agents (next.dials d).link).connections ≡ Some x → x.unwritten ≡ length (next.dials d).side.unwritten
      unwritten_kept d c x h f =
          let same = brings.same_dials d (has_dial d c h) in
          keys.agents.unwritten d c x (brings.same_cids d c h) (subst (λ (y : WorldDial). first_where (is_connection c) (w.agents y.link).connections ≡ Some x) same f) ∙ ap (λ (y : WorldDial). length y.side.unwritten) (sym same)

      nothing_down : (i : ℕ) → (w.agents i).lost ≡ true → (w.links i).down ≡ [] → (next.links i).down ≡ []
      nothing_down i h none = ap (λ c. queued (not c) (b.downs i) (for_link i s.outs)) h ∙ dropped (b.downs i) (for_link i s.outs) ∙ front_none (b.downs i) (brings.remains.downs i).0 ((brings.remains.downs i).1 ∙ none)

  -- ---- the clients
  in_request_kept : (f : ℕ) (p : Packet) → RequestOf w f p → RequestOf next f p
  in_request_kept f (DialReq protocol address random) h = h
  in_request_kept f (DialRsp error c r) h = tt
  in_request_kept f (Data c error bytes) h = tt
  in_request_kept f (CloseReq c) h = tt
  in_request_kept f (CloseRsp error c) h = tt
  in_request_kept f (DialCls random) h = h
  in_request_kept f Drain h = tt
  in_request_kept f (Other number) h = tt

  -- a reply that is on its way is not of the dial that is drawn
  answer_kept : (f : ℕ) (p : Packet) → AnswerFits w f p → StreamOlder w.server.next_dial p → AnswerFits next f p
  answer_kept f (DialRsp [] c r) h older = (h.0, λ k came on. here k (brings.app_dials k came) (h.1 k came on))
    where
      here : (k : ℕ) → (dial_after w random s k ≡ (w.apps k).dial) ⊎ IsNew w random s k → is_drawn_number (w.apps k).dial c ≡ is_number (w.apps k).number r → is_drawn_number (dial_after w random s k) c ≡ is_number (w.apps k).number r
      here k (inl same) fits = ap (λ D. is_drawn_number D c) same ∙ fits
      here k (inr new) fits = ap (λ D. is_drawn_number D c) new.drawn ∙ not_named w.server.next_dial c older ∙ sym (ap (λ D. is_drawn_number D c) new.undrawn) ∙ fits
  answer_kept f (DialRsp (x ∷ xs) c r) h older = h
  answer_kept f (DialReq protocol address random) h older = tt
  answer_kept f (Data c error bytes) h older = tt
  answer_kept f (CloseReq c) h older = tt
  answer_kept f (CloseRsp error c) h older = tt
  answer_kept f (DialCls random) h older = tt
  answer_kept f Drain h older = tt
  answer_kept f (Other number) h older = tt

  unfinished : (ps : List Packet) (c finished : Bool) → c ≡ false → finished ≡ false → all_finish c ps finished ≡ false
  unfinished [] c finished e h = h
  unfinished (p ∷ ps) c finished e h = unfinished ps c (finished || (finishes p && c)) e (rw (h, e) (none (finishes p)))
    where
      none : (b : Bool) → (false || (b && false)) ≡ false
      none true = refl
      none false = refl

  clients_kept : ClientKeys next
  clients_kept = record {
    begun = keys.clients.begun;
    unfinished = λ f c. unfinished (for_front f s.outs) (w.streams f).connect (w.streams f).finished c (keys.clients.unfinished f c);
    alone = keys.clients.alone;
    apart = keys.clients.apart;
    connect_one = keys.clients.connect_one;
    connection = keys.clients.connection;
    connect_ins = λ f c. ins OfConnection f (keys.clients.connect_ins f c);
    requests = λ f. ins (RequestOf next f) f (each_as (RequestOf w f) (RequestOf next f) (in_request_kept f) (w.streams f).up (keys.clients.requests f));
    answers = λ f c. outs (AnswerFits next f) f (each_two (AnswerFits w f) (StreamOlder w.server.next_dial) (AnswerFits next f) (answer_kept f) (w.streams f).down (keys.clients.answers f c) (keys.server.outs_older f))
        (each_as (FitsFront next f) (AnswerFits next f) (λ p h. h.1 c) (for_front f s.outs) (brings.to_fronts f));
    known = keys.clients.known;
    apps_rise = keys.clients.apps_rise;
    tops = keys.clients.tops;
    listed = λ k x came c f. listed_kept k x came (keys.clients.listed k x came c f);
    left = λ k came c f. left_kept k came c f;
    dials_once = λ j k d cj ck hj hk. once j k d cj ck hj hk (brings.app_dials j cj) (brings.app_dials k ck);
  }
    where
      listed_kept : (k : ℕ) (x : App) → (w.apps k).came ≡ true → ListedFits w k x → ListedFits next k x
      listed_kept k x came h = record { unwritten = h.unwritten; dial = λ e. let it = h.dial e in (it.0, keeps_dial k it.0 came it.1, it.2) }

      left_kept : (k : ℕ) → (w.apps k).came ≡ true → (w.streams (w.apps k).stream).connect ≡ false → first_where (is_app (w.apps k).number) (w.clients (w.streams (w.apps k).stream).owner).apps ≡ None → has_left (next.apps k).phase ≡ true
      left_kept k came c f = ap has_left (still (for_front (w.apps k).stream s.outs) (w.streams (w.apps k).stream).connect (w.apps k).phase c) ∙ keys.clients.left k came c f
        where
          still : (ps : List Packet) (c : Bool) (phase : Phase) → c ≡ false → all_answered c ps phase ≡ phase
          still [] c phase e = refl
          still (p ∷ ps) true phase e = absurd cc
          still (p ∷ ps) false phase e = still ps false phase e

      never : (k d : ℕ) → (w.apps k).came ≡ true → (w.apps k).dial ≡ Some d → w.server.next_dial ≡ d → ⊥
      never k d came e same = let old : d < w.server.next_dial = keys.server.dials_older k d came e in omega (arith, old, same)

      once : (j k d : ℕ) → (w.apps j).came ≡ true → (w.apps k).came ≡ true → dial_after w random s j ≡ Some d → dial_after w random s k ≡ Some d → (dial_after w random s j ≡ (w.apps j).dial) ⊎ IsNew w random s j
          → (dial_after w random s k ≡ (w.apps k).dial) ⊎ IsNew w random s k → j ≡ k
      once j k d cj ck hj hk (inl a) (inl c) = keys.clients.dials_once j k d cj ck (sym a ∙ hj) (sym c ∙ hk)
      once j k d cj ck hj hk (inl a) (inr c) = absurd (never j d cj (sym a ∙ hj) (some_dial w.server.next_dial d (sym c.drawn ∙ hk)))
      once j k d cj ck hj hk (inr a) (inl c) = absurd (never k d ck (sym c ∙ hk) (some_dial w.server.next_dial d (sym a.drawn ∙ hj)))
      once j k d cj ck hj hk (inr a) (inr c) = brings.one_new j k cj ck a c

  pub brings_keep : Lifts w next → Keys next
  brings_keep lifts = record {
    server = server_kept;
    agents = agents_kept;
    clients = clients_kept;
    ordered = brings.ordered;
    facts = λ k came. facts_followed (tunnel w k) (tunnel next k) (lifts k came) (keys.facts k came);
  }
