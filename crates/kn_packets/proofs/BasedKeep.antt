-- Lists of a link of which fronts or rears are left, and destinations that send, keep the facts on keys.
use Rattle.std.proofs.Common.{◌≡◌, ◌≤◌, ◌==◌, ◌+◌, ◌&&◌, ◌++◌, ℕ, ℤ, Bool, true, false, not, cond, List, [], ◌∷◌, length, is_some, refl, sym, ap, ◌∙◌, eqb-true, subst, append-nil, arith}
use Rattle.kn_packet.specs.declared.packet.Packet.{Packet}
use Rattle.kn_packet.specs.declared.packet.Packet.TheVariants.{CloseReq, CloseRsp, Data, DialCls, DialReq, DialRsp, Drain, Other}
use Rattle.kn_server_core.specs.Isolation.{Each}
use Rattle.kn_edge_core.specs.declared.dial.Dial.{Dial}
use Rattle.kn_tunnel.specs.Kinds.{is_gone}
use Rattle.kn_tunnel.specs.Tunnel.{Side}
use Rattle.kn_tunnel.proofs.AllSteps.{facts_followed}
use Rattle.kn_words.specs.Down.{down_item, down_ordered}
use Rattle.kn_words.specs.Up.{up_item, up_ordered}
use Rattle.kn_words.proofs.UpOrder.{up_prefix_ordered}
use Rattle.kn_packets.specs.Keys.{AgentKeys, AnswerFits, CidOlder, ClientKeys, InOrder, Keys, LinkOlder, MakesDial, ReplyFits, RequestFits, RequestOf, ServerKeys, asked_at, made_at}
use Rattle.kn_packets.specs.Lifts.{Lifts}
use Rattle.kn_packets.specs.Moves.{DestinationSends, DropsDown, DropsUp, after, sends, side_if}
use Rattle.kn_packets.specs.World.{World, tunnel}
use Rattle.kn_packets.proofs.AgentKept.{Parts, based, each_as, each_front, each_rear, rear_ordered}
use Rattle.kn_packets.proofs.AgentLosses.{down_drop_lifts, up_drop_lifts}
use Rattle.kn_packets.proofs.DestMoves.{sends_lift}
use Rattle.kn_packets.proofs.Fresh.{eqb_refl}

module _ (w : World) (l : ℕ) (U D : ℕ → List Packet) (S : ℕ → Side) (keys : Keys w) (parts : Parts w l U D) (fewer : (d : ℕ) → asked_at d (D l) ≤ asked_at d (w.links l).down) (sides : (d : ℕ) → (S d).unwritten ≡ (w.dials d).side.unwritten) where
  abbrev next : World
  next = based w U D S

  ups : (P : Packet → Type 0) (i : ℕ) → Each P (w.links i).up → Each P (U i)
  ups P i old = here (i == l) refl
    where
      here : (b : Bool) → (i == l) ≡ b → Each P (U i)
      here true on = let e : i ≡ l = eqb-true i l on in subst (λ j. Each P (U j)) (sym e) (each_front P (U l) parts.up.0 (subst (λ ps. Each P ps) (sym parts.up.1) (subst (λ j. Each P (w.links j).up) e old)))
      here false off = subst (λ ps. Each P ps) (sym (parts.up_other i off)) old

  downs : (P : Packet → Type 0) (i : ℕ) → Each P (w.links i).down → Each P (D i)
  downs P i old = here (i == l) refl
    where
      here : (b : Bool) → (i == l) ≡ b → Each P (D i)
      here true on = let e : i ≡ l = eqb-true i l on in subst (λ j. Each P (D j)) (sym e) (each_rear P parts.down.0 (D l) (subst (λ ps. Each P ps) (sym parts.down.1) (subst (λ j. Each P (w.links j).down) e old)))
      here false off = subst (λ ps. Each P ps) (sym (parts.down_other i off)) old

  server_kept : ServerKeys next
  server_kept = record {
    orderly = keys.server.orderly;
    from_one = keys.server.from_one;
    links_up = keys.server.links_up;
    fronts_up = keys.server.fronts_up;
    awaited = λ d e h. let f = keys.server.awaited d e h in record { link = f.link; front = f.front; random = f.random; app = f.app; has_app = f.has_app };
    held = λ d e h. let f = keys.server.held d e h in record { link = f.link; cid = f.cid; drawn = f.drawn; named = f.named; front = f.front };
    dials_older = keys.server.dials_older;
    ups_older = λ i. ups (LinkOlder w.server.next_dial) i (keys.server.ups_older i);
    downs_older = λ i. downs (LinkOlder w.server.next_dial) i (keys.server.downs_older i);
    agents_older = keys.server.agents_older;
    ins_older = keys.server.ins_older;
    outs_older = keys.server.outs_older;
  }

  makes : (i : ℕ) (r : ℤ) → MakesDial w i r → MakesDial next i r
  makes i r m = record { dial = m.dial; asked = m.asked; on = m.on; undrawn = m.undrawn; app = m.app }

  reply_kept : (i : ℕ) (p : Packet) → ReplyFits w i p → ReplyFits next i p
  reply_kept i (DialRsp [] c r) h = record { dial = h.dial; cid = h.cid; asked = h.asked; named = h.named; on = h.on; drawn = h.drawn }
  reply_kept i (DialRsp (x ∷ xs) c r) h = h
  reply_kept i (DialReq protocol address random) h = tt
  reply_kept i (Data c error bytes) h = tt
  reply_kept i (CloseReq c) h = tt
  reply_kept i (CloseRsp error c) h = tt
  reply_kept i (DialCls random) h = tt
  reply_kept i Drain h = tt
  reply_kept i (Other number) h = tt

  request_kept : (i : ℕ) (p : Packet) → RequestFits w i p → RequestFits next i p
  request_kept i (DialReq protocol address random) h = makes i random h
  request_kept i (DialRsp error c r) h = tt
  request_kept i (Data c error bytes) h = tt
  request_kept i (CloseReq c) h = tt
  request_kept i (CloseRsp error c) h = tt
  request_kept i (DialCls random) h = tt
  request_kept i Drain h = tt
  request_kept i (Other number) h = tt

  agents_kept : AgentKeys next
  agents_kept = record {
    cid_once = keys.agents.cid_once;
    cid_app = keys.agents.cid_app;
    replies = λ i. ups (ReplyFits next i) i (each_as (ReplyFits w i) (ReplyFits next i) (reply_kept i) (w.links i).up (keys.agents.replies i));
    cids_older = keys.agents.cids_older;
    ups_older = λ i. ups (CidOlder (w.agents i).next_connect_id) i (keys.agents.ups_older i);
    downs_older = λ i. downs (CidOlder (w.agents i).next_connect_id) i (keys.agents.downs_older i);
    connections_rise = keys.agents.connections_rise;
    connections_older = keys.agents.connections_older;
    unwritten = λ d c x h f. keys.agents.unwritten d c x h f ∙ sym (ap length (sides d));
    dials = λ i. each_as (λ (x : Dial). MakesDial w i x.random) (λ (x : Dial). MakesDial next i x.random) (λ x h. makes i x.random h) (w.agents i).dials (keys.agents.dials i);
    requests = λ i. downs (RequestFits next i) i (each_as (RequestFits w i) (RequestFits next i) (request_kept i) (w.links i).down (keys.agents.requests i));
    asked_once = λ d. once_kept d ((w.dials d).link == l) refl;
    lost = λ i h. let all = keys.agents.lost i h in (all.0, all.1, lost_kept i all.2 (i == l) refl);
  }
    where
      once_kept : (d : ℕ) (b : Bool) → ((w.dials d).link == l) ≡ b → asked_at d (D (w.dials d).link) + made_at d (w.agents (w.dials d).link).dials ≤ 1
      once_kept d true on =
          let e : (w.dials d).link ≡ l = eqb-true (w.dials d).link l on in
          let old : asked_at d (w.links l).down + made_at d (w.agents l).dials ≤ 1 = subst (λ j. asked_at d (w.links j).down + made_at d (w.agents j).dials ≤ 1) e (keys.agents.asked_once d) in
          let less : asked_at d (D l) ≤ asked_at d (w.links l).down = fewer d in
          let new : asked_at d (D l) + made_at d (w.agents l).dials ≤ 1 = omega (arith, old, less) in
          subst (λ j. asked_at d (D j) + made_at d (w.agents j).dials ≤ 1) (sym e) new
      once_kept d false off = subst (λ ps. asked_at d ps + made_at d (w.agents (w.dials d).link).dials ≤ 1) (sym (parts.down_other (w.dials d).link off)) (keys.agents.asked_once d)

      rear_none : (taken ps : List Packet) → taken ++ ps ≡ [] → ps ≡ []
      rear_none [] ps e = e
      rear_none (p ∷ taken) ps e = absurd cc

      lost_kept : (i : ℕ) → (w.links i).down ≡ [] → (b : Bool) → (i == l) ≡ b → D i ≡ []
      lost_kept i none true on = let e : i ≡ l = eqb-true i l on in subst (λ j. D j ≡ []) (sym e) (rear_none parts.down.0 (D l) (parts.down.1 ∙ ap (λ j. (w.links j).down) (sym e) ∙ none))
      lost_kept i none false off = parts.down_other i off ∙ none

  in_request_kept : (f : ℕ) (p : Packet) → RequestOf w f p → RequestOf next f p
  in_request_kept f (DialReq protocol address random) h = h
  in_request_kept f (DialRsp error c r) h = tt
  in_request_kept f (Data c error bytes) h = tt
  in_request_kept f (CloseReq c) h = tt
  in_request_kept f (CloseRsp error c) h = tt
  in_request_kept f (DialCls random) h = h
  in_request_kept f Drain h = tt
  in_request_kept f (Other number) h = tt

  answer_kept : (f : ℕ) (p : Packet) → AnswerFits w f p → AnswerFits next f p
  answer_kept f (DialRsp [] c r) h = h
  answer_kept f (DialRsp (x ∷ xs) c r) h = h
  answer_kept f (DialReq protocol address random) h = tt
  answer_kept f (Data c error bytes) h = tt
  answer_kept f (CloseReq c) h = tt
  answer_kept f (CloseRsp error c) h = tt
  answer_kept f (DialCls random) h = tt
  answer_kept f Drain h = tt
  answer_kept f (Other number) h = tt

  clients_kept : ClientKeys next
  clients_kept = record {
    begun = keys.clients.begun;
    unfinished = keys.clients.unfinished;
    alone = keys.clients.alone;
    apart = keys.clients.apart;
    connect_one = keys.clients.connect_one;
    connection = keys.clients.connection;
    connect_ins = keys.clients.connect_ins;
    requests = λ f. each_as (RequestOf w f) (RequestOf next f) (in_request_kept f) (w.streams f).up (keys.clients.requests f);
    answers = λ f c. each_as (AnswerFits w f) (AnswerFits next f) (answer_kept f) (w.streams f).down (keys.clients.answers f c);
    known = keys.clients.known;
    apps_rise = keys.clients.apps_rise;
    tops = keys.clients.tops;
    listed = λ k x came c f. let h = keys.clients.listed k x came c f in record { unwritten = h.unwritten; dial = h.dial };
    left = keys.clients.left;
    dials_once = keys.clients.dials_once;
  }

  order_kept : (k : ℕ) → (w.apps k).came ≡ true → InOrder next k
  order_kept k came =
      let old = keys.ordered k came in record {
        inward = old.inward;
        outward = old.outward;
        up = λ d de. up_kept d (old.up d de) ((w.dials d).link == l) refl;
        down = λ d de. down_kept d (old.down d de) ((w.dials d).link == l) refl;
      }
    where
      up_kept : (d : ℕ) → up_ordered (up_item d (w.dials d).cid) (w.links (w.dials d).link).up ≡ true → (b : Bool) → ((w.dials d).link == l) ≡ b → up_ordered (up_item d (w.dials d).cid) (U (w.dials d).link) ≡ true
      up_kept d h true on =
          let e : (w.dials d).link ≡ l = eqb-true (w.dials d).link l on in
          subst (λ j. up_ordered (up_item d (w.dials d).cid) (U j) ≡ true) (sym e)
          (up_prefix_ordered (up_item d (w.dials d).cid) (U l) parts.up.0 (subst (λ ps. up_ordered (up_item d (w.dials d).cid) ps ≡ true) (sym parts.up.1) (subst (λ j. up_ordered (up_item d (w.dials d).cid) (w.links j).up ≡ true) e h)))
      up_kept d h false off = subst (λ ps. up_ordered (up_item d (w.dials d).cid) ps ≡ true) (sym (parts.up_other (w.dials d).link off)) h

      down_kept : (d : ℕ) → down_ordered (down_item (w.dials d).cid) (w.links (w.dials d).link).down ≡ true → (b : Bool) → ((w.dials d).link == l) ≡ b → down_ordered (down_item (w.dials d).cid) (D (w.dials d).link) ≡ true
      down_kept d h true on =
          let e : (w.dials d).link ≡ l = eqb-true (w.dials d).link l on in
          subst (λ j. down_ordered (down_item (w.dials d).cid) (D j) ≡ true) (sym e)
          (rear_ordered (w.dials d).cid parts.down.0 (D l) (subst (λ ps. down_ordered (down_item (w.dials d).cid) ps ≡ true) (sym parts.down.1) (subst (λ j. down_ordered (down_item (w.dials d).cid) (w.links j).down ≡ true) e h)))
      down_kept d h false off = subst (λ ps. down_ordered (down_item (w.dials d).cid) ps ≡ true) (sym (parts.down_other (w.dials d).link off)) h

  pub based_keeps : Lifts w next → Keys next
  based_keeps lifts = record { server = server_kept; agents = agents_kept; clients = clients_kept; ordered = order_kept; facts = λ k came. facts_followed (tunnel w k) (tunnel next k) (lifts k came) (keys.facts k came) }

-- ---- the moves
up_dropped : (w : World) (l : ℕ) → Parts w l (λ i. cond (i == l) [] (w.links i).up) (λ i. (w.links i).down)
up_dropped w l = record { up_other = λ i h. rw h refl; down_other = λ i h. refl; up = ((w.links l).up, rw (eqb_refl l) refl); down = ([], refl) }

pub up_drop_keeps : (w : World) (l : ℕ) → Keys w → (not (is_gone (w.links l).server) && (w.agents l).lost) ≡ true → Keys (after (DropsUp l) w)
up_drop_keeps w l keys may = based_keeps w l (λ i. cond (i == l) [] (w.links i).up) (λ i. (w.links i).down) (λ d. (w.dials d).side) keys (up_dropped w l) (λ d. omega arith) (λ d. refl) (up_drop_lifts w l may)

down_dropped : (w : World) (l : ℕ) → Parts w l (λ i. (w.links i).up) (λ i. cond (i == l) [] (w.links i).down)
down_dropped w l = record { up_other = λ i h. refl; down_other = λ i h. rw h refl; up = ([], append-nil (w.links l).up); down = ((w.links l).down, rw (eqb_refl l) (append-nil (w.links l).down)) }

none_asked : (d : ℕ) (b : Bool) (ps : List Packet) → b ≡ true → asked_at d (cond b [] ps) ≤ asked_at d ps
none_asked d true ps e = omega arith
none_asked d false ps e = absurd cc

pub down_drop_keeps : (w : World) (l : ℕ) → Keys w → (is_gone (w.links l).server && not (w.agents l).lost) ≡ true → Keys (after (DropsDown l) w)
down_drop_keeps w l keys may = based_keeps w l (λ i. (w.links i).up) (λ i. cond (i == l) [] (w.links i).down) (λ d. (w.dials d).side) keys (down_dropped w l) (λ d. none_asked d (l == l) (w.links l).down (eqb_refl l)) (λ d. refl) (down_drop_lifts w l may)

same_lists : (w : World) (l : ℕ) → Parts w l (λ i. (w.links i).up) (λ i. (w.links i).down)
same_lists w l = record { up_other = λ i h. refl; down_other = λ i h. refl; up = ([], append-nil (w.links l).up); down = ([], refl) }

pub sends_keep : (w : World) (e : ℕ) (bytes : List ℕ) → Keys w → is_some (w.dials e).cid ≡ true → Keys (after (DestinationSends e bytes) w)
sends_keep w e bytes keys drawn = based_keeps w 0 (λ i. (w.links i).up) (λ i. (w.links i).down) (λ d. side_if (d == e) (sends bytes) (w.dials d).side) keys (same_lists w 0) (λ d. omega arith) (λ d. same (d == e) (w.dials d).side) (sends_lift w e bytes drawn)
  where
    same : (b : Bool) (s : Side) → (side_if b (sends bytes) s).unwritten ≡ s.unwritten
    same true s = refl
    same false s = refl
