-- A step of an agent that draws no connectID keeps the facts on keys.
use Rattle.std.proofs.Common.{◌≡◌, ◌≤◌, ◌<◌, ◌==◌, ◌+◌, ◌++◌, ℕ, ℤ, Bool, true, false, not, cond, List, [], ◌∷◌, length, Option, Some, None, refl, sym, ap, ◌∙◌, eqb-true, subst}
use Rattle.kn_packet.specs.declared.packet.Packet.{Packet}
use Rattle.kn_packet.specs.declared.packet.Packet.TheVariants.{CloseReq, CloseRsp, Data, DialCls, DialReq, DialRsp, Drain, Other}
use Rattle.kn_tables.specs.Lists.{IsRising, first_where}
use Rattle.kn_server_core.specs.Isolation.{Each}
use Rattle.kn_edge_core.specs.AgentTables.{is_connection}
use Rattle.kn_edge_core.specs.Steps.{AgentStep}
use Rattle.kn_edge_core.specs.declared.agent_state.AgentState.{AgentState}
use Rattle.kn_edge_core.specs.declared.connection.Connection.{Connection}
use Rattle.kn_edge_core.specs.declared.dial.Dial.{Dial}
use Rattle.kn_tunnel.specs.Kinds.{is_gone}
use Rattle.kn_tunnel.specs.Tunnel.{Side}
use Rattle.kn_tunnel.proofs.AllSteps.{facts_followed}
use Rattle.kn_words.specs.Down.{down_item, down_ordered}
use Rattle.kn_words.specs.Up.{up_item, up_ordered}
use Rattle.kn_words.proofs.DownOrder.{down_order_rest}
use Rattle.kn_packets.specs.Keys.{AgentKeys, AnswerFits, CidOlder, ClientKeys, InOrder, IsBelow, Keys, LinkOlder, MakesDial, ReplyFits, RequestFits, RequestOf, ServerKeys, asked_at, made_at}
use Rattle.kn_packets.specs.Lifts.{Lifts}
use Rattle.kn_packets.specs.Moves.{agent_stepped, dest_after}
use Rattle.kn_packets.specs.Outputs.{cid_drawn, from_agent, queued}
use Rattle.kn_packets.specs.World.{World, tunnel}

-- ---- what is known of each
pub each_front : {E : Type 0} (P : E → Type 0) (xs ys : List E) → Each P (xs ++ ys) → Each P xs
each_front P [] ys h = tt
each_front P (x ∷ xs) ys h = (h.0, each_front P xs ys h.1)

pub each_rear : {E : Type 0} (P : E → Type 0) (xs ys : List E) → Each P (xs ++ ys) → Each P ys
each_rear P [] ys h = h
each_rear P (x ∷ xs) ys h = each_rear P xs ys h.1

pub each_more : {E : Type 0} (P : E → Type 0) (xs : List E) (y : E) → Each P xs → P y → Each P (xs ++ y ∷ [])
each_more P [] y h k = (k, tt)
each_more P (x ∷ xs) y h k = (h.0, each_more P xs y h.1 k)

pub each_queued : (P : Packet → Type 0) (b : Bool) (ps qs : List Packet) → Each P ps → Each P qs → Each P (queued b ps qs)
each_queued P b ps [] h k = h
each_queued P true ps (q ∷ qs) h k = each_queued P true (ps ++ q ∷ []) qs (each_more P ps q h k.0) k.1
each_queued P false ps (q ∷ qs) h k = each_queued P false ps qs h k.1

pub each_as : {E : Type 0} (P Q : E → Type 0) → ((x : E) → P x → Q x) → (xs : List E) → Each P xs → Each Q xs
each_as P Q f [] h = tt
each_as P Q f (x ∷ xs) h = (f x h.0, each_as P Q f xs h.1)

-- ---- the world in which the step is made: of the lists of its link fronts and rears are left, and destinations have handed or got bytes
abbrev pub based : World → (ℕ → List Packet) → (ℕ → List Packet) → (ℕ → Side) → World
based w U D S = record w { links = λ i. record (w.links i) { up = U i; down = D i }; dials = λ d. record (w.dials d) { side = S d } }

pub record Parts (w : World) (l : ℕ) (U D : ℕ → List Packet) : Type 0 where
  pub up_other : (i : ℕ) → (i == l) ≡ false → U i ≡ (w.links i).up
  pub down_other : (i : ℕ) → (i == l) ≡ false → D i ≡ (w.links i).down
  pub up : (rest : List Packet) × (U l ++ rest ≡ (w.links l).up)
  pub down : (taken : List Packet) × (taken ++ D l ≡ (w.links l).down)

-- a packet that an agent sends
abbrev pub Told : World → ℕ → Packet → Type 0
Told w l p = LinkOlder w.server.next_dial p × ReplyFits w l p × CidOlder (w.agents l).next_connect_id p

-- a dial that an agent makes
abbrev pub Made : World → ℕ → Dial → Type 0
Made w l x = MakesDial w l x.random × IsBelow w.server.next_dial x.random

pub record Calm (w : World) (l : ℕ) (s : AgentStep) (U D : ℕ → List Packet) (S : ℕ → Side) : Type 0 where
  pub parts : Parts w l U D
  pub sides : (d : ℕ) → ((w.dials d).link == l) ≡ false → S d ≡ (w.dials d).side
  pub draws : (d : ℕ) → (w.dials d).link ≡ l → cid_drawn d (from_agent s.outs) (w.dials d).cid ≡ (w.dials d).cid
  pub number : s.state.next_connect_id ≡ (w.agents l).next_connect_id
  pub told : Each (Told w l) (from_agent s.outs)
  pub rise : IsRising (λ (x : Connection). x.connect_id) s.state.connections
  pub older : (n : ℕ) → (w.agents l).next_connect_id ≤ n → first_where (is_connection n) s.state.connections ≡ None
  pub unwritten : (d c : ℕ) (x : Connection) → (w.dials d).link ≡ l → (w.dials d).cid ≡ Some c → first_where (is_connection c) s.state.connections ≡ Some x → x.unwritten ≡ length (dest_after true (w.dials d).cid s (S d)).unwritten
  pub dials : Each (Made w l) s.state.dials
  pub once : (d : ℕ) → (w.dials d).link ≡ l → asked_at d (D l) + made_at d s.state.dials ≤ 1
  pub lost : s.state.lost ≡ true → (s.state.dials ≡ []) × (s.state.connections ≡ []) × (D l ≡ [])
  pub order : (k d : ℕ) → (w.apps k).came ≡ true → (w.apps k).dial ≡ Some d → (w.dials d).link ≡ l → up_ordered (up_item d (w.dials d).cid) (queued (not (is_gone (w.links l).server)) (U l) (from_agent s.outs)) ≡ true

pub rear_ordered : (cid : Option ℕ) (taken ps : List Packet) → down_ordered (down_item cid) (taken ++ ps) ≡ true → down_ordered (down_item cid) ps ≡ true
rear_ordered cid [] ps h = h
rear_ordered cid (p ∷ taken) ps h = rear_ordered cid taken ps (down_order_rest (down_item cid) p (taken ++ ps) h)

module _ (w : World) (l : ℕ) (s : AgentStep) (U D : ℕ → List Packet) (S : ℕ → Side) (keys : Keys w) (calm : Calm w l s U D S) where
  abbrev next : World
  next = agent_stepped l s (based w U D S)

  ups : (P : Packet → Type 0) (i : ℕ) → Each P (w.links i).up → (i ≡ l → Each P (from_agent s.outs)) → Each P (next.links i).up
  ups P i old told = here (i == l) refl
    where
      left : i ≡ l → Each P (U i)
      left e = subst (λ j. Each P (U j)) (sym e) (each_front P (U l) calm.parts.up.0 (subst (λ ps. Each P ps) (sym calm.parts.up.1) (subst (λ j. Each P (w.links j).up) e old)))

      here : (b : Bool) → (i == l) ≡ b → Each P (cond b (queued (not (is_gone (w.links i).server)) (U i) (from_agent s.outs)) (U i))
      here true on = let e : i ≡ l = eqb-true i l on in each_queued P (not (is_gone (w.links i).server)) (U i) (from_agent s.outs) (left e) (told e)
      here false off = subst (λ ps. Each P ps) (sym (calm.parts.up_other i off)) old

  downs : (P : Packet → Type 0) (i : ℕ) → Each P (w.links i).down → Each P (D i)
  downs P i old = here (i == l) refl
    where
      here : (b : Bool) → (i == l) ≡ b → Each P (D i)
      here true on =
          let e : i ≡ l = eqb-true i l on in
          subst (λ j. Each P (D j)) (sym e) (each_rear P calm.parts.down.0 (D l) (subst (λ ps. Each P ps) (sym calm.parts.down.1) (subst (λ j. Each P (w.links j).down) e old)))
      here false off = subst (λ ps. Each P ps) (sym (calm.parts.down_other i off)) old

  at_agent : (Q : AgentState → Type 0) (i : ℕ) → Q (w.agents i) → (i ≡ l → Q s.state) → Q (next.agents i)
  at_agent Q i old new = here (i == l) refl
    where
      here : (b : Bool) → (i == l) ≡ b → Q (cond b s.state (w.agents i))
      here true on = new (eqb-true i l on)
      here false off = old

  cid_same : (d : ℕ) → (next.dials d).cid ≡ (w.dials d).cid
  cid_same d = here ((w.dials d).link == l) refl
    where
      here : (b : Bool) → ((w.dials d).link == l) ≡ b → cond b (cid_drawn d (from_agent s.outs) (w.dials d).cid) (w.dials d).cid ≡ (w.dials d).cid
      here true on = calm.draws d (eqb-true (w.dials d).link l on)
      here false off = refl

  number_same : (i : ℕ) → (next.agents i).next_connect_id ≡ (w.agents i).next_connect_id
  number_same i = at_agent (λ a. a.next_connect_id ≡ (w.agents i).next_connect_id) i refl (λ e. calm.number ∙ ap (λ j. (w.agents j).next_connect_id) (sym e))

  -- ---- the server
  server_kept : ServerKeys next
  server_kept = record {
    orderly = keys.server.orderly;
    from_one = keys.server.from_one;
    links_up = keys.server.links_up;
    fronts_up = keys.server.fronts_up;
    awaited = λ d e h. let f = keys.server.awaited d e h in record { link = f.link; front = f.front; random = f.random; app = f.app; has_app = f.has_app };
    held = λ d e h. let f = keys.server.held d e h in record { link = f.link; cid = f.cid; drawn = cid_same d ∙ f.drawn; named = f.named; front = f.front };
    dials_older = keys.server.dials_older;
    ups_older = λ i. ups (LinkOlder w.server.next_dial) i (keys.server.ups_older i) (λ e. each_as (Told w l) (LinkOlder w.server.next_dial) (λ p h. h.0) (from_agent s.outs) calm.told);
    downs_older = λ i. downs (LinkOlder w.server.next_dial) i (keys.server.downs_older i);
    agents_older = λ i. at_agent (λ a. Each (λ (x : Dial). IsBelow w.server.next_dial x.random) a.dials) i (keys.server.agents_older i)
        (λ e. each_as (Made w l) (λ (x : Dial). IsBelow w.server.next_dial x.random) (λ x h. h.1) s.state.dials calm.dials);
    ins_older = keys.server.ins_older;
    outs_older = keys.server.outs_older;
  }

  -- ---- the agents
  makes : (i : ℕ) (r : ℤ) → MakesDial w i r → MakesDial next i r
  makes i r m = record { dial = m.dial; asked = m.asked; on = m.on; undrawn = cid_same m.dial ∙ m.undrawn; app = m.app }

  reply_kept : (i : ℕ) (p : Packet) → ReplyFits w i p → ReplyFits next i p
  reply_kept i (DialRsp [] c r) h = record { dial = h.dial; cid = h.cid; asked = h.asked; named = h.named; on = h.on; drawn = cid_same h.dial ∙ h.drawn }
  reply_kept i (DialRsp (x ∷ xs) c r) h = h
  reply_kept i (DialReq protocol address random) h = tt
  reply_kept i (Data c error bytes) h = tt
  reply_kept i (CloseReq c) h = tt
  reply_kept i (CloseRsp error c) h = tt
  reply_kept i (DialCls random) h = tt
  reply_kept i Drain h = tt
  reply_kept i (Other number) h = tt

  request_kept : (i : ℕ) (p : Packet) → RequestFits w i p → RequestFits next i p
  request_kept i (DialReq protocol address random) h = makes i random h
  request_kept i (DialRsp error c r) h = tt
  request_kept i (Data c error bytes) h = tt
  request_kept i (CloseReq c) h = tt
  request_kept i (CloseRsp error c) h = tt
  request_kept i (DialCls random) h = tt
  request_kept i Drain h = tt
  request_kept i (Other number) h = tt

  agents_kept : AgentKeys next
  agents_kept = record {
    cid_once = λ d e c on h g. keys.agents.cid_once d e c on (sym (cid_same d) ∙ h) (sym (cid_same e) ∙ g);
    cid_app = λ d c h. keys.agents.cid_app d c (sym (cid_same d) ∙ h);
    replies = λ i. ups (ReplyFits next i) i (each_as (ReplyFits w i) (ReplyFits next i) (reply_kept i) (w.links i).up (keys.agents.replies i))
        (λ e. subst (λ j. Each (ReplyFits next j) (from_agent s.outs)) (sym e) (each_as (Told w l) (ReplyFits next l) (λ p h. reply_kept l p h.1) (from_agent s.outs) calm.told));
    cids_older = λ d c h. subst (λ n. c < n) (sym (number_same (w.dials d).link)) (keys.agents.cids_older d c (sym (cid_same d) ∙ h));
    ups_older = λ i. subst (λ n. Each (CidOlder n) (next.links i).up) (sym (number_same i)) (ups (CidOlder (w.agents i).next_connect_id) i (keys.agents.ups_older i)
        (λ e. subst (λ j. Each (CidOlder (w.agents j).next_connect_id) (from_agent s.outs)) (sym e) (each_as (Told w l) (CidOlder (w.agents l).next_connect_id) (λ p h. h.2) (from_agent s.outs) calm.told)));
    downs_older = λ i. subst (λ n. Each (CidOlder n) (D i)) (sym (number_same i)) (downs (CidOlder (w.agents i).next_connect_id) i (keys.agents.downs_older i));
    connections_rise = λ i. at_agent (λ a. IsRising (λ (x : Connection). x.connect_id) a.connections) i (keys.agents.connections_rise i) (λ e. calm.rise);
    connections_older = λ i n. at_agent (λ a. a.next_connect_id ≤ n → first_where (is_connection n) a.connections ≡ None) i (keys.agents.connections_older i n) (λ e h. calm.older n (subst (λ m. m ≤ n) calm.number h));
    unwritten = λ d c x h f. unwritten_kept d c x (sym (cid_same d) ∙ h) ((w.dials d).link == l) refl f;
    dials = λ i. at_agent (λ a. Each (λ (x : Dial). MakesDial next i x.random) a.dials) i
        (each_as (λ (x : Dial). MakesDial w i x.random) (λ (x : Dial). MakesDial next i x.random) (λ x h. makes i x.random h) (w.agents i).dials (keys.agents.dials i))
        (λ e. subst (λ j. Each (λ (x : Dial). MakesDial next j x.random) s.state.dials) (sym e) (each_as (Made w l) (λ (x : Dial). MakesDial next l x.random) (λ x h. makes l x.random h.0) s.state.dials calm.dials));
    requests = λ i. downs (RequestFits next i) i (each_as (RequestFits w i) (RequestFits next i) (request_kept i) (w.links i).down (keys.agents.requests i));
    asked_once = λ d. once_kept d ((w.dials d).link == l) refl;
    lost = λ i. at_agent (λ a. a.lost ≡ true → (a.dials ≡ []) × (a.connections ≡ []) × (D i ≡ [])) i (λ h. lost_other i h (keys.agents.lost i h) (i == l) refl) (λ e h. subst (λ j. (s.state.dials ≡ []) × (s.state.connections ≡ []) × (D j ≡ [])) (sym e) (calm.lost h));
  }
    where
      unwritten_kept : (d c : ℕ) (x : Connection) → (w.dials d).cid ≡ Some c → (b : Bool) → ((w.dials d).link == l) ≡ b → first_where (is_connection c) (cond b s.state (w.agents (w.dials d).link)).connections ≡ Some x
          → x.unwritten ≡ length (dest_after b (w.dials d).cid s (S d)).unwritten
      unwritten_kept d c x h true on f = calm.unwritten d c x (eqb-true (w.dials d).link l on) h f
      unwritten_kept d c x h false off f = keys.agents.unwritten d c x h f ∙ ap (λ (z : Side). length z.unwritten) (sym (calm.sides d off))

      once_kept : (d : ℕ) (b : Bool) → ((w.dials d).link == l) ≡ b → asked_at d (D (w.dials d).link) + made_at d (cond b s.state (w.agents (w.dials d).link)).dials ≤ 1
      once_kept d true on = let e : (w.dials d).link ≡ l = eqb-true (w.dials d).link l on in subst (λ j. asked_at d (D j) + made_at d s.state.dials ≤ 1) (sym e) (calm.once d e)
      once_kept d false off = subst (λ ps. asked_at d ps + made_at d (w.agents (w.dials d).link).dials ≤ 1) (sym (calm.parts.down_other (w.dials d).link off)) (keys.agents.asked_once d)

      rear_none : (taken ps : List Packet) → taken ++ ps ≡ [] → ps ≡ []
      rear_none [] ps e = e
      rear_none (p ∷ taken) ps e = absurd cc

      lost_other : (i : ℕ) → (w.agents i).lost ≡ true → ((w.agents i).dials ≡ []) × ((w.agents i).connections ≡ []) × ((w.links i).down ≡ []) → (b : Bool) → (i == l) ≡ b → ((w.agents i).dials ≡ []) × ((w.agents i).connections ≡ []) × (D i ≡ [])
      lost_other i h all true on =
          let e : i ≡ l = eqb-true i l on in
          (all.0, all.1, subst (λ j. D j ≡ []) (sym e) (rear_none calm.parts.down.0 (D l) (calm.parts.down.1 ∙ ap (λ j. (w.links j).down) (sym e) ∙ all.2)))
      lost_other i h all false off = (all.0, all.1, calm.parts.down_other i off ∙ all.2)

  -- ---- the clients
  in_request_kept : (f : ℕ) (p : Packet) → RequestOf w f p → RequestOf next f p
  in_request_kept f (DialReq protocol address random) h = h
  in_request_kept f (DialRsp error c r) h = tt
  in_request_kept f (Data c error bytes) h = tt
  in_request_kept f (CloseReq c) h = tt
  in_request_kept f (CloseRsp error c) h = tt
  in_request_kept f (DialCls random) h = h
  in_request_kept f Drain h = tt
  in_request_kept f (Other number) h = tt

  answer_kept : (f : ℕ) (p : Packet) → AnswerFits w f p → AnswerFits next f p
  answer_kept f (DialRsp [] c r) h = h
  answer_kept f (DialRsp (x ∷ xs) c r) h = h
  answer_kept f (DialReq protocol address random) h = tt
  answer_kept f (Data c error bytes) h = tt
  answer_kept f (CloseReq c) h = tt
  answer_kept f (CloseRsp error c) h = tt
  answer_kept f (DialCls random) h = tt
  answer_kept f Drain h = tt
  answer_kept f (Other number) h = tt

  clients_kept : ClientKeys next
  clients_kept = record {
    begun = keys.clients.begun;
    unfinished = keys.clients.unfinished;
    alone = keys.clients.alone;
    apart = keys.clients.apart;
    connect_one = keys.clients.connect_one;
    connection = keys.clients.connection;
    connect_ins = keys.clients.connect_ins;
    requests = λ f. each_as (RequestOf w f) (RequestOf next f) (in_request_kept f) (w.streams f).up (keys.clients.requests f);
    answers = λ f c. each_as (AnswerFits w f) (AnswerFits next f) (answer_kept f) (w.streams f).down (keys.clients.answers f c);
    known = keys.clients.known;
    apps_rise = keys.clients.apps_rise;
    tops = keys.clients.tops;
    listed = λ k x came c f. let h = keys.clients.listed k x came c f in record { unwritten = h.unwritten; dial = h.dial };
    left = keys.clients.left;
    dials_once = keys.clients.dials_once;
  }

  -- ---- the order
  order_kept : (k : ℕ) → (w.apps k).came ≡ true → InOrder next k
  order_kept k came =
      let old = keys.ordered k came in record {
        inward = old.inward;
        outward = old.outward;
        up = λ d de. subst (λ z. up_ordered (up_item d z) (next.links (w.dials d).link).up ≡ true) (sym (cid_same d)) (up_kept d de (old.up d de) ((w.dials d).link == l) refl);
        down = λ d de. subst (λ z. down_ordered (down_item z) (D (w.dials d).link) ≡ true) (sym (cid_same d)) (down_kept d (old.down d de) ((w.dials d).link == l) refl);
      }
    where
      up_kept : (d : ℕ) → (w.apps k).dial ≡ Some d → up_ordered (up_item d (w.dials d).cid) (w.links (w.dials d).link).up ≡ true → (b : Bool) → ((w.dials d).link == l) ≡ b
          → up_ordered (up_item d (w.dials d).cid) (cond b (queued (not (is_gone (w.links (w.dials d).link).server)) (U (w.dials d).link) (from_agent s.outs)) (U (w.dials d).link)) ≡ true
      up_kept d de h true on =
          let e : (w.dials d).link ≡ l = eqb-true (w.dials d).link l on in
          subst (λ j. up_ordered (up_item d (w.dials d).cid) (queued (not (is_gone (w.links j).server)) (U j) (from_agent s.outs)) ≡ true) (sym e) (calm.order k d came de e)
      up_kept d de h false off = subst (λ ps. up_ordered (up_item d (w.dials d).cid) ps ≡ true) (sym (calm.parts.up_other (w.dials d).link off)) h

      down_kept : (d : ℕ) → down_ordered (down_item (w.dials d).cid) (w.links (w.dials d).link).down ≡ true → (b : Bool) → ((w.dials d).link == l) ≡ b → down_ordered (down_item (w.dials d).cid) (D (w.dials d).link) ≡ true
      down_kept d h true on =
          let e : (w.dials d).link ≡ l = eqb-true (w.dials d).link l on in
          subst (λ j. down_ordered (down_item (w.dials d).cid) (D j) ≡ true) (sym e)
          (rear_ordered (w.dials d).cid calm.parts.down.0 (D l) (subst (λ ps. down_ordered (down_item (w.dials d).cid) ps ≡ true) (sym calm.parts.down.1) (subst (λ j. down_ordered (down_item (w.dials d).cid) (w.links j).down ≡ true) e h)))
      down_kept d h false off = subst (λ ps. down_ordered (down_item (w.dials d).cid) ps ≡ true) (sym (calm.parts.down_other (w.dials d).link off)) h

  pub calm_keeps : Lifts w next → Keys next
  calm_keeps lifts = record {
    server = server_kept;
    agents = agents_kept;
    clients = clients_kept;
    ordered = order_kept;
    facts = λ k came. facts_followed (tunnel w k) (tunnel next k) (lifts k came) (keys.facts k came);
  }
