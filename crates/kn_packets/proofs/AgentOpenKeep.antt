-- A dial that wins its connection, which draws a connectID, keeps the facts on keys.
use Rattle.std.proofs.Common.{◌≡◌, ◌≤◌, ◌<◌, ◌==◌, ◌+◌, ◌⊎◌, ℕ, ℤ, pos, negsuc, Bool, true, false, not, cond, List, [], ◌∷◌, length, Option, Some, None, suc, inl, inr, refl, sym, ap, ap₂, ◌∙◌, eqb-true, subst, arith}
use Rattle.std.specs.Prelude.{nat_lt}
use Rattle.std.proofs.lemmas.Bool.{ne_eqb}
use Rattle.kn_packet.specs.declared.packet.Packet.{Packet}
use Rattle.kn_packet.specs.declared.packet.Packet.TheVariants.{CloseReq, CloseRsp, Data, DialCls, DialReq, DialRsp, Drain, Other}
use Rattle.kn_tables.specs.Lists.{IsRising, first_where}
use Rattle.kn_server_core.specs.Isolation.{Each}
use Rattle.kn_server_core.proofs.OrderLemmas.{rising_put}
use Rattle.kn_server_core.proofs.SoundLemmas.{first_in_place}
use Rattle.kn_server_core.proofs.TunnelTables.{put_found}
use Rattle.kn_edge_core.specs.Agent.{connection_opened, dial_up, ids_used_up}
use Rattle.kn_edge_core.specs.AgentTables.{is_connection, is_dial, without_dial}
use Rattle.kn_edge_core.specs.Steps.{AgentStep}
use Rattle.kn_edge_core.specs.declared.agent_event.AgentEvent.TheVariants as at_agent
use Rattle.kn_edge_core.specs.declared.agent_state.AgentState.{AgentState}
use Rattle.kn_edge_core.specs.declared.connection.Connection.{Connection}
use Rattle.kn_edge_core.specs.declared.connection.DestState.TheVariants.{Open}
use Rattle.kn_edge_core.specs.declared.dial.Dial.{Dial}
use Rattle.kn_tunnel.specs.Facts.{Facts}
use Rattle.kn_tunnel.specs.Kinds.{is_gone}
use Rattle.kn_tunnel.specs.Tunnel.{Side}
use Rattle.kn_tunnel.proofs.AllSteps.{facts_followed}
use Rattle.kn_tunnel.proofs.OrderChecks.{answer_order}
use Rattle.kn_words.specs.Down.{down_item, down_ordered, has_request, is_request}
use Rattle.kn_words.specs.Numbers.{is_number}
use Rattle.kn_words.specs.Up.{OtherUp, ReplyUp, up_follows, up_item, up_of, up_ordered}
use Rattle.kn_packets.specs.Keys.{AgentKeys, AnswerFits, CidOlder, ClientKeys, HasApp, InOrder, IsBelow, Keys, LinkOlder, MakesDial, ReplyFits, RequestFits, RequestOf, ServerKeys, asked_at, made_at, one_more}
use Rattle.kn_packets.specs.Lifts.{Lifts}
use Rattle.kn_packets.specs.Moves.{DialWon, after, agent_stepped, dest_after}
use Rattle.kn_packets.specs.Outputs.{queued}
use Rattle.kn_packets.specs.World.{World, WorldLink, has_random, tunnel}
use Rattle.kn_packets.proofs.AgentCalm.{after_found, each_without, made, made_fewer, order_by}
use Rattle.kn_packets.proofs.AgentDials.{dialled, down_cid_fresh, down_item_fresh, each_found, found, up_cid_fresh, up_item_fresh, won_lifts}
use Rattle.kn_packets.proofs.AgentKept.{Made, calm_keeps, each_as, each_queued}
use Rattle.kn_packets.proofs.AgentLists.{made_less}
use Rattle.kn_packets.proofs.AgentLossKeep.{still_calm, used_calm}
use Rattle.kn_packets.proofs.AgentParts.{linked, of_agent, of_link}
use Rattle.kn_packets.proofs.AgentRows.{dry}
use Rattle.kn_packets.proofs.Fresh.{above, eqb_refl}

-- ---- a connectID that is new is in no list
up_order_fresh : (d c : ℕ) (ps : List Packet) → Each (CidOlder c) ps → up_ordered (up_item d (Some c)) ps ≡ up_ordered (up_item d None) ps
up_order_fresh d c [] h = refl
up_order_fresh d c (p ∷ ps) h = rw (up_item_fresh d c p h.0, up_cid_fresh d c ps h.1, up_order_fresh d c ps h.1) refl

down_order_fresh : (c : ℕ) (ps : List Packet) → Each (CidOlder c) ps → down_ordered (down_item (Some c)) ps ≡ down_ordered (down_item None) ps
down_order_fresh c [] h = refl
down_order_fresh c (p ∷ ps) h = rw (down_item_fresh c p h.0, down_cid_fresh c ps h.1, down_order_fresh c ps h.1) refl

-- what is below a bound is below a greater one
below_more : (m n : ℕ) (z : ℤ) → m ≤ n → IsBelow m z → IsBelow n z
below_more m n (pos k) h b = omega (arith, h, b)
below_more m n (negsuc k) h b = tt

older_more : (m n : ℕ) → m ≤ n → (p : Packet) → CidOlder m p → CidOlder n p
older_more m n h (DialRsp [] c r) b = below_more m n c h b
older_more m n h (DialRsp (x ∷ xs) c r) b = tt
older_more m n h (Data c error bytes) b = below_more m n c h b
older_more m n h (CloseReq c) b = below_more m n c h b
older_more m n h (CloseRsp error c) b = below_more m n c h b
older_more m n h (DialReq protocol address random) b = tt
older_more m n h (DialCls random) b = tt
older_more m n h Drain b = tt
older_more m n h (Other number) b = tt

-- a reply may follow what is there of a dial that is not answered, and its destination has nothing
reply_free : (w : World) (k d : ℕ) (side : Side) (a : AgentState) (link : WorldLink) (x : Dial) → first_where (is_dial x.ticket) a.dials ≡ Some x → is_number d x.random ≡ true → Facts (of_agent w k d None side a link)
    → up_follows (up_of (up_item d None) link.up) ReplyUp ≡ true
reply_free w k d side a link x at own facts = rw (dialled d (is_dial x.ticket) x a.dials at own (has_request d link.down)) at (answer_order (of_agent w k d None side a link) facts.link)

dry_dial : (w : World) (k d : ℕ) (side : Side) (a : AgentState) (link : WorldLink) (x : Dial) → first_where (is_dial x.ticket) a.dials ≡ Some x → is_number d x.random ≡ true → Facts (of_agent w k d None side a link) → side.unwritten ≡ []
dry_dial w k d side a link x at own facts = dry (of_agent w k d None side a link) facts.link (rw (dialled d (is_dial x.ticket) x a.dials at own (has_request d link.down)) refl)

module _ (w : World) (l : ℕ) (keys : Keys w) (there : not (w.agents l).lost ≡ true) (x : Dial) (at : first_where (is_dial x.ticket) (w.agents l).dials ≡ Some x) where
  abbrev s : AgentStep
  s = connection_opened (w.agents l) x

  abbrev next : World
  next = agent_stepped l (connection_opened (w.agents l) x) w

  abbrev c0 : ℕ
  c0 = (w.agents l).next_connect_id

  abbrev reply : Packet
  reply = DialRsp [] (pos (w.agents l).next_connect_id) x.random

  pub it : Made w l x
  it = each_found (Made w l) (is_dial x.ticket) (w.agents l).dials x (made w l keys) at

  abbrev i : ℕ
  i = it.0.dial

  own_i : is_number i x.random ≡ true
  own_i = ap (is_number i) it.0.asked ∙ eqb_refl i

  is_own : (d : ℕ) → is_number d x.random ≡ true → d ≡ i
  is_own d h = sym (eqb-true i d (ap (is_number d) (sym it.0.asked) ∙ h))

  -- ---- the connectIDs
  pub drawn_kept : (d c : ℕ) → (w.dials d).cid ≡ Some c → (next.dials d).cid ≡ Some c
  drawn_kept d c h = here ((w.dials d).link == l) (is_number d x.random) refl
    where
      here : (b e : Bool) → is_number d x.random ≡ e → cond b (cond e (Some c0) (w.dials d).cid) (w.dials d).cid ≡ Some c
      here false e own = h
      here true false own = h
      here true true own = let none : (w.dials d).cid ≡ None = ap (λ j. (w.dials j).cid) (is_own d own) ∙ it.0.undrawn in let bad : Some c ≡ None = sym h ∙ none in absurd cc

  pub drawn_is : (d c : ℕ) → (next.dials d).cid ≡ Some c → ((w.dials d).cid ≡ Some c) ⊎ ((d ≡ i) × (c ≡ c0))
  drawn_is d c h = here ((w.dials d).link == l) (is_number d x.random) refl h
    where
      here : (b e : Bool) → is_number d x.random ≡ e → cond b (cond e (Some c0) (w.dials d).cid) (w.dials d).cid ≡ Some c → ((w.dials d).cid ≡ Some c) ⊎ ((d ≡ i) × (c ≡ c0))
      here false e own g = inl g
      here true false own g = inl g
      here true true own g = inr (is_own d own, one c0 c g)
        where
          one : (a b : ℕ) → Some a ≡ Some b → b ≡ a
          one a b k = cc

  undrawn_kept : (d : ℕ) → is_number d x.random ≡ false → (w.dials d).cid ≡ None → (next.dials d).cid ≡ None
  undrawn_kept d other h = here ((w.dials d).link == l)
    where
      here : (b : Bool) → cond b (cond (is_number d x.random) (Some c0) (w.dials d).cid) (w.dials d).cid ≡ None
      here true = rw other h
      here false = h

  pub drawn_i : (next.dials i).cid ≡ Some c0
  drawn_i =
      let at_l : ((w.dials i).link == l) ≡ true = ap (λ j. j == l) it.0.on ∙ eqb_refl l in
      rw (at_l, own_i) refl

  no_new : (d : ℕ) → (w.dials d).link ≡ l → (w.dials d).cid ≡ Some c0 → ⊥
  no_new d on h = let less : c0 < (w.agents l).next_connect_id = subst (λ j. c0 < (w.agents j).next_connect_id) on (keys.agents.cids_older d c0 h) in omega (arith, less)

  of_state : (Q : AgentState → Type 0) (j : ℕ) → Q (w.agents j) → (j ≡ l → Q s.state) → Q (next.agents j)
  of_state Q j old new = here (j == l) refl
    where
      here : (b : Bool) → (j == l) ≡ b → Q (cond b s.state (w.agents j))
      here true on = new (eqb-true j l on)
      here false off = old

  ups : (P : Packet → Type 0) (j : ℕ) → Each P (w.links j).up → (j ≡ l → P reply) → Each P (next.links j).up
  ups P j old told = here (j == l) refl
    where
      here : (b : Bool) → (j == l) ≡ b → Each P (cond b (queued (not (is_gone (w.links j).server)) (w.links j).up (reply ∷ [])) (w.links j).up)
      here true on = each_queued P (not (is_gone (w.links j).server)) (w.links j).up (reply ∷ []) old (told (eqb-true j l on), tt)
      here false off = old

  more : (j : ℕ) → (w.agents j).next_connect_id ≤ (next.agents j).next_connect_id
  more j = of_state (λ a. (w.agents j).next_connect_id ≤ a.next_connect_id) j (omega arith) (λ e. subst (λ m. (w.agents m).next_connect_id ≤ c0 + 1) (sym e) (omega arith))

  -- ---- dials that are made or asked for keep that they have none
  once_i : asked_at i (w.links l).down + made_at i (w.agents l).dials ≤ 1
  once_i = subst (λ j. asked_at i (w.links j).down + made_at i (w.agents j).dials ≤ 1) it.0.on (keys.agents.asked_once i)

  made_i : made_at i (w.agents l).dials ≡ suc (made_at i (without_dial x.ticket (w.agents l).dials))
  made_i = made_less i (is_dial x.ticket) x (w.agents l).dials at own_i

  makes : (j : ℕ) (r : ℤ) → is_number i r ≡ false → MakesDial w j r → MakesDial next j r
  makes j r other m = record { dial = m.dial; asked = m.asked; on = m.on; undrawn = undrawn_kept m.dial (differs (is_number m.dial x.random) refl) m.undrawn; app = m.app }
    where
      differs : (b : Bool) → is_number m.dial x.random ≡ b → b ≡ false
      differs false h = refl
      differs true h =
          let same : m.dial ≡ i = is_own m.dial h in
          let yes : is_number i r ≡ true = ap (is_number i) (m.asked ∙ ap pos same) ∙ eqb_refl i in
          absurd (cc (yes, other))

  -- of another link
  makes_off : (j : ℕ) (r : ℤ) → (j == l) ≡ false → MakesDial w j r → MakesDial next j r
  makes_off j r off m = makes j r (differs (is_number i r) refl) m
    where
      differs : (b : Bool) → is_number i r ≡ b → b ≡ false
      differs false h = refl
      differs true h =
          let same : m.dial ≡ i = eqb-true m.dial i (ap (is_number i) (sym m.asked) ∙ h) in
          let on : j ≡ l = sym m.on ∙ ap (λ d. (w.dials d).link) same ∙ it.0.on in
          let yes : (j == l) ≡ true = ap (λ m. m == l) on ∙ eqb_refl l in
          absurd (cc (yes, off))

  dials_left : (xs : List Dial) → made_at i xs ≡ 0 → Each (λ (y : Dial). MakesDial w l y.random) xs → Each (λ (y : Dial). MakesDial next l y.random) xs
  dials_left [] n h = tt
  dials_left (y ∷ xs) n h = here (has_random i y) refl n (λ m. dials_left xs m h.1)
    where
      here : (b : Bool) → has_random i y ≡ b → one_more b (made_at i xs) ≡ 0 → (made_at i xs ≡ 0 → Each (λ (z : Dial). MakesDial next l z.random) xs) → Each (λ (z : Dial). MakesDial next l z.random) (y ∷ xs)
      here true e m later = absurd cc
      here false e m later = (makes l y.random e h.0, later m)

  request_left : (p : Packet) → is_request i p ≡ false → RequestFits w l p → RequestFits next l p
  request_left (DialReq protocol address random) e h = makes l random e h
  request_left (DialRsp error c r) e h = tt
  request_left (Data c error bytes) e h = tt
  request_left (CloseReq c) e h = tt
  request_left (CloseRsp error c) e h = tt
  request_left (DialCls random) e h = tt
  request_left Drain e h = tt
  request_left (Other number) e h = tt

  requests_left : (ps : List Packet) → asked_at i ps ≡ 0 → Each (RequestFits w l) ps → Each (RequestFits next l) ps
  requests_left [] n h = tt
  requests_left (p ∷ ps) n h = here (is_request i p) refl n (λ m. requests_left ps m h.1)
    where
      here : (b : Bool) → is_request i p ≡ b → one_more b (asked_at i ps) ≡ 0 → (asked_at i ps ≡ 0 → Each (RequestFits next l) ps) → Each (RequestFits next l) (p ∷ ps)
      here true e m later = absurd cc
      here false e m later = (request_left p e h.0, later m)

  request_off : (j : ℕ) → (j == l) ≡ false → (p : Packet) → RequestFits w j p → RequestFits next j p
  request_off j off (DialReq protocol address random) h = makes_off j random off h
  request_off j off (DialRsp error c r) h = tt
  request_off j off (Data c error bytes) h = tt
  request_off j off (CloseReq c) h = tt
  request_off j off (CloseRsp error c) h = tt
  request_off j off (DialCls random) h = tt
  request_off j off Drain h = tt
  request_off j off (Other number) h = tt

  reply_kept : (j : ℕ) (p : Packet) → ReplyFits w j p → ReplyFits next j p
  reply_kept j (DialRsp [] c r) h = record { dial = h.dial; cid = h.cid; asked = h.asked; named = h.named; on = h.on; drawn = drawn_kept h.dial h.cid h.drawn }
  reply_kept j (DialRsp (y ∷ ys) c r) h = h
  reply_kept j (DialReq protocol address random) h = tt
  reply_kept j (Data c error bytes) h = tt
  reply_kept j (CloseReq c) h = tt
  reply_kept j (CloseRsp error c) h = tt
  reply_kept j (DialCls random) h = tt
  reply_kept j Drain h = tt
  reply_kept j (Other number) h = tt

  -- ---- the server
  server_kept : ServerKeys next
  server_kept = record {
    orderly = keys.server.orderly;
    from_one = keys.server.from_one;
    links_up = keys.server.links_up;
    fronts_up = keys.server.fronts_up;
    awaited = λ d e h. let f = keys.server.awaited d e h in record { link = f.link; front = f.front; random = f.random; app = f.app; has_app = f.has_app };
    held = λ d e h. let f = keys.server.held d e h in record { link = f.link; cid = f.cid; drawn = drawn_kept d f.cid f.drawn; named = f.named; front = f.front };
    dials_older = keys.server.dials_older;
    ups_older = λ j. ups (LinkOlder w.server.next_dial) j (keys.server.ups_older j) (λ e. it.1);
    downs_older = keys.server.downs_older;
    agents_older = λ j. of_state (λ a. Each (λ (y : Dial). IsBelow w.server.next_dial y.random) a.dials) j (keys.server.agents_older j)
        (λ e. each_without (λ (y : Dial). IsBelow w.server.next_dial y.random) (is_dial x.ticket) (w.agents l).dials (keys.server.agents_older l));
    ins_older = keys.server.ins_older;
    outs_older = keys.server.outs_older;
  }

  -- ---- the agents
  abbrev opened : Connection
  opened = record { connect_id = (w.agents l).next_connect_id; state = Open; unwritten = 0 }

  no_c0 : first_where (is_connection c0) (w.agents l).connections ≡ None
  no_c0 = keys.agents.connections_older l c0 (omega arith)

  agents_kept : AgentKeys next
  agents_kept = record {
    cid_once = λ d e c on h g. once d e c on (drawn_is d c h) (drawn_is e c g);
    cid_app = λ d c h. app d c (drawn_is d c h);
    replies = λ j. ups (ReplyFits next j) j (each_as (ReplyFits w j) (ReplyFits next j) (reply_kept j) (w.links j).up (keys.agents.replies j))
        (λ e. record { dial = i; cid = c0; asked = it.0.asked; named = refl; on = it.0.on ∙ sym e; drawn = drawn_i });
    cids_older = λ d c h. less d c (drawn_is d c h);
    ups_older = λ j. ups (CidOlder (next.agents j).next_connect_id) j (each_as (CidOlder (w.agents j).next_connect_id) (CidOlder (next.agents j).next_connect_id) (older_more (w.agents j).next_connect_id (next.agents j).next_connect_id (more j)) (w.links j).up (keys.agents.ups_older j)) (λ e. new_less j e);
    downs_older = λ j. each_as (CidOlder (w.agents j).next_connect_id) (CidOlder (next.agents j).next_connect_id) (older_more (w.agents j).next_connect_id (next.agents j).next_connect_id (more j)) (w.links j).down (keys.agents.downs_older j);
    connections_rise = λ j. of_state (λ a. IsRising (λ (y : Connection). y.connect_id) a.connections) j (keys.agents.connections_rise j) (λ e. rising_put (λ (y : Connection). y.connect_id) opened (w.agents l).connections (keys.agents.connections_rise l) no_c0);
    connections_older = λ j n. of_state (λ a. a.next_connect_id ≤ n → first_where (is_connection n) a.connections ≡ None) j (keys.agents.connections_older j n)
        (λ e h. first_in_place (λ (y : Connection). y.connect_id) (is_connection n) opened (w.agents l).connections (ne_eqb c0 n (λ q. omega (arith, h, q))) ∙ keys.agents.connections_older l n (omega (arith, h)));
    unwritten = λ d c y h f. count d c y h ((w.dials d).link == l) refl f;
    dials = λ j. dials_kept j (j == l) refl;
    requests = λ j. requests_kept j (j == l) refl;
    asked_once = λ d. asked_kept d ((w.dials d).link == l) refl;
    lost = λ j. of_state (λ a. a.lost ≡ true → (a.dials ≡ []) × (a.connections ≡ []) × ((w.links j).down ≡ [])) j (keys.agents.lost j) (λ e h. absurd (not_lost h));
  }
    where
      not_lost : (w.agents l).lost ≡ true → ⊥
      not_lost h = let bad : false ≡ true = rw h at there in cc

      once : (d e c : ℕ) → (w.dials d).link ≡ (w.dials e).link → ((w.dials d).cid ≡ Some c) ⊎ ((d ≡ i) × (c ≡ c0)) → ((w.dials e).cid ≡ Some c) ⊎ ((e ≡ i) × (c ≡ c0)) → d ≡ e
      once d e c on (inl h) (inl g) = keys.agents.cid_once d e c on h g
      once d e c on (inl h) (inr g) = absurd (no_new d (on ∙ ap (λ j. (w.dials j).link) g.0 ∙ it.0.on) (h ∙ ap Some g.1))
      once d e c on (inr h) (inl g) = absurd (no_new e (sym on ∙ ap (λ j. (w.dials j).link) h.0 ∙ it.0.on) (g ∙ ap Some h.1))
      once d e c on (inr h) (inr g) = h.0 ∙ sym g.0

      app : (d c : ℕ) → ((w.dials d).cid ≡ Some c) ⊎ ((d ≡ i) × (c ≡ c0)) → HasApp next d
      app d c (inl h) = keys.agents.cid_app d c h
      app d c (inr h) = subst (HasApp w) (sym h.0) it.0.app

      less : (d c : ℕ) → ((w.dials d).cid ≡ Some c) ⊎ ((d ≡ i) × (c ≡ c0)) → c < (next.agents (w.dials d).link).next_connect_id
      less d c (inl h) = let old : c < (w.agents (w.dials d).link).next_connect_id = keys.agents.cids_older d c h in let m = more (w.dials d).link in omega (arith, old, m)
      less d c (inr h) =
          let on : (w.dials d).link ≡ l = ap (λ j. (w.dials j).link) h.0 ∙ it.0.on in
          let new : c0 < (next.agents l).next_connect_id = rw (eqb_refl l) (omega arith) in
          subst (λ m. m < (next.agents (w.dials d).link).next_connect_id) (sym h.1) (subst (λ j. c0 < (next.agents j).next_connect_id) (sym on) new)

      new_less : (j : ℕ) → j ≡ l → c0 < (next.agents j).next_connect_id
      new_less j e = subst (λ m. c0 < (next.agents m).next_connect_id) (sym e) (rw (eqb_refl l) (omega arith))

      -- what is to be written
      dry_new : i ≡ i → (w.dials i).side.unwritten ≡ []
      dry_new e =
          let app = it.0.app in
          let facts : Facts (of_agent w app.0 i (w.dials i).cid (w.dials i).side (w.agents l) (w.links l)) = of_link w l keys app.0 i app.1 app.2 it.0.on in
          dry_dial w app.0 i (w.dials i).side (w.agents l) (w.links l) x at own_i (subst (λ z. Facts (of_agent w app.0 i z (w.dials i).side (w.agents l) (w.links l))) it.0.undrawn facts)

      count_on : (d c : ℕ) (y : Connection) → (w.dials d).link ≡ l → ((w.dials d).cid ≡ Some c) ⊎ ((d ≡ i) × (c ≡ c0)) → first_where (is_connection c) s.state.connections ≡ Some y → y.unwritten ≡ length (dest_after true (w.dials d).cid s (w.dials d).side).unwritten
      count_on d c y on (inl h) f =
          let less : c < (w.agents l).next_connect_id = subst (λ j. c < (w.agents j).next_connect_id) on (keys.agents.cids_older d c h) in
          let same : first_where (is_connection c) s.state.connections ≡ first_where (is_connection c) (w.agents l).connections = first_in_place (λ (z : Connection). z.connect_id) (is_connection c) opened (w.agents l).connections (above c c0 less) in
          keys.agents.unwritten d c y h (subst (λ j. first_where (is_connection c) (w.agents j).connections ≡ Some y) (sym on) (sym same ∙ f)) ∙ sym (ap length (after_found (w.dials d).cid c h s y f (w.dials d).side))
      count_on d c y on (inr h) f =
          let found : first_where (is_connection c0) s.state.connections ≡ Some opened = put_found (λ (z : Connection). z.connect_id) (is_connection c0) opened (w.agents l).connections no_c0 (eqb_refl c0) in
          let is_new : Some opened ≡ Some y = sym found ∙ ap (λ m. first_where (is_connection m) s.state.connections) (sym h.1) ∙ f in
          let none : (w.dials d).cid ≡ None = ap (λ j. (w.dials j).cid) h.0 ∙ it.0.undrawn in
          let empty : (w.dials d).side.unwritten ≡ [] = ap (λ j. (w.dials j).side.unwritten) h.0 ∙ dry_new refl in
          unwritten_of opened y is_new ∙ sym (ap (λ z. length (dest_after true z s (w.dials d).side).unwritten) none ∙ ap length empty)
        where
          unwritten_of : (a b : Connection) → Some a ≡ Some b → b.unwritten ≡ a.unwritten
          unwritten_of a b e = cc

      count : (d c : ℕ) (y : Connection) → (next.dials d).cid ≡ Some c → (b : Bool) → ((w.dials d).link == l) ≡ b → first_where (is_connection c) (cond b s.state (w.agents (w.dials d).link)).connections ≡ Some y
          → y.unwritten ≡ length (dest_after b (w.dials d).cid s (w.dials d).side).unwritten
      count d c y h true on f = count_on d c y (eqb-true (w.dials d).link l on) (drawn_is d c h) f
      count d c y h false off f = keys.agents.unwritten d c y (old (drawn_is d c h)) f
        where
          old : ((w.dials d).cid ≡ Some c) ⊎ ((d ≡ i) × (c ≡ c0)) → (w.dials d).cid ≡ Some c
          old (inl g) = g
          old (inr g) = let yes : ((w.dials d).link == l) ≡ true = ap (λ j. (w.dials j).link == l) g.0 ∙ ap (λ m. m == l) it.0.on ∙ eqb_refl l in absurd (cc (yes, off))

      dials_kept : (j : ℕ) (b : Bool) → (j == l) ≡ b → Each (λ (y : Dial). MakesDial next j y.random) (cond b s.state (w.agents j)).dials
      dials_kept j true on =
          let e : j ≡ l = eqb-true j l on in
          let none : made_at i (without_dial x.ticket (w.agents l).dials) ≡ 0 = omega (arith, once_i, made_i) in
          subst (λ m. Each (λ (y : Dial). MakesDial next m y.random) (without_dial x.ticket (w.agents l).dials)) (sym e)
          (dials_left (without_dial x.ticket (w.agents l).dials) none (each_without (λ (y : Dial). MakesDial w l y.random) (is_dial x.ticket) (w.agents l).dials (keys.agents.dials l)))
      dials_kept j false off = each_as (λ (y : Dial). MakesDial w j y.random) (λ (y : Dial). MakesDial next j y.random) (λ y h. makes_off j y.random off h) (w.agents j).dials (keys.agents.dials j)

      requests_kept : (j : ℕ) (b : Bool) → (j == l) ≡ b → Each (RequestFits next j) (w.links j).down
      requests_kept j true on =
          let e : j ≡ l = eqb-true j l on in
          let none : asked_at i (w.links l).down ≡ 0 = omega (arith, once_i, made_i) in
          subst (λ m. Each (RequestFits next m) (w.links m).down) (sym e) (requests_left (w.links l).down none (keys.agents.requests l))
      requests_kept j false off = each_as (RequestFits w j) (RequestFits next j) (request_off j off) (w.links j).down (keys.agents.requests j)

      asked_kept : (d : ℕ) (b : Bool) → ((w.dials d).link == l) ≡ b → asked_at d (w.links (w.dials d).link).down + made_at d (cond b s.state (w.agents (w.dials d).link)).dials ≤ 1
      asked_kept d true on =
          let e : (w.dials d).link ≡ l = eqb-true (w.dials d).link l on in
          let old : asked_at d (w.links l).down + made_at d (w.agents l).dials ≤ 1 = subst (λ j. asked_at d (w.links j).down + made_at d (w.agents j).dials ≤ 1) e (keys.agents.asked_once d) in
          let fewer : made_at d (without_dial x.ticket (w.agents l).dials) ≤ made_at d (w.agents l).dials = made_fewer d (is_dial x.ticket) (w.agents l).dials in
          let new : asked_at d (w.links l).down + made_at d (without_dial x.ticket (w.agents l).dials) ≤ 1 = omega (arith, old, fewer) in
          subst (λ j. asked_at d (w.links j).down + made_at d (without_dial x.ticket (w.agents l).dials) ≤ 1) (sym e) new
      asked_kept d false off = keys.agents.asked_once d

  -- ---- the clients
  in_request_kept : (f : ℕ) (p : Packet) → RequestOf w f p → RequestOf next f p
  in_request_kept f (DialReq protocol address random) h = h
  in_request_kept f (DialRsp error c r) h = tt
  in_request_kept f (Data c error bytes) h = tt
  in_request_kept f (CloseReq c) h = tt
  in_request_kept f (CloseRsp error c) h = tt
  in_request_kept f (DialCls random) h = h
  in_request_kept f Drain h = tt
  in_request_kept f (Other number) h = tt

  answer_kept : (f : ℕ) (p : Packet) → AnswerFits w f p → AnswerFits next f p
  answer_kept f (DialRsp [] c r) h = h
  answer_kept f (DialRsp (y ∷ ys) c r) h = h
  answer_kept f (DialReq protocol address random) h = tt
  answer_kept f (Data c error bytes) h = tt
  answer_kept f (CloseReq c) h = tt
  answer_kept f (CloseRsp error c) h = tt
  answer_kept f (DialCls random) h = tt
  answer_kept f Drain h = tt
  answer_kept f (Other number) h = tt

  clients_kept : ClientKeys next
  clients_kept = record {
    begun = keys.clients.begun;
    unfinished = keys.clients.unfinished;
    alone = keys.clients.alone;
    apart = keys.clients.apart;
    connect_one = keys.clients.connect_one;
    connection = keys.clients.connection;
    connect_ins = keys.clients.connect_ins;
    requests = λ f. each_as (RequestOf w f) (RequestOf next f) (in_request_kept f) (w.streams f).up (keys.clients.requests f);
    answers = λ f c. each_as (AnswerFits w f) (AnswerFits next f) (answer_kept f) (w.streams f).down (keys.clients.answers f c);
    known = keys.clients.known;
    apps_rise = keys.clients.apps_rise;
    tops = keys.clients.tops;
    listed = λ k y came c f. let h = keys.clients.listed k y came c f in record { unwritten = h.unwritten; dial = h.dial };
    left = keys.clients.left;
    dials_once = keys.clients.dials_once;
  }

  -- ---- the order
  order_kept : (k : ℕ) → (w.apps k).came ≡ true → InOrder next k
  order_kept k came =
      let old = keys.ordered k came in record {
        inward = old.inward;
        outward = old.outward;
        up = λ d de. up_kept d de (old.up d de) ((w.dials d).link == l) (is_number d x.random) refl refl;
        down = λ d de. down_kept d (old.down d de) ((w.dials d).link == l) (is_number d x.random) refl refl;
      }
    where
      undrawn : (d : ℕ) → is_number d x.random ≡ true → (w.dials d).cid ≡ None
      undrawn d own = ap (λ j. (w.dials j).cid) (is_own d own) ∙ it.0.undrawn

      other_up : (d : ℕ) → is_number d x.random ≡ false → (w.dials d).link ≡ l → (cid : Option ℕ) → (w.dials d).cid ≡ cid → up_item d cid reply ≡ OtherUp
      other_up d other on None e = refl
      other_up d other on (Some c) e =
          let less : c < (w.agents l).next_connect_id = subst (λ j. c < (w.agents j).next_connect_id) on (keys.agents.cids_older d c e) in
          rw (above c c0 less) refl

      up_own : (d : ℕ) → (w.apps k).dial ≡ Some d → (w.dials d).link ≡ l → is_number d x.random ≡ true → up_ordered (up_item d (w.dials d).cid) (w.links l).up ≡ true
          → up_ordered (up_item d (Some c0)) (queued (not (is_gone (w.links l).server)) (w.links l).up (reply ∷ [])) ≡ true
      up_own d de on own h = order_by (up_item d (Some c0)) (not (is_gone (w.links l).server)) (w.links l).up reply
          (up_order_fresh d c0 (w.links l).up (keys.agents.ups_older l) ∙ sym (ap (λ z. up_ordered (up_item d z) (w.links l).up) (undrawn d own)) ∙ h)
          (λ there. follows)
        where
          facts : Facts (of_agent w k d None (w.dials d).side (w.agents l) (w.links l))
          facts = subst (λ z. Facts (of_agent w k d z (w.dials d).side (w.agents l) (w.links l))) (undrawn d own) (of_link w l keys k d came de on)

          is_reply : up_item d (Some c0) reply ≡ ReplyUp
          is_reply = rw (eqb_refl c0) refl

          follows : up_follows (up_of (up_item d (Some c0)) (w.links l).up) (up_item d (Some c0) reply) ≡ true
          follows = ap₂ up_follows (up_cid_fresh d c0 (w.links l).up (keys.agents.ups_older l)) is_reply ∙ reply_free w k d (w.dials d).side (w.agents l) (w.links l) x at own facts

      up_kept : (d : ℕ) → (w.apps k).dial ≡ Some d → up_ordered (up_item d (w.dials d).cid) (w.links (w.dials d).link).up ≡ true → (b e : Bool) → ((w.dials d).link == l) ≡ b → is_number d x.random ≡ e
          → up_ordered (up_item d (cond b (cond e (Some c0) (w.dials d).cid) (w.dials d).cid)) (cond b (queued (not (is_gone (w.links (w.dials d).link).server)) (w.links (w.dials d).link).up (reply ∷ [])) (w.links (w.dials d).link).up) ≡ true
      up_kept d de h false e off own = h
      up_kept d de h true true on own =
          let m : (w.dials d).link ≡ l = eqb-true (w.dials d).link l on in
          subst (λ j. up_ordered (up_item d (Some c0)) (queued (not (is_gone (w.links j).server)) (w.links j).up (reply ∷ [])) ≡ true) (sym m) (up_own d de m own (subst (λ j. up_ordered (up_item d (w.dials d).cid) (w.links j).up ≡ true) m h))
      up_kept d de h true false on other =
          let m : (w.dials d).link ≡ l = eqb-true (w.dials d).link l on in
          order_by (up_item d (w.dials d).cid) (not (is_gone (w.links (w.dials d).link).server)) (w.links (w.dials d).link).up reply h
          (λ there. ap (up_follows (up_of (up_item d (w.dials d).cid) (w.links (w.dials d).link).up)) (other_up d other m (w.dials d).cid refl))

      down_kept : (d : ℕ) → down_ordered (down_item (w.dials d).cid) (w.links (w.dials d).link).down ≡ true → (b e : Bool) → ((w.dials d).link == l) ≡ b → is_number d x.random ≡ e
          → down_ordered (down_item (cond b (cond e (Some c0) (w.dials d).cid) (w.dials d).cid)) (w.links (w.dials d).link).down ≡ true
      down_kept d h false e off own = h
      down_kept d h true false on other = h
      down_kept d h true true on own =
          let m : (w.dials d).link ≡ l = eqb-true (w.dials d).link l on in
          let fresh : Each (CidOlder c0) (w.links (w.dials d).link).down = subst (λ j. Each (CidOlder c0) (w.links j).down) (sym m) (keys.agents.downs_older l) in
          down_order_fresh c0 (w.links (w.dials d).link).down fresh ∙ sym (ap (λ z. down_ordered (down_item z) (w.links (w.dials d).link).down) (undrawn d own)) ∙ h

  pub open_keeps : Lifts w next → Keys next
  open_keeps lifts = record { server = server_kept; agents = agents_kept; clients = clients_kept; ordered = order_kept; facts = λ k came. facts_followed (tunnel w k) (tunnel next k) (lifts k came) (keys.facts k came) }

-- ---- the move
module _ (w : World) (l : ℕ) (keys : Keys w) (there : not (w.agents l).lost ≡ true) where
  by_dial : (ticket : ℕ) (o : Option Dial) → first_where (is_dial ticket) (w.agents l).dials ≡ o → Lifts w (agent_stepped l (dial_up (w.agents l) o) w) → Keys (agent_stepped l (dial_up (w.agents l) o) w)
  by_dial ticket None f = calm_keeps w l _ (λ i. (w.links i).up) (λ i. (w.links i).down) (λ d. (w.dials d).side) keys (still_calm w l keys there)
  by_dial ticket (Some x) f = here (nat_lt (w.agents l).next_connect_id 9223372036854775807)
    where
      at : first_where (is_dial x.ticket) (w.agents l).dials ≡ Some x
      at = found w l keys there ticket x f

      here : (b : Bool) → Lifts w (agent_stepped l (cond b (connection_opened (w.agents l) x) (ids_used_up (w.agents l) x)) w) → Keys (agent_stepped l (cond b (connection_opened (w.agents l) x) (ids_used_up (w.agents l) x)) w)
      here true = open_keeps w l keys there x at
      here false = calm_keeps w l (ids_used_up (w.agents l) x) (λ i. (w.links i).up) (λ i. (w.links i).down) (λ d. (w.dials d).side) keys (used_calm w l keys there x at)

  pub won_keeps : (ticket : ℕ) → Keys (after (DialWon l ticket) w)
  won_keeps ticket = here (won_lifts w l keys there ticket)
    where
      here : Lifts w (after (DialWon l ticket) w) → Keys (after (DialWon l ticket) w)
      here = subst (λ s. Lifts w (agent_stepped l s w) → Keys (agent_stepped l s w)) (sym (linked (w.agents l) (at_agent.DialUp ticket) there)) (by_dial ticket (first_where (is_dial ticket) (w.agents l).dials) refl)
