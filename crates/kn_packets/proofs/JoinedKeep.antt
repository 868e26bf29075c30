-- Bytes that are cut into packets otherwise: the facts on keys are kept.
use Rattle.std.proofs.Common.{◌≡◌, ◌==◌, ◌&&◌, ◌||◌, ◌++◌, ℕ, ℤ, Bool, true, false, not, cond, List, [], ◌∷◌, Option, refl, sym, ap, ◌∙◌, eqb-true, subst}
use Rattle.kn_packet.specs.declared.packet.Packet.{Packet}
use Rattle.kn_packet.specs.declared.packet.Packet.TheVariants.{CloseReq, CloseRsp, Data, DialCls, DialReq, DialRsp, Drain, Other}
use Rattle.kn_server_core.specs.Isolation.{Each}
use Rattle.kn_tunnel.specs.Kinds.{is_empty}
use Rattle.kn_tunnel.proofs.AllSteps.{facts_followed}
use Rattle.kn_words.specs.In.{connect_in_item, connect_in_word, in_before, in_ordered, stream_in_item}
use Rattle.kn_packets.specs.Keys.{AnswerFits, ClientKeys, InOrder, Keys, OfConnection, RequestOf, ServerKeys, StreamOlder}
use Rattle.kn_packets.specs.Moves.{JoinsIn, May, after, all_joined, join_first}
use Rattle.kn_packets.specs.World.{World, tunnel}
use Rattle.kn_packets.proofs.AgentKept.{each_as}
use Rattle.kn_packets.proofs.StreamKept.{agents_same}
use Rattle.kn_packets.proofs.Taken.{and_first, and_second}
use Rattle.kn_packets.proofs.JoinedBytes.{joins_lift, same_word}

-- ---- what holds of each packet
abbrev Grows : (Packet → Type 0) → Type 0
Grows Q = (c : ℤ) (error bytes more : List ℕ) → Q (Data c error bytes) → Q (Data c error (bytes ++ more))

first_each : (Q : Packet → Type 0) → Grows Q → (p : Packet) (ps : List Packet) → Q p → Each Q ps → Each Q (join_first p ps)
first_each Q grow (Data c error bytes) [] q all = (q, all)
first_each Q grow (Data c error bytes) (Data d reason more ∷ ps) q all = (grow c error bytes more q, all.1)
first_each Q grow (Data c error bytes) (DialReq protocol address random ∷ ps) q all = (q, all)
first_each Q grow (Data c error bytes) (DialRsp reason d random ∷ ps) q all = (q, all)
first_each Q grow (Data c error bytes) (CloseReq d ∷ ps) q all = (q, all)
first_each Q grow (Data c error bytes) (CloseRsp reason d ∷ ps) q all = (q, all)
first_each Q grow (Data c error bytes) (DialCls random ∷ ps) q all = (q, all)
first_each Q grow (Data c error bytes) (Drain ∷ ps) q all = (q, all)
first_each Q grow (Data c error bytes) (Other number ∷ ps) q all = (q, all)
first_each Q grow (DialReq protocol address random) ps q all = (q, all)
first_each Q grow (DialRsp reason d random) ps q all = (q, all)
first_each Q grow (CloseReq d) ps q all = (q, all)
first_each Q grow (CloseRsp reason d) ps q all = (q, all)
first_each Q grow (DialCls random) ps q all = (q, all)
first_each Q grow Drain ps q all = (q, all)
first_each Q grow (Other number) ps q all = (q, all)

joined_each : (Q : Packet → Type 0) → Grows Q → (ps : List Packet) → Each Q ps → Each Q (all_joined ps)
unfolding all_joined
joined_each Q grow [] all = all
joined_each Q grow (p ∷ ps) all = first_each Q grow p (all_joined ps) all.0 (joined_each Q grow ps all.1)

-- ---- the order
bytes_before : (a b : List ℕ) (x : Bool) → (is_empty a || x) ≡ true → (is_empty b || x) ≡ true → (is_empty (a ++ b) || x) ≡ true
bytes_before [] b x p q = q
bytes_before (y ∷ a) b x p q = p

first_ordered : (p : Packet) (ps : List Packet) → in_before (connect_in_item p) (connect_in_word ps) ≡ true → in_ordered connect_in_item ps ≡ true → in_ordered connect_in_item (join_first p ps) ≡ true
first_ordered (Data c error bytes) [] h all = rw h refl
first_ordered (Data c error bytes) (Data d reason more ∷ ps) h all =
    let w = connect_in_word ps in
    let other : Bool = not w.request && not w.cancel in
    let later : (is_empty more || other) ≡ true = and_first (is_empty more || other) (in_ordered connect_in_item ps) all in
    let rest : in_ordered connect_in_item ps ≡ true = and_second (is_empty more || other) (in_ordered connect_in_item ps) all in
    rw (bytes_before bytes more other h later) rest
first_ordered (Data c error bytes) (DialReq protocol address random ∷ ps) h all = rw h all
first_ordered (Data c error bytes) (DialRsp reason d random ∷ ps) h all = rw h all
first_ordered (Data c error bytes) (CloseReq d ∷ ps) h all = rw h all
first_ordered (Data c error bytes) (CloseRsp reason d ∷ ps) h all = rw h all
first_ordered (Data c error bytes) (DialCls random ∷ ps) h all = rw h all
first_ordered (Data c error bytes) (Drain ∷ ps) h all = rw h all
first_ordered (Data c error bytes) (Other number ∷ ps) h all = rw h all
first_ordered (DialReq protocol address random) ps h all = rw h all
first_ordered (DialRsp reason d random) ps h all = all
first_ordered (CloseReq d) ps h all = all
first_ordered (CloseRsp reason d) ps h all = all
first_ordered (DialCls random) ps h all = all
first_ordered Drain ps h all = all
first_ordered (Other number) ps h all = all

joined_ordered : (ps : List Packet) → in_ordered connect_in_item ps ≡ true → in_ordered connect_in_item (all_joined ps) ≡ true
unfolding all_joined
joined_ordered [] h = refl
joined_ordered (p ∷ ps) h =
    let here : in_before (connect_in_item p) (connect_in_word ps) ≡ true = and_first (in_before (connect_in_item p) (connect_in_word ps)) (in_ordered connect_in_item ps) h in
    first_ordered p (all_joined ps) (subst (λ w. in_before (connect_in_item p) w ≡ true) (sym (same_word ps)) here)
    (joined_ordered ps (and_second (in_before (connect_in_item p) (connect_in_word ps)) (in_ordered connect_in_item ps) h))

stream_ordered : (connect : Bool) (n : ℕ) (D : Option ℕ) (ps : List Packet) → connect ≡ true → in_ordered (stream_in_item connect n D) ps ≡ true → in_ordered (stream_in_item connect n D) (all_joined ps) ≡ true
stream_ordered true n D ps e h = joined_ordered ps h
stream_ordered false n D ps e h = absurd cc

module _ (w : World) (f : ℕ) (keys : Keys w) (may : May (JoinsIn f) w) where
  abbrev next : World
  next = after (JoinsIn f) w

  up_each : (Q : Packet → Type 0) (i : ℕ) → Grows Q → Each Q (w.streams i).up → Each Q (next.streams i).up
  up_each Q i grow all = by (i == f) refl
    where
      by : (b : Bool) → (i == f) ≡ b → Each Q (cond b (all_joined (w.streams f).up) (w.streams i).up)
      by false e = all
      by true e = joined_each Q grow (w.streams f).up (subst (λ j. Each Q (w.streams j).up) (eqb-true i f e) all)

  server_kept : ServerKeys next
  server_kept = record {
    orderly = keys.server.orderly;
    from_one = keys.server.from_one;
    links_up = keys.server.links_up;
    fronts_up = keys.server.fronts_up;
    awaited = λ d e h. let fits = keys.server.awaited d e h in record { link = fits.link; front = fits.front; random = fits.random; app = fits.app; has_app = fits.has_app };
    held = λ d e h. let fits = keys.server.held d e h in record { link = fits.link; cid = fits.cid; drawn = fits.drawn; named = fits.named; front = fits.front };
    dials_older = keys.server.dials_older;
    ups_older = keys.server.ups_older;
    downs_older = keys.server.downs_older;
    agents_older = keys.server.agents_older;
    ins_older = λ i. up_each (StreamOlder w.server.next_dial) i (λ c e b more h. h) (keys.server.ins_older i);
    outs_older = keys.server.outs_older;
  }

  request_kept : (i : ℕ) (p : Packet) → RequestOf w i p → RequestOf next i p
  request_kept i (DialReq protocol address random) h = h
  request_kept i (DialRsp error c r) h = tt
  request_kept i (Data c error bytes) h = tt
  request_kept i (CloseReq c) h = tt
  request_kept i (CloseRsp error c) h = tt
  request_kept i (DialCls random) h = h
  request_kept i Drain h = tt
  request_kept i (Other number) h = tt

  answer_kept : (i : ℕ) (p : Packet) → AnswerFits w i p → AnswerFits next i p
  answer_kept i (DialRsp [] c r) h = h
  answer_kept i (DialRsp (x ∷ xs) c r) h = h
  answer_kept i (DialReq protocol address random) h = tt
  answer_kept i (Data c error bytes) h = tt
  answer_kept i (CloseReq c) h = tt
  answer_kept i (CloseRsp error c) h = tt
  answer_kept i (DialCls random) h = tt
  answer_kept i Drain h = tt
  answer_kept i (Other number) h = tt

  clients_kept : ClientKeys next
  clients_kept = record {
    begun = keys.clients.begun;
    unfinished = keys.clients.unfinished;
    alone = keys.clients.alone;
    apart = keys.clients.apart;
    connect_one = keys.clients.connect_one;
    connection = keys.clients.connection;
    connect_ins = λ i is. up_each OfConnection i (λ c e b more h. h) (keys.clients.connect_ins i is);
    requests = λ i. up_each (RequestOf next i) i (λ c e b more h. h) (each_as (RequestOf w i) (RequestOf next i) (request_kept i) (w.streams i).up (keys.clients.requests i));
    answers = λ i is. each_as (AnswerFits w i) (AnswerFits next i) (answer_kept i) (w.streams i).down (keys.clients.answers i is);
    known = keys.clients.known;
    apps_rise = keys.clients.apps_rise;
    tops = keys.clients.tops;
    listed = λ k x came c at. let h = keys.clients.listed k x came c at in record { unwritten = h.unwritten; dial = h.dial };
    left = keys.clients.left;
    dials_once = keys.clients.dials_once;
  }

  order_kept : (k : ℕ) → (w.apps k).came ≡ true → InOrder next k
  order_kept k came =
      let old = keys.ordered k came in record { inward = by ((w.apps k).stream == f) refl old.inward; outward = old.outward; up = old.up; down = old.down }
    where
      by : (b : Bool) → ((w.apps k).stream == f) ≡ b → in_ordered (stream_in_item (w.streams (w.apps k).stream).connect (w.apps k).number (w.apps k).dial) (w.streams (w.apps k).stream).up ≡ true
          → in_ordered (stream_in_item (w.streams (w.apps k).stream).connect (w.apps k).number (w.apps k).dial) (cond b (all_joined (w.streams f).up) (w.streams (w.apps k).stream).up) ≡ true
      by false e h = h
      by true e h =
          let at : (w.apps k).stream ≡ f = eqb-true (w.apps k).stream f e in
          let list : (w.streams (w.apps k).stream).up ≡ (w.streams f).up = ap (λ i. (w.streams i).up) at in
          stream_ordered (w.streams (w.apps k).stream).connect (w.apps k).number (w.apps k).dial (w.streams f).up (ap (λ i. (w.streams i).connect) at ∙ may)
          (subst (λ ps. in_ordered (stream_in_item (w.streams (w.apps k).stream).connect (w.apps k).number (w.apps k).dial) ps ≡ true) list h)

  keeps : Keys next
  keeps = record {
    server = server_kept;
    agents = agents_same w next.streams next.apps (λ d h. h) keys.agents;
    clients = clients_kept;
    ordered = order_kept;
    facts = λ k came. facts_followed (tunnel w k) (tunnel next k) (joins_lift w f may k came) (keys.facts k came);
  }

pub joins_keep : (w : World) (f : ℕ) → Keys w → May (JoinsIn f) w → Keys (after (JoinsIn f) w)
joins_keep w f keys may = keeps w f keys may
