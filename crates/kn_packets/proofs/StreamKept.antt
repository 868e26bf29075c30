-- What happens at the far end of a stream that has begun keeps the facts on keys.
use Rattle.std.proofs.Common.{◌≡◌, ◌++◌, ℕ, ℤ, pos, Bool, true, false, List, [], ◌∷◌, length, ◌⊎◌, inl, inr, sym, ap, ◌∙◌, subst}
use Rattle.kn_packet.specs.declared.packet.Packet.{Packet}
use Rattle.kn_packet.specs.declared.packet.Packet.TheVariants.{CloseReq, CloseRsp, Data, DialCls, DialReq, DialRsp, Drain, Other}
use Rattle.kn_server_core.specs.Isolation.{Each}
use Rattle.kn_edge_core.specs.declared.dial.Dial.{Dial}
use Rattle.kn_tunnel.specs.Kinds.{has_left}
use Rattle.kn_tunnel.specs.Tunnel.{Phase, Side}
use Rattle.kn_tunnel.proofs.AllSteps.{facts_followed}
use Rattle.kn_words.specs.In.{in_ordered, stream_in_item}
use Rattle.kn_words.specs.Out.{OutItem, out_ordered, stream_out_item}
use Rattle.kn_words.proofs.OutOrder.{out_order_rest}
use Rattle.kn_packets.specs.Keys.{AgentKeys, AnswerFits, ClientKeys, HasApp, InOrder, Keys, MakesDial, OfConnection, ReplyFits, RequestFits, RequestOf, ServerKeys, StreamOlder}
use Rattle.kn_packets.specs.Lifts.{Lifts}
use Rattle.kn_packets.specs.World.{World, WorldApp, WorldStream, tunnel}
use Rattle.kn_packets.proofs.AgentKept.{each_as, each_front, each_more, each_rear}

-- ---- the facts on agents speak of apps only where a dial has one
module _ (w : World) (S : ℕ → WorldStream) (A : ℕ → WorldApp) (apps : (d : ℕ) → HasApp w d → HasApp (record w { streams = S; apps = A }) d) where
  abbrev other : World
  other = record w { streams = S; apps = A }

  makes : (i : ℕ) (r : ℤ) → MakesDial w i r → MakesDial other i r
  makes i r m = record { dial = m.dial; asked = m.asked; on = m.on; undrawn = m.undrawn; app = apps m.dial m.app }

  reply_same : (i : ℕ) (p : Packet) → ReplyFits w i p → ReplyFits other i p
  reply_same i (DialRsp [] c r) h = record { dial = h.dial; cid = h.cid; asked = h.asked; named = h.named; on = h.on; drawn = h.drawn }
  reply_same i (DialRsp (x ∷ xs) c r) h = h
  reply_same i (DialReq protocol address random) h = tt
  reply_same i (Data c error bytes) h = tt
  reply_same i (CloseReq c) h = tt
  reply_same i (CloseRsp error c) h = tt
  reply_same i (DialCls random) h = tt
  reply_same i Drain h = tt
  reply_same i (Other number) h = tt

  request_same : (i : ℕ) (p : Packet) → RequestFits w i p → RequestFits other i p
  request_same i (DialReq protocol address random) h = makes i random h
  request_same i (DialRsp error c r) h = tt
  request_same i (Data c error bytes) h = tt
  request_same i (CloseReq c) h = tt
  request_same i (CloseRsp error c) h = tt
  request_same i (DialCls random) h = tt
  request_same i Drain h = tt
  request_same i (Other number) h = tt

  pub agents_same : AgentKeys w → AgentKeys other
  agents_same keys = record {
    cid_once = keys.cid_once;
    cid_app = λ d c h. apps d (keys.cid_app d c h);
    replies = λ i. each_as (ReplyFits w i) (ReplyFits other i) (reply_same i) (w.links i).up (keys.replies i);
    cids_older = keys.cids_older;
    ups_older = keys.ups_older;
    downs_older = keys.downs_older;
    connections_rise = keys.connections_rise;
    connections_older = keys.connections_older;
    unwritten = keys.unwritten;
    dials = λ i. each_as (λ (x : Dial). MakesDial w i x.random) (λ (x : Dial). MakesDial other i x.random) (λ x h. makes i x.random h) (w.agents i).dials (keys.dials i);
    requests = λ i. each_as (RequestFits w i) (RequestFits other i) (request_same i) (w.links i).down (keys.requests i);
    asked_once = keys.asked_once;
    lost = keys.lost;
  }

-- ---- an end loses its stream, fronts and rears of lists are left, bytes of a CONNECT connection are queued
abbrev pub shifted : World → (ℕ → Bool) → (ℕ → List Packet) → (ℕ → List Packet) → (ℕ → Phase) → (ℕ → Side) → World
shifted w C U D P S = record w { streams = λ f. record (w.streams f) { client = C f; up = U f; down = D f }; apps = λ k. record (w.apps k) { phase = P k; side = S k } }

abbrev pub Queue : World → ℕ → List Packet → Type 0
Queue w f ps = ((rest : List Packet) × (ps ++ rest ≡ (w.streams f).up)) ⊎ (((w.streams f).connect ≡ true) × (bytes : List ℕ) × (ps ≡ (w.streams f).up ++ Data (pos 0) [] bytes ∷ []))

pub record Shift (w : World) (C : ℕ → Bool) (U D : ℕ → List Packet) (P : ℕ → Phase) (S : ℕ → Side) : Type 0 where
  pub client : (f : ℕ) → C f ≡ true → (w.streams f).client ≡ true
  pub up : (f : ℕ) → Queue w f (U f)
  pub down : (f : ℕ) → (taken : List Packet) × (taken ++ D f ≡ (w.streams f).down)
  pub phase : (k : ℕ) → (w.streams (w.apps k).stream).connect ≡ false → P k ≡ (w.apps k).phase
  pub unwritten : (k : ℕ) → (S k).unwritten ≡ (w.apps k).side.unwritten
  pub inward : (k : ℕ) → (w.apps k).came ≡ true → in_ordered (stream_in_item (w.streams (w.apps k).stream).connect (w.apps k).number (w.apps k).dial) (U (w.apps k).stream) ≡ true

pub out_rear_ordered : (item : Packet → OutItem) (taken ps : List Packet) → out_ordered item (taken ++ ps) ≡ true → out_ordered item ps ≡ true
out_rear_ordered item [] ps h = h
out_rear_ordered item (p ∷ taken) ps h = out_rear_ordered item taken ps (out_order_rest item p (taken ++ ps) h)

module _ (w : World) (C : ℕ → Bool) (U D : ℕ → List Packet) (P : ℕ → Phase) (S : ℕ → Side) (keys : Keys w) (shift : Shift w C U D P S) where
  abbrev next : World
  next = shifted w C U D P S

  ups : (Q : Packet → Type 0) (f : ℕ) → Each Q (w.streams f).up → ((bytes : List ℕ) → Q (Data (pos 0) [] bytes)) → Each Q (U f)
  ups Q f old data_is = here (shift.up f)
    where
      here : Queue w f (U f) → Each Q (U f)
      here (inl left) = each_front Q (U f) left.0 (subst (λ ps. Each Q ps) (sym left.1) old)
      here (inr more) = subst (λ ps. Each Q ps) (sym more.2) (each_more Q (w.streams f).up (Data (pos 0) [] more.1) old (data_is more.1))

  downs : (Q : Packet → Type 0) (f : ℕ) → Each Q (w.streams f).down → Each Q (D f)
  downs Q f old = each_rear Q (shift.down f).0 (D f) (subst (λ ps. Each Q ps) (sym (shift.down f).1) old)

  server_kept : ServerKeys next
  server_kept = record {
    orderly = keys.server.orderly;
    from_one = keys.server.from_one;
    links_up = keys.server.links_up;
    fronts_up = keys.server.fronts_up;
    awaited = λ d e h. let f = keys.server.awaited d e h in record { link = f.link; front = f.front; random = f.random; app = f.app; has_app = f.has_app };
    held = λ d e h. let f = keys.server.held d e h in record { link = f.link; cid = f.cid; drawn = f.drawn; named = f.named; front = f.front };
    dials_older = keys.server.dials_older;
    ups_older = keys.server.ups_older;
    downs_older = keys.server.downs_older;
    agents_older = keys.server.agents_older;
    ins_older = λ f. ups (StreamOlder w.server.next_dial) f (keys.server.ins_older f) (λ bytes. keys.server.from_one);
    outs_older = λ f. downs (StreamOlder w.server.next_dial) f (keys.server.outs_older f);
  }

  request_kept : (f : ℕ) (p : Packet) → RequestOf w f p → RequestOf next f p
  request_kept f (DialReq protocol address random) h = h
  request_kept f (DialRsp error c r) h = tt
  request_kept f (Data c error bytes) h = tt
  request_kept f (CloseReq c) h = tt
  request_kept f (CloseRsp error c) h = tt
  request_kept f (DialCls random) h = h
  request_kept f Drain h = tt
  request_kept f (Other number) h = tt

  answer_kept : (f : ℕ) (p : Packet) → AnswerFits w f p → AnswerFits next f p
  answer_kept f (DialRsp [] c r) h = h
  answer_kept f (DialRsp (x ∷ xs) c r) h = h
  answer_kept f (DialReq protocol address random) h = tt
  answer_kept f (Data c error bytes) h = tt
  answer_kept f (CloseReq c) h = tt
  answer_kept f (CloseRsp error c) h = tt
  answer_kept f (DialCls random) h = tt
  answer_kept f Drain h = tt
  answer_kept f (Other number) h = tt

  clients_kept : ClientKeys next
  clients_kept = record {
    begun = keys.clients.begun;
    unfinished = keys.clients.unfinished;
    alone = λ f g c of_f of_g at_f at_g. keys.clients.alone f g c of_f of_g (shift.client f at_f) (shift.client g at_g);
    apart = keys.clients.apart;
    connect_one = keys.clients.connect_one;
    connection = keys.clients.connection;
    connect_ins = λ f c. ups OfConnection f (keys.clients.connect_ins f c) (λ bytes. tt);
    requests = λ f. ups (RequestOf next f) f (each_as (RequestOf w f) (RequestOf next f) (request_kept f) (w.streams f).up (keys.clients.requests f)) (λ bytes. tt);
    answers = λ f c. downs (AnswerFits next f) f (each_as (AnswerFits w f) (AnswerFits next f) (answer_kept f) (w.streams f).down (keys.clients.answers f c));
    known = keys.clients.known;
    apps_rise = keys.clients.apps_rise;
    tops = keys.clients.tops;
    listed = λ k x came c f. let h = keys.clients.listed k x came c f in record { unwritten = h.unwritten ∙ sym (ap length (shift.unwritten k)); dial = h.dial };
    left = λ k came c none. ap has_left (shift.phase k c) ∙ keys.clients.left k came c none;
    dials_once = keys.clients.dials_once;
  }

  order_kept : (k : ℕ) → (w.apps k).came ≡ true → InOrder next k
  order_kept k came =
      let old = keys.ordered k came in record {
        inward = shift.inward k came;
        outward = out_rear_ordered (stream_out_item (w.streams (w.apps k).stream).connect (w.apps k).number (w.apps k).dial) (shift.down (w.apps k).stream).0 (D (w.apps k).stream)
            (subst (λ ps. out_ordered (stream_out_item (w.streams (w.apps k).stream).connect (w.apps k).number (w.apps k).dial) ps ≡ true) (sym (shift.down (w.apps k).stream).1) old.outward);
        up = old.up;
        down = old.down;
      }

  pub shift_keeps : Lifts w next → Keys next
  shift_keeps lifts = record {
    server = server_kept;
    agents = agents_same w next.streams next.apps (λ d h. h) keys.agents;
    clients = clients_kept;
    ordered = order_kept;
    facts = λ k came. facts_followed (tunnel w k) (tunnel next k) (lifts k came) (keys.facts k came);
  }
