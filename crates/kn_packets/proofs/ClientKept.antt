-- A step of a client, by which no app comes, keeps the facts on keys.
use Rattle.std.proofs.Common.{◌≡◌, ◌≢◌, ◌≤◌, ◌==◌, ◌&&◌, ◌++◌, ℕ, ℤ, pos, Bool, true, false, not, cond, List, [], ◌∷◌, length, Option, Some, None, refl, sym, ap, ◌∙◌, eqb-true, subst}
use Rattle.kn_packet.specs.declared.packet.Packet.{Packet}
use Rattle.kn_packet.specs.declared.packet.Packet.TheVariants.{CloseReq, CloseRsp, Data, DialCls, DialReq, DialRsp, Drain, Other}
use Rattle.kn_tables.specs.Lists.{IsRising, first_where}
use Rattle.kn_server_core.specs.Isolation.{Each}
use Rattle.kn_edge_core.specs.ClientTables.{is_app}
use Rattle.kn_edge_core.specs.Steps.{ClientStep}
use Rattle.kn_edge_core.specs.declared.app.App.{App}
use Rattle.kn_edge_core.specs.declared.app.AppState.{AppState}
use Rattle.kn_edge_core.specs.declared.app.AppState.TheVariants as app
use Rattle.kn_edge_core.specs.declared.client_state.ClientState.{ClientState}
use Rattle.kn_edge_core.specs.declared.dial.Dial.{Dial}
use Rattle.kn_tunnel.specs.Kinds.{has_left, is_gone}
use Rattle.kn_tunnel.specs.Tunnel.{Side}
use Rattle.kn_tunnel.proofs.AllSteps.{facts_followed}
use Rattle.kn_words.specs.In.{in_ordered, stream_in_item}
use Rattle.kn_words.specs.Out.{out_ordered, stream_out_item}
use Rattle.kn_words.proofs.InOrder.{in_prefix_ordered}
use Rattle.kn_words.proofs.OutOrder.{out_order_rest}
use Rattle.kn_packets.specs.Keys.{AgentKeys, AnswerFits, ClientKeys, HasApp, InOrder, IsAppOf, Keys, ListedFits, MakesDial, OfConnection, ReplyFits, RequestFits, RequestOf, ServerKeys, StreamOlder}
use Rattle.kn_packets.specs.Lifts.{Lifts}
use Rattle.kn_packets.specs.Moves.{client_stepped, is_of_client, leaves_as, phase_after}
use Rattle.kn_packets.specs.Outputs.{for_app, from_client, queued}
use Rattle.kn_packets.specs.World.{World, WorldApp, WorldStream, tunnel}
use Rattle.kn_packets.proofs.AgentKept.{each_as, each_front, each_queued, each_rear}

-- ---- the world in which the step is made: of the lists of streams fronts and rears are left, streams were lost, and apps have handed or got bytes
abbrev pub based : World → (ℕ → List Packet) → (ℕ → List Packet) → (ℕ → Bool) → (ℕ → Side) → World
based w U D K S = record w { streams = λ i. record (w.streams i) { up = U i; down = D i; client = K i }; apps = λ k. record (w.apps k) { side = S k } }

pub record Parts (w : World) (U D : ℕ → List Packet) (K : ℕ → Bool) : Type 0 where
  pub up : (i : ℕ) → (rest : List Packet) × (U i ++ rest ≡ (w.streams i).up)
  pub down : (i : ℕ) → (taken : List Packet) × (taken ++ D i ≡ (w.streams i).down)
  pub client : (i : ℕ) → K i ≡ true → (w.streams i).client ≡ true

-- a packet that a client sends on a stream
abbrev pub Told : World → ℕ → Packet → Type 0
Told w f p = StreamOlder w.server.next_dial p × RequestOf w f p

-- what an app on the client's list has come to
pub record Fits (w : World) (k : ℕ) (x : App) (bytes : List ℕ) : Type 0 where
  pub unwritten : x.unwritten ≡ length bytes
  pub dial : x.state ≢ app.Dialling → (d : ℕ) × ((w.apps k).dial ≡ Some d) × (x.connect_id ≡ pos d)

pub record Calm (w : World) (c : ℕ) (s : ClientStep) (U D : ℕ → List Packet) (K : ℕ → Bool) (S : ℕ → Side) : Type 0 where
  pub parts : Parts w U D K
  pub sides : (k : ℕ) → is_of_client c (w.streams (w.apps k).stream) ≡ false → S k ≡ (w.apps k).side
  pub top : s.state.top_app ≡ (w.clients c).top_app
  pub told : (f : ℕ) → is_of_client c (w.streams f) ≡ true → K f ≡ true → Each (Told w f) (from_client s.outs)
  pub rise : IsRising (λ (x : App). x.number) s.state.apps
  pub known : (n : ℕ) (x : App) → first_where (is_app n) s.state.apps ≡ Some x → (k : ℕ) × IsAppOf w c n k
  pub listed : (k : ℕ) (x : App) → (w.apps k).came ≡ true → is_of_client c (w.streams (w.apps k).stream) ≡ true → first_where (is_app (w.apps k).number) s.state.apps ≡ Some x → Fits w k x (for_app (w.apps k).number s.outs (S k).unwritten)
  pub order : (k : ℕ) → (w.apps k).came ≡ true → is_of_client c (w.streams (w.apps k).stream) ≡ true → K (w.apps k).stream ≡ true
      → in_ordered (stream_in_item false (w.apps k).number (w.apps k).dial) (queued (not (is_gone (w.streams (w.apps k).stream).front)) (U (w.apps k).stream) (from_client s.outs)) ≡ true

-- ---- a stream is a client's
pub split : (a b : Bool) → (a && b) ≡ true → (a ≡ true) × (b ≡ true)
split true b e = (refl, e)
split false b e = absurd cc

pub not_connect : (c : ℕ) (s : WorldStream) → is_of_client c s ≡ true → s.connect ≡ false
not_connect c s h = here s.connect (s.owner == c) h
  where
    here : (a b : Bool) → (not a && b) ≡ true → a ≡ false
    here false b e = refl
    here true b e = absurd cc

pub owned : (c : ℕ) (s : WorldStream) → is_of_client c s ≡ true → s.owner ≡ c
owned c s h = eqb-true s.owner c (split (not s.connect) (s.owner == c) h).1

pub rear_ordered : (connect : Bool) (n : ℕ) (dial : Option ℕ) (taken ps : List Packet) → out_ordered (stream_out_item connect n dial) (taken ++ ps) ≡ true → out_ordered (stream_out_item connect n dial) ps ≡ true
rear_ordered connect n dial [] ps h = h
rear_ordered connect n dial (p ∷ taken) ps h = rear_ordered connect n dial taken ps (out_order_rest (stream_out_item connect n dial) p (taken ++ ps) h)

has_left_as : (itself : Bool) (s : AppState) → has_left (leaves_as itself s) ≡ true
has_left_as true app.Dialling = refl
has_left_as false app.Dialling = refl
has_left_as itself app.Open = refl
has_left_as itself app.Closing = refl
has_left_as itself app.Lingering = refl

-- ---- the facts on agents speak of apps only where a dial has one
module _ (w : World) (C : ℕ → ClientState) (S : ℕ → WorldStream) (A : ℕ → WorldApp) (apps : (d : ℕ) → HasApp w d → HasApp (record w { clients = C; streams = S; apps = A }) d) where
  abbrev other : World
  other = record w { clients = C; streams = S; apps = A }

  makes : (i : ℕ) (r : ℤ) → MakesDial w i r → MakesDial other i r
  makes i r m = record { dial = m.dial; asked = m.asked; on = m.on; undrawn = m.undrawn; app = apps m.dial m.app }

  reply_kept : (i : ℕ) (p : Packet) → ReplyFits w i p → ReplyFits other i p
  reply_kept i (DialRsp [] z r) h = record { dial = h.dial; cid = h.cid; asked = h.asked; named = h.named; on = h.on; drawn = h.drawn }
  reply_kept i (DialRsp (x ∷ xs) z r) h = h
  reply_kept i (DialReq protocol address random) h = tt
  reply_kept i (Data z error bytes) h = tt
  reply_kept i (CloseReq z) h = tt
  reply_kept i (CloseRsp error z) h = tt
  reply_kept i (DialCls random) h = tt
  reply_kept i Drain h = tt
  reply_kept i (Other number) h = tt

  request_kept : (i : ℕ) (p : Packet) → RequestFits w i p → RequestFits other i p
  request_kept i (DialReq protocol address random) h = makes i random h
  request_kept i (DialRsp error z r) h = tt
  request_kept i (Data z error bytes) h = tt
  request_kept i (CloseReq z) h = tt
  request_kept i (CloseRsp error z) h = tt
  request_kept i (DialCls random) h = tt
  request_kept i Drain h = tt
  request_kept i (Other number) h = tt

  pub agents_same : AgentKeys w → AgentKeys other
  agents_same keys = record {
    cid_once = keys.cid_once;
    cid_app = λ d n h. apps d (keys.cid_app d n h);
    replies = λ i. each_as (ReplyFits w i) (ReplyFits other i) (reply_kept i) (w.links i).up (keys.replies i);
    cids_older = keys.cids_older;
    ups_older = keys.ups_older;
    downs_older = keys.downs_older;
    connections_rise = keys.connections_rise;
    connections_older = keys.connections_older;
    unwritten = keys.unwritten;
    dials = λ i. each_as (λ (x : Dial). MakesDial w i x.random) (λ (x : Dial). MakesDial other i x.random) (λ x h. makes i x.random h) (w.agents i).dials (keys.dials i);
    requests = λ i. each_as (RequestFits w i) (RequestFits other i) (request_kept i) (w.links i).down (keys.requests i);
    asked_once = keys.asked_once;
    lost = keys.lost;
  }

module _ (w : World) (c : ℕ) (itself : Bool) (s : ClientStep) (U D : ℕ → List Packet) (K : ℕ → Bool) (S : ℕ → Side) (keys : Keys w) (calm : Calm w c s U D K S) where
  abbrev next : World
  next = client_stepped c itself s (based w U D K S)

  ups : (P : Packet → Type 0) (f : ℕ) → Each P (w.streams f).up → (is_of_client c (w.streams f) ≡ true → K f ≡ true → Each P (from_client s.outs)) → Each P (next.streams f).up
  ups P f old told = here (is_of_client c (w.streams f)) (K f) refl refl
    where
      left : Each P (U f)
      left = each_front P (U f) (calm.parts.up f).0 (subst (λ ps. Each P ps) (sym (calm.parts.up f).1) old)

      here : (a b : Bool) → is_of_client c (w.streams f) ≡ a → K f ≡ b → Each P (cond (a && b) (queued (not (is_gone (w.streams f).front)) (U f) (from_client s.outs)) (U f))
      here true true of has = each_queued P (not (is_gone (w.streams f).front)) (U f) (from_client s.outs) left (told of has)
      here true false of has = left
      here false b of has = left

  downs : (P : Packet → Type 0) (f : ℕ) → Each P (w.streams f).down → Each P (D f)
  downs P f old = each_rear P (calm.parts.down f).0 (D f) (subst (λ ps. Each P ps) (sym (calm.parts.down f).1) old)

  at_client : (Q : ClientState → Type 0) (i : ℕ) → Q (w.clients i) → (i ≡ c → Q s.state) → Q (next.clients i)
  at_client Q i old new = here (i == c) refl
    where
      here : (b : Bool) → (i == c) ≡ b → Q (cond b s.state (w.clients i))
      here true on = new (eqb-true i c on)
      here false off = old

  -- ---- the server
  server_kept : ServerKeys next
  server_kept = record {
    orderly = keys.server.orderly;
    from_one = keys.server.from_one;
    links_up = keys.server.links_up;
    fronts_up = keys.server.fronts_up;
    awaited = λ d e h. let f = keys.server.awaited d e h in record { link = f.link; front = f.front; random = f.random; app = f.app; has_app = f.has_app };
    held = λ d e h. let f = keys.server.held d e h in record { link = f.link; cid = f.cid; drawn = f.drawn; named = f.named; front = f.front };
    dials_older = keys.server.dials_older;
    ups_older = keys.server.ups_older;
    downs_older = keys.server.downs_older;
    agents_older = keys.server.agents_older;
    ins_older = λ f. ups (StreamOlder w.server.next_dial) f (keys.server.ins_older f) (λ of has. each_as (Told w f) (StreamOlder w.server.next_dial) (λ p h. h.0) (from_client s.outs) (calm.told f of has));
    outs_older = λ f. downs (StreamOlder w.server.next_dial) f (keys.server.outs_older f);
  }

  -- ---- the clients
  in_request_kept : (f : ℕ) (p : Packet) → RequestOf w f p → RequestOf next f p
  in_request_kept f (DialReq protocol address random) h = h
  in_request_kept f (DialRsp error z r) h = tt
  in_request_kept f (Data z error bytes) h = tt
  in_request_kept f (CloseReq z) h = tt
  in_request_kept f (CloseRsp error z) h = tt
  in_request_kept f (DialCls random) h = h
  in_request_kept f Drain h = tt
  in_request_kept f (Other number) h = tt

  answer_kept : (f : ℕ) (p : Packet) → AnswerFits w f p → AnswerFits next f p
  answer_kept f (DialRsp [] z r) h = h
  answer_kept f (DialRsp (x ∷ xs) z r) h = h
  answer_kept f (DialReq protocol address random) h = tt
  answer_kept f (Data z error bytes) h = tt
  answer_kept f (CloseReq z) h = tt
  answer_kept f (CloseRsp error z) h = tt
  answer_kept f (DialCls random) h = tt
  answer_kept f Drain h = tt
  answer_kept f (Other number) h = tt

  listed_kept : (k : ℕ) (x : App) → (w.apps k).came ≡ true → (w.streams (w.apps k).stream).connect ≡ false → (b : Bool) → ((w.streams (w.apps k).stream).owner == c) ≡ b
      → first_where (is_app (w.apps k).number) (cond b s.state (w.clients (w.streams (w.apps k).stream).owner)).apps ≡ Some x → ListedFits next k x
  listed_kept k x came cf true on f =
      let h = calm.listed k x came (rw (cf, on) refl) f in record {
        unwritten = rw (cf, on, f) h.unwritten;
        dial = h.dial;
      }
  listed_kept k x came cf false off f =
      let h = keys.clients.listed k x came cf f in record {
        unwritten = rw (cf, off, calm.sides k (rw (cf, off) refl)) h.unwritten;
        dial = h.dial;
      }

  left_kept : (k : ℕ) → (w.apps k).came ≡ true → (w.streams (w.apps k).stream).connect ≡ false → (b : Bool) → ((w.streams (w.apps k).stream).owner == c) ≡ b
      → first_where (is_app (w.apps k).number) (cond b s.state (w.clients (w.streams (w.apps k).stream).owner)).apps ≡ None → has_left (next.apps k).phase ≡ true
  left_kept k came cf true on f = rw (cf, on, f) (by_old (first_where (is_app (w.apps k).number) (w.clients c).apps) refl)
    where
      owner : (w.streams (w.apps k).stream).owner ≡ c
      owner = eqb-true (w.streams (w.apps k).stream).owner c on

      by_old : (o : Option App) → first_where (is_app (w.apps k).number) (w.clients c).apps ≡ o → has_left (phase_after itself o None (w.apps k).phase) ≡ true
      by_old (Some old) e = has_left_as itself old.state
      by_old None e = keys.clients.left k came cf (ap (λ i. first_where (is_app (w.apps k).number) (w.clients i).apps) owner ∙ e)
  left_kept k came cf false off f = rw (cf, off) (keys.clients.left k came cf f)

  clients_kept : ClientKeys next
  clients_kept = record {
    begun = keys.clients.begun;
    unfinished = keys.clients.unfinished;
    alone = λ f g i of_f of_g has_f has_g. keys.clients.alone f g i of_f of_g (calm.parts.client f has_f) (calm.parts.client g has_g);
    apart = keys.clients.apart;
    connect_one = keys.clients.connect_one;
    connection = keys.clients.connection;
    connect_ins = λ f ct. ups OfConnection f (keys.clients.connect_ins f ct) (λ of has. let cf = not_connect c (w.streams f) of in absurd (cc (ct, cf)));
    requests = λ f. ups (RequestOf next f) f (each_as (RequestOf w f) (RequestOf next f) (in_request_kept f) (w.streams f).up (keys.clients.requests f))
        (λ of has. each_as (Told w f) (RequestOf next f) (λ p h. in_request_kept f p h.1) (from_client s.outs) (calm.told f of has));
    answers = λ f cf. downs (AnswerFits next f) f (each_as (AnswerFits w f) (AnswerFits next f) (answer_kept f) (w.streams f).down (keys.clients.answers f cf));
    known = λ i n x. at_client (λ a. first_where (is_app n) a.apps ≡ Some x → (k : ℕ) × IsAppOf w i n k) i (keys.clients.known i n x) (λ e h. subst (λ j. (k : ℕ) × IsAppOf w j n k) (sym e) (calm.known n x h));
    apps_rise = λ i. at_client (λ a. IsRising (λ (x : App). x.number) a.apps) i (keys.clients.apps_rise i) (λ e. calm.rise);
    tops = λ k came cf. at_client (λ a. (w.apps k).number ≤ a.top_app) (w.streams (w.apps k).stream).owner (keys.clients.tops k came cf)
        (λ e. subst (λ n. (w.apps k).number ≤ n) (sym calm.top) (subst (λ i. (w.apps k).number ≤ (w.clients i).top_app) e (keys.clients.tops k came cf)));
    listed = λ k x came cf f. listed_kept k x came cf ((w.streams (w.apps k).stream).owner == c) refl f;
    left = λ k came cf f. left_kept k came cf ((w.streams (w.apps k).stream).owner == c) refl f;
    dials_once = keys.clients.dials_once;
  }

  -- ---- the order
  order_kept : (k : ℕ) → (w.apps k).came ≡ true → InOrder next k
  order_kept k came =
      let old = keys.ordered k came in record {
        inward = in_kept old.inward (is_of_client c (w.streams (w.apps k).stream)) (K (w.apps k).stream) refl refl;
        outward = rear_ordered (w.streams (w.apps k).stream).connect (w.apps k).number (w.apps k).dial (calm.parts.down (w.apps k).stream).0 (D (w.apps k).stream)
            (subst (λ ps. out_ordered (stream_out_item (w.streams (w.apps k).stream).connect (w.apps k).number (w.apps k).dial) ps ≡ true) (sym (calm.parts.down (w.apps k).stream).1) old.outward);
        up = old.up;
        down = old.down;
      }
    where
      in_kept : in_ordered (stream_in_item (w.streams (w.apps k).stream).connect (w.apps k).number (w.apps k).dial) (w.streams (w.apps k).stream).up ≡ true
          → (a b : Bool) → is_of_client c (w.streams (w.apps k).stream) ≡ a → K (w.apps k).stream ≡ b
          → in_ordered (stream_in_item (w.streams (w.apps k).stream).connect (w.apps k).number (w.apps k).dial)
          (cond (a && b) (queued (not (is_gone (w.streams (w.apps k).stream).front)) (U (w.apps k).stream) (from_client s.outs)) (U (w.apps k).stream)) ≡ true
      in_kept old true true of has = rw (not_connect c (w.streams (w.apps k).stream) of) (calm.order k came of has)
      in_kept old true false of has = in_prefix_ordered (stream_in_item (w.streams (w.apps k).stream).connect (w.apps k).number (w.apps k).dial) (U (w.apps k).stream) (calm.parts.up (w.apps k).stream).0
          (subst (λ ps. in_ordered (stream_in_item (w.streams (w.apps k).stream).connect (w.apps k).number (w.apps k).dial) ps ≡ true) (sym (calm.parts.up (w.apps k).stream).1) old)
      in_kept old false b of has = in_prefix_ordered (stream_in_item (w.streams (w.apps k).stream).connect (w.apps k).number (w.apps k).dial) (U (w.apps k).stream) (calm.parts.up (w.apps k).stream).0
          (subst (λ ps. in_ordered (stream_in_item (w.streams (w.apps k).stream).connect (w.apps k).number (w.apps k).dial) ps ≡ true) (sym (calm.parts.up (w.apps k).stream).1) old)

  pub calm_keeps : Lifts w next → Keys next
  calm_keeps lifts = record {
    server = server_kept;
    agents = agents_same w next.clients next.streams next.apps (λ d h. h) keys.agents;
    clients = clients_kept;
    ordered = order_kept;
    facts = λ k came. facts_followed (tunnel w k) (tunnel next k) (lifts k came) (keys.facts k came);
  }
