-- A CONNECT app that comes keeps the facts on keys: it is on a stream that has just begun, and has no dial.
use Rattle.std.proofs.Common.{◌≡◌, ◌==◌, ◌<◌, ◌≤◌, ℕ, ℤ, pos, Bool, true, false, not, cond, List, [], ◌∷◌, length, Some, None, inl, refl, sym, ap, ◌∙◌, eqb-true, subst}
use Rattle.std.specs.Prelude.{codes}
use Rattle.kn_packet.specs.declared.packet.Packet.{Packet}
use Rattle.kn_packet.specs.declared.packet.Packet.TheVariants.{CloseReq, CloseRsp, Data, DialCls, DialReq, DialRsp, Drain, Other}
use Rattle.kn_tables.specs.Lists.{first_where}
use Rattle.kn_tables.specs.declared.awaited_entry.AwaitedEntry.{AwaitedEntry}
use Rattle.kn_server_core.specs.Isolation.{Each}
use Rattle.kn_edge_core.specs.ClientTables.{is_app}
use Rattle.kn_edge_core.specs.declared.app.App.{App}
use Rattle.kn_tunnel.specs.Facts.{Facts}
use Rattle.kn_tunnel.specs.Kinds.{has_left}
use Rattle.kn_tunnel.proofs.AllSteps.{facts_followed, facts_start}
use Rattle.kn_words.specs.Down.{down_item, down_ordered}
use Rattle.kn_words.specs.In.{in_ordered, stream_in_item}
use Rattle.kn_words.specs.Numbers.{is_drawn_number, is_number}
use Rattle.kn_words.specs.Out.{out_ordered, stream_out_item}
use Rattle.kn_words.specs.Up.{up_item, up_ordered}
use Rattle.kn_packets.specs.Keys.{AnswerFits, AskedOn, AwaitedFits, ClientKeys, HasApp, InOrder, IsAppOf, Keys, ListedFits, OfConnection, RequestOf, ServerKeys, StreamOlder}
use Rattle.kn_packets.specs.Moves.{ConnectComes, May, after, app_begins, in_is, is_of_client, new_app, new_stream, stream_begins}
use Rattle.kn_packets.specs.Outputs.{asks}
use Rattle.kn_packets.specs.World.{World, WorldApp, tunnel}
use Rattle.kn_packets.proofs.AgentKept.{each_as}
use Rattle.kn_packets.proofs.Connections.{connect_comes_lifts, connect_comes_starts, off_new}
use Rattle.kn_packets.proofs.Fresh.{eqb_refl}
use Rattle.kn_packets.proofs.StreamBegins.{begins_keeps}
use Rattle.kn_packets.proofs.StreamKept.{agents_same}
use Rattle.kn_packets.proofs.Taken.{and_first, and_second, not_false}

-- its stream has begun; now its request is on it
module _ (w : World) (a f : ℕ) (address : List ℕ) (keys : Keys w) (at : w.streams f ≡ new_stream true 0 a) (not_yet : (w.apps a).came ≡ false) (off : (k : ℕ) → (w.apps k).came ≡ true → ((w.apps k).stream == f) ≡ false) where
  abbrev head : Packet
  head = DialReq (codes "tcp") address (pos 0)

  abbrev next : World
  next = in_is f (head ∷ []) (app_begins a (new_app f 0) w)

  -- what holds of an app
  at_app : (Q : WorldApp → Type 0) (k : ℕ) → (k ≡ a → Q (new_app f 0)) → Q (w.apps k) → Q (next.apps k)
  at_app Q k fits old = here (k == a) refl
    where
      here : (b : Bool) → (k == a) ≡ b → Q (cond b (new_app f 0) (w.apps k))
      here true is = fits (eqb-true k a is)
      here false differ = old

  at_ins : (Q : List Packet → Type 0) (i : ℕ) → (i ≡ f → Q (head ∷ [])) → Q (w.streams i).up → Q (next.streams i).up
  at_ins Q i fits old = here (i == f) refl
    where
      here : (b : Bool) → (i == f) ≡ b → Q (cond b (head ∷ []) (w.streams i).up)
      here true on = fits (eqb-true i f on)
      here false other = old

  other : (k : ℕ) → (w.apps k).came ≡ true → (k == a) ≡ false
  other k came = here (k == a) refl
    where
      here : (b : Bool) → (k == a) ≡ b → b ≡ false
      here false e = refl
      here true e = let yes : (w.apps a).came ≡ true = ap (λ j. (w.apps j).came) (sym (eqb-true k a e)) ∙ came in absurd (cc (yes, not_yet))

  app_same : (k : ℕ) → (w.apps k).came ≡ true → next.apps k ≡ w.apps k
  app_same k came = rw (other k came) refl

  not_on : (k : ℕ) → (w.apps k).came ≡ true → (w.apps k).stream ≡ f → ⊥
  not_on k came on = let yes : ((w.apps k).stream == f) ≡ true = rw on (eqb_refl f) in absurd (cc (yes, off k came))

  has_app : (d : ℕ) → HasApp w d → HasApp next d
  has_app d h = (h.0, subst (λ x. x.came ≡ true) (sym (app_same h.0 h.1)) h.1, subst (λ x. x.dial ≡ Some d) (sym (app_same h.0 h.1)) h.2)

  is_connection : (w.streams f).connect ≡ true
  is_connection = ap (λ s. s.connect) at

  awaited_kept : (d : ℕ) (e : AwaitedEntry) → AwaitedFits w d e → AwaitedFits next d e
  awaited_kept d e fits = record {
    link = fits.link;
    front = λ k. at_app (λ x. x.came ≡ true → x.dial ≡ Some d → x.stream ≡ e.front) k (λ is came de. absurd cc) (fits.front k);
    random = λ k. at_app (λ x. x.came ≡ true → x.dial ≡ Some d → asks (w.streams x.stream).connect x.number e.random ≡ true) k (λ is came de. absurd cc) (fits.random k);
    app = λ k. at_app (λ x. x.came ≡ true → x.stream ≡ e.front → asks (w.streams x.stream).connect x.number e.random ≡ true → x.dial ≡ Some d) k
        (λ is came on own. absurd (not_on fits.has_app.0 fits.has_app.1 (fits.front fits.has_app.0 fits.has_app.1 fits.has_app.2 ∙ sym on))) (fits.app k);
    has_app = has_app d fits.has_app;
  }

  server_kept : ServerKeys next
  server_kept = record {
    orderly = keys.server.orderly;
    from_one = keys.server.from_one;
    links_up = keys.server.links_up;
    fronts_up = keys.server.fronts_up;
    awaited = λ d e h. awaited_kept d e (keys.server.awaited d e h);
    held = λ d e h.
        let fits = keys.server.held d e h in record {
          link = fits.link;
          cid = fits.cid;
          drawn = fits.drawn;
          named = fits.named;
          front = λ k g. at_app (λ x. x.came ≡ true → x.dial ≡ Some d → e.front ≡ Some g → x.stream ≡ g) k (λ is came de. absurd cc) (fits.front k g);
        };
    dials_older = λ k d. at_app (λ x. x.came ≡ true → x.dial ≡ Some d → d < w.server.next_dial) k (λ is came de. absurd cc) (keys.server.dials_older k d);
    ups_older = keys.server.ups_older;
    downs_older = keys.server.downs_older;
    agents_older = keys.server.agents_older;
    ins_older = λ i. at_ins (λ ps. Each (StreamOlder w.server.next_dial) ps) i (λ on. (tt, tt)) (keys.server.ins_older i);
    outs_older = keys.server.outs_older;
  }

  -- a CONNECT app is no client's
  not_of_client : (c : ℕ) → is_of_client c (w.streams f) ≡ true → ⊥
  not_of_client c of_it = let client : (w.streams f).connect ≡ false = not_false (w.streams f).connect (and_first (not (w.streams f).connect) ((w.streams f).owner == c) of_it) in absurd (cc (client, is_connection))

  app_of : (c n k : ℕ) → IsAppOf next c n k → IsAppOf w c n k
  app_of c n k = at_app (λ x. (x.came ≡ true) × (is_of_client c (w.streams x.stream) ≡ true) × (x.number ≡ n) → IsAppOf w c n k) k (λ is h. absurd (not_of_client c h.1)) (λ h. h)

  of_app : (c n k : ℕ) → IsAppOf w c n k → IsAppOf next c n k
  of_app c n k h = subst (λ x. (x.came ≡ true) × (is_of_client c (w.streams x.stream) ≡ true) × (x.number ≡ n)) (sym (app_same k h.0)) h

  asked_kept : (i : ℕ) (random : ℤ) → AskedOn w i random → AskedOn next i random
  asked_kept i random h =
      (h.0, subst (λ x. x.came ≡ true) (sym (app_same h.0 h.1)) h.1, subst (λ x. x.stream ≡ i) (sym (app_same h.0 h.1)) h.2, subst (λ x. asks (w.streams i).connect x.number random ≡ true) (sym (app_same h.0 h.1)) h.3)

  request_kept : (i : ℕ) (p : Packet) → RequestOf w i p → RequestOf next i p
  request_kept i (DialReq protocol address random) h = asked_kept i random h
  request_kept i (DialRsp error c r) h = tt
  request_kept i (Data c error bytes) h = tt
  request_kept i (CloseReq c) h = tt
  request_kept i (CloseRsp error c) h = tt
  request_kept i (DialCls random) h = asked_kept i random h
  request_kept i Drain h = tt
  request_kept i (Other number) h = tt

  request_new : (i : ℕ) → i ≡ f → RequestOf next i head
  request_new i on = (a, rw (eqb_refl a) refl, rw (eqb_refl a) (sym on), rw (on, is_connection) refl)

  answer_kept : (i : ℕ) → (w.streams i).connect ≡ false → (p : Packet) → AnswerFits w i p → AnswerFits next i p
  answer_kept i client (DialRsp [] c r) h = (
    asked_kept i r h.0,
    λ k. at_app (λ x. x.came ≡ true → x.stream ≡ i → is_drawn_number x.dial c ≡ is_number x.number r) k
        (λ is came on. absurd (cc (ap (λ j. (w.streams j).connect) on, is_connection, client))) (h.1 k),
  )
  answer_kept i client (DialRsp (x ∷ xs) c r) h = asked_kept i r h
  answer_kept i client (DialReq protocol address random) h = tt
  answer_kept i client (Data c error bytes) h = tt
  answer_kept i client (CloseReq c) h = tt
  answer_kept i client (CloseRsp error c) h = tt
  answer_kept i client (DialCls random) h = tt
  answer_kept i client Drain h = tt
  answer_kept i client (Other number) h = tt

  listed_kept : (k : ℕ) (x : App) → (w.apps k).came ≡ true → ListedFits w k x → ListedFits next k x
  listed_kept k x came h = record {
    unwritten = h.unwritten ∙ ap (λ y. length y.side.unwritten) (sym (app_same k came));
    dial = λ differ. let its = h.dial differ in (its.0, ap (λ y. y.dial) (app_same k came) ∙ its.1, its.2);
  }

  abbrev One : ℕ → ℕ → WorldApp → WorldApp → Type 0
  One j k x y = x.came ≡ true → y.came ≡ true → x.stream ≡ y.stream → (w.streams x.stream).connect ≡ true → j ≡ k

  one : (j k : ℕ) → One j k (next.apps j) (next.apps k)
  one j k = at_app (λ x. One j k x (next.apps k)) j (λ is_j. at_app (λ y. One j k (new_app f 0) y) k (λ is_k came_j came_k on is. is_j ∙ sym is_k) (λ came_j came_k on is. absurd (not_on k came_k (sym on))))
      (at_app (λ y. One j k (w.apps j) y) k (λ is_k came_j came_k on is. absurd (not_on j came_j on)) (keys.clients.connect_one j k))

  clients_kept : ClientKeys next
  clients_kept = record {
    begun = λ k. at_app (λ x. x.came ≡ true → (w.streams x.stream).begun ≡ true) k (λ is came. ap (λ s. s.begun) at) (keys.clients.begun k);
    unfinished = keys.clients.unfinished;
    alone = keys.clients.alone;
    apart = λ j k c n at_j at_k. keys.clients.apart j k c n (app_of c n j at_j) (app_of c n k at_k);
    connect_one = one;
    connection = λ k. at_app (λ x. x.came ≡ true → (w.streams x.stream).connect ≡ true → (w.streams x.stream).app ≡ k) k (λ is came h. ap (λ s. s.app) at ∙ sym is) (keys.clients.connection k);
    connect_ins = λ i h. at_ins (λ ps. Each OfConnection ps) i (λ on. (tt, tt)) (keys.clients.connect_ins i h);
    requests = λ i. at_ins (λ ps. Each (RequestOf next i) ps) i (λ on. (request_new i on, tt)) (each_as (RequestOf w i) (RequestOf next i) (request_kept i) (w.streams i).up (keys.clients.requests i));
    answers = λ i client. each_as (AnswerFits w i) (AnswerFits next i) (answer_kept i client) (w.streams i).down (keys.clients.answers i client);
    known = λ c n x h. let of_it = keys.clients.known c n x h in (of_it.0, of_app c n of_it.0 of_it.1);
    apps_rise = keys.clients.apps_rise;
    tops = λ k. at_app (λ x. x.came ≡ true → (w.streams x.stream).connect ≡ false → x.number ≤ (w.clients (w.streams x.stream).owner).top_app) k (λ is came client. absurd (cc (client, is_connection))) (keys.clients.tops k);
    listed = λ k x. at_app (λ y. y.came ≡ true → (w.streams y.stream).connect ≡ false → first_where (is_app y.number) (w.clients (w.streams y.stream).owner).apps ≡ Some x → ListedFits next k x) k
        (λ is came client h. absurd (cc (client, is_connection))) (λ came client h. listed_kept k x came (keys.clients.listed k x came client h));
    left = λ k. at_app (λ y. y.came ≡ true → (w.streams y.stream).connect ≡ false → first_where (is_app y.number) (w.clients (w.streams y.stream).owner).apps ≡ None → has_left y.phase ≡ true) k
        (λ is came client h. absurd (cc (client, is_connection))) (keys.clients.left k);
    dials_once = λ j k d. at_app (λ x. x.came ≡ true → (next.apps k).came ≡ true → x.dial ≡ Some d → (next.apps k).dial ≡ Some d → j ≡ k) j (λ is came_j came_k de. absurd cc)
        (at_app (λ y. (w.apps j).came ≡ true → y.came ≡ true → (w.apps j).dial ≡ Some d → y.dial ≡ Some d → j ≡ k) k (λ is came_j came_k de_j de_k. absurd cc) (keys.clients.dials_once j k d));
  }

  order_kept : (k : ℕ) → (next.apps k).came ≡ true → InOrder next k
  order_kept k came = record {
    inward = at_app (λ x. x.came ≡ true → in_ordered (stream_in_item (w.streams x.stream).connect x.number x.dial) (cond (x.stream == f) (head ∷ []) (w.streams x.stream).up) ≡ true) k
        (λ is h. rw (eqb_refl f, is_connection) refl) (λ h. rw (off k h) (keys.ordered k h).inward) came;
    outward = at_app (λ x. x.came ≡ true → out_ordered (stream_out_item (w.streams x.stream).connect x.number x.dial) (w.streams x.stream).down ≡ true) k (λ is h. rw at refl) (λ h. (keys.ordered k h).outward) came;
    up = λ d. at_app (λ x. x.came ≡ true → x.dial ≡ Some d → up_ordered (up_item d (w.dials d).cid) (w.links (w.dials d).link).up ≡ true) k (λ is h de. absurd cc) (λ h. (keys.ordered k h).up d) came;
    down = λ d. at_app (λ x. x.came ≡ true → x.dial ≡ Some d → down_ordered (down_item (w.dials d).cid) (w.links (w.dials d).link).down ≡ true) k (λ is h de. absurd cc) (λ h. (keys.ordered k h).down d) came;
  }

  pub connect_begins_keeps : ((k : ℕ) → (next.apps k).came ≡ true → Facts (tunnel next k)) → Keys next
  connect_begins_keeps facts = record {
    server = server_kept;
    agents = agents_same w next.streams next.apps has_app keys.agents;
    clients = clients_kept;
    ordered = order_kept;
    facts = facts;
  }

module _ (w : World) (a f : ℕ) (address : List ℕ) (keys : Keys w) (may : May (ConnectComes a f address) w) where
  abbrev last : World
  last = after (ConnectComes a f address) w

  fresh : (w.streams f).begun ≡ false
  fresh = not_false (w.streams f).begun (and_second (not (w.apps a).came) (not (w.streams f).begun) may)

  none_yet : (w.apps a).came ≡ false
  none_yet = not_false (w.apps a).came (and_first (not (w.apps a).came) (not (w.streams f).begun) may)

  facts : (k : ℕ) → (last.apps k).came ≡ true → Facts (tunnel last k)
  facts k = here (k == a) refl
    where
      here : (b : Bool) → (k == a) ≡ b → (cond b (new_app f 0) (w.apps k)).came ≡ true → Facts (tunnel last k)
      here true is came = subst (λ t. Facts t) (sym (ap (tunnel last) (eqb-true k a is) ∙ connect_comes_starts w a f address)) (facts_start true)
      here false differ came = facts_followed (tunnel w k) (tunnel last k) (connect_comes_lifts w a f address keys may k came) (keys.facts k came)

  pub connect_comes_keep : Keys last
  connect_comes_keep = connect_begins_keeps (stream_begins f (new_stream true 0 a) w) a f address (begins_keeps w f true 0 a keys fresh (inl refl)) (rw (eqb_refl f) refl) none_yet
      (λ k came. off_new w f k keys came fresh) facts
