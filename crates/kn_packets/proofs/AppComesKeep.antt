-- An app that comes to its client keeps the facts on keys: its number is above all earlier ones, so nothing that is in flight has it.
use Rattle.std.proofs.Common.{◌≡◌, ◌≢◌, ◌==◌, ◌&&◌, ◌<◌, ◌≤◌, ℕ, ℤ, pos, Bool, true, false, not, cond, ltb, List, [], ◌∷◌, length, Option, Some, None, refl, sym, ap, ◌∙◌, eqb-true, subst, arith}
use Rattle.std.specs.Prelude.{codes}
use Rattle.kn_packet.specs.declared.packet.Packet.{Packet}
use Rattle.kn_packet.specs.declared.packet.Packet.TheVariants.{CloseReq, CloseRsp, Data, DialCls, DialReq, DialRsp, Drain, Other}
use Rattle.kn_tables.specs.Lists.{IsRising, first_where, in_place}
use Rattle.kn_tables.specs.declared.awaited_entry.AwaitedEntry.{AwaitedEntry}
use Rattle.kn_server_core.specs.Isolation.{Each}
use Rattle.kn_server_core.proofs.OrderLemmas.{rising_put}
use Rattle.kn_server_core.proofs.SoundLemmas.{first_in_place}
use Rattle.kn_server_core.proofs.TunnelTables.{false_unless}
use Rattle.kn_edge_core.specs.Client.{app_up}
use Rattle.kn_edge_core.specs.ClientTables.{is_app, with_app}
use Rattle.kn_edge_core.specs.declared.app.App.{App}
use Rattle.kn_edge_core.specs.declared.app.AppState.TheVariants as app
use Rattle.kn_edge_core.specs.declared.client_state.ClientState.{ClientState}
use Rattle.kn_tunnel.specs.Facts.{Facts}
use Rattle.kn_tunnel.specs.Kinds.{has_left, is_gone}
use Rattle.kn_tunnel.specs.Steps.{Follows, no_in, start}
use Rattle.kn_tunnel.specs.Tunnel.{Phase, Side}
use Rattle.kn_tunnel.proofs.AllSteps.{facts_followed, facts_start}
use Rattle.kn_words.specs.Down.{down_item, down_ordered}
use Rattle.kn_words.specs.In.{InItem, OtherIn, in_follows, in_of, in_ordered, stream_in_item}
use Rattle.kn_words.specs.Numbers.{is_drawn_number, is_number}
use Rattle.kn_words.specs.Out.{OtherOut, OutItem, out_ordered, stream_out_item}
use Rattle.kn_words.specs.Up.{up_item, up_ordered}
use Rattle.kn_words.proofs.InOrder.{in_order_append}
use Rattle.kn_packets.specs.Keys.{AnswerFits, AskedOn, AwaitedFits, ClientKeys, HasApp, InOrder, IsAppOf, Keys, ListedFits, OfConnection, RequestOf, ServerKeys, StreamOlder}
use Rattle.kn_packets.specs.Lifts.{Lifts}
use Rattle.kn_packets.specs.Moves.{AppComes, after, app_begins, app_side_after, client_stepped, is_of_client, new_app, phase_after}
use Rattle.kn_packets.specs.Outputs.{asks, queued}
use Rattle.kn_packets.specs.World.{World, WorldApp, tunnel}
use Rattle.kn_packets.proofs.AgentKept.{each_as, each_queued}
use Rattle.kn_packets.proofs.ClientKept.{agents_same, not_connect, owned}
use Rattle.kn_packets.proofs.Fresh.{eqb_refl}
use Rattle.kn_packets.proofs.Replies.{number_is}

-- ---- an app in its place
placed_own : (e : App) (xs : List App) → first_where (is_app e.number) xs ≡ None → first_where (is_app e.number) (in_place (λ (x : App). x.number) e xs) ≡ Some e
placed_own e [] h = rw (eqb_refl e.number) refl
placed_own e (x ∷ xs) h = here (ltb e.number x.number) (is_app e.number x) refl h (λ l. placed_own e xs l)
  where
    here : (b d : Bool) → is_app e.number x ≡ d → cond d (Some x) (first_where (is_app e.number) xs) ≡ None → (first_where (is_app e.number) xs ≡ None → first_where (is_app e.number) (in_place (λ (y : App). y.number) e xs) ≡ Some e)
        → first_where (is_app e.number) (cond b (e ∷ x ∷ xs) (x ∷ in_place (λ (y : App). y.number) e xs)) ≡ Some e
    here b true i h later = absurd cc
    here true false i h later = rw (eqb_refl e.number) refl
    here false false i h later = rw i (later h)

-- ---- a list of which nothing is of a tunnel
in_quiet : (item : Packet → InItem) (ps : List Packet) → Each (λ p. item p ≡ OtherIn) ps → (in_of item ps ≡ no_in) × (in_ordered item ps ≡ true)
in_quiet item [] h = (refl, refl)
in_quiet item (p ∷ ps) h = let later = in_quiet item ps h.1 in (rw h.0 later.0, rw h.0 later.1)

out_quiet : (item : Packet → OutItem) (ps : List Packet) → Each (λ p. item p ≡ OtherOut) ps → out_ordered item ps ≡ true
out_quiet item [] h = refl
out_quiet item (p ∷ ps) h = rw h.0 (out_quiet item ps h.1)

in_queued : (item : Packet → InItem) (b : Bool) (ps : List Packet) (p : Packet) → in_ordered item ps ≡ true → in_follows (in_of item ps) (item p) ≡ true → in_ordered item (queued b ps (p ∷ [])) ≡ true
in_queued item true ps p h f = in_order_append item ps p h f
in_queued item false ps p h f = h

module _ (w : World) (a f n : ℕ) (address : List ℕ) (keys : Keys w) (begun : (w.streams f).begun ≡ true) (there : (w.streams f).client ≡ true) (client : (w.streams f).connect ≡ false) (not_yet : (w.apps a).came ≡ false)
    (above : (w.clients (w.streams f).owner).top_app < n) where
  abbrev c : ℕ
  c = (w.streams f).owner

  abbrev state : ClientState
  state = w.clients (w.streams f).owner

  abbrev new : App
  new = record { number = n; state = app.Dialling; connect_id = pos 0; unwritten = 0; error = [] }

  abbrev head : Packet
  head = DialReq (codes "tcp") address (pos n)

  abbrev next : World
  next = client_stepped c false (app_up state n address) (app_begins a (new_app f n) w)

  abbrev app_now : ℕ → WorldApp
  app_now k = cond (k == a) (new_app f n) (w.apps k)

  its : is_of_client c (w.streams f) ≡ true
  its = rw (client, eqb_refl (w.streams f).owner) refl

  -- ---- the new app, and those of before
  at_app : (Q : WorldApp → Type 0) (k : ℕ) → (k ≡ a → Q (new_app f n)) → Q (w.apps k) → Q (app_now k)
  at_app Q k fits old = here (k == a) refl
    where
      here : (b : Bool) → (k == a) ≡ b → Q (cond b (new_app f n) (w.apps k))
      here true is = fits (eqb-true k a is)
      here false differ = old

  other : (k : ℕ) → (w.apps k).came ≡ true → (k == a) ≡ false
  other k came = false_unless (k == a) (λ e. let yes : (w.apps a).came ≡ true = ap (λ j. (w.apps j).came) (sym (eqb-true k a e)) ∙ came in cc (yes, not_yet))

  app_same : (k : ℕ) → (w.apps k).came ≡ true → app_now k ≡ w.apps k
  app_same k came = rw (other k came) refl

  at_client : (Q : ClientState → Type 0) (i : ℕ) → (i ≡ c → Q (app_up state n address).state) → Q (w.clients i) → Q (next.clients i)
  at_client Q i new_fits old = here (i == c) refl
    where
      here : (b : Bool) → (i == c) ≡ b → Q (cond b (app_up state n address).state (w.clients i))
      here true is = new_fits (eqb-true i c is)
      here false differ = old

  at_ins : (Q : List Packet → Type 0) (i : ℕ) → (is_of_client c (w.streams i) ≡ true → (w.streams i).client ≡ true → Q (queued (not (is_gone (w.streams i).front)) (w.streams i).up (head ∷ []))) → Q (w.streams i).up → Q (next.streams i).up
  at_ins Q i fits old = here (is_of_client c (w.streams i)) (w.streams i).client refl refl
    where
      here : (of has : Bool) → is_of_client c (w.streams i) ≡ of → (w.streams i).client ≡ has → Q (cond (of && has) (queued (not (is_gone (w.streams i).front)) (w.streams i).up (head ∷ [])) (w.streams i).up)
      here true true of has = fits of has
      here true false of has = old
      here false has of e = old

  on_it : (i : ℕ) → is_of_client c (w.streams i) ≡ true → (w.streams i).client ≡ true → i ≡ f
  on_it i of has = keys.clients.alone i f c of its has there

  -- ---- its number is new
  older : (k : ℕ) → (w.apps k).came ≡ true → is_of_client c (w.streams (w.apps k).stream) ≡ true → (w.apps k).number < n
  older k came of =
      let top : (w.apps k).number ≤ state.top_app = subst (λ i. (w.apps k).number ≤ (w.clients i).top_app) (owned c (w.streams (w.apps k).stream) of) (keys.clients.tops k came (not_connect c (w.streams (w.apps k).stream) of)) in
      omega (arith, top, above)

  not_number : (k : ℕ) → (w.apps k).came ≡ true → is_of_client c (w.streams (w.apps k).stream) ≡ true → (w.apps k).number ≡ n → ⊥
  not_number k came of e = let less : (w.apps k).number < n = older k came of in omega (arith, less, e)

  differs : (k : ℕ) → (w.apps k).came ≡ true → is_of_client c (w.streams (w.apps k).stream) ≡ true → ((w.apps k).number == n) ≡ false
  differs k came of = false_unless ((w.apps k).number == n) (λ e. not_number k came of (eqb-true (w.apps k).number n e))

  -- who asked with it is another
  asked_other : (random : ℤ) → AskedOn w f random → is_number n random ≡ false
  asked_other random h =
      let on : (w.apps h.0).stream ≡ f = h.2 in
      let named : random ≡ pos (w.apps h.0).number = number_is (w.apps h.0).number random (rw client at h.3) in
      let of : is_of_client c (w.streams (w.apps h.0).stream) ≡ true = ap (λ i. is_of_client c (w.streams i)) on ∙ its in
      ap (is_number n) named ∙ differs h.0 h.1 of

  none_old : first_where (is_app n) state.apps ≡ None
  none_old = here (first_where (is_app n) state.apps) refl
    where
      here : (o : Option App) → first_where (is_app n) state.apps ≡ o → o ≡ None
      here None e = refl
      here (Some x) e = let known = keys.clients.known c n x e in let of = known.1 in absurd (not_number known.0 of.0 of.1 of.2)

  found_new : first_where (is_app n) (with_app new state.apps) ≡ Some new
  found_new = placed_own new state.apps none_old

  found_old : (m : ℕ) → (m == n) ≡ false → first_where (is_app m) (with_app new state.apps) ≡ first_where (is_app m) state.apps
  found_old m e = first_in_place (λ (x : App). x.number) (is_app m) new state.apps (false_unless (n == m) (λ h. let yes : (m == n) ≡ true = rw (eqb-true n m h) (eqb_refl m) in cc (yes, e)))

  -- ---- the server
  has_app : (d : ℕ) → HasApp w d → HasApp next d
  has_app d h = (h.0, subst (λ x. x.came ≡ true) (sym (app_same h.0 h.1)) h.1, subst (λ x. x.dial ≡ Some d) (sym (app_same h.0 h.1)) h.2)

  awaited_kept : (d : ℕ) (e : AwaitedEntry) → AwaitedFits w d e → AwaitedFits next d e
  awaited_kept d e fits = record {
    link = fits.link;
    front = λ k. at_app (λ x. x.came ≡ true → x.dial ≡ Some d → x.stream ≡ e.front) k (λ is came de. absurd cc) (fits.front k);
    random = λ k. at_app (λ x. x.came ≡ true → x.dial ≡ Some d → asks (w.streams x.stream).connect x.number e.random ≡ true) k (λ is came de. absurd cc) (fits.random k);
    app = λ k. at_app (λ x. x.came ≡ true → x.stream ≡ e.front → asks (w.streams x.stream).connect x.number e.random ≡ true → x.dial ≡ Some d) k (λ is came on own. absurd (not_own on own)) (fits.app k);
    has_app = has_app d fits.has_app;
  }
    where
      not_own : f ≡ e.front → asks (w.streams f).connect n e.random ≡ true → ⊥
      not_own on own =
          let has = fits.has_app in
          let at : (w.apps has.0).stream ≡ f = fits.front has.0 has.1 has.2 ∙ sym on in
          let asked : asks (w.streams f).connect (w.apps has.0).number e.random ≡ true = subst (λ i. asks (w.streams i).connect (w.apps has.0).number e.random ≡ true) at (fits.random has.0 has.1 has.2) in
          let no_it : is_number n e.random ≡ false = asked_other e.random (has.0, has.1, at, asked) in
          let yes_it : is_number n e.random ≡ true = rw client at own in
          cc (no_it, yes_it)

  server_kept : ServerKeys next
  server_kept = record {
    orderly = keys.server.orderly;
    from_one = keys.server.from_one;
    links_up = keys.server.links_up;
    fronts_up = keys.server.fronts_up;
    awaited = λ d e h. awaited_kept d e (keys.server.awaited d e h);
    held = λ d e h.
        let fits = keys.server.held d e h in record {
          link = fits.link;
          cid = fits.cid;
          drawn = fits.drawn;
          named = fits.named;
          front = λ k g. at_app (λ x. x.came ≡ true → x.dial ≡ Some d → e.front ≡ Some g → x.stream ≡ g) k (λ is came de. absurd cc) (fits.front k g);
        };
    dials_older = λ k d. at_app (λ x. x.came ≡ true → x.dial ≡ Some d → d < w.server.next_dial) k (λ is came de. absurd cc) (keys.server.dials_older k d);
    ups_older = keys.server.ups_older;
    downs_older = keys.server.downs_older;
    agents_older = keys.server.agents_older;
    ins_older = λ i. at_ins (λ ps. Each (StreamOlder w.server.next_dial) ps) i (λ of has. each_queued (StreamOlder w.server.next_dial) (not (is_gone (w.streams i).front)) (w.streams i).up (head ∷ []) (keys.server.ins_older i) (tt, tt)) (keys.server.ins_older i);
    outs_older = keys.server.outs_older;
  }

  -- ---- the clients
  of_app : (i m k : ℕ) → IsAppOf w i m k → IsAppOf next i m k
  of_app i m k h = subst (λ x. (x.came ≡ true) × (is_of_client i (w.streams x.stream) ≡ true) × (x.number ≡ m)) (sym (app_same k h.0)) h

  abbrev Of : ℕ → ℕ → WorldApp → Type 0
  Of i m x = (x.came ≡ true) × (is_of_client i (w.streams x.stream) ≡ true) × (x.number ≡ m)

  clash : (i m k : ℕ) → Of i m (new_app f n) → Of i m (w.apps k) → ⊥
  clash i m k h g =
      let of : is_of_client c (w.streams (w.apps k).stream) ≡ true = subst (λ j. is_of_client j (w.streams (w.apps k).stream) ≡ true) (sym (owned i (w.streams f) h.1)) g.1 in
      not_number k g.0 of (g.2 ∙ sym h.2)

  apart : (j k i m : ℕ) → Of i m (app_now j) → Of i m (app_now k) → j ≡ k
  apart j k i m = at_app (λ x. Of i m x → Of i m (app_now k) → j ≡ k) j (λ is_j. at_app (λ y. Of i m (new_app f n) → Of i m y → j ≡ k) k (λ is_k of_j of_k. is_j ∙ sym is_k) (λ of_j of_k. absurd (clash i m k of_j of_k)))
      (at_app (λ y. Of i m (w.apps j) → Of i m y → j ≡ k) k (λ is_k of_j of_k. absurd (clash i m j of_k of_j)) (λ of_j of_k. keys.clients.apart j k i m of_j of_k))

  asked_kept : (i : ℕ) (random : ℤ) → AskedOn w i random → AskedOn next i random
  asked_kept i random h =
      (h.0, subst (λ x. x.came ≡ true) (sym (app_same h.0 h.1)) h.1, subst (λ x. x.stream ≡ i) (sym (app_same h.0 h.1)) h.2, subst (λ x. asks (w.streams i).connect x.number random ≡ true) (sym (app_same h.0 h.1)) h.3)

  request_kept : (i : ℕ) (p : Packet) → RequestOf w i p → RequestOf next i p
  request_kept i (DialReq protocol to random) h = asked_kept i random h
  request_kept i (DialRsp error z r) h = tt
  request_kept i (Data z error bytes) h = tt
  request_kept i (CloseReq z) h = tt
  request_kept i (CloseRsp error z) h = tt
  request_kept i (DialCls random) h = asked_kept i random h
  request_kept i Drain h = tt
  request_kept i (Other number) h = tt

  request_new : (i : ℕ) → i ≡ f → RequestOf next i head
  request_new i on = (a, rw (eqb_refl a) refl, rw (eqb_refl a) (sym on), rw (eqb_refl a, on, client) (eqb_refl n))

  requests : (i : ℕ) → Each (RequestOf next i) (next.streams i).up
  requests i = at_ins (λ ps. Each (RequestOf next i) ps) i (λ of has. each_queued (RequestOf next i) (not (is_gone (w.streams i).front)) (w.streams i).up (head ∷ []) old (request_new i (on_it i of has), tt)) old
    where
      old : Each (RequestOf next i) (w.streams i).up
      old = each_as (RequestOf w i) (RequestOf next i) (request_kept i) (w.streams i).up (keys.clients.requests i)

  answer_kept : (i : ℕ) (p : Packet) → AnswerFits w i p → AnswerFits next i p
  answer_kept i (DialRsp [] z r) h = (asked_kept i r h.0, λ k. at_app (λ x. x.came ≡ true → x.stream ≡ i → is_drawn_number x.dial z ≡ is_number x.number r) k (λ is came on. sym (asked_other r (subst (λ j. AskedOn w j r) (sym on) h.0))) (h.1 k))
  answer_kept i (DialRsp (x ∷ xs) z r) h = asked_kept i r h
  answer_kept i (DialReq protocol to random) h = tt
  answer_kept i (Data z error bytes) h = tt
  answer_kept i (CloseReq z) h = tt
  answer_kept i (CloseRsp error z) h = tt
  answer_kept i (DialCls random) h = tt
  answer_kept i Drain h = tt
  answer_kept i (Other number) h = tt

  known : (i m : ℕ) (x : App) → i ≡ c → first_where (is_app m) (with_app new state.apps) ≡ Some x → (b : Bool) → (m == n) ≡ b → (k : ℕ) × IsAppOf next i m k
  known i m x e h true is = (a, (rw (eqb_refl a) refl, rw (eqb_refl a, e) its, rw (eqb_refl a) (sym (eqb-true m n is))))
  known i m x e h false differ = let old = keys.clients.known c m x (sym (found_old m differ) ∙ h) in (old.0, of_app i m old.0 (subst (λ j. IsAppOf w j m old.0) (sym e) old.1))

  -- what an app is on its client's list, and what it has come to
  abbrev side_now : WorldApp → Side
  side_now x = app_side_after (is_of_client c (w.streams x.stream)) x.number (app_up state n address) x.side

  abbrev phase_now : WorldApp → Phase
  phase_now x = cond (is_of_client c (w.streams x.stream)) (phase_after false (first_where (is_app x.number) state.apps) (first_where (is_app x.number) (with_app new state.apps)) x.phase) x.phase

  abbrev Fits : App → WorldApp → Type 0
  Fits x y = (x.unwritten ≡ length (side_now y).unwritten) × (x.state ≢ app.Dialling → (d : ℕ) × (y.dial ≡ Some d) × (x.connect_id ≡ pos d))

  fits_new : (x : App) → first_where (is_app n) (next.clients c).apps ≡ Some x → Fits x (new_app f n)
  fits_new x h = subst (λ y. Fits y (new_app f n)) same (rw (client, eqb_refl c, found_new) refl, λ s. absurd (s refl))
    where
      same : new ≡ x
      same = let found : first_where (is_app n) (with_app new state.apps) ≡ Some x = rw (eqb_refl c) at h in cc (found_new, found)

  fits_old : (k : ℕ) (x : App) → (w.apps k).came ≡ true → (w.streams (w.apps k).stream).connect ≡ false → (b : Bool) → ((w.streams (w.apps k).stream).owner == c) ≡ b
      → first_where (is_app (w.apps k).number) (cond b (app_up state n address).state (w.clients (w.streams (w.apps k).stream).owner)).apps ≡ Some x → Fits x (w.apps k)
  fits_old k x came cf true on h =
      let of : is_of_client c (w.streams (w.apps k).stream) ≡ true = rw (cf, on) refl in
      let found : first_where (is_app (w.apps k).number) state.apps ≡ Some x = sym (found_old (w.apps k).number (differs k came of)) ∙ h in
      let old = keys.clients.listed k x came cf (ap (λ i. first_where (is_app (w.apps k).number) (w.clients i).apps) (eqb-true (w.streams (w.apps k).stream).owner c on) ∙ found) in
      (rw (cf, on, h) old.unwritten, old.dial)
  fits_old k x came cf false off h = let old = keys.clients.listed k x came cf h in (rw (cf, off) old.unwritten, old.dial)

  listed : (k : ℕ) (x : App) → (next.apps k).came ≡ true → (next.streams (next.apps k).stream).connect ≡ false → first_where (is_app (next.apps k).number) (next.clients (next.streams (next.apps k).stream).owner).apps ≡ Some x → ListedFits next k x
  listed k x came cf h =
      let fits = at_app (λ y. y.came ≡ true → (w.streams y.stream).connect ≡ false → first_where (is_app y.number) (next.clients (w.streams y.stream).owner).apps ≡ Some x → Fits x y) k (λ is came cf h. fits_new x h)
      (λ came cf h. fits_old k x came cf ((w.streams (w.apps k).stream).owner == c) refl h) came cf h in
      record { unwritten = fits.0; dial = fits.1 }

  left_new : first_where (is_app n) (next.clients c).apps ≡ None → ⊥
  left_new h = let found : first_where (is_app n) (with_app new state.apps) ≡ None = rw (eqb_refl c) at h in cc (found_new, found)

  left_old : (k : ℕ) → (w.apps k).came ≡ true → (w.streams (w.apps k).stream).connect ≡ false → (b : Bool) → ((w.streams (w.apps k).stream).owner == c) ≡ b
      → first_where (is_app (w.apps k).number) (cond b (app_up state n address).state (w.clients (w.streams (w.apps k).stream).owner)).apps ≡ None → has_left (phase_now (w.apps k)) ≡ true
  left_old k came cf true on h =
      let of : is_of_client c (w.streams (w.apps k).stream) ≡ true = rw (cf, on) refl in
      let none : first_where (is_app (w.apps k).number) state.apps ≡ None = sym (found_old (w.apps k).number (differs k came of)) ∙ h in
      rw (cf, on, none) (keys.clients.left k came cf (ap (λ i. first_where (is_app (w.apps k).number) (w.clients i).apps) (eqb-true (w.streams (w.apps k).stream).owner c on) ∙ none))
  left_old k came cf false off h = rw (cf, off) (keys.clients.left k came cf h)

  tops_old : (k : ℕ) → (w.apps k).came ≡ true → (w.streams (w.apps k).stream).connect ≡ false → (b : Bool) → ((w.streams (w.apps k).stream).owner == c) ≡ b → (w.apps k).number ≤ (cond b (app_up state n address).state (w.clients (w.streams (w.apps k).stream).owner)).top_app
  tops_old k came cf true on = let less : (w.apps k).number < n = older k came (rw (cf, on) refl) in omega (arith, less)
  tops_old k came cf false off = keys.clients.tops k came cf

  top_new : n ≤ (next.clients c).top_app
  top_new = rw (eqb_refl c) (omega arith)

  abbrev One : ℕ → ℕ → WorldApp → WorldApp → Type 0
  One j k x y = x.came ≡ true → y.came ≡ true → x.stream ≡ y.stream → (w.streams x.stream).connect ≡ true → j ≡ k

  one : (j k : ℕ) → One j k (app_now j) (app_now k)
  one j k = at_app (λ x. One j k x (app_now k)) j (λ is_j came_j came_k on ct. absurd (cc (client, ct)))
      (at_app (λ y. One j k (w.apps j) y) k (λ is_k came_j came_k on ct. let tc : (w.streams f).connect ≡ true = ap (λ i. (w.streams i).connect) (sym on) ∙ ct in absurd (cc (client, tc))) (keys.clients.connect_one j k))

  clients_kept : ClientKeys next
  clients_kept = record {
    begun = λ k. at_app (λ x. x.came ≡ true → (w.streams x.stream).begun ≡ true) k (λ is came. begun) (keys.clients.begun k);
    unfinished = keys.clients.unfinished;
    alone = keys.clients.alone;
    apart = apart;
    connect_one = one;
    connection = λ k. at_app (λ x. x.came ≡ true → (w.streams x.stream).connect ≡ true → (w.streams x.stream).app ≡ k) k (λ is came ct. absurd (cc (client, ct))) (keys.clients.connection k);
    connect_ins = λ i ct. at_ins (λ ps. Each OfConnection ps) i (λ of has. each_queued OfConnection (not (is_gone (w.streams i).front)) (w.streams i).up (head ∷ []) (keys.clients.connect_ins i ct) (tt, tt)) (keys.clients.connect_ins i ct);
    requests = requests;
    answers = λ i cf. each_as (AnswerFits w i) (AnswerFits next i) (answer_kept i) (w.streams i).down (keys.clients.answers i cf);
    known = λ i m x. at_client (λ s. first_where (is_app m) s.apps ≡ Some x → (k : ℕ) × IsAppOf next i m k) i (λ e h. known i m x e h (m == n) refl) (λ h. let old = keys.clients.known i m x h in (old.0, of_app i m old.0 old.1));
    apps_rise = λ i. at_client (λ s. IsRising (λ (x : App). x.number) s.apps) i (λ e. rising_put (λ (x : App). x.number) new state.apps (keys.clients.apps_rise c) none_old) (keys.clients.apps_rise i);
    tops = λ k. at_app (λ x. x.came ≡ true → (w.streams x.stream).connect ≡ false → x.number ≤ (next.clients (w.streams x.stream).owner).top_app) k (λ is came cf. top_new) (λ came cf. tops_old k came cf ((w.streams (w.apps k).stream).owner == c) refl);
    listed = listed;
    left = λ k. at_app (λ x. x.came ≡ true → (w.streams x.stream).connect ≡ false → first_where (is_app x.number) (next.clients (w.streams x.stream).owner).apps ≡ None → has_left (phase_now x) ≡ true) k (λ is came cf h. absurd (left_new h))
        (λ came cf h. left_old k came cf ((w.streams (w.apps k).stream).owner == c) refl h);
    dials_once = λ j k d. at_app (λ x. x.came ≡ true → (next.apps k).came ≡ true → x.dial ≡ Some d → (next.apps k).dial ≡ Some d → j ≡ k) j (λ is came_j came_k de. absurd cc)
        (at_app (λ y. (w.apps j).came ≡ true → y.came ≡ true → (w.apps j).dial ≡ Some d → y.dial ≡ Some d → j ≡ k) k (λ is came_j came_k de_j de_k. absurd cc) (keys.clients.dials_once j k d));
  }

  -- ---- the order
  in_item_other : (p : Packet) → RequestOf w f p → stream_in_item false n None p ≡ OtherIn
  in_item_other (DialReq protocol to random) h = rw (asked_other random h) refl
  in_item_other (DialCls random) h = rw (asked_other random h) refl
  in_item_other (DialRsp error z r) h = refl
  in_item_other (Data z error bytes) h = refl
  in_item_other (CloseReq z) h = refl
  in_item_other (CloseRsp error z) h = refl
  in_item_other Drain h = refl
  in_item_other (Other number) h = refl

  out_item_other : (p : Packet) → AnswerFits w f p → stream_out_item false n None p ≡ OtherOut
  out_item_other (DialRsp [] z r) h = rw (asked_other r h.0) refl
  out_item_other (DialRsp (x ∷ xs) z r) h = rw (asked_other r h) refl
  out_item_other (DialReq protocol to random) h = refl
  out_item_other (DialCls random) h = refl
  out_item_other (Data z error bytes) h = refl
  out_item_other (CloseReq z) h = refl
  out_item_other (CloseRsp error z) h = refl
  out_item_other Drain h = refl
  out_item_other (Other number) h = refl

  in_new : in_ordered (stream_in_item (w.streams f).connect n None) (next.streams f).up ≡ true
  in_new = rw (client, eqb_refl c, there) (in_queued (stream_in_item false n None) (not (is_gone (w.streams f).front)) (w.streams f).up head quiet.1 (rw (quiet.0, eqb_refl n) refl))
    where
      quiet : (in_of (stream_in_item false n None) (w.streams f).up ≡ no_in) × (in_ordered (stream_in_item false n None) (w.streams f).up ≡ true)
      quiet = in_quiet (stream_in_item false n None) (w.streams f).up (each_as (RequestOf w f) (λ p. stream_in_item false n None p ≡ OtherIn) in_item_other (w.streams f).up (keys.clients.requests f))

  in_old : (k : ℕ) → (w.apps k).came ≡ true → in_ordered (stream_in_item (w.streams (w.apps k).stream).connect (w.apps k).number (w.apps k).dial) (next.streams (w.apps k).stream).up ≡ true
  in_old k came = at_ins (λ ps. in_ordered (stream_in_item (w.streams (w.apps k).stream).connect (w.apps k).number (w.apps k).dial) ps ≡ true) (w.apps k).stream
      (λ of has. in_queued (stream_in_item (w.streams (w.apps k).stream).connect (w.apps k).number (w.apps k).dial) (not (is_gone (w.streams (w.apps k).stream).front)) (w.streams (w.apps k).stream).up head (keys.ordered k came).inward
      (rw (not_connect c (w.streams (w.apps k).stream) of, not_its of) refl)) (keys.ordered k came).inward
    where
      not_its : is_of_client c (w.streams (w.apps k).stream) ≡ true → (n == (w.apps k).number) ≡ false
      not_its of = false_unless (n == (w.apps k).number) (λ e. not_number k came of (sym (eqb-true n (w.apps k).number e)))

  out_new : out_ordered (stream_out_item (w.streams f).connect n None) (w.streams f).down ≡ true
  out_new = rw client (out_quiet (stream_out_item false n None) (w.streams f).down (each_as (AnswerFits w f) (λ p. stream_out_item false n None p ≡ OtherOut) out_item_other (w.streams f).down (keys.clients.answers f client)))

  order_kept : (k : ℕ) → (next.apps k).came ≡ true → InOrder next k
  order_kept k came = record {
    inward = at_app (λ x. x.came ≡ true → in_ordered (stream_in_item (w.streams x.stream).connect x.number x.dial) (next.streams x.stream).up ≡ true) k (λ is h. in_new) (in_old k) came;
    outward = at_app (λ x. x.came ≡ true → out_ordered (stream_out_item (w.streams x.stream).connect x.number x.dial) (w.streams x.stream).down ≡ true) k (λ is h. out_new) (λ h. (keys.ordered k h).outward) came;
    up = λ d. at_app (λ x. x.came ≡ true → x.dial ≡ Some d → up_ordered (up_item d (w.dials d).cid) (w.links (w.dials d).link).up ≡ true) k (λ is h de. absurd cc) (λ h. (keys.ordered k h).up d) came;
    down = λ d. at_app (λ x. x.came ≡ true → x.dial ≡ Some d → down_ordered (down_item (w.dials d).cid) (w.links (w.dials d).link).down ≡ true) k (λ is h de. absurd cc) (λ h. (keys.ordered k h).down d) came;
  }

  -- ---- the move
  facts_kept : Lifts w next → Follows (start false) (tunnel next a) → (k : ℕ) → (next.apps k).came ≡ true → Facts (tunnel next k)
  facts_kept lifts starts k = here (k == a) refl
    where
      here : (b : Bool) → (k == a) ≡ b → (cond b (new_app f n) (w.apps k)).came ≡ true → Facts (tunnel next k)
      here true is came = subst (λ i. Facts (tunnel next i)) (sym (eqb-true k a is)) (facts_followed (start false) (tunnel next a) starts (facts_start false))
      here false differ came = facts_followed (tunnel w k) (tunnel next k) (lifts k came) (keys.facts k came)

  pub comes_keep : Lifts w (after (AppComes a f n address) w) → Follows (start false) (tunnel (after (AppComes a f n address) w) a) → Keys (after (AppComes a f n address) w)
  comes_keep lifts starts = record {
    server = server_kept;
    agents = agents_same w next.clients next.streams next.apps has_app keys.agents;
    clients = clients_kept;
    ordered = order_kept;
    facts = facts_kept lifts starts;
  }
