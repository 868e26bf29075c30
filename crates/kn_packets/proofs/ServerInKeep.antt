-- The server that takes the first packet of a front keeps the facts on keys: bytes, a close, a cancel, and a request that is refused.
use Rattle.std.proofs.Common.{◌≡◌, ◌==◌, ◌++◌, ◌&&◌, ℕ, ℤ, pos, Bool, true, false, not, cond, List, [], ◌∷◌, map, Option, Some, None, refl, sym, ap, ◌∙◌, eqb-true, subst, append-nil}
use Rattle.kn_packet.specs.declared.packet.Packet.{Packet}
use Rattle.kn_packet.specs.declared.packet.Packet.TheVariants.{CloseReq, CloseRsp, Data, DialCls, DialReq, DialRsp}
use Rattle.kn_tables.specs.Lists.{first_where}
use Rattle.kn_tables.specs.Awaiting.{is_random}
use Rattle.kn_tables.specs.Holding.{closed_at, closed_entry, is_held_dial}
use Rattle.kn_tables.specs.declared.awaited_entry.AwaitedEntry.{AwaitedEntry}
use Rattle.kn_tables.specs.declared.held_entry.HeldEntry.{HeldEntry}
use Rattle.kn_tables.specs.declared.held_entry.HeldState.{HeldState}
use Rattle.kn_tables.specs.declared.held_entry.HeldState.TheVariants.{Closing, Open}
use Rattle.kn_server_core.specs.declared.event.ServerEvent.TheVariants.{FrontPacket}
use Rattle.kn_server_core.specs.declared.event.ServerOut.TheVariants.{ToFront}
use Rattle.kn_server_core.specs.declared.state.State.{State}
use Rattle.kn_server_core.specs.FrontLists.{is_up}
use Rattle.kn_server_core.specs.Isolation.{Each, IsOrderly}
use Rattle.kn_server_core.specs.Packets.{close_asked, close_refused, data_to_link, in_packets, refusal}
use Rattle.kn_server_core.specs.Server.{close_from_front, close_own, data_up, dial_cancelled, from_front, held_at, ignored, open_up, own, step, told}
use Rattle.kn_server_core.specs.Steps.{Step}
use Rattle.kn_server_core.proofs.ReachedLemmas.{orderly_kept}
use Rattle.kn_tunnel.proofs.OrderChecks.{refusal_order, unknown_order}
use Rattle.kn_tunnel.specs.Facts.{Facts}
use Rattle.kn_tunnel.specs.Kinds.{has, is_present}
use Rattle.kn_tunnel.specs.Order.{head_follows, out_close_follows}
use Rattle.kn_words.specs.Down.{down_item}
use Rattle.kn_words.specs.In.{stream_in_word}
use Rattle.kn_words.specs.Numbers.{is_drawn_number, is_number}
use Rattle.kn_words.specs.Out.{out_follows, stream_out_item, stream_out_word}
use Rattle.kn_words.proofs.DownGiven.{DownFollow}
use Rattle.kn_words.proofs.OutGiven.{OutFollow}
use Rattle.kn_packets.specs.Keys.{AskedOn, HeldFits, IsBelow, Keys, RequestOf, StreamOlder}
use Rattle.kn_packets.specs.Outputs.{asks, for_front, for_link}
use Rattle.kn_packets.specs.World.{World, tunnel_of}
use Rattle.kn_packets.proofs.DataParts.{ToLinks, data_to_links}
use Rattle.kn_packets.proofs.ServerAsks.{close_behind, close_fits, data_behind, data_drawn, down_of_dial}
use Rattle.kn_packets.proofs.ServerCalm.{Calm, NoDial, OfConnections, fronts_no_dial, item_of, links_no_dial}
use Rattle.kn_packets.proofs.ServerComes.{no_outs, now}
use Rattle.kn_packets.proofs.ServerKept.{Before, FitsFront, Remains}
use Rattle.kn_packets.proofs.ServerTells.{each_if, follow_if, known, word_of}
use Rattle.kn_packets.proofs.ServerUpKeep.{Fits, same_fits, still_awaited, to_front}
use Rattle.kn_packets.proofs.TakesInClose.{close_may, closed_not, closed_out, held_other, held_own, in_turn, its_place}
use Rattle.kn_packets.proofs.TakesInData.{IsOwn, found_own}
use Rattle.kn_packets.proofs.TakesRequest.{asked, refusal_not, refusal_own}

module _ (w : World) (f : ℕ) (keys : Keys w) (present : is_present (w.streams f).front ≡ true) (p : Packet) (rest : List Packet) (first : (w.streams f).up ≡ p ∷ rest) where
  abbrev pub taken_in : Before
  taken_in = record (now w) { ins = λ i. cond (i == f) rest (w.streams i).up }

  pub in_remains : Remains w taken_in
  in_remains = record { ups = λ i. ([], refl); downs = λ i. ([], append-nil (w.links i).down); ins = λ i. taken i (i == f) refl; outs = λ i. ([], append-nil (w.streams i).down) }
    where
      taken : (i : ℕ) (b : Bool) → (i == f) ≡ b → (front : List Packet) × (front ++ cond b rest (w.streams i).up ≡ (w.streams i).up)
      taken i true on = (p ∷ [], sym first ∙ ap (λ j. (w.streams j).up) (sym (eqb-true i f on)))
      taken i false off = ([], refl)

  -- the packet as the server reads it
  module _ (q : Packet) where
    pub whole : step w.server (FrontPacket f q) ≡ from_front w.server f q
    whole = here (is_up f w.server.fronts) (keys.server.fronts_up f present)
      where
        here : (b : Bool) → b ≡ true → cond b (from_front w.server f q) (ignored w.server) ≡ from_front w.server f q
        here true e = refl
        here false e = absurd cc

    pub in_orderly : (s : Step) → from_front w.server f q ≡ s → IsOrderly s.state
    in_orderly s eq = subst (λ (t : Step). IsOrderly t.state) (whole ∙ eq) (orderly_kept w.server (FrontPacket f q) keys.server.orderly)

    in_calm : (s : Step) → from_front w.server f q ≡ s → Fits w s.state → NoDial s.outs → ((i : ℕ) → Each (OfConnections (w.agents i).next_connect_id) (for_link i s.outs)) → ((g : ℕ) → Each (FitsFront w g) (for_front g s.outs))
        → ((k : ℕ) → (w.apps k).came ≡ true → (w.streams (w.apps k).stream).client ≡ true → OutFollow (item_of w k) (word_of w k) (for_front (w.apps k).stream s.outs))
        → ((k d : ℕ) → (w.apps k).came ≡ true → (w.apps k).dial ≡ Some d → not (w.agents (w.dials d).link).lost ≡ true → DownFollow (down_item (w.dials d).cid) (down_of_dial w d) (for_link (w.dials d).link s.outs))
        → Calm w s taken_in
    in_calm s eq fits undrawn to_links to_fronts outward down = record {
      remains = in_remains;
      orderly = in_orderly s eq;
      undrawn = undrawn;
      links = λ i. fits.links i ∙ keys.server.links_up i;
      fronts = λ g h. rw fits.fronts (keys.server.fronts_up g h);
      number = fits.number;
      awaited = fits.awaited;
      held = fits.held;
      to_links = to_links;
      to_fronts = to_fronts;
      outward = outward;
      down = down;
    }

    -- nothing is sent to anyone
    pub silent_in : (s : State) → from_front w.server f q ≡ record { state = s; outs = [] } → Fits w s → Calm w (record { state = s; outs = [] }) taken_in
    silent_in s eq fits = in_calm (record { state = s; outs = [] }) eq fits no_outs (λ i. tt) (λ g. tt) (λ k came there. tt) (λ k d came de there. tt)

    -- the front alone is told
    pub answered_in : (s : Step) → from_front w.server f q ≡ s → Fits w s.state → (t : Packet) → s.outs ≡ ToFront f t ∷ [] → FitsFront w f t
        → ((k : ℕ) → (w.apps k).came ≡ true → (w.streams (w.apps k).stream).client ≡ true → (w.apps k).stream ≡ f → out_follows (word_of w k) (item_of w k t) ≡ true) → Calm w s taken_in
    answered_in s eq fits t outs fit follows = in_calm s eq fits (subst NoDial (sym outs) (fronts_no_dial (ToFront f t ∷ []) (to_front f t)))
        (λ i. subst (λ os. Each (OfConnections (w.agents i).next_connect_id) (for_link i os)) (sym outs) tt)
        (λ g. subst (λ os. Each (FitsFront w g) (for_front g os)) (sym outs) (each_if (FitsFront w g) t (g == f) (λ on. subst (λ i. FitsFront w i t) (sym (eqb-true g f on)) fit)))
        (λ k came there. subst (λ os. OutFollow (item_of w k) (word_of w k) (for_front (w.apps k).stream os)) (sym outs) (follow_if (item_of w k) (word_of w k) t ((w.apps k).stream == f) (λ on. follows k came there (eqb-true (w.apps k).stream f on))))
        (λ k d came de there. subst (λ os. DownFollow (down_item (w.dials d).cid) (down_of_dial w d) (for_link (w.dials d).link os)) (sym outs) tt)

    -- agents alone are sent something
    pub sent_in : (s : Step) → from_front w.server f q ≡ s → Fits w s.state → ToLinks s.outs → ((i : ℕ) → Each (OfConnections (w.agents i).next_connect_id) (for_link i s.outs))
        → ((k d : ℕ) → (w.apps k).came ≡ true → (w.apps k).dial ≡ Some d → not (w.agents (w.dials d).link).lost ≡ true → DownFollow (down_item (w.dials d).cid) (down_of_dial w d) (for_link (w.dials d).link s.outs)) → Calm w s taken_in
    sent_in s eq fits to to_links down = in_calm s eq fits (links_no_dial s.outs to) to_links (λ g. rw (to.front g) tt) (λ k came there. rw (to.front (w.apps k).stream) tt) down

  -- ---- bytes
  pub bytes_calm : (z : ℤ) (error bytes : List ℕ) (o : Option HeldEntry) → own f (held_at z w.server.held) ≡ o → Calm w (data_up w.server bytes o) taken_in
  bytes_calm z error bytes None at = silent_in (Data z error bytes) w.server (rw at refl) (same_fits w keys)
  bytes_calm z error bytes (Some e) at = here e.state refl
    where
      is : IsOwn w f z e
      is = found_own w f z e at

      here : (state : HeldState) → e.state ≡ state → Calm w (open_up w.server bytes state e) taken_in
      here Open es = sent_in (Data z error bytes) (told w.server (data_to_link e.link e.connect_id (in_packets bytes))) (rw (at, es) refl) (same_fits w keys) (data_to_links e.link e.connect_id (in_packets bytes))
          (λ i. data_drawn w keys e is.at i (in_packets bytes)) (data_behind w keys e is.at f is.front es (in_packets bytes))
      here Closing es = silent_in (Data z error bytes) w.server (rw (at, es) refl) (same_fits w keys)

  -- ---- a cancel
  pub cancel_calm : (random : ℤ) (client : (w.streams f).connect ≡ false) (is_cancel : (w.streams f).up ≡ DialCls random ∷ rest) (o : Option AwaitedEntry) → first_where (is_random f random) w.server.awaited ≡ o → Calm w (dial_cancelled w.server o) taken_in
  cancel_calm random client is_cancel None at = silent_in (DialCls random) w.server (rw at refl) (same_fits w keys)
  cancel_calm random client is_cancel (Some e) at = silent_in (DialCls random) (dial_cancelled w.server (Some e)).state (rw at refl)
      (record { links = λ i. refl; fronts = refl; number = refl; awaited = λ d x h. keys.server.awaited d x (still_awaited w keys e (its_place w f random rest keys is_cancel present client e at) d x h); held = keys.server.held })

-- ---- a close
all_six : (p r c e q t : Bool) → (p && r && c && e && q) ≡ true → t ≡ true → (p && r && c && e && q && t) ≡ true
all_six true true true true true t a h = h
all_six true true true true false t a h = absurd cc
all_six true true true false q t a h = absurd cc
all_six true true false e q t a h = absurd cc
all_six true false c e q t a h = absurd cc
all_six false r c e q t a h = absurd cc

module _ (w : World) (f : ℕ) (keys : Keys w) (present : is_present (w.streams f).front ≡ true) (c : ℤ) (rest : List Packet) (first : (w.streams f).up ≡ CloseReq c ∷ rest) (client : (w.streams f).connect ≡ false) where
  unknown_calm : (x : ℕ) (xs : List ℕ) → from_front w.server f (CloseReq c) ≡ told w.server (close_refused f c (x ∷ xs) ∷ []) → Calm w (told w.server (close_refused f c (x ∷ xs) ∷ [])) (taken_in w f keys present (CloseReq c) rest first)
  unknown_calm x xs eq = answered_in w f keys present (CloseReq c) rest first (CloseReq c) (told w.server (close_refused f c (x ∷ xs) ∷ [])) eq (same_fits w keys) (CloseRsp (x ∷ xs) c) refl (older, λ no_connect. tt)
      (λ k came there on. here k came there on (w.apps k).dial refl)
    where
      older : IsBelow w.server.next_dial c
      older = let all : Each (StreamOlder w.server.next_dial) (CloseReq c ∷ rest) = subst (λ ps. Each (StreamOlder w.server.next_dial) ps) first (keys.server.ins_older f) in all.0

      free : (k d : ℕ) → (w.apps k).came ≡ true → (w.streams (w.apps k).stream).client ≡ true → (w.apps k).stream ≡ f → (w.apps k).dial ≡ Some d → is_number d c ≡ true
          → out_close_follows (stream_out_word (w.streams (w.apps k).stream).connect (w.apps k).number (Some d) (w.streams (w.apps k).stream).down) ≡ true
      free k d came there on de key =
          let t = tunnel_of w (w.apps k) (Some d) in
          let facts : Facts (tunnel_of w (w.apps k) (Some d)) = rw de at (keys.facts k came) in
          known _ _ (unknown_order t facts.stream) (all_six (is_present t.front) (not t.inward.request) (not t.inward.cancel) (not (has t.inward.bytes)) t.inward.close t.client
          (rw (on, client) (close_may w f c rest keys first present client (w.apps k).number (Some d) key (in_turn w f c rest keys first present client k (Some d) came on de))) there)

      by_key : (k : ℕ) → (w.apps k).came ≡ true → (w.streams (w.apps k).stream).client ≡ true → (w.apps k).stream ≡ f → (D : Option ℕ) → (w.apps k).dial ≡ D → (b : Bool) → is_drawn_number D c ≡ b
          → out_follows (stream_out_word (w.streams (w.apps k).stream).connect (w.apps k).number D (w.streams (w.apps k).stream).down) (stream_out_item (w.streams (w.apps k).stream).connect (w.apps k).number D (CloseRsp (x ∷ xs) c)) ≡ true
      by_key k came there on D de false other = rw (on, client, closed_not (w.apps k).number D c (x ∷ xs) other) refl
      by_key k came there on None de true key = absurd cc
      by_key k came there on (Some d) de true key = rw (on, client, closed_out (w.apps k).number (Some d) c (x ∷ xs) key) (rw (on, client) at (free k d came there on de key))

      here : (k : ℕ) → (w.apps k).came ≡ true → (w.streams (w.apps k).stream).client ≡ true → (w.apps k).stream ≡ f → (D : Option ℕ) → (w.apps k).dial ≡ D
          → out_follows (stream_out_word (w.streams (w.apps k).stream).connect (w.apps k).number D (w.streams (w.apps k).stream).down) (stream_out_item (w.streams (w.apps k).stream).connect (w.apps k).number D (CloseRsp (x ∷ xs) c)) ≡ true
      here k came there on D de = by_key k came there on D de (is_drawn_number D c) refl

  asked_calm : (e : HeldEntry) → IsOwn w f c e → e.state ≡ Open → from_front w.server f (CloseReq c) ≡ record { state = record w.server { held = map (closed_at e.link e.connect_id true) w.server.held }; outs = close_asked e.link e.connect_id ∷ [] }
      → Calm w (record { state = record w.server { held = map (closed_at e.link e.connect_id true) w.server.held }; outs = close_asked e.link e.connect_id ∷ [] }) (taken_in w f keys present (CloseReq c) rest first)
  asked_calm e is es eq = sent_in w f keys present (CloseReq c) rest first (CloseReq c) _ eq (record { links = λ i. refl; fronts = refl; number = refl; awaited = keys.server.awaited; held = held })
      (record { front = λ g. refl; cut = λ l. refl; made = λ i own D. refl; new = λ d x. refl }) (λ i. close_fits w keys e is.at i)
      (λ k d came de there. close_behind w keys e is.at f is.front es k d came de there ((w.dials d).link == e.link) refl)
    where
      same_entry : (a b : HeldEntry) → Some a ≡ Some b → a ≡ b
      same_entry a b h = cc

      closed_fits : HeldFits w e.dial (closed_entry true e)
      closed_fits = let fits = keys.server.held e.dial e is.at in record { link = fits.link; cid = fits.cid; drawn = fits.drawn; named = fits.named; front = fits.front }

      held : (d : ℕ) (x : HeldEntry) → first_where (is_held_dial d) (map (closed_at e.link e.connect_id true) w.server.held) ≡ Some x → HeldFits w d x
      held d x h = here (e.dial == d) refl
        where
          here : (b : Bool) → (e.dial == d) ≡ b → HeldFits w d x
          here true at =
              let same : e.dial ≡ d = eqb-true e.dial d at in
              let found : Some (closed_entry true e) ≡ Some x = sym (held_own w f c rest keys first present client e is) ∙ ap (λ i. first_where (is_held_dial i) (map (closed_at e.link e.connect_id true) w.server.held)) same ∙ h in
              subst (λ i. HeldFits w i x) same (subst (λ y. HeldFits w e.dial y) (same_entry (closed_entry true e) x found) closed_fits)
          here false other = keys.server.held d x (sym (held_other w f c rest keys first present client e is d other) ∙ h)

  pub close_in_calm : (o : Option HeldEntry) → own f (held_at c w.server.held) ≡ o → Calm w (close_from_front w.server f c o) (taken_in w f keys present (CloseReq c) rest first)
  close_in_calm None at = unknown_calm _ _ (rw at refl)
  close_in_calm (Some e) at = here e.state refl
    where
      here : (state : HeldState) → e.state ≡ state → Calm w (close_own w.server state e) (taken_in w f keys present (CloseReq c) rest first)
      here Open es = asked_calm e (found_own w f c e at) es (rw (at, es) refl)
      here Closing es = silent_in w f keys present (CloseReq c) rest first (CloseReq c) w.server (rw (at, es) refl) (same_fits w keys)

-- ---- a request that is refused
module _ (w : World) (f : ℕ) (keys : Keys w) (present : is_present (w.streams f).front ≡ true) (protocol address : List ℕ) (random : ℤ) (rest : List Packet) (first : (w.streams f).up ≡ DialReq protocol address random ∷ rest) where
  pub its_asker : AskedOn w f random
  its_asker = let all : Each (RequestOf w f) (DialReq protocol address random ∷ rest) = subst (λ ps. Each (RequestOf w f) ps) first (keys.clients.requests f) in all.0

  pub refused_calm : (x : ℕ) (xs : List ℕ) → from_front w.server f (DialReq protocol address random) ≡ told w.server (refusal f random (x ∷ xs) ∷ [])
      → Calm w (told w.server (refusal f random (x ∷ xs) ∷ [])) (taken_in w f keys present (DialReq protocol address random) rest first)
  refused_calm x xs eq = answered_in w f keys present (DialReq protocol address random) rest first (DialReq protocol address random) (told w.server (refusal f random (x ∷ xs) ∷ [])) eq (same_fits w keys) (DialRsp (x ∷ xs) (pos 0) random) refl
      (keys.server.from_one, λ client. its_asker) (λ k came there on. here k came there on (asks (w.streams (w.apps k).stream).connect (w.apps k).number random) refl)
    where
      free : (k : ℕ) → (w.apps k).came ≡ true → (w.streams (w.apps k).stream).client ≡ true → (w.apps k).stream ≡ f → asks (w.streams (w.apps k).stream).connect (w.apps k).number random ≡ true → head_follows (word_of w k) ≡ true
      free k came there on own = by_dial (w.apps k).dial refl
        where
          seen : is_present (w.streams (w.apps k).stream).front ≡ true
          seen = rw on present

          request : (D : Option ℕ) → (stream_in_word (w.streams (w.apps k).stream).connect (w.apps k).number D (w.streams (w.apps k).stream).up).request ≡ true
          request D = rw on (asked w f protocol address random rest keys first present (w.streams f).connect (w.apps k).number D (rw on at own))

          by_dial : (D : Option ℕ) → (w.apps k).dial ≡ D → head_follows (stream_out_word (w.streams (w.apps k).stream).connect (w.apps k).number D (w.streams (w.apps k).stream).down) ≡ true
          by_dial None de = let facts : Facts (tunnel_of w (w.apps k) None) = rw de at (keys.facts k came) in rw (seen, request None, there) at (refusal_order (tunnel_of w (w.apps k) None) facts.stream)
          by_dial (Some d) de = let facts : Facts (tunnel_of w (w.apps k) (Some d)) = rw de at (keys.facts k came) in rw (seen, request (Some d), there) at (refusal_order (tunnel_of w (w.apps k) (Some d)) facts.stream)

      here : (k : ℕ) → (w.apps k).came ≡ true → (w.streams (w.apps k).stream).client ≡ true → (w.apps k).stream ≡ f → (b : Bool) → asks (w.streams (w.apps k).stream).connect (w.apps k).number random ≡ b
          → out_follows (word_of w k) (item_of w k (DialRsp (x ∷ xs) (pos 0) random)) ≡ true
      here k came there on true own = ap (out_follows (word_of w k)) (refusal_own (w.streams (w.apps k).stream).connect (w.apps k).number (w.apps k).dial x xs (pos 0) random own) ∙ free k came there on own
      here k came there on false other = ap (out_follows (word_of w k)) (refusal_not (w.streams (w.apps k).stream).connect (w.apps k).number (w.apps k).dial x xs (pos 0) random other)
