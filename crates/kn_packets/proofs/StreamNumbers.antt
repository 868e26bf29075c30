-- A stream that gets its number: each tunnel is as it was, and the facts on keys are kept.
use Rattle.std.proofs.Common.{◌≡◌, ◌==◌, ◌&&◌, ◌≤◌, ℕ, ℤ, Bool, true, false, not, cond, [], ◌∷◌, Option, Some, None, inl, refl, sym, ap, ◌∙◌, eqb-true, subst}
use Rattle.kn_packet.specs.declared.packet.Packet.{Packet}
use Rattle.kn_packet.specs.declared.packet.Packet.TheVariants.{CloseReq, CloseRsp, Data, DialCls, DialReq, DialRsp, Drain, Other}
use Rattle.kn_tables.specs.Lists.{first_where}
use Rattle.kn_tables.specs.Awaiting.{is_dial}
use Rattle.kn_tables.specs.Holding.{is_held_dial}
use Rattle.kn_tables.specs.declared.awaited_entry.AwaitedEntry.{AwaitedEntry}
use Rattle.kn_tables.specs.declared.held_entry.HeldEntry.{HeldEntry}
use Rattle.kn_tables.specs.declared.held_entry.HeldState.{HeldState}
use Rattle.kn_tables.specs.declared.held_entry.HeldState.TheVariants as held
use Rattle.kn_server_core.specs.Isolation.{Each}
use Rattle.kn_server_core.specs.FrontLists.{is_up}
use Rattle.kn_edge_core.specs.ClientTables.{is_app}
use Rattle.kn_tunnel.specs.Kinds.{implies, is_coming, is_present, no_entry}
use Rattle.kn_tunnel.specs.StreamSide.{StreamView, app_bytes, front_fits, in_ok, lost_out, order_out, phase_fits, rows, stream_control, stream_ok, stream_view}
use Rattle.kn_tunnel.specs.Tunnel.{Coming, Entry, Front, Gone, Present, Tunnel}
use Rattle.kn_tunnel.proofs.AllSteps.{facts_followed}
use Rattle.kn_words.specs.In.{in_ordered, stream_in_item}
use Rattle.kn_words.specs.Out.{out_ordered, stream_out_item}
use Rattle.kn_packets.specs.Keys.{AnswerFits, AskedOn, ClientKeys, InOrder, IsAppOf, Keys, OfConnection, RequestOf, ServerKeys, StreamOlder}
use Rattle.kn_packets.specs.Lifts.{Lifts}
use Rattle.kn_packets.specs.Moves.{May, StreamIsNumbered, after, is_of_client, no_stream, renamed}
use Rattle.kn_packets.specs.Outputs.{asks}
use Rattle.kn_packets.specs.World.{World, WorldStream, drawn_tunnel, entry_at, entry_of, held_entry, phase_of, tunnel, tunnel_of, undrawn_tunnel}
use Rattle.kn_packets.proofs.AgentKept.{each_as}
use Rattle.kn_packets.proofs.Connections.{off_new}
use Rattle.kn_packets.proofs.Fresh.{eqb_refl}
use Rattle.kn_packets.proofs.StreamKept.{agents_same}
use Rattle.kn_packets.proofs.Taken.{and_first, and_second, not_false}

-- ---- an entry is one
some_held : (state : HeldState) (front : Option ℕ) → no_entry (held_entry state front) ≡ false
some_held state None = refl
some_held held.Open (Some front) = refl
some_held held.Closing (Some front) = refl

some_awaited : (e : AwaitedEntry) (h : Option HeldEntry) → no_entry (entry_of (Some e) h) ≡ false
some_awaited e (Some x) = some_held x.state x.front
some_awaited e None = refl

coming_none : (front : Front) (entry : Entry) (request : Bool) → is_coming front ≡ true → front_fits front entry request ≡ true → no_entry entry ≡ true
coming_none Coming entry request c fits = fits
coming_none Present entry request c fits = absurd cc
coming_none Gone entry request c fits = absurd cc

first_of_five : (a b c d e : Bool) → (a && b && c && d && e) ≡ true → a ≡ true
first_of_five true b c d e h = refl
first_of_five false b c d e h = absurd cc

control_fits : (v : StreamView) → stream_ok v ≡ true → front_fits v.front v.entry v.request ≡ true
control_fits v ok = first_of_five (front_fits v.front v.entry v.request) (phase_fits v.connect v.phase v.client v.drawn) (implies v.finished v.connect) (implies (not v.drawn) (no_entry v.entry)) (implies v.request (not v.drawn))
    (and_first (stream_control v.connect v.front v.client v.finished v.phase v.entry v.drawn v.request)
    (in_ok v.connect v.front v.entry v.drawn v.request v.cancel v.in_data v.in_close && (lost_out v && (order_out v && (app_bytes v && rows v)))) ok)

module _ (w : World) (f g : ℕ) (keys : Keys w) (may : May (StreamIsNumbered f g) w) where
  abbrev next : World
  next = after (StreamIsNumbered f g) w

  abbrev at : ℕ → ℕ
  at k = (w.apps k).stream

  coming : is_coming (w.streams f).front ≡ true
  coming = and_first (is_coming (w.streams f).front) (not (w.streams g).begun) may

  fresh : (w.streams g).begun ≡ false
  fresh = not_false (w.streams g).begun (and_second (is_coming (w.streams f).front) (not (w.streams g).begun) may)

  off : (k : ℕ) → (w.apps k).came ≡ true → (at k == g) ≡ false
  off k came = off_new w g k keys came fresh

  stream_same : (k : ℕ) → (w.apps k).came ≡ true → next.streams (next.apps k).stream ≡ w.streams (at k)
  stream_same k came = by_f (at k == f) refl
    where
      by_f : (b : Bool) → (at k == f) ≡ b → next.streams (renamed f g (at k)) ≡ w.streams (at k)
      by_f true on = rw (on, eqb_refl g) (ap w.streams (sym (eqb-true (at k) f on)))
      by_f false on = rw (on, off k came, on) refl

  -- ---- numbers, forth and back
  pub forth_new : (k : ℕ) → at k ≡ f → (next.apps k).stream ≡ g
  forth_new k e = rw (e, eqb_refl f) refl

  pub forth : (k i : ℕ) → at k ≡ i → (i == f) ≡ false → (next.apps k).stream ≡ i
  forth k i e other = rw (e, other) refl

  back_new : (k : ℕ) → (w.apps k).came ≡ true → (next.apps k).stream ≡ g → at k ≡ f
  back_new k came = by_f (at k == f) refl
    where
      by_f : (b : Bool) → (at k == f) ≡ b → cond b g (at k) ≡ g → at k ≡ f
      by_f true on e = eqb-true (at k) f on
      by_f false on e = let here : (g == g) ≡ false = subst (λ i. (i == g) ≡ false) e (off k came) in absurd (cc (here, eqb_refl g))

  back : (k i : ℕ) → (next.apps k).stream ≡ i → (i == g) ≡ false → at k ≡ i
  back k i = by_f (at k == f)
    where
      by_f : (b : Bool) → cond b g (at k) ≡ i → (i == g) ≡ false → at k ≡ i
      by_f true e other = let here : (g == g) ≡ false = subst (λ j. (j == g) ≡ false) (sym e) other in absurd (cc (here, eqb_refl g))
      by_f false e other = e

  -- ---- tunnels
  abbrev seen : ℕ → WorldStream → Option ℕ → Tunnel
  seen k z None = undrawn_tunnel z.connect (w.apps k).number (phase_of z.connect (first_where (is_app (w.apps k).number) (w.clients z.owner).apps) (w.apps k).phase) (w.apps k).side z
  seen k z (Some d) = drawn_tunnel z.connect (w.apps k).number (phase_of z.connect (first_where (is_app (w.apps k).number) (w.clients z.owner).apps) (w.apps k).phase) (w.apps k).side z d (entry_at w.server d) (w.dials d).cid (w.dials d).side (w.agents (w.dials d).link) (w.links (w.dials d).link)

  tunnel_same : (k : ℕ) → (w.apps k).came ≡ true → (D : Option ℕ) → tunnel_of next (next.apps k) D ≡ tunnel_of w (w.apps k) D
  tunnel_same k came None = ap (λ z. seen k z None) (stream_same k came)
  tunnel_same k came (Some d) = ap (λ z. seen k z (Some d)) (stream_same k came)

  lifts : Lifts w next
  lifts k came = inl (tunnel_same k came (w.apps k).dial)

  -- ---- a dial that the server has is of no stream whose front has not come up
  entry_none : (k d : ℕ) → (w.apps k).came ≡ true → (w.apps k).dial ≡ Some d → is_coming (w.streams (at k)).front ≡ true → no_entry (entry_at w.server d) ≡ true
  entry_none k d came de c = by_dial (w.apps k).dial de (keys.facts k came).stream
    where
      by_dial : (D : Option ℕ) → D ≡ Some d → stream_ok (stream_view (tunnel_of w (w.apps k) D)) ≡ true → no_entry (entry_at w.server d) ≡ true
      by_dial None e ok = absurd cc
      by_dial (Some x) e ok =
          let same : x ≡ d = cc in
          let v = stream_view (tunnel_of w (w.apps k) (Some x)) in
          let fits : front_fits v.front v.entry v.request ≡ true = control_fits v ok in
          subst (λ i. no_entry (entry_at w.server i) ≡ true) same (coming_none v.front v.entry v.request c fits)

  elsewhere : (k d : ℕ) → (w.apps k).came ≡ true → (w.apps k).dial ≡ Some d → no_entry (entry_at w.server d) ≡ false → (at k == f) ≡ false
  elsewhere k d came de some = by_f (at k == f) refl
    where
      by_f : (b : Bool) → (at k == f) ≡ b → b ≡ false
      by_f false e = refl
      by_f true e =
          let here : is_coming (w.streams (at k)).front ≡ true = subst (λ i. is_coming (w.streams i).front ≡ true) (sym (eqb-true (at k) f e)) coming in
          absurd (cc (entry_none k d came de here, some))

  of_awaited : (d : ℕ) (e : AwaitedEntry) → first_where (is_dial d) w.server.awaited ≡ Some e → no_entry (entry_at w.server d) ≡ false
  of_awaited d e h = subst (λ o. no_entry (entry_of o (first_where (is_held_dial d) w.server.held)) ≡ false) (sym h) (some_awaited e (first_where (is_held_dial d) w.server.held))

  of_held : (d : ℕ) (e : HeldEntry) → first_where (is_held_dial d) w.server.held ≡ Some e → no_entry (entry_at w.server d) ≡ false
  of_held d e h = subst (λ o. no_entry (entry_of (first_where (is_dial d) w.server.awaited) o) ≡ false) (sym h) (some_held e.state e.front)

  -- ---- what holds of each stream
  pub at_stream : (Q : ℕ → WorldStream → Type 0) → Q g (w.streams f) → ((i : ℕ) → Q i no_stream) → ((i : ℕ) → (i == g) ≡ false → (i == f) ≡ false → Q i (w.streams i)) → (i : ℕ) → Q i (next.streams i)
  at_stream Q new none old i = by_g (i == g) refl
    where
      by_f : (b : Bool) → (i == g) ≡ false → (i == f) ≡ b → Q i (cond b no_stream (w.streams i))
      by_f true other e = none i
      by_f false other e = old i other e

      by_g : (b : Bool) → (i == g) ≡ b → Q i (cond b (w.streams f) (cond (i == f) no_stream (w.streams i)))
      by_g true e = subst (λ j. Q j (w.streams f)) (sym (eqb-true i g e)) new
      by_g false e = by_f (i == f) e refl

  coming_absent : (front : Front) → is_coming front ≡ true → is_present front ≡ true → ⊥
  coming_absent Coming c p = absurd cc
  coming_absent Present c p = absurd cc
  coming_absent Gone c p = absurd cc

  server_kept : ServerKeys next
  server_kept = record {
    orderly = keys.server.orderly;
    from_one = keys.server.from_one;
    links_up = keys.server.links_up;
    fronts_up = at_stream (λ i s. is_present s.front ≡ true → is_up i w.server.fronts ≡ true) (λ h. absurd (coming_absent (w.streams f).front coming h)) (λ i h. absurd cc) (λ i a b. keys.server.fronts_up i);
    awaited = λ d e h.
        let fits = keys.server.awaited d e h in record {
          link = fits.link;
          front = λ k came de. rw (elsewhere k d came de (of_awaited d e h)) (fits.front k came de);
          random = λ k came de. subst (λ s. asks s.connect (w.apps k).number e.random ≡ true) (sym (stream_same k came)) (fits.random k came de);
          app = λ k came on own.
              let its = fits.has_app in
              let there : at its.0 ≡ e.front = fits.front its.0 its.1 its.2 in
              let not_new : (e.front == g) ≡ false = subst (λ i. (i == g) ≡ false) there (off its.0 its.1) in
              fits.app k came (back k e.front on not_new) (subst (λ s. asks s.connect (w.apps k).number e.random ≡ true) (stream_same k came) own);
          has_app = fits.has_app;
        };
    held = λ d e h.
        let fits = keys.server.held d e h in
        record { link = fits.link; cid = fits.cid; drawn = fits.drawn; named = fits.named; front = λ k i came de ef. rw (elsewhere k d came de (of_held d e h)) (fits.front k i came de ef) };
    dials_older = keys.server.dials_older;
    ups_older = keys.server.ups_older;
    downs_older = keys.server.downs_older;
    agents_older = keys.server.agents_older;
    ins_older = at_stream (λ i s. Each (StreamOlder w.server.next_dial) s.up) (keys.server.ins_older f) (λ i. tt) (λ i a b. keys.server.ins_older i);
    outs_older = at_stream (λ i s. Each (StreamOlder w.server.next_dial) s.down) (keys.server.outs_older f) (λ i. tt) (λ i a b. keys.server.outs_older i);
  }

  -- ---- a client's streams
  abbrev Lone : ℕ → WorldStream → WorldStream → ℕ → ℕ → Type 0
  Lone c y z i j = is_of_client c y ≡ true → is_of_client c z ≡ true → y.client ≡ true → z.client ≡ true → i ≡ j

  alone : (c i j : ℕ) → Lone c (next.streams i) (next.streams j) i j
  alone c = at_stream (λ i y. (j : ℕ) → Lone c y (next.streams j) i j)
      (at_stream (λ j z. Lone c (w.streams f) z g j) (λ a b p q. refl) (λ j a b p q. absurd cc)
      (λ j not_g not_f a b p q. let same : f ≡ j = keys.clients.alone f j c a b p q in absurd (cc (subst (λ x. (x == f) ≡ false) (sym same) not_f, eqb_refl f))))
      (λ i j a b p q. absurd cc)
      (λ i not_g not_f. at_stream (λ j z. Lone c (w.streams i) z i j)
      (λ a b p q. let same : i ≡ f = keys.clients.alone i f c a b p q in absurd (cc (subst (λ x. (x == f) ≡ false) same not_f, eqb_refl f)))
      (λ j a b p q. absurd cc) (λ j not_g' not_f' a b p q. keys.clients.alone i j c a b p q))

  app_of : (c n k : ℕ) → IsAppOf next c n k → IsAppOf w c n k
  app_of c n k h = (h.0, subst (λ s. is_of_client c s ≡ true) (stream_same k h.0) h.1, h.2)

  of_app : (c n k : ℕ) → IsAppOf w c n k → IsAppOf next c n k
  of_app c n k h = (h.0, subst (λ s. is_of_client c s ≡ true) (sym (stream_same k h.0)) h.1, h.2)

  -- from the number i of before to the number j of now
  abbrev Now : ℕ → ℕ → Type 0
  Now i j = (next.streams j ≡ w.streams i) × ((k : ℕ) → (w.apps k).came ≡ true → at k ≡ i → (next.apps k).stream ≡ j) × ((k : ℕ) → (w.apps k).came ≡ true → (next.apps k).stream ≡ j → at k ≡ i)

  now_new : Now f g
  now_new = (rw (eqb_refl g) refl, (λ k came e. forth_new k e), (λ k came e. back_new k came e))

  now_old : (i : ℕ) → (i == g) ≡ false → (i == f) ≡ false → Now i i
  now_old i not_g not_f = (rw (not_g, not_f) refl, (λ k came e. forth k i e not_f), (λ k came e. back k i e not_g))

  asked_kept : (i j : ℕ) (random : ℤ) → Now i j → AskedOn w i random → AskedOn next j random
  asked_kept i j random now h = (h.0, h.1, now.1 h.0 h.1 h.2, subst (λ s. asks s.connect (w.apps h.0).number random ≡ true) (sym now.0) h.3)

  request_kept : (i j : ℕ) → Now i j → (p : Packet) → RequestOf w i p → RequestOf next j p
  request_kept i j now (DialReq protocol address random) h = asked_kept i j random now h
  request_kept i j now (DialRsp error c r) h = tt
  request_kept i j now (Data c error bytes) h = tt
  request_kept i j now (CloseReq c) h = tt
  request_kept i j now (CloseRsp error c) h = tt
  request_kept i j now (DialCls random) h = asked_kept i j random now h
  request_kept i j now Drain h = tt
  request_kept i j now (Other number) h = tt

  answer_kept : (i j : ℕ) → Now i j → (p : Packet) → AnswerFits w i p → AnswerFits next j p
  answer_kept i j now (DialRsp [] c r) h = (asked_kept i j r now h.0, (λ k came on. h.1 k came (now.2 k came on)))
  answer_kept i j now (DialRsp (x ∷ xs) c r) h = asked_kept i j r now h
  answer_kept i j now (DialReq protocol address random) h = tt
  answer_kept i j now (Data c error bytes) h = tt
  answer_kept i j now (CloseReq c) h = tt
  answer_kept i j now (CloseRsp error c) h = tt
  answer_kept i j now (DialCls random) h = tt
  answer_kept i j now Drain h = tt
  answer_kept i j now (Other number) h = tt

  one_stream : (j k : ℕ) → (w.apps j).came ≡ true → (w.apps k).came ≡ true → (next.apps j).stream ≡ (next.apps k).stream → at j ≡ at k
  one_stream j k came_j came_k e = by_f (at k == f) refl
    where
      by_f : (b : Bool) → (at k == f) ≡ b → at j ≡ at k
      by_f true on = back_new j came_j (e ∙ forth_new k (eqb-true (at k) f on)) ∙ sym (eqb-true (at k) f on)
      by_f false on = back j (at k) (e ∙ forth k (at k) refl on) (off k came_k)

  clients_kept : ClientKeys next
  clients_kept = record {
    begun = λ k came. subst (λ s. s.begun ≡ true) (sym (stream_same k came)) (keys.clients.begun k came);
    unfinished = at_stream (λ i s. s.connect ≡ false → s.finished ≡ false) (keys.clients.unfinished f) (λ i c. refl) (λ i a b. keys.clients.unfinished i);
    alone = λ i j c. alone c i j;
    apart = λ j k c n at_j at_k. keys.clients.apart j k c n (app_of c n j at_j) (app_of c n k at_k);
    connect_one = λ j k came_j came_k on is. keys.clients.connect_one j k came_j came_k (one_stream j k came_j came_k on) (subst (λ s. s.connect ≡ true) (stream_same j came_j) is);
    connection = λ k came is. subst (λ s. s.app ≡ k) (sym (stream_same k came)) (keys.clients.connection k came (subst (λ s. s.connect ≡ true) (stream_same k came) is));
    connect_ins = at_stream (λ i s. s.connect ≡ true → Each OfConnection s.up) (keys.clients.connect_ins f) (λ i h. tt) (λ i a b. keys.clients.connect_ins i);
    requests = at_stream (λ i s. Each (RequestOf next i) s.up) (each_as (RequestOf w f) (RequestOf next g) (request_kept f g now_new) (w.streams f).up (keys.clients.requests f)) (λ i. tt)
        (λ i a b. each_as (RequestOf w i) (RequestOf next i) (request_kept i i (now_old i a b)) (w.streams i).up (keys.clients.requests i));
    answers = at_stream (λ i s. s.connect ≡ false → Each (AnswerFits next i) s.down) (λ c. each_as (AnswerFits w f) (AnswerFits next g) (answer_kept f g now_new) (w.streams f).down (keys.clients.answers f c)) (λ i c. tt)
        (λ i a b c. each_as (AnswerFits w i) (AnswerFits next i) (answer_kept i i (now_old i a b)) (w.streams i).down (keys.clients.answers i c));
    known = λ c n x at. let of_it = keys.clients.known c n x at in (of_it.0, of_app c n of_it.0 of_it.1);
    apps_rise = keys.clients.apps_rise;
    tops = λ k came c. subst (λ s. (w.apps k).number ≤ (w.clients s.owner).top_app) (sym (stream_same k came)) (keys.clients.tops k came (subst (λ s. s.connect ≡ false) (stream_same k came) c));
    listed = λ k x came c at.
        let h = keys.clients.listed k x came (subst (λ s. s.connect ≡ false) (stream_same k came) c) (subst (λ s. first_where (is_app (w.apps k).number) (w.clients s.owner).apps ≡ Some x) (stream_same k came) at) in
        record { unwritten = h.unwritten; dial = h.dial };
    left = λ k came c none. keys.clients.left k came (subst (λ s. s.connect ≡ false) (stream_same k came) c) (subst (λ s. first_where (is_app (w.apps k).number) (w.clients s.owner).apps ≡ None) (stream_same k came) none);
    dials_once = keys.clients.dials_once;
  }

  order_kept : (k : ℕ) → (w.apps k).came ≡ true → InOrder next k
  order_kept k came =
      let old = keys.ordered k came in record {
        inward = subst (λ s. in_ordered (stream_in_item s.connect (w.apps k).number (w.apps k).dial) s.up ≡ true) (sym (stream_same k came)) old.inward;
        outward = subst (λ s. out_ordered (stream_out_item s.connect (w.apps k).number (w.apps k).dial) s.down ≡ true) (sym (stream_same k came)) old.outward;
        up = old.up;
        down = old.down;
      }

  keeps : Keys next
  keeps = record {
    server = server_kept;
    agents = agents_same w next.streams next.apps (λ d h. h) keys.agents;
    clients = clients_kept;
    ordered = order_kept;
    facts = λ k came. facts_followed (tunnel w k) (tunnel next k) (lifts k came) (keys.facts k came);
  }

pub same_when_numbered : (w : World) (f g : ℕ) → Keys w → May (StreamIsNumbered f g) w → (k : ℕ) → (w.apps k).came ≡ true → tunnel (after (StreamIsNumbered f g) w) k ≡ tunnel w k
same_when_numbered w f g keys may k came = tunnel_same w f g keys may k came (w.apps k).dial

pub numbered_lifts : (w : World) (f g : ℕ) → Keys w → May (StreamIsNumbered f g) w → Lifts w (after (StreamIsNumbered f g) w)
numbered_lifts w f g keys may = lifts w f g keys may

pub numbered_keeps : (w : World) (f g : ℕ) → Keys w → May (StreamIsNumbered f g) w → Keys (after (StreamIsNumbered f g) w)
numbered_keeps w f g keys may = keeps w f g keys may
