-- A stream that begins keeps the facts on keys: no app is on it yet.
use Rattle.std.proofs.Common.{◌≡◌, ◌==◌, ◌≤◌, ℕ, ℤ, Bool, true, false, not, cond, [], ◌∷◌, Option, Some, None, ◌⊎◌, inl, inr, refl, sym, ◌∙◌, eqb-true, subst}
use Rattle.kn_packet.specs.declared.packet.Packet.{Packet}
use Rattle.kn_packet.specs.declared.packet.Packet.TheVariants.{CloseReq, CloseRsp, Data, DialCls, DialReq, DialRsp, Drain, Other}
use Rattle.kn_tables.specs.Lists.{first_where}
use Rattle.kn_server_core.specs.Isolation.{Each}
use Rattle.kn_server_core.specs.FrontLists.{is_up}
use Rattle.kn_edge_core.specs.ClientTables.{is_app}
use Rattle.kn_tunnel.specs.Kinds.{is_present}
use Rattle.kn_tunnel.proofs.AllSteps.{facts_followed}
use Rattle.kn_words.specs.In.{in_ordered, stream_in_item}
use Rattle.kn_words.specs.Out.{out_ordered, stream_out_item}
use Rattle.kn_packets.specs.Keys.{AnswerFits, AskedOn, ClientKeys, InOrder, IsAppOf, Keys, OfConnection, RequestOf, ServerKeys, StreamOlder}
use Rattle.kn_packets.specs.Lifts.{Lifts}
use Rattle.kn_packets.specs.Moves.{HasNoStream, May, StreamBegins, after, is_of_client, new_stream, stream_begins}
use Rattle.kn_packets.specs.Outputs.{asks}
use Rattle.kn_packets.specs.World.{World, WorldStream, tunnel, tunnel_of}
use Rattle.kn_packets.proofs.AgentKept.{each_as}
use Rattle.kn_packets.proofs.Connections.{off_new}
use Rattle.kn_packets.proofs.StreamKept.{agents_same}
use Rattle.kn_packets.proofs.Taken.{and_first, and_second, not_false}

module _ (w : World) (f : ℕ) (connect : Bool) (owner app : ℕ) (keys : Keys w) (fresh : (w.streams f).begun ≡ false) (one : (connect ≡ true) ⊎ HasNoStream owner w) where
  abbrev new : WorldStream
  new = new_stream connect owner app

  abbrev next : World
  next = stream_begins f new w

  pub off : (k : ℕ) → (w.apps k).came ≡ true → ((w.apps k).stream == f) ≡ false
  off k came = off_new w f k keys came fresh

  stream_same : (k : ℕ) → (w.apps k).came ≡ true → next.streams (w.apps k).stream ≡ w.streams (w.apps k).stream
  stream_same k came = rw (off k came) refl

  -- what holds of a stream
  at_stream : (Q : WorldStream → Type 0) (i : ℕ) → Q (w.streams i) → Q new → Q (next.streams i)
  at_stream Q i old fits = here (i == f)
    where
      here : (b : Bool) → Q (cond b new (w.streams i))
      here true = fits
      here false = old

  server_kept : ServerKeys next
  server_kept = record {
    orderly = keys.server.orderly;
    from_one = keys.server.from_one;
    links_up = keys.server.links_up;
    fronts_up = λ i. at_stream (λ s. is_present s.front ≡ true → is_up i w.server.fronts ≡ true) i (keys.server.fronts_up i) (λ h. absurd cc);
    awaited = λ d e h.
        let fits = keys.server.awaited d e h in record {
          link = fits.link;
          front = fits.front;
          random = λ k came de. subst (λ s. asks s.connect (w.apps k).number e.random ≡ true) (sym (stream_same k came)) (fits.random k came de);
          app = λ k came on own. fits.app k came on (subst (λ s. asks s.connect (w.apps k).number e.random ≡ true) (stream_same k came) own);
          has_app = fits.has_app;
        };
    held = λ d e h. let fits = keys.server.held d e h in record { link = fits.link; cid = fits.cid; drawn = fits.drawn; named = fits.named; front = fits.front };
    dials_older = keys.server.dials_older;
    ups_older = keys.server.ups_older;
    downs_older = keys.server.downs_older;
    agents_older = keys.server.agents_older;
    ins_older = λ i. at_stream (λ s. Each (StreamOlder w.server.next_dial) s.up) i (keys.server.ins_older i) tt;
    outs_older = λ i. at_stream (λ s. Each (StreamOlder w.server.next_dial) s.down) i (keys.server.outs_older i) tt;
  }

  -- a stream of a client that is new is the only one of its client
  no_other : (i c : ℕ) → is_of_client c new ≡ true → is_of_client c (w.streams i) ≡ true → (w.streams i).client ≡ true → ⊥
  no_other i c of_new of_old there = here one
    where
      same : owner ≡ c
      same = eqb-true owner c (and_second (not connect) (owner == c) of_new)

      here : (connect ≡ true) ⊎ HasNoStream owner w → ⊥
      here (inl is) = let client : connect ≡ false = not_false connect (and_first (not connect) (owner == c) of_new) in absurd (cc (is, client))
      here (inr none) = let gone : (w.streams i).client ≡ false = none i (subst (λ n. is_of_client n (w.streams i) ≡ true) (sym same) of_old) in absurd (cc (gone, there))

  abbrev Lone : ℕ → Bool → Bool → ℕ → ℕ → Type 0
  Lone c a b g h = is_of_client c (cond a new (w.streams g)) ≡ true → is_of_client c (cond b new (w.streams h)) ≡ true → (cond a new (w.streams g)).client ≡ true → (cond b new (w.streams h)).client ≡ true → g ≡ h

  lone : (c g h : ℕ) (a b : Bool) → (g == f) ≡ a → (h == f) ≡ b → Lone c a b g h
  lone c g h true true at_g at_h of_g of_h there_g there_h = eqb-true g f at_g ∙ sym (eqb-true h f at_h)
  lone c g h true false at_g at_h of_g of_h there_g there_h = absurd (no_other h c of_g of_h there_h)
  lone c g h false true at_g at_h of_g of_h there_g there_h = absurd (no_other g c of_h of_g there_g)
  lone c g h false false at_g at_h of_g of_h there_g there_h = keys.clients.alone g h c of_g of_h there_g there_h

  app_of : (c n k : ℕ) → IsAppOf next c n k → IsAppOf w c n k
  app_of c n k h = (h.0, subst (λ s. is_of_client c s ≡ true) (stream_same k h.0) h.1, h.2)

  of_app : (c n k : ℕ) → IsAppOf w c n k → IsAppOf next c n k
  of_app c n k h = (h.0, subst (λ s. is_of_client c s ≡ true) (sym (stream_same k h.0)) h.1, h.2)

  asked_kept : (i : ℕ) (random : ℤ) → AskedOn w i random → AskedOn next i random
  asked_kept i random h = (h.0, h.1, h.2, subst (λ s. asks s.connect (w.apps h.0).number random ≡ true) (sym (subst (λ j. next.streams j ≡ w.streams j) h.2 (stream_same h.0 h.1))) h.3)

  request_kept : (i : ℕ) (p : Packet) → RequestOf w i p → RequestOf next i p
  request_kept i (DialReq protocol address random) h = asked_kept i random h
  request_kept i (DialRsp error c r) h = tt
  request_kept i (Data c error bytes) h = tt
  request_kept i (CloseReq c) h = tt
  request_kept i (CloseRsp error c) h = tt
  request_kept i (DialCls random) h = asked_kept i random h
  request_kept i Drain h = tt
  request_kept i (Other number) h = tt

  answer_kept : (i : ℕ) (p : Packet) → AnswerFits w i p → AnswerFits next i p
  answer_kept i (DialRsp [] c r) h = (asked_kept i r h.0, h.1)
  answer_kept i (DialRsp (x ∷ xs) c r) h = asked_kept i r h
  answer_kept i (DialReq protocol address random) h = tt
  answer_kept i (Data c error bytes) h = tt
  answer_kept i (CloseReq c) h = tt
  answer_kept i (CloseRsp error c) h = tt
  answer_kept i (DialCls random) h = tt
  answer_kept i Drain h = tt
  answer_kept i (Other number) h = tt

  clients_kept : ClientKeys next
  clients_kept = record {
    begun = λ k came. subst (λ s. s.begun ≡ true) (sym (stream_same k came)) (keys.clients.begun k came);
    unfinished = λ i. at_stream (λ s. s.connect ≡ false → s.finished ≡ false) i (keys.clients.unfinished i) (λ c. refl);
    alone = λ g h c. lone c g h (g == f) (h == f) refl refl;
    apart = λ j k c n at_j at_k. keys.clients.apart j k c n (app_of c n j at_j) (app_of c n k at_k);
    connect_one = λ j k came_j came_k on is. keys.clients.connect_one j k came_j came_k on (subst (λ s. s.connect ≡ true) (stream_same j came_j) is);
    connection = λ k came is. subst (λ s. s.app ≡ k) (sym (stream_same k came)) (keys.clients.connection k came (subst (λ s. s.connect ≡ true) (stream_same k came) is));
    connect_ins = λ i. at_stream (λ s. s.connect ≡ true → Each OfConnection s.up) i (keys.clients.connect_ins i) (λ h. tt);
    requests = λ i. at_stream (λ s. Each (RequestOf next i) s.up) i (each_as (RequestOf w i) (RequestOf next i) (request_kept i) (w.streams i).up (keys.clients.requests i)) tt;
    answers = λ i. at_stream (λ s. s.connect ≡ false → Each (AnswerFits next i) s.down) i (λ c. each_as (AnswerFits w i) (AnswerFits next i) (answer_kept i) (w.streams i).down (keys.clients.answers i c)) (λ c. tt);
    known = λ c n x at. let of_it = keys.clients.known c n x at in (of_it.0, of_app c n of_it.0 of_it.1);
    apps_rise = keys.clients.apps_rise;
    tops = λ k came c. subst (λ s. (w.apps k).number ≤ (w.clients s.owner).top_app) (sym (stream_same k came)) (keys.clients.tops k came (subst (λ s. s.connect ≡ false) (stream_same k came) c));
    listed = λ k x came c at.
        let h = keys.clients.listed k x came (subst (λ s. s.connect ≡ false) (stream_same k came) c) (subst (λ s. first_where (is_app (w.apps k).number) (w.clients s.owner).apps ≡ Some x) (stream_same k came) at) in
        record { unwritten = h.unwritten; dial = h.dial };
    left = λ k came c none. keys.clients.left k came (subst (λ s. s.connect ≡ false) (stream_same k came) c) (subst (λ s. first_where (is_app (w.apps k).number) (w.clients s.owner).apps ≡ None) (stream_same k came) none);
    dials_once = keys.clients.dials_once;
  }

  order_kept : (k : ℕ) → (w.apps k).came ≡ true → InOrder next k
  order_kept k came =
      let old = keys.ordered k came in record {
        inward = subst (λ s. in_ordered (stream_in_item s.connect (w.apps k).number (w.apps k).dial) s.up ≡ true) (sym (stream_same k came)) old.inward;
        outward = subst (λ s. out_ordered (stream_out_item s.connect (w.apps k).number (w.apps k).dial) s.down ≡ true) (sym (stream_same k came)) old.outward;
        up = old.up;
        down = old.down;
      }

  lifts : Lifts w next
  lifts k came = inl (same (w.apps k).dial)
    where
      same : (D : Option ℕ) → tunnel_of next (w.apps k) D ≡ tunnel_of w (w.apps k) D
      same None = rw (off k came) refl
      same (Some d) = rw (off k came) refl

  pub begins_keeps : Keys next
  begins_keeps = record {
    server = server_kept;
    agents = agents_same w next.streams next.apps (λ d h. h) keys.agents;
    clients = clients_kept;
    ordered = order_kept;
    facts = λ k came. facts_followed (tunnel w k) (tunnel next k) (lifts k came) (keys.facts k came);
  }

pub stream_begins_keep : (w : World) (f c : ℕ) → Keys w → May (StreamBegins f c) w → Keys (after (StreamBegins f c) w)
stream_begins_keep w f c keys may = begins_keeps w f false c 0 keys may.0 (inr may.1)
