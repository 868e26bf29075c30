-- An app hands bytes over: to its client, or to its CONNECT connection.
use Rattle.std.proofs.Common.{◌≡◌, ◌==◌, ◌&&◌, ◌||◌, ◌⊎◌, ℕ, pos, Bool, true, false, not, cond, List, [], ◌∷◌, take, Option, Some, None, inl, inr, refl, sym, ◌∙◌, eqb-true, subst}
use Rattle.kn_packet.specs.declared.packet.Packet.{Packet}
use Rattle.kn_packet.specs.declared.packet.Packet.TheVariants.{Data}
use Rattle.kn_tables.specs.Lists.{first_where}
use Rattle.kn_edge_core.specs.Client.{app_bytes, app_bytes_by_state, told}
use Rattle.kn_edge_core.specs.ClientTables.{is_app}
use Rattle.kn_edge_core.specs.Steps.{ClientStep}
use Rattle.kn_edge_core.specs.declared.app.App.{App}
use Rattle.kn_edge_core.specs.declared.app.AppState.{AppState}
use Rattle.kn_edge_core.specs.declared.app.AppState.TheVariants as app
use Rattle.kn_edge_core.specs.declared.client_event.ClientOut.TheVariants.{ToServer}
use Rattle.kn_tunnel.specs.Events as event
use Rattle.kn_tunnel.specs.Kinds.{is_dialling, is_gone, is_opened}
use Rattle.kn_tunnel.specs.Steps.{Follows, appended}
use Rattle.kn_tunnel.specs.Tunnel.{Ended, Inward, Refused, Side}
use Rattle.kn_words.specs.In.{BytesIn, stream_in_item, stream_in_word}
use Rattle.kn_packets.specs.Keys.{Keys}
use Rattle.kn_packets.specs.Lifts.{Lifts}
use Rattle.kn_packets.specs.Moves.{AppHands, May, after, app_is, client_stepped, connect_hands, hands, hands_over, side_if}
use Rattle.kn_packets.specs.Outputs.{queued}
use Rattle.kn_packets.specs.World.{World, app_phase, phase_in, tunnel_of}
use Rattle.kn_packets.proofs.AppParts.{IsItsOwn, fits, has_stream, one_side, own_stays, steps_lift}
use Rattle.kn_packets.proofs.ClientReplies.{left_is}
use Rattle.kn_packets.proofs.Fresh.{eqb_refl}
use Rattle.kn_packets.proofs.Owners.{key_is}
use Rattle.kn_packets.proofs.Queues.{in_other, in_passed}
use Rattle.kn_packets.proofs.Taken.{and_first, and_second}

-- ---- to its client
module _ (w : World) (a m : ℕ) (keys : Keys w) (came : (w.apps a).came ≡ true) (client : (w.streams (w.apps a).stream).connect ≡ false) where
  abbrev c : ℕ
  c = (w.streams (w.apps a).stream).owner

  abbrev n : ℕ
  n = (w.apps a).number

  abbrev apps : List App
  apps = (w.clients c).apps

  abbrev ups : List Packet
  ups = (w.streams (w.apps a).stream).up

  abbrev front_there : Bool
  front_there = not (is_gone (w.streams (w.apps a).stream).front)

  abbrev word : Option ℕ → Inward
  word D = stream_in_word false n D ups

  abbrev bytes : List ℕ
  bytes = take m (w.apps a).side.kept

  abbrev sides : ℕ → Side → Side
  sides i s = side_if (i == a) (hands m) s

  abbrev later : ClientStep → World
  later S = client_stepped c false S (app_is a (hands m) w)

  module _ (x : App) (at : first_where (is_app n) apps ≡ Some x) (opened : x.state ≡ app.Open) where
    named : (d : ℕ) × ((w.apps a).dial ≡ Some d) × (x.connect_id ≡ pos d)
    named = (fits w keys a came client x at).dial (λ h. cc (opened, h))

    abbrev gives : ClientStep
    gives = told (w.clients c) (ToServer (Data x.connect_id [] bytes) ∷ [])

    gives_own : IsItsOwn w a keys came client false sides (one_side a (hands m)) gives
    gives_own = record {
      list = λ i off. refl;
      written = λ i xs off. refl;
      packets = λ i D b ps off other. in_other (stream_in_item false i D) b ps (Data x.connect_id [] bytes) (rw (named.2, other named.0 named.1) refl);
    }

    own_bytes : (D : Option ℕ) → (w.apps a).dial ≡ D → stream_in_item false n D (Data x.connect_id [] bytes) ≡ BytesIn bytes
    own_bytes D de = rw (key_is D x.connect_id named.0 (sym de ∙ named.1) named.2) refl

    bytes_sent : (D : Option ℕ) → (w.apps a).dial ≡ D → stream_in_word false n D (cond (w.streams (w.apps a).stream).client (queued front_there ups (Data x.connect_id [] bytes ∷ [])) ups) ≡ record (word D) { bytes = appended front_there (word D).bytes bytes }
    bytes_sent D de = rw (has_stream w keys a came client x at (λ h. cc (opened, h))) (in_passed (stream_in_item false n D) front_there ups (Data x.connect_id [] bytes) bytes (own_bytes D de))

    has_given : (D : Option ℕ) → (w.apps a).dial ≡ D → tunnel_of (later gives) ((later gives).apps a) D
        ≡ record (tunnel_of w (w.apps a) D) { phase = app_phase x.state; app = sides a (w.apps a).side; inward = record (word D) { bytes = appended front_there (word D).bytes bytes } }
    has_given D de = own_stays w a keys came client false sides (one_side a (hands m)) gives x at (λ xs. refl) D (record (word D) { bytes = appended front_there (word D).bytes bytes }) (bytes_sent D de)

    own : (D : Option ℕ) → (w.apps a).dial ≡ D → Follows (tunnel_of w (w.apps a) D) (tunnel_of (later gives) ((later gives).apps a) D)
    own None de = inr (event.AppHands m, (rw (client, at, opened) refl, tt), has_given None de ∙ rw (client, eqb_refl a, at, opened) refl)
    own (Some d) de = inr (event.AppHands m, (rw (client, at, opened) refl, tt), has_given (Some d) de ∙ rw (client, eqb_refl a, at, opened) refl)

    gives_lift : Lifts w (later gives)
    gives_lift = steps_lift w a keys came client false sides (one_side a (hands m)) gives gives_own (own (w.apps a).dial refl)

  by_list : is_opened (phase_in w (w.apps a)) ≡ true → (L : Option App) → first_where (is_app n) apps ≡ L → Lifts w (later (app_bytes (w.clients c) bytes L))
  by_list open_it (Some x) at = by_state x.state refl
    where
      by_state : (s : AppState) → x.state ≡ s → Lifts w (later (app_bytes_by_state (w.clients c) x.connect_id bytes s))
      by_state app.Open es = gives_lift x at es
      by_state app.Dialling es = let no_it : false ≡ true = rw (client, at, es) at open_it in absurd (cc no_it)
      by_state app.Closing es = let no_it : false ≡ true = rw (client, at, es) at open_it in absurd (cc no_it)
      by_state app.Lingering es = let no_it : false ≡ true = rw (client, at, es) at open_it in absurd (cc no_it)
  by_list open_it None at = absurd (by_phase (left_is (w.apps a).phase (keys.clients.left a came client at)))
    where
      by_phase : ((w.apps a).phase ≡ Ended) ⊎ ((w.apps a).phase ≡ Refused) → ⊥
      by_phase (inl e) = let no_it : false ≡ true = rw (client, at, e) at open_it in cc no_it
      by_phase (inr e) = let no_it : false ≡ true = rw (client, at, e) at open_it in cc no_it

-- ---- to its connection
module _ (w : World) (a m : ℕ) (keys : Keys w) (came : (w.apps a).came ≡ true) (connect : (w.streams (w.apps a).stream).connect ≡ true) where
  abbrev f : ℕ
  f = (w.apps a).stream

  abbrev given : List ℕ
  given = take m (w.apps a).side.kept

  abbrev handed : World
  handed = connect_hands f given (app_is a (hands m) w)

  its_own : (is_opened (phase_in w (w.apps a)) || ((w.streams f).connect && is_dialling (phase_in w (w.apps a)))) ≡ true → (D : Option ℕ) → Follows (tunnel_of w (w.apps a) D) (tunnel_of handed (handed.apps a) D)
  its_own may None = inr (event.AppHands m, (may, tt), rw (eqb_refl a, eqb_refl f, connect, in_passed (stream_in_item true (w.apps a).number None) (not (is_gone (w.streams f).front)) (w.streams f).up (Data (pos 0) [] given) given refl) refl)
  its_own may (Some d) = inr (event.AppHands m, (may, tt), rw (eqb_refl a, eqb_refl f, connect, in_passed (stream_in_item true (w.apps a).number (Some d)) (not (is_gone (w.streams f).front)) (w.streams f).up (Data (pos 0) [] given) given refl) refl)

  others : (k : ℕ) → (w.apps k).came ≡ true → (k == a) ≡ false → (b : Bool) → ((w.apps k).stream == f) ≡ b → (D : Option ℕ) → tunnel_of handed (handed.apps k) D ≡ tunnel_of w (w.apps k) D
  others k came_too off true on D =
      let same : k ≡ a = keys.clients.connect_one k a came_too came (eqb-true (w.apps k).stream f on) (rw (eqb-true (w.apps k).stream f on) connect) in
      absurd (cc (rw same at off, eqb_refl a))
  others k came_too off false on None = rw (off, on) refl
  others k came_too off false on (Some d) = rw (off, on) refl

  handed_lift : (is_opened (phase_in w (w.apps a)) || ((w.streams f).connect && is_dialling (phase_in w (w.apps a)))) ≡ true → Lifts w handed
  handed_lift may k came_too = by_app (k == a) refl
    where
      by_app : (b : Bool) → (k == a) ≡ b → Follows (tunnel_of w (w.apps k) (w.apps k).dial) (tunnel_of handed (handed.apps k) (w.apps k).dial)
      by_app true is = subst (λ i. Follows (tunnel_of w (w.apps i) (w.apps i).dial) (tunnel_of handed (handed.apps i) (w.apps i).dial)) (sym (eqb-true k a is)) (its_own may (w.apps a).dial)
      by_app false off = inl (others k came_too off ((w.apps k).stream == f) refl (w.apps k).dial)

pub hands_lift : (w : World) (k count : ℕ) → Keys w → May (AppHands k count) w → Lifts w (after (AppHands k count) w)
hands_lift w k count keys may = by_connect (w.streams (w.apps k).stream).connect refl
  where
    came : (w.apps k).came ≡ true
    came = and_first (w.apps k).came (is_opened (phase_in w (w.apps k)) || ((w.streams (w.apps k).stream).connect && is_dialling (phase_in w (w.apps k)))) may

    rest : (is_opened (phase_in w (w.apps k)) || ((w.streams (w.apps k).stream).connect && is_dialling (phase_in w (w.apps k)))) ≡ true
    rest = and_second (w.apps k).came (is_opened (phase_in w (w.apps k)) || ((w.streams (w.apps k).stream).connect && is_dialling (phase_in w (w.apps k)))) may

    or_first : (b c d : Bool) → c ≡ false → (b || (c && d)) ≡ true → b ≡ true
    or_first true c d e h = refl
    or_first false c d e h = absurd (let no_it : false ≡ true = rw e at h in cc)

    by_connect : (b : Bool) → (w.streams (w.apps k).stream).connect ≡ b → Lifts w (hands_over b k (take count (w.apps k).side.kept) (app_is k (hands count) w))
    by_connect true connect = handed_lift w k count keys came connect rest
    by_connect false client = by_list w k count keys came client (or_first (is_opened (phase_in w (w.apps k))) (w.streams (w.apps k).stream).connect (is_dialling (phase_in w (w.apps k))) client rest) (first_where (is_app (w.apps k).number) (w.clients (w.streams (w.apps k).stream).owner).apps) refl
