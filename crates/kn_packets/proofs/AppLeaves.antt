-- An app of a client ends or fails: it takes its dial back, asks to close, or leaves.
use Rattle.std.proofs.Common.{◌≡◌, ◌≢◌, ◌==◌, ◌||◌, ℕ, pos, Bool, true, false, not, cond, List, [], ◌∷◌, Option, Some, None, inr, refl, sym, ◌∙◌, eqb-true, subst}
use Rattle.kn_packet.specs.declared.packet.Packet.{Packet}
use Rattle.kn_packet.specs.declared.packet.Packet.TheVariants.{CloseReq, DialCls}
use Rattle.kn_tables.specs.Lists.{first_where}
use Rattle.kn_server_core.proofs.TunnelTables.{false_unless}
use Rattle.kn_edge_core.specs.Client.{app_ended, app_failed, app_left, app_left_telling, app_turned, dial_cancelled, end_by_state, failure_by_state}
use Rattle.kn_edge_core.specs.ClientTables.{closing, is_app, without_app}
use Rattle.kn_edge_core.specs.Steps.{ClientStep}
use Rattle.kn_edge_core.specs.declared.app.App.{App}
use Rattle.kn_edge_core.specs.declared.app.AppState.{AppState}
use Rattle.kn_edge_core.specs.declared.app.AppState.TheVariants as app
use Rattle.kn_edge_core.specs.declared.client_event.ClientOut.TheVariants.{ToServer}
use Rattle.kn_tunnel.specs.Events as event
use Rattle.kn_tunnel.specs.Kinds.{is_gone}
use Rattle.kn_tunnel.specs.Steps.{Follows}
use Rattle.kn_tunnel.specs.Tunnel.{Inward, Side}
use Rattle.kn_words.specs.In.{CloseIn, OtherIn, stream_in_item, stream_in_word}
use Rattle.kn_words.specs.Numbers.{is_drawn_number}
use Rattle.kn_packets.specs.Keys.{Keys}
use Rattle.kn_packets.specs.Lifts.{Lifts}
use Rattle.kn_packets.specs.Moves.{AppEnds, AppFails, May, after, client_stepped, leaves_as}
use Rattle.kn_packets.specs.Outputs.{queued}
use Rattle.kn_packets.specs.World.{World, app_phase, tunnel_of}
use Rattle.kn_packets.proofs.AppParts.{IsItsOwn, fits, has_stream, nothing_lifts, nothing_sent, own_leaves, own_stays, steps_lift}
use Rattle.kn_packets.proofs.ClientLists.{its_number, left_other, left_own, turned_other, turned_own}
use Rattle.kn_packets.proofs.Fresh.{eqb_refl}
use Rattle.kn_packets.proofs.Owners.{key_is}
use Rattle.kn_packets.proofs.Queues.{in_cancelled, in_closed, in_other}
use Rattle.kn_packets.proofs.Taken.{and_first, and_second, not_false}

pub turned_around : (m n : ℕ) → (m == n) ≡ false → (n == m) ≡ false
turned_around m n off = false_unless (n == m) (λ h. let same : n ≡ m = eqb-true n m h in cc (rw same at off, eqb_refl m))

module _ (w : World) (a : ℕ) (keys : Keys w) (came : (w.apps a).came ≡ true) (client : (w.streams (w.apps a).stream).connect ≡ false) where
  abbrev c : ℕ
  c = (w.streams (w.apps a).stream).owner

  abbrev n : ℕ
  n = (w.apps a).number

  abbrev apps : List App
  apps = (w.clients c).apps

  abbrev ups : List Packet
  ups = (w.streams (w.apps a).stream).up

  abbrev front_there : Bool
  front_there = not (is_gone (w.streams (w.apps a).stream).front)

  abbrev word : Option ℕ → Inward
  word D = stream_in_word false n D ups

  abbrev later : ClientStep → World
  later S = client_stepped c true S w

  abbrev as_is : ℕ → Side → Side
  as_is i s = s

  as_it_is : (i : ℕ) (s : Side) → (i == a) ≡ false → as_is i s ≡ s
  as_it_is i s off = refl

  module _ (x : App) (at : first_where (is_app n) apps ≡ Some x) where
    now_gone : first_where (is_app n) (without_app n apps) ≡ None
    now_gone = left_own n x apps (keys.clients.apps_rise c) at

    -- ---- it takes its dial back
    abbrev cancels : ClientStep
    cancels = dial_cancelled (w.clients c) n

    cancels_own : IsItsOwn w a keys came client true as_is as_it_is cancels
    cancels_own = record {
      list = λ m off. left_other m n apps off;
      written = λ m xs off. refl;
      packets = λ m D b ps off other. in_other (stream_in_item false m D) b ps (DialCls (pos n)) (rw (turned_around m n off) refl);
    }

    cancel_sent : x.state ≡ app.Dialling → (D : Option ℕ) → stream_in_word false n D (cond (w.streams (w.apps a).stream).client (queued front_there ups (DialCls (pos n) ∷ [])) ups) ≡ record (word D) { cancel = (word D).cancel || front_there }
    cancel_sent es D = rw (has_stream w keys a came client x at (λ h. cc (es, h))) (in_cancelled (stream_in_item false n D) front_there ups (DialCls (pos n)) (rw (eqb_refl n) refl))

    is_cancelled : x.state ≡ app.Dialling → (D : Option ℕ) → tunnel_of (later cancels) ((later cancels).apps a) D
        ≡ record (tunnel_of w (w.apps a) D) { phase = leaves_as true x.state; app = record (w.apps a).side { unwritten = [] }; inward = record (word D) { cancel = (word D).cancel || front_there } }
    is_cancelled es D = own_leaves w a keys came client true as_is as_it_is cancels x at now_gone D (record (word D) { cancel = (word D).cancel || front_there }) (cancel_sent es D)

    end_cancels : x.state ≡ app.Dialling → (D : Option ℕ) → Follows (tunnel_of w (w.apps a) D) (tunnel_of (later cancels) ((later cancels).apps a) D)
    end_cancels es None = inr (event.AppEnds, (rw client refl, tt), is_cancelled es None ∙ rw (client, at, es) refl)
    end_cancels es (Some d) = inr (event.AppEnds, (rw client refl, tt), is_cancelled es (Some d) ∙ rw (client, at, es) refl)

    failure_cancels : x.state ≡ app.Dialling → (D : Option ℕ) → Follows (tunnel_of w (w.apps a) D) (tunnel_of (later cancels) ((later cancels).apps a) D)
    failure_cancels es None = inr (event.AppFails, (rw client refl, tt), is_cancelled es None ∙ rw (client, at, es) refl)
    failure_cancels es (Some d) = inr (event.AppFails, (rw client refl, tt), is_cancelled es (Some d) ∙ rw (client, at, es) refl)

    -- ---- it is open: it asks to close
    module _ (opened : x.state ≡ app.Open) where
      named : (d : ℕ) × ((w.apps a).dial ≡ Some d) × (x.connect_id ≡ pos d)
      named = (fits w keys a came client x at).dial (λ h. cc (opened, h))

      other_close : (m : ℕ) (D : Option ℕ) → ((d : ℕ) → (w.apps a).dial ≡ Some d → is_drawn_number D (pos d) ≡ false) → stream_in_item false m D (CloseReq x.connect_id) ≡ OtherIn
      other_close m D other = rw (named.2, other named.0 named.1) refl

      own_close : (D : Option ℕ) → (w.apps a).dial ≡ D → stream_in_item false n D (CloseReq x.connect_id) ≡ CloseIn
      own_close D de = rw (key_is D x.connect_id named.0 (sym de ∙ named.1) named.2) refl

      close_sent : (D : Option ℕ) → (w.apps a).dial ≡ D → stream_in_word false n D (cond (w.streams (w.apps a).stream).client (queued front_there ups (CloseReq x.connect_id ∷ [])) ups) ≡ record (word D) { close = (word D).close || front_there }
      close_sent D de = rw (has_stream w keys a came client x at (λ h. cc (opened, h))) (in_closed (stream_in_item false n D) front_there ups (CloseReq x.connect_id) (own_close D de))

      -- and stays
      abbrev asks : ClientStep
      asks = app_turned (w.clients c) n closing (ToServer (CloseReq x.connect_id) ∷ [])

      asks_own : IsItsOwn w a keys came client true as_is as_it_is asks
      asks_own = record {
        list = λ m off. turned_other m n closing apps (λ y. refl) off;
        written = λ m xs off. refl;
        packets = λ m D b ps off other. in_other (stream_in_item false m D) b ps (CloseReq x.connect_id) (other_close m D other);
      }

      has_asked : (D : Option ℕ) → (w.apps a).dial ≡ D → tunnel_of (later asks) ((later asks).apps a) D
          ≡ record (tunnel_of w (w.apps a) D) { phase = app_phase app.Closing; app = (w.apps a).side; inward = record (word D) { close = (word D).close || front_there } }
      has_asked D de = own_stays w a keys came client true as_is as_it_is asks (closing x) (turned_own n closing x apps (λ y. refl) at) (λ xs. refl) D (record (word D) { close = (word D).close || front_there }) (close_sent D de)

      end_asks : (D : Option ℕ) → (w.apps a).dial ≡ D → Follows (tunnel_of w (w.apps a) D) (tunnel_of (later asks) ((later asks).apps a) D)
      end_asks None de = inr (event.AppEnds, (rw client refl, tt), has_asked None de ∙ rw (client, at, opened) refl)
      end_asks (Some d) de = inr (event.AppEnds, (rw client refl, tt), has_asked (Some d) de ∙ rw (client, at, opened) refl)

      -- or leaves
      abbrev tells : ClientStep
      tells = app_left_telling (w.clients c) n (CloseReq x.connect_id)

      tells_own : IsItsOwn w a keys came client true as_is as_it_is tells
      tells_own = record {
        list = λ m off. left_other m n apps off;
        written = λ m xs off. refl;
        packets = λ m D b ps off other. in_other (stream_in_item false m D) b ps (CloseReq x.connect_id) (other_close m D other);
      }

      has_told : (D : Option ℕ) → (w.apps a).dial ≡ D → tunnel_of (later tells) ((later tells).apps a) D
          ≡ record (tunnel_of w (w.apps a) D) { phase = leaves_as true x.state; app = record (w.apps a).side { unwritten = [] }; inward = record (word D) { close = (word D).close || front_there } }
      has_told D de = own_leaves w a keys came client true as_is as_it_is tells x at now_gone D (record (word D) { close = (word D).close || front_there }) (close_sent D de)

      failure_tells : (D : Option ℕ) → (w.apps a).dial ≡ D → Follows (tunnel_of w (w.apps a) D) (tunnel_of (later tells) ((later tells).apps a) D)
      failure_tells None de = inr (event.AppFails, (rw client refl, tt), has_told None de ∙ rw (client, at, opened) refl)
      failure_tells (Some d) de = inr (event.AppFails, (rw client refl, tt), has_told (Some d) de ∙ rw (client, at, opened) refl)

    -- ---- it closes already, and fails: it leaves
    abbrev leaves : ClientStep
    leaves = app_left (w.clients c) n []

    leaves_own : IsItsOwn w a keys came client true as_is as_it_is leaves
    leaves_own = record {
      list = λ m off. left_other m n apps off;
      written = λ m xs off. refl;
      packets = λ m D b ps off other. refl;
    }

    has_left_it : (D : Option ℕ) → tunnel_of (later leaves) ((later leaves).apps a) D ≡ record (tunnel_of w (w.apps a) D) { phase = leaves_as true x.state; app = record (w.apps a).side { unwritten = [] }; inward = word D }
    has_left_it D = own_leaves w a keys came client true as_is as_it_is leaves x at now_gone D (word D) (nothing_sent w a keys came client true as_is as_it_is leaves refl D)

    failure_leaves : (s : AppState) → x.state ≡ s → s ≢ app.Dialling → s ≢ app.Open → (D : Option ℕ) → Follows (tunnel_of w (w.apps a) D) (tunnel_of (later leaves) ((later leaves).apps a) D)
    failure_leaves app.Dialling es not_dialling not_open D = absurd (not_dialling refl)
    failure_leaves app.Open es not_dialling not_open D = absurd (not_open refl)
    failure_leaves app.Closing es not_dialling not_open None = inr (event.AppFails, (rw client refl, tt), has_left_it None ∙ rw (client, at, es) refl)
    failure_leaves app.Closing es not_dialling not_open (Some d) = inr (event.AppFails, (rw client refl, tt), has_left_it (Some d) ∙ rw (client, at, es) refl)
    failure_leaves app.Lingering es not_dialling not_open None = inr (event.AppFails, (rw client refl, tt), has_left_it None ∙ rw (client, at, es) refl)
    failure_leaves app.Lingering es not_dialling not_open (Some d) = inr (event.AppFails, (rw client refl, tt), has_left_it (Some d) ∙ rw (client, at, es) refl)

    -- ---- by what it is
    ends_by : (s : AppState) → x.state ≡ s → Lifts w (later (end_by_state (w.clients c) n x.connect_id s))
    ends_by app.Dialling es = steps_lift w a keys came client true as_is as_it_is cancels cancels_own (end_cancels es (w.apps a).dial)
    ends_by app.Open es = steps_lift w a keys came client true as_is as_it_is (asks es) (asks_own es) (end_asks es (w.apps a).dial refl)
    ends_by app.Closing es = nothing_lifts w a keys came client true
    ends_by app.Lingering es = nothing_lifts w a keys came client true

    fails_by : (s : AppState) → x.state ≡ s → Lifts w (later (failure_by_state (w.clients c) n x.connect_id s))
    fails_by app.Dialling es = steps_lift w a keys came client true as_is as_it_is cancels cancels_own (failure_cancels es (w.apps a).dial)
    fails_by app.Open es = steps_lift w a keys came client true as_is as_it_is (tells es) (tells_own es) (failure_tells es (w.apps a).dial refl)
    fails_by app.Closing es = steps_lift w a keys came client true as_is as_it_is leaves leaves_own (failure_leaves app.Closing es (λ h. cc) (λ h. cc) (w.apps a).dial)
    fails_by app.Lingering es = steps_lift w a keys came client true as_is as_it_is leaves leaves_own (failure_leaves app.Lingering es (λ h. cc) (λ h. cc) (w.apps a).dial)

  ended : (L : Option App) → first_where (is_app n) apps ≡ L → Lifts w (later (app_ended (w.clients c) L))
  ended None at = nothing_lifts w a keys came client true
  ended (Some x) at = subst (λ m. Lifts w (later (end_by_state (w.clients c) m x.connect_id x.state))) (sym (its_number n x apps at)) (ends_by x at x.state refl)

  failed : (L : Option App) → first_where (is_app n) apps ≡ L → Lifts w (later (app_failed (w.clients c) L))
  failed None at = nothing_lifts w a keys came client true
  failed (Some x) at = subst (λ m. Lifts w (later (failure_by_state (w.clients c) m x.connect_id x.state))) (sym (its_number n x apps at)) (fails_by x at x.state refl)

pub ends_lift : (w : World) (k : ℕ) → Keys w → May (AppEnds k) w → Lifts w (after (AppEnds k) w)
ends_lift w k keys may = ended w k keys (and_first (w.apps k).came (not (w.streams (w.apps k).stream).connect) may) (not_false (w.streams (w.apps k).stream).connect (and_second (w.apps k).came (not (w.streams (w.apps k).stream).connect) may))
    (first_where (is_app (w.apps k).number) (w.clients (w.streams (w.apps k).stream).owner).apps) refl

pub fails_lift : (w : World) (k : ℕ) → Keys w → May (AppFails k) w → Lifts w (after (AppFails k) w)
fails_lift w k keys may = failed w k keys (and_first (w.apps k).came (not (w.streams (w.apps k).stream).connect) may) (not_false (w.streams (w.apps k).stream).connect (and_second (w.apps k).came (not (w.streams (w.apps k).stream).connect) may))
    (first_where (is_app (w.apps k).number) (w.clients (w.streams (w.apps k).stream).owner).apps) refl
