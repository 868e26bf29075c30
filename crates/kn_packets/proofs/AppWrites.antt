-- Bytes were written to an app of a client: one that drains leaves with the last of them.
use Rattle.std.proofs.Common.{◌≡◌, ◌≢◌, ◌≤◌, ◌==◌, ◌&&◌, ◌⊎◌, ℕ, Bool, true, false, not, cond, List, [], length, drop, Option, Some, None, inl, inr, refl, sym, ◌∙◌, eqb-true}
use Rattle.kn_tables.specs.Lists.{first_where}
use Rattle.kn_edge_core.specs.Client.{app_left, app_turned, app_wrote, wrote_by_state}
use Rattle.kn_edge_core.specs.ClientTables.{app_changed, is_app, with_fewer}
use Rattle.kn_edge_core.specs.Steps.{ClientStep}
use Rattle.kn_edge_core.specs.declared.app.App.{App}
use Rattle.kn_edge_core.specs.declared.app.AppState.{AppState}
use Rattle.kn_edge_core.specs.declared.app.AppState.TheVariants as app
use Rattle.kn_tunnel.specs.Events as event
use Rattle.kn_tunnel.specs.Kinds.{has, is_here}
use Rattle.kn_tunnel.specs.Steps.{Follows}
use Rattle.kn_tunnel.specs.Tunnel.{Ended, Refused, Side}
use Rattle.kn_words.specs.In.{stream_in_word}
use Rattle.kn_packets.specs.Keys.{Keys}
use Rattle.kn_packets.specs.Lifts.{Lifts}
use Rattle.kn_packets.specs.Moves.{AppWrote, May, after, app_is, client_stepped, gets, leaves_as, side_if}
use Rattle.kn_packets.specs.World.{World, app_phase, phase_in, tunnel_of}
use Rattle.kn_packets.proofs.AppParts.{IsItsOwn, fits, nothing_sent, one_side, own_leaves, own_stays, steps_lift}
use Rattle.kn_packets.proofs.ClientLists.{its_number, left_other, left_own, turned_other, turned_own}
use Rattle.kn_packets.proofs.ClientReplies.{left_is}
use Rattle.kn_packets.proofs.DestMoves.{all_gone, not_same, some_left}
use Rattle.kn_packets.proofs.Fresh.{eqb_refl}
use Rattle.kn_packets.proofs.Taken.{and_first, and_second, not_false}

module _ (w : World) (a count : ℕ) (keys : Keys w) (came : (w.apps a).came ≡ true) (client : (w.streams (w.apps a).stream).connect ≡ false) (room : count ≤ length (w.apps a).side.unwritten) where
  abbrev c : ℕ
  c = (w.streams (w.apps a).stream).owner

  abbrev n : ℕ
  n = (w.apps a).number

  abbrev apps : List App
  apps = (w.clients c).apps

  abbrev sides : ℕ → Side → Side
  sides i s = side_if (i == a) (gets count) s

  abbrev later : ClientStep → World
  later S = client_stepped c false S (app_is a (gets count) w)

  module _ (x : App) (at : first_where (is_app n) apps ≡ Some x) where
    -- with fewer bytes that are still to be written
    abbrev fewer : ClientStep
    fewer = app_turned (w.clients c) n (with_fewer count) []

    fewer_own : IsItsOwn w a keys came client false sides (one_side a (gets count)) fewer
    fewer_own = record {
      list = λ m off. turned_other m n (with_fewer count) apps (λ y. refl) off;
      written = λ m xs off. refl;
      packets = λ m D b ps off other. refl;
    }

    now_fewer : first_where (is_app n) (app_changed n (with_fewer count) apps) ≡ Some (with_fewer count x)
    now_fewer = turned_own n (with_fewer count) x apps (λ y. refl) at

    is_fewer : (D : Option ℕ) → tunnel_of (later fewer) ((later fewer).apps a) D ≡ record (tunnel_of w (w.apps a) D) { phase = app_phase x.state; app = sides a (w.apps a).side; inward = stream_in_word false n D (w.streams (w.apps a).stream).up }
    is_fewer D = own_stays w a keys came client false sides (one_side a (gets count)) fewer (with_fewer count x) now_fewer (λ xs. refl) D (stream_in_word false n D (w.streams (w.apps a).stream).up) (nothing_sent w a keys came client false sides (one_side a (gets count)) fewer refl D)

    turns : (s : AppState) → x.state ≡ s → s ≢ app.Lingering → (D : Option ℕ) → Follows (tunnel_of w (w.apps a) D) (tunnel_of (later fewer) ((later fewer).apps a) D)
    turns app.Lingering es other D = absurd (other refl)
    turns app.Dialling es other None = inr (event.AppWrote count, (rw (client, at, es) refl, tt), is_fewer None ∙ rw (client, eqb_refl a, at, es) refl)
    turns app.Dialling es other (Some d) = inr (event.AppWrote count, (rw (client, at, es) refl, tt), is_fewer (Some d) ∙ rw (client, eqb_refl a, at, es) refl)
    turns app.Open es other None = inr (event.AppWrote count, (rw (client, at, es) refl, tt), is_fewer None ∙ rw (client, eqb_refl a, at, es) refl)
    turns app.Open es other (Some d) = inr (event.AppWrote count, (rw (client, at, es) refl, tt), is_fewer (Some d) ∙ rw (client, eqb_refl a, at, es) refl)
    turns app.Closing es other None = inr (event.AppWrote count, (rw (client, at, es) refl, tt), is_fewer None ∙ rw (client, eqb_refl a, at, es) refl)
    turns app.Closing es other (Some d) = inr (event.AppWrote count, (rw (client, at, es) refl, tt), is_fewer (Some d) ∙ rw (client, eqb_refl a, at, es) refl)

    stays : x.state ≡ app.Lingering → has (drop count (w.apps a).side.unwritten) ≡ true → (D : Option ℕ) → Follows (tunnel_of w (w.apps a) D) (tunnel_of (later fewer) ((later fewer).apps a) D)
    stays es full None = inr (event.AppWrote count, (rw (client, at, es) refl, tt), is_fewer None ∙ rw (client, eqb_refl a, at, es, full) refl)
    stays es full (Some d) = inr (event.AppWrote count, (rw (client, at, es) refl, tt), is_fewer (Some d) ∙ rw (client, eqb_refl a, at, es, full) refl)

    -- with the last of them
    abbrev gone : ClientStep
    gone = app_left (w.clients c) n x.error

    gone_own : IsItsOwn w a keys came client false sides (one_side a (gets count)) gone
    gone_own = record {
      list = λ m off. left_other m n apps off;
      written = λ m xs off. refl;
      packets = λ m D b ps off other. refl;
    }

    is_left : (D : Option ℕ) → tunnel_of (later gone) ((later gone).apps a) D ≡ record (tunnel_of w (w.apps a) D) { phase = leaves_as false x.state; app = record (sides a (w.apps a).side) { unwritten = [] }; inward = stream_in_word false n D (w.streams (w.apps a).stream).up }
    is_left D = own_leaves w a keys came client false sides (one_side a (gets count)) gone x at (left_own n x apps (keys.clients.apps_rise c) at) D (stream_in_word false n D (w.streams (w.apps a).stream).up) (nothing_sent w a keys came client false sides (one_side a (gets count)) gone refl D)

    leaves : x.state ≡ app.Lingering → drop count (w.apps a).side.unwritten ≡ [] → (D : Option ℕ) → Follows (tunnel_of w (w.apps a) D) (tunnel_of (later gone) ((later gone).apps a) D)
    leaves es none None = inr (event.AppWrote count, (rw (client, at, es) refl, tt), is_left None ∙ rw (client, eqb_refl a, at, es, none) refl)
    leaves es none (Some d) = inr (event.AppWrote count, (rw (client, at, es) refl, tt), is_left (Some d) ∙ rw (client, eqb_refl a, at, es, none) refl)

    counted : x.unwritten ≡ length (w.apps a).side.unwritten
    counted = (fits w keys a came client x at).unwritten

    by_count : x.state ≡ app.Lingering → (b : Bool) → (x.unwritten == count) ≡ b → Lifts w (later (cond b gone fewer))
    by_count es true all = steps_lift w a keys came client false sides (one_side a (gets count)) gone gone_own
        (leaves es (all_gone count (w.apps a).side.unwritten (sym (eqb-true x.unwritten count all) ∙ counted)) (w.apps a).dial)
    by_count es false some = steps_lift w a keys came client false sides (one_side a (gets count)) fewer fewer_own
        (stays es (some_left count (w.apps a).side.unwritten room (not_same (length (w.apps a).side.unwritten) count (rw counted at some))) (w.apps a).dial)

    turned : (s : AppState) → x.state ≡ s → s ≢ app.Lingering → Lifts w (later fewer)
    turned s es other = steps_lift w a keys came client false sides (one_side a (gets count)) fewer fewer_own (turns s es other (w.apps a).dial)

    by_state : (s : AppState) → x.state ≡ s → Lifts w (later (wrote_by_state (w.clients c) count x s))
    by_state app.Lingering es = rw (its_number n x apps at) (by_count es (x.unwritten == count) refl)
    by_state app.Dialling es = rw (its_number n x apps at) (turned app.Dialling es (λ h. cc))
    by_state app.Open es = rw (its_number n x apps at) (turned app.Open es (λ h. cc))
    by_state app.Closing es = rw (its_number n x apps at) (turned app.Closing es (λ h. cc))

  by_list : is_here (phase_in w (w.apps a)) ≡ true → (L : Option App) → first_where (is_app n) apps ≡ L → Lifts w (later (app_wrote (w.clients c) count L))
  by_list here (Some x) at = by_state x at x.state refl
  by_list here None at = absurd (by_phase (left_is (w.apps a).phase (keys.clients.left a came client at)))
    where
      by_phase : ((w.apps a).phase ≡ Ended) ⊎ ((w.apps a).phase ≡ Refused) → ⊥
      by_phase (inl e) = let no_it : false ≡ true = rw (client, at, e) at here in cc
      by_phase (inr e) = let no_it : false ≡ true = rw (client, at, e) at here in cc

pub wrote_lift : (w : World) (k count : ℕ) → Keys w → May (AppWrote k count) w → Lifts w (after (AppWrote k count) w)
wrote_lift w k count keys may = by_list w k count keys came client may.1 here (first_where (is_app (w.apps k).number) (w.clients (w.streams (w.apps k).stream).owner).apps) refl
  where
    its : ((w.apps k).came && not (w.streams (w.apps k).stream).connect) ≡ true
    its = and_first ((w.apps k).came && not (w.streams (w.apps k).stream).connect) (is_here (phase_in w (w.apps k))) may.0

    came : (w.apps k).came ≡ true
    came = and_first (w.apps k).came (not (w.streams (w.apps k).stream).connect) its

    client : (w.streams (w.apps k).stream).connect ≡ false
    client = not_false (w.streams (w.apps k).stream).connect (and_second (w.apps k).came (not (w.streams (w.apps k).stream).connect) its)

    here : is_here (phase_in w (w.apps k)) ≡ true
    here = and_second ((w.apps k).came && not (w.streams (w.apps k).stream).connect) (is_here (phase_in w (w.apps k))) may.0
