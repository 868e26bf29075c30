-- A client that loses its stream keeps the facts on keys: of its apps those are left that have bytes to be written.
use Rattle.std.proofs.Common.{◌≡◌, ◌≢◌, ◌==◌, ◌++◌, ℕ, Bool, true, false, cond, List, [], ◌∷◌, length, Option, Some, None, refl, sym, ap, ◌∙◌, eqb-true, subst, append-nil}
use Rattle.kn_packet.specs.declared.packet.Packet.{Packet}
use Rattle.kn_tables.specs.Lists.{AreAbove, IsRising, first_where}
use Rattle.kn_server_core.proofs.OrderLemmas.{none_at}
use Rattle.kn_edge_core.specs.Client.{after_stream, apps_after, ends_told, kept, stream_ended, told_unless_kept}
use Rattle.kn_edge_core.specs.ClientTables.{is_app, lingering}
use Rattle.kn_edge_core.specs.declared.app.App.{App}
use Rattle.kn_edge_core.specs.declared.app.AppState.{AppState}
use Rattle.kn_edge_core.specs.declared.app.AppState.TheVariants as app
use Rattle.kn_edge_core.specs.declared.client_state.ClientState.{ClientState}
use Rattle.kn_tunnel.specs.Tunnel.{Side}
use Rattle.kn_words.specs.In.{in_ordered, stream_in_item}
use Rattle.kn_words.proofs.InOrder.{in_prefix_ordered}
use Rattle.kn_packets.specs.Keys.{Keys}
use Rattle.kn_packets.specs.Lifts.{Lifts}
use Rattle.kn_packets.specs.Moves.{ClientLosesStream, IsFrontOf, after, is_of_client}
use Rattle.kn_packets.specs.Outputs.{for_app, from_client}
use Rattle.kn_packets.specs.World.{World}
use Rattle.kn_packets.proofs.ClientCalm.{old_fits, order_old}
use Rattle.kn_packets.proofs.ClientKept.{Calm, Fits, Parts, calm_keeps}

-- ---- an app that is left is one of before
pub record IsLeft (a x : App) : Type 0 where
  pub number : x.number ≡ a.number
  pub unwritten : x.unwritten ≡ a.unwritten
  pub connect_id : x.connect_id ≡ a.connect_id
  pub state : a.state ≢ app.Dialling

pub is_left : (error : List ℕ) (a x : App) (s : AppState) → a.state ≡ s → after_stream error s a ≡ Some x → IsLeft a x
is_left error a x app.Dialling es e = absurd cc
is_left error a x app.Lingering es e = let same : a ≡ x = cc in subst (λ y. IsLeft a y) same (record { number = refl; unwritten = refl; connect_id = refl; state = λ d. cc (es, d) })
is_left error a x app.Open es e = held (a.unwritten == 0) e
  where
    held : (b : Bool) → cond b None (Some (lingering error a)) ≡ Some x → IsLeft a x
    held true e = absurd cc
    held false e = let same : lingering error a ≡ x = cc in subst (λ y. IsLeft a y) same (record { number = refl; unwritten = refl; connect_id = refl; state = λ d. cc (es, d) })
is_left error a x app.Closing es e = held (a.unwritten == 0) e
  where
    held : (b : Bool) → cond b None (Some (lingering error a)) ≡ Some x → IsLeft a x
    held true e = absurd cc
    held false e = let same : lingering error a ≡ x = cc in subst (λ y. IsLeft a y) same (record { number = refl; unwritten = refl; connect_id = refl; state = λ d. cc (es, d) })

pub record FoundLeft (n : ℕ) (apps : List App) (x : App) : Type 0 where
  pub old : App
  pub at : first_where (is_app n) apps ≡ Some old
  pub left : IsLeft old x

pub found_left : (error : List ℕ) (n : ℕ) (x : App) (apps : List App) → IsRising (λ (y : App). y.number) apps → first_where (is_app n) (apps_after error apps) ≡ Some x → FoundLeft n apps x
found_left error n x [] rise f = absurd cc
found_left error n x (a ∷ rest) rise f = by_left (after_stream error a.state a) refl f (λ g. found_left error n x rest rise.1 g)
  where
    here : (b : Bool) → is_app n a ≡ b → FoundLeft n rest x → FoundLeft n (a ∷ rest) x
    here false other later = record { old = later.old; at = rw other later.at; left = later.left }
    here true own later =
        let none : first_where (is_app n) rest ≡ None = subst (λ m. first_where (is_app m) rest ≡ None) (eqb-true a.number n own) (none_at (λ (y : App). y.number) a.number rest rise.0) in
        absurd (cc (none, later.at))

    kept_here : (y : App) → after_stream error a.state a ≡ Some y → (b : Bool) → is_app n y ≡ b → cond b (Some y) (first_where (is_app n) (apps_after error rest)) ≡ Some x → (first_where (is_app n) (apps_after error rest) ≡ Some x → FoundLeft n rest x) → FoundLeft n (a ∷ rest) x
    kept_here y e true own f later =
        let same : y ≡ x = cc in let left = is_left error a y a.state refl e in
        let mine : is_app n a ≡ true = ap (λ i. i == n) (sym left.number) ∙ own in
        record { old = a; at = rw mine refl; left = subst (λ z. IsLeft a z) same left }
    kept_here y e false other f later = here (is_app n a) refl (later f)

    by_left : (o : Option App) → after_stream error a.state a ≡ o → first_where (is_app n) (kept o (apps_after error rest)) ≡ Some x → (first_where (is_app n) (apps_after error rest) ≡ Some x → FoundLeft n rest x) → FoundLeft n (a ∷ rest) x
    by_left None e f later = here (is_app n a) refl (later f)
    by_left (Some y) e f later = kept_here y e (is_app n y) refl f later

-- ---- they rise still, and nothing is said to the server nor written
above_after : (error : List ℕ) (n : ℕ) (apps : List App) → AreAbove (λ (y : App). y.number) n apps → AreAbove (λ (y : App). y.number) n (apps_after error apps)
above_after error n [] h = tt
above_after error n (a ∷ rest) h = by_left (after_stream error a.state a) refl (above_after error n rest h.1)
  where
    by_left : (o : Option App) → after_stream error a.state a ≡ o → AreAbove (λ (y : App). y.number) n (apps_after error rest) → AreAbove (λ (y : App). y.number) n (kept o (apps_after error rest))
    by_left None e later = later
    by_left (Some y) e later = (rw (is_left error a y a.state refl e).number h.0, later)

pub rising_after : (error : List ℕ) (apps : List App) → IsRising (λ (y : App). y.number) apps → IsRising (λ (y : App). y.number) (apps_after error apps)
rising_after error [] h = tt
rising_after error (a ∷ rest) h = by_left (after_stream error a.state a) refl (rising_after error rest h.1)
  where
    by_left : (o : Option App) → after_stream error a.state a ≡ o → IsRising (λ (y : App). y.number) (apps_after error rest) → IsRising (λ (y : App). y.number) (kept o (apps_after error rest))
    by_left None e later = later
    by_left (Some y) e later = (rw (is_left error a y a.state refl e).number (above_after error a.number rest h.0), later)

pub tells_none : (error : List ℕ) (apps : List App) → from_client (ends_told error apps) ≡ []
tells_none error [] = refl
tells_none error (a ∷ rest) = by_left (after_stream error a.state a) (tells_none error rest)
  where
    by_left : (o : Option App) → from_client (ends_told error rest) ≡ [] → from_client (told_unless_kept error a.number o (ends_told error rest)) ≡ []
    by_left None later = later
    by_left (Some y) later = later

pub writes_none : (error : List ℕ) (n : ℕ) (old : List ℕ) (apps : List App) → for_app n (ends_told error apps) old ≡ old
writes_none error n old [] = refl
writes_none error n old (a ∷ rest) = by_left (after_stream error a.state a) (writes_none error n old rest)
  where
    by_left : (o : Option App) → for_app n (ends_told error rest) old ≡ old → for_app n (told_unless_kept error a.number o (ends_told error rest)) old ≡ old
    by_left None later = later
    by_left (Some y) later = later

-- ---- the move
module _ (w : World) (f : ℕ) (left : List Packet) (error : List ℕ) (keys : Keys w) (front : IsFrontOf left (w.streams f).up) where
  abbrev c : ℕ
  c = (w.streams f).owner

  abbrev state : ClientState
  state = w.clients (w.streams f).owner

  abbrev ups : ℕ → List Packet
  ups i = cond (i == f) left (w.streams i).up

  abbrev downs : ℕ → List Packet
  downs i = cond (i == f) [] (w.streams i).down

  abbrev clients : ℕ → Bool
  clients i = cond (i == f) false (w.streams i).client

  abbrev sides : ℕ → Side
  sides k = (w.apps k).side

  parts : Parts w ups downs clients
  parts = record { up = λ i. up i (i == f) refl; down = λ i. down i (i == f); client = λ i. client i (i == f) }
    where
      up : (i : ℕ) (b : Bool) → (i == f) ≡ b → (rest : List Packet) × (cond b left (w.streams i).up ++ rest ≡ (w.streams i).up)
      up i true on = (front.0, front.1 ∙ ap (λ j. (w.streams j).up) (sym (eqb-true i f on)))
      up i false off = ([], append-nil (w.streams i).up)

      down : (i : ℕ) (b : Bool) → (taken : List Packet) × (taken ++ cond b [] (w.streams i).down ≡ (w.streams i).down)
      down i true = ((w.streams i).down, append-nil (w.streams i).down)
      down i false = ([], refl)

      client : (i : ℕ) (b : Bool) → cond b false (w.streams i).client ≡ true → (w.streams i).client ≡ true
      client i true e = absurd cc
      client i false e = e

  lost_calm : Calm w c (stream_ended state error) ups downs clients sides
  lost_calm = record {
    parts = parts;
    sides = λ k h. refl;
    top = refl;
    told = λ g of h. rw none tt;
    rise = rising_after error state.apps (keys.clients.apps_rise c);
    known = λ n x h. keys.clients.known c n (found n x h).old (found n x h).at;
    listed = λ k x came of h. listed k x came of (found (w.apps k).number x h);
    order = λ k came of h. rw none (in_prefix_ordered (stream_in_item false (w.apps k).number (w.apps k).dial) (ups (w.apps k).stream) (parts.up (w.apps k).stream).0
        (subst (λ ps. in_ordered (stream_in_item false (w.apps k).number (w.apps k).dial) ps ≡ true) (sym (parts.up (w.apps k).stream).1) (order_old w c keys k came of)));
  }
    where
      none : from_client (ends_told error state.apps) ≡ []
      none = tells_none error state.apps

      found : (n : ℕ) (x : App) → first_where (is_app n) (apps_after error state.apps) ≡ Some x → FoundLeft n state.apps x
      found n x h = found_left error n x state.apps (keys.clients.apps_rise c) h

      listed : (k : ℕ) (x : App) → (w.apps k).came ≡ true → is_of_client c (w.streams (w.apps k).stream) ≡ true → FoundLeft (w.apps k).number state.apps x → Fits w k x (for_app (w.apps k).number (ends_told error state.apps) (w.apps k).side.unwritten)
      listed k x came of l =
          let h = old_fits w c keys k l.old came of l.at in let more = h.dial l.left.state in record {
            unwritten = l.left.unwritten ∙ h.unwritten ∙ ap length (sym (writes_none error (w.apps k).number (w.apps k).side.unwritten state.apps));
            dial = λ s. (more.0, more.1, l.left.connect_id ∙ more.2);
          }

  pub loss_keeps : Lifts w (after (ClientLosesStream f left error) w) → Keys (after (ClientLosesStream f left error) w)
  loss_keeps = calm_keeps w c false (stream_ended state error) ups downs clients sides keys lost_calm
