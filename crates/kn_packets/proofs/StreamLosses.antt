-- A client loses its stream: of its apps those that dial are refused, the others leave, or drain first.
use Rattle.std.proofs.Common.{◌≡◌, ◌≢◌, ◌==◌, ◌⊎◌, ℕ, Bool, true, false, not, cond, List, [], ◌∷◌, length, Option, Some, None, inl, inr, refl, sym, ap, ◌∙◌, eqb-true, subst, arith}
use Rattle.kn_packet.specs.declared.packet.Packet.{Packet}
use Rattle.kn_tables.specs.Lists.{IsRising, first_where}
use Rattle.kn_server_core.proofs.OrderLemmas.{none_at}
use Rattle.kn_edge_core.specs.Client.{after_stream, apps_after, ends_told, held_after_stream, kept, stream_ended, told_unless_kept}
use Rattle.kn_edge_core.specs.ClientTables.{is_app, lingering}
use Rattle.kn_edge_core.specs.Steps.{ClientStep}
use Rattle.kn_edge_core.specs.declared.app.App.{App}
use Rattle.kn_edge_core.specs.declared.app.AppState.{AppState}
use Rattle.kn_edge_core.specs.declared.app.AppState.TheVariants as app
use Rattle.kn_tunnel.specs.Cuts.{IsCutIn}
use Rattle.kn_tunnel.specs.Events as event
use Rattle.kn_tunnel.specs.Kinds.{has}
use Rattle.kn_tunnel.specs.Steps as step
use Rattle.kn_tunnel.specs.Steps.{Follows, no_out}
use Rattle.kn_tunnel.specs.Tunnel.{Ended, Refused}
use Rattle.kn_words.specs.In.{in_ordered, stream_in_item, stream_in_word}
use Rattle.kn_words.proofs.InOrder.{in_prefix_cut}
use Rattle.kn_packets.specs.Keys.{Keys}
use Rattle.kn_packets.specs.Lifts.{Lifts}
use Rattle.kn_packets.specs.Moves.{ClientLosesStream, IsFrontOf, May, after, client_stepped, leaves_as, stream_lost}
use Rattle.kn_packets.specs.Outputs.{for_app, from_client}
use Rattle.kn_packets.specs.World.{World, app_phase, tunnel, tunnel_of}
use Rattle.kn_packets.proofs.AppParts.{has_stream, nothing_unwritten}
use Rattle.kn_packets.proofs.ClientBytes.{fits}
use Rattle.kn_packets.proofs.ClientParts.{dry_side}
use Rattle.kn_packets.proofs.ClientReplies.{left_is}
use Rattle.kn_packets.proofs.Fresh.{eqb_refl}
use Rattle.kn_packets.proofs.Taken.{and_first, and_second, not_false}

-- ---- the client's list
module _ (error : List ℕ) where
  same_number : (y z : App) (s : AppState) → after_stream error s y ≡ Some z → z.number ≡ y.number
  same_number y z app.Dialling e = absurd cc
  same_number y z app.Lingering e = let m : y ≡ z = cc in ap (λ (v : App). v.number) (sym m)
  same_number y z app.Open e = by_count (y.unwritten == 0) e
    where
      by_count : (b : Bool) → cond b None (Some (lingering error y)) ≡ Some z → z.number ≡ y.number
      by_count true e = absurd cc
      by_count false e = let m : lingering error y ≡ z = cc in ap (λ (v : App). v.number) (sym m)
  same_number y z app.Closing e = by_count (y.unwritten == 0) e
    where
      by_count : (b : Bool) → cond b None (Some (lingering error y)) ≡ Some z → z.number ≡ y.number
      by_count true e = absurd cc
      by_count false e = let m : lingering error y ≡ z = cc in ap (λ (v : App). v.number) (sym m)

  -- one with another number, and one with this number
  kept_other : (n : ℕ) (y : App) (o : Option App) (rest : List App) → is_app n y ≡ false → ((z : App) → o ≡ Some z → z.number ≡ y.number) → first_where (is_app n) (kept o rest) ≡ first_where (is_app n) rest
  kept_other n y None rest off same = refl
  kept_other n y (Some z) rest off same = let no_it : is_app n z ≡ false = ap (λ m. m == n) (same z refl) ∙ off in rw no_it refl

  kept_own : (n : ℕ) (y : App) (o : Option App) (rest : List App) → is_app n y ≡ true → ((z : App) → o ≡ Some z → z.number ≡ y.number) → first_where (is_app n) rest ≡ None → first_where (is_app n) (kept o rest) ≡ o
  kept_own n y None rest on same none = none
  kept_own n y (Some z) rest on same none = let yes_it : is_app n z ≡ true = ap (λ m. m == n) (same z refl) ∙ on in rw yes_it refl

  pub after_none : (n : ℕ) (xs : List App) → first_where (is_app n) xs ≡ None → first_where (is_app n) (apps_after error xs) ≡ None
  after_none n [] none = refl
  after_none n (y ∷ ys) none = here (is_app n y) refl none (λ l. after_none n ys l)
    where
      here : (b : Bool) → is_app n y ≡ b → cond b (Some y) (first_where (is_app n) ys) ≡ None → (first_where (is_app n) ys ≡ None → first_where (is_app n) (apps_after error ys) ≡ None)
          → first_where (is_app n) (kept (after_stream error y.state y) (apps_after error ys)) ≡ None
      here true i none later = absurd cc
      here false i none later = kept_other n y (after_stream error y.state y) (apps_after error ys) i (λ z e. same_number y z y.state e) ∙ later none

  pub after_found : (n : ℕ) (x : App) (xs : List App) → IsRising (λ (y : App). y.number) xs → first_where (is_app n) xs ≡ Some x → first_where (is_app n) (apps_after error xs) ≡ after_stream error x.state x
  after_found n x [] rise at = absurd cc
  after_found n x (y ∷ ys) rise at = here (is_app n y) refl at (λ l. after_found n x ys rise.1 l)
    where
      alone : is_app n y ≡ true → first_where (is_app n) ys ≡ None
      alone i = subst (λ k. first_where (is_app k) ys ≡ None) (eqb-true y.number n i) (none_at (λ (v : App). v.number) y.number ys rise.0)

      here : (b : Bool) → is_app n y ≡ b → cond b (Some y) (first_where (is_app n) ys) ≡ Some x → (first_where (is_app n) ys ≡ Some x → first_where (is_app n) (apps_after error ys) ≡ after_stream error x.state x)
          → first_where (is_app n) (kept (after_stream error y.state y) (apps_after error ys)) ≡ after_stream error x.state x
      here true i at later =
          let m : y ≡ x = cc in
          kept_own n y (after_stream error y.state y) (apps_after error ys) i (λ z e. same_number y z y.state e) (after_none n ys (alone i)) ∙ ap (λ (v : App). after_stream error v.state v) m
      here false i at later = kept_other n y (after_stream error y.state y) (apps_after error ys) i (λ z e. same_number y z y.state e) ∙ later at

  -- the client tells its apps, and nothing else
  pub tells_no_server : (xs : List App) → from_client (ends_told error xs) ≡ []
  tells_no_server [] = refl
  tells_no_server (y ∷ ys) = here (after_stream error y.state y) (tells_no_server ys)
    where
      here : (o : Option App) → from_client (ends_told error ys) ≡ [] → from_client (told_unless_kept error y.number o (ends_told error ys)) ≡ []
      here None later = later
      here (Some z) later = later

  pub tells_no_bytes : (n : ℕ) (xs : List App) (old : List ℕ) → for_app n (ends_told error xs) old ≡ old
  tells_no_bytes n [] old = refl
  tells_no_bytes n (y ∷ ys) old = here (after_stream error y.state y) (tells_no_bytes n ys old)
    where
      here : (o : Option App) → for_app n (ends_told error ys) old ≡ old → for_app n (told_unless_kept error y.number o (ends_told error ys)) old ≡ old
      here None later = later
      here (Some z) later = later

-- ---- the apps
module _ (w : World) (f : ℕ) (left : List Packet) (error : List ℕ) (keys : Keys w) (client : (w.streams f).connect ≡ false) (there : (w.streams f).client ≡ true) (front : IsFrontOf left (w.streams f).up) where
  abbrev c : ℕ
  c = (w.streams f).owner

  abbrev apps : List App
  apps = (w.clients c).apps

  abbrev S : ClientStep
  S = stream_ended (w.clients c) error

  abbrev lost : World
  lost = client_stepped c false S (stream_lost f left w)

  abbrev listed : ℕ → Option App
  listed k = first_where (is_app (w.apps k).number) apps

  now : (k : ℕ) (x : App) → listed k ≡ Some x → first_where (is_app (w.apps k).number) S.state.apps ≡ after_stream error x.state x
  now k x at = after_found error (w.apps k).number x apps (keys.clients.apps_rise c) at

  silent : (k : ℕ) → for_app (w.apps k).number S.outs (w.apps k).side.unwritten ≡ (w.apps k).side.unwritten
  silent k = tells_no_bytes error (w.apps k).number apps (w.apps k).side.unwritten

  -- ---- an app on the stream
  module _ (k : ℕ) (came : (w.apps k).came ≡ true) (on : (w.apps k).stream ≡ f) where
    stays : (y : App) → first_where (is_app (w.apps k).number) S.state.apps ≡ Some y → (D : Option ℕ)
        → tunnel_of lost (lost.apps k) D ≡ record (tunnel_of w (w.apps k) D) { client = false; phase = app_phase y.state; inward = stream_in_word false (w.apps k).number D left; outward = no_out }
    stays y at None = rw (on, client, eqb_refl c, eqb_refl f, at, silent k) refl
    stays y at (Some d) = rw (on, client, eqb_refl c, eqb_refl f, at, silent k) refl

    leaves : (x : App) → listed k ≡ Some x → first_where (is_app (w.apps k).number) S.state.apps ≡ None → (D : Option ℕ)
        → tunnel_of lost (lost.apps k) D ≡ record (tunnel_of w (w.apps k) D) { client = false; phase = leaves_as false x.state; app = record (w.apps k).side { unwritten = [] }; inward = stream_in_word false (w.apps k).number D left; outward = no_out }
    leaves x at none None = rw (on, client, eqb_refl c, eqb_refl f, none, at) refl
    leaves x at none (Some d) = rw (on, client, eqb_refl c, eqb_refl f, none, at) refl

    gone : listed k ≡ None → (D : Option ℕ)
        → tunnel_of lost (lost.apps k) D ≡ record (tunnel_of w (w.apps k) D) { client = false; phase = (w.apps k).phase; app = record (w.apps k).side { unwritten = [] }; inward = stream_in_word false (w.apps k).number D left; outward = no_out }
    gone at None = rw (on, client, eqb_refl c, eqb_refl f, after_none error (w.apps k).number apps at, at) refl
    gone at (Some d) = rw (on, client, eqb_refl c, eqb_refl f, after_none error (w.apps k).number apps at, at) refl

    abbrev its_loss : Option ℕ → event.Event
    its_loss D = event.StreamLost (stream_in_word false (w.apps k).number D left)

    cut : (D : Option ℕ) → (w.apps k).dial ≡ D → IsCutIn (stream_in_word false (w.apps k).number D left) (stream_in_word false (w.apps k).number D (w.streams f).up)
    cut D de = subst (λ ps. in_ordered (stream_in_item false (w.apps k).number D) ps ≡ true → IsCutIn (stream_in_word false (w.apps k).number D left) (stream_in_word false (w.apps k).number D ps))
        front.1 (in_prefix_cut (stream_in_item false (w.apps k).number D) left front.0) (rw (on, de, client) at ((keys.ordered k came).inward))

    may : (D : Option ℕ) → (w.apps k).dial ≡ D → step.May (its_loss D) (tunnel_of w (w.apps k) D)
    may None de = (rw on there, rw (on, client) (cut None de))
    may (Some d) de = (rw on there, rw (on, client) (cut (Some d) de))

    module _ (x : App) (at : listed k ≡ Some x) where
      counted : x.unwritten ≡ length (w.apps k).side.unwritten
      counted = (fits w f keys client k x came on at).unwritten

      held : (b : Bool) → (x.unwritten == 0) ≡ b → held_after_stream error x.unwritten x ≡ cond b None (Some (lingering error x))
      held b e = rw e refl

      empty : (xs : List ℕ) → length xs ≡ 0 → xs ≡ []
      empty [] e = refl
      empty (y ∷ ys) e = absurd (omega (arith, e))

      filled : (xs : List ℕ) → (length xs == 0) ≡ false → has xs ≡ true
      filled [] e = absurd cc
      filled (y ∷ ys) e = refl

      -- nothing is unwritten, or something is
      done : (s : AppState) → x.state ≡ s → s ≢ app.Dialling → s ≢ app.Lingering → after_stream error x.state x ≡ None → (w.apps k).side.unwritten ≡ [] → (D : Option ℕ) → tunnel_of lost (lost.apps k) D ≡ step.after (its_loss D) (tunnel_of w (w.apps k) D)
      done app.Dialling es dialling draining none dry D = absurd (dialling refl)
      done app.Lingering es dialling draining none dry D = absurd (draining refl)
      done app.Open es dialling draining none dry None = leaves x at (now k x at ∙ none) None ∙ rw (on, client, at, es, dry_side (w.apps k).side dry, dry) refl
      done app.Open es dialling draining none dry (Some d) = leaves x at (now k x at ∙ none) (Some d) ∙ rw (on, client, at, es, dry_side (w.apps k).side dry, dry) refl
      done app.Closing es dialling draining none dry None = leaves x at (now k x at ∙ none) None ∙ rw (on, client, at, es, dry_side (w.apps k).side dry, dry) refl
      done app.Closing es dialling draining none dry (Some d) = leaves x at (now k x at ∙ none) (Some d) ∙ rw (on, client, at, es, dry_side (w.apps k).side dry, dry) refl

      more : (s : AppState) → x.state ≡ s → s ≢ app.Dialling → s ≢ app.Lingering → after_stream error x.state x ≡ Some (lingering error x) → has (w.apps k).side.unwritten ≡ true → (D : Option ℕ) → tunnel_of lost (lost.apps k) D ≡ step.after (its_loss D) (tunnel_of w (w.apps k) D)
      more app.Dialling es dialling draining some full D = absurd (dialling refl)
      more app.Lingering es dialling draining some full D = absurd (draining refl)
      more app.Open es dialling draining some full None = stays (lingering error x) (now k x at ∙ some) None ∙ rw (on, client, at, es, full) refl
      more app.Open es dialling draining some full (Some d) = stays (lingering error x) (now k x at ∙ some) (Some d) ∙ rw (on, client, at, es, full) refl
      more app.Closing es dialling draining some full None = stays (lingering error x) (now k x at ∙ some) None ∙ rw (on, client, at, es, full) refl
      more app.Closing es dialling draining some full (Some d) = stays (lingering error x) (now k x at ∙ some) (Some d) ∙ rw (on, client, at, es, full) refl

      by_count : (s : AppState) → x.state ≡ s → s ≢ app.Dialling → s ≢ app.Lingering → after_stream error s x ≡ held_after_stream error x.unwritten x → (b : Bool) → (x.unwritten == 0) ≡ b → (D : Option ℕ) → tunnel_of lost (lost.apps k) D ≡ step.after (its_loss D) (tunnel_of w (w.apps k) D)
      by_count s es dialling draining rule true e D = done s es dialling draining (ap (λ v. after_stream error v x) es ∙ rule ∙ held true e) (empty (w.apps k).side.unwritten (sym counted ∙ eqb-true x.unwritten 0 e)) D
      by_count s es dialling draining rule false e D = more s es dialling draining (ap (λ v. after_stream error v x) es ∙ rule ∙ held false e) (filled (w.apps k).side.unwritten (rw counted at e)) D

      by_state : (s : AppState) → x.state ≡ s → (D : Option ℕ) → tunnel_of lost (lost.apps k) D ≡ step.after (its_loss D) (tunnel_of w (w.apps k) D)
      by_state app.Dialling es None = leaves x at (now k x at ∙ ap (λ v. after_stream error v x) es) None ∙ rw (on, client, at, es) refl
      by_state app.Dialling es (Some d) = leaves x at (now k x at ∙ ap (λ v. after_stream error v x) es) (Some d) ∙ rw (on, client, at, es) refl
      by_state app.Open es D = by_count app.Open es (λ h. cc) (λ h. cc) refl (x.unwritten == 0) refl D
      by_state app.Closing es D = by_count app.Closing es (λ h. cc) (λ h. cc) refl (x.unwritten == 0) refl D
      by_state app.Lingering es None = stays x (now k x at ∙ ap (λ v. after_stream error v x) es) None ∙ rw (on, client, at, es) refl
      by_state app.Lingering es (Some d) = stays x (now k x at ∙ ap (λ v. after_stream error v x) es) (Some d) ∙ rw (on, client, at, es) refl

    -- one that has left
    by_phase : listed k ≡ None → ((w.apps k).phase ≡ Ended) ⊎ ((w.apps k).phase ≡ Refused) → (w.apps k).side.unwritten ≡ [] → (D : Option ℕ) → tunnel_of lost (lost.apps k) D ≡ step.after (its_loss D) (tunnel_of w (w.apps k) D)
    by_phase at (inl e) dry None = gone at None ∙ rw (on, client, at, e, dry_side (w.apps k).side dry) refl
    by_phase at (inl e) dry (Some d) = gone at (Some d) ∙ rw (on, client, at, e, dry_side (w.apps k).side dry) refl
    by_phase at (inr e) dry None = gone at None ∙ rw (on, client, at, e, dry_side (w.apps k).side dry) refl
    by_phase at (inr e) dry (Some d) = gone at (Some d) ∙ rw (on, client, at, e, dry_side (w.apps k).side dry) refl

    by_list : (L : Option App) → listed k ≡ L → (D : Option ℕ) → tunnel_of lost (lost.apps k) D ≡ step.after (its_loss D) (tunnel_of w (w.apps k) D)
    by_list (Some x) at D = by_state x at x.state refl D
    by_list None at D = by_phase at (left_is (w.apps k).phase (keys.clients.left k came (rw on client) (rw on at))) (nothing_unwritten w keys k came (rw on client) (rw on at)) D

    its_stream_lost : Follows (tunnel_of w (w.apps k) (w.apps k).dial) (tunnel_of lost (lost.apps k) (w.apps k).dial)
    its_stream_lost = inr (its_loss (w.apps k).dial, may (w.apps k).dial refl, by_list (listed k) refl (w.apps k).dial)

  -- ---- an app of another stream of the client, which lost that one before
  module _ (k : ℕ) (came : (w.apps k).came ≡ true) (cf : (w.streams (w.apps k).stream).connect ≡ false) (ow : (w.streams (w.apps k).stream).owner ≡ c) (off : ((w.apps k).stream == f) ≡ false) where
    lost_before : (b : Bool) → (w.streams (w.apps k).stream).client ≡ b → b ≡ false
    lost_before false e = refl
    lost_before true e =
        let same : (w.apps k).stream ≡ f = keys.clients.alone (w.apps k).stream f c (rw (cf, ow, eqb_refl c) refl) (rw (client, eqb_refl c) refl) e there in
        absurd (cc (rw same at off, eqb_refl f))

    was_lost : (w.streams (w.apps k).stream).client ≡ false
    was_lost = lost_before (w.streams (w.apps k).stream).client refl

    drains : (x : App) → listed k ≡ Some x → (s : AppState) → x.state ≡ s → s ≡ app.Lingering
    drains x at app.Lingering es = refl
    drains x at app.Dialling es = absurd (cc (has_stream w keys k came cf x (rw ow at) (λ h. cc (es, h)), was_lost))
    drains x at app.Open es = absurd (cc (has_stream w keys k came cf x (rw ow at) (λ h. cc (es, h)), was_lost))
    drains x at app.Closing es = absurd (cc (has_stream w keys k came cf x (rw ow at) (λ h. cc (es, h)), was_lost))

    off_same : (L : Option App) → listed k ≡ L → (D : Option ℕ) → tunnel_of lost (lost.apps k) D ≡ tunnel_of w (w.apps k) D
    off_same (Some x) at D = by_dial (now k x at ∙ ap (λ v. after_stream error v x) (drains x at x.state refl)) D
      where
        by_dial : first_where (is_app (w.apps k).number) S.state.apps ≡ Some x → (D : Option ℕ) → tunnel_of lost (lost.apps k) D ≡ tunnel_of w (w.apps k) D
        by_dial then None = rw (cf, ow, eqb_refl c, off, was_lost, then, at, silent k) refl
        by_dial then (Some d) = rw (cf, ow, eqb_refl c, off, was_lost, then, at, silent k) refl
    off_same None at None = rw (cf, ow, eqb_refl c, off, was_lost, after_none error (w.apps k).number apps at, at, dry_side (w.apps k).side (nothing_unwritten w keys k came cf (rw ow at))) refl
    off_same None at (Some d) = rw (cf, ow, eqb_refl c, off, was_lost, after_none error (w.apps k).number apps at, at, dry_side (w.apps k).side (nothing_unwritten w keys k came cf (rw ow at))) refl

  -- ---- an app that is no app of this client
  stranger : (k : ℕ) → (w.streams (w.apps k).stream).connect ≡ true → (b : Bool) → ((w.apps k).stream == f) ≡ b → (D : Option ℕ) → tunnel_of lost (lost.apps k) D ≡ tunnel_of w (w.apps k) D
  stranger k ct true on D = absurd (cc (rw (eqb-true (w.apps k).stream f on) at ct, client))
  stranger k ct false off None = rw (ct, off) refl
  stranger k ct false off (Some d) = rw (ct, off) refl

  other_client : (k : ℕ) → (w.streams (w.apps k).stream).connect ≡ false → ((w.streams (w.apps k).stream).owner == c) ≡ false → (b : Bool) → ((w.apps k).stream == f) ≡ b → (D : Option ℕ) → tunnel_of lost (lost.apps k) D ≡ tunnel_of w (w.apps k) D
  other_client k cf other true on D = absurd (cc (rw (eqb-true (w.apps k).stream f on) at other, eqb_refl c))
  other_client k cf other false off None = rw (cf, other, off) refl
  other_client k cf other false off (Some d) = rw (cf, other, off) refl

  -- ---- all apps
  loss_lifts : Lifts w lost
  loss_lifts k came = by_connect (w.streams (w.apps k).stream).connect refl
    where
      by_stream : (w.streams (w.apps k).stream).connect ≡ false → (w.streams (w.apps k).stream).owner ≡ c → (b : Bool) → ((w.apps k).stream == f) ≡ b → Follows (tunnel w k) (tunnel_of lost (lost.apps k) (w.apps k).dial)
      by_stream cf ow true on = its_stream_lost k came (eqb-true (w.apps k).stream f on)
      by_stream cf ow false off = inl (off_same k came cf ow off (listed k) refl (w.apps k).dial)

      by_owner : (w.streams (w.apps k).stream).connect ≡ false → (b : Bool) → ((w.streams (w.apps k).stream).owner == c) ≡ b → Follows (tunnel w k) (tunnel_of lost (lost.apps k) (w.apps k).dial)
      by_owner cf true ow = by_stream cf (eqb-true (w.streams (w.apps k).stream).owner c ow) ((w.apps k).stream == f) refl
      by_owner cf false other = inl (other_client k cf other ((w.apps k).stream == f) refl (w.apps k).dial)

      by_connect : (b : Bool) → (w.streams (w.apps k).stream).connect ≡ b → Follows (tunnel w k) (tunnel_of lost (lost.apps k) (w.apps k).dial)
      by_connect true ct = inl (stranger k ct ((w.apps k).stream == f) refl (w.apps k).dial)
      by_connect false cf = by_owner cf ((w.streams (w.apps k).stream).owner == c) refl

pub stream_loss_lifts : (w : World) (f : ℕ) (left : List Packet) (error : List ℕ) → Keys w → May (ClientLosesStream f left error) w → Lifts w (after (ClientLosesStream f left error) w)
stream_loss_lifts w f left error keys may = loss_lifts w f left error keys (not_false (w.streams f).connect (and_second (w.streams f).client (not (w.streams f).connect) may.0)) (and_first (w.streams f).client (not (w.streams f).connect) may.0) may.1
