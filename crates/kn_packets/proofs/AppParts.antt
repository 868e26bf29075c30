-- An app of a client does something: the apps that it is not, and what it is itself on its client's list.
use Rattle.std.proofs.Common.{◌≡◌, ◌≢◌, ◌==◌, ℕ, pos, Bool, true, false, not, cond, List, [], Option, Some, None, inl, refl, sym, ap, ◌∙◌, eqb-true, subst}
use Rattle.kn_packet.specs.declared.packet.Packet.{Packet}
use Rattle.kn_tables.specs.Lists.{first_where}
use Rattle.kn_server_core.proofs.TunnelTables.{false_unless}
use Rattle.kn_edge_core.specs.Client.{ignored}
use Rattle.kn_edge_core.specs.ClientTables.{is_app}
use Rattle.kn_edge_core.specs.Steps.{ClientStep}
use Rattle.kn_edge_core.specs.declared.app.App.{App}
use Rattle.kn_edge_core.specs.declared.app.AppState.{AppState}
use Rattle.kn_edge_core.specs.declared.app.AppState.TheVariants as app
use Rattle.kn_tunnel.specs.Facts.{Facts}
use Rattle.kn_tunnel.specs.Kinds.{has_left, is_drawn, is_gone}
use Rattle.kn_tunnel.specs.Steps.{Follows}
use Rattle.kn_tunnel.specs.StreamSide.{phase_fits}
use Rattle.kn_tunnel.specs.Tunnel.{Inward, Side}
use Rattle.kn_words.specs.In.{stream_in_word}
use Rattle.kn_words.specs.Numbers.{is_drawn_number}
use Rattle.kn_packets.specs.Keys.{Keys, ListedFits}
use Rattle.kn_packets.specs.Lifts.{Lifts}
use Rattle.kn_packets.specs.Moves.{client_stepped, leaves_as, side_if}
use Rattle.kn_packets.specs.Outputs.{for_app, from_client, queued}
use Rattle.kn_packets.specs.World.{World, app_phase, phase_in, tunnel_of}
use Rattle.kn_packets.proofs.ClientParts.{dry_side, held_client, left_dry}
use Rattle.kn_packets.proofs.Fresh.{eqb_refl}

same_if : (b : Bool) (ps : List Packet) → cond b ps ps ≡ ps
same_if true ps = refl
same_if false ps = refl

-- only one app's side changes
pub one_side : (a : ℕ) (change : Side → Side) (i : ℕ) (s : Side) → (i == a) ≡ false → side_if (i == a) change s ≡ s
one_side a change i s off = rw off refl

-- ---- what the facts of a client's app say
module _ (w : World) (keys : Keys w) (k : ℕ) (came : (w.apps k).came ≡ true) (client : (w.streams (w.apps k).stream).connect ≡ false) where
  -- what its client has of it
  abbrev on_list : Option App
  on_list = first_where (is_app (w.apps k).number) (w.clients (w.streams (w.apps k).stream).owner).apps

  pub fits : (x : App) → on_list ≡ Some x → ListedFits w k x
  fits x at = keys.clients.listed k x came client at

  -- one that has left has nothing unwritten
  pub nothing_unwritten : on_list ≡ None → (w.apps k).side.unwritten ≡ []
  nothing_unwritten none = by_dial (w.apps k).dial (keys.facts k came)
    where
      gone : has_left (phase_in w (w.apps k)) ≡ true
      gone = rw (client, none) (keys.clients.left k came client none)

      by_dial : (D : Option ℕ) → Facts (tunnel_of w (w.apps k) D) → (w.apps k).side.unwritten ≡ []
      by_dial None facts = left_dry (tunnel_of w (w.apps k) None) facts.stream gone
      by_dial (Some d) facts = left_dry (tunnel_of w (w.apps k) (Some d)) facts.stream gone

  -- one that does not drain has its stream
  pub has_stream : (x : App) → on_list ≡ Some x → x.state ≢ app.Lingering → (w.streams (w.apps k).stream).client ≡ true
  has_stream x at state = by_client (w.streams (w.apps k).stream).client refl
    where
      fits_phase : (D : Option ℕ) → Facts (tunnel_of w (w.apps k) D) → (w.streams (w.apps k).stream).client ≡ false → phase_fits false (app_phase x.state) false (is_drawn (tunnel_of w (w.apps k) D).far) ≡ true
      fits_phase None facts lost = rw (client, at) at (held_client (tunnel_of w (w.apps k) None) facts.stream lost)
      fits_phase (Some d) facts lost = rw (client, at) at (held_client (tunnel_of w (w.apps k) (Some d)) facts.stream lost)

      by_state : (s : AppState) → x.state ≡ s → (w.streams (w.apps k).stream).client ≡ false → ⊥
      by_state app.Lingering es lost = state es
      by_state app.Dialling es lost = cc (rw es at (fits_phase (w.apps k).dial (keys.facts k came) lost))
      by_state app.Open es lost = cc (rw es at (fits_phase (w.apps k).dial (keys.facts k came) lost))
      by_state app.Closing es lost = cc (rw es at (fits_phase (w.apps k).dial (keys.facts k came) lost))

      by_client : (b : Bool) → (w.streams (w.apps k).stream).client ≡ b → b ≡ true
      by_client true e = refl
      by_client false e = absurd (by_state x.state refl e)

-- ---- an app of a client does something
module _ (w : World) (a : ℕ) (keys : Keys w) (came : (w.apps a).came ≡ true) (client : (w.streams (w.apps a).stream).connect ≡ false) (itself : Bool) (sides : ℕ → Side → Side) (only : (i : ℕ) (s : Side) → (i == a) ≡ false → sides i s ≡ s) (S : ClientStep) where
  abbrev c : ℕ
  c = (w.streams (w.apps a).stream).owner

  abbrev new : World
  new = client_stepped c itself S (record w { apps = λ i. record (w.apps i) { side = sides i (w.apps i).side } })

  -- the step is of no other app: it stays on the list as it is, nothing is written to it, and no packet names it
  pub record IsItsOwn : Type 0 where
    pub list : (n : ℕ) → (n == (w.apps a).number) ≡ false → first_where (is_app n) S.state.apps ≡ first_where (is_app n) (w.clients c).apps
    pub written : (n : ℕ) (xs : List ℕ) → (n == (w.apps a).number) ≡ false → for_app n S.outs xs ≡ xs
    pub packets : (n : ℕ) (D : Option ℕ) (b : Bool) (ps : List Packet) → (n == (w.apps a).number) ≡ false → ((d : ℕ) → (w.apps a).dial ≡ Some d → is_drawn_number D (pos d) ≡ false)
        → stream_in_word false n D (queued b ps (from_client S.outs)) ≡ stream_in_word false n D ps

  -- an app that is no app of this client
  stranger : (k : ℕ) → (k == a) ≡ false → (w.streams (w.apps k).stream).connect ≡ true → (D : Option ℕ) → tunnel_of new (new.apps k) D ≡ tunnel_of w (w.apps k) D
  stranger k off ct None = rw (ct, only k (w.apps k).side off) refl
  stranger k off ct (Some d) = rw (ct, only k (w.apps k).side off) refl

  other_client : (k : ℕ) → (k == a) ≡ false → (w.streams (w.apps k).stream).connect ≡ false → ((w.streams (w.apps k).stream).owner == c) ≡ false → (D : Option ℕ) → tunnel_of new (new.apps k) D ≡ tunnel_of w (w.apps k) D
  other_client k off cf other None = rw (cf, other, only k (w.apps k).side off) refl
  other_client k off cf other (Some d) = rw (cf, other, only k (w.apps k).side off) refl

  -- another app of this client
  module _ (k : ℕ) (off : (k == a) ≡ false) (came_too : (w.apps k).came ≡ true) (cf : (w.streams (w.apps k).stream).connect ≡ false) (ow : (w.streams (w.apps k).stream).owner ≡ c) (its : IsItsOwn) where
    other_number : ((w.apps k).number == (w.apps a).number) ≡ false
    other_number = false_unless ((w.apps k).number == (w.apps a).number) (λ h.
        let same : k ≡ a = keys.clients.apart k a c (w.apps a).number (came_too, rw (cf, ow, eqb_refl c) refl, eqb-true (w.apps k).number (w.apps a).number h) (came, rw (client, eqb_refl c) refl, refl) in
        cc (rw same at off, eqb_refl a))

    other_dial : (d : ℕ) → (w.apps a).dial ≡ Some d → is_drawn_number (w.apps k).dial (pos d) ≡ false
    other_dial d de = here (w.apps k).dial refl
      where
        here : (D : Option ℕ) → (w.apps k).dial ≡ D → is_drawn_number D (pos d) ≡ false
        here None e = refl
        here (Some i) e = false_unless (d == i) (λ h.
            let same : k ≡ a = keys.clients.dials_once k a d came_too came (e ∙ ap Some (sym (eqb-true d i h))) de in cc (rw same at off, eqb_refl a))

    by_list : (L : Option App) → first_where (is_app (w.apps k).number) (w.clients c).apps ≡ L → (there : Bool) → (w.streams (w.apps k).stream).client ≡ there → (D : Option ℕ) → (w.apps k).dial ≡ D → first_where (is_app (w.apps k).number) S.state.apps ≡ L
        → stream_in_word false (w.apps k).number D (queued (not (is_gone (w.streams (w.apps k).stream).front)) (w.streams (w.apps k).stream).up (from_client S.outs)) ≡ stream_in_word false (w.apps k).number D (w.streams (w.apps k).stream).up
        → for_app (w.apps k).number S.outs (w.apps k).side.unwritten ≡ (w.apps k).side.unwritten → tunnel_of new (new.apps k) D ≡ tunnel_of w (w.apps k) D
    by_list (Some x) at true te None de now word silent = rw (only k (w.apps k).side off, cf, ow, eqb_refl c, te, now, at, silent, word) refl
    by_list (Some x) at true te (Some d) de now word silent = rw (only k (w.apps k).side off, cf, ow, eqb_refl c, te, now, at, silent, word) refl
    by_list (Some x) at false te None de now word silent = rw (only k (w.apps k).side off, cf, ow, eqb_refl c, te, now, at, silent) refl
    by_list (Some x) at false te (Some d) de now word silent = rw (only k (w.apps k).side off, cf, ow, eqb_refl c, te, now, at, silent) refl
    by_list None at true te None de now word silent = rw (only k (w.apps k).side off, cf, ow, eqb_refl c, te, now, at, dry_side (w.apps k).side (nothing_unwritten w keys k came_too cf (rw ow at)), word) refl
    by_list None at true te (Some d) de now word silent = rw (only k (w.apps k).side off, cf, ow, eqb_refl c, te, now, at, dry_side (w.apps k).side (nothing_unwritten w keys k came_too cf (rw ow at)), word) refl
    by_list None at false te None de now word silent = rw (only k (w.apps k).side off, cf, ow, eqb_refl c, te, now, at, dry_side (w.apps k).side (nothing_unwritten w keys k came_too cf (rw ow at))) refl
    by_list None at false te (Some d) de now word silent = rw (only k (w.apps k).side off, cf, ow, eqb_refl c, te, now, at, dry_side (w.apps k).side (nothing_unwritten w keys k came_too cf (rw ow at))) refl

    same_client : tunnel_of new (new.apps k) (w.apps k).dial ≡ tunnel_of w (w.apps k) (w.apps k).dial
    same_client = by_list (first_where (is_app (w.apps k).number) (w.clients c).apps) refl (w.streams (w.apps k).stream).client refl (w.apps k).dial refl (its.list (w.apps k).number other_number)
        (its.packets (w.apps k).number (w.apps k).dial (not (is_gone (w.streams (w.apps k).stream).front)) (w.streams (w.apps k).stream).up other_number other_dial) (its.written (w.apps k).number (w.apps k).side.unwritten other_number)

  -- all apps
  pub steps_lift : IsItsOwn → Follows (tunnel_of w (w.apps a) (w.apps a).dial) (tunnel_of new (new.apps a) (w.apps a).dial) → Lifts w new
  steps_lift its own k came_too = by_app (k == a) refl
    where
      by_owner : (k == a) ≡ false → (w.streams (w.apps k).stream).connect ≡ false → (b : Bool) → ((w.streams (w.apps k).stream).owner == c) ≡ b → Follows (tunnel_of w (w.apps k) (w.apps k).dial) (tunnel_of new (new.apps k) (w.apps k).dial)
      by_owner off cf true ow = inl (same_client k off came_too cf (eqb-true (w.streams (w.apps k).stream).owner c ow) its)
      by_owner off cf false other = inl (other_client k off cf other (w.apps k).dial)

      by_connect : (k == a) ≡ false → (b : Bool) → (w.streams (w.apps k).stream).connect ≡ b → Follows (tunnel_of w (w.apps k) (w.apps k).dial) (tunnel_of new (new.apps k) (w.apps k).dial)
      by_connect off true ct = inl (stranger k off ct (w.apps k).dial)
      by_connect off false cf = by_owner off cf ((w.streams (w.apps k).stream).owner == c) refl

      by_app : (b : Bool) → (k == a) ≡ b → Follows (tunnel_of w (w.apps k) (w.apps k).dial) (tunnel_of new (new.apps k) (w.apps k).dial)
      by_app true is = let same : k ≡ a = eqb-true k a is in subst (λ i. Follows (tunnel_of w (w.apps i) (w.apps i).dial) (tunnel_of new (new.apps i) (w.apps i).dial)) (sym same) own
      by_app false off = by_connect off (w.streams (w.apps k).stream).connect refl

  -- the app itself: what goes to the server on its stream
  abbrev sent_in : Option ℕ → Inward
  sent_in D = stream_in_word false (w.apps a).number D (cond (w.streams (w.apps a).stream).client (queued (not (is_gone (w.streams (w.apps a).stream).front)) (w.streams (w.apps a).stream).up (from_client S.outs)) (w.streams (w.apps a).stream).up)

  pub nothing_sent : from_client S.outs ≡ [] → (D : Option ℕ) → sent_in D ≡ stream_in_word false (w.apps a).number D (w.streams (w.apps a).stream).up
  nothing_sent e D = rw (e, same_if (w.streams (w.apps a).stream).client (w.streams (w.apps a).stream).up) refl

  -- it stays on the list
  pub own_stays : (y : App) → first_where (is_app (w.apps a).number) S.state.apps ≡ Some y → ((xs : List ℕ) → for_app (w.apps a).number S.outs xs ≡ xs) → (D : Option ℕ) (u : Inward) → sent_in D ≡ u
      → tunnel_of new (new.apps a) D ≡ record (tunnel_of w (w.apps a) D) { phase = app_phase y.state; app = sides a (w.apps a).side; inward = u }
  own_stays y now silent None u sent = rw (client, eqb_refl c, now, silent (sides a (w.apps a).side).unwritten, sent) refl
  own_stays y now silent (Some d) u sent = rw (client, eqb_refl c, now, silent (sides a (w.apps a).side).unwritten, sent) refl

  -- it leaves
  pub own_leaves : (x : App) → first_where (is_app (w.apps a).number) (w.clients c).apps ≡ Some x → first_where (is_app (w.apps a).number) S.state.apps ≡ None → (D : Option ℕ) (u : Inward) → sent_in D ≡ u
      → tunnel_of new (new.apps a) D ≡ record (tunnel_of w (w.apps a) D) { phase = leaves_as itself x.state; app = record (sides a (w.apps a).side) { unwritten = [] }; inward = u }
  own_leaves x at now None u sent = rw (client, eqb_refl c, now, at, sent) refl
  own_leaves x at now (Some d) u sent = rw (client, eqb_refl c, now, at, sent) refl

-- ---- a step that does nothing
module _ (w : World) (a : ℕ) (keys : Keys w) (came : (w.apps a).came ≡ true) (client : (w.streams (w.apps a).stream).connect ≡ false) (itself : Bool) where
  abbrev nothing : ClientStep
  nothing = ignored (w.clients (w.streams (w.apps a).stream).owner)

  abbrev after_nothing : World
  after_nothing = client_stepped (w.streams (w.apps a).stream).owner itself nothing w

  nothing_own : (L : Option App) → first_where (is_app (w.apps a).number) (w.clients (w.streams (w.apps a).stream).owner).apps ≡ L → (there : Bool) → (w.streams (w.apps a).stream).client ≡ there → (D : Option ℕ)
      → tunnel_of after_nothing (after_nothing.apps a) D ≡ tunnel_of w (w.apps a) D
  nothing_own (Some x) at true te None = rw (client, eqb_refl (w.streams (w.apps a).stream).owner, te, at) refl
  nothing_own (Some x) at true te (Some d) = rw (client, eqb_refl (w.streams (w.apps a).stream).owner, te, at) refl
  nothing_own (Some x) at false te None = rw (client, eqb_refl (w.streams (w.apps a).stream).owner, te, at) refl
  nothing_own (Some x) at false te (Some d) = rw (client, eqb_refl (w.streams (w.apps a).stream).owner, te, at) refl
  nothing_own None at true te None = rw (client, eqb_refl (w.streams (w.apps a).stream).owner, te, at, dry_side (w.apps a).side (nothing_unwritten w keys a came client at)) refl
  nothing_own None at true te (Some d) = rw (client, eqb_refl (w.streams (w.apps a).stream).owner, te, at, dry_side (w.apps a).side (nothing_unwritten w keys a came client at)) refl
  nothing_own None at false te None = rw (client, eqb_refl (w.streams (w.apps a).stream).owner, te, at, dry_side (w.apps a).side (nothing_unwritten w keys a came client at)) refl
  nothing_own None at false te (Some d) = rw (client, eqb_refl (w.streams (w.apps a).stream).owner, te, at, dry_side (w.apps a).side (nothing_unwritten w keys a came client at)) refl

  pub nothing_lifts : Lifts w after_nothing
  nothing_lifts = steps_lift w a keys came client itself (λ i s. s) (λ i s off. refl) nothing (record { list = λ n off. refl; written = λ n xs off. refl; packets = λ n D b ps off other. refl })
      (inl (nothing_own (first_where (is_app (w.apps a).number) (w.clients (w.streams (w.apps a).stream).owner).apps) refl (w.streams (w.apps a).stream).client refl (w.apps a).dial))
