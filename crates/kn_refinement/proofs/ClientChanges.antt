-- Changes of a client's lists that are none of its core's doing: it loses its stream, or its first packet is taken off.
use Rattle.std.proofs.Common.{◌≡◌, ◌==◌, ◌&&◌, ◌≤◌, ℕ, Bool, true, false, not, [], Option, Some, None, refl, sym, ap, ◌∙◌, subst, eqb-true}
use Rattle.std.specs.Prelude.{codes, if◌then◌else◌}
use Rattle.std.proofs.lemmas.List.{append-nil}
use Rattle.kn_tables.specs.Lists.{first_where}
use Rattle.kn_server_core.proofs.TunnelTables.{false_unless}
use Rattle.kn_edge_core.specs.ClientTables.{is_app}
use Rattle.kn_edge_core.specs.declared.client_event.ClientEvent.TheVariants as event
use Rattle.kn_edge_core.specs.declared.client_state.ClientState.{ClientState}
use Rattle.kn_packets.specs.Keys.{Keys}
use Rattle.kn_packets.specs.Moves.{ClientLosesStream, after, client_does, no_app, stream_lost}
use Rattle.kn_packets.specs.World.{WorldStream}
use Rattle.kn_packets.proofs.Fresh.{eqb_refl}
use Rattle.kn_world.specs.declared.parts.App.{App}
use Rattle.kn_world.specs.declared.parts.Client.{Client}
use Rattle.kn_world.specs.declared.parts.Home.{Home}
use Rattle.kn_world.specs.declared.parts.Home.TheVariants as home
use Rattle.kn_world.specs.declared.parts.Owner.{Owner}
use Rattle.kn_world.specs.declared.parts.Owner.TheVariants as owner
use Rattle.kn_world.specs.declared.state.State.{State}
use Rattle.kn_world.specs.Clients as clients
use Rattle.kn_world.specs.Effects.{client_lost}
use Rattle.kn_world.specs.Numbers.{change, nth}
use Rattle.kn_refinement.specs.Fits.{Fits}
use Rattle.kn_refinement.specs.Shown.{app_at_home, app_of, client_app, client_of, client_stream, is_told, shown, stream_of}
use Rattle.kn_refinement.proofs.AppChanges.{ClientLeads, apps_as_they_were, apps_rising, its_stream}
use Rattle.kn_refinement.proofs.AppHands.{then_step}
use Rattle.kn_refinement.proofs.Changes.{changed_other, changed_own}
use Rattle.kn_refinement.proofs.ClientBecame.{Noted}
use Rattle.kn_refinement.proofs.ClientKept.{AllNoted, ClientKept, ClientsKept, alike_changed, all_noted, client_as_it_was, fits_again}
use Rattle.kn_refinement.proofs.ClientStepped.{some_same}
use Rattle.kn_refinement.proofs.Worlds.{worlds_same}

-- whether a front is that of a client
abbrev is_client : Owner → Bool
is_client (owner.Client d) = true
is_client (owner.App app) = false

-- ---- a change of the stream and its lists alone
module _ (s : State) (c : ℕ) (x : Client) (fits : Fits s) (there : nth c s.clients ≡ Some x) (f : Client → Client)
    (core : (y : Client) → (f y).core ≡ y.core) (front : (y : Client) → (f y).front ≡ y.front) (keeps : ClientKept x (f x)) where
  abbrev pub listless_state : State
  listless_state = record s { clients = change f c s.clients }

  core_kept : (l : ℕ) → client_of (nth l (change f c s.clients)) ≡ client_of (nth l s.clients)
  core_kept l = by (l == c) refl
    where
      by : (b : Bool) → (l == c) ≡ b → client_of (nth l (change f c s.clients)) ≡ client_of (nth l s.clients)
      by false e = ap client_of (changed_other f c l s.clients e)
      by true e = ap (λ i. client_of (nth i (change f c s.clients))) (eqb-true l c e) ∙ ap client_of (changed_own f c s.clients x there) ∙ core x ∙ sym (ap client_of (ap (λ i. nth i s.clients) (eqb-true l c e) ∙ there))

  -- an app shows the same
  app_kept : (n : ℕ) (a : App) → (if is_told n (Some (f x)) then client_app n (Some (f x)) a else no_app) ≡ (if is_told n (Some x) then client_app n (Some x) a else no_app)
  app_kept n a = ap (λ (k : ClientState). if is_told n (Some (record x { core = k; front = (f x).front })) then client_app n (Some (record x { core = k; front = (f x).front })) a else no_app) (core x)
      ∙ ap (λ g. if is_told n (Some (record x { front = g })) then client_app n (Some (record x { front = g })) a else no_app) (front x)

  apps_kept : (k : ℕ) → app_of (change f c s.clients) (nth k s.apps) ≡ app_of s.clients (nth k s.apps)
  apps_kept k = by (nth k s.apps)
    where
      at : (d n : ℕ) (a : App) (b : Bool) → (d == c) ≡ b → app_at_home (change f c s.clients) (home.Client d n) a ≡ app_at_home s.clients (home.Client d n) a
      at d n a false e = ap (λ o. if is_told n o then client_app n o a else no_app) (changed_other f c d s.clients e)
      at d n a true e = ap (λ o. if is_told n o then client_app n o a else no_app) (ap (λ i. nth i (change f c s.clients)) (eqb-true d c e) ∙ changed_own f c s.clients x there) ∙ app_kept n a
          ∙ sym (ap (λ o. if is_told n o then client_app n o a else no_app) (ap (λ i. nth i s.clients) (eqb-true d c e) ∙ there))

      by_home : (h : Home) (a : App) → app_at_home (change f c s.clients) h a ≡ app_at_home s.clients h a
      by_home (home.Client d n) a = at d n a (d == c) refl
      by_home home.Connect a = refl

      by : (o : Option App) → app_of (change f c s.clients) o ≡ app_of s.clients o
      by None = refl
      by (Some a) = by_home a.home a

  -- a front of another
  elsewhere : (g : ℕ) (o : Option Owner) → nth g s.fronts ≡ o → (o ≡ Some (owner.Client c) → ⊥) → (g == x.front) ≡ false
  elsewhere g o h other = false_unless (g == x.front) (λ e. other (sym h ∙ ap (λ i. nth i s.fronts) (eqb-true g x.front e) ∙ fits.fronts.client c x there))

  pub listless_shown : (streams : ℕ → WorldStream) → client_stream c (Some (f x)) ≡ streams x.front → ((g : ℕ) → (g == x.front) ≡ false → (shown s).streams g ≡ streams g) → shown listless_state ≡ record (shown s) { streams = streams }
  listless_shown streams own others = worlds_same _ _ refl (λ l. refl) core_kept (λ l. refl) (λ g. by g (nth g s.fronts) refl) (λ d. refl) apps_kept
    where
      of_client : (g d : ℕ) → nth g s.fronts ≡ Some (owner.Client d) → (b : Bool) → (d == c) ≡ b → client_stream d (nth d (change f c s.clients)) ≡ streams g
      of_client g d h false e = ap (λ o. client_stream d o) (changed_other f c d s.clients e) ∙ sym (ap (λ o. stream_of s.clients s.apps o) h)
          ∙ others g (elsewhere g (Some (owner.Client d)) h (λ i. let same : owner.Client d ≡ owner.Client c = some_same (owner.Client d) (owner.Client c) i in let numbers : d ≡ c = cc in cc (e, ap (λ j. j == c) numbers, eqb_refl c)))
      of_client g d h true e = ap (λ i. client_stream i (nth i (change f c s.clients))) (eqb-true d c e) ∙ ap (λ o. client_stream c o) (changed_own f c s.clients x there) ∙ own
          ∙ ap streams (here (fits.fronts.of_client g c (h ∙ ap (λ i. Some (owner.Client i)) (eqb-true d c e))))
        where
          here : (y : Client) × (nth c s.clients ≡ Some y) × (y.front ≡ g) → x.front ≡ g
          here y = ap (λ (v : Client). v.front) (some_same x y.0 (sym there ∙ y.1)) ∙ y.2

      by : (g : ℕ) (o : Option Owner) → nth g s.fronts ≡ o → stream_of (change f c s.clients) s.apps o ≡ streams g
      by g None h = sym (ap (λ o. stream_of s.clients s.apps o) h) ∙ others g (elsewhere g None h (λ i. cc))
      by g (Some (owner.Client d)) h = of_client g d h (d == c) refl
      by g (Some (owner.App app)) h = sym (ap (λ o. stream_of s.clients s.apps o) h)
          ∙ others g (elsewhere g (Some (owner.App app)) h (λ i. let flags : false ≡ true = ap is_client (some_same (owner.App app) (owner.Client c) i) in absurd cc))

  pub listless_kept : ClientsKept s.clients (change f c s.clients)
  listless_kept = alike_changed ClientKept f c s.clients client_as_it_was (λ y at. subst (λ v. ClientKept v (f v)) (some_same x y (sym there ∙ at)) keeps)

  pub listless_fits : Fits listless_state
  listless_fits = fits_again s (change f c s.clients) s.apps fits (apps_as_they_were s.apps) listless_kept noted
    where
      old : AllNoted s.clients s.apps
      old = all_noted s.clients s.apps fits.clients

      noted : AllNoted (change f c s.clients) s.apps
      noted k d n a y at is their within = by (d == c) refl
        where
          by : (b : Bool) → (d == c) ≡ b → Noted (first_where (is_app n) y.core.apps) a.stage
          by false e = old k d n a y at is (sym (changed_other f c d s.clients e) ∙ their) within
          by true e = subst (λ (v : Client). Noted (first_where (is_app n) v.core.apps) a.stage) one (subst (λ core. Noted (first_where (is_app n) core.apps) a.stage) (sym (core x))
              (old k c n a x at (is ∙ ap (λ i. home.Client i n) (eqb-true d c e)) there (subst (λ core. n ≤ core.top_app) (core x) (subst (λ (v : Client). n ≤ v.core.top_app) (sym one) within))))
            where
              one : f x ≡ y
              one = some_same (f x) y (sym (changed_own f c s.clients x there) ∙ ap (λ i. nth i (change f c s.clients)) (sym (eqb-true d c e)) ∙ their)

-- ---- a client loses its stream: what it queued stays
module _ (s : State) (c : ℕ) (x : Client) (fits : Fits s) (keys : Keys (shown s)) (there : nth c s.clients ≡ Some x) (at_client : x.at_client ≡ true) where
  abbrev lost_state : State
  lost_state = record s { clients = change clients.lost_at_client c s.clients }

  keeps_lost : ClientKept x (clients.lost_at_client x)
  keeps_lost = record { front = refl; names = refl; top = refl; listed = λ n z h. (z, h); up_dry = λ h. h; down_dry = λ was gone. refl; there = λ h. absurd cc }

  fits_lost : Fits lost_state
  fits_lost = listless_fits s c x fits there clients.lost_at_client (λ y. refl) (λ y. refl) keeps_lost

  shown_lost : shown lost_state ≡ stream_lost x.front x.up (shown s)
  shown_lost = listless_shown s c x fits there clients.lost_at_client (λ y. refl) (λ y. refl) keeps_lost (stream_lost x.front x.up (shown s)).streams
      (sym (ap (λ b. lost_if b ((shown s).streams x.front)) (eqb_refl x.front) ∙ ap (λ w. lost_if true w) (its_stream s c x fits there)))
      (λ g off. sym (ap (λ b. lost_if b ((shown s).streams g)) off))
    where
      lost_if : Bool → WorldStream → WorldStream
      lost_if b w = record w { client = (if b then false else w.client); up = (if b then x.up else w.up); down = (if b then [] else w.down) }

  lost_made : after (ClientLosesStream x.front x.up (codes "server lost")) (shown s) ≡ client_does c (event.StreamEnded (codes "server lost")) (shown lost_state)
  lost_made = ap (λ (w : WorldStream). client_does w.owner (event.StreamEnded (codes "server lost")) (stream_lost x.front x.up (shown s))) (its_stream s c x fits there)
      ∙ ap (λ w. client_does c (event.StreamEnded (codes "server lost")) w) (sym shown_lost)

  pub lost_leads : ClientLeads s (client_lost c s)
  lost_leads = then_step s lost_state c (event.StreamEnded (codes "server lost")) (clients.lost_at_client x) (ClientLosesStream x.front x.up (codes "server lost")) fits_lost
      (changed_own clients.lost_at_client c s.clients x there) (apps_rising s c x keys there) (λ none. cc) (λ m. refl) (apps_as_they_were s.apps)
      (listless_kept s c x fits there clients.lost_at_client (λ y. refl) (λ y. refl) keeps_lost) (
        ap (λ (w : WorldStream). w.client && not w.connect) (its_stream s c x fits there) ∙ ap (λ b. b && true) at_client,
        ([], append-nil x.up ∙ sym (ap (λ (w : WorldStream). w.up) (its_stream s c x fits there))),
      )
      lost_made

pub client_lost_leads : (s : State) (c : ℕ) → Fits s → Keys (shown s) → clients.is_at_client (nth c s.clients) ≡ true → ClientLeads s (client_lost c s)
client_lost_leads s c fits keys at_client = by (nth c s.clients) refl at_client
  where
    by : (o : Option Client) → nth c s.clients ≡ o → clients.is_at_client o ≡ true → ClientLeads s (client_lost c s)
    by None h there = absurd cc
    by (Some x) h there = lost_leads s c x fits keys h there
