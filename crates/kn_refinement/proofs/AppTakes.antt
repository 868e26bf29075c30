-- An app of a client takes bytes, and its events.
use Rattle.std.proofs.Common.{◌≡◌, ◌&&◌, ◌≤◌, ℕ, Bool, true, false, not, List, [], length, Option, Some, None, refl, sym, ap, ◌∙◌, subst, arith}
use Rattle.std.specs.Option.{option_map}
use Rattle.std.specs.Prelude.{min, if◌then◌else◌}
use Rattle.std.proofs.lemmas.List.{append-nil}
use Rattle.kn_tables.specs.Lists.{first_where}
use Rattle.kn_edge_core.specs.Client as edge
use Rattle.kn_edge_core.specs.ClientTables.{is_app}
use Rattle.kn_edge_core.specs.declared.app.App.{App as ListedApp}
use Rattle.kn_edge_core.specs.declared.app.AppState.{AppState}
use Rattle.kn_edge_core.specs.declared.app.AppState.TheVariants as listed
use Rattle.kn_edge_core.specs.declared.client_event.ClientEvent.TheVariants as event
use Rattle.kn_tunnel.specs.Kinds.{is_here}
use Rattle.kn_packets.specs.Keys.{Keys}
use Rattle.kn_packets.specs.Moves.{AppWrote, app_does, app_is, gets}
use Rattle.kn_packets.specs.World.{WorldApp, WorldStream, app_phase, listed_phase, phase_in}
use Rattle.kn_world.specs.declared.parts.App.{App}
use Rattle.kn_world.specs.declared.parts.Client.{Client}
use Rattle.kn_world.specs.declared.parts.Home.TheVariants as home
use Rattle.kn_world.specs.declared.parts.Side.{Side as RunningSide}
use Rattle.kn_world.specs.declared.state.State.{State}
use Rattle.kn_world.specs.Apps as apps
use Rattle.kn_world.specs.AppSteps as steps
use Rattle.kn_world.specs.Clients as clients
use Rattle.kn_world.specs.ClientSteps.{step}
use Rattle.kn_world.specs.Effects.{app_ended, app_freed, app_held, app_sent}
use Rattle.kn_world.specs.Numbers.{change, nth, or_none}
use Rattle.kn_world.specs.Sides as side
use Rattle.kn_refinement.specs.Fits.{Fits}
use Rattle.kn_refinement.specs.Shown.{client_app, client_of, is_told, noted_phase, shown, side_of}
use Rattle.kn_refinement.proofs.AppChanges.{ClientLeads, IsAt, app_stream, apps_rising, at_after, change_fits, changed_kept, client_leads_none, client_leads_then, clients_as_they_were, does_is, leads_same, side_shown, told_app}
use Rattle.kn_refinement.proofs.AppHands.{came_is, not_by_connect, nothing_stepped, phase_is, sends_leads, then_step, told_if_listed}
use Rattle.kn_refinement.proofs.AppSettles.{OfClient, is_at, settles_leads}
use Rattle.kn_refinement.proofs.ClientKept.{AppKept, AppsKept, alike_back}
use Rattle.kn_refinement.proofs.ClientStepped.{is_connect}
use Rattle.kn_refinement.proofs.NumberLemmas.{nth_none}
use Rattle.kn_refinement.proofs.Worlds.{KeysGoOn, apps_same}

-- ---- it takes some of the bytes that its client counts
took_side : (m : ℕ) (o : Option AppState) (z : AppState) (s : RunningSide) → o ≡ Some z → side_of o (side.took m s) ≡ gets m (side_of o s)
took_side m o z s e = rw e refl

took_none : (o : Option AppState) (s : RunningSide) → side_of o (side.took 0 s) ≡ side_of o s
took_none None s = ap (λ got. record { handed = s.sending.passed; kept = s.sending.waiting; unwritten = []; got = got }) (append-nil s.coming.passed)
took_none (Some z) s = ap (λ got. record { handed = s.sending.passed; kept = s.sending.waiting; unwritten = s.coming.waiting; got = got }) (append-nil s.coming.passed)

here_listed : (st : AppState) → is_here (app_phase st) ≡ true
here_listed listed.Dialling = refl
here_listed listed.Open = refl
here_listed listed.Closing = refl
here_listed listed.Lingering = refl

at_most : (m n : ℕ) → min m n ≤ n
at_most m n = omega arith

none_at_most : (m : ℕ) → min m 0 ≡ 0
none_at_most m = omega arith

module _ (s : State) (k c n : ℕ) (a : App) (x : Client) (fits : Fits s) (keys : Keys (shown s)) (here : IsAt s k c n a x) where
  abbrev took_state : ℕ → State
  took_state m = record s { apps = change (apps.took m) k s.apps }

  keeps_took : (m : ℕ) → AppKept a (apps.took m a)
  keeps_took m = record { connect = λ h. let flags : true ≡ false = ap is_connect (sym h ∙ here.home) in absurd cc; home = refl; dial = refl; door = refl }

  fits_took : (m : ℕ) → Fits (took_state m)
  fits_took m = change_fits s k c n a x fits here (apps.took m) (keeps_took m) (λ within noted. noted)

  -- one that its client has
  module _ (y : ListedApp) (has : first_where (is_app n) x.core.apps ≡ Some y) where
    told_of : is_told n (Some x) ≡ true
    told_of = told_if_listed s c n x y fits here.there has

    state_is : clients.state_at n (Some x) ≡ Some y.state
    state_is = ap (λ o. option_map (λ (z : ListedApp). z.state) o) has

    shown_took : (m : ℕ) → shown (took_state m) ≡ app_is k (gets m) (shown s)
    shown_took m = side_shown s k c n a x fits here (apps.took m) (keeps_took m) (gets m) told_of (apps_same _ _ refl refl refl refl (took_side m (clients.state_at n (Some x)) y.state a.side state_is) refl)

    -- its client knows how many there are
    listed_is : first_where (is_app ((shown s).apps k).number) ((shown s).clients ((shown s).streams ((shown s).apps k).stream).owner).apps ≡ Some y
    listed_is =
        ap (λ (w : WorldApp). first_where (is_app w.number) ((shown s).clients ((shown s).streams ((shown s).apps k).stream).owner).apps) (told_app s k c n a x here true told_of)
        ∙ ap (λ (v : WorldStream). first_where (is_app n) ((shown s).clients v.owner).apps) (app_stream s k c n a x fits here told_of)
        ∙ ap (λ o. first_where (is_app n) (client_of o).apps) here.there ∙ has

    counted : y.unwritten ≡ length ((shown s).apps k).side.unwritten
    counted = (keys.clients.listed k y (came_is s k c n a x here told_of) (not_by_connect s k c n a x fits here told_of) listed_is).unwritten

    may_take : (((shown s).apps k).came && not ((shown s).streams ((shown s).apps k).stream).connect && is_here (phase_in (shown s) ((shown s).apps k))) ≡ true
    may_take =
        ap (λ b. b && not ((shown s).streams ((shown s).apps k).stream).connect && is_here (phase_in (shown s) ((shown s).apps k))) (came_is s k c n a x here told_of)
        ∙ ap (λ b. not b && is_here (phase_in (shown s) ((shown s).apps k))) (not_by_connect s k c n a x fits here told_of)
        ∙ ap is_here (phase_is s k c n a x fits here told_of ∙ ap (λ o. listed_phase o (noted_phase a.stage)) has) ∙ here_listed y.state

    took_listed : (m : ℕ) → m ≤ y.unwritten → ClientLeads s (step c (event.AppWrote n m) (took_state m))
    took_listed m within = then_step s (took_state m) c (event.AppWrote n m) x (AppWrote k m) (fits_took m) here.there (apps_rising s c x keys here.there) tt (λ i. refl) (changed_kept s k c n a x fits here (apps.took m) (keeps_took m)) (clients_as_they_were s.clients)
        (may_take, subst (λ i. m ≤ i) counted within)
        (ap (λ w. app_does k (λ i. event.AppWrote i m) w) (sym (shown_took m)) ∙ does_is (took_state m) k c n (apps.took m a) x (fits_took m) (at_after s k c n a x fits here (apps.took m) (keeps_took m)) told_of (λ i. event.AppWrote i m))

  -- one that its client has no more
  took_unlisted : first_where (is_app n) x.core.apps ≡ None → ClientLeads s (step c (event.AppWrote n 0) (took_state 0))
  took_unlisted none = subst (λ t. ClientLeads s t) (sym (nothing_stepped (took_state 0) c (event.AppWrote n 0) x here.there (ap (λ o. edge.app_wrote x.core 0 o) none)))
      (leads_same s k c n a x fits here (apps.took 0) (keeps_took 0) refl (apps_same _ _ refl refl refl refl (took_none (clients.state_at n (Some x)) a.side) refl))

  took_leads : (count : ℕ) → ClientLeads s (steps.takes k count s)
  took_leads count = subst (λ t. ClientLeads s t) (sym takes_is) (by (first_where (is_app n) x.core.apps) refl)
    where
      takes_is : steps.takes k count s ≡ steps.wrote c n (min count (clients.unwritten_at n (Some x))) k s
      takes_is = ap (λ o. steps.takes_of o k count s) here.at ∙ ap (λ h. steps.took h count k s) here.home ∙ ap (λ o. steps.wrote c n (min count (clients.unwritten_at n o)) k s) here.there

      by : (o : Option ListedApp) → first_where (is_app n) x.core.apps ≡ o → ClientLeads s (steps.wrote c n (min count (or_none (option_map (λ (y : ListedApp). y.unwritten) o))) k s)
      by None none = subst (λ m. ClientLeads s (steps.wrote c n m k s)) (sym (none_at_most count)) (took_unlisted none)
      by (Some y) has = took_listed y has (min count y.unwritten) (at_most count y.unwritten)

pub takes_leads : (s : State) (k count : ℕ) → Fits s → Keys (shown s) → OfClient k s → ClientLeads s (steps.takes k count s)
takes_leads s k count fits keys of_client = by (nth k s.apps) refl
  where
    by : (o : Option App) → nth k s.apps ≡ o → ClientLeads s (steps.takes k count s)
    by None none = subst (λ t. ClientLeads s t) (sym (ap (λ o. steps.takes_of o k count s) none)) (client_leads_none s fits)
    by (Some a) at = let it = is_at s k a fits at (of_client a at) in took_leads s k it.0 it.1 a it.2 fits keys it.3 count

pub takes_freely_leads : (s : State) (k : ℕ) → Fits s → Keys (shown s) → OfClient k s → ClientLeads s (steps.takes_freely k s)
takes_freely_leads s k fits keys of_client = by (steps.is_free k s)
  where
    by : (b : Bool) → ClientLeads s (if b then steps.takes k 18446744073709551615 s else s)
    by true = takes_leads s k 18446744073709551615 fits keys of_client
    by false = client_leads_none s fits

-- ---- an app of a client stays one
pub still_of_client : (s t : State) (k : ℕ) → AppsKept s.apps t.apps → OfClient k s → OfClient k t
still_of_client s t k kept of_client b at = by (alike_back AppKept (nth k s.apps) (nth k t.apps) b (kept k) at)
  where
    by : (a : App) × (nth k s.apps ≡ Some a) × AppKept a b → (c : ℕ) × (n : ℕ) × (b.home ≡ home.Client c n)
    by a = let h = of_client a.0 a.1 in (h.0, h.1, a.2.home ∙ h.2)

-- a change of an app of a client of which nothing is shown
pub unseen : (f : App → App) → ((a : App) → (f a).home ≡ a.home) → ((a : App) → (f a).dial ≡ a.dial) → ((a : App) → (f a).door ≡ a.door) → ((a : App) → (f a).stage ≡ a.stage)
    → ((n : ℕ) (x : Client) (a : App) → client_app n (Some x) (f a) ≡ client_app n (Some x) a) → (s : State) (k : ℕ) → Fits s → OfClient k s → ClientLeads s (record s { apps = change f k s.apps })
unseen f homes dials doors stages same s k fits of_client = by (nth k s.apps) refl
  where
    by : (o : Option App) → nth k s.apps ≡ o → ClientLeads s (record s { apps = change f k s.apps })
    by None none = subst (λ ys. ClientLeads s (record s { apps = ys })) (sym (nth_none f k s.apps none)) (client_leads_none s fits)
    by (Some a) at = let it = is_at s k a fits at (of_client a at) in
        leads_same s k it.0 it.1 a it.2 fits it.3 f
        (record { connect = λ h. let flags : true ≡ false = ap is_connect (sym h ∙ it.3.home) in absurd cc; home = homes a; dial = dials a; door = doors a }) (stages a) (same it.1 it.2 a)

pub app_held_leads : (s : State) (k : ℕ) → Fits s → OfClient k s → ClientLeads s (app_held k s)
app_held_leads s k fits of_client = unseen (apps.holding true) (λ a. refl) (λ a. refl) (λ a. refl) (λ a. refl) (λ n x a. refl) s k fits of_client

module _ (go : KeysGoOn) where
  pub app_freed_leads : (s : State) (k : ℕ) → Fits s → Keys (shown s) → OfClient k s → ClientLeads s (app_freed k s)
  app_freed_leads s k fits keys of_client = client_leads_then go s (record s { apps = change (apps.holding false) k s.apps }) (app_freed k s) keys first
      (λ fit key. takes_freely_leads (record s { apps = change (apps.holding false) k s.apps }) k fit key (still_of_client s (record s { apps = change (apps.holding false) k s.apps }) k first.apps of_client))
    where
      first : ClientLeads s (record s { apps = change (apps.holding false) k s.apps })
      first = unseen (apps.holding false) (λ a. refl) (λ a. refl) (λ a. refl) (λ a. refl) (λ n x a. refl) s k fits of_client

  pub app_ended_leads : (s : State) (k : ℕ) → Fits s → Keys (shown s) → OfClient k s → ClientLeads s (app_ended k s)
  app_ended_leads s k fits keys of_client = client_leads_then go s (record s { apps = change apps.ended k s.apps }) (app_ended k s) keys first
      (λ fit key. settles_leads go (record s { apps = change apps.ended k s.apps }) k fit key (still_of_client s (record s { apps = change apps.ended k s.apps }) k first.apps of_client))
    where
      first : ClientLeads s (record s { apps = change apps.ended k s.apps })
      first = unseen apps.ended (λ a. refl) (λ a. refl) (λ a. refl) (λ a. refl) (λ n x a. refl) s k fits of_client

  pub app_sent_leads : (bytes : List ℕ) (s : State) (k : ℕ) → Fits s → Keys (shown s) → OfClient k s → ClientLeads s (app_sent bytes k s)
  app_sent_leads bytes s k fits keys of_client = client_leads_then go s (record s { apps = change (apps.sent bytes) k s.apps }) (app_sent bytes k s) keys first
      (λ fit key. settles_leads go (record s { apps = change (apps.sent bytes) k s.apps }) k fit key (still_of_client s (record s { apps = change (apps.sent bytes) k s.apps }) k first.apps of_client))
    where
      by : (o : Option App) → nth k s.apps ≡ o → ClientLeads s (record s { apps = change (apps.sent bytes) k s.apps })
      by None none = subst (λ ys. ClientLeads s (record s { apps = ys })) (sym (nth_none (apps.sent bytes) k s.apps none)) (client_leads_none s fits)
      by (Some a) at = let it = is_at s k a fits at (of_client a at) in sends_leads s k it.0 it.1 a it.2 fits it.3 bytes

      first : ClientLeads s (record s { apps = change (apps.sent bytes) k s.apps })
      first = by (nth k s.apps) refl
