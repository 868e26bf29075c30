-- Changes of an app of a client that are none of its client's doing.
use Rattle.std.proofs.Common.{◌≡◌, ◌==◌, ◌≤◌, ℕ, Bool, true, false, List, Option, Some, None, refl, sym, ap, ◌∙◌, subst, eqb-true}
use Rattle.std.specs.Prelude.{if◌then◌else◌}
use Rattle.kn_tables.specs.Lists.{IsRising, first_where}
use Rattle.kn_edge_core.specs.ClientTables.{is_app}
use Rattle.kn_edge_core.specs.declared.app.App.{App as ListedApp}
use Rattle.kn_edge_core.specs.declared.client_event.ClientEvent.{ClientEvent}
use Rattle.kn_tunnel.specs.Tunnel.{Side}
use Rattle.kn_packets.specs.Keys.{Keys}
use Rattle.kn_packets.specs.Moves.{app_does, app_is, client_does, no_app, side_if}
use Rattle.kn_packets.specs.World.{WorldApp, WorldStream}
use Rattle.kn_packets.proofs.Fresh.{eqb_refl}
use Rattle.kn_world.specs.declared.parts.App.{App}
use Rattle.kn_world.specs.declared.parts.Client.{Client}
use Rattle.kn_world.specs.declared.parts.Home.TheVariants as home
use Rattle.kn_world.specs.declared.parts.Owner.{Owner}
use Rattle.kn_world.specs.declared.parts.Owner.TheVariants as owner
use Rattle.kn_world.specs.declared.state.State.{State}
use Rattle.kn_world.specs.Numbers.{change, nth}
use Rattle.kn_refinement.specs.Fits.{Fits}
use Rattle.kn_refinement.specs.Leads.{Leads}
use Rattle.kn_refinement.specs.Shown.{app_at_home, app_of, client_app, client_of, client_stream, connect_stream, is_told, shown, stream_of}
use Rattle.kn_refinement.proofs.Changes.{changed_other, changed_own}
use Rattle.kn_refinement.proofs.ClientBecame.{Noted}
use Rattle.kn_refinement.proofs.ClientKept.{AllNoted, AppKept, AppsKept, ClientKept, ClientsKept, alike_changed, alike_self, alike_then, all_noted, app_as_it_was, app_then, client_as_it_was, client_then, fits_again}
use Rattle.kn_refinement.proofs.ClientStepped.{client_of_home, is_connect, number_of_home, some_same}
use Rattle.kn_refinement.proofs.Worlds.{KeysGoOn, leads_none, leads_then, worlds_same}

-- ---- an app of a client
pub record IsAt (s : State) (k c n : ℕ) (a : App) (x : Client) : Type 0 where
  pub at : nth k s.apps ≡ Some a
  pub home : a.home ≡ home.Client c n
  pub there : nth c s.clients ≡ Some x

-- one that it was told of
pub told_app : (s : State) (k c n : ℕ) (a : App) (x : Client) → IsAt s k c n a x → (b : Bool) → is_told n (Some x) ≡ b → (shown s).apps k ≡ (if b then client_app n (Some x) a else no_app)
told_app s k c n a x here b told = ap (λ o. app_of s.clients o) here.at ∙ ap (λ h. app_at_home s.clients h a) here.home ∙ ap (λ o. if is_told n o then client_app n o a else no_app) here.there ∙ ap (λ t. if t then client_app n (Some x) a else no_app) told

pub its_stream : (s : State) (c : ℕ) (x : Client) → Fits s → nth c s.clients ≡ Some x → (shown s).streams x.front ≡ client_stream c (Some x)
its_stream s c x fits there = ap (λ o. stream_of s.clients s.apps o) (fits.fronts.client c x there) ∙ ap (λ o. client_stream c o) there

pub app_stream : (s : State) (k c n : ℕ) (a : App) (x : Client) → Fits s → IsAt s k c n a x → is_told n (Some x) ≡ true → (shown s).streams ((shown s).apps k).stream ≡ client_stream c (Some x)
app_stream s k c n a x fits here told = ap (λ (w : WorldApp). (shown s).streams w.stream) (told_app s k c n a x here true told) ∙ its_stream s c x fits here.there

pub does_is : (s : State) (k c n : ℕ) (a : App) (x : Client) → Fits s → IsAt s k c n a x → is_told n (Some x) ≡ true → (e : ℕ → ClientEvent) → app_does k e (shown s) ≡ client_does c (e n) (shown s)
does_is s k c n a x fits here told e =
    ap (λ (v : WorldStream). client_does v.owner (e ((shown s).apps k).number) (shown s)) (app_stream s k c n a x fits here told)
    ∙ ap (λ (w : WorldApp). client_does c (e w.number) (shown s)) (told_app s k c n a x here true told)

pub apps_rising : (s : State) (c : ℕ) (x : Client) → Keys (shown s) → nth c s.clients ≡ Some x → IsRising (λ (y : ListedApp). y.number) x.core.apps
apps_rising s c x keys there = subst (λ o. IsRising (λ (y : ListedApp). y.number) (client_of o).apps) there (keys.clients.apps_rise c)

-- ---- what is led to by moves while apps and clients keep their numbers
pub record ClientLeads (s t : State) : Type 0 where
  pub leads : Leads s t
  pub apps : AppsKept s.apps t.apps
  pub clients : ClientsKept s.clients t.clients

pub apps_then : (s t u : State) → AppsKept s.apps t.apps → AppsKept t.apps u.apps → AppsKept s.apps u.apps
apps_then s t u first second k = alike_then AppKept app_then (nth k s.apps) (nth k t.apps) (nth k u.apps) (first k) (second k)

pub clients_then : (s t u : State) → ClientsKept s.clients t.clients → ClientsKept t.clients u.clients → ClientsKept s.clients u.clients
clients_then s t u first second c = alike_then ClientKept client_then (nth c s.clients) (nth c t.clients) (nth c u.clients) (first c) (second c)

pub apps_as_they_were : (xs : List App) → AppsKept xs xs
apps_as_they_were xs k = alike_self AppKept app_as_it_was (nth k xs)

pub clients_as_they_were : (xs : List Client) → ClientsKept xs xs
clients_as_they_were xs c = alike_self ClientKept client_as_it_was (nth c xs)

pub client_leads_then : KeysGoOn → (s t u : State) → Keys (shown s) → ClientLeads s t → (Fits t → Keys (shown t) → ClientLeads t u) → ClientLeads s u
client_leads_then go s t u keys first second =
    let next = second first.leads.fits (go (shown s) (shown t) first.leads.moves keys first.leads.made) in
    record {
      leads = leads_then go s t u keys first.leads (λ fits key. next.leads);
      apps = apps_then s t u first.apps next.apps;
      clients = clients_then s t u first.clients next.clients;
    }

pub client_leads_none : (s : State) → Fits s → ClientLeads s s
client_leads_none s fits = record { leads = leads_none s s fits refl; apps = apps_as_they_were s.apps; clients = clients_as_they_were s.clients }

-- ---- one app of a client changes
module _ (s : State) (k c n : ℕ) (a : App) (x : Client) (fits : Fits s) (here : IsAt s k c n a x) (f : App → App) (keeps : AppKept a (f a)) where
  abbrev pub changed_state : State
  changed_state = record s { apps = change f k s.apps }

  pub at_after : IsAt changed_state k c n (f a) x
  at_after = record { at = changed_own f k s.apps a here.at; home = keeps.home ∙ here.home; there = here.there }

  stream_after : (g : ℕ) → (shown changed_state).streams g ≡ (shown s).streams g
  stream_after g = by (nth g s.fronts) refl
    where
      other : (app : ℕ) → (b : App) × (nth app s.apps ≡ Some b) × (b.home ≡ home.Connect) × (b.door.number ≡ g) → (t : Bool) → (app == k) ≡ t → connect_stream app (nth app (change f k s.apps)) ≡ connect_stream app (nth app s.apps)
      other app b false e = ap (λ o. connect_stream app o) (changed_other f k app s.apps e)
      other app b true e =
          let one : a ≡ b.0 = some_same a b.0 (sym here.at ∙ ap (λ i. nth i s.apps) (sym (eqb-true app k e)) ∙ b.1) in
          let homes : home.Client c n ≡ home.Connect = sym here.home ∙ ap (λ (v : App). v.home) one ∙ b.2 in
          let flags : false ≡ true = ap is_connect homes in absurd cc

      by : (o : Option Owner) → nth g s.fronts ≡ o → stream_of s.clients (change f k s.apps) o ≡ stream_of s.clients s.apps o
      by None h = refl
      by (Some (owner.Client d)) h = refl
      by (Some (owner.App app)) h = other app (fits.fronts.of_app g app h) (app == k) refl

  pub changed_shown : (apps : ℕ → WorldApp) → app_of s.clients (Some (f a)) ≡ apps k → ((j : ℕ) → (j == k) ≡ false → (shown s).apps j ≡ apps j) → shown changed_state ≡ record (shown s) { apps = apps }
  changed_shown apps own others = worlds_same _ _ refl (λ l. refl) (λ l. refl) (λ l. refl) stream_after (λ d. refl) (λ j. by j (j == k) refl)
    where
      by : (j : ℕ) (t : Bool) → (j == k) ≡ t → app_of s.clients (nth j (change f k s.apps)) ≡ apps j
      by j false e = ap (λ o. app_of s.clients o) (changed_other f k j s.apps e) ∙ others j e
      by j true e = ap (λ i. app_of s.clients (nth i (change f k s.apps))) (eqb-true j k e) ∙ ap (λ o. app_of s.clients o) (changed_own f k s.apps a here.at) ∙ own ∙ ap apps (sym (eqb-true j k e))

  shown_of : (b : App) → b.home ≡ home.Client c n → app_of s.clients (Some b) ≡ (if is_told n (Some x) then client_app n (Some x) b else no_app)
  shown_of b is = ap (λ h. app_at_home s.clients h b) is ∙ ap (λ o. if is_told n o then client_app n o b else no_app) here.there

  -- it shows the same
  pub same_shown : client_app n (Some x) (f a) ≡ client_app n (Some x) a → shown changed_state ≡ shown s
  same_shown same = changed_shown (shown s).apps
      (shown_of (f a) (keeps.home ∙ here.home) ∙ ap (λ w. if is_told n (Some x) then w else no_app) same ∙ sym (shown_of a here.home) ∙ sym (ap (λ o. app_of s.clients o) here.at)) (λ j e. refl)

  -- one that its client was not told of
  pub untold_shown : is_told n (Some x) ≡ false → shown changed_state ≡ shown s
  untold_shown untold = changed_shown (shown s).apps
      (shown_of (f a) (keeps.home ∙ here.home) ∙ ap (λ b. if b then client_app n (Some x) (f a) else no_app) untold
      ∙ sym (ap (λ b. if b then client_app n (Some x) a else no_app) untold) ∙ sym (shown_of a here.home) ∙ sym (ap (λ o. app_of s.clients o) here.at)) (λ j e. refl)

  -- its bytes go on
  pub side_shown : (g : Side → Side) → is_told n (Some x) ≡ true → client_app n (Some x) (f a) ≡ record (client_app n (Some x) a) { side = g (client_app n (Some x) a).side } → shown changed_state ≡ app_is k g (shown s)
  side_shown g told same = changed_shown (app_is k g (shown s)).apps
      (shown_of (f a) (keeps.home ∙ here.home) ∙ ap (λ b. if b then client_app n (Some x) (f a) else no_app) told ∙ same
      ∙ sym (ap (λ t. record ((shown s).apps k) { side = side_if t g ((shown s).apps k).side }) (eqb_refl k)
      ∙ ap (λ (w : WorldApp). record w { side = g w.side }) (told_app s k c n a x here true told)))
      (λ j e. sym (ap (λ t. record ((shown s).apps j) { side = side_if t g ((shown s).apps j).side }) e))

  changed_apps : AppsKept s.apps (change f k s.apps)
  changed_apps = alike_changed AppKept f k s.apps app_as_it_was (λ b at. subst (λ v. AppKept v (f v)) (some_same a b (sym here.at ∙ at)) keeps)

  -- what fits goes on to fit
  pub change_fits : (n ≤ x.core.top_app → Noted (first_where (is_app n) x.core.apps) a.stage → Noted (first_where (is_app n) x.core.apps) (f a).stage) → Fits changed_state
  change_fits own = fits_again s s.clients (change f k s.apps) fits changed_apps (clients_as_they_were s.clients) noted
    where
      old : AllNoted s.clients s.apps
      old = all_noted s.clients s.apps fits.clients

      noted : AllNoted s.clients (change f k s.apps)
      noted j d m b y at is there within = by (j == k) refl
        where
          by : (t : Bool) → (j == k) ≡ t → Noted (first_where (is_app m) y.core.apps) b.stage
          by false e = old j d m b y (sym (changed_other f k j s.apps e) ∙ at) is there within
          by true e = subst (λ (v : App). Noted (first_where (is_app m) y.core.apps) v.stage) one
              (subst (λ i. Noted (first_where (is_app i) y.core.apps) (f a).stage) (sym number)
              (subst (λ (v : Client). Noted (first_where (is_app n) v.core.apps) (f a).stage) client (own bound (old k c n a x here.at here.home here.there bound))))
            where
              one : f a ≡ b
              one = some_same (f a) b (sym (changed_own f k s.apps a here.at) ∙ ap (λ i. nth i (change f k s.apps)) (sym (eqb-true j k e)) ∙ at)

              homes : home.Client d m ≡ home.Client c n
              homes = sym is ∙ ap (λ (v : App). v.home) (sym one) ∙ keeps.home ∙ here.home

              number : m ≡ n
              number = ap number_of_home homes

              client : x ≡ y
              client = some_same x y (sym here.there ∙ ap (λ i. nth i s.clients) (sym (ap client_of_home homes)) ∙ there)

              bound : n ≤ x.core.top_app
              bound = subst (λ i. i ≤ x.core.top_app) number (subst (λ (v : Client). m ≤ v.core.top_app) (sym client) within)

  -- one that stays as it was noted, and shows the same
  pub leads_same : (f a).stage ≡ a.stage → client_app n (Some x) (f a) ≡ client_app n (Some x) a → ClientLeads s changed_state
  leads_same stage same = record {
    leads = leads_none s changed_state (change_fits (λ within noted. subst (λ st. Noted (first_where (is_app n) x.core.apps) st) (sym stage) noted)) (sym (same_shown same));
    apps = changed_apps;
    clients = clients_as_they_were s.clients;
  }

  pub changed_kept : AppsKept s.apps (change f k s.apps)
  changed_kept = changed_apps
