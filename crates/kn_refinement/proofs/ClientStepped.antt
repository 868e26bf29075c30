-- A step of a client: it is that of the packet world, and what fits goes on to fit, but for an app whose dial was answered just now.
use Rattle.std.proofs.Common.{◌≡◌, ◌==◌, ◌&&◌, ◌≤◌, ◌⊎◌, inl, inr, ℕ, Bool, true, false, cond, List, Option, Some, None, refl, sym, ap, ◌∙◌, subst, eqb-true}
use Rattle.std.specs.Option.{option_map}
use Rattle.kn_tables.specs.Lists.{IsRising, first_where}
use Rattle.kn_server_core.proofs.TunnelTables.{false_unless}
use Rattle.kn_edge_core.specs.Client as edge
use Rattle.kn_edge_core.specs.ClientTables.{is_app}
use Rattle.kn_edge_core.specs.Steps.{ClientStep}
use Rattle.kn_edge_core.specs.declared.app.App.{App as ListedApp}
use Rattle.kn_edge_core.specs.declared.app.AppState.TheVariants as listed
use Rattle.kn_edge_core.specs.declared.client_event.ClientEvent.{ClientEvent}
use Rattle.kn_packets.specs.Moves.{by_itself, client_does, client_stepped}
use Rattle.kn_packets.specs.Outputs.{from_client, queued}
use Rattle.kn_packets.proofs.Fresh.{eqb_refl}
use Rattle.kn_world.specs.declared.parts.App.{App}
use Rattle.kn_world.specs.declared.parts.Client.{Client}
use Rattle.kn_world.specs.declared.parts.Home.{Home}
use Rattle.kn_world.specs.declared.parts.Home.TheVariants as home
use Rattle.kn_world.specs.declared.parts.Owner.TheVariants as owner
use Rattle.kn_world.specs.declared.parts.Stage.TheVariants as stage
use Rattle.kn_world.specs.declared.state.State.{State}
use Rattle.kn_world.specs.Clients as clients
use Rattle.kn_world.specs.ClientSteps.{step}
use Rattle.kn_world.specs.Numbers.{change, nth, or_none}
use Rattle.kn_refinement.specs.Fits.{ClientFits, Fits}
use Rattle.kn_refinement.specs.Shown.{client_of, connect_stream, shown}
use Rattle.kn_refinement.proofs.Changes.{changed_other, changed_own}
use Rattle.kn_refinement.proofs.ClientBecame.{Noted, app_became, noted_after}
use Rattle.kn_refinement.proofs.ClientGiven.{Names, app_after, apps_after, client_after, is_named, nth_after, step_is, stepped_client, touched, touched_at}
use Rattle.kn_refinement.proofs.ClientKept.{Alike, AllNoted, AppKept, AppsKept, ClientKept, ClientsKept, alike_changed, alike_mapped, all_noted, app_as_it_was, client_as_it_was, fits_again}
use Rattle.kn_refinement.proofs.ClientShown.{each_app, queued_not, shown_as}
use Rattle.kn_refinement.proofs.ClientTurns.{IsOfApps, Turns, core_turns, ended_in, may_open, top_stays}

-- ---- the names of a client are those of its apps
same_bools : (a b : Bool) → (a ≡ true → b ≡ true) → (b ≡ true → a ≡ true) → a ≡ b
same_bools true b f g = sym (f refl)
same_bools false true f g = g refl
same_bools false false f g = refl

both : (a b : Bool) → a ≡ true → b ≡ true → (a && b) ≡ true
both true b e f = f
both false b e f = absurd cc

pub some_same : {X : Type 0} (x y : X) → Some x ≡ Some y → x ≡ y
some_same x y e = cc

first_of_both : (a b : Bool) → (a && b) ≡ true → a ≡ true
first_of_both true b e = refl
first_of_both false b e = absurd cc

second_of_both : (a b : Bool) → (a && b) ≡ true → b ≡ true
second_of_both true b e = e
second_of_both false b e = absurd cc

abbrev pub client_of_home : (h : Home) → ℕ
client_of_home (home.Client d n) = d
client_of_home home.Connect = 0

abbrev pub number_of_home : (h : Home) → ℕ
number_of_home (home.Client d n) = n
number_of_home home.Connect = 0

abbrev pub is_connect : (h : Home) → Bool
is_connect (home.Client d n) = false
is_connect home.Connect = true

pub names_fit : (s : State) (c : ℕ) (x : Client) → ClientFits s.clients s.apps → nth c s.clients ≡ Some x → Names c x.apps s.apps
names_fit s c x fits there k m a at = here (nth m x.apps) refl a.home refl
  where
    not_zero : (k == 0) ≡ false
    not_zero = false_unless (k == 0) (λ e. none (eqb-true k 0 e))
      where
        none : k ≡ 0 → ⊥
        none e = let h : None ≡ Some a = sym (ap (λ i. nth i s.apps) e) ∙ at in cc

    -- an app that it names is its own
    owned : (j d n : ℕ) → nth m x.apps ≡ Some j → a.home ≡ home.Client d n → (b : App) × (nth j s.apps ≡ Some b) × (b.home ≡ home.Client c m) → (k == j) ≡ true → ((d == c) && (n == m)) ≡ true
    owned j d n named is b e =
        let same : Some a ≡ Some b.0 = sym at ∙ ap (λ i. nth i s.apps) (eqb-true k j e) ∙ b.1 in
        let one : a ≡ b.0 = cc in
        let homes : home.Client d n ≡ home.Client c m = sym is ∙ ap (λ (v : App). v.home) one ∙ b.2 in
        both (d == c) (n == m) (ap (λ i. i == c) (ap client_of_home homes) ∙ eqb_refl c) (ap (λ i. i == m) (ap number_of_home homes) ∙ eqb_refl m)

    unowned : (j : ℕ) → a.home ≡ home.Connect → (b : App) × (nth j s.apps ≡ Some b) × (b.home ≡ home.Client c m) → (k == j) ≡ false
    unowned j is b = false_unless (k == j) (λ e.
        let same : Some a ≡ Some b.0 = sym at ∙ ap (λ i. nth i s.apps) (eqb-true k j e) ∙ b.1 in
        let one : a ≡ b.0 = cc in
        let homes : home.Connect ≡ home.Client c m = sym is ∙ ap (λ (v : App). v.home) one ∙ b.2 in
        let flags : true ≡ false = ap is_connect homes in cc)

    -- its own app is named so
    named_so : (d n : ℕ) → ((d == c) && (n == m)) ≡ true → (y : Client) × (nth d s.clients ≡ Some y) × (nth n y.apps ≡ Some k) → nth m x.apps ≡ Some k
    named_so d n e y =
        let same : Some x ≡ Some y.0 = sym there ∙ ap (λ i. nth i s.clients) (sym (eqb-true d c (first_of_both (d == c) (n == m) e))) ∙ y.1 in
        let one : x ≡ y.0 = cc in
        ap (λ (v : Client). nth m v.apps) one ∙ ap (λ i. nth i y.0.apps) (sym (eqb-true n m (second_of_both (d == c) (n == m) e))) ∙ y.2

    same_numbers : (j : ℕ) → Some j ≡ Some k → (k == j) ≡ true
    same_numbers j e = let one : j ≡ k = cc in ap (λ i. k == i) one ∙ eqb_refl k

    nobody : (d n : ℕ) → a.home ≡ home.Client d n → nth m x.apps ≡ None → ((d == c) && (n == m)) ≡ true → ⊥
    nobody d n is none e = let two : None ≡ Some k = sym none ∙ named_so d n e (fits.number_of k d n a at is) in cc

    here : (o : Option ℕ) → nth m x.apps ≡ o → (h : Home) → a.home ≡ h → (k == or_none o) ≡ is_named c m h
    here None named (home.Client d n) is = not_zero ∙ sym (false_unless ((d == c) && (n == m)) (nobody d n is named))
    here None named home.Connect is = not_zero
    here (Some j) named (home.Client d n) is = same_bools (k == j) ((d == c) && (n == m)) (owned j d n named is (fits.of_number c m j x there named))
        (λ e. same_numbers j (sym named ∙ named_so d n e (fits.number_of k d n a at is)))
    here (Some j) named home.Connect is = unowned j is (fits.of_number c m j x there named)

-- ---- what a step leaves
module _ (s : State) (c : ℕ) (e : ClientEvent) (x : Client) (fits : Fits s) (there : nth c s.clients ≡ Some x) (rising : IsRising (λ (y : ListedApp). y.number) x.core.apps) (of_apps : IsOfApps e) where
  abbrev pub core_step : ClientStep
  core_step = edge.step x.core e

  abbrev pub new_clients : List Client
  new_clients = change (λ y. client_after core_step.outs (clients.stepped e y)) c s.clients

  abbrev pub new_apps : List App
  new_apps = apps_after core_step.outs x.apps s.apps

  pub stepped_state : step c e s ≡ record s { clients = new_clients; apps = new_apps }
  stepped_state = step_is c e x s there

  pub own_client : nth c new_clients ≡ Some (stepped_client core_step x)
  own_client = changed_own (λ y. client_after core_step.outs (clients.stepped e y)) c s.clients x there

  pub other_client : (l : ℕ) → (l == c) ≡ false → nth l new_clients ≡ nth l s.clients
  other_client l h = changed_other (λ y. client_after core_step.outs (clients.stepped e y)) c l s.clients h

  pub each : (k : ℕ) → nth k new_apps ≡ option_map (touched c core_step.outs) (nth k s.apps)
  each k = nth_after core_step.outs c x.apps s.apps k (names_fit s c x fits.clients there)

  pub turns : (m : ℕ) → Turns (by_itself e) (may_open e m) (first_where (is_app m) x.core.apps) (ended_in m core_step.outs) (first_where (is_app m) core_step.state.apps)
  turns = core_turns x.core e rising of_apps

  pub connects : (f app : ℕ) → nth f s.fronts ≡ Some (owner.App app) → connect_stream app (nth app new_apps) ≡ connect_stream app (nth app s.apps)
  connects f app h = by (fits.fronts.of_app f app h)
    where
      by : (a : App) × (nth app s.apps ≡ Some a) × (a.home ≡ home.Connect) × (a.door.number ≡ f) → connect_stream app (nth app new_apps) ≡ connect_stream app (nth app s.apps)
      by a = ap (λ o. connect_stream app o) (each app ∙ ap (λ o. option_map (touched c core_step.outs) o) a.1 ∙ ap (λ h. Some (touched_at h c core_step.outs a.0)) a.2 ∙ sym a.1)

  pub step_shown : shown (step c e s) ≡ client_does c e (shown s)
  step_shown = ap shown stepped_state
      ∙ shown_as s c x there core_step (by_itself e) x.apps new_clients new_apps own_client other_client connects (shown s).apps
      (λ k. each_app s c x there core_step (by_itself e) x.apps new_clients new_apps own_client other_client connects fits.clients fits.fronts k (each k) (may_open e, turns) (top_stays x.core e of_apps))
      ∙ sym (ap (λ o. client_stepped c (by_itself e) (edge.step (client_of o) e) (shown s)) there)

  -- ---- what is kept
  listed_before : (n : ℕ) (z : ListedApp) → first_where (is_app n) core_step.state.apps ≡ Some z → (w : ListedApp) × (first_where (is_app n) x.core.apps ≡ Some w)
  listed_before n z h = by (first_where (is_app n) x.core.apps) refl (subst (λ o. Turns (by_itself e) (may_open e n) (first_where (is_app n) x.core.apps) (ended_in n core_step.outs) o) h (turns n))
    where
      by : (o : Option ListedApp) → first_where (is_app n) x.core.apps ≡ o → Turns (by_itself e) (may_open e n) o (ended_in n core_step.outs) (Some z) → (w : ListedApp) × (first_where (is_app n) x.core.apps ≡ Some w)
      by None i turn = absurd turn
      by (Some w) i turn = (w, i)

  client_keeps : ClientKept x (stepped_client core_step x)
  client_keeps = record {
    front = refl;
    names = refl;
    top = top_stays x.core e of_apps;
    listed = listed_before;
    up_dry = λ was_dry gone. ap (λ b. queued (b && x.at_client) x.up (from_client core_step.outs)) gone ∙ queued_not x.up (from_client core_step.outs) ∙ was_dry gone;
    down_dry = λ h. h;
    there = λ h. h;
  }

  same_client : (y : Client) → nth c s.clients ≡ Some y → ClientKept y (client_after core_step.outs (clients.stepped e y))
  same_client y h = let one : x ≡ y = cc in subst (λ v. ClientKept v (client_after core_step.outs (clients.stepped e v))) one client_keeps

  pub step_clients_kept : ClientsKept s.clients new_clients
  step_clients_kept = alike_changed ClientKept (λ y. client_after core_step.outs (clients.stepped e y)) c s.clients client_as_it_was same_client

  app_keeps : (h : Home) (a : App) → a.home ≡ h → AppKept a (touched_at h c core_step.outs a)
  app_keeps home.Connect a is = app_as_it_was a
  app_keeps (home.Client d m) a is = by (d == c)
    where
      by : (b : Bool) → AppKept a (cond b (app_after m core_step.outs a) a)
      by false = app_as_it_was a
      by true = let became = app_became m core_step.outs a in
          record { connect = λ h. let flags : true ≡ false = ap is_connect (sym h ∙ is) in absurd cc; home = became.home; dial = became.dial; door = became.door }

  pub step_apps_kept : AppsKept s.apps new_apps
  step_apps_kept k = subst (λ o. Alike AppKept (nth k s.apps) o) (sym (each k)) (alike_mapped AppKept (touched c core_step.outs) (nth k s.apps) (λ a at. app_keeps a.home a refl))

  pub step_keeps_apps : AppsKept s.apps (step c e s).apps
  step_keeps_apps = subst (λ (t : State). AppsKept s.apps t.apps) (sym stepped_state) step_apps_kept

  pub step_keeps_clients : ClientsKept s.clients (step c e s).clients
  step_keeps_clients = subst (λ (t : State). ClientsKept s.clients t.clients) (sym stepped_state) step_clients_kept

  pub its_client : nth c (step c e s).clients ≡ Some (stepped_client core_step x)
  its_client = ap (λ (t : State). nth c t.clients) stepped_state ∙ own_client

  -- ---- what is noted of each app
  abbrev pub AnsweredNow : ℕ → ℕ → App → Client → Type 0
  AnsweredNow d n a y = (d ≡ c) × (may_open e n ≡ true) × (option_map (λ (z : ListedApp). z.state) (first_where (is_app n) y.core.apps) ≡ Some listed.Open) × (a.stage ≡ stage.Dialling)

  own_noted : (n : ℕ) (a : App) → Noted (first_where (is_app n) x.core.apps) a.stage
      → Noted (first_where (is_app n) core_step.state.apps) (app_after n core_step.outs a).stage ⊎ ((may_open e n ≡ true) × (option_map (λ (z : ListedApp). z.state) (first_where (is_app n) core_step.state.apps) ≡ Some listed.Open) × ((app_after n core_step.outs a).stage ≡ stage.Dialling))
  own_noted n a noted = rw (app_became n core_step.outs a).stage
      (noted_after (by_itself e) (may_open e n) (first_where (is_app n) x.core.apps) (ended_in n core_step.outs) (first_where (is_app n) core_step.state.apps) a.stage (turns n) noted)

  pub step_noted : (k d n : ℕ) (a : App) (y : Client) → nth k new_apps ≡ Some a → a.home ≡ home.Client d n → nth d new_clients ≡ Some y → n ≤ y.core.top_app → Noted (first_where (is_app n) y.core.apps) a.stage ⊎ AnsweredNow d n a y
  step_noted k d n a y at is their within = here (nth k s.apps) refl (sym (each k) ∙ at)
    where
      same_home : (b : App) → (touched c core_step.outs b).home ≡ b.home
      same_home b = (app_keeps b.home b refl).home

      mine : (b : App) → nth k s.apps ≡ Some b → b.home ≡ home.Client d n → touched c core_step.outs b ≡ a → (t : Bool) → (d == c) ≡ t → Noted (first_where (is_app n) y.core.apps) a.stage ⊎ AnsweredNow d n a y
      mine b was at_home becomes false off =
          let same : b ≡ a = sym (ap (λ h. touched_at h c core_step.outs b) at_home ∙ ap (λ t. cond t (app_after n core_step.outs b) b) off) ∙ becomes in
          inl (subst (λ (v : App). Noted (first_where (is_app n) y.core.apps) v.stage) same (all_noted s.clients s.apps fits.clients k d n b y was at_home (sym (other_client d off) ∙ their) within))
      mine b was at_home becomes true on = by (own_noted n b (all_noted s.clients s.apps fits.clients k c n b x was (at_home ∙ ap (λ i. home.Client i n) own) there told))
        where
          own : d ≡ c
          own = eqb-true d c on

          it_is : Some y ≡ Some (stepped_client core_step x)
          it_is = sym their ∙ ap (λ i. nth i new_clients) own ∙ own_client

          core_is : y ≡ stepped_client core_step x
          core_is = some_same y (stepped_client core_step x) it_is

          told : n ≤ x.core.top_app
          told = subst (λ m. n ≤ m) (ap (λ (v : Client). v.core.top_app) core_is ∙ top_stays x.core e of_apps) within

          becomes_it : app_after n core_step.outs b ≡ a
          becomes_it = sym (ap (λ h. touched_at h c core_step.outs b) at_home ∙ ap (λ t. cond t (app_after n core_step.outs b) b) on) ∙ becomes

          by : Noted (first_where (is_app n) core_step.state.apps) (app_after n core_step.outs b).stage ⊎ ((may_open e n ≡ true) × (option_map (λ (z : ListedApp). z.state) (first_where (is_app n) core_step.state.apps) ≡ Some listed.Open) × ((app_after n core_step.outs b).stage ≡ stage.Dialling))
              → Noted (first_where (is_app n) y.core.apps) a.stage ⊎ AnsweredNow d n a y
          by (inl noted) = inl (subst (λ (v : App). Noted (first_where (is_app n) y.core.apps) v.stage) becomes_it (subst (λ (v : Client). Noted (first_where (is_app n) v.core.apps) (app_after n core_step.outs b).stage) (sym core_is) noted))
          by (inr opened) = inr (own, opened.0, ap (λ (v : Client). option_map (λ (z : ListedApp). z.state) (first_where (is_app n) v.core.apps)) core_is ∙ opened.1, ap (λ (v : App). v.stage) (sym becomes_it) ∙ opened.2)

      here : (o : Option App) → nth k s.apps ≡ o → option_map (touched c core_step.outs) o ≡ Some a → Noted (first_where (is_app n) y.core.apps) a.stage ⊎ AnsweredNow d n a y
      here None was becomes = absurd cc
      here (Some b) was becomes = let one : touched c core_step.outs b ≡ a = some_same (touched c core_step.outs b) a becomes in mine b was (sym (same_home b) ∙ ap (λ (v : App). v.home) one ∙ is) one (d == c) refl

  -- where no dial was answered, all fits again
  pub step_fits : ((n : ℕ) → may_open e n ≡ false) → Fits (step c e s)
  step_fits none = subst Fits (sym stepped_state) (fits_again s new_clients new_apps fits step_apps_kept step_clients_kept noted)
    where
      noted : AllNoted new_clients new_apps
      noted k d n a y at is their within = by (step_noted k d n a y at is their within)
        where
          by : Noted (first_where (is_app n) y.core.apps) a.stage ⊎ AnsweredNow d n a y → Noted (first_where (is_app n) y.core.apps) a.stage
          by (inl it) = it
          by (inr now) = let two : true ≡ false = sym now.1 ∙ none n in absurd cc
