-- A client takes the first packet of its stream: an app whose dial it answers gives its bytes, one that it has bytes for takes them.
use Rattle.std.proofs.Common.{◌≡◌, ◌==◌, ◌&&◌, ◌⊎◌, inl, inr, ℕ, pos, negsuc, Bool, true, false, not, cond, List, [], ◌∷◌, Option, Some, None, refl, sym, ap, ◌∙◌, subst, eqb-true}
use Rattle.std.specs.Option.{option_map}
use Rattle.std.specs.Prelude.{nat_lt, if◌then◌else◌}
use Rattle.std.proofs.lemmas.Bool.{ltb-false}
use Rattle.kn_packet.specs.declared.packet.Packet.{Packet}
use Rattle.kn_packet.specs.declared.packet.Packet.TheVariants.{CloseReq, CloseRsp, Data, DialCls, DialReq, DialRsp, Drain, Other}
use Rattle.kn_tables.specs.Lists.{IsRising, first_where}
use Rattle.kn_edge_core.specs.Client as edge
use Rattle.kn_edge_core.specs.ClientTables.{is_app, is_open_at}
use Rattle.kn_edge_core.specs.declared.app.App.{App as ListedApp}
use Rattle.kn_edge_core.specs.declared.app.AppState.{AppState}
use Rattle.kn_edge_core.specs.declared.app.AppState.TheVariants as listed
use Rattle.kn_edge_core.specs.declared.client_event.ClientEvent.TheVariants as event
use Rattle.kn_packets.specs.Keys.{Keys}
use Rattle.kn_packets.specs.Moves.{ClientTakes, after, client_does, client_stepped, no_app, out_is, takes_out}
use Rattle.kn_packets.specs.World.{WorldStream}
use Rattle.kn_packets.proofs.Fresh.{eqb_refl}
use Rattle.kn_world.specs.declared.parts.App.{App}
use Rattle.kn_world.specs.declared.parts.Client.{Client}
use Rattle.kn_world.specs.declared.parts.Home.TheVariants as home
use Rattle.kn_world.specs.declared.parts.Owner.TheVariants as owner
use Rattle.kn_world.specs.declared.parts.Stage.TheVariants as stage
use Rattle.kn_world.specs.declared.state.State.{State}
use Rattle.kn_world.specs.Apps as apps
use Rattle.kn_world.specs.AppSteps as steps
use Rattle.kn_world.specs.Clients as clients
use Rattle.kn_world.specs.ClientSteps as client
use Rattle.kn_world.specs.Handing.{settles}
use Rattle.kn_world.specs.Numbers.{change, first_of, nth, number_of, or_none, rest_of}
use Rattle.kn_world.specs.Pipes.{at_client, client_down}
use Rattle.kn_refinement.specs.Fits.{Fits, IsNotedAs}
use Rattle.kn_refinement.specs.Shown.{app_at_home, app_of, client_app, client_of, client_stream, connect_stream, is_told, noted_phase, shown}
use Rattle.kn_refinement.proofs.AppChanges.{ClientLeads, apps_rising, client_leads_none, client_leads_then, clients_then, its_stream}
use Rattle.kn_refinement.proofs.AppHands.{changed_as_was}
use Rattle.kn_refinement.proofs.AppSettles.{OfClient, settles_leads}
use Rattle.kn_refinement.proofs.AppTakes.{still_of_client, takes_freely_leads}
use Rattle.kn_refinement.proofs.Changes.{changed_other, changed_own}
use Rattle.kn_refinement.proofs.ClientBecame.{Noted}
use Rattle.kn_refinement.proofs.ClientChanges.{listless_fits, listless_kept, listless_shown}
use Rattle.kn_refinement.proofs.ClientKept.{AllNoted, AppKept, AppsKept, ClientKept, alike_back, alike_changed, alike_forth, alike_then, app_as_it_was, app_then, fits_again}
use Rattle.kn_refinement.proofs.ClientShown.{each_app, shown_as}
use Rattle.kn_refinement.proofs.ClientStepped.{AnsweredNow, connects, each, is_connect, new_apps, new_clients, other_client, own_client, some_same, step_apps_kept, step_clients_kept, step_noted, stepped_state, turns}
use Rattle.kn_refinement.proofs.ClientTurns.{may_open, may_open_by, top_stays}
use Rattle.kn_refinement.proofs.NumberLemmas.{nth_change, nth_none}
use Rattle.kn_refinement.proofs.Worlds.{KeysGoOn, apps_same, leads_one}

-- ---- the apps that a packet concerns are the client's
named_of_client : (s : State) (c : ℕ) (x : Client) (m : ℕ) → Fits s → nth c s.clients ≡ Some x → OfClient (or_none (nth m x.apps)) s
named_of_client s c x m fits there = by (nth m x.apps) refl
  where
    by : (o : Option ℕ) → nth m x.apps ≡ o → OfClient (or_none o) s
    by None h a at = absurd cc
    by (Some k) h a at = own (fits.clients.of_number c m k x there h)
      where
        own : (b : App) × (nth k s.apps ≡ Some b) × (b.home ≡ home.Client c m) → (c : ℕ) × (n : ℕ) × (a.home ≡ home.Client c n)
        own b = (c, m, ap (λ (v : App). v.home) (some_same a b.0 (sym at ∙ b.1)) ∙ b.2)

answered_number : Packet → ℕ
answered_number (DialRsp error connect_id random) = number_of random
answered_number (DialReq protocol address random) = 0
answered_number (CloseReq connect_id) = 0
answered_number (CloseRsp error connect_id) = 0
answered_number (Data connect_id error bytes) = 0
answered_number (DialCls random) = 0
answered_number Drain = 0
answered_number (Other number) = 0

answered_is : (p : Packet) (c : ℕ) (x : Client) (s : State) → nth c s.clients ≡ Some x → steps.answered_by p c s.clients ≡ or_none (nth (answered_number p) x.apps)
unfolding answered_number
answered_is (DialRsp error connect_id random) c x s there = ap (λ o. clients.app_at (number_of random) o) there
answered_is (DialReq protocol address random) c x s there = refl
answered_is (CloseReq connect_id) c x s there = refl
answered_is (CloseRsp error connect_id) c x s there = refl
answered_is (Data connect_id error bytes) c x s there = refl
answered_is (DialCls random) c x s there = refl
answered_is Drain c x s there = refl
answered_is (Other number) c x s there = refl

-- an app that it may open is the one that it answers
opens_it : (p : Packet) (n : ℕ) → may_open_by p n ≡ true → n ≡ answered_number p
unfolding answered_number
opens_it (DialRsp error connect_id (pos r)) n e = eqb-true n r e
opens_it (DialRsp error connect_id (negsuc r)) n e = absurd cc
opens_it (DialReq protocol address random) n e = absurd cc
opens_it (CloseReq connect_id) n e = absurd cc
opens_it (CloseRsp error connect_id) n e = absurd cc
opens_it (Data connect_id error bytes) n e = absurd cc
opens_it (DialCls random) n e = absurd cc
opens_it Drain n e = absurd cc
opens_it (Other number) n e = absurd cc

answered_of_client : (s : State) (p : Packet) (c : ℕ) (x : Client) → Fits s → nth c s.clients ≡ Some x → OfClient (steps.answered_by p c s.clients) s
answered_of_client s p c x fits there = subst (λ k. OfClient k s) (sym (answered_is p c x s there)) (named_of_client s c x (answered_number p) fits there)

written_of_client : (s : State) (p : Packet) (c : ℕ) (x : Client) → Fits s → nth c s.clients ≡ Some x → OfClient (steps.written_by p c s.clients) s
written_of_client s (Data connect_id error bytes) c x fits there = subst (λ o. OfClient (clients.taker_at connect_id o) s) (sym there)
    (named_of_client s c x (or_none (option_map (λ (a : ListedApp). a.number) (first_where (is_open_at connect_id) x.core.apps))) fits there)
written_of_client s (DialReq protocol address random) c x fits there = λ a at. absurd cc
written_of_client s (DialRsp error connect_id random) c x fits there = λ a at. absurd cc
written_of_client s (CloseReq connect_id) c x fits there = λ a at. absurd cc
written_of_client s (CloseRsp error connect_id) c x fits there = λ a at. absurd cc
written_of_client s (DialCls random) c x fits there = λ a at. absurd cc
written_of_client s Drain c x fits there = λ a at. absurd cc
written_of_client s (Other number) c x fits there = λ a at. absurd cc

-- the member of a number after its change
changed_here : {X : Type 0} (f : X → X) (n : ℕ) (xs : List X) → nth n (change f n xs) ≡ option_map f (nth n xs)
changed_here f n xs = nth_change f n n xs ∙ ap (λ b. cond b (option_map f (nth n xs)) (nth n xs)) (eqb_refl n)

-- ---- an app that is open from now on
opened_keeps : (o : Option AppState) (a : App) (d n : ℕ) → a.home ≡ home.Client d n → AppKept a (apps.opened_if o a)
opened_keeps None a d n is = app_as_it_was a
opened_keeps (Some listed.Dialling) a d n is = app_as_it_was a
opened_keeps (Some listed.Closing) a d n is = app_as_it_was a
opened_keeps (Some listed.Lingering) a d n is = app_as_it_was a
opened_keeps (Some listed.Open) a d n is = record { connect = λ h. let flags : true ≡ false = ap is_connect (sym h ∙ is) in absurd cc; home = refl; dial = refl; door = refl }

-- it is noted as its client knows it
noted_opened : (o : Option ListedApp) (a : App) → Noted o a.stage ⊎ (option_map (λ (z : ListedApp). z.state) o ≡ Some listed.Open) → Noted o (apps.opened_if (option_map (λ (z : ListedApp). z.state) o) a).stage
noted_opened None a (inl noted) = noted
noted_opened None a (inr now) = absurd cc
noted_opened (Some z) a noted = by z.state refl noted
  where
    -- the state stands in the test and in the note
    by : (st : AppState) → z.state ≡ st → IsNotedAs st a.stage ⊎ (Some st ≡ Some listed.Open) → IsNotedAs st (apps.opened_if (Some st) a).stage
    by listed.Open e noted = refl
    by listed.Dialling e (inl noted) = noted
    by listed.Dialling e (inr now) = absurd cc
    by listed.Closing e (inl noted) = noted
    by listed.Closing e (inr now) = absurd cc
    by listed.Lingering e (inl noted) = noted
    by listed.Lingering e (inr now) = absurd cc

-- and shows the same
shown_opened : (o : Option ListedApp) (a : App) → Noted o a.stage ⊎ ((option_map (λ (z : ListedApp). z.state) o ≡ Some listed.Open) × (a.stage ≡ stage.Dialling)) → noted_phase (apps.opened_if (option_map (λ (z : ListedApp). z.state) o) a).stage ≡ noted_phase a.stage
shown_opened None a noted = refl
shown_opened (Some z) a noted = by z.state refl noted
  where
    by : (st : AppState) → z.state ≡ st → IsNotedAs st a.stage ⊎ ((Some st ≡ Some listed.Open) × (a.stage ≡ stage.Dialling)) → noted_phase (apps.opened_if (Some st) a).stage ≡ noted_phase a.stage
    by listed.Open e (inl noted) = sym (ap noted_phase noted)
    by listed.Open e (inr now) = sym (ap noted_phase now.1)
    by listed.Dialling e noted = refl
    by listed.Closing e noted = refl
    by listed.Lingering e noted = refl

opened_app : (o : Option AppState) (n : ℕ) (y : Client) (a : App) → noted_phase (apps.opened_if o a).stage ≡ noted_phase a.stage → client_app n (Some y) (apps.opened_if o a) ≡ client_app n (Some y) a
opened_app None n y a same = refl
opened_app (Some listed.Dialling) n y a same = refl
opened_app (Some listed.Closing) n y a same = refl
opened_app (Some listed.Lingering) n y a same = refl
opened_app (Some listed.Open) n y a same = apps_same _ _ refl refl refl same refl refl

opened_home : (o : Option AppState) (a : App) → (apps.opened_if o a).home ≡ a.home
opened_home None a = refl
opened_home (Some listed.Dialling) a = refl
opened_home (Some listed.Closing) a = refl
opened_home (Some listed.Lingering) a = refl
opened_home (Some listed.Open) a = refl

-- ---- a client takes a packet, and notes whether it opened an app
module _ (t : State) (c : ℕ) (x : Client) (p : Packet) (fits : Fits t) (there : nth c t.clients ≡ Some x) (rising : IsRising (λ (y : ListedApp). y.number) x.core.apps) where
  abbrev answered : ℕ
  answered = steps.answered_by p c t.clients

  abbrev its_clients : List Client
  its_clients = new_clients t c (event.Packet p) x fits there rising tt

  abbrev its_apps : List App
  its_apps = new_apps t c (event.Packet p) x fits there rising tt

  abbrev opened_as : Option AppState
  opened_as = steps.state_of_app (nth answered its_apps) its_clients

  abbrev opened_apps : List App
  opened_apps = change (apps.opened_if opened_as) answered its_apps

  abbrev opened_state : State
  opened_state = record t { clients = its_clients; apps = opened_apps }

  steps_kept : AppsKept t.apps its_apps
  steps_kept = step_apps_kept t c (event.Packet p) x fits there rising tt

  own_home : OfClient answered t
  own_home = answered_of_client t p c x fits there

  -- the app that was answered, as the step left it
  its_home : (a : App) → nth answered its_apps ≡ Some a → (d : ℕ) × (n : ℕ) × (a.home ≡ home.Client d n)
  its_home a at = by (alike_back AppKept (nth answered t.apps) (nth answered its_apps) a (steps_kept answered) at)
    where
      by : (b : App) × (nth answered t.apps ≡ Some b) × AppKept b a → (d : ℕ) × (n : ℕ) × (a.home ≡ home.Client d n)
      by b = let h = own_home b.0 b.1 in (h.0, h.1, b.2.home ∙ h.2)

  opened_kept : AppsKept t.apps opened_apps
  opened_kept j = alike_then AppKept app_then (nth j t.apps) (nth j its_apps) (nth j opened_apps) (steps_kept j)
      (alike_changed AppKept (apps.opened_if opened_as) answered its_apps app_as_it_was (λ a at. let h = its_home a at in opened_keeps opened_as a h.0 h.1 h.2) j)

  state_is : (a : App) (d n : ℕ) (y : Client) → nth answered its_apps ≡ Some a → a.home ≡ home.Client d n → nth d its_clients ≡ Some y → opened_as ≡ option_map (λ (z : ListedApp). z.state) (first_where (is_app n) y.core.apps)
  state_is a d n y at is their = ap (λ o. steps.state_of_app o its_clients) at ∙ ap (λ h. clients.state_of h its_clients) is ∙ ap (λ o. clients.state_at n o) their

  -- an app that was answered just now is this one
  is_answered : (j n : ℕ) (a : App) → nth j its_apps ≡ Some a → a.home ≡ home.Client c n → may_open_by p n ≡ true → j ≡ answered
  is_answered j n a at is may = by (alike_back AppKept (nth j t.apps) (nth j its_apps) a (steps_kept j) at)
    where
      named : (b : App) → nth j t.apps ≡ Some b → b.home ≡ home.Client c n → (y : Client) × (nth c t.clients ≡ Some y) × (nth n y.apps ≡ Some j) → j ≡ answered
      named b was at_home y = sym (answered_is p c x t there ∙ ap (λ m. or_none (nth m x.apps)) (sym (opens_it p n may)) ∙ ap (λ (v : Client). or_none (nth n v.apps)) (some_same x y.0 (sym there ∙ y.1)) ∙ ap or_none y.2)

      by : (b : App) × (nth j t.apps ≡ Some b) × AppKept b a → j ≡ answered
      by b = named b.0 b.1 (sym b.2.home ∙ is) (fits.clients.number_of j c n b.0 b.1 (sym b.2.home ∙ is))

  opened_noted : AllNoted its_clients opened_apps
  opened_noted j d n a y at is their within = by (j == answered) refl
    where
      other : (j == answered) ≡ false → nth j its_apps ≡ Some a → Noted (first_where (is_app n) y.core.apps) a.stage ⊎ AnsweredNow t c (event.Packet p) x fits there rising tt d n a y → Noted (first_where (is_app n) y.core.apps) a.stage
      other e was (inl noted) = noted
      other e was (inr now) =
          let one : j ≡ answered = is_answered j n a was (is ∙ ap (λ i. home.Client i n) now.0) now.1 in
          let two : true ≡ false = sym (ap (λ i. i == answered) one ∙ eqb_refl answered) ∙ e in absurd cc

      -- as the step left it
      own : (b : App) → nth answered its_apps ≡ Some b → apps.opened_if opened_as b ≡ a → b.home ≡ home.Client d n → Noted (first_where (is_app n) y.core.apps) b.stage ⊎ AnsweredNow t c (event.Packet p) x fits there rising tt d n b y → Noted (first_where (is_app n) y.core.apps) a.stage
      own b was becomes at_home noted = subst (λ (v : App). Noted (first_where (is_app n) y.core.apps) v.stage) becomes
          (subst (λ o. Noted (first_where (is_app n) y.core.apps) (apps.opened_if o b).stage) (sym (state_is b d n y was at_home their)) (noted_opened (first_where (is_app n) y.core.apps) b (plain noted)))
        where
          plain : Noted (first_where (is_app n) y.core.apps) b.stage ⊎ AnsweredNow t c (event.Packet p) x fits there rising tt d n b y → Noted (first_where (is_app n) y.core.apps) b.stage ⊎ (option_map (λ (z : ListedApp). z.state) (first_where (is_app n) y.core.apps) ≡ Some listed.Open)
          plain (inl it) = inl it
          plain (inr now) = inr now.2

      before : (o : Option App) → nth answered its_apps ≡ o → option_map (apps.opened_if opened_as) o ≡ Some a → Noted (first_where (is_app n) y.core.apps) a.stage
      before None was becomes = absurd cc
      before (Some b) was becomes =
          let one : apps.opened_if opened_as b ≡ a = some_same (apps.opened_if opened_as b) a becomes in
          let at_home : b.home ≡ home.Client d n = sym (opened_home opened_as b) ∙ ap (λ (v : App). v.home) one ∙ is in
          own b was one at_home (step_noted t c (event.Packet p) x fits there rising tt answered d n b y was at_home their within)

      by : (b : Bool) → (j == answered) ≡ b → Noted (first_where (is_app n) y.core.apps) a.stage
      by false e = let was : nth j its_apps ≡ Some a = sym (changed_other (apps.opened_if opened_as) answered j its_apps e) ∙ at in
          other e was (step_noted t c (event.Packet p) x fits there rising tt j d n a y was is their within)
      by true e = before (nth answered its_apps) refl (sym (changed_here (apps.opened_if opened_as) answered its_apps) ∙ ap (λ i. nth i opened_apps) (sym (eqb-true j answered e)) ∙ at)

  pub opened_fits : Fits opened_state
  opened_fits = fits_again t its_clients opened_apps fits opened_kept (step_clients_kept t c (event.Packet p) x fits there rising tt) opened_noted

  -- what is shown is what the step leaves
  same_apps : (j : ℕ) → app_of its_clients (nth j opened_apps) ≡ app_of its_clients (nth j its_apps)
  same_apps j = by (j == answered) refl
    where
      told : (d n : ℕ) (a : App) (y : Client) → nth answered its_apps ≡ Some a → a.home ≡ home.Client d n → nth d its_clients ≡ Some y → (b : Bool) → nat_lt y.core.top_app n ≡ b
          → (if not b then client_app n (Some y) (apps.opened_if opened_as a) else no_app) ≡ (if not b then client_app n (Some y) a else no_app)
      told d n a y at is their true e = refl
      told d n a y at is their false e = opened_app opened_as n y a (ap (λ o. noted_phase (apps.opened_if o a).stage) (state_is a d n y at is their)
          ∙ shown_opened (first_where (is_app n) y.core.apps) a (plain (step_noted t c (event.Packet p) x fits there rising tt answered d n a y at is their (ltb-false y.core.top_app n e))))
        where
          plain : Noted (first_where (is_app n) y.core.apps) a.stage ⊎ AnsweredNow t c (event.Packet p) x fits there rising tt d n a y → Noted (first_where (is_app n) y.core.apps) a.stage ⊎ ((option_map (λ (z : ListedApp). z.state) (first_where (is_app n) y.core.apps) ≡ Some listed.Open) × (a.stage ≡ stage.Dialling))
          plain (inl it) = inl it
          plain (inr now) = inr (now.2, now.3)

      own : (a : App) → nth answered its_apps ≡ Some a → (h : (d : ℕ) × (n : ℕ) × (a.home ≡ home.Client d n)) → (y : Client) × (nth h.0 its_clients ≡ Some y) → app_of its_clients (Some (apps.opened_if opened_as a)) ≡ app_of its_clients (Some a)
      own a at h y = ap (λ i. app_at_home its_clients i (apps.opened_if opened_as a)) (opened_home opened_as a ∙ h.2) ∙ ap (λ o. if is_told h.1 o then client_app h.1 o (apps.opened_if opened_as a) else no_app) y.1
          ∙ told h.0 h.1 a y.0 at h.2 y.1 (nat_lt y.0.core.top_app h.1) refl
          ∙ sym (ap (λ i. app_at_home its_clients i a) h.2 ∙ ap (λ o. if is_told h.1 o then client_app h.1 o a else no_app) y.1)

      -- its client is there
      client_there : (a : App) → nth answered its_apps ≡ Some a → (d n : ℕ) → a.home ≡ home.Client d n → (y : Client) × (nth d its_clients ≡ Some y)
      client_there a at d n is = old (alike_back AppKept (nth answered t.apps) (nth answered its_apps) a (steps_kept answered) at)
        where
          forth : (w : Client) × (nth d t.clients ≡ Some w) × (nth n w.apps ≡ Some answered) → (y : Client) × (nth d its_clients ≡ Some y)
          forth w = let y = alike_forth ClientKept (nth d t.clients) (nth d its_clients) w.0 (step_clients_kept t c (event.Packet p) x fits there rising tt d) w.1 in (y.0, y.1)

          old : (b : App) × (nth answered t.apps ≡ Some b) × AppKept b a → (y : Client) × (nth d its_clients ≡ Some y)
          old b = forth (fits.clients.number_of answered d n b.0 b.1 (sym b.2.home ∙ is))

      before : (o : Option App) → nth answered its_apps ≡ o → app_of its_clients (option_map (apps.opened_if opened_as) o) ≡ app_of its_clients o
      before None at = refl
      before (Some a) at = let h = its_home a at in own a at h (client_there a at h.0 h.1 h.2)

      by : (b : Bool) → (j == answered) ≡ b → app_of its_clients (nth j opened_apps) ≡ app_of its_clients (nth j its_apps)
      by false e = ap (λ o. app_of its_clients o) (changed_other (apps.opened_if opened_as) answered j its_apps e)
      by true e = ap (λ i. app_of its_clients (nth i opened_apps)) (eqb-true j answered e) ∙ ap (λ o. app_of its_clients o) (changed_here (apps.opened_if opened_as) answered its_apps)
          ∙ before (nth answered its_apps) refl ∙ ap (λ i. app_of its_clients (nth i its_apps)) (sym (eqb-true j answered e))

  same_streams : (f app : ℕ) → nth f t.fronts ≡ Some (owner.App app) → connect_stream app (nth app opened_apps) ≡ connect_stream app (nth app t.apps)
  same_streams f app h = by (app == answered) refl (fits.fronts.of_app f app h)
    where
      by : (b : Bool) → (app == answered) ≡ b → (a : App) × (nth app t.apps ≡ Some a) × (a.home ≡ home.Connect) × (a.door.number ≡ f) → connect_stream app (nth app opened_apps) ≡ connect_stream app (nth app t.apps)
      by false e a = ap (λ o. connect_stream app o) (changed_other (apps.opened_if opened_as) answered app its_apps e) ∙ connects t c (event.Packet p) x fits there rising tt f app h
      by true e a = let its = own_home a.0 (ap (λ i. nth i t.apps) (sym (eqb-true app answered e)) ∙ a.1) in let flags : true ≡ false = ap is_connect (sym a.2 ∙ its.2) in absurd cc

  pub opened_shown : shown opened_state ≡ client_does c (event.Packet p) (shown t)
  opened_shown =
      shown_as t c x there (edge.step x.core (event.Packet p)) false x.apps its_clients opened_apps (own_client t c (event.Packet p) x fits there rising tt) (other_client t c (event.Packet p) x fits there rising tt) same_streams (shown t).apps
      (λ k. same_apps k ∙ each_app t c x there (edge.step x.core (event.Packet p)) false x.apps its_clients its_apps (own_client t c (event.Packet p) x fits there rising tt) (other_client t c (event.Packet p) x fits there rising tt)
      (connects t c (event.Packet p) x fits there rising tt) fits.clients fits.fronts k (each t c (event.Packet p) x fits there rising tt k) (may_open (event.Packet p), turns t c (event.Packet p) x fits there rising tt) (top_stays x.core (event.Packet p) tt))
      ∙ sym (ap (λ o. client_stepped c false (edge.step (client_of o) (event.Packet p)) (shown t)) there)

-- ---- the first packet of its stream
module _ (go : KeysGoOn) (s : State) (c : ℕ) (fits : Fits s) (keys : Keys (shown s)) where
  module _ (x : Client) (there : nth c s.clients ≡ Some x) (p : Packet) (rest : List Packet) (first : x.down ≡ p ∷ rest) where
    abbrev rest_state : State
    rest_state = record s { clients = change clients.rest_down c s.clients }

    keeps_rest : ClientKept x (clients.rest_down x)
    keeps_rest = record { front = refl; names = refl; top = refl; listed = λ n z h. (z, h); up_dry = λ h. h; down_dry = λ was gone. ap rest_of (was gone); there = λ h. h }

    fits_rest : Fits rest_state
    fits_rest = listless_fits s c x fits there clients.rest_down (λ y. refl) (λ y. refl) keeps_rest

    shown_rest : shown rest_state ≡ out_is x.front rest (shown s)
    shown_rest = listless_shown s c x fits there clients.rest_down (λ y. refl) (λ y. refl) keeps_rest (out_is x.front rest (shown s)).streams
        (ap (λ ps. record (client_stream c (Some x)) { down = rest_of ps }) first
        ∙ sym (ap (λ b. record ((shown s).streams x.front) { down = (if b then rest else ((shown s).streams x.front).down) }) (eqb_refl x.front) ∙ ap (λ (w : WorldStream). record w { down = rest }) (its_stream s c x fits there)))
        (λ g off. sym (ap (λ b. record ((shown s).streams g) { down = (if b then rest else ((shown s).streams g).down) }) off))

    there_rest : nth c rest_state.clients ≡ Some (clients.rest_down x)
    there_rest = changed_own clients.rest_down c s.clients x there

    rising_rest : IsRising (λ (y : ListedApp). y.number) x.core.apps
    rising_rest = apps_rising s c x keys there

    abbrev taken_state : State
    taken_state = opened_state rest_state c (clients.rest_down x) p fits_rest there_rest rising_rest

    -- it has its stream, since a packet is on its way to it
    has_stream : x.at_client ≡ true
    has_stream = by x.at_client refl
      where
        by : (b : Bool) → x.at_client ≡ b → b ≡ true
        by true e = refl
        by false e = let none : [] ≡ p ∷ rest = sym (fits.clients.down_dry c x there e) ∙ first in absurd cc

    taken_made : after (ClientTakes x.front) (shown s) ≡ shown taken_state
    taken_made = ap (λ (w : WorldStream). takes_out x.front w.down (shown s)) (its_stream s c x fits there) ∙ ap (λ ps. takes_out x.front ps (shown s)) first
        ∙ ap (λ (w : WorldStream). client_does w.owner (event.Packet p) (out_is x.front rest (shown s))) (its_stream s c x fits there)
        ∙ ap (λ w. client_does c (event.Packet p) w) (sym shown_rest)
        ∙ sym (opened_shown rest_state c (clients.rest_down x) p fits_rest there_rest rising_rest)

    taken_leads : ClientLeads s taken_state
    taken_leads = record {
      leads = leads_one s taken_state (ClientTakes x.front) (opened_fits rest_state c (clients.rest_down x) p fits_rest there_rest rising_rest)
          (ap (λ (w : WorldStream). w.client && not w.connect) (its_stream s c x fits there) ∙ ap (λ b. b && true) has_stream) taken_made;
      apps = opened_kept rest_state c (clients.rest_down x) p fits_rest there_rest rising_rest;
      clients = clients_then s rest_state taken_state (listless_kept s c x fits there clients.rest_down (λ y. refl) (λ y. refl) keeps_rest)
          (step_clients_kept rest_state c (event.Packet p) (clients.rest_down x) fits_rest there_rest rising_rest tt);
    }

    -- the packet, and the note that an app is open
    pub one_leads : ClientLeads s ((λ (v : State). record v { apps = change (apps.opened_if (steps.state_of (steps.answered_by p c rest_state.clients) v)) (steps.answered_by p c rest_state.clients) v.apps }) (client.step c (event.Packet p) rest_state))
    one_leads = subst (λ t. ClientLeads s ((λ (v : State). record v { apps = change (apps.opened_if (steps.state_of (steps.answered_by p c rest_state.clients) v)) (steps.answered_by p c rest_state.clients) v.apps }) t))
        (sym (stepped_state rest_state c (event.Packet p) (clients.rest_down x) fits_rest there_rest rising_rest tt)) taken_leads

    abbrev answering : ℕ
    answering = steps.answered_by p c rest_state.clients

    abbrev writing : ℕ
    writing = steps.written_by p c rest_state.clients

    takes_is : steps.takes_packet p c rest_state ≡ steps.takes_freely writing (settles answering taken_state)
    takes_is = ap (λ v. steps.takes_freely writing (steps.opens answering v)) (stepped_state rest_state c (event.Packet p) (clients.rest_down x) fits_rest there_rest rising_rest tt)

    settled_leads : ClientLeads s (settles answering taken_state)
    settled_leads = client_leads_then go s taken_state (settles answering taken_state) keys taken_leads
        (λ fit key. settles_leads go taken_state answering fit key (still_of_client rest_state taken_state answering (opened_kept rest_state c (clients.rest_down x) p fits_rest there_rest rising_rest) (answered_of_client rest_state p c (clients.rest_down x) fits_rest there_rest)))

    packet_leads : ClientLeads s (steps.takes_packet p c rest_state)
    packet_leads = subst (λ v. ClientLeads s v) (sym takes_is)
        (client_leads_then go s (settles answering taken_state) (steps.takes_freely writing (settles answering taken_state)) keys settled_leads
        (λ fit key. takes_freely_leads (settles answering taken_state) writing fit key (still_of_client rest_state (settles answering taken_state) writing settled_leads.apps (written_of_client rest_state p c (clients.rest_down x) fits_rest there_rest))))

  pub client_down_leads : ClientLeads s (client_down c s)
  client_down_leads = by (nth c s.clients) refl
    where
      by_list : (x : Client) → nth c s.clients ≡ Some x → (ps : List Packet) → x.down ≡ ps → ClientLeads s (at_client (first_of ps) c (record s { clients = change clients.rest_down c s.clients }))
      by_list x there [] first = subst (λ xs. ClientLeads s (record s { clients = xs })) (sym (changed_as_was clients.rest_down c s.clients x there (ap (λ ps. record x { down = rest_of ps }) first ∙ ap (λ ps. record x { down = ps }) (sym first)))) (client_leads_none s fits)
      by_list x there (p ∷ rest) first = packet_leads x there p rest first

      by : (o : Option Client) → nth c s.clients ≡ o → ClientLeads s (client_down c s)
      by None none = subst (λ t. ClientLeads s t) (sym (ap (λ o. at_client (clients.first_down o) c (record s { clients = change clients.rest_down c s.clients })) none ∙ ap (λ xs. record s { clients = xs }) (nth_none clients.rest_down c s.clients none))) (client_leads_none s fits)
      by (Some x) there = subst (λ t. ClientLeads s t) (sym (ap (λ o. at_client (clients.first_down o) c (record s { clients = change clients.rest_down c s.clients })) there)) (by_list x there x.down refl)
