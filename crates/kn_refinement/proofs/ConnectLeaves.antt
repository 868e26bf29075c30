-- An app by CONNECT leaves with its end, and the server loses its front.
use Rattle.std.proofs.Common.{◌≡◌, ◌==◌, ◌&&◌, ◌||◌, inl, inr, ℕ, suc, Bool, true, false, not, cond, [], map, Option, Some, None, refl, sym, ap, ◌∙◌, eqb-true}
use Rattle.std.proofs.Math.Dec.{eqb-zero-suc}
use Rattle.std.proofs.lemmas.Bool.{eq-eqb}
use Rattle.kn_server_core.specs.declared.event.ServerEvent.TheVariants.{FrontLost}
use Rattle.kn_tunnel.specs.Kinds.{is_gone, left_phase}
use Rattle.kn_tunnel.specs.Tunnel.{Gone}
use Rattle.kn_packets.specs.Keys.{Keys}
use Rattle.kn_packets.specs.Moves.{May, connect_leaves, front_is, in_is, no_app, out_is, server_does}
use Rattle.kn_packets.specs.Moves.Move.{ConnectLeaves, DropsIn, ServerLosesFront}
use Rattle.kn_packets.specs.World.{WorldApp, WorldStream}
use Rattle.kn_world.specs.declared.parts.App.{App}
use Rattle.kn_world.specs.declared.parts.Client.{Client}
use Rattle.kn_world.specs.declared.parts.Home.{Home}
use Rattle.kn_world.specs.declared.parts.Home.TheVariants as home
use Rattle.kn_world.specs.declared.parts.Owner.TheVariants as owner
use Rattle.kn_world.specs.declared.parts.Stage.{Stage}
use Rattle.kn_world.specs.declared.parts.Stage.TheVariants as stage
use Rattle.kn_world.specs.declared.state.State.{State}
use Rattle.kn_world.specs.Apps as apps
use Rattle.kn_world.specs.Numbers.{change, nth}
use Rattle.kn_world.specs.ServerSteps.{step}
use Rattle.kn_world.specs.Idle.{is_at_door}
use Rattle.kn_refinement.specs.Fits.{Fits, HasLeft, IsPast}
use Rattle.kn_refinement.specs.Leads.{Leads}
use Rattle.kn_refinement.specs.Shown.{app_at_home, app_of, client_app, connect_app, connect_phase, connect_stream, front_if, is_refused, is_told, shown, unnumbered}
use Rattle.kn_refinement.proofs.Changes.{changed_own}
use Rattle.kn_refinement.proofs.ConnectParts.{Own, Same, ServerLeads, app_shown, apps_changed, fits_changed, own_front, stream_shown, streams_changed}
use Rattle.kn_refinement.proofs.Worlds.{leads_one, worlds_same}
use Rattle.kn_refinement.proofs.Pairs.{some_is}

-- ---- an app is of the stream of an app by CONNECT only if it is this one
module _ (s : State) (k n : ℕ) (a : App) (fits : Fits s) (own : Own s k n a) where
  abbrev Not : WorldApp → Type 0
  Not x = (x.stream == suc n) ≡ false

  apart : (m : ℕ) → (m ≡ suc n → ⊥) → (m == suc n) ≡ false
  apart m h = here (m == suc n) refl
    where
      here : (b : Bool) → (m == suc n) ≡ b → b ≡ false
      here true e = absurd (h (eqb-true m (suc n) e))
      here false e = refl

  of_client : (c m : ℕ) (b : App) (o : Option Client) → nth c s.clients ≡ o → (told : Bool) → Not (cond told (client_app m o b) no_app)
  of_client c m b None e true = eqb-zero-suc n
  of_client c m b None e false = eqb-zero-suc n
  of_client c m b (Some x) e true = apart x.front (λ g.
      let z : owner.Client c ≡ owner.App k = some_is (sym (fits.fronts.client c x e) ∙ ap (λ i. nth i s.fronts) g ∙ own_front s k n a fits own) in absurd cc)
  of_client c m b (Some x) e false = eqb-zero-suc n

  of_connect : (i : ℕ) (b : App) → (i == k) ≡ false → nth i s.apps ≡ Some b → b.home ≡ home.Connect → (zero_is : Bool) → Not (cond zero_is no_app (connect_app b))
  of_connect i b off there at true = eqb-zero-suc n
  of_connect i b off there at false = apart b.door.number (λ g.
      let z : owner.App i ≡ owner.App k = some_is (sym (fits.fronts.app i n b there at g) ∙ own_front s k n a fits own) in
      let y : i ≡ k = cc in
      absurd (cc (off, eq-eqb i k y)))

  of_app : (i : ℕ) (b : App) → (i == k) ≡ false → nth i s.apps ≡ Some b → (h : Home) → b.home ≡ h → Not (app_at_home s.clients h b)
  of_app i b off there (home.Client c m) e = of_client c m b (nth c s.clients) refl (is_told m (nth c s.clients))
  of_app i b off there home.Connect e = of_connect i b off there e (b.door.number == 0)

  of_other : (i : ℕ) → (i == k) ≡ false → (o : Option App) → nth i s.apps ≡ o → Not (app_of s.clients o)
  of_other i off None e = eqb-zero-suc n
  of_other i off (Some b) e = of_app i b off e b.home refl

  pub stream_is_own : (i : ℕ) → (((shown s).apps i).stream == suc n) ≡ (i == k)
  stream_is_own i = here (i == k) refl
    where
      here : (b : Bool) → (i == k) ≡ b → (((shown s).apps i).stream == suc n) ≡ b
      here true e = ap (λ j. ((shown s).apps j).stream == suc n) (eqb-true i k e) ∙ eq-eqb ((shown s).apps k).stream (suc n) (ap (λ (x : WorldApp). x.stream) (app_shown s k n a own) ∙ own.number)
      here false e = of_other i e (nth i s.apps) refl

-- ---- it leaves: what it gave the server and the server has not taken is dropped
abbrev pub leaving : App → App
leaving a = record a { stage = apps.left_stage a.stage; side = record a.side { end_given = true }; door = record a.door { early = [] } }

abbrev pub lost : App → App
lost a = record a { door = record a.door { at_server = false } }

pub left_has : (g : Stage) → HasLeft (apps.left_stage g)
left_has stage.Dialling = inr refl
left_has stage.Open = inr refl
left_has stage.Refused = inl refl
left_has stage.Ended = inr refl

pub left_refused : (g : Stage) → apps.left_stage g ≡ stage.Refused → g ≡ stage.Refused
left_refused stage.Dialling e = absurd cc
left_refused stage.Open e = absurd cc
left_refused stage.Refused e = refl
left_refused stage.Ended e = absurd cc

-- what is shown of it where it still had its end, and where it had left before
here_phase : (g : Stage) (c : Bool) → (is_at_door g && not c) ≡ true → left_phase (connect_phase c g) ≡ connect_phase c (apps.left_stage g)
here_phase stage.Dialling false h = refl
here_phase stage.Open false h = refl
here_phase stage.Dialling true h = absurd cc
here_phase stage.Open true h = absurd cc
here_phase stage.Refused c h = absurd cc
here_phase stage.Ended c h = absurd cc

here_finished : (g : Stage) (c : Bool) → (is_at_door g && not c) ≡ true → (c || is_refused g) ≡ (c || is_refused (apps.left_stage g))
here_finished stage.Dialling c h = refl
here_finished stage.Open c h = refl
here_finished stage.Refused c h = refl
here_finished stage.Ended c h = refl

no_end : (g : Stage) (c : Bool) → false ≡ (is_at_door (apps.left_stage g) && not c)
no_end stage.Dialling c = refl
no_end stage.Open c = refl
no_end stage.Refused c = refl
no_end stage.Ended c = refl

gone_phase : (g : Stage) (c : Bool) → (is_at_door g && not c) ≡ false → connect_phase c g ≡ connect_phase c (apps.left_stage g)
gone_phase stage.Dialling true h = refl
gone_phase stage.Open true h = refl
gone_phase stage.Dialling false h = absurd cc
gone_phase stage.Open false h = absurd cc
gone_phase stage.Refused c h = refl
gone_phase stage.Ended c h = refl

finished_same : (g : Stage) (c : Bool) → (c || is_refused g) ≡ (c || is_refused (apps.left_stage g))
finished_same stage.Dialling c = refl
finished_same stage.Open c = refl
finished_same stage.Refused c = refl
finished_same stage.Ended c = refl

module _ (s : State) (k n : ℕ) (a : App) (fits : Fits s) (own : Own s k n a) (at_server : a.door.at_server ≡ true) where
  abbrev left_state : State
  left_state = record s { apps = change leaving k s.apps }

  leaving_same : Same a (leaving a)
  leaving_same = record {
    at_door = own.at_door;
    number = refl;
    dial = refl;
    early = tt;
    unheard = λ z. let y : suc n ≡ 0 = sym own.number ∙ z in absurd cc;
    refused = λ r. fits.fronts.refused k a own.there own.at_door (left_refused a.stage r);
    present = λ m e g. at_server;
    gone = λ m e g. absurd (cc (at_server, g));
  }

  left_fits : Fits left_state
  left_fits = fits_changed s k a leaving fits own.there own.at_door leaving_same

  at_stream : (shown s).streams (suc n) ≡ connect_stream k (Some a)
  at_stream = stream_shown s k n a fits own

  -- it had its end: it closes it
  abbrev stream_left : Bool → WorldStream → WorldStream
  stream_left b x = record x { client = cond b false x.client; up = cond b [] x.up; down = cond b [] x.down }

  abbrev app_left : Bool → WorldApp → WorldApp
  app_left b x = record x { phase = cond b (left_phase x.phase) x.phase }

  closes : (is_at_door a.stage && not a.door.closing) ≡ true → Leads s left_state
  closes h = leads_one s left_state (ConnectLeaves (suc n) []) left_fits
      (ap (λ (x : WorldStream). x.client && x.connect) at_stream ∙ ap (λ b. b && true) h, (map unnumbered a.door.early, sym (ap (λ (x : WorldStream). x.up) at_stream)))
      (worlds_same (connect_leaves (suc n) (in_is (suc n) [] (shown s))) (shown left_state) refl (λ l. refl) (λ c. refl) (λ l. refl)
      (streams_changed s k n a leaving stream_left fits own (λ x. refl)
      (λ i. record (connect_stream k (Some a)) { client = no_end a.stage a.door.closing i; finished = here_finished a.stage a.door.closing h i; up = []; down = [] }))
      (λ d. refl)
      (λ i. ap (λ b. app_left b ((shown s).apps i)) (stream_is_own s k n a fits own i)
      ∙ apps_changed s k n a leaving app_left own own.at_door own.number (λ x. refl) (λ j. record (connect_app a) { phase = here_phase a.stage a.door.closing h j }) i))

  -- it had none: what it gave is dropped
  abbrev stream_dropped : Bool → WorldStream → WorldStream
  stream_dropped b x = record x { up = cond b [] x.up }

  drops : (is_at_door a.stage && not a.door.closing) ≡ false → Leads s left_state
  drops h = leads_one s left_state (DropsIn (suc n)) left_fits
      (ap (λ (x : WorldStream). not (is_gone x.front) && not x.client) at_stream ∙ ap (λ b. not (is_gone (front_if b)) && not (is_at_door a.stage && not a.door.closing)) at_server ∙ ap not h)
      (worlds_same (in_is (suc n) [] (shown s)) (shown left_state) refl (λ l. refl) (λ c. refl) (λ l. refl)
      (streams_changed s k n a leaving stream_dropped fits own (λ x. refl)
      (λ i. record (connect_stream k (Some a)) { client = (h ∙ no_end a.stage a.door.closing) i; finished = finished_same a.stage a.door.closing i; up = [] }))
      (λ d. refl)
      (apps_changed s k n a leaving (λ b x. x) own own.at_door own.number (λ x. refl) (λ j. record (connect_app a) { phase = gone_phase a.stage a.door.closing h j })))

  pub leaving_leads : Leads s left_state
  leaving_leads = here (is_at_door a.stage && not a.door.closing) refl
    where
      here : (b : Bool) → (is_at_door a.stage && not a.door.closing) ≡ b → Leads s left_state
      here true h = closes h
      here false h = drops h

  pub left_own : Own left_state k n (leaving a)
  left_own = record { there = changed_own leaving k s.apps a own.there; at_door = own.at_door; number = own.number }

-- ---- the server loses its front
module _ (serve : ServerLeads) (s : State) (k n : ℕ) (a : App) (fits : Fits s) (keys : Keys (shown s)) (own : Own s k n a) (at_server : a.door.at_server ≡ true) (left : IsPast a) (none : a.door.early ≡ []) (given : a.side.end_given ≡ true) where
  abbrev lost_state : State
  lost_state = record s { apps = change lost k s.apps }

  lost_same : Same a (lost a)
  lost_same = record {
    at_door = own.at_door;
    number = refl;
    dial = refl;
    early = fits.fronts.early k a own.there own.at_door;
    unheard = λ z. let y : suc n ≡ 0 = sym own.number ∙ z in absurd cc;
    refused = λ r. fits.fronts.refused k a own.there own.at_door r;
    present = λ m e g. absurd (cc (given, g));
    gone = λ m e g. (left, none);
  }

  abbrev stream_lost : Bool → WorldStream → WorldStream
  stream_lost b x = record x { front = cond b Gone x.front; up = cond b [] x.up; down = cond b [] x.down }

  lost_shown : front_is (suc n) Gone (in_is (suc n) [] (out_is (suc n) [] (shown s))) ≡ shown lost_state
  lost_shown = worlds_same (front_is (suc n) Gone (in_is (suc n) [] (out_is (suc n) [] (shown s)))) (shown lost_state) refl (λ l. refl) (λ c. refl) (λ l. refl)
      (streams_changed s k n a lost stream_lost fits own (λ x. refl) (λ i. record (connect_stream k (Some a)) { front = Gone; up = map unnumbered (sym none i); down = [] }))
      (λ d. refl)
      (apps_changed s k n a lost (λ b x. x) own own.at_door own.number (λ x. refl) refl)

  may_lose : May (ServerLosesFront (suc n) []) (shown s)
  may_lose = let e = stream_shown s k n a fits own in
      (ap (λ (x : WorldStream). x.begun && not (is_gone x.front)) e ∙ ap (λ b. not (is_gone (front_if b))) at_server, ([], sym (ap (λ (x : WorldStream). x.down) e)))

  pub lost_leads : Leads s (step 0 (FrontLost (suc n)) lost_state)
  lost_leads = serve s lost_state (ServerLosesFront (suc n) []) 0 (FrontLost (suc n)) (fits_changed s k a lost fits own.there own.at_door lost_same) refl refl tt keys may_lose
      (ap (λ w. server_does (FrontLost (suc n)) w) lost_shown)
