-- A step of the server of the running world, as it is shown: the server's own step, and then each CONNECT app takes what came for it.
use Rattle.std.proofs.Common.{◌≡◌, ◌==◌, ℕ, ℤ, zero, suc, Bool, true, false, cond, List, [], ◌∷◌, length, Option, Some, None, refl, sym, ap, ◌∙◌, arith}
use Rattle.std.proofs.lemmas.Bool.{ne_eqb}
use Rattle.std.specs.Option.{option_map}
use Rattle.kn_packet.specs.declared.packet.Packet.{Packet}
use Rattle.kn_server_core.specs.Isolation.{Each}
use Rattle.kn_server_core.specs.Steps.{Step}
use Rattle.kn_server_core.specs.declared.event.ServerOut.{ServerOut}
use Rattle.kn_server_core.specs.declared.event.ServerOut.TheVariants as out
use Rattle.kn_tunnel.specs.Tunnel.{Dialling, Front, Phase}
use Rattle.kn_words.specs.Numbers.{is_number}
use Rattle.kn_packets.specs.Moves.{no_app, no_stream, served}
use Rattle.kn_packets.specs.Outputs.{all_answered, dial_made, for_front, queued}
use Rattle.kn_packets.specs.World.{WorldApp, WorldStream}
use Rattle.kn_world.specs.declared.parts.App.{App}
use Rattle.kn_world.specs.declared.parts.AppChoice.{AppChoice}
use Rattle.kn_world.specs.declared.parts.Client.{Client}
use Rattle.kn_world.specs.declared.parts.Home.{Home}
use Rattle.kn_world.specs.declared.parts.Home.TheVariants as home
use Rattle.kn_world.specs.declared.parts.Owner.{Owner}
use Rattle.kn_world.specs.declared.parts.Owner.TheVariants as owner
use Rattle.kn_world.specs.declared.state.State.{State}
use Rattle.kn_world.specs.Apps.{with_dial}
use Rattle.kn_world.specs.Numbers.{nth}
use Rattle.kn_world.specs.ServerSteps.{gives_all}
use Rattle.kn_refinement.specs.Fits.{Fits}
use Rattle.kn_refinement.specs.Settled.{settled, settled_app, settled_stream, takes}
use Rattle.kn_refinement.specs.Shown.{agent_of, app_at_home, app_of, client_app, client_of, client_stream, connect_app, connect_stream, dial_of, front_if, is_told, link_of, noted_phase, number_if, shown, stream_of}
use Rattle.kn_refinement.proofs.DoorsHeard.{InTurn, heard_all, taken, view}
use Rattle.kn_refinement.proofs.DoorsKept.{Fixed, all_keep, dial_noted, fixed, heard_is, unheard_is}
use Rattle.kn_refinement.proofs.DoorsTaken.{heard_view}
use Rattle.kn_refinement.proofs.ServerApps.{app_by, app_settles, calm_app, calm_stream, served_app, served_stream, stream_by, stream_settles}
use Rattle.kn_refinement.proofs.ServerAsks.{AskedAt, MadeOnFront, NotesDial, client_asks, connect_asks, dial_shown, front_there, none_made}
use Rattle.kn_refinement.proofs.ServerDials.{Makes, dials_shown}
use Rattle.kn_refinement.proofs.ServerLinks.{NamesAgent, agent_shown, link_shown}
use Rattle.kn_refinement.proofs.ServerOutputs.{agents_after, all_dials_after, app_after, apps_after, client_after, clients_after, fronts_after, server_after}
use Rattle.kn_refinement.proofs.ServerStreams.{app_front, client_app_front, client_front, client_is, client_shown, queued_gone, stream_shown, unanswered, unfinished, unheard_front}
use Rattle.kn_refinement.proofs.Worlds.{worlds_same}

-- a dial that is made is asked for on a front that is someone's
abbrev pub IsAsked : List Owner → List Client → ℤ → ℕ → ServerOut → Type 0
IsAsked fronts cs random app (out.Made dial link front) = ((o : Owner) × (nth front fronts ≡ Some o) × AskedAt (Some o) random app cs) × (number_if dial ≡ Some dial)
IsAsked fronts cs random app (out.ToLink link p) = Unit {0}
IsAsked fronts cs random app (out.ToFront front p) = Unit {0}
IsAsked fronts cs random app (out.CutLink link) = Unit {0}

-- what the outputs of a step are known to be
pub record Told (s : State) (random : ℤ) (app : ℕ) (os : List ServerOut) : Type 0 where
  pub agents : Each (NamesAgent s.agents) os
  pub makes : Makes (suc (length s.dials)) os
  pub asked : Each (IsAsked s.fronts s.clients random app) os
  pub in_turn : (f : ℕ) → InTurn (for_front f os)

module _ (s : State) (random : ℤ) (app : ℕ) (os : List ServerOut) (fits : Fits s) (told : Told s random app os) where
  stream_in : ℕ → WorldStream
  stream_in f = stream_of s.clients s.apps (nth f s.fronts)

  -- the dial of each app is noted alike
  made_on_front : Each MadeOnFront os
  made_on_front = go os told.asked
    where
      go : (xs : List ServerOut) → Each (IsAsked s.fronts s.clients random app) xs → Each MadeOnFront xs
      go [] h = tt
      go (out.Made dial link front ∷ xs) h = (front_there s.clients s.apps s.fronts s.server.fronts fits.clients fits.fronts front h.0.0.0 h.0.0.1, go xs h.1)
      go (out.ToLink link p ∷ xs) h = (tt, go xs h.1)
      go (out.ToFront front p ∷ xs) h = (tt, go xs h.1)
      go (out.CutLink link ∷ xs) h = (tt, go xs h.1)

  client_notes : (k c n : ℕ) (a : App) (x : Client) → nth k s.apps ≡ Some a → a.home ≡ home.Client c n → nth c s.clients ≡ Some x → Each (NotesDial app x.front (is_number n random) k) os
  client_notes k c n a x e h i = go os told.asked
    where
      go : (xs : List ServerOut) → Each (IsAsked s.fronts s.clients random app) xs → Each (NotesDial app x.front (is_number n random) k) xs
      go [] t = tt
      go (out.Made dial link front ∷ xs) t = ((client_asks s.clients s.apps s.fronts s.server.fronts fits.clients fits.fronts k c n app front a x t.0.0.0 random e h i t.0.0.1 t.0.0.2, t.0.1), go xs t.1)
      go (out.ToLink link p ∷ xs) t = (tt, go xs t.1)
      go (out.ToFront front p ∷ xs) t = (tt, go xs t.1)
      go (out.CutLink link ∷ xs) t = (tt, go xs t.1)

  connect_notes : (k f : ℕ) (a : App) → nth k s.apps ≡ Some a → a.home ≡ home.Connect → nth f s.fronts ≡ Some (owner.App k) → Each (NotesDial app f true k) os
  connect_notes k f a e h i = go os told.asked
    where
      go : (xs : List ServerOut) → Each (IsAsked s.fronts s.clients random app) xs → Each (NotesDial app f true k) xs
      go [] t = tt
      go (out.Made dial link front ∷ xs) t = ((connect_asks s.clients s.apps s.fronts s.server.fronts fits.clients fits.fronts k f app front a t.0.0.0 random e h i t.0.0.1 t.0.0.2, t.0.1), go xs t.1)
      go (out.ToLink link p ∷ xs) t = (tt, go xs t.1)
      go (out.ToFront front p ∷ xs) t = (tt, go xs t.1)
      go (out.CutLink link ∷ xs) t = (tt, go xs t.1)

  -- ---- an app
  both : WorldApp → WorldApp
  both a = settled_app (served_stream os a.stream (stream_in a.stream)) (served_app os random (stream_in a.stream) a)

  nobody : both no_app ≡ no_app
  unfolding both stream_in
  nobody = rw (none_made os (is_number 0 random) made_on_front, unanswered (for_front 0 os) Dialling) refl

  client_here : (k c n : ℕ) (a : App) (x : Client) (down : List Packet) → nth k s.apps ≡ Some a → a.home ≡ home.Client c n → nth c s.clients ≡ Some x
      → client_app n (Some (record x { down = down })) (with_dial (dial_noted app k os a.dial) a) ≡ both (client_app n (Some x) a)
  unfolding both stream_in
  client_here k c n a x down e h i =
      let stream : stream_in x.front ≡ client_stream c (Some x) = ap (stream_of s.clients s.apps) (fits.fronts.client c x i) ∙ ap (client_stream c) i in
      let noted_as : Option ℕ → Phase → WorldApp = λ d p. record (client_app n (Some x) a) { dial = d; phase = p } in
      ap (λ d. noted_as d (noted_phase a.stage)) (dial_shown os app x.front (is_number n random) k a.dial (client_notes k c n a x e h i))
      ∙ ap (noted_as (dial_made x.front (is_number n random) os (number_if a.dial))) (sym (unanswered (for_front x.front os) (noted_phase a.stage)))
      ∙ sym (calm_app (served_stream os x.front (client_stream c (Some x))) (served_app os random (client_stream c (Some x)) (client_app n (Some x) a)) refl)
      ∙ sym (ap (λ y. settled_app (served_stream os x.front y) (served_app os random y (client_app n (Some x) a))) stream)

  module _ (cs : List Client) (ks : List App) (same : (c : ℕ) → nth c cs ≡ option_map (client_after s.fronts os c) (nth c s.clients))
      (sames : (k : ℕ) → nth k ks ≡ option_map (app_after s.fronts app os k) (nth k s.apps)) where
    client_case : (k c n : ℕ) (a : App) → nth k s.apps ≡ Some a → a.home ≡ home.Client c n → app_of cs (Some (app_after s.fronts app os k a)) ≡ both (app_of s.clients (Some a))
    client_case k c n a e h =
        let y = fits.clients.number_of k c n a e h in
        let x : Client = y.0 in
        let i : nth c s.clients ≡ Some x = y.1 in
        let now : nth c cs ≡ Some (record x { down = queued x.at_client x.down (for_front x.front os) }) =
        same c ∙ ap (option_map (client_after s.fronts os c)) i ∙ ap Some (client_is s.fronts os c x.front x (client_front s.clients s.apps s.fronts s.server.fronts fits.fronts x.front c (fits.fronts.client c x i))) in
        ap (λ b. app_of cs (Some b)) (unheard_is s.fronts app os k a (client_app_front s.clients s.apps s.fronts s.server.fronts fits.fronts k c n a e h))
        ∙ ap (λ z. app_at_home cs z (with_dial (dial_noted app k os a.dial) a)) h
        ∙ ap (λ o. cond (is_told n o) (client_app n o (with_dial (dial_noted app k os a.dial) a)) no_app) now
        ∙ here x i (queued x.at_client x.down (for_front x.front os)) (is_told n (Some x))
        ∙ sym (ap (λ o. both (cond (is_told n o) (client_app n o a) no_app)) i)
        ∙ sym (ap (λ z. both (app_at_home s.clients z a)) h)
      where
        here : (x : Client) → nth c s.clients ≡ Some x → (down : List Packet) (b : Bool) → cond b (client_app n (Some (record x { down = down })) (with_dial (dial_noted app k os a.dial) a)) no_app ≡ both (cond b (client_app n (Some x) a) no_app)
        here x i down true = client_here k c n a x down e h i
        here x i down false = sym nobody

    unheard_case : (k : ℕ) (a : App) → nth k s.apps ≡ Some a → a.home ≡ home.Connect → a.door.number ≡ 0 → app_of cs (Some (app_after s.fronts app os k a)) ≡ both (app_of s.clients (Some a))
    unheard_case k a e h z =
        ap (λ b. app_of cs (Some b)) (unheard_is s.fronts app os k a (unheard_front s.clients s.apps s.fronts s.server.fronts fits.fronts k a e z))
        ∙ ap (λ y. app_at_home cs y (with_dial (dial_noted app k os a.dial) a)) h
        ∙ ap (λ n. cond (n == 0) no_app (connect_app (with_dial (dial_noted app k os a.dial) a))) z
        ∙ sym nobody
        ∙ sym (ap (λ n. both (cond (n == 0) no_app (connect_app a))) z)
        ∙ sym (ap (λ y. both (app_at_home s.clients y a)) h)

    -- an app by CONNECT, and its stream
    not_none : (f : ℕ) (o : Owner) → nth f s.fronts ≡ Some o → (f == 0) ≡ false
    not_none zero o e = absurd cc
    not_none (suc n) o e = ne_eqb (suc n) zero (λ (i : suc n ≡ zero). omega (arith, i))

    app_in : (k f : ℕ) (a : App) → nth k s.apps ≡ Some a → a.home ≡ home.Connect → a.door.number ≡ f → nth f s.fronts ≡ Some (owner.App k)
        → app_of s.clients (nth k s.apps) ≡ app_by f (number_if a.dial) (view a)
    app_in k f a e h z i =
        ap (app_of s.clients) e ∙ ap (λ y. app_at_home s.clients y a) h
        ∙ ap (λ b. cond b no_app (connect_app a)) (ap (λ n. n == 0) z ∙ not_none f (owner.App k) i)
        ∙ ap (λ n. app_by n (number_if a.dial) (view a)) z

    stream_here : (k f : ℕ) (a : App) → nth k s.apps ≡ Some a → nth f s.fronts ≡ Some (owner.App k) → stream_in f ≡ stream_by k (front_if a.door.at_server) (view a)
    unfolding stream_in
    stream_here k f a e i = ap (stream_of s.clients s.apps) i ∙ ap (connect_stream k) e

    connect_case : (k f : ℕ) (a : App) → nth k s.apps ≡ Some a → a.home ≡ home.Connect → a.door.number ≡ f → nth f s.fronts ≡ Some (owner.App k)
        → app_of cs (Some (app_after s.fronts app os k a)) ≡ both (app_of s.clients (nth k s.apps))
    unfolding both
    connect_case k f a e h z i =
        let ps : List Packet = for_front f os in
        let dial : ℕ = dial_noted app k os a.dial in
        let b : App = heard_all ps a in
        let kept : fixed b ≡ fixed a = all_keep ps a in
        let number : b.door.number ≡ f = ap (λ (x : Fixed). x.number) kept ∙ z in
        let later : Phase = all_answered true ps (view a).phase in
        let front : Front = front_if a.door.at_server in
        ap (λ x. app_of cs (Some x)) (heard_is s.fronts app os k f a (app_front s.clients s.apps s.fronts s.server.fronts fits.fronts f k i))
        ∙ ap (λ y. app_at_home cs y (with_dial dial b)) (ap (λ (x : Fixed). x.home) kept ∙ h)
        ∙ ap (λ t. cond t no_app (connect_app (with_dial dial b))) (ap (λ n. n == 0) number ∙ not_none f (owner.App k) i)
        ∙ ap (λ n. app_by n (number_if dial) (view b)) number
        ∙ ap (app_by f (number_if dial)) (heard_view ps a (told.in_turn f))
        ∙ ap (λ d. app_by f d (taken ps (view a))) (dial_shown os app f true k a.dial (connect_notes k f a e h i))
        ∙ app_settles k f front os (view a).client (view a).finished (view a).up (view a).phase later (view a).side (dial_made f true os (number_if a.dial))
        ∙ sym (ap (λ y. settled_app (served_stream os f y) (served_app os random y (app_by f (number_if a.dial) (view a)))) (stream_here k f a e i))
        ∙ sym (ap both (app_in k f a e h z i))

    stream_case : (k f : ℕ) (a : App) → nth k s.apps ≡ Some a → a.home ≡ home.Connect → a.door.number ≡ f → nth f s.fronts ≡ Some (owner.App k)
        → connect_stream k (Some (app_after s.fronts app os k a))
        ≡ settled_stream (served_app os random (stream_in (app_of s.clients (nth k s.apps)).stream) (app_of s.clients (nth k s.apps))).phase (served_stream os f (stream_by k (front_if a.door.at_server) (view a)))
    stream_case k f a e h z i =
        let ps : List Packet = for_front f os in
        let b : App = heard_all ps a in
        let later : Phase = all_answered true ps (view a).phase in
        let front : Front = front_if a.door.at_server in
        let x : WorldStream = served_stream os f (stream_by k front (view a)) in
        ap (λ y. connect_stream k (Some y)) (heard_is s.fronts app os k f a (app_front s.clients s.apps s.fronts s.server.fronts fits.fronts f k i))
        ∙ ap (λ t. stream_by k (front_if t) (view b)) (ap (λ (y : Fixed). y.at_server) (all_keep ps a))
        ∙ ap (stream_by k front) (heard_view ps a (told.in_turn f))
        ∙ stream_settles k f front os (view a).client (view a).finished (view a).up (view a).phase later (view a).side
        ∙ sym (ap (λ y. settled_stream (served_app os random y (app_by f (number_if a.dial) (view a))).phase x) (stream_here k f a e i))
        ∙ sym (ap (λ y. settled_stream (served_app os random (stream_in y.stream) y).phase x) (app_in k f a e h z i))

    -- ---- any app, and any stream
    app_shown : (k : ℕ) → app_of cs (nth k ks) ≡ both (app_of s.clients (nth k s.apps))
    app_shown k = at (nth k s.apps) refl
      where
        at_home : (a : App) → nth k s.apps ≡ Some a → (h : Home) → a.home ≡ h → (n : ℕ) → a.door.number ≡ n → app_of cs (Some (app_after s.fronts app os k a)) ≡ both (app_of s.clients (nth k s.apps))
        at_home a e (home.Client c number) h n z = client_case k c number a e h ∙ sym (ap (λ o. both (app_of s.clients o)) e)
        at_home a e home.Connect h zero z = unheard_case k a e h z ∙ sym (ap (λ o. both (app_of s.clients o)) e)
        at_home a e home.Connect h (suc n) z = connect_case k (suc n) a e h z (fits.fronts.app k n a e h z)

        at : (o : Option App) → nth k s.apps ≡ o → app_of cs (nth k ks) ≡ both (app_of s.clients (nth k s.apps))
        at None e = ap (app_of cs) (sames k ∙ ap (option_map (app_after s.fronts app os k)) e) ∙ sym nobody ∙ sym (ap (λ o. both (app_of s.clients o)) e)
        at (Some a) e = ap (app_of cs) (sames k ∙ ap (option_map (app_after s.fronts app os k)) e) ∙ at_home a e a.home refl a.door.number refl

    phase_of_app : ℕ → Phase
    phase_of_app k = (served_app os random (stream_in (app_of s.clients (nth k s.apps)).stream) (app_of s.clients (nth k s.apps))).phase

    settled_at : ℕ → WorldStream → WorldStream
    settled_at f x = settled_stream (phase_of_app x.app) (served_stream os f x)

    stream_is : (f : ℕ) → stream_of cs ks (nth f s.fronts) ≡ settled_at f (stream_in f)
    unfolding settled_at stream_in phase_of_app
    stream_is f = at (nth f s.fronts) refl
      where
        not_taking : (c : ℕ) (o : Option Client) → takes (served_stream os f (client_stream c o)) ≡ false
        not_taking c None = refl
        not_taking c (Some x) = refl

        at : (o : Option Owner) → nth f s.fronts ≡ o → stream_of cs ks o ≡ settled_at f (stream_of s.clients s.apps o)
        at None e = sym (calm_stream (phase_of_app 0) (served_stream os f no_stream) refl ∙ rw (queued_gone [] (for_front f os), unfinished (for_front f os) false) refl)
        at (Some (owner.Client c)) e =
            ap (client_stream c) (same c)
            ∙ stream_shown s.fronts os c f (nth c s.clients) (client_front s.clients s.apps s.fronts s.server.fronts fits.fronts f c e)
            ∙ sym (calm_stream (phase_of_app (client_stream c (nth c s.clients)).app) (served_stream os f (client_stream c (nth c s.clients))) (not_taking c (nth c s.clients)))
        at (Some (owner.App k)) e =
            let y = fits.fronts.of_app f k e in
            ap (connect_stream k) (sames k ∙ ap (option_map (app_after s.fronts app os k)) y.1)
            ∙ stream_case k f y.0 y.1 y.2 y.3 e
            ∙ sym (ap (λ o. settled_at f (connect_stream k o)) y.1)

-- ---- all of it
pub gives_shown : (s : State) (random : ℤ) (app : ℕ) (step : Step) (choices : List AppChoice) → Fits s → Told s random app step.outs
    → shown (gives_all step.outs app (record s { server = step.state; choices = choices })) ≡ settled (served random step (shown s))
unfolding both stream_in settled_at phase_of_app
gives_shown s random app step choices fits told =
    let t : State = record s { server = step.state; choices = choices } in
    let new : State = gives_all step.outs app t in
    let same : (c : ℕ) → nth c new.clients ≡ option_map (client_after s.fronts step.outs c) (nth c s.clients) = λ c. clients_after step.outs app t c in
    let sames : (k : ℕ) → nth k new.apps ≡ option_map (app_after s.fronts app step.outs k) (nth k s.apps) = λ k. apps_after step.outs app t k in
    worlds_same (shown new) (settled (served random step (shown s)))
    (server_after step.outs app t)
    (λ l. ap agent_of (agents_after step.outs app t l) ∙ agent_shown step.outs l (nth l s.agents))
    (λ c. ap client_of (same c) ∙ client_shown s.fronts step.outs c (nth c s.clients))
    (λ l. ap link_of (agents_after step.outs app t l) ∙ link_shown s.agents step.outs l told.agents (fits.agents.lost l))
    (λ f. ap (λ fs. stream_of new.clients new.apps (nth f fs)) (fronts_after step.outs app t) ∙ stream_is s random app step.outs fits told new.clients new.apps same sames f)
    (λ d. ap (λ ds. dial_of new.agents (nth d ds)) (all_dials_after step.outs app t) ∙ dials_shown new.agents s.agents app step.outs s.dials d told.makes (λ l. agents_after step.outs app t l))
    (λ k. app_shown s random app step.outs fits told new.clients new.apps same sames k)
