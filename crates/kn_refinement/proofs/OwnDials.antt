-- Whose the dials of a report are, and what its choices say of them.
use Rattle.std.proofs.Common.{◌≡◌, ◌≢◌, ◌<◌, ◌==◌, ◌++◌, ◌+◌, ℕ, zero, suc, Bool, true, false, not, cond, nat_lt, List, [], ◌∷◌, length, map, Option, None, Some, refl, sym, ap, ◌∙◌, subst, eqb-true, arith}
use Rattle.std.proofs.lemmas.Bool.{ltb-true}
use Rattle.std.specs.Option.{option_map}
use Rattle.std.specs.Prelude.{slice_get}
use Rattle.kn_route.specs.declared.strategy.Strategy.{Strategy}
use Rattle.kn_packets.specs.Keys.{Keys}
use Rattle.kn_packets.specs.Moves.{no_app}
use Rattle.kn_packets.specs.World.{WorldApp}
use Rattle.kn_packets.proofs.AgentKept.{each_as}
use Rattle.kn_world.specs.declared.parts.App.{App}
use Rattle.kn_world.specs.declared.parts.AppChoice.{AppChoice}
use Rattle.kn_world.specs.declared.parts.Client.{Client}
use Rattle.kn_world.specs.declared.parts.Dial.{Dial}
use Rattle.kn_world.specs.declared.parts.Home.{Home}
use Rattle.kn_world.specs.declared.parts.Home.TheVariants as home
use Rattle.kn_world.specs.declared.state.State.{State}
use Rattle.kn_world.specs.Numbers.{nth}
use Rattle.kn_world.specs.Shown.{DialShown}
use Rattle.kn_world.specs.Views.{dial_shown}
use Rattle.kn_world.specs.Views as views
use Rattle.kn_refinement.specs.Chosen.{ChoicesHold, HasChoice, Identifiers, IsDialled, MadeFor, made_for}
use Rattle.kn_refinement.specs.Fits.{Fits}
use Rattle.kn_refinement.specs.Headline.{GetsNothingUndialled, IsShownDialled, KeepsChoices, OwnsItsDial}
use Rattle.kn_refinement.specs.Shown.{app_at_home, app_of, client_app, connect_app, is_told, number_if, shown}
use Rattle.kn_refinement.proofs.Pairs.{some_is}
use Rattle.kn_refinement.proofs.Promises.{dial_not_none, nth_map}

none_joined : (xs ys : List ℕ) → xs ++ ys ≡ [] → xs ≡ []
none_joined [] ys e = refl
none_joined (x ∷ xs) ys e = absurd cc

there_below : {X : Type 0} (xs : List X) (i : ℕ) → i < length xs → (x : X) × (slice_get xs i ≡ Some x)
there_below [] i h = absurd (omega arith)
there_below (x ∷ xs) zero h = (x, refl)
there_below (x ∷ xs) (suc i) h = there_below xs i (omega arith)

module _ (s : State) where
  -- a dial of the report is one of the world
  dial_at : (d : ℕ) (x : DialShown) → nth d (views.shown s).dials ≡ Some x → (y : Dial) × (nth d s.dials ≡ Some y) × (dial_shown s.agents y ≡ x)
  dial_at d x at = here (nth d s.dials) refl (sym (nth_map (dial_shown s.agents) d s.dials) ∙ at)
    where
      here : (o : Option Dial) → nth d s.dials ≡ o → option_map (dial_shown s.agents) o ≡ Some x → (y : Dial) × (nth d s.dials ≡ Some y) × (dial_shown s.agents y ≡ x)
      here None there e = absurd cc
      here (Some y) there e = (y, there, some_is e)

  shown_at : (d : ℕ) (y : Dial) → nth d s.dials ≡ Some y → nth d (views.shown s).dials ≡ Some (dial_shown s.agents y)
  shown_at d y there = nth_map (dial_shown s.agents) d s.dials ∙ ap (λ o. option_map (dial_shown s.agents) o) there

  -- ---- choices
  pub keeps_choices : (strategies : List Strategy) (agents : List Identifiers) → ChoicesHold strategies agents s → KeepsChoices strategies agents s.choices (views.shown s)
  keeps_choices strategies agents h = record {
    picked = h.picked;
    chosen = λ d x at. by_dial d x (dial_at d x at);
    dialled = each_as (IsDialled (map made_for s.dials)) (IsShownDialled (views.shown s)) dialled s.choices h.dialled;
  }
    where
      by_dial : (d : ℕ) (x : DialShown) → (y : Dial) × (nth d s.dials ≡ Some y) × (dial_shown s.agents y ≡ x) → HasChoice s.choices d (x.link, x.app)
      by_dial d x y = subst (λ (v : DialShown). HasChoice s.choices d (v.link, v.app)) y.2 (h.chosen d (made_for y.0) (nth_map made_for d s.dials ∙ ap (λ o. option_map made_for o) y.1))

      dialled : (c : AppChoice) → IsDialled (map made_for s.dials) c → IsShownDialled (views.shown s) c
      dialled c k link e few = here (nth c.choice.dial s.dials) refl (sym (nth_map made_for c.choice.dial s.dials) ∙ k link e few)
        where
          here : (o : Option Dial) → nth c.choice.dial s.dials ≡ o → option_map made_for o ≡ Some (link, c.app) → (x : DialShown) × (nth c.choice.dial (views.shown s).dials ≡ Some x) × (x.link ≡ link) × (x.app ≡ c.app)
          here None there e = absurd cc
          here (Some y) there e =
              let is : made_for y ≡ (link, c.app) = some_is e in
              (dial_shown s.agents y, shown_at c.choice.dial y there, ap (λ (m : MadeFor). m.0) is, ap (λ (m : MadeFor). m.1) is)

  -- ---- owners
  module _ (fits : Fits s) where
    pub owns : OwnsItsDial (views.shown s)
    owns d e x y at there same =
        let p = dial_at d x at in
        let q = dial_at e y there in
        let a = fits.asked.asker d p.0 p.1 in
        let b = fits.asked.asker e q.0 q.1 in
        let app : p.0.app ≡ q.0.app = ap (λ (v : DialShown). v.app) p.2 ∙ same ∙ sym (ap (λ (v : DialShown). v.app) q.2) in
        let is : a.0 ≡ b.0 = some_is (sym a.1 ∙ ap (λ k. nth k s.apps) app ∙ b.1) in
        sym a.2 ∙ ap (λ (v : App). v.dial) is ∙ b.2

    -- an app of the packet world, as it is there
    module _ (k : ℕ) (b : App) (there : nth k s.apps ≡ Some b) where
      app_is : (shown s).apps k ≡ app_at_home s.clients b.home b
      app_is = ap (λ o. app_of s.clients o) there

      abbrev AsIs : Type 0
      AsIs = (((shown s).apps k).dial ≡ number_if b.dial) × (((shown s).apps k).side.got ≡ [] → b.side.coming.passed ≡ [])

      unseen : {A : Type 0} → ((shown s).apps k).came ≡ true → (shown s).apps k ≡ no_app → A
      unseen came is = absurd (cc (sym came ∙ ap (λ (v : WorldApp). v.came) is))

      pub as_it_is : ((shown s).apps k).came ≡ true → AsIs
      as_it_is came = by_home b.home refl
        where
          at_client : (c n : ℕ) (x : Client) → (shown s).apps k ≡ cond (is_told n (Some x)) (client_app n (Some x) b) no_app → (told : Bool) → is_told n (Some x) ≡ told → AsIs
          at_client c n x is true told = let z : (shown s).apps k ≡ client_app n (Some x) b = is ∙ ap (λ t. cond t (client_app n (Some x) b) no_app) told in
              (ap (λ (v : WorldApp). v.dial) z, λ g. sym (ap (λ (v : WorldApp). v.side.got) z) ∙ g)
          at_client c n x is false told = unseen came (is ∙ ap (λ t. cond t (client_app n (Some x) b) no_app) told)

          by_client : (c n : ℕ) (o : Option Client) → (shown s).apps k ≡ cond (is_told n o) (client_app n o b) no_app → AsIs
          by_client c n None is = unseen came is
          by_client c n (Some x) is = at_client c n x is (is_told n (Some x)) refl

          at_door : (none : Bool) → (b.door.number == 0) ≡ none → (shown s).apps k ≡ cond (b.door.number == 0) no_app (connect_app b) → AsIs
          at_door true e is = unseen came (is ∙ ap (λ t. cond t no_app (connect_app b)) e)
          at_door false e is = let z : (shown s).apps k ≡ connect_app b = is ∙ ap (λ t. cond t no_app (connect_app b)) e in
              (ap (λ (v : WorldApp). v.dial) z, λ g. none_joined b.side.coming.passed b.side.coming.waiting (sym (ap (λ (v : WorldApp). v.side.got) z) ∙ g))

          by_home : (h : Home) → b.home ≡ h → AsIs
          by_home (home.Client c n) at = by_client c n (nth c s.clients) (app_is ∙ ap (λ h. app_at_home s.clients h b) at)
          by_home home.Connect at = at_door (b.door.number == 0) refl (app_is ∙ ap (λ h. app_at_home s.clients h b) at)

      -- one that has a dial is there
      pub dialled_came : b.dial ≢ 0 → ((shown s).apps k).came ≡ true
      dialled_came some = by_home b.home refl
        where
          by_home : (h : Home) → b.home ≡ h → ((shown s).apps k).came ≡ true
          by_home (home.Client c n) at = told (nat_lt x.core.top_app n) refl
            where
              found : (x : Client) × (nth c s.clients ≡ Some x) × (nth n x.apps ≡ Some k)
              found = fits.clients.number_of k c n b there at

              x : Client
              x = found.0

              told : (above : Bool) → nat_lt x.core.top_app n ≡ above → ((shown s).apps k).came ≡ true
              told true above = absurd (some (fits.clients.unasked k c n b x there at found.1 (ltb-true x.core.top_app n above)))
              told false within = ap (λ (v : WorldApp). v.came)
                  (app_is ∙ ap (λ h. app_at_home s.clients h b) at ∙ ap (λ o. cond (is_told n o) (client_app n o b) no_app) found.1 ∙ ap (λ t. cond (not t) (client_app n (Some x) b) no_app) within)
          by_home home.Connect at = heard (b.door.number == 0) refl
            where
              heard : (none : Bool) → (b.door.number == 0) ≡ none → ((shown s).apps k).came ≡ true
              heard true none = absurd (some (fits.fronts.unheard k b there at (eqb-true b.door.number 0 none)).dial)
              heard false some = ap (λ (v : WorldApp). v.came) (app_is ∙ ap (λ h. app_at_home s.clients h b) at ∙ ap (λ t. cond t no_app (connect_app b)) some)

    -- one that no dial of the report is of has none in the packet world
    pub has_no_dial : Keys (shown s) → (k : ℕ) (b : App) → nth k s.apps ≡ Some b → ((shown s).apps k).came ≡ true → ((d : ℕ) (x : DialShown) → nth d (views.shown s).dials ≡ Some x → x.app ≢ k) → ((shown s).apps k).dial ≡ None
    has_no_dial keys k b there came no_dial = by_dial b.dial refl
      where
        seen : ((shown s).apps k).dial ≡ number_if b.dial
        seen = (as_it_is k b there came).0

        of_dial : (n : ℕ) → b.dial ≡ suc n → (x : Dial) → nth (suc n) s.dials ≡ Some x → ((shown s).apps k).dial ≡ None
        of_dial n e x at =
            let a = fits.asked.asker (suc n) x at in
            let a_came : ((shown s).apps x.app).came ≡ true = dialled_came x.app a.0 a.1 (λ z. dial_not_none (suc n) s.dials x at (sym a.2 ∙ z)) in
            let a_seen = as_it_is x.app a.0 a.1 a_came in
            let same : k ≡ x.app = keys.clients.dials_once k x.app (suc n) came a_came (seen ∙ ap number_if e) (a_seen.0 ∙ ap number_if a.2) in
            absurd (no_dial (suc n) (dial_shown s.agents x) (shown_at (suc n) x at) (sym same))

        by_dial : (d : ℕ) → b.dial ≡ d → ((shown s).apps k).dial ≡ None
        by_dial zero e = seen ∙ ap number_if e
        by_dial (suc n) e =
            let older : suc n < s.server.next_dial = keys.server.dials_older k (suc n) came (seen ∙ ap number_if e) in
            let below : suc n < length s.dials + 1 = subst (λ m. suc n < m) fits.next_dial older in
            let x = there_below s.dials n (omega arith) in
            of_dial n e x.0 x.1

    pub gets_nothing : Keys (shown s) → ((k : ℕ) → ((shown s).apps k).came ≡ true → ((shown s).apps k).dial ≡ None → ((shown s).apps k).side.got ≡ []) → GetsNothingUndialled s
    gets_nothing keys none k b there came no_dial = (as_it_is k b there came).1 (none k came (has_no_dial keys k b there came no_dial))
