-- An app by CONNECT that no dial is of is either in the packet world, where it got nothing, or its head is not whole.
use Rattle.std.proofs.Common.{◌≡◌, ◌==◌, Bool, true, false, cond, List, [], refl, sym, ap, ◌∙◌, eqb-true}
use Rattle.kn_route.specs.declared.strategy.Strategy.{Strategy}
use Rattle.kn_packets.specs.Moves.{no_app}
use Rattle.kn_packets.specs.World.{WorldApp}
use Rattle.kn_world.specs.declared.state.State.{State}
use Rattle.kn_world.specs.Views as views
use Rattle.kn_refinement.specs.Fits.{Fits}
use Rattle.kn_refinement.specs.Chosen.{Identifiers}
use Rattle.kn_refinement.specs.Headline.{GetsNothingUndialled, KeepsChoices}
use Rattle.kn_refinement.specs.Shown.{app_at_home, app_of, connect_app, shown}
use Rattle.kn_refinement.specs.Undialled.{ConnectGetsNothingUndialled, UnansweredHasNoDial}

pub connect_gets_nothing : (s : State) → Fits s → GetsNothingUndialled s → ConnectGetsNothingUndialled s
connect_gets_nothing s fits heard k a there at no_dial = by (a.door.number == 0) refl
  where
    by : (none : Bool) → (a.door.number == 0) ≡ none → a.side.coming.passed ≡ []
    by true e = ap (λ c. c.passed) (fits.fronts.unheard k a there at (eqb-true a.door.number 0 e)).coming
    by false e = heard k a there (ap (λ (v : WorldApp). v.came) is) no_dial
      where
        is : (shown s).apps k ≡ connect_app a
        is = ap (λ o. app_of s.clients o) there ∙ ap (λ h. app_at_home s.clients h a) at ∙ ap (λ t. cond t no_app (connect_app a)) e

-- a dial has a choice with an answer
pub unanswered_undialled : (strategies : List Strategy) (agents : List Identifiers) (s : State) → KeepsChoices strategies agents s.choices (views.shown s) → UnansweredHasNoDial s
unanswered_undialled strategies agents s keeps k none d x at same =
    let h = keeps.chosen d x at in
    absurd (cc (sym (none h.0 h.1 (h.2.2 ∙ same)) ∙ h.2.1))
