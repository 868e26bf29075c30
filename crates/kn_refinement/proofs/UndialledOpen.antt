-- A client's app in the packet world that no dial is of did not open: its client knows the dial of each app that did.
use Rattle.std.proofs.Common.{◌≡◌, ◌≢◌, inl, inr, ℕ, Bool, true, false, not, cond, nat_lt, Option, None, Some, refl, sym, ap, ◌∙◌, ltb-false}
use Rattle.kn_packets.specs.Keys.{Keys}
use Rattle.kn_packets.specs.Moves.{no_app}
use Rattle.kn_packets.specs.World.{WorldApp, WorldStream}
use Rattle.kn_tables.specs.Lists.{first_where}
use Rattle.kn_edge_core.specs.ClientTables.{is_app}
use Rattle.kn_edge_core.specs.declared.app.App.{App as ListedApp}
use Rattle.kn_edge_core.specs.declared.app.AppState.{AppState}
use Rattle.kn_edge_core.specs.declared.app.AppState.TheVariants as listed
use Rattle.kn_world.specs.declared.parts.App.{App}
use Rattle.kn_world.specs.declared.parts.Client.{Client}
use Rattle.kn_world.specs.declared.parts.Home.TheVariants as home
use Rattle.kn_world.specs.declared.parts.Stage.{Stage}
use Rattle.kn_world.specs.declared.parts.Stage.TheVariants as stage
use Rattle.kn_world.specs.declared.state.State.{State}
use Rattle.kn_world.specs.Numbers.{nth}
use Rattle.kn_refinement.specs.Fits.{Fits, HasLeft, IsNotedAs}
use Rattle.kn_refinement.specs.Shown.{app_at_home, app_of, client_app, client_of, client_stream, is_told, shown}
use Rattle.kn_refinement.specs.Undialled.{UndialledIsUnopened}
use Rattle.kn_refinement.proofs.LeadsFronts.{own_stream}
use Rattle.kn_refinement.proofs.OwnDials.{has_no_dial}

left_not_open : (noted : Stage) → HasLeft noted → noted ≢ stage.Open
left_not_open noted (inl e) o = absurd (cc (sym e ∙ o))
left_not_open noted (inr e) o = absurd (cc (sym e ∙ o))

module _ (s : State) (fits : Fits s) (keys : Keys (shown s)) (k c n : ℕ) (a : App) (there : nth k s.apps ≡ Some a) (at : a.home ≡ home.Client c n) (came : ((shown s).apps k).came ≡ true) (none : ((shown s).apps k).dial ≡ None) where
  module _ (x : Client) (x_at : nth c s.clients ≡ Some x) where
    app_is : (shown s).apps k ≡ cond (is_told n (Some x)) (client_app n (Some x) a) no_app
    app_is = ap (λ o. app_of s.clients o) there ∙ ap (λ h. app_at_home s.clients h a) at ∙ ap (λ o. cond (is_told n o) (client_app n o a) no_app) x_at

    by_told : (above : Bool) → nat_lt x.core.top_app n ≡ above → a.stage ≢ stage.Open
    by_told true e = absurd (cc (sym came ∙ ap (λ (v : WorldApp). v.came) (app_is ∙ ap (λ b. cond (not b) (client_app n (Some x) a) no_app) e)))
    by_told false e = by_listed (first_where (is_app n) x.core.apps) refl
      where
        is : (shown s).apps k ≡ client_app n (Some x) a
        is = app_is ∙ ap (λ b. cond (not b) (client_app n (Some x) a) no_app) e

        stream : (shown s).streams ((shown s).apps k).stream ≡ client_stream c (Some x)
        stream = ap (λ (v : WorldApp). (shown s).streams v.stream) is ∙ own_stream s c x fits x_at

        own : (y : ListedApp) → first_where (is_app n) x.core.apps ≡ Some y
            → first_where (is_app ((shown s).apps k).number) ((shown s).clients ((shown s).streams ((shown s).apps k).stream).owner).apps ≡ Some y
        own y found = ap (λ (v : WorldApp). first_where (is_app v.number) ((shown s).clients ((shown s).streams ((shown s).apps k).stream).owner).apps) is
            ∙ ap (λ (v : WorldStream). first_where (is_app n) ((shown s).clients v.owner).apps) stream
            ∙ ap (λ o. first_where (is_app n) (client_of o).apps) x_at ∙ found

        opened : (y : ListedApp) → first_where (is_app n) x.core.apps ≡ Some y → y.state ≢ listed.Dialling → a.stage ≢ stage.Open
        opened y found some =
            let its = (keys.clients.listed k y came (ap (λ (v : WorldStream). v.connect) stream) (own y found)).dial some in
            absurd (cc (sym none ∙ its.1))

        by_state : (y : ListedApp) (st : AppState) → first_where (is_app n) x.core.apps ≡ Some y → y.state ≡ st → IsNotedAs st a.stage → a.stage ≢ stage.Open
        by_state y listed.Dialling found q noted = λ o. cc (sym noted ∙ o)
        by_state y listed.Open found q noted = opened y found (λ w. cc (sym q ∙ w))
        by_state y listed.Closing found q noted = opened y found (λ w. cc (sym q ∙ w))
        by_state y listed.Lingering found q noted = opened y found (λ w. cc (sym q ∙ w))

        by_listed : (o : Option ListedApp) → first_where (is_app n) x.core.apps ≡ o → a.stage ≢ stage.Open
        by_listed None gone = left_not_open a.stage (fits.clients.left k c n a x there at x_at gone (ltb-false x.core.top_app n e))
        by_listed (Some y) found = by_state y y.state found refl (fits.clients.here k c n a x y there at x_at found)

  not_open : a.stage ≢ stage.Open
  not_open = let found = fits.clients.number_of k c n a there at in by_told found.0 found.1 (nat_lt found.0.core.top_app n) refl

pub undialled_unopened : (s : State) → Fits s → Keys (shown s) → UndialledIsUnopened s
undialled_unopened s fits keys k c n a there at came no_dial = not_open s fits keys k c n a there at came (has_no_dial s fits keys k a there came no_dial)
