-- An app by CONNECT whose head was whole sends bytes.
use Rattle.std.proofs.Common.{◌≡◌, ◌==◌, ℕ, zero, suc, false, List, Some, refl, sym, ap, ◌∙◌}
use Rattle.kn_packets.specs.Keys.{Keys}
use Rattle.kn_packets.specs.Moves.{AppSends, after, sends, side_if}
use Rattle.kn_packets.specs.World.{WorldApp}
use Rattle.kn_world.specs.declared.parts.App.{App}
use Rattle.kn_world.specs.declared.parts.Home.TheVariants as home
use Rattle.kn_world.specs.declared.state.State.{State}
use Rattle.kn_world.specs.Apps as apps
use Rattle.kn_world.specs.Effects as effects
use Rattle.kn_world.specs.Numbers.{change, nth}
use Rattle.kn_refinement.specs.Fits.{Fits}
use Rattle.kn_refinement.specs.Leads.{Leads}
use Rattle.kn_refinement.specs.Shown.{shown}
use Rattle.kn_refinement.proofs.Changes.{changed_own}
use Rattle.kn_refinement.proofs.ConnectParts.{Own, app_shown, apps_changed, fits_changed, streams_changed}
use Rattle.kn_refinement.proofs.ConnectServed.{plain_serves}
use Rattle.kn_refinement.proofs.ConnectSettles.{settles_leads}
use Rattle.kn_refinement.proofs.Worlds.{KeysGoOn, leads_one, leads_then, worlds_same}

module _ (bytes : List ℕ) (s : State) (k n : ℕ) (a : App) (fits : Fits s) (own : Own s k n a) where
  abbrev sent_state : State
  sent_state = record s { apps = change (apps.sent bytes) k s.apps }

  sent_fits : Fits sent_state
  sent_fits = fits_changed s k a (apps.sent bytes) fits own.there own.at_door (record {
    at_door = own.at_door;
    number = refl;
    dial = refl;
    early = fits.fronts.early k a own.there own.at_door;
    unheard = λ z. let none : suc n ≡ 0 = sym own.number ∙ z in absurd cc;
    refused = fits.fronts.refused k a own.there own.at_door;
    present = λ m e g. fits.fronts.present k m a own.there own.at_door e g;
    gone = λ m e g. fits.fronts.gone k m a own.there own.at_door e g;
  })

  pub sends_leads : Leads s sent_state
  sends_leads = leads_one s sent_state (AppSends k bytes) sent_fits (ap (λ (w : WorldApp). w.came) (app_shown s k n a own))
      (worlds_same (after (AppSends k bytes) (shown s)) (shown sent_state) refl (λ l. refl) (λ c. refl) (λ l. refl)
      (streams_changed s k n a (apps.sent bytes) (λ b x. x) fits own (λ x. refl) refl) (λ d. refl)
      (apps_changed s k n a (apps.sent bytes) (λ b x. record x { side = side_if b (sends bytes) x.side }) own own.at_door own.number (λ x. refl) refl))

module _ (go : KeysGoOn) (bytes : List ℕ) (s : State) (k n : ℕ) (a : App) (fits : Fits s) (keys : Keys (shown s)) (own : Own s k n a) where
  pub sent_leads : Leads s (effects.app_sent bytes k s)
  sent_leads = leads_then go s (record s { apps = change (apps.sent bytes) k s.apps }) (effects.app_sent bytes k s) keys (sends_leads bytes s k n a fits own)
      (λ fit key. settles_leads go plain_serves (record s { apps = change (apps.sent bytes) k s.apps }) k (apps.sent bytes a) fit key (changed_own (apps.sent bytes) k s.apps a own.there) own.at_door)

-- one whose head was whole has a number
pub door_sends_leads : KeysGoOn → (bytes : List ℕ) (k : ℕ) (s : State) (a : App) → nth k s.apps ≡ Some a → a.home ≡ home.Connect → effects.is_app_unheard k s ≡ false → Fits s → Keys (shown s) → Leads s (effects.app_sent bytes k s)
door_sends_leads go bytes k s a there at_door heard fits keys = here a.door.number refl
  where
    is_heard : (a.door.number == 0) ≡ false
    is_heard = sym (ap (λ o. effects.is_unheard_of o) there ∙ ap (λ h. effects.is_unheard h a) at_door) ∙ heard

    here : (m : ℕ) → a.door.number ≡ m → Leads s (effects.app_sent bytes k s)
    here zero e = absurd (cc (sym (ap (λ m. m == 0) e) ∙ is_heard))
    here (suc n) e = sent_leads go bytes s k n a fits keys (record { there = there; at_door = at_door; number = e })
