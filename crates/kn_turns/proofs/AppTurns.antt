-- An app of a client sends, ends its sending or is held, and its client is given the next of its bytes, or the end.
use Rattle.std.proofs.Common.{◌≡◌, ℕ, Bool, List, Option, None, Some, refl, sym, ap, ◌∙◌, subst}
use Rattle.std.specs.Option.{option_map}
use Rattle.kn_tables.specs.Lists.{first_where}
use Rattle.kn_edge_core.specs.ClientTables.{is_app}
use Rattle.kn_edge_core.specs.declared.app.App.{App as ListedApp}
use Rattle.kn_edge_core.specs.declared.app.AppState.TheVariants.{Open}
use Rattle.kn_packets.specs.Keys.{Keys}
use Rattle.kn_world.specs.declared.parts.App.{App}
use Rattle.kn_world.specs.declared.parts.Client.{Client}
use Rattle.kn_world.specs.declared.parts.Home.{Home}
use Rattle.kn_world.specs.declared.parts.Home.TheVariants as home
use Rattle.kn_world.specs.declared.state.State.{State}
use Rattle.kn_world.specs.Apps as apps
use Rattle.kn_world.specs.AppSteps as steps
use Rattle.kn_world.specs.Clients as clients
use Rattle.kn_world.specs.Handing as handing
use Rattle.kn_world.specs.Numbers.{nth}
use Rattle.kn_refinement.specs.Fits.{Fits}
use Rattle.kn_refinement.specs.Homes.{OfClient}
use Rattle.kn_refinement.specs.Leads.{Leads}
use Rattle.kn_refinement.specs.Shown.{is_told, shown}
use Rattle.kn_refinement.proofs.AgentDials.{stays}
use Rattle.kn_refinement.proofs.AppChanges.{IsAt}
use Rattle.kn_refinement.proofs.AppHands.{piece_leads, sends_leads}
use Rattle.kn_refinement.proofs.AppSettles.{end_is, ended_here, is_at}
use Rattle.kn_refinement.proofs.AppTakes.{unseen}
use Rattle.kn_refinement.proofs.ClientStepped.{some_same}
use Rattle.kn_refinement.proofs.NumberLemmas.{nth_none}
use Rattle.kn_turns.specs.Notes.{app_ended, app_holding, app_sent}

pub sends_turn : (k : ℕ) (bytes : List ℕ) (s : State) → OfClient k s → Fits s → Leads s (app_sent bytes k s)
sends_turn k bytes s of_client fits = by (nth k s.apps) refl
  where
    by : (o : Option App) → nth k s.apps ≡ o → Leads s (app_sent bytes k s)
    by None none = stays s (app_sent bytes k s) fits (ap (λ ys. record s { apps = ys }) (nth_none (apps.sent bytes) k s.apps none))
    by (Some a) at = let it = is_at s k a fits at (of_client a at) in (sends_leads s k it.0 it.1 a it.2 fits it.3 bytes).leads

pub stops_turn : (k : ℕ) (s : State) → OfClient k s → Fits s → Leads s (app_ended k s)
stops_turn k s of_client fits = (unseen apps.ended (λ a. refl) (λ a. refl) (λ a. refl) (λ a. refl) (λ n x a. refl) s k fits of_client).leads

pub holds_turn : (k : ℕ) (held : Bool) (s : State) → OfClient k s → Fits s → Leads s (app_holding held k s)
holds_turn k held s of_client fits = (unseen (apps.holding held) (λ a. refl) (λ a. refl) (λ a. refl) (λ a. refl) (λ n x a. refl) s k fits of_client).leads

pub ends_turn : (k : ℕ) (s : State) → OfClient k s → Fits s → Keys (shown s) → Leads s (handing.gives_end k s)
ends_turn k s of_client fits keys = by (nth k s.apps) refl
  where
    by : (o : Option App) → nth k s.apps ≡ o → Leads s (handing.gives_end k s)
    by None none = stays s (handing.gives_end k s) fits (ap (λ o. handing.gives_end_of o k s) none)
    by (Some a) at =
        let it = is_at s k a fits at (of_client a at) in
        subst (λ t. Leads s t) (sym (end_is s k it.0 it.1 a it.2 fits keys it.3)) (ended_here s k it.0 it.1 a it.2 fits keys it.3 (is_told it.1 (Some it.2)) refl).leads

-- an app that is open as its client knows it
pub hands_turn : (k : ℕ) (s : State) → steps.state_of k s ≡ Some Open → Fits s → Keys (shown s) → Leads s (handing.hands_piece k s)
hands_turn k s is_open fits keys = by (nth k s.apps) refl is_open
  where
    listed : (c n : ℕ) (a : App) (x : Client) → IsAt s k c n a x → (o : Option ListedApp) → first_where (is_app n) x.core.apps ≡ o → option_map (λ (y : ListedApp). y.state) o ≡ Some Open → Leads s (handing.hands_piece k s)
    listed c n a x here None has e = absurd cc
    listed c n a x here (Some y) has e = (piece_leads s k c n a x fits keys here y has (some_same y.state Open e)).leads

    by_home : (a : App) → nth k s.apps ≡ Some a → (h : Home) → a.home ≡ h → clients.state_of h s.clients ≡ Some Open → Leads s (handing.hands_piece k s)
    by_home a at home.Connect is e = absurd cc
    by_home a at (home.Client c n) is e =
        let it = is_at s k a fits at (c, n, is) in
        listed it.0 it.1 a it.2 it.3 (first_where (is_app it.1) it.2.core.apps) refl
        (sym (ap (λ o. clients.state_at it.1 o) it.3.there) ∙ sym (ap (λ h. clients.state_of h s.clients) it.3.home) ∙ ap (λ h. clients.state_of h s.clients) is ∙ e)

    by : (o : Option App) → nth k s.apps ≡ o → steps.state_of_app o s.clients ≡ Some Open → Leads s (handing.hands_piece k s)
    by None at e = absurd cc
    by (Some a) at e = by_home a at a.home refl e
