-- What an app of a client sent goes to its client while its tunnel is open, and its end behind the last byte.
use Rattle.std.proofs.Common.{◌≡◌, ◌&&◌, ℕ, Bool, true, false, not, length, Option, Some, None, refl, sym, ap, ◌∙◌, subst}
use Rattle.std.specs.Option.{option_map}
use Rattle.std.specs.Prelude.{if◌then◌else◌}
use Rattle.kn_tables.specs.Lists.{first_where}
use Rattle.kn_edge_core.specs.Client as edge
use Rattle.kn_edge_core.specs.ClientTables.{is_app}
use Rattle.kn_edge_core.specs.declared.app.App.{App as ListedApp}
use Rattle.kn_edge_core.specs.declared.app.AppState.{AppState}
use Rattle.kn_edge_core.specs.declared.app.AppState.TheVariants as listed
use Rattle.kn_edge_core.specs.declared.client_event.ClientEvent.TheVariants as event
use Rattle.kn_packets.specs.Keys.{Keys}
use Rattle.kn_packets.specs.Moves.{AppEnds, client_does}
use Rattle.kn_world.specs.declared.parts.App.{App}
use Rattle.kn_world.specs.declared.parts.Client.{Client}
use Rattle.kn_world.specs.declared.parts.Door.{Door}
use Rattle.kn_world.specs.declared.parts.Home.TheVariants as home
use Rattle.kn_world.specs.declared.parts.Stage.{Stage}
use Rattle.kn_world.specs.declared.parts.Stage.TheVariants as stage
use Rattle.kn_world.specs.declared.state.State.{State}
use Rattle.kn_world.specs.Apps as apps
use Rattle.kn_world.specs.Clients as clients
use Rattle.kn_world.specs.ClientSteps.{step}
use Rattle.kn_world.specs.Doors.{kept_count as kept_at_door}
use Rattle.kn_world.specs.Handing as handing
use Rattle.kn_world.specs.Numbers.{change, nth}
use Rattle.kn_world.specs.Pieces.{pieces}
use Rattle.kn_world.specs.States.{new_door}
use Rattle.kn_world.specs.Times.{times}
use Rattle.kn_refinement.specs.Fits.{Fits}
pub use Rattle.kn_refinement.specs.Homes.{OfClient}
use Rattle.kn_refinement.specs.Shown.{is_told, shown}
use Rattle.kn_refinement.proofs.AppChanges.{ClientLeads, IsAt, apps_rising, changed_kept, client_leads_none, client_leads_then, clients_as_they_were, does_is, leads_same, same_shown, change_fits}
use Rattle.kn_refinement.proofs.AppHands.{came_is, not_by_connect, nothing_stepped, pieces_lead, still_at, then_step, times_zero, unlisted_if_untold}
use Rattle.kn_refinement.proofs.ClientKept.{AppKept}
use Rattle.kn_refinement.proofs.ClientStepped.{is_connect}
use Rattle.kn_refinement.proofs.Worlds.{KeysGoOn}

-- ---- its end is told
module _ (s : State) (k c n : ℕ) (a : App) (x : Client) (fits : Fits s) (keys : Keys (shown s)) (here : IsAt s k c n a x) where
  -- nothing of which is shown
  abbrev told_state : State
  told_state = record s { apps = change apps.end_told k s.apps }

  keeps_told : AppKept a (apps.end_told a)
  keeps_told = record { connect = λ h. let flags : true ≡ false = ap is_connect (sym h ∙ here.home) in absurd cc; home = refl; dial = refl; door = refl }

  fits_told : Fits told_state
  fits_told = change_fits s k c n a x fits here apps.end_told keeps_told (λ within noted. noted)

  pub ended_here : (b : Bool) → is_told n (Some x) ≡ b → ClientLeads s (step c (event.AppEnd n) told_state)
  ended_here true told = then_step s told_state c (event.AppEnd n) x (AppEnds k) fits_told here.there (apps_rising s c x keys here.there) tt (λ m. refl) (changed_kept s k c n a x fits here apps.end_told keeps_told) (clients_as_they_were s.clients)
      (ap (λ b. b && not ((shown s).streams ((shown s).apps k).stream).connect) (came_is s k c n a x here told) ∙ ap (λ b. not b) (not_by_connect s k c n a x fits here told))
      (does_is s k c n a x fits here told (λ m. event.AppEnd m) ∙ ap (λ w. client_does c (event.AppEnd n) w) (sym (same_shown s k c n a x fits here apps.end_told keeps_told refl)))
  ended_here false untold = subst (λ t. ClientLeads s t)
      (sym (nothing_stepped told_state c (event.AppEnd n) x here.there (ap (λ o. edge.app_ended x.core o) (unlisted_if_untold s c n x fits here.there untold))))
      (leads_same s k c n a x fits here apps.end_told keeps_told refl refl)

  pub end_is : handing.gives_end k s ≡ step c (event.AppEnd n) told_state
  end_is = ap (λ o. handing.gives_end_of o k s) here.at ∙ ap (λ h. handing.gives_end_to h k told_state) here.home

  pub end_leads : ClientLeads s (handing.ends_if_due k s)
  end_leads = by (handing.is_end_due k s)
    where
      by : (b : Bool) → ClientLeads s (if b then handing.gives_end k s else s)
      by true = subst (λ t. ClientLeads s t) (sym end_is) (ended_here (is_told n (Some x)) refl)
      by false = client_leads_none s fits

  -- the server holds nothing of it
  nothing_kept : (st : Stage) → a.door ≡ new_door → kept_at_door st a ≡ 0
  nothing_kept stage.Open door = ap (λ (d : Door). length d.early) door
  nothing_kept stage.Dialling door = refl
  nothing_kept stage.Refused door = refl
  nothing_kept stage.Ended door = refl

  pub server_hears_none : handing.server_hears_kept k s ≡ s
  server_hears_none = ap (λ o. times (apps.kept_count o) (handing.server_hears k) s) here.at ∙ ap (λ m. times m (handing.server_hears k) s) (nothing_kept a.stage (fits.clients.no_door k c n a here.at here.home)) ∙ times_zero (handing.server_hears k) s

-- an app of a client, or none
pub is_at : (s : State) (k : ℕ) (a : App) → Fits s → nth k s.apps ≡ Some a → (c : ℕ) × (n : ℕ) × (a.home ≡ home.Client c n) → (c : ℕ) × (n : ℕ) × (x : Client) × IsAt s k c n a x
is_at s k a fits at h = by (fits.clients.number_of k h.0 h.1 a at h.2)
  where
    by : (x : Client) × (nth h.0 s.clients ≡ Some x) × (nth h.1 x.apps ≡ Some k) → (c : ℕ) × (n : ℕ) × (x : Client) × IsAt s k c n a x
    by x = (h.0, h.1, x.0, record { at = at; home = h.2; there = x.1 })

module _ (go : KeysGoOn) where
  -- ---- all that it sent
  wanted_lead : (s : State) (k c n : ℕ) (a : App) (x : Client) → Fits s → Keys (shown s) → IsAt s k c n a x → ClientLeads s (handing.hands_wanted k s)
  wanted_lead s k c n a x fits keys here = subst (λ m. ClientLeads s (times m (handing.hands_piece k) s)) (sym count_is) (by (first_where (is_app n) x.core.apps) refl)
    where
      count_is : handing.count_wanted k s ≡ handing.pieces_at (clients.state_at n (Some x)) (length a.side.sending.waiting)
      count_is = ap (λ o. handing.count_wanted_of o s.clients) here.at ∙ ap (λ h. handing.pieces_wanted h a s.clients) here.home ∙ ap (λ o. handing.pieces_at (clients.state_at n o) (length a.side.sending.waiting)) here.there

      none : ClientLeads s (times 0 (handing.hands_piece k) s)
      none = subst (λ t. ClientLeads s t) (sym (times_zero (handing.hands_piece k) s)) (client_leads_none s fits)

      by_state : (y : ListedApp) → first_where (is_app n) x.core.apps ≡ Some y → (st : AppState) → y.state ≡ st → ClientLeads s (times (handing.pieces_at (Some st) (length a.side.sending.waiting)) (handing.hands_piece k) s)
      by_state y has listed.Open is = pieces_lead go (pieces (length a.side.sending.waiting)) s k c n a x fits keys here y has is
      by_state y has listed.Dialling is = none
      by_state y has listed.Closing is = none
      by_state y has listed.Lingering is = none

      by : (o : Option ListedApp) → first_where (is_app n) x.core.apps ≡ o → ClientLeads s (times (handing.pieces_at (option_map (λ (y : ListedApp). y.state) o) (length a.side.sending.waiting)) (handing.hands_piece k) s)
      by None has = none
      by (Some y) has = by_state y has y.state refl

  settled : (s : State) (k c n : ℕ) (a : App) (x : Client) → Fits s → Keys (shown s) → IsAt s k c n a x → ClientLeads s (handing.settles k s)
  settled s k c n a x fits keys here = client_leads_then go s (handing.hands_wanted k s) (handing.settles k s) keys first
      (λ fit key. let next = still_at s (handing.hands_wanted k s) k c n a x here first.apps first.clients in
      subst (λ t. ClientLeads (handing.hands_wanted k s) (handing.ends_if_due k t)) (sym (server_hears_none (handing.hands_wanted k s) k c n next.0 next.1 fit key next.2))
      (end_leads (handing.hands_wanted k s) k c n next.0 next.1 fit key next.2))
    where
      first : ClientLeads s (handing.hands_wanted k s)
      first = wanted_lead s k c n a x fits keys here

  nobody_settles : (s : State) (k : ℕ) → nth k s.apps ≡ None → handing.settles k s ≡ s
  nobody_settles s k none = ap (λ t. handing.ends_if_due k (handing.server_hears_kept k t)) hands ∙ ap (λ t. handing.ends_if_due k t) hears ∙ ap (λ o. if handing.is_end_due_of o then handing.gives_end k s else s) none
    where
      hands : handing.hands_wanted k s ≡ s
      hands = ap (λ o. times (handing.count_wanted_of o s.clients) (handing.hands_piece k) s) none ∙ times_zero (handing.hands_piece k) s

      hears : handing.server_hears_kept k s ≡ s
      hears = ap (λ o. times (apps.kept_count o) (handing.server_hears k) s) none ∙ times_zero (handing.server_hears k) s

  pub settles_leads : (s : State) (k : ℕ) → Fits s → Keys (shown s) → OfClient k s → ClientLeads s (handing.settles k s)
  settles_leads s k fits keys of_client = by (nth k s.apps) refl
    where
      by : (o : Option App) → nth k s.apps ≡ o → ClientLeads s (handing.settles k s)
      by None none = subst (λ t. ClientLeads s t) (sym (nobody_settles s k none)) (client_leads_none s fits)
      by (Some a) at = let it = is_at s k a fits at (of_client a at) in settled s k it.0 it.1 a it.2 fits keys it.3
