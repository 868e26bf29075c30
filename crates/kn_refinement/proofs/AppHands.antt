-- An app of a client sends bytes, which go to its client piece by piece while its tunnel is open, and ends.
use Rattle.std.proofs.Common.{◌≡◌, ◌&&◌, ◌||◌, ◌≤◌, ◌<◌, ℕ, zero, suc, Bool, true, false, not, List, take, Option, Some, None, refl, sym, ap, ◌∙◌, subst, arith}
use Rattle.std.specs.Prelude.{nat_lt, slice_set}
use Rattle.std.proofs.lemmas.Bool.{ltb-true}
use Rattle.kn_tables.specs.Lists.{IsRising, first_where}
use Rattle.kn_edge_core.specs.Client as edge
use Rattle.kn_edge_core.specs.ClientTables.{is_app}
use Rattle.kn_edge_core.specs.Steps.{ClientStep}
use Rattle.kn_edge_core.specs.declared.app.App.{App as ListedApp}
use Rattle.kn_edge_core.specs.declared.app.AppState.TheVariants as listed
use Rattle.kn_edge_core.specs.declared.client_event.ClientEvent.{ClientEvent}
use Rattle.kn_edge_core.specs.declared.client_event.ClientEvent.TheVariants as event
use Rattle.kn_edge_core.specs.declared.client_state.ClientState.{ClientState}
use Rattle.kn_tunnel.specs.Kinds.{is_dialling, is_opened}
use Rattle.kn_packets.specs.Keys.{Keys}
use Rattle.kn_packets.specs.Moves.{AppHands, AppSends, May, Move, after, app_is, client_does, hands, hands_over, sends}
use Rattle.kn_packets.specs.World.{WorldApp, WorldStream, app_phase, listed_phase, phase_in, phase_of}
use Rattle.kn_world.specs.declared.parts.App.{App}
use Rattle.kn_world.specs.declared.parts.Client.{Client}
use Rattle.kn_world.specs.declared.state.State.{State}
use Rattle.kn_world.specs.Apps as apps
use Rattle.kn_world.specs.Clients as clients
use Rattle.kn_world.specs.ClientSteps.{gives_all, step}
use Rattle.kn_world.specs.Handing as handing
use Rattle.kn_world.specs.Numbers.{change, changed, nth}
use Rattle.kn_world.specs.Times.{times}
use Rattle.kn_refinement.specs.Fits.{Fits}
use Rattle.kn_refinement.specs.Leads.{Leads}
use Rattle.kn_refinement.specs.Shown.{client_of, is_told, noted_phase, shown}
use Rattle.kn_refinement.proofs.AppChanges.{ClientLeads, IsAt, app_stream, apps_rising, apps_then, at_after, change_fits, changed_kept, client_leads_none, client_leads_then, clients_as_they_were, clients_then, does_is, its_stream, side_shown, told_app, untold_shown}
use Rattle.kn_refinement.proofs.ClientGiven.{stepped_client}
use Rattle.kn_refinement.proofs.ClientKept.{AppKept, AppsKept, ClientKept, ClientsKept, alike_forth}
use Rattle.kn_refinement.proofs.ClientStepped.{is_connect, its_client, step_fits, step_keeps_apps, step_keeps_clients, step_shown}
use Rattle.kn_refinement.proofs.ClientTurns.{IsOfApps, may_open}
use Rattle.kn_refinement.proofs.Worlds.{KeysGoOn, leads_none, leads_one}
use Rattle.kn_refinement.proofs.Changes.{set_as_was}

-- ---- a step that a change comes before is one move
pub then_step : (s t : State) (c : ℕ) (e : ClientEvent) (x : Client) (m : Move) → Fits t → nth c t.clients ≡ Some x → IsRising (λ (y : ListedApp). y.number) x.core.apps → IsOfApps e → ((n : ℕ) → may_open e n ≡ false)
    → AppsKept s.apps t.apps → ClientsKept s.clients t.clients → May m (shown s) → after m (shown s) ≡ client_does c e (shown t) → ClientLeads s (step c e t)
then_step s t c e x m fits there rising of_apps none apps clients may made = record {
  leads = leads_one s (step c e t) m (step_fits t c e x fits there rising of_apps none) may (made ∙ sym (step_shown t c e x fits there rising of_apps));
  apps = apps_then s t (step c e t) apps (step_keeps_apps t c e x fits there rising of_apps);
  clients = clients_then s t (step c e t) clients (step_keeps_clients t c e x fits there rising of_apps);
}

-- ---- an event that its client ignores
pub changed_as_was : {X : Type 0} (f : X → X) (n : ℕ) (xs : List X) (x : X) → nth n xs ≡ Some x → f x ≡ x → change f n xs ≡ xs
changed_as_was f zero xs x h same = absurd cc
changed_as_was f (suc i) xs x h same = ap (λ o. changed f (suc i) xs o) h ∙ ap (λ y. slice_set xs i y) same ∙ set_as_was xs i x h

pub nothing_stepped : (s : State) (c : ℕ) (e : ClientEvent) (x : Client) → nth c s.clients ≡ Some x → edge.step x.core e ≡ edge.ignored x.core → step c e s ≡ s
nothing_stepped s c e x there ignored =
    ap (λ o. gives_all (clients.told e o) c (record s { clients = change (clients.stepped e) c s.clients })) there
    ∙ ap (λ (r : ClientStep). gives_all r.outs c (record s { clients = change (clients.stepped e) c s.clients })) ignored
    ∙ ap (λ xs. record s { clients = xs }) (changed_as_was (clients.stepped e) c s.clients x there (ap (λ (r : ClientStep). record x { core = r.state }) ignored))

-- ---- an app that its client has was told of, and one that it was not told of it has not
pub told_if_listed : (s : State) (c n : ℕ) (x : Client) (y : ListedApp) → Fits s → nth c s.clients ≡ Some x → first_where (is_app n) x.core.apps ≡ Some y → is_told n (Some x) ≡ true
told_if_listed s c n x y fits there has = by (nat_lt x.core.top_app n) refl
  where
    by : (b : Bool) → nat_lt x.core.top_app n ≡ b → not b ≡ true
    by false e = refl
    by true e = let above : x.core.top_app < n = ltb-true x.core.top_app n e in let within : n ≤ x.core.top_app = fits.clients.told c n x y there has in absurd (omega arith)

pub unlisted_if_untold : (s : State) (c n : ℕ) (x : Client) → Fits s → nth c s.clients ≡ Some x → is_told n (Some x) ≡ false → first_where (is_app n) x.core.apps ≡ None
unlisted_if_untold s c n x fits there untold = by (first_where (is_app n) x.core.apps) refl
  where
    by : (o : Option ListedApp) → first_where (is_app n) x.core.apps ≡ o → o ≡ None
    by None h = refl
    by (Some y) h = let two : true ≡ false = sym (told_if_listed s c n x y fits there h) ∙ untold in absurd cc

-- what it has come to in the packet world
pub phase_is : (s : State) (k c n : ℕ) (a : App) (x : Client) → Fits s → IsAt s k c n a x → is_told n (Some x) ≡ true → phase_in (shown s) ((shown s).apps k) ≡ listed_phase (first_where (is_app n) x.core.apps) (noted_phase a.stage)
phase_is s k c n a x fits here told =
    ap (λ w. phase_in (shown s) w) (told_app s k c n a x here true told)
    ∙ ap (λ (v : WorldStream). phase_of v.connect (first_where (is_app n) ((shown s).clients v.owner).apps) (noted_phase a.stage)) (its_stream s c x fits here.there)
    ∙ ap (λ o. listed_phase (first_where (is_app n) (client_of o).apps) (noted_phase a.stage)) here.there

pub came_is : (s : State) (k c n : ℕ) (a : App) (x : Client) → IsAt s k c n a x → is_told n (Some x) ≡ true → ((shown s).apps k).came ≡ true
came_is s k c n a x here told = ap (λ (w : WorldApp). w.came) (told_app s k c n a x here true told)

pub not_by_connect : (s : State) (k c n : ℕ) (a : App) (x : Client) → Fits s → IsAt s k c n a x → is_told n (Some x) ≡ true → ((shown s).streams ((shown s).apps k).stream).connect ≡ false
not_by_connect s k c n a x fits here told = ap (λ (v : WorldStream). v.connect) (app_stream s k c n a x fits here told)

-- ---- it sends bytes
pub sends_leads : (s : State) (k c n : ℕ) (a : App) (x : Client) → Fits s → IsAt s k c n a x → (bytes : List ℕ) → ClientLeads s (record s { apps = change (apps.sent bytes) k s.apps })
sends_leads s k c n a x fits here bytes = by (is_told n (Some x)) refl
  where
    keeps : AppKept a (apps.sent bytes a)
    keeps = record { connect = λ h. let flags : true ≡ false = ap is_connect (sym h ∙ here.home) in absurd cc; home = refl; dial = refl; door = refl }

    fits_on : Fits (record s { apps = change (apps.sent bytes) k s.apps })
    fits_on = change_fits s k c n a x fits here (apps.sent bytes) keeps (λ within noted. noted)

    leads : (b : Bool) → is_told n (Some x) ≡ b → Leads s (record s { apps = change (apps.sent bytes) k s.apps })
    leads true told = leads_one s (record s { apps = change (apps.sent bytes) k s.apps }) (AppSends k bytes) fits_on (came_is s k c n a x here told) (sym (side_shown s k c n a x fits here (apps.sent bytes) keeps (sends bytes) told refl))
    leads false told = leads_none s (record s { apps = change (apps.sent bytes) k s.apps }) fits_on (sym (untold_shown s k c n a x fits here (apps.sent bytes) keeps told))

    by : (b : Bool) → is_told n (Some x) ≡ b → ClientLeads s (record s { apps = change (apps.sent bytes) k s.apps })
    by b told = record { leads = leads b told; apps = changed_kept s k c n a x fits here (apps.sent bytes) keeps; clients = clients_as_they_were s.clients }

-- ---- a piece of them goes to its client
module _ (s : State) (k c n : ℕ) (a : App) (x : Client) (fits : Fits s) (keys : Keys (shown s)) (here : IsAt s k c n a x) (y : ListedApp) (has : first_where (is_app n) x.core.apps ≡ Some y) (is_open : y.state ≡ listed.Open) where
  told_of : is_told n (Some x) ≡ true
  told_of = told_if_listed s c n x y fits here.there has

  abbrev piece : List ℕ
  piece = take 16384 a.side.sending.waiting

  abbrev handed_state : State
  handed_state = record s { apps = change (apps.handed 16384) k s.apps }

  keeps_handed : AppKept a (apps.handed 16384 a)
  keeps_handed = record { connect = λ h. let flags : true ≡ false = ap is_connect (sym h ∙ here.home) in absurd cc; home = refl; dial = refl; door = refl }

  fits_handed : Fits handed_state
  fits_handed = change_fits s k c n a x fits here (apps.handed 16384) keeps_handed (λ within noted. noted)

  shown_handed : shown handed_state ≡ app_is k (hands 16384) (shown s)
  shown_handed = side_shown s k c n a x fits here (apps.handed 16384) keeps_handed (hands 16384) told_of refl

  at_handed : IsAt handed_state k c n (apps.handed 16384 a) x
  at_handed = at_after s k c n a x fits here (apps.handed 16384) keeps_handed

  pub piece_is : handing.hands_piece k s ≡ step c (event.AppBytes n piece) handed_state
  piece_is = ap (λ o. handing.hands_piece_of o k s) here.at ∙ ap (λ h. handing.hands_to h piece k handed_state) here.home

  opened_here : ((shown s).apps k).came && (is_opened (phase_in (shown s) ((shown s).apps k)) || (((shown s).streams ((shown s).apps k).stream).connect && is_dialling (phase_in (shown s) ((shown s).apps k)))) ≡ true
  opened_here =
      ap (λ b. b && (is_opened (phase_in (shown s) ((shown s).apps k)) || (((shown s).streams ((shown s).apps k).stream).connect && is_dialling (phase_in (shown s) ((shown s).apps k))))) (came_is s k c n a x here told_of)
      ∙ ap (λ p. is_opened p || (((shown s).streams ((shown s).apps k).stream).connect && is_dialling p)) (phase_is s k c n a x fits here told_of ∙ ap (λ o. listed_phase o (noted_phase a.stage)) has ∙ ap app_phase is_open)

  piece_made : after (AppHands k 16384) (shown s) ≡ client_does c (event.AppBytes n piece) (shown handed_state)
  piece_made =
      ap (λ b. hands_over b k (take 16384 ((shown s).apps k).side.kept) (app_is k (hands 16384) (shown s))) (not_by_connect s k c n a x fits here told_of)
      ∙ ap (λ w. hands_over false k (take 16384 ((shown s).apps k).side.kept) w) (sym shown_handed)
      ∙ does_is handed_state k c n (apps.handed 16384 a) x fits_handed at_handed told_of (λ m. event.AppBytes m (take 16384 ((shown s).apps k).side.kept))
      ∙ ap (λ (w : WorldApp). client_does c (event.AppBytes n (take 16384 w.side.kept)) (shown handed_state)) (told_app s k c n a x here true told_of)

  pub piece_leads : ClientLeads s (handing.hands_piece k s)
  piece_leads = subst (λ t. ClientLeads s t) (sym piece_is)
      (then_step s handed_state c (event.AppBytes n piece) x (AppHands k 16384) fits_handed here.there (apps_rising s c x keys here.there) tt (λ m. refl) (changed_kept s k c n a x fits here (apps.handed 16384) keeps_handed)
      (clients_as_they_were s.clients) opened_here piece_made)

  -- its client knows it as before
  core_same : (edge.step x.core (event.AppBytes n piece)).state ≡ x.core
  core_same = ap (λ o. (edge.app_bytes x.core piece o).state) has ∙ ap (λ st. (edge.app_bytes_by_state x.core y.connect_id piece st).state) is_open

  pub client_piece : nth c (handing.hands_piece k s).clients ≡ Some (stepped_client (edge.step x.core (event.AppBytes n piece)) x)
  client_piece = ap (λ (t : State). nth c t.clients) piece_is ∙ its_client handed_state c (event.AppBytes n piece) x fits_handed here.there (apps_rising s c x keys here.there) tt

  pub has_piece : first_where (is_app n) (edge.step x.core (event.AppBytes n piece)).state.apps ≡ Some y
  has_piece = ap (λ (v : ClientState). first_where (is_app n) v.apps) core_same ∙ has

-- an app is where it was
pub still_at : (s t : State) (k c n : ℕ) (a : App) (x : Client) → IsAt s k c n a x → AppsKept s.apps t.apps → ClientsKept s.clients t.clients → (b : App) × (v : Client) × IsAt t k c n b v × AppKept a b × ClientKept x v
still_at s t k c n a x here apps clients = by (alike_forth AppKept (nth k s.apps) (nth k t.apps) a (apps k) here.at) (alike_forth ClientKept (nth c s.clients) (nth c t.clients) x (clients c) here.there)
  where
    by : (b : App) × (nth k t.apps ≡ Some b) × AppKept a b → (v : Client) × (nth c t.clients ≡ Some v) × ClientKept x v → (b : App) × (v : Client) × IsAt t k c n b v × AppKept a b × ClientKept x v
    by b v = (b.0, v.0, record { at = b.1; home = b.2.home ∙ here.home; there = v.1 }, b.2, v.2)

pub times_zero : {S : Type 0} (f : S → S) (s : S) → times 0 f s ≡ s
unfolding times
times_zero f s = refl

times_suc : {S : Type 0} (n : ℕ) (f : S → S) (s : S) → times (suc n) f s ≡ times n f (f s)
unfolding times
times_suc n f s = refl

module _ (go : KeysGoOn) where
  pub pieces_lead : (count : ℕ) (s : State) (k c n : ℕ) (a : App) (x : Client) → Fits s → Keys (shown s) → IsAt s k c n a x → (y : ListedApp) → first_where (is_app n) x.core.apps ≡ Some y → y.state ≡ listed.Open → ClientLeads s (times count (handing.hands_piece k) s)
  pieces_lead zero s k c n a x fits keys here y has is_open = subst (λ t. ClientLeads s t) (sym (times_zero (handing.hands_piece k) s)) (client_leads_none s fits)
  pieces_lead (suc count) s k c n a x fits keys here y has is_open = subst (λ t. ClientLeads s t) (sym (times_suc count (handing.hands_piece k) s))
      (client_leads_then go s (handing.hands_piece k s) (times count (handing.hands_piece k) (handing.hands_piece k s)) keys first
      (λ fit key. let next = still_at s (handing.hands_piece k s) k c n a x here first.apps first.clients in
      pieces_lead count (handing.hands_piece k s) k c n next.0 (stepped_client (edge.step x.core (event.AppBytes n (take 16384 a.side.sending.waiting))) x) fit key
      (record { at = next.2.at; home = next.2.home; there = client_piece s k c n a x fits keys here y has is_open }) y (has_piece s k c n a x fits keys here y has is_open) is_open))
    where
      first : ClientLeads s (handing.hands_piece k s)
      first = piece_leads s k c n a x fits keys here y has is_open
