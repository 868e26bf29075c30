-- An app comes at a client: it asks for an address by a move, or is refused at once, and is none of the packet world.
use Rattle.std.proofs.Common.{◌≡◌, ◌==◌, ◌&&◌, ◌+◌, ◌≤◌, ◌<◌, ◌++◌, ℕ, pos, suc, Bool, true, false, not, cond, List, [], ◌∷◌, length, Option, Some, None, refl, sym, ap, ◌∙◌, subst, eqb-true, ltb-true, ltb-false, arith}
use Rattle.std.specs.Prelude.{codes, is_some, nat_lt, if◌then◌else◌}
use Rattle.kn_tables.specs.Lists.{first_where}
use Rattle.kn_server_core.proofs.SoundLemmas.{first_in_place}
use Rattle.kn_server_core.proofs.TunnelTables.{false_unless, put_found}
use Rattle.kn_edge_core.specs.Client as edge
use Rattle.kn_edge_core.specs.ClientTables.{is_app}
use Rattle.kn_edge_core.specs.Steps.{ClientStep}
use Rattle.kn_edge_core.specs.declared.app.App.{App as ListedApp}
use Rattle.kn_edge_core.specs.declared.app.AppState.{AppState}
use Rattle.kn_edge_core.specs.declared.app.AppState.TheVariants as listed
use Rattle.kn_edge_core.specs.declared.client_event.ClientEvent.TheVariants as event
use Rattle.kn_tunnel.specs.Steps.{no_bytes}
use Rattle.kn_tunnel.specs.Tunnel.{Dialling}
use Rattle.kn_packets.specs.Keys.{Keys}
use Rattle.kn_packets.specs.Moves.{AppComes, after, app_begins, app_side_after, client_does, client_stepped, is_of_client, new_app as new_world_app, no_app, phase_after}
use Rattle.kn_packets.specs.Outputs.{for_app, from_client, queued}
use Rattle.kn_packets.specs.World.{WorldApp, WorldStream, put_at}
use Rattle.kn_packets.proofs.Fresh.{eqb_refl}
use Rattle.kn_world.specs.declared.parts.App.{App}
use Rattle.kn_world.specs.declared.parts.Client.{Client}
use Rattle.kn_world.specs.declared.parts.Home.{Home}
use Rattle.kn_world.specs.declared.parts.Home.TheVariants as home
use Rattle.kn_world.specs.declared.parts.Owner.{Owner}
use Rattle.kn_world.specs.declared.parts.Owner.TheVariants as owner
use Rattle.kn_world.specs.declared.state.State.{State}
use Rattle.kn_world.specs.Apps as apps
use Rattle.kn_world.specs.Arrivals.{app_came, app_comes, app_comes_at, asks, refuses}
use Rattle.kn_world.specs.Clients as clients
use Rattle.kn_world.specs.Numbers.{change, nth}
use Rattle.kn_world.specs.States.{new_app, new_side}
use Rattle.kn_refinement.specs.Fits.{Fits}
use Rattle.kn_refinement.specs.Leads.{Leads}
use Rattle.kn_refinement.specs.Shown.{app_at_home, app_of, client_app, client_of, client_stream, connect_stream, is_told, shown, side_of, stream_of}
use Rattle.kn_refinement.proofs.AppArrives.{Told, arrived_fits, nth_beyond, nth_last}
use Rattle.kn_refinement.proofs.AppChanges.{its_stream}
use Rattle.kn_refinement.proofs.Changes.{changed_other, changed_own}
use Rattle.kn_refinement.proofs.ClientBecame.{Noted, app_became}
use Rattle.kn_refinement.proofs.ClientGiven.{client_after, step_is, stepped_client}
use Rattle.kn_refinement.proofs.ClientKept.{all_noted}
use Rattle.kn_refinement.proofs.ClientShown.{app_stepped, connected_app, no_app_stepped, other_app, own_app, queued_not, shown_as}
use Rattle.kn_refinement.proofs.ClientStepped.{some_same}
use Rattle.kn_refinement.proofs.ClientTurns.{Turns, as_it_was}
use Rattle.kn_refinement.proofs.NumberLemmas.{length_more, nth_more, nth_within}
use Rattle.kn_refinement.proofs.Worlds.{apps_same, leads_none, leads_one, worlds_same}

not_above : (n : ℕ) → nat_lt n n ≡ false
not_above n = false_unless (nat_lt n n) (λ e. let above : n < n = ltb-true n n e in omega arith)

told_within : (top m : ℕ) → m ≤ top → not (nat_lt top m) ≡ true
told_within top m within = ap not (false_unless (nat_lt top m) (λ e. let above : top < m = ltb-true top m e in omega arith))

one_more : (n : ℕ) → n + 1 ≡ suc n
one_more n = omega arith

module _ (s : State) (c : ℕ) (x : Client) (fits : Fits s) (keys : Keys (shown s)) (there : nth c s.clients ≡ Some x) where
  abbrev number : ℕ
  number = suc (length x.apps)

  abbrev new : App
  new = new_app (home.Client c number)

  abbrev more : List App
  more = s.apps ++ new ∷ []

  -- the number of the new app
  abbrev last : ℕ
  last = length more

  last_is : last ≡ suc (length s.apps)
  last_is = length_more s.apps new

  abbrev names : List ℕ
  names = x.apps ++ last ∷ []

  abbrev noted_clients : List Client
  noted_clients = change (clients.with_app last) c s.clients

  abbrev noted_state : State
  noted_state = record s { clients = noted_clients; apps = more }

  at_last : nth last more ≡ Some new
  at_last = ap (λ i. nth i more) last_is ∙ nth_last s.apps new

  elsewhere : (j : ℕ) → (j == last) ≡ false → nth j more ≡ nth j s.apps
  elsewhere j e = nth_more s.apps new j ∙ ap (λ b. cond b (Some new) (nth j s.apps)) (ap (λ i. j == i) (sym last_is) ∙ e)

  nobody : nth last s.apps ≡ None
  nobody = ap (λ i. nth i s.apps) last_is ∙ nth_beyond s.apps

  own_noted : nth c noted_clients ≡ Some (clients.with_app last x)
  own_noted = changed_own (clients.with_app last) c s.clients x there

  others_noted : (l : ℕ) → (l == c) ≡ false → nth l noted_clients ≡ nth l s.clients
  others_noted l e = changed_other (clients.with_app last) c l s.clients e

  -- an app of before is none that its client gave no number yet
  old_number : (j m : ℕ) (a : App) → nth j s.apps ≡ Some a → a.home ≡ home.Client c m → m ≤ length x.apps
  old_number j m a at is = by (fits.clients.number_of j c m a at is)
    where
      by : (w : Client) × (nth c s.clients ≡ Some w) × (nth m w.apps ≡ Some j) → m ≤ length x.apps
      by w = nth_within m x.apps j (ap (λ (v : Client). nth m v.apps) (some_same x w.0 (sym there ∙ w.1)) ∙ w.2)

  -- ---- where the client lost its server, the app is refused
  module _ (alone : x.at_client ≡ false) where
    abbrev refused_app : App
    refused_app = apps.left (codes "server lost") new

    abbrev refused_apps : List App
    refused_apps = change (apps.left (codes "server lost")) last more

    abbrev refused_state : State
    refused_state = record s { clients = noted_clients; apps = refused_apps }

    at_refused : nth last refused_apps ≡ Some refused_app
    at_refused = changed_own (apps.left (codes "server lost")) last more new at_last

    elsewhere_refused : (j : ℕ) → (j == last) ≡ false → nth j refused_apps ≡ nth j s.apps
    elsewhere_refused j e = changed_other (apps.left (codes "server lost")) last j more e ∙ elsewhere j e

    untold : Told x (clients.with_app last x) refused_app
    untold = record {
      up_dry = λ h. h;
      down_dry = λ h. h;
      grows = omega arith;
      top = let bound : x.core.top_app ≤ length x.apps = fits.clients.top c x there in omega arith;
      all = λ h. let two : true ≡ false = sym h ∙ alone in absurd cc;
      same = λ n within. refl;
      within = λ n within h. h;
      told = λ n z h. fits.clients.told c n x z there h;
      noted = λ within. let bound : x.core.top_app ≤ length x.apps = fits.clients.top c x there in absurd (omega arith);
    }

    refused_fits : Fits refused_state
    refused_fits = arrived_fits s c x fits there last refused_app (clients.with_app last x) noted_clients refused_apps last_is refl refl refl own_noted others_noted at_refused elsewhere_refused refl refl untold

    -- nothing of it is shown
    refused_shown : shown s ≡ shown refused_state
    refused_shown = worlds_same _ _ refl (λ l. refl) (λ l. sym (client_same l (l == c) refl)) (λ l. refl) (λ f. sym (stream_same f (nth f s.fronts) refl)) (λ d. refl) (λ j. sym (by j (j == last) refl))
      where
        client_same : (l : ℕ) (b : Bool) → (l == c) ≡ b → client_of (nth l noted_clients) ≡ client_of (nth l s.clients)
        client_same l false e = ap client_of (others_noted l e)
        client_same l true e = ap (λ i. client_of (nth i noted_clients)) (eqb-true l c e) ∙ ap client_of own_noted ∙ sym (ap client_of (ap (λ i. nth i s.clients) (eqb-true l c e) ∙ there))

        streams : (d : ℕ) (b : Bool) → (d == c) ≡ b → client_stream d (nth d noted_clients) ≡ client_stream d (nth d s.clients)
        streams d false e = ap (λ o. client_stream d o) (others_noted d e)
        streams d true e = ap (λ o. client_stream d o) (ap (λ i. nth i noted_clients) (eqb-true d c e) ∙ own_noted) ∙ sym (ap (λ o. client_stream d o) (ap (λ i. nth i s.clients) (eqb-true d c e) ∙ there))

        known : (f app : ℕ) → (a : App) × (nth app s.apps ≡ Some a) × (a.home ≡ home.Connect) × (a.door.number ≡ f) → (app == last) ≡ false
        known f app a = false_unless (app == last) (λ e. let two : None ≡ Some a.0 = sym nobody ∙ ap (λ i. nth i s.apps) (sym (eqb-true app last e)) ∙ a.1 in cc)

        stream_same : (f : ℕ) (o : Option Owner) → nth f s.fronts ≡ o → stream_of noted_clients refused_apps o ≡ stream_of s.clients s.apps o
        stream_same f None h = refl
        stream_same f (Some (owner.Client d)) h = streams d (d == c) refl
        stream_same f (Some (owner.App app)) h = ap (λ o. connect_stream app o) (elsewhere_refused app (known f app (fits.fronts.of_app f app h)))

        at_home : (h : Home) (a : App) → app_at_home noted_clients h a ≡ app_at_home s.clients h a
        at_home (home.Client d m) a = by_client (d == c) refl
          where
            by_client : (b : Bool) → (d == c) ≡ b → app_at_home noted_clients (home.Client d m) a ≡ app_at_home s.clients (home.Client d m) a
            by_client false e = ap (λ o. if is_told m o then client_app m o a else no_app) (others_noted d e)
            by_client true e = ap (λ o. if is_told m o then client_app m o a else no_app) (ap (λ i. nth i noted_clients) (eqb-true d c e) ∙ own_noted)
                ∙ sym (ap (λ o. if is_told m o then client_app m o a else no_app) (ap (λ i. nth i s.clients) (eqb-true d c e) ∙ there))
        at_home home.Connect a = refl

        old : (o : Option App) → app_of noted_clients o ≡ app_of s.clients o
        old None = refl
        old (Some a) = at_home a.home a

        above : nat_lt x.core.top_app number ≡ true
        above = by_order (nat_lt x.core.top_app number) refl
          where
            by_order : (b : Bool) → nat_lt x.core.top_app number ≡ b → b ≡ true
            by_order true e = refl
            by_order false e = let within : number ≤ x.core.top_app = ltb-false x.core.top_app number e in let bound : x.core.top_app ≤ length x.apps = fits.clients.top c x there in absurd (omega arith)

        by : (j : ℕ) (b : Bool) → (j == last) ≡ b → app_of noted_clients (nth j refused_apps) ≡ app_of s.clients (nth j s.apps)
        by j false e = ap (λ o. app_of noted_clients o) (elsewhere_refused j e) ∙ old (nth j s.apps)
        by j true e = ap (λ i. app_of noted_clients (nth i refused_apps)) (eqb-true j last e) ∙ ap (λ o. app_of noted_clients o) at_refused
            ∙ ap (λ o. if is_told number o then client_app number o refused_app else no_app) own_noted ∙ ap (λ b. if not b then client_app number (Some (clients.with_app last x)) refused_app else no_app) above
            ∙ sym (ap (λ o. app_of s.clients o) (ap (λ i. nth i s.apps) (eqb-true j last e) ∙ nobody))

    refused_leads : Leads s (refuses last noted_state)
    refused_leads = leads_none s refused_state refused_fits refused_shown

  -- ---- else it asks for its address
  module _ (address : List ℕ) (together : x.at_client ≡ true) where
    abbrev r : ClientStep
    r = edge.step x.core (event.AppUp number address)

    abbrev asking : Client
    asking = record (stepped_client r x) { apps = names }

    abbrev asking_clients : List Client
    asking_clients = change (λ y. client_after r.outs (clients.stepped (event.AppUp number address) y)) c noted_clients

    abbrev asked_state : State
    asked_state = record s { clients = asking_clients; apps = more }

    asks_is : asks c number address noted_state ≡ asked_state
    asks_is = step_is c (event.AppUp number address) (clients.with_app last x) noted_state own_noted

    own_asking : nth c asking_clients ≡ Some asking
    own_asking = changed_own (λ y. client_after r.outs (clients.stepped (event.AppUp number address) y)) c noted_clients (clients.with_app last x) own_noted

    others_asking : (l : ℕ) → (l == c) ≡ false → nth l asking_clients ≡ nth l s.clients
    others_asking l e = changed_other (λ y. client_after r.outs (clients.stepped (event.AppUp number address) y)) c l noted_clients e ∙ others_noted l e

    top_is : x.core.top_app ≡ length x.apps
    top_is = fits.clients.all_told c x there together

    -- the client had no app of this number
    nothing_there : first_where (is_app number) x.core.apps ≡ None
    nothing_there = by (first_where (is_app number) x.core.apps) refl
      where
        by : (o : Option ListedApp) → first_where (is_app number) x.core.apps ≡ o → o ≡ None
        by None h = refl
        by (Some z) h = let within : number ≤ x.core.top_app = fits.clients.told c number x z there h in let bound : x.core.top_app ≡ length x.apps = top_is in absurd (omega arith)

    abbrev new_listed : ListedApp
    new_listed = record { number = number; state = listed.Dialling; connect_id = pos 0; unwritten = 0; error = [] }

    now_there : first_where (is_app number) r.state.apps ≡ Some new_listed
    now_there = put_found (λ (y : ListedApp). y.number) (is_app number) new_listed x.core.apps nothing_there (eqb_refl number)

    as_before : (m : ℕ) → m ≤ length x.apps → first_where (is_app m) r.state.apps ≡ first_where (is_app m) x.core.apps
    as_before m within = first_in_place (λ (y : ListedApp). y.number) (is_app m) new_listed x.core.apps (false_unless (number == m) (λ e. let same : number ≡ m = eqb-true number m e in omega arith))

    asked_told : Told x asking new
    asked_told = record {
      up_dry = λ was gone. ap (λ b. queued (b && x.at_client) x.up (from_client r.outs)) gone ∙ queued_not x.up (from_client r.outs) ∙ was gone;
      down_dry = λ h. h;
      grows = let bound : x.core.top_app ≤ length x.apps = fits.clients.top c x there in omega arith;
      top = omega arith;
      all = λ h. refl;
      same = as_before;
      within = λ n within h. let bound : x.core.top_app ≡ length x.apps = top_is in omega arith;
      told = told;
      noted = λ within. subst (λ o. Noted o new.stage) (sym now_there) refl;
    }
      where
        told : (n : ℕ) (z : ListedApp) → first_where (is_app n) r.state.apps ≡ Some z → n ≤ number
        told n z h = by (number == n) refl
          where
            by : (b : Bool) → (number == n) ≡ b → n ≤ number
            by true e = let same : number ≡ n = eqb-true number n e in omega arith
            by false e = let bound : n ≤ x.core.top_app = fits.clients.told c n x z there (sym (first_in_place (λ (y : ListedApp). y.number) (is_app n) new_listed x.core.apps e) ∙ h) in
                let top : x.core.top_app ≡ length x.apps = top_is in omega arith

    asked_fits : Fits asked_state
    asked_fits = arrived_fits s c x fits there last new asking asking_clients more last_is refl refl refl own_asking others_asking at_last elsewhere refl refl asked_told

    connects : (f app : ℕ) → nth f s.fronts ≡ Some (owner.App app) → connect_stream app (nth app more) ≡ connect_stream app (nth app s.apps)
    connects f app h = by (fits.fronts.of_app f app h)
      where
        by : (a : App) × (nth app s.apps ≡ Some a) × (a.home ≡ home.Connect) × (a.door.number ≡ f) → connect_stream app (nth app more) ≡ connect_stream app (nth app s.apps)
        by a = ap (λ o. connect_stream app o) (elsewhere app (false_unless (app == last) (λ e. let two : None ≡ Some a.0 = sym nobody ∙ ap (λ i. nth i s.apps) (sym (eqb-true app last e)) ∙ a.1 in cc)))

    abbrev stepped : WorldApp → WorldApp
    stepped w = app_stepped s c x there r false names asking_clients more own_asking others_asking connects w

    -- the stream of the new app is its client's
    mine : is_of_client c (stream_of s.clients s.apps (nth x.front s.fronts)) ≡ true
    mine = ap (λ (w : WorldStream). is_of_client c w) (its_stream s c x fits there) ∙ eqb_refl c

    dry : (o : Option AppState) → side_of o new_side ≡ no_bytes
    dry None = refl
    dry (Some z) = refl

    dry_after : (o : Option ListedApp) → (if is_some o then for_app number r.outs [] else []) ≡ []
    dry_after None = refl
    dry_after (Some z) = refl

    new_shown : app_of asking_clients (Some new) ≡ stepped (new_world_app x.front number)
    new_shown = ap (λ o. if is_told number o then client_app number o new else no_app) own_asking ∙ ap (λ b. if not b then client_app number (Some asking) new else no_app) (not_above number)
        ∙ apps_same _ _ refl refl refl
        (sym (ap (λ t. if t then phase_after false (first_where (is_app number) (client_of (nth c s.clients)).apps) (first_where (is_app number) r.state.apps) Dialling else Dialling) mine
        ∙ ap (λ o. phase_after false (first_where (is_app number) (client_of o).apps) (first_where (is_app number) r.state.apps) Dialling) there
        ∙ ap (λ o. phase_after false o (first_where (is_app number) r.state.apps) Dialling) nothing_there))
        (dry (clients.state_at number (Some asking)) ∙ sym (ap (λ t. app_side_after t number r no_bytes) mine ∙ ap (λ bytes. record no_bytes { unwritten = bytes }) (dry_after (first_where (is_app number) r.state.apps)))) refl

    old_shown : (j : ℕ) (o : Option App) → nth j s.apps ≡ o → app_of asking_clients o ≡ stepped (app_of s.clients o)
    old_shown j None at = sym (no_app_stepped s c x there r false names asking_clients more own_asking others_asking connects)
    old_shown j (Some a) at = by a.home refl
      where
        turns : (m : ℕ) → m ≤ length x.apps → Turns false false (first_where (is_app m) x.core.apps) None (first_where (is_app m) r.state.apps)
        turns m within = subst (λ o. Turns false false (first_where (is_app m) x.core.apps) None o) (sym (as_before m within)) (as_it_was false false (first_where (is_app m) x.core.apps) None refl)

        its : (m : ℕ) → a.home ≡ home.Client c m → (if is_told m (Some asking) then client_app m (Some asking) a else no_app) ≡ stepped (if is_told m (Some x) then client_app m (Some x) a else no_app)
        its m is =
            let within : m ≤ length x.apps = old_number j m a at is in
            let top : x.core.top_app ≡ length x.apps = top_is in
            let bound : m ≤ x.core.top_app = omega arith in
            ap (λ b. if b then client_app m (Some asking) a else no_app) (told_within number m (omega arith))
            ∙ own_app s c x there r false names asking_clients more own_asking others_asking connects m false a a (app_became m r.outs a) (all_noted s.clients s.apps fits.clients j c m a x at is there bound) (turns m within) (fits.fronts.client c x there)
            ∙ sym (ap (λ b. stepped (if b then client_app m (Some x) a else no_app)) (told_within x.core.top_app m bound))

        at_client : (d m : ℕ) → a.home ≡ home.Client d m → (b : Bool) → (d == c) ≡ b → app_at_home asking_clients (home.Client d m) a ≡ stepped (app_at_home s.clients (home.Client d m) a)
        at_client d m is false e = other_app s c x there r false names asking_clients more own_asking others_asking connects fits.clients fits.fronts j d m a at is e
        at_client d m is true e = ap (λ o. if is_told m o then client_app m o a else no_app) (ap (λ i. nth i asking_clients) (eqb-true d c e) ∙ own_asking) ∙ its m (is ∙ ap (λ i. home.Client i m) (eqb-true d c e))
            ∙ sym (ap (λ o. stepped (if is_told m o then client_app m o a else no_app)) (ap (λ i. nth i s.clients) (eqb-true d c e) ∙ there))

        by : (h : Home) → a.home ≡ h → app_at_home asking_clients a.home a ≡ stepped (app_at_home s.clients a.home a)
        by (home.Client d m) is = ap (λ h. app_at_home asking_clients h a) is ∙ at_client d m is (d == c) refl ∙ sym (ap (λ h. stepped (app_at_home s.clients h a)) is)
        by home.Connect is = ap (λ h. app_at_home asking_clients h a) is ∙ connected_app s c x there r false names asking_clients more own_asking others_asking connects fits.clients fits.fronts j a at is ∙ sym (ap (λ h. stepped (app_at_home s.clients h a)) is)

    asked_shown : shown asked_state ≡ client_stepped c false r (app_begins last (new_world_app x.front number) (shown s))
    asked_shown = shown_as s c x there r false names asking_clients more own_asking others_asking connects (put_at (shown s).apps last (new_world_app x.front number)) (λ j. by j (j == last) refl)
      where
        by : (j : ℕ) (b : Bool) → (j == last) ≡ b → app_of asking_clients (nth j more) ≡ stepped (put_at (shown s).apps last (new_world_app x.front number) j)
        by j false e = ap (λ o. app_of asking_clients o) (elsewhere j e) ∙ old_shown j (nth j s.apps) refl ∙ sym (ap (λ b. stepped (if b then new_world_app x.front number else (shown s).apps j)) e)
        by j true e = ap (λ i. app_of asking_clients (nth i more)) (eqb-true j last e) ∙ ap (λ o. app_of asking_clients o) at_last ∙ new_shown ∙ sym (ap (λ b. stepped (if b then new_world_app x.front number else (shown s).apps j)) e)

    asked_made : after (AppComes last x.front number address) (shown s) ≡ shown asked_state
    asked_made = ap (λ (w : WorldStream). client_does w.owner (event.AppUp number address) (app_begins last (new_world_app x.front number) (shown s))) (its_stream s c x fits there)
        ∙ ap (λ o. client_stepped c false (edge.step (client_of o) (event.AppUp number address)) (app_begins last (new_world_app x.front number) (shown s))) there ∙ sym asked_shown

    may_come : (((shown s).streams x.front).begun && ((shown s).streams x.front).client && not ((shown s).streams x.front).connect && not ((shown s).apps last).came) ≡ true
    may_come = ap (λ (w : WorldStream). w.begun && w.client && not w.connect && not ((shown s).apps last).came) (its_stream s c x fits there)
        ∙ ap (λ b. true && b && true && not ((shown s).apps last).came) together ∙ ap (λ o. not (app_of s.clients o).came) nobody

    above_top : ((shown s).clients ((shown s).streams x.front).owner).top_app < number
    above_top = subst (λ top. top < number) (sym (ap (λ (w : WorldStream). ((shown s).clients w.owner).top_app) (its_stream s c x fits there) ∙ ap (λ o. (client_of o).top_app) there)) (let bound : x.core.top_app ≤ length x.apps = fits.clients.top c x there in omega arith)

    asked_leads : Leads s (asks c number address noted_state)
    asked_leads = subst (λ t. Leads s t) (sym asks_is) (leads_one s asked_state (AppComes last x.front number address) asked_fits (may_come, above_top) asked_made)

  came_leads : (address : List ℕ) → Leads s (app_came c number address s)
  came_leads address = subst (λ b. Leads s (if b then asks c number address noted_state else refuses last noted_state)) (sym (ap clients.is_at_client own_noted)) (by x.at_client refl)
    where
      by : (b : Bool) → x.at_client ≡ b → Leads s (if b then asks c number address noted_state else refuses last noted_state)
      by true e = asked_leads address e
      by false e = refused_leads e

pub app_comes_leads : (s : State) (c : ℕ) (address : List ℕ) → Fits s → Keys (shown s) → Leads s (app_comes c address s)
app_comes_leads s c address fits keys = by (nth c s.clients) refl
  where
    by : (o : Option Client) → nth c s.clients ≡ o → Leads s (app_comes c address s)
    by None none = subst (λ t. Leads s t) (sym (ap (λ o. app_comes_at o c address s) none)) (leads_none s s fits refl)
    by (Some x) there = subst (λ t. Leads s t) (sym (ap (λ o. app_comes_at o c address s) there ∙ ap (λ n. app_came c n address s) (one_more (length x.apps)))) (came_leads s c x fits keys there address)
