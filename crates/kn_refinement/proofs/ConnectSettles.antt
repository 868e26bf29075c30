-- What an app by CONNECT sent goes to the server, and its end behind the last byte.
use Rattle.std.proofs.Common.{◌≡◌, ◌≢◌, ◌==◌, ◌&&◌, inl, inr, ℕ, zero, suc, Bool, true, false, not, cond, length, Option, Some, None, refl, sym, ap, ◌∙◌, subst, eqb-true}
use Rattle.std.specs.Prelude.{min, nat_lt, take}
use Rattle.kn_server_core.specs.Server as core
use Rattle.kn_server_core.specs.FrontLists.{is_up}
use Rattle.kn_server_core.specs.declared.event.ServerEvent.TheVariants.{FrontLost}
use Rattle.kn_packets.specs.Keys.{Keys}
use Rattle.kn_packets.specs.Moves.{no_app}
use Rattle.kn_packets.proofs.Taken.{and_first, and_second}
use Rattle.kn_world.specs.declared.parts.App.{App}
use Rattle.kn_world.specs.declared.parts.Home.TheVariants as home
use Rattle.kn_world.specs.declared.parts.Owner.{Owner}
use Rattle.kn_world.specs.declared.parts.Owner.TheVariants as owner
use Rattle.kn_world.specs.declared.parts.Stage.{Stage}
use Rattle.kn_world.specs.declared.parts.Stage.TheVariants as stage
use Rattle.kn_world.specs.declared.state.State.{State}
use Rattle.kn_world.specs.Answering.{is_due}
use Rattle.kn_world.specs.Apps as apps
use Rattle.kn_world.specs.Doors as door
use Rattle.kn_world.specs.Flows.{Passing}
use Rattle.kn_world.specs.Handing.{count_wanted, count_wanted_of, door_pieces, ends_if_due, gives_end, gives_end_of, gives_end_to, hands_piece, hands_wanted, is_end_due, is_end_due_of, pieces_by, pieces_wanted, server_hears, server_hears_kept, settles}
use Rattle.kn_world.specs.Numbers.{change, nth}
use Rattle.kn_world.specs.Pieces.{pieces}
use Rattle.kn_world.specs.ServerSteps.{gives_all, step}
use Rattle.kn_world.specs.Times.{times}
use Rattle.kn_refinement.specs.Fits.{Fits, IsUnheard}
use Rattle.kn_refinement.specs.Leads.{Leads}
use Rattle.kn_refinement.specs.Shown.{app_at_home, app_of, connect_app, connect_stream, shown, stream_of}
use Rattle.kn_refinement.proofs.Changes.{change_twice, changed_other, changed_own}
use Rattle.kn_refinement.proofs.ConnectHands.{handed_app, piece_is, pieces_lead}
use Rattle.kn_refinement.proofs.ConnectHears.{hears_all_lead, hears_has, hears_leads}
use Rattle.kn_refinement.proofs.ConnectKept.{Has, Tied, TiedAnswered}
use Rattle.kn_refinement.proofs.ConnectLeaves.{leaving, leaving_leads, left_has, left_own, lost, lost_leads}
use Rattle.kn_refinement.proofs.ConnectParts.{Own, Same, ServerLeads, at_each, fits_changed}
use Rattle.kn_refinement.proofs.Worlds.{KeysGoOn, leads_none, leads_then, worlds_same}
use Rattle.kn_refinement.proofs.Pairs.{some_is}

-- ---- an app whose head is not whole is not shown
pub unheard_shown : (s : State) (k : ℕ) (a : App) (f : App → App) → Fits s → nth k s.apps ≡ Some a → a.home ≡ home.Connect → a.door.number ≡ 0 → (f a).home ≡ home.Connect → (f a).door.number ≡ 0
    → shown s ≡ shown (record s { apps = change f k s.apps })
unheard_shown s k a f fits there at_door number at none = worlds_same (shown s) (shown (record s { apps = change f k s.apps })) refl (λ l. refl) (λ c. refl) (λ l. refl) (λ i. stream_same i (nth i s.fronts) refl) (λ d. refl) app_same
  where
    open_at : (i j : ℕ) → nth i s.fronts ≡ Some (owner.App j) → (b : Bool) → (j == k) ≡ b → connect_stream j (nth j s.apps) ≡ connect_stream j (nth j (change f k s.apps))
    open_at i j h false q = ap (λ o. connect_stream j o) (sym (changed_other f k j s.apps q))
    open_at i j h true q =
        let found = fits.fronts.of_app i j h in
        let z : found.0 ≡ a = some_is (sym found.1 ∙ ap (λ m. nth m s.apps) (eqb-true j k q) ∙ there) in
        let w : i ≡ 0 = sym found.3 ∙ ap (λ (v : App). v.door.number) z ∙ number in
        let y : None ≡ Some (owner.App j) = ap (λ m. nth m s.fronts) (sym w) ∙ h in absurd cc

    stream_same : (i : ℕ) (o : Option Owner) → nth i s.fronts ≡ o → stream_of s.clients s.apps o ≡ stream_of s.clients (change f k s.apps) o
    stream_same i None h = refl
    stream_same i (Some (owner.Client c)) h = refl
    stream_same i (Some (owner.App j)) h = open_at i j h (j == k) refl

    hidden : (b : App) → b.home ≡ home.Connect → b.door.number ≡ 0 → app_of s.clients (Some b) ≡ no_app
    hidden b e z = ap (λ h. app_at_home s.clients h b) e ∙ ap (λ m. cond (m == 0) no_app (connect_app b)) z

    app_same : (j : ℕ) → app_of s.clients (nth j s.apps) ≡ app_of s.clients (nth j (change f k s.apps))
    app_same j = at_each k j s.apps (λ o p. app_of s.clients o ≡ app_of s.clients p) f a there (hidden a at_door number ∙ sym (hidden (f a) at none)) (λ o. refl)

-- ---- its end, where it is due
abbrev ended_door : App → App
ended_door a = apps.left_door (apps.end_told a)

not_opened : (g : Stage) → apps.left_stage g ≢ stage.Open
not_opened stage.Dialling e = absurd cc
not_opened stage.Open e = absurd cc
not_opened stage.Refused e = absurd cc
not_opened stage.Ended e = absurd cc

-- the server has no front of number 0
no_front : (s : State) → Fits s → is_up 0 s.server.fronts ≡ false
no_front s fits = here (is_up 0 s.server.fronts) refl
  where
    here : (b : Bool) → is_up 0 s.server.fronts ≡ b → b ≡ false
    here true e = let found = fits.fronts.known 0 e in let z : None ≡ Some found.0 = found.1 in absurd cc
    here false e = refl

nothing_lost : (s : State) → is_up 0 s.server.fronts ≡ false → step 0 (FrontLost 0) s ≡ s
nothing_lost s e = ap (λ b. gives_all (cond b (core.front_lost s.server 0) (core.ignored s.server)).outs 0 (record s { server = (cond b (core.front_lost s.server 0) (core.ignored s.server)).state })) e

pub unheard_ends : (s : State) (k : ℕ) (a : App) → Fits s → nth k s.apps ≡ Some a → a.home ≡ home.Connect → a.door.number ≡ 0 → Leads s (gives_end k s)
unheard_ends s k a fits there at_door number =
    subst (λ t. Leads s t) (sym is) (leads_none s (record s { apps = change ended_door k s.apps }) (fits_changed s k a ended_door fits there at_door same) (unheard_shown s k a ended_door fits there at_door number at_door number))
  where
    old : IsUnheard a
    old = fits.fronts.unheard k a there at_door number

    same : Same a (ended_door a)
    same = record {
      at_door = at_door;
      number = refl;
      dial = refl;
      early = tt;
      unheard = λ z. record { sending = old.sending; coming = old.coming; dial = old.dial; early = refl; closing = old.closing; at_server = refl; unopened = not_opened a.stage };
      refused = λ r. old.closing;
      present = λ m e g. let y : 0 ≡ suc m = sym number ∙ e in absurd cc;
      gone = λ m e g. let y : 0 ≡ suc m = sym number ∙ e in absurd cc;
    }

    is : gives_end k s ≡ record s { apps = change ended_door k s.apps }
    is =
        ap (λ o. gives_end_of o k s) there
        ∙ ap (λ h. gives_end_to h k (record s { apps = change apps.end_told k s.apps })) at_door
        ∙ ap (λ m. step 0 (FrontLost m) (record s { apps = change apps.left_door k (change apps.end_told k s.apps) })) (ap apps.front_of (changed_own apps.end_told k s.apps a there) ∙ number)
        ∙ nothing_lost (record s { apps = change apps.left_door k (change apps.end_told k s.apps) }) (no_front s fits)
        ∙ ap (λ xs. record s { apps = xs }) (change_twice apps.left_door apps.end_told k s.apps)

module _ (go : KeysGoOn) (serve : ServerLeads) where
  end_is : (s : State) (k n : ℕ) (a : App) → Own s k n a → gives_end k s ≡ step 0 (FrontLost (suc n)) (record s { apps = change lost k (change leaving k s.apps) })
  end_is s k n a own =
      ap (λ o. gives_end_of o k s) own.there
      ∙ ap (λ h. gives_end_to h k (record s { apps = change apps.end_told k s.apps })) own.at_door
      ∙ ap (λ m. step 0 (FrontLost m) (record s { apps = change apps.left_door k (change apps.end_told k s.apps) })) (ap apps.front_of (changed_own apps.end_told k s.apps a own.there) ∙ own.number)
      ∙ ap (λ xs. step 0 (FrontLost (suc n)) (record s { apps = xs })) (change_twice apps.left_door apps.end_told k s.apps ∙ sym (change_twice lost leaving k s.apps))

  pub heard_ends : (s : State) (k n : ℕ) (a : App) → Fits s → Keys (shown s) → Own s k n a → a.side.end_given ≡ false → Leads s (gives_end k s)
  heard_ends s k n a fits keys own given =
      let at_server : a.door.at_server ≡ true = fits.fronts.present k n a own.there own.at_door own.number given in
      let left : State = record s { apps = change leaving k s.apps } in
      subst (λ t. Leads s t) (sym (end_is s k n a own))
      (leads_then go s left (step 0 (FrontLost (suc n)) (record left { apps = change lost k left.apps })) keys (leaving_leads s k n a fits own at_server)
      (λ fit key. lost_leads serve left k n (leaving a) fit key (left_own s k n a fits own at_server) at_server (inl (left_has a.stage)) refl refl))

  not_given : (a : App) → is_due a.side ≡ true → a.side.end_given ≡ false
  not_given a h = here a.side.end_given refl
    where
      here : (b : Bool) → a.side.end_given ≡ b → b ≡ false
      here false e = refl
      here true e =
          let z : not a.side.end_given ≡ true = and_second a.side.ended (not a.side.end_given) (and_first (a.side.ended && not a.side.end_given) (length a.side.sending.waiting == 0) h) in
          let y : false ≡ true = ap not (sym e) ∙ z in absurd cc

  -- one by CONNECT, with the number of its front
  ends_at : (s : State) (k n : ℕ) → Fits s → Keys (shown s) → (h : Has (Tied n) k s.apps) → is_due h.0.side ≡ true → Leads s (gives_end k s)
  ends_at s k zero fits keys (a, there, t) due = unheard_ends s k a fits there t.at_door t.number
  ends_at s k (suc n) fits keys (a, there, t) due = heard_ends s k n a fits keys (record { there = there; at_door = t.at_door; number = t.number }) (not_given a due)

  pub ends_lead : (s : State) (k n : ℕ) → Fits s → Keys (shown s) → Has (Tied n) k s.apps → Leads s (ends_if_due k s)
  ends_lead s k n fits keys h = here (is_end_due k s) refl
    where
      here : (b : Bool) → is_end_due k s ≡ b → Leads s (cond b (gives_end k s) s)
      here true e = ends_at s k n fits keys h (sym (ap is_end_due_of h.1) ∙ e)
      here false e = leads_none s s fits refl

  -- ---- pieces
  piece_has : (s : State) (k n : ℕ) → Has (Tied n) k s.apps → Has (Tied n) k (hands_piece k s).apps
  piece_has s k n (a, there, t) = (
    handed_app (take 16384 a.side.sending.waiting) a,
    ap (λ (u : State). nth k u.apps) (piece_is s k a there t.at_door) ∙ changed_own (handed_app (take 16384 a.side.sending.waiting)) k s.apps a there,
    record { at_door = t.at_door; number = t.number },
  )

  pieces_have : (count : ℕ) (s : State) (k n : ℕ) → Has (Tied n) k s.apps → Has (Tied n) k (times count (hands_piece k) s).apps
  unfolding times
  pieces_have zero s k n h = h
  pieces_have (suc count) s k n h = pieces_have count (hands_piece k s) k n (piece_has s k n h)

  no_times : (f : State → State) (s : State) → times 0 f s ≡ s
  unfolding times
  no_times f s = refl

  none_lead : (count : ℕ) (f : State → State) (s : State) → Fits s → count ≡ 0 → Leads s (times count f s)
  none_lead count f s fits e = subst (λ t. Leads s t) (sym (ap (λ c. times c f s) e ∙ no_times f s)) (leads_none s s fits refl)

  wanted_is : (s : State) (k : ℕ) (a : App) → nth k s.apps ≡ Some a → a.home ≡ home.Connect → count_wanted k s ≡ door_pieces a
  wanted_is s k a there at_door = ap (λ o. count_wanted_of o s.clients) there ∙ ap (λ h. pieces_wanted h a s.clients) at_door

  -- of one whose head is not whole nothing waits
  unheard_wants : (a : App) → IsUnheard a → (g : Stage) → pieces_by g a ≡ 0
  unheard_wants a u stage.Dialling = ap (λ (f : Passing). cond (nat_lt (length f.passed) 16384) (min (pieces (length f.waiting)) 1) 0) u.sending
  unheard_wants a u stage.Open = ap (λ (f : Passing). pieces (length f.waiting)) u.sending
  unheard_wants a u stage.Refused = refl
  unheard_wants a u stage.Ended = refl

  hands_lead : (s : State) (k n : ℕ) → Fits s → Keys (shown s) → Has (Tied n) k s.apps → Leads s (hands_wanted k s)
  hands_lead s k zero fits keys (a, there, t) =
      none_lead (count_wanted k s) (hands_piece k) s fits
      (wanted_is s k a there t.at_door ∙ ap (λ c. cond c 0 (pieces_by a.stage a)) (fits.fronts.unheard k a there t.at_door t.number).closing ∙ unheard_wants a (fits.fronts.unheard k a there t.at_door t.number) a.stage)
  hands_lead s k (suc n) fits keys (a, there, t) = here a.door.closing refl a.stage refl
    where
      own : Own s k n a
      own = record { there = there; at_door = t.at_door; number = t.number }

      wants : (c : Bool) (g : Stage) → a.door.closing ≡ c → a.stage ≡ g → count_wanted k s ≡ cond c 0 (pieces_by g a)
      wants c g e i = wanted_is s k a there t.at_door ∙ ap (λ b. cond b 0 (pieces_by a.stage a)) e ∙ ap (λ x. cond c 0 (pieces_by x a)) i

      here : (c : Bool) → a.door.closing ≡ c → (g : Stage) → a.stage ≡ g → Leads s (times (count_wanted k s) (hands_piece k) s)
      here true e g i = none_lead (count_wanted k s) (hands_piece k) s fits (wants true g e i)
      here false e stage.Dialling i = pieces_lead go (count_wanted k s) s k n a fits keys own (record { open_yet = e; here = inl i })
      here false e stage.Open i = pieces_lead go (count_wanted k s) s k n a fits keys own (record { open_yet = e; here = inr i })
      here false e stage.Refused i = none_lead (count_wanted k s) (hands_piece k) s fits (wants false stage.Refused e i)
      here false e stage.Ended i = none_lead (count_wanted k s) (hands_piece k) s fits (wants false stage.Ended e i)

  -- ---- what is kept
  kept_is : (s : State) (k : ℕ) (a : App) (g : Stage) → nth k s.apps ≡ Some a → a.stage ≡ g → apps.kept_count (nth k s.apps) ≡ door.kept_count g a
  kept_is s k a g there e = ap apps.kept_count there ∙ ap (λ x. door.kept_count x a) e

  all_hears_has : (count : ℕ) (s : State) (k n : ℕ) → Fits s → Keys (shown s) → Has (TiedAnswered (suc n)) k s.apps → Has (Tied (suc n)) k (times count (server_hears k) s).apps
  unfolding times
  all_hears_has zero s k n fits keys (a, there, t) = (a, there, t.tied)
  all_hears_has (suc count) s k n fits keys (a, there, t) =
      let own : Own s k n a = record { there = there; at_door = t.tied.at_door; number = t.tied.number } in
      let one = hears_leads serve s k n a fits keys own t.answered in
      all_hears_has count (server_hears k s) k n one.fits (go (shown s) (shown (server_hears k s)) one.moves keys one.made) (hears_has serve s k n a fits keys own t.answered)

  no_times_has : (count : ℕ) (f : State → State) (s : State) (k n : ℕ) → count ≡ 0 → Has (Tied n) k s.apps → Has (Tied n) k (times count f s).apps
  no_times_has count f s k n e h = subst (λ (t : State). Has (Tied n) k t.apps) (sym (ap (λ c. times c f s) e ∙ no_times f s)) h

  -- both at once: it leads, and the app is as it was tied
  abbrev Goes : State → ℕ → ℕ → State → Type 0
  Goes s k n t = Leads s t × Has (Tied n) k t.apps

  hears_go : (s : State) (k n : ℕ) → Fits s → Keys (shown s) → Has (Tied n) k s.apps → Goes s k n (server_hears_kept k s)
  hears_go s k n fits keys (a, there, t) = here a.stage refl
    where
      none : apps.kept_count (nth k s.apps) ≡ 0 → Goes s k n (times (apps.kept_count (nth k s.apps)) (server_hears k) s)
      none e = (none_lead (apps.kept_count (nth k s.apps)) (server_hears k) s fits e, no_times_has (apps.kept_count (nth k s.apps)) (server_hears k) s k n e (a, there, t))

      opened : (m : ℕ) → a.door.number ≡ m → a.stage ≡ stage.Open → n ≡ m → Goes s k n (times (apps.kept_count (nth k s.apps)) (server_hears k) s)
      opened zero z e i = absurd ((fits.fronts.unheard k a there t.at_door z).unopened e)
      opened (suc m) z e i =
          let h : Has (TiedAnswered (suc m)) k s.apps = (a, there, record { tied = record { at_door = t.at_door; number = z }; answered = inl e }) in
          subst (λ j. Goes s k j (times (apps.kept_count (nth k s.apps)) (server_hears k) s)) (sym i)
          (hears_all_lead go serve (apps.kept_count (nth k s.apps)) s k m fits keys h, all_hears_has (apps.kept_count (nth k s.apps)) s k m fits keys h)

      here : (g : Stage) → a.stage ≡ g → Goes s k n (times (apps.kept_count (nth k s.apps)) (server_hears k) s)
      here stage.Open e = opened n t.number e refl
      here stage.Dialling e = none (kept_is s k a stage.Dialling there e)
      here stage.Refused e = none (kept_is s k a stage.Refused there e)
      here stage.Ended e = none (kept_is s k a stage.Ended there e)

  -- ---- all of it
  pub settles_tied : (s : State) (k n : ℕ) → Fits s → Keys (shown s) → Has (Tied n) k s.apps → Leads s (settles k s)
  settles_tied s k n fits keys h =
      let t : State = hands_wanted k s in
      let has : Has (Tied n) k t.apps = pieces_have (count_wanted k s) s k n h in
      leads_then go s t (settles k s) keys (hands_lead s k n fits keys h)
      (λ fit key.
      let next = hears_go t k n fit key has in
      leads_then go t (server_hears_kept k t) (settles k s) key next.0 (λ fit key. ends_lead (server_hears_kept k t) k n fit key next.1))

  pub settles_leads : (s : State) (k : ℕ) (a : App) → Fits s → Keys (shown s) → nth k s.apps ≡ Some a → a.home ≡ home.Connect → Leads s (settles k s)
  settles_leads s k a fits keys there at_door = settles_tied s k a.door.number fits keys (a, there, record { at_door = at_door; number = refl })
