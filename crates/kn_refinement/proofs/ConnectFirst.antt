-- What the first bytes of an app by CONNECT do, whatever is answered to them.
use Rattle.std.proofs.Common.{◌≡◌, ◌≢◌, ◌==◌, ◌&&◌, ◌++◌, inl, ℕ, suc, Bool, true, false, not, List, [], length, Option, Some, None, Result, Ok, Err, refl, sym, ap, ◌∙◌, subst, eqb-true}
use Rattle.std.specs.Prelude.{drop, take}
use Rattle.kn_connect.specs.declared.answer.ConnectAnswer.{ConnectAnswer}
use Rattle.kn_connect.specs.declared.answer.ConnectAnswer.TheVariants.{Head, More}
use Rattle.kn_connect.specs.declared.answer.ConnectError.{ConnectError}
use Rattle.kn_connect.specs.declared.answer.ConnectError.TheVariants.{Fault, NoMemory}
use Rattle.kn_packets.specs.Keys.{Keys}
use Rattle.kn_packets.proofs.Taken.{and_first}
use Rattle.kn_connect.specs.Replies.{status_and_reason}
use Rattle.kn_connect.specs.Statuses.{fault_status, reply_length}
use Rattle.kn_world.specs.declared.parts.App.{App}
use Rattle.kn_world.specs.declared.parts.Home.{Home}
use Rattle.kn_world.specs.declared.parts.Home.TheVariants as home
use Rattle.kn_world.specs.declared.parts.Stage.{Stage}
use Rattle.kn_world.specs.declared.parts.Stage.TheVariants as stage
use Rattle.kn_world.specs.declared.state.State.{State}
use Rattle.kn_world.specs.Apps as apps
use Rattle.kn_world.specs.Arrivals.{RawAppComes, with_connect}
use Rattle.kn_world.specs.Effects.{is_app_unheard, is_unheard, is_unheard_of}
use Rattle.kn_world.specs.Flows.{Passing, no_bytes, passed_on}
use Rattle.kn_world.specs.Hearing.{Feeds, Hears, holds, responds, with_front}
use Rattle.kn_world.specs.Idle.{can_send, is_app_here, is_at_door, is_at_home, there_and}
use Rattle.kn_world.specs.Numbers.{change, changed, nth}
use Rattle.kn_refinement.specs.Fits.{Fits, IsUnheard}
use Rattle.kn_refinement.specs.Leads.{Leads}
use Rattle.kn_refinement.specs.Shown.{shown}
use Rattle.kn_refinement.proofs.Changes.{changed_own}
use Rattle.kn_refinement.proofs.ConnectArrives.{comer, comer_there, comes_leads}
use Rattle.kn_refinement.proofs.ConnectHeard.{head_came_leads}
use Rattle.kn_refinement.proofs.ConnectParts.{Same, fits_changed}
use Rattle.kn_refinement.proofs.ConnectRequests.{emptying, plainly, taken_plainly}
use Rattle.kn_refinement.proofs.ConnectServed.{plain_serves}
use Rattle.kn_refinement.proofs.ConnectSettles.{settles_leads, unheard_shown}
use Rattle.kn_refinement.proofs.ConnectTakes.{kept_leads}
use Rattle.kn_refinement.proofs.Worlds.{KeysGoOn, leads_none, leads_then}
use Rattle.kn_refinement.proofs.NumberLemmas.{length_more}

-- ---- a head that is at fault: the app is refused
abbrev faulted : ℕ → App → App
faulted status a = record a { error = status_and_reason status; stage = stage.Refused; door = record a.door { early = []; reply = reply_length status } }

record IsFaulted (a b : App) : Type 0 where
  pub at_door : b.home ≡ home.Connect
  pub number : b.door.number ≡ 0
  pub same : Same a b

module _ (s : State) (k : ℕ) (a : App) (fits : Fits s) (there : nth k s.apps ≡ Some a) (at_door : a.home ≡ home.Connect) (number : a.door.number ≡ 0) where
  old : IsUnheard a
  old = fits.fronts.unheard k a there at_door number

  none_before : (n : ℕ) → a.door.number ≡ suc n → ⊥
  none_before n e = let z : 0 ≡ suc n = sym number ∙ e in absurd cc

  not_open : stage.Refused ≢ stage.Open
  not_open e = absurd cc

  takes_none : passed_on (length a.side.coming.waiting) a.side.coming ≡ no_bytes
  takes_none = ap (λ (c : Passing). passed_on (length c.waiting) c) old.coming

  plainly_faulted : (held : Bool) (status : ℕ) → IsFaulted a (plainly held (faulted status a))
  unfolding plainly emptying
  plainly_faulted true status = record {
    at_door = at_door;
    number = number;
    same = record {
      at_door = at_door;
      number = refl;
      dial = refl;
      early = tt;
      unheard = λ z. record { sending = old.sending; coming = old.coming; dial = old.dial; early = refl; closing = old.closing; at_server = old.at_server; unopened = not_open };
      refused = λ r. old.closing;
      present = λ n e g. absurd (none_before n e);
      gone = λ n e g. absurd (none_before n e);
    };
  }
  plainly_faulted false status = record {
    at_door = at_door;
    number = number;
    same = record {
      at_door = at_door;
      number = refl;
      dial = refl;
      early = tt;
      unheard = λ z. record { sending = old.sending; coming = takes_none; dial = old.dial; early = refl; closing = old.closing; at_server = old.at_server; unopened = not_open };
      refused = λ r. old.closing;
      present = λ n e g. absurd (none_before n e);
      gone = λ n e g. absurd (none_before n e);
    };
  }

  is_faulted : (status : ℕ) → IsFaulted a (apps.refused status a)
  is_faulted status = subst (λ b. IsFaulted a b) (sym (taken_plainly a.side.held (faulted status a) old.closing)) (plainly_faulted a.side.held status)

  pub fault_leads : (status : ℕ) → Leads s (record s { apps = change (apps.refused status) k s.apps })
  fault_leads status =
      let at : IsFaulted a (apps.refused status a) = is_faulted status in
      leads_none s (record s { apps = change (apps.refused status) k s.apps }) (fits_changed s k a (apps.refused status) fits there at_door at.same)
      (unheard_shown s k a (apps.refused status) fits there at_door number at.at_door at.number)

-- ---- its bytes
module _ (go : KeysGoOn) where
  responds_lead : (s : State) (k : ℕ) (a : App) → Fits s → Keys (shown s) → nth k s.apps ≡ Some a → a.home ≡ home.Connect → a.door.number ≡ 0 → a.stage ≡ stage.Dialling
      → (answer : Result ConnectAnswer ConnectError) (rest : List ℕ) → Leads s (responds answer rest k s)
  responds_lead s k a fits keys there at_door number dialling (Ok More) rest = settles_leads go plain_serves s k a fits keys there at_door
  responds_lead s k a fits keys there at_door number dialling (Ok (Head target early)) rest = head_came_leads go s k a fits keys there at_door number dialling target early rest
  responds_lead s k a fits keys there at_door number dialling (Err (Fault fault)) rest = fault_leads s k a fits there at_door number (fault_status fault)
  responds_lead s k a fits keys there at_door number dialling (Err NoMemory) rest = leads_none s s fits refl

  pub first_leads : (s new : State) (k : ℕ) (a : App) (bytes : List ℕ) → Fits s → Keys (shown s) → nth k s.apps ≡ Some a → a.home ≡ home.Connect → a.door.number ≡ 0 → a.stage ≡ stage.Dialling
      → Hears bytes k s new → Leads s new
  first_leads s new k a bytes fits keys there at_door number dialling (answer, read, feeds, given, is) =
      let fed : Feeds (Some a) (take 16384 bytes) k answer s.apps read = subst (λ o. Feeds o (take 16384 bytes) k answer s.apps read) there feeds in
      let f : App → App = with_front (holds answer (a.door.front ++ take 16384 bytes)) in
      let t : State = record s { apps = change f k s.apps } in
      let came : record s { apps = read } ≡ t = ap (λ xs. record s { apps = xs }) (fed.1 ∙ sym (ap (λ o. changed f k s.apps o) there)) in
      subst (λ u. Leads s u) (sym (is ∙ ap (λ u. responds answer (drop 16384 bytes) k u) came))
      (leads_then go s t (responds answer (drop 16384 bytes) k t) keys
      (kept_leads s k a f fits there at_door
      (record { at_door = refl; number = refl; at_server = refl; early = refl; closing = refl; dial = refl; sending = refl; end_given = refl; coming = λ e. e; stage = inl refl }) (record { stream = λ j. refl; app = refl }))
      (λ fit key. responds_lead t k (f a) fit key (changed_own f k s.apps a there) at_door number dialling answer (drop 16384 bytes)))

  -- ---- an app that comes
  pub raw_leads : (bytes : List ℕ) (old new : State) → Fits old → Keys (shown old) → RawAppComes bytes old new → Leads old new
  raw_leads bytes old new fits keys comes =
      let hears : Hears bytes (suc (length old.apps)) (with_connect old) new = subst (λ n. Hears bytes n (with_connect old) new) (length_more old.apps comer) comes in
      leads_then go old (with_connect old) new keys (comes_leads old fits)
      (λ fit key. first_leads (with_connect old) new (suc (length old.apps)) comer bytes fit key (comer_there old fits) refl refl refl hears)

  -- ---- one that is there
  pub hears_lead : (bytes : List ℕ) (app : ℕ) (old new : State) → is_app_unheard app old ≡ true → can_send app old ≡ true → Fits old → Keys (shown old) → Hears bytes app old new → Leads old new
  hears_lead bytes app old new unheard may fits keys hears = at (nth app old.apps) refl
    where
      zero_is : (a : App) → (a.door.number == 0) ≡ true → a.door.number ≡ 0
      zero_is a e = eqb-true a.door.number 0 e

      dialling : (a : App) (g : Stage) → a.stage ≡ g → is_at_door g ≡ true → IsUnheard a → a.stage ≡ stage.Dialling
      dialling a stage.Dialling e h u = e
      dialling a stage.Open e h u = absurd (u.unopened e)
      dialling a stage.Refused e h u = absurd (cc h)
      dialling a stage.Ended e h u = absurd (cc h)

      by : (a : App) → nth app old.apps ≡ Some a → (h : Home) → a.home ≡ h → is_unheard h a ≡ true → is_at_home h a.stage old.clients ≡ true → Leads old new
      by a there (home.Client c n) e u m = absurd (cc u)
      by a there home.Connect e u m =
          first_leads old new app a bytes fits keys there e (zero_is a u) (dialling a a.stage refl m (fits.fronts.unheard app a there e (zero_is a u))) hears

      at : (o : Option App) → nth app old.apps ≡ o → Leads old new
      at None there = let z : false ≡ true = sym (ap is_unheard_of there) ∙ unheard in absurd cc
      at (Some a) there = by a there a.home refl (sym (ap is_unheard_of there) ∙ unheard)
          (and_first (is_app_here a old) (not a.side.ended) (sym (ap (λ o. there_and (λ (x : App). is_app_here x old && not x.side.ended) o) there) ∙ may))
