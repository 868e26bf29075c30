-- What an app by CONNECT does, one step at a time.
use Rattle.std.proofs.Common.{◌≡◌, ◌++◌, ◌&&◌, ℕ, zero, suc, Bool, true, false, not, cond, inl, inr, List, [], ◌∷◌, map, length, Some, refl, sym, ap, ◌∙◌, subst}
use Rattle.kn_packet.specs.declared.packet.Packet.{Packet}
use Rattle.kn_packet.specs.declared.packet.Packet.TheVariants.{CloseReq, CloseRsp, Data, DialCls, DialReq, DialRsp, Drain, Other}
use Rattle.kn_server_core.specs.Isolation.{Each}
use Rattle.kn_server_core.specs.declared.event.ServerEvent.TheVariants.{FrontLost}
use Rattle.kn_tunnel.specs.Kinds.{is_gone}
use Rattle.kn_packets.specs.Keys.{Keys}
use Rattle.kn_packets.specs.Moves.{DropsIn, JoinsIn, May, after, all_joined, join_first}
use Rattle.kn_packets.specs.World.{WorldStream}
use Rattle.kn_packets.proofs.Runs.{keys_go_on}
use Rattle.kn_world.specs.declared.parts.App.{App}
use Rattle.kn_world.specs.declared.parts.Home.TheVariants as home
use Rattle.kn_world.specs.declared.parts.Stage.TheVariants as stage
use Rattle.kn_world.specs.declared.state.State.{State}
use Rattle.kn_world.specs.Arrivals.{with_connect}
use Rattle.kn_world.specs.Doors.{data_of}
use Rattle.kn_world.specs.Handing as handing
use Rattle.kn_world.specs.Hearing.{with_front}
use Rattle.kn_world.specs.Apps as apps
use Rattle.kn_world.specs.Idle.{is_at_door}
use Rattle.kn_world.specs.Numbers.{change, nth}
use Rattle.kn_world.specs.ServerSteps.{step}
use Rattle.kn_world.specs.Sides as side
use Rattle.kn_refinement.specs.Fits.{Fits, IsDataOf}
use Rattle.kn_refinement.specs.Homes.{OfConnect}
use Rattle.kn_refinement.specs.Leads.{Leads}
use Rattle.kn_refinement.specs.Shown.{connect_stream, front_if, shown, unnumbered}
use Rattle.kn_refinement.proofs.Changes.{change_twice, changed_own}
use Rattle.kn_refinement.proofs.ConnectArrives.{comer, comer_there, comes_leads}
use Rattle.kn_refinement.proofs.ConnectFirst.{fault_leads}
use Rattle.kn_refinement.proofs.ConnectHands.{piece_leads}
use Rattle.kn_refinement.proofs.ConnectHeard.{kept_leads_on}
use Rattle.kn_refinement.proofs.ConnectHears.{hears_leads}
use Rattle.kn_refinement.proofs.ConnectLeaves.{lost, lost_leads}
use Rattle.kn_refinement.proofs.ConnectParts.{Own, Same, apps_changed, fits_changed, stream_shown, streams_changed}
use Rattle.kn_refinement.proofs.ConnectSends.{sends_leads}
use Rattle.kn_refinement.proofs.ConnectServed.{plain_serves}
use Rattle.kn_refinement.proofs.ConnectSettles.{heard_ends, unheard_ends, unheard_shown}
use Rattle.kn_refinement.proofs.ConnectTakes.{ended_leads, holding_leads, kept_leads, takes_leads}
use Rattle.kn_refinement.proofs.Worlds.{leads_none, leads_one, leads_then, worlds_same}
use Rattle.kn_turns.specs.Doors.{HasNotLeft, IsAnswered, IsFresh, IsHeard, IsOver, IsUnheard, MayHand, OfDoor, app_refused, asks, faulted, front_gone, joined, joins, loses_front, reads, turned_away}
use Rattle.kn_turns.specs.Notes.{app_ended, app_holding, app_sent}
use Rattle.kn_world.specs.AppSteps as steps

-- ---- one that is refused at once comes, and is refused
away_leads : (s : State) (k : ℕ) (error : List ℕ) (a : App) → Fits s → nth k s.apps ≡ Some a → a.home ≡ home.Connect → a.door.number ≡ 0 → Leads s (record s { apps = change (turned_away error) k s.apps })
away_leads s k error a fits there at_door number = leads_none s (record s { apps = change (turned_away error) k s.apps }) (fits_changed s k a (turned_away error) fits there at_door same) (unheard_shown s k a (turned_away error) fits there at_door number at_door number)
  where
    none_before : (n : ℕ) → a.door.number ≡ suc n → ⊥
    none_before n e = let z : 0 ≡ suc n = sym number ∙ e in absurd cc

    same : Same a (turned_away error a)
    same =
        let old = fits.fronts.unheard k a there at_door number in
        record {
          at_door = at_door;
          number = refl;
          dial = refl;
          early = fits.fronts.early k a there at_door;
          unheard = λ z. record { sending = old.sending; coming = old.coming; dial = old.dial; early = old.early; closing = old.closing; at_server = old.at_server; unopened = λ e. let z : stage.Refused ≡ stage.Open = e in absurd cc };
          refused = λ r. old.closing;
          present = λ n e g. absurd (none_before n e);
          gone = λ n e g. absurd (none_before n e);
        }

pub refused_turn : (error : List ℕ) (s : State) → Fits s → Keys (shown s) → Leads s (app_refused error s)
refused_turn error s fits keys = leads_then keys_go_on s (with_connect s) (app_refused error s) keys (comes_leads s fits)
    (λ fit key. away_leads (with_connect s) (suc (length s.apps)) error comer fit (comer_there s fits) refl refl)

-- ---- its head
pub reads_turn : (k : ℕ) (bytes : List ℕ) (s : State) → OfConnect k s → Fits s → Leads s (reads bytes k s)
reads_turn k bytes s (a, there, at_door) fits = kept_leads s k a (with_front bytes) fits there at_door
    (record { at_door = refl; number = refl; at_server = refl; early = refl; closing = refl; dial = refl; sending = refl; end_given = refl; coming = λ e. e; stage = inl refl }) (record { stream = λ j. refl; app = refl })

pub faulted_turn : (k status : ℕ) (s : State) → OfDoor IsUnheard k s → Fits s → Leads s (faulted status k s)
faulted_turn k status s (a, there, at_door, number) fits = fault_leads s k a fits there at_door number status

pub asks_turn : (k : ℕ) (target early rest : List ℕ) (s : State) → OfDoor IsFresh k s → Fits s → Keys (shown s) → Leads s (asks target early rest k s)
asks_turn k target early rest s (a, there, at_door, fresh) fits keys = kept_leads_on keys_go_on s k a fits keys there at_door fresh.0 fresh.1 target early rest

-- ---- what it sends
pub sends_turn : (k : ℕ) (bytes : List ℕ) (s : State) → OfDoor IsHeard k s → Fits s → Leads s (app_sent bytes k s)
sends_turn k bytes s (a, there, at_door, heard) fits = sends_leads bytes s k heard.0 a fits (record { there = there; at_door = at_door; number = heard.1 })

pub hands_turn : (k : ℕ) (s : State) → OfDoor MayHand k s → Fits s → Leads s (handing.hands_piece k s)
hands_turn k s (a, there, at_door, may) fits = piece_leads s k may.0.0 a fits (record { there = there; at_door = at_door; number = may.0.1 }) (record { open_yet = may.1; here = may.2 })

pub stops_turn : (k : ℕ) (s : State) → OfConnect k s → Fits s → Leads s (app_ended k s)
stops_turn k s (a, there, at_door) fits = ended_leads s k a fits there at_door

pub holds_turn : (k : ℕ) (held : Bool) (s : State) → OfConnect k s → Fits s → Leads s (app_holding held k s)
holds_turn k held s (a, there, at_door) fits = holding_leads s k a held fits there at_door

pub takes_turn : (k count : ℕ) (s : State) → OfConnect k s → Fits s → Leads s (steps.takes k count s)
takes_turn k count s (a, there, at_door) fits = takes_leads s k count a fits there at_door

-- ---- the server takes the first packet that it keeps of it
pub hears_turn : (k : ℕ) (s : State) → OfDoor IsAnswered k s → Fits s → Keys (shown s) → Leads s (handing.server_hears k s)
hears_turn k s (a, there, at_door, may) fits keys = hears_leads plain_serves s k may.0.0 a fits keys (record { there = there; at_door = at_door; number = may.0.1 }) may.1

-- ---- it leaves, and the server loses its front
pub leaves_turn : (k : ℕ) (s : State) → OfDoor HasNotLeft k s → Fits s → Keys (shown s) → Leads s (handing.gives_end k s)
leaves_turn k s (a, there, at_door, given) fits keys = by a.door.number refl
  where
    by : (n : ℕ) → a.door.number ≡ n → Leads s (handing.gives_end k s)
    by zero e = unheard_ends s k a fits there at_door e
    by (suc n) e = heard_ends keys_go_on plain_serves s k n a fits keys (record { there = there; at_door = at_door; number = e }) given

-- ---- what is kept becomes one packet
first_unnumbered : (p : Packet) (ps : List Packet) → map unnumbered (join_first p ps) ≡ join_first (unnumbered p) (map unnumbered ps)
first_unnumbered (Data c error bytes) [] = refl
first_unnumbered (Data c error bytes) (Data d reason more ∷ ps) = refl
first_unnumbered (Data c error bytes) (DialReq protocol address random ∷ ps) = refl
first_unnumbered (Data c error bytes) (DialRsp reason d random ∷ ps) = refl
first_unnumbered (Data c error bytes) (CloseReq d ∷ ps) = refl
first_unnumbered (Data c error bytes) (CloseRsp reason d ∷ ps) = refl
first_unnumbered (Data c error bytes) (DialCls random ∷ ps) = refl
first_unnumbered (Data c error bytes) (Drain ∷ ps) = refl
first_unnumbered (Data c error bytes) (Other number ∷ ps) = refl
first_unnumbered (DialReq protocol address random) ps = refl
first_unnumbered (DialRsp error c random) ps = refl
first_unnumbered (CloseReq c) ps = refl
first_unnumbered (CloseRsp error c) ps = refl
first_unnumbered (DialCls random) ps = refl
first_unnumbered Drain ps = refl
first_unnumbered (Other number) ps = refl

joined_unnumbered : (ps : List Packet) → map unnumbered (all_joined ps) ≡ all_joined (map unnumbered ps)
unfolding all_joined
joined_unnumbered [] = refl
joined_unnumbered (p ∷ ps) = first_unnumbered p (all_joined ps) ∙ ap (λ qs. join_first (unnumbered p) qs) (joined_unnumbered ps)

first_data : (dial : ℕ) (p : Packet) (ps : List Packet) → IsDataOf dial p → Each (IsDataOf dial) ps → Each (IsDataOf dial) (join_first p ps)
first_data dial p [] (bytes, is) rest = subst (λ q. Each (IsDataOf dial) (join_first q [])) (sym is) ((bytes, refl), tt)
first_data dial p (q ∷ ps) (bytes, is) ((more, its), rest) = subst (λ x. Each (IsDataOf dial) (join_first x (q ∷ ps))) (sym is)
    (subst (λ y. Each (IsDataOf dial) (join_first (data_of dial bytes) (y ∷ ps))) (sym its) ((bytes ++ more, refl), rest))

joined_data : (dial : ℕ) (ps : List Packet) → Each (IsDataOf dial) ps → Each (IsDataOf dial) (all_joined ps)
unfolding all_joined
joined_data dial [] all = tt
joined_data dial (p ∷ ps) (its, all) = first_data dial p (all_joined ps) its (joined_data dial ps all)

joined_none : (ps : List Packet) → ps ≡ [] → all_joined ps ≡ []
unfolding all_joined
joined_none ps e = ap all_joined e

module _ (s : State) (k n : ℕ) (a : App) (fits : Fits s) (own : Own s k n a) where
  joins_same : Same a (joined a)
  joins_same = record {
    at_door = own.at_door;
    number = refl;
    dial = refl;
    early = joined_data a.dial a.door.early (fits.fronts.early k a own.there own.at_door);
    unheard = λ z. let none : suc n ≡ 0 = sym own.number ∙ z in absurd cc;
    refused = fits.fronts.refused k a own.there own.at_door;
    present = λ m e g. fits.fronts.present k m a own.there own.at_door e g;
    gone = λ m e g. let old = fits.fronts.gone k m a own.there own.at_door e g in (old.0, joined_none a.door.early old.1);
  }

  abbrev ups : List Packet
  ups = all_joined ((shown s).streams (suc n)).up

  ups_are : ups ≡ map unnumbered (all_joined a.door.early)
  ups_are = ap (λ (x : WorldStream). all_joined x.up) (stream_shown s k n a fits own) ∙ sym (joined_unnumbered a.door.early)

  joins_leads : Leads s (joins k s)
  joins_leads = leads_one s (joins k s) (JoinsIn (suc n)) (fits_changed s k a joined fits own.there own.at_door joins_same)
      (ap (λ (x : WorldStream). x.connect) (stream_shown s k n a fits own))
      (worlds_same (after (JoinsIn (suc n)) (shown s)) (shown (joins k s)) refl (λ l. refl) (λ c. refl) (λ l. refl)
      (streams_changed s k n a joined (λ b x. record x { up = cond b ups x.up }) fits own (λ x. refl) (ap (λ ps. record (connect_stream k (Some a)) { up = ps }) ups_are)) (λ d. refl)
      (apps_changed s k n a joined (λ b x. x) own own.at_door own.number (λ x. refl) refl))

pub joins_turn : (k : ℕ) (s : State) → OfDoor IsHeard k s → Fits s → Leads s (joins k s)
joins_turn k s (a, there, at_door, heard) fits = joins_leads s k heard.0 a fits (record { there = there; at_door = at_door; number = heard.1 })

-- ---- the server loses the front of one whose tunnel it has ended: what it keeps of it is dropped, and then the front
abbrev bare : App → App
bare a = record a { side = side.end_told a.side; door = record a.door { early = [] } }

module _ (s : State) (k n : ℕ) (a : App) (fits : Fits s) (own : Own s k n a) (ends : a.door.closing ≡ true) (at_server : a.door.at_server ≡ true) where
  abbrev bare_state : State
  bare_state = record s { apps = change bare k s.apps }

  bare_same : Same a (bare a)
  bare_same = record {
    at_door = own.at_door;
    number = refl;
    dial = refl;
    early = tt;
    unheard = λ z. let none : suc n ≡ 0 = sym own.number ∙ z in absurd cc;
    refused = fits.fronts.refused k a own.there own.at_door;
    present = λ m e g. at_server;
    gone = λ m e g. absurd (cc (at_server, g));
  }

  -- its end of the stream is gone, and the server's is not
  may_drop : May (DropsIn (suc n)) (shown s)
  may_drop =
      ap (λ (x : WorldStream). not (is_gone x.front) && not x.client) (stream_shown s k n a fits own)
      ∙ ap (λ b. not (is_gone (front_if b)) && not (is_at_door a.stage && not a.door.closing)) at_server
      ∙ ap (λ c. not (is_at_door a.stage && not c)) ends
      ∙ ended_here (is_at_door a.stage)
    where
      ended_here : (b : Bool) → not (b && false) ≡ true
      ended_here true = refl
      ended_here false = refl

  pub bare_leads : Leads s bare_state
  bare_leads = leads_one s bare_state (DropsIn (suc n)) (fits_changed s k a bare fits own.there own.at_door bare_same) may_drop
      (worlds_same (after (DropsIn (suc n)) (shown s)) (shown bare_state) refl (λ l. refl) (λ c. refl) (λ l. refl)
      (streams_changed s k n a bare (λ b x. record x { up = cond b [] x.up }) fits own (λ x. refl) refl) (λ d. refl)
      (apps_changed s k n a bare (λ b x. x) own own.at_door own.number (λ x. refl) refl))

  pub bare_own : Own bare_state k n (bare a)
  bare_own = record { there = changed_own bare k s.apps a own.there; at_door = own.at_door; number = own.number }

pub lost_turn : (k : ℕ) (s : State) → OfDoor IsOver k s → Fits s → Keys (shown s) → Leads s (loses_front k s)
lost_turn k s (a, there, at_door, may) fits keys = subst (λ t. Leads s t) (sym is)
    (leads_then keys_go_on s (record s { apps = change bare k s.apps }) (step 0 (FrontLost (suc may.0.0)) (record s { apps = change lost k (change bare k s.apps) })) keys (bare_leads s k may.0.0 a fits own ends at_server)
    (λ fit key. lost_leads plain_serves (record s { apps = change bare k s.apps }) k may.0.0 (bare a) fit key (bare_own s k may.0.0 a fits own ends at_server) at_server (inr ends) refl refl))
  where
    own : Own s k may.0.0 a
    own = record { there = there; at_door = at_door; number = may.0.1 }

    ends : a.door.closing ≡ true
    ends = may.1

    at_server : a.door.at_server ≡ true
    at_server = may.2

    is : loses_front k s ≡ step 0 (FrontLost (suc may.0.0)) (record s { apps = change lost k (change bare k s.apps) })
    is = ap (λ o. step 0 (FrontLost (apps.front_of o)) (record s { apps = change front_gone k s.apps })) there
        ∙ ap (λ m. step 0 (FrontLost m) (record s { apps = change front_gone k s.apps })) may.0.1
        ∙ ap (λ xs. step 0 (FrontLost (suc may.0.0)) (record s { apps = xs })) (sym (change_twice lost bare k s.apps))
