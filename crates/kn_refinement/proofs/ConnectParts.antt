-- A change of an app by CONNECT: what is then shown of it and of its stream, and that all fits as before.
use Rattle.std.proofs.Common.{◌≡◌, ◌==◌, ◌⊎◌, inl, inr, ℕ, suc, Bool, true, false, cond, List, [], Option, Some, None, refl, sym, ap, ◌∙◌, subst, eqb-true}
use Rattle.std.proofs.Math.Dec.{eqb-suc-zero}
use Rattle.std.proofs.lemmas.Bool.{eq-eqb}
use Rattle.kn_packet.specs.declared.packet.Packet.TheVariants.{CloseReq, CloseRsp, Data, DialCls, DialReq, DialRsp, Drain, Other}
use Rattle.kn_server_core.specs.declared.event.ServerEvent.{ServerEvent}
use Rattle.kn_server_core.specs.declared.event.ServerEvent.TheVariants.{FrontLost, FrontPacket, FrontUp, LinkLost, LinkPacket, LinkUp}
use Rattle.kn_server_core.specs.Isolation.{Each}
use Rattle.kn_packets.specs.Keys.{Keys}
use Rattle.kn_packets.specs.Moves.{May, Move, after, no_app, server_does}
use Rattle.kn_packets.specs.World.{WorldApp, WorldStream}
use Rattle.kn_world.specs.declared.parts.App.{App}
use Rattle.kn_world.specs.declared.parts.Client.{Client}
use Rattle.kn_world.specs.declared.parts.Home.TheVariants as home
use Rattle.kn_world.specs.declared.parts.Owner.{Owner}
use Rattle.kn_world.specs.declared.parts.Owner.TheVariants as owner
use Rattle.kn_world.specs.declared.parts.Stage.TheVariants as stage
use Rattle.kn_world.specs.declared.state.State.{State}
use Rattle.kn_world.specs.Numbers.{change, nth}
use Rattle.kn_world.specs.ServerSteps.{step}
use Rattle.kn_refinement.specs.Fits.{AskedFits, ClientFits, Fits, FrontFits, IsDataOf, IsPast, IsUnheard}
use Rattle.kn_refinement.specs.Leads.{Leads}
use Rattle.kn_refinement.specs.Shown.{app_at_home, app_of, connect_app, connect_stream, shown, stream_of}
use Rattle.kn_refinement.proofs.Changes.{WasBefore, changed_other, changed_own, was_before}
use Rattle.kn_refinement.proofs.Pairs.{some_is}

-- ---- a member before and after a change of one
pub at_each : {X : Type 0} (k j : ℕ) (xs : List X) (R : Option X → Option X → Type 0) (f : X → X) (a : X) → nth k xs ≡ Some a → R (Some a) (Some (f a)) → ((o : Option X) → R o o) → R (nth j xs) (nth j (change f k xs))
at_each k j xs R f a there own other = here (j == k) refl
  where
    here : (b : Bool) → (j == k) ≡ b → R (nth j xs) (nth j (change f k xs))
    here true e =
        let i : j ≡ k = eqb-true j k e in
        subst (λ o. R o (nth j (change f k xs))) (sym (ap (λ m. nth m xs) i ∙ there)) (subst (λ p. R (Some a) p) (sym (ap (λ m. nth m (change f k xs)) i ∙ changed_own f k xs a there)) own)
    here false e = subst (λ p. R (nth j xs) p) (sym (changed_other f k j xs e)) (other (nth j xs))

-- ---- what a step of the server comes to is proved elsewhere; requests and fronts that come up are taken by themselves
abbrev pub IsPlain : ServerEvent → Type 0
IsPlain (FrontPacket front (DialReq protocol address random)) = ⊥
IsPlain (FrontPacket front (DialRsp error connect_id random)) = Unit {0}
IsPlain (FrontPacket front (Data connect_id error bytes)) = Unit {0}
IsPlain (FrontPacket front (CloseReq connect_id)) = Unit {0}
IsPlain (FrontPacket front (CloseRsp error connect_id)) = Unit {0}
IsPlain (FrontPacket front (DialCls random)) = Unit {0}
IsPlain (FrontPacket front Drain) = Unit {0}
IsPlain (FrontPacket front (Other number)) = Unit {0}
IsPlain (LinkUp link identifiers) = Unit {0}
IsPlain (LinkPacket link p) = Unit {0}
IsPlain (LinkLost link) = Unit {0}
IsPlain (FrontUp front) = ⊥
IsPlain (FrontLost front) = Unit {0}

abbrev pub ServerLeads : Type 0
ServerLeads = (old s : State) (m : Move) (app : ℕ) (event : ServerEvent) → Fits s → s.agents ≡ old.agents → s.server ≡ old.server → IsPlain event
    → Keys (shown old) → May m (shown old) → after m (shown old) ≡ server_does event (shown s) → Leads old (step app event s)

-- ---- an app by CONNECT whose head was whole
pub record Own (s : State) (k n : ℕ) (a : App) : Type 0 where
  pub there : nth k s.apps ≡ Some a
  pub at_door : a.home ≡ home.Connect
  pub number : a.door.number ≡ suc n

pub own_front : (s : State) (k n : ℕ) (a : App) → Fits s → Own s k n a → nth (suc n) s.fronts ≡ Some (owner.App k)
own_front s k n a fits own = fits.fronts.app k n a own.there own.at_door own.number

pub stream_shown : (s : State) (k n : ℕ) (a : App) → Fits s → Own s k n a → (shown s).streams (suc n) ≡ connect_stream k (Some a)
stream_shown s k n a fits own = ap (λ o. stream_of s.clients s.apps o) (own_front s k n a fits own) ∙ ap (λ o. connect_stream k o) own.there

pub connect_shown : (cs : List Client) (n : ℕ) (a : App) → a.home ≡ home.Connect → a.door.number ≡ suc n → app_of cs (Some a) ≡ connect_app a
connect_shown cs n a h e = ap (λ at. app_at_home cs at a) h ∙ ap (λ b. cond b no_app (connect_app a)) (ap (λ m. m == 0) e ∙ eqb-suc-zero n)

pub app_shown : (s : State) (k n : ℕ) (a : App) → Own s k n a → (shown s).apps k ≡ connect_app a
app_shown s k n a own = ap (λ o. app_of s.clients o) own.there ∙ connect_shown s.clients n a own.at_door own.number

-- ---- all streams, and all apps, where one app by CONNECT changes
pub streams_changed : (s : State) (k n : ℕ) (a : App) (f : App → App) (G : Bool → WorldStream → WorldStream) → Fits s → Own s k n a
    → ((x : WorldStream) → G false x ≡ x) → G true (connect_stream k (Some a)) ≡ connect_stream k (Some (f a))
    → (i : ℕ) → G (i == suc n) (stream_of s.clients s.apps (nth i s.fronts)) ≡ stream_of s.clients (change f k s.apps) (nth i s.fronts)
streams_changed s k n a f G fits own rest here i = by (i == suc n) refl
  where
    same : (i == suc n) ≡ false → (o : Option Owner) → nth i s.fronts ≡ o → stream_of s.clients s.apps o ≡ stream_of s.clients (change f k s.apps) o
    same e None h = refl
    same e (Some (owner.Client c)) h = refl
    same e (Some (owner.App j)) h = at (j == k) refl
      where
        at : (b : Bool) → (j == k) ≡ b → connect_stream j (nth j s.apps) ≡ connect_stream j (nth j (change f k s.apps))
        at false q = ap (λ o. connect_stream j o) (sym (changed_other f k j s.apps q))
        at true q =
            let found = fits.fronts.of_app i j h in
            let z : found.0 ≡ a = some_is (sym found.1 ∙ ap (λ m. nth m s.apps) (eqb-true j k q) ∙ own.there) in
            let w : i ≡ suc n = sym found.3 ∙ ap (λ (v : App). v.door.number) z ∙ own.number in
            absurd (cc (e, eq-eqb i (suc n) w))

    by : (b : Bool) → (i == suc n) ≡ b → G b (stream_of s.clients s.apps (nth i s.fronts)) ≡ stream_of s.clients (change f k s.apps) (nth i s.fronts)
    by true e =
        let o : nth i s.fronts ≡ Some (owner.App k) = ap (λ m. nth m s.fronts) (eqb-true i (suc n) e) ∙ own_front s k n a fits own in
        ap (λ p. G true (stream_of s.clients s.apps p)) o ∙ ap (λ p. G true (connect_stream k p)) own.there ∙ here
        ∙ sym (ap (λ p. stream_of s.clients (change f k s.apps) p) o ∙ ap (λ p. connect_stream k p) (changed_own f k s.apps a own.there))
    by false e = rest (stream_of s.clients s.apps (nth i s.fronts)) ∙ same e (nth i s.fronts) refl

pub apps_changed : (s : State) (k n : ℕ) (a : App) (f : App → App) (H : Bool → WorldApp → WorldApp) → Own s k n a → (f a).home ≡ home.Connect → (f a).door.number ≡ suc n
    → ((x : WorldApp) → H false x ≡ x) → H true (connect_app a) ≡ connect_app (f a)
    → (i : ℕ) → H (i == k) (app_of s.clients (nth i s.apps)) ≡ app_of s.clients (nth i (change f k s.apps))
apps_changed s k n a f H own at_door number rest here i = by (i == k) refl
  where
    by : (b : Bool) → (i == k) ≡ b → H b (app_of s.clients (nth i s.apps)) ≡ app_of s.clients (nth i (change f k s.apps))
    by true e =
        let o : nth i s.apps ≡ Some a = ap (λ m. nth m s.apps) (eqb-true i k e) ∙ own.there in
        ap (λ p. H true (app_of s.clients p)) o ∙ ap (λ x. H true x) (connect_shown s.clients n a own.at_door own.number) ∙ here
        ∙ sym (ap (λ p. app_of s.clients p) (ap (λ m. nth m (change f k s.apps)) (eqb-true i k e) ∙ changed_own f k s.apps a own.there) ∙ connect_shown s.clients n (f a) at_door number)
    by false e = rest (app_of s.clients (nth i s.apps)) ∙ ap (λ p. app_of s.clients p) (sym (changed_other f k i s.apps e))

-- ---- all fits as before
pub record Same (a b : App) : Type 0 where
  pub at_door : b.home ≡ home.Connect
  pub number : b.door.number ≡ a.door.number
  pub dial : b.dial ≡ a.dial
  pub early : Each (IsDataOf a.dial) b.door.early
  pub unheard : a.door.number ≡ 0 → IsUnheard b
  pub refused : b.stage ≡ stage.Refused → b.door.closing ≡ false
  pub present : (n : ℕ) → b.door.number ≡ suc n → b.side.end_given ≡ false → b.door.at_server ≡ true
  pub gone : (n : ℕ) → b.door.number ≡ suc n → b.door.at_server ≡ false → IsPast b × (b.door.early ≡ [])

module _ (s : State) (k : ℕ) (a : App) (f : App → App) (fits : Fits s) (there : nth k s.apps ≡ Some a) (at_door : a.home ≡ home.Connect) (new_at_door : (f a).home ≡ home.Connect) (new_dial : (f a).dial ≡ a.dial) where
  not_at_client : (c n : ℕ) → a.home ≡ home.Client c n → ⊥
  not_at_client c n h = let z : home.Connect ≡ home.Client c n = sym at_door ∙ h in absurd cc

  -- an app of the new list: the one that changed, or one that was there
  pub is_either : (P : App → Type 0) (j : ℕ) (b : App) → nth j (change f k s.apps) ≡ Some b → (j ≡ k → P (f a)) → (nth j s.apps ≡ Some b → P b) → P b
  is_either P j b h own other = here (was_before f k j s.apps b h)
    where
      here : WasBefore f k j s.apps b → P b
      here was = at was.is
        where
          at : ((j ≡ k) × (b ≡ f was.old)) ⊎ (((j == k) ≡ false) × (b ≡ was.old)) → P b
          at (inl (e, is)) = let z : was.old ≡ a = some_is (sym was.there ∙ ap (λ m. nth m s.apps) e ∙ there) in subst (λ x. P x) (sym (is ∙ ap f z)) (own e)
          at (inr (e, is)) = other (was.there ∙ ap (λ x. Some x) (sym is))

  -- an app that was there: it still is, or it is the one that changed
  pub still : (Q : App → Type 0) (j : ℕ) (b : App) → nth j s.apps ≡ Some b → ((j ≡ k) → (b ≡ a) → Q (f a)) → (nth j (change f k s.apps) ≡ Some b → Q b) → (x : App) × (nth j (change f k s.apps) ≡ Some x) × Q x
  still Q j b h own other = here (j == k) refl
    where
      here : (e : Bool) → (j == k) ≡ e → (x : App) × (nth j (change f k s.apps) ≡ Some x) × Q x
      here true e =
          let i : j ≡ k = eqb-true j k e in
          let z : b ≡ a = some_is (sym h ∙ ap (λ m. nth m s.apps) i ∙ there) in
          (f a, ap (λ m. nth m (change f k s.apps)) i ∙ changed_own f k s.apps a there, own i z)
      here false e = let q : nth j (change f k s.apps) ≡ Some b = changed_other f k j s.apps e ∙ h in (b, q, other q)

  pub asked_kept : AskedFits s.dials (change f k s.apps)
  asked_kept = record {
    asker = λ d x h. let old = fits.asked.asker d x h in
        still (λ (y : App). y.dial ≡ d) x.app old.0 old.1 (λ i z. new_dial ∙ sym (ap (λ (v : App). v.dial) z) ∙ old.2) (λ q. old.2);
  }

  client_of_it : (R : Type 0) (j c n : ℕ) (b : App) → nth j (change f k s.apps) ≡ Some b → b.home ≡ home.Client c n → (nth j s.apps ≡ Some b → R) → R
  client_of_it R j c n b h at old =
      is_either (λ (x : App). x.home ≡ home.Client c n → R) j b h (λ i e. let z : home.Connect ≡ home.Client c n = sym new_at_door ∙ e in absurd cc) (λ q e. old q) at

  pub clients_kept : ClientFits s.clients (change f k s.apps)
  clients_kept = record {
    of_number = λ c n app x h g. let old = fits.clients.of_number c n app x h g in
        still (λ (y : App). y.home ≡ home.Client c n) app old.0 old.1 (λ i z. absurd (not_at_client c n (sym (ap (λ (v : App). v.home) z) ∙ old.2))) (λ q. old.2);
    number_of = λ app c n b h e. client_of_it _ app c n b h e (λ q. fits.clients.number_of app c n b q e);
    top = fits.clients.top;
    all_told = fits.clients.all_told;
    told = fits.clients.told;
    here = λ app c n b x y h e g i. client_of_it _ app c n b h e (λ q. fits.clients.here app c n b x y q e g i);
    left = λ app c n b x h e g i t. client_of_it _ app c n b h e (λ q. fits.clients.left app c n b x q e g i t);
    up_dry = fits.clients.up_dry;
    down_dry = fits.clients.down_dry;
    unasked = λ app c n b x h e g t. client_of_it _ app c n b h e (λ q. fits.clients.unasked app c n b x q e g t);
    no_door = λ app c n b h e. client_of_it _ app c n b h e (λ q. fits.clients.no_door app c n b q e);
  }

module _ (s : State) (k : ℕ) (a : App) (f : App → App) (fits : Fits s) (there : nth k s.apps ≡ Some a) (at_door : a.home ≡ home.Connect) (same : Same a (f a)) where
  fronts_kept : FrontFits s.clients (change f k s.apps) s.fronts s.server.fronts
  fronts_kept = record {
    of_client = fits.fronts.of_client;
    client = fits.fronts.client;
    of_app = λ i j h. let old = fits.fronts.of_app i j h in
        let found = still s k a f fits there at_door same.at_door same.dial (λ (y : App). (y.home ≡ home.Connect) × (y.door.number ≡ i)) j old.0 old.1 (λ e z. (same.at_door, same.number ∙ sym (ap (λ (v : App). v.door.number) z) ∙ old.3)) (λ q. (old.2, old.3)) in
        (found.0, found.1, found.2.0, found.2.1);
    app = λ j n b h. is_either s k a f fits there at_door same.at_door same.dial (λ (x : App). x.home ≡ home.Connect → x.door.number ≡ suc n → nth (suc n) s.fronts ≡ Some (owner.App j)) j b h
        (λ i e g. fits.fronts.app k n a there at_door (sym same.number ∙ g) ∙ ap (λ m. Some (owner.App m)) (sym i)) (λ q. fits.fronts.app j n b q);
    unheard = λ j b h. is_either s k a f fits there at_door same.at_door same.dial (λ (x : App). x.home ≡ home.Connect → x.door.number ≡ 0 → IsUnheard x) j b h (λ i e g. same.unheard (sym same.number ∙ g)) (λ q. fits.fronts.unheard j b q);
    early = λ j b h. is_either s k a f fits there at_door same.at_door same.dial (λ (x : App). x.home ≡ home.Connect → Each (IsDataOf x.dial) x.door.early) j b h
        (λ i e. subst (λ d. Each (IsDataOf d) (f a).door.early) (sym same.dial) same.early) (λ q. fits.fronts.early j b q);
    refused = λ j b h. is_either s k a f fits there at_door same.at_door same.dial (λ (x : App). x.home ≡ home.Connect → x.stage ≡ stage.Refused → x.door.closing ≡ false) j b h (λ i e. same.refused) (λ q. fits.fronts.refused j b q);
    present = λ j n b h. is_either s k a f fits there at_door same.at_door same.dial (λ (x : App). x.home ≡ home.Connect → x.door.number ≡ suc n → x.side.end_given ≡ false → x.door.at_server ≡ true) j b h (λ i e. same.present n) (λ q. fits.fronts.present j n b q);
    gone = λ j n b h. is_either s k a f fits there at_door same.at_door same.dial (λ (x : App). x.home ≡ home.Connect → x.door.number ≡ suc n → x.door.at_server ≡ false → IsPast x × (x.door.early ≡ [])) j b h (λ i e. same.gone n) (λ q. fits.fronts.gone j n b q);
    known = fits.fronts.known;
  }

  pub fits_changed : Fits (record s { apps = change f k s.apps })
  fits_changed = record { asked = asked_kept s k a f fits there at_door same.at_door same.dial; agents = fits.agents; clients = clients_kept s k a f fits there at_door same.at_door same.dial; fronts = fronts_kept; next_dial = fits.next_dial }
