-- A request that the server takes of a client's stream is of an app of this client, which has no dial yet.
use Rattle.std.proofs.Common.{◌≡◌, ◌==◌, ◌<◌, ℕ, ℤ, zero, suc, Bool, true, false, not, cond, List, ◌∷◌, Option, Some, None, refl, sym, ap, ◌∙◌, subst}
use Rattle.std.proofs.Math.Dec.{eqb-suc-zero}
use Rattle.std.proofs.lemmas.Bool.{lt-ltb}
use Rattle.std.specs.Prelude.{nat_lt}
use Rattle.kn_packet.specs.declared.packet.Packet.{Packet}
use Rattle.kn_packet.specs.declared.packet.Packet.TheVariants.{DialReq}
use Rattle.kn_server_core.specs.Isolation.{Each}
use Rattle.kn_tunnel.specs.Facts.{Facts}
use Rattle.kn_tunnel.specs.Kinds.{is_drawn, is_present}
use Rattle.kn_words.specs.Numbers.{is_number}
use Rattle.kn_packets.specs.Keys.{Keys, RequestOf}
use Rattle.kn_packets.specs.Moves.{no_app}
use Rattle.kn_packets.specs.Outputs.{asks}
use Rattle.kn_packets.specs.World.{World, WorldApp, WorldStream, tunnel_of}
use Rattle.kn_packets.proofs.TakesRequest.{asked, far_drawn, request_undrawn}
use Rattle.kn_world.specs.declared.parts.App.{App}
use Rattle.kn_world.specs.declared.parts.Client.{Client}
use Rattle.kn_world.specs.declared.parts.Door.{Door}
use Rattle.kn_world.specs.declared.parts.Home.{Home}
use Rattle.kn_world.specs.declared.parts.Home.TheVariants as home
use Rattle.kn_world.specs.declared.parts.Owner.TheVariants as owner
use Rattle.kn_world.specs.declared.state.State.{State}
use Rattle.kn_world.specs.Clients as clients
use Rattle.kn_world.specs.Numbers.{nth, number_of, or_none}
use Rattle.kn_refinement.specs.Fits.{Fits}
use Rattle.kn_refinement.specs.Shown.{app_at_home, app_of, client_app, client_stream, connect_app, is_told, number_if, shown}
use Rattle.kn_refinement.proofs.FitsHeard.{MayHaveDial}
use Rattle.kn_refinement.proofs.Pairs.{some_is}
use Rattle.kn_refinement.proofs.ServerAsks.{number_named}

-- ---- in the packet world
pub request_undialled : (w : World) (f k : ℕ) (protocol address : List ℕ) (random : ℤ) (rest : List Packet) → Keys w → (w.streams f).up ≡ DialReq protocol address random ∷ rest → is_present (w.streams f).front ≡ true
    → (w.apps k).came ≡ true → (w.apps k).stream ≡ f → asks (w.streams f).connect (w.apps k).number random ≡ true → (w.apps k).dial ≡ None
request_undialled w f k protocol address random rest keys first present came at e = here (w.apps k).dial refl
  where
    here : (D : Option ℕ) → (w.apps k).dial ≡ D → D ≡ None
    here None de = refl
    here (Some d) de =
        let facts : Facts (tunnel_of w (w.apps k) (Some d)) = rw de at (keys.facts k came) in
        let request : (tunnel_of w (w.apps k) (Some d)).inward.request ≡ true = rw at (asked w f protocol address random rest keys first present (w.streams f).connect (w.apps k).number (Some d) e) in
        let none : is_drawn (tunnel_of w (w.apps k) (Some d)).far ≡ false = request_undrawn (tunnel_of w (w.apps k) (Some d)) facts.link request in
        absurd (cc (none, far_drawn d (w.dials d).cid (w.agents (w.dials d).link) (w.links (w.dials d).link).down))

-- ---- in the running world
none_is_zero : (d : ℕ) → number_if d ≡ None → d ≡ 0
none_is_zero zero h = refl
none_is_zero (suc n) h = absurd cc

owner_same : {c d : ℕ} → Some (owner.Client c) ≡ Some (owner.Client d) → c ≡ d
owner_same e = cc

client_same : {c d n m : ℕ} → home.Client c n ≡ home.Client d m → c ≡ d
client_same e = cc

number_same : {c d n m : ℕ} → home.Client c n ≡ home.Client d m → n ≡ m
number_same e = cc

-- the app of a world's stream that is a client's: it is that client's, which knows its number
pub record IsOfClient (s : State) (c k : ℕ) (x : Client) (a : App) : Type 0 where
  pub number : ℕ
  pub at : a.home ≡ home.Client c number
  pub shown_number : ((shown s).apps k).number ≡ number
  pub shown_dial : ((shown s).apps k).dial ≡ number_if a.dial
  pub told : is_told number (Some x) ≡ true

module _ (s : State) (fits : Fits s) (c : ℕ) (x : Client) (there : nth c s.clients ≡ Some x) where
  of_client : (k : ℕ) (a : App) → nth k s.apps ≡ Some a → ((shown s).apps k).came ≡ true → ((shown s).apps k).stream ≡ x.front → IsOfClient s c k x a
  of_client k a e came at = here a.home refl
    where
      is : (h : Home) → a.home ≡ h → (shown s).apps k ≡ app_at_home s.clients h a
      is h i = ap (λ o. app_of s.clients o) e ∙ ap (λ g. app_at_home s.clients g a) i

      -- an app by CONNECT has a front of its own
      not_connect : (n : ℕ) → a.home ≡ home.Connect → a.door.number ≡ n → ⊥
      not_connect zero i m =
          let z : (shown s).apps k ≡ no_app = is home.Connect i ∙ ap (λ n. cond (n == 0) no_app (connect_app a)) m in
          let f : ((shown s).apps k).came ≡ false = ap (λ (v : WorldApp). v.came) z in cc
      not_connect (suc n) i m =
          let z : (shown s).apps k ≡ connect_app a = is home.Connect i ∙ ap (λ b. cond b no_app (connect_app a)) (ap (λ n. n == 0) m ∙ eqb-suc-zero n) in
          let f : x.front ≡ suc n = sym at ∙ ap (λ (v : WorldApp). v.stream) z ∙ m in
          let own : Some (owner.Client c) ≡ Some (owner.App k) = sym (fits.fronts.client c x there) ∙ ap (λ j. nth j s.fronts) f ∙ fits.fronts.app k n a e i m in absurd cc

      by_told : (d n : ℕ) (y : Client) → a.home ≡ home.Client d n → nth d s.clients ≡ Some y → (b : Bool) → is_told n (Some y) ≡ b → IsOfClient s c k x a
      by_told d n y i z false t =
          let v : (shown s).apps k ≡ no_app = is (home.Client d n) i ∙ ap (λ o. cond (is_told n o) (client_app n o a) no_app) z ∙ ap (λ b. cond b (client_app n (Some y) a) no_app) t in
          let f : ((shown s).apps k).came ≡ false = ap (λ (u : WorldApp). u.came) v in absurd cc
      by_told d n y i z true t =
          let v : (shown s).apps k ≡ client_app n (Some y) a = is (home.Client d n) i ∙ ap (λ o. cond (is_told n o) (client_app n o a) no_app) z ∙ ap (λ b. cond b (client_app n (Some y) a) no_app) t in
          let f : x.front ≡ y.front = sym at ∙ ap (λ (u : WorldApp). u.stream) v in
          let same : c ≡ d = owner_same (sym (fits.fronts.client c x there) ∙ ap (λ j. nth j s.fronts) f ∙ fits.fronts.client d y z) in
          let one : y ≡ x = some_is (sym z ∙ ap (λ j. nth j s.clients) (sym same) ∙ there) in
          record {
            number = n;
            at = i ∙ ap (λ j. home.Client j n) (sym same);
            shown_number = ap (λ (u : WorldApp). u.number) v;
            shown_dial = ap (λ (u : WorldApp). u.dial) v;
            told = ap (λ o. is_told n (Some o)) (sym one) ∙ t;
          }

      here : (h : Home) → a.home ≡ h → IsOfClient s c k x a
      here home.Connect i = absurd (not_connect a.door.number i refl)
      here (home.Client d n) i = let w = fits.clients.number_of k d n a e i in by_told d n w.0 i w.1 (is_told n (Some w.0)) refl

  -- so it may have its dial
  may_have : (k : ℕ) (a : App) → nth k s.apps ≡ Some a → IsOfClient s c k x a → ((shown s).apps k).dial ≡ None → MayHaveDial s.clients a
  may_have k a e own undialled = record {
    told = told;
    heard = λ i n. let z : home.Connect ≡ home.Client c own.number = sym i ∙ own.at in absurd cc;
    early = ap (λ (d : Door). d.early) (fits.clients.no_door k c own.number a e own.at);
    undialled = none_is_zero a.dial (sym own.shown_dial ∙ undialled);
  }
    where
      told : (d n : ℕ) (y : Client) → a.home ≡ home.Client d n → nth d s.clients ≡ Some y → y.core.top_app < n → ⊥
      told d n y i z t =
          let z1 : home.Client c own.number ≡ home.Client d n = sym own.at ∙ i in
          let one : y ≡ x = some_is (sym z ∙ ap (λ j. nth j s.clients) (sym (client_same z1)) ∙ there) in
          let top : nat_lt y.core.top_app n ≡ true = lt-ltb y.core.top_app n t in
          let untold : is_told n (Some y) ≡ false = ap not top in
          let knows : is_told n (Some y) ≡ true = ap (λ v. is_told n (Some v)) one ∙ ap (λ m. is_told m (Some x)) (sym (number_same z1)) ∙ own.told in
          absurd cc

  pub asker_may : (protocol address : List ℕ) (random : ℤ) (rest : List Packet) → Keys (shown s) → (shown s).streams x.front ≡ client_stream c (Some x) → x.up ≡ DialReq protocol address random ∷ rest → x.at_server ≡ true
      → (a : App) × (nth (clients.app_at (number_of random) (Some x)) s.apps ≡ Some a) × MayHaveDial s.clients a
  asker_may protocol address random rest keys stream first up = found (nth request.0 s.apps) refl
    where
      ups : ((shown s).streams x.front).up ≡ DialReq protocol address random ∷ rest
      ups = ap (λ (v : WorldStream). v.up) stream ∙ first

      present : is_present ((shown s).streams x.front).front ≡ true
      present = ap (λ (v : WorldStream). is_present v.front) stream ∙ here x.at_server up
        where
          here : (b : Bool) → b ≡ true → is_present (client_stream c (Some (record x { at_server = b }))).front ≡ true
          here true e = refl
          here false e = absurd cc

      all : Each (RequestOf (shown s) x.front) (DialReq protocol address random ∷ rest)
      all = subst (λ ps. Each (RequestOf (shown s) x.front) ps) ups (keys.clients.requests x.front)

      request : (k : ℕ) × (((shown s).apps k).came ≡ true) × (((shown s).apps k).stream ≡ x.front) × (asks ((shown s).streams x.front).connect ((shown s).apps k).number random ≡ true)
      request = all.0

      none : ((shown s).apps request.0).dial ≡ None
      none = request_undialled (shown s) x.front request.0 protocol address random rest keys ups present request.1 request.2 request.3

      found : (o : Option App) → nth request.0 s.apps ≡ o → (a : App) × (nth (clients.app_at (number_of random) (Some x)) s.apps ≡ Some a) × MayHaveDial s.clients a
      found None e = let f : ((shown s).apps request.0).came ≡ false = ap (λ o. (app_of s.clients o).came) e in absurd (cc (f, request.1))
      found (Some a) e =
          let own : IsOfClient s c request.0 x a = of_client request.0 a e request.1 request.2 in
          let by : is_number ((shown s).apps request.0).number random ≡ true = sym (ap (λ (v : WorldStream). asks v.connect ((shown s).apps request.0).number random) stream) ∙ request.3 in
          let number : number_of random ≡ own.number = number_named ((shown s).apps request.0).number random by ∙ own.shown_number in
          let w = fits.clients.number_of request.0 c own.number a e own.at in
          let one : w.0 ≡ x = some_is (sym w.1 ∙ there) in
          let named : clients.app_at (number_of random) (Some x) ≡ request.0 = ap (λ n. clients.app_at n (Some x)) number ∙ ap (λ v. clients.app_at own.number (Some v)) (sym one) ∙ ap or_none w.2 in
          (a, ap (λ k. nth k s.apps) named ∙ e, may_have request.0 a e own none)
