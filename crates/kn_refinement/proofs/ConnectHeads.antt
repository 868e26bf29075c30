-- The head of an app by CONNECT is whole: its front is the next one, and what fits goes on.
use Rattle.std.proofs.Common.{◌≡◌, ◌==◌, ◌++◌, ◌⊎◌, inl, inr, ℕ, suc, Bool, true, false, cond, List, [], ◌∷◌, length, Option, Some, None, refl, sym, ap, ◌∙◌, subst, eqb-true}
use Rattle.kn_server_core.specs.Isolation.{Each}
use Rattle.kn_server_core.specs.Server.{front_added}
use Rattle.kn_tunnel.specs.Tunnel.{Present, Side}
use Rattle.kn_packet.specs.declared.packet.Packet.{Packet}
use Rattle.kn_packets.specs.Moves.{no_app, no_stream}
use Rattle.kn_world.specs.declared.parts.App.{App}
use Rattle.kn_world.specs.declared.parts.Client.{Client}
use Rattle.kn_world.specs.declared.parts.Home.TheVariants as home
use Rattle.kn_world.specs.declared.parts.Owner.{Owner}
use Rattle.kn_world.specs.declared.parts.Owner.TheVariants as owner
use Rattle.kn_world.specs.declared.parts.Stage.TheVariants as stage
use Rattle.kn_world.specs.declared.state.State.{State}
use Rattle.kn_world.specs.Numbers.{change, nth}
use Rattle.kn_refinement.specs.Fits.{Fits, FrontFits, IsDataOf, IsPast, IsUnheard}
use Rattle.kn_refinement.specs.Shown.{app_at_home, app_of, connect_app, connect_stream, shown, stream_of}
use Rattle.kn_refinement.proofs.Changes.{changed_other, changed_own}
use Rattle.kn_refinement.proofs.ConnectParts.{asked_kept, clients_kept, connect_shown, is_either, still}
use Rattle.kn_refinement.proofs.ConnectWorlds.{head_app, head_stream, headed}
use Rattle.kn_refinement.proofs.NumberLemmas.{nth_more}
use Rattle.kn_refinement.proofs.Pairs.{came_last, came_or_was, some_is, was_still}
use Rattle.kn_refinement.proofs.Worlds.{worlds_same}

-- no front has the next number
pub next_empty : {X : Type 0} (xs : List X) → nth (suc (length xs)) xs ≡ None
next_empty [] = refl
next_empty (x ∷ xs) = next_empty xs

-- what it is once its head is whole
pub record IsHeaded (f : ℕ) (b : App) : Type 0 where
  pub at_door : b.home ≡ home.Connect
  pub number : b.door.number ≡ f
  pub dial : b.dial ≡ 0
  pub early : Each (IsDataOf 0) b.door.early
  pub stage : b.stage ≡ stage.Dialling
  pub at_server : b.door.at_server ≡ true

module _ (s : State) (k : ℕ) (a : App) (g : App → App) (fits : Fits s) (there : nth k s.apps ≡ Some a) (at_door : a.home ≡ home.Connect) (number : a.door.number ≡ 0) (head : IsHeaded (suc (length s.fronts)) (g a)) where
  abbrev f : ℕ
  f = suc (length s.fronts)

  abbrev fronts : List Owner
  fronts = s.fronts ++ owner.App k ∷ []

  old : IsUnheard a
  old = fits.fronts.unheard k a there at_door number

  dial_same : (g a).dial ≡ a.dial
  dial_same = head.dial ∙ sym old.dial

  -- no front was its own
  not_own : (i : ℕ) → nth i s.fronts ≡ Some (owner.App k) → ⊥
  not_own i h =
      let found = fits.fronts.of_app i k h in
      let z : found.0 ≡ a = some_is (sym found.1 ∙ there) in
      let w : i ≡ 0 = sym found.3 ∙ ap (λ (v : App). v.door.number) z ∙ number in
      let y : None ≡ Some (owner.App k) = ap (λ m. nth m s.fronts) (sym w) ∙ h in absurd cc

  of_client : (i c : ℕ) → nth i fronts ≡ Some (owner.Client c) → (x : Client) × (nth c s.clients ≡ Some x) × (x.front ≡ i)
  of_client i c h = at (came_or_was s.fronts (owner.App k) i (owner.Client c) h)
    where
      at : ((i ≡ f) × (owner.Client c ≡ owner.App k)) ⊎ (nth i s.fronts ≡ Some (owner.Client c)) → (x : Client) × (nth c s.clients ≡ Some x) × (x.front ≡ i)
      at (inl (e, z)) = absurd cc
      at (inr e) = fits.fronts.of_client i c e

  of_app : (i j : ℕ) → nth i fronts ≡ Some (owner.App j) → (b : App) × (nth j (change g k s.apps) ≡ Some b) × (b.home ≡ home.Connect) × (b.door.number ≡ i)
  of_app i j h = at (came_or_was s.fronts (owner.App k) i (owner.App j) h)
    where
      at : ((i ≡ f) × (owner.App j ≡ owner.App k)) ⊎ (nth i s.fronts ≡ Some (owner.App j)) → (b : App) × (nth j (change g k s.apps) ≡ Some b) × (b.home ≡ home.Connect) × (b.door.number ≡ i)
      at (inl (e, z)) = let y : j ≡ k = cc in (g a, ap (λ m. nth m (change g k s.apps)) y ∙ changed_own g k s.apps a there, head.at_door, head.number ∙ sym e)
      at (inr e) =
          let was = fits.fronts.of_app i j e in
          let found = still s k a g fits there at_door head.at_door dial_same (λ (y : App). (y.home ≡ home.Connect) × (y.door.number ≡ i)) j was.0 was.1
          (λ q z. absurd (not_own i (e ∙ ap (λ m. Some (owner.App m)) q))) (λ q. (was.2, was.3)) in
          (found.0, found.1, found.2.0, found.2.1)

  its_app : (j n : ℕ) (b : App) → nth j (change g k s.apps) ≡ Some b → b.home ≡ home.Connect → b.door.number ≡ suc n → nth (suc n) fronts ≡ Some (owner.App j)
  its_app j n b h = is_either s k a g fits there at_door head.at_door dial_same (λ (x : App). x.home ≡ home.Connect → x.door.number ≡ suc n → nth (suc n) fronts ≡ Some (owner.App j)) j b h
      (λ i e q. ap (λ m. nth m fronts) (sym q ∙ head.number) ∙ came_last s.fronts (owner.App k) ∙ ap (λ m. Some (owner.App m)) (sym i))
      (λ i e q. was_still s.fronts (owner.App k) (suc n) (owner.App j) (fits.fronts.app j n b i e q))

  fronts_fit : FrontFits s.clients (change g k s.apps) fronts s.server.fronts
  fronts_fit = record {
    of_client = of_client;
    client = λ c x h. was_still s.fronts (owner.App k) x.front (owner.Client c) (fits.fronts.client c x h);
    of_app = of_app;
    app = its_app;
    unheard = λ j b h. is_either s k a g fits there at_door head.at_door dial_same (λ (x : App). x.home ≡ home.Connect → x.door.number ≡ 0 → IsUnheard x) j b h
        (λ i e q. let y : suc (length s.fronts) ≡ 0 = sym head.number ∙ q in absurd cc) (λ q. fits.fronts.unheard j b q);
    early = λ j b h. is_either s k a g fits there at_door head.at_door dial_same (λ (x : App). x.home ≡ home.Connect → Each (IsDataOf x.dial) x.door.early) j b h
        (λ i e. subst (λ d. Each (IsDataOf d) (g a).door.early) (sym head.dial) head.early) (λ q. fits.fronts.early j b q);
    refused = λ j b h. is_either s k a g fits there at_door head.at_door dial_same (λ (x : App). x.home ≡ home.Connect → x.stage ≡ stage.Refused → x.door.closing ≡ false) j b h
        (λ i e q. let z : stage.Dialling ≡ stage.Refused = sym head.stage ∙ q in absurd cc) (λ q. fits.fronts.refused j b q);
    present = λ j n b h. is_either s k a g fits there at_door head.at_door dial_same (λ (x : App). x.home ≡ home.Connect → x.door.number ≡ suc n → x.side.end_given ≡ false → x.door.at_server ≡ true) j b h
        (λ i e q r. head.at_server) (λ q. fits.fronts.present j n b q);
    gone = λ j n b h. is_either s k a g fits there at_door head.at_door dial_same (λ (x : App). x.home ≡ home.Connect → x.door.number ≡ suc n → x.door.at_server ≡ false → IsPast x × (x.door.early ≡ [])) j b h
        (λ i e q r. absurd (cc (head.at_server, r))) (λ q. fits.fronts.gone j n b q);
    known = λ i h. let found = fits.fronts.known i h in (found.0, was_still s.fronts (owner.App k) i found.0 found.1);
  }

  pub fits_headed : Fits (record s { fronts = fronts; apps = change g k s.apps })
  fits_headed = record {
    asked = asked_kept s k a g fits there at_door head.at_door dial_same;
    agents = fits.agents;
    clients = clients_kept s k a g fits there at_door head.at_door dial_same;
    fronts = fronts_fit;
    next_dial = fits.next_dial;
  }

  -- ---- what is shown
  pub hidden : (shown s).apps k ≡ no_app
  hidden = ap (λ o. app_of s.clients o) there ∙ ap (λ h. app_at_home s.clients h a) at_door ∙ ap (λ m. cond (m == 0) no_app (connect_app a)) number

  pub unbegun : (shown s).streams f ≡ no_stream
  unbegun = ap (λ o. stream_of s.clients s.apps o) (next_empty s.fronts)

  abbrev head_state : State
  head_state = record s { server = (front_added s.server f).state; fronts = fronts; apps = change g k s.apps }

  other_stream : (i : ℕ) (o : Option Owner) → nth i s.fronts ≡ o → stream_of s.clients s.apps o ≡ stream_of s.clients (change g k s.apps) o
  other_stream i None h = refl
  other_stream i (Some (owner.Client c)) h = refl
  other_stream i (Some (owner.App j)) h = at (j == k) refl
    where
      at : (b : Bool) → (j == k) ≡ b → connect_stream j (nth j s.apps) ≡ connect_stream j (nth j (change g k s.apps))
      at false q = ap (λ o. connect_stream j o) (sym (changed_other g k j s.apps q))
      at true q = absurd (not_own i (h ∙ ap (λ m. Some (owner.App m)) (eqb-true j k q)))

  pub head_shown : (up : List Packet) (side : Side) → connect_stream k (Some (g a)) ≡ head_stream k Present up → connect_app (g a) ≡ head_app f side
      → headed (shown s) (front_added s.server f).state k f Present up side ≡ shown head_state
  head_shown up side stream app = worlds_same (headed (shown s) (front_added s.server f).state k f Present up side) (shown head_state) refl (λ l. refl) (λ c. refl) (λ l. refl) on_stream (λ d. refl) on_app
    where
      on_stream : (i : ℕ) → cond (i == f) (head_stream k Present up) (stream_of s.clients s.apps (nth i s.fronts)) ≡ stream_of s.clients (change g k s.apps) (nth i fronts)
      on_stream i = here (i == f) refl ∙ sym (ap (λ o. stream_of s.clients (change g k s.apps) o) (nth_more s.fronts (owner.App k) i))
        where
          here : (b : Bool) → (i == f) ≡ b → cond (i == f) (head_stream k Present up) (stream_of s.clients s.apps (nth i s.fronts)) ≡ stream_of s.clients (change g k s.apps) (cond (i == f) (Some (owner.App k)) (nth i s.fronts))
          here true e =
              ap (λ b. cond b (head_stream k Present up) (stream_of s.clients s.apps (nth i s.fronts))) e ∙ sym stream ∙ ap (λ o. connect_stream k o) (sym (changed_own g k s.apps a there))
              ∙ sym (ap (λ b. stream_of s.clients (change g k s.apps) (cond b (Some (owner.App k)) (nth i s.fronts))) e)
          here false e =
              ap (λ b. cond b (head_stream k Present up) (stream_of s.clients s.apps (nth i s.fronts))) e ∙ other_stream i (nth i s.fronts) refl
              ∙ sym (ap (λ b. stream_of s.clients (change g k s.apps) (cond b (Some (owner.App k)) (nth i s.fronts))) e)

      on_app : (i : ℕ) → cond (i == k) (head_app f side) (app_of s.clients (nth i s.apps)) ≡ app_of s.clients (nth i (change g k s.apps))
      on_app i = here (i == k) refl
        where
          here : (b : Bool) → (i == k) ≡ b → cond b (head_app f side) (app_of s.clients (nth i s.apps)) ≡ app_of s.clients (nth i (change g k s.apps))
          here true e =
              sym app ∙ sym (connect_shown s.clients (length s.fronts) (g a) head.at_door head.number)
              ∙ ap (λ o. app_of s.clients o) (sym (ap (λ m. nth m (change g k s.apps)) (eqb-true i k e) ∙ changed_own g k s.apps a there))
          here false e = ap (λ o. app_of s.clients o) (sym (changed_other g k i s.apps e))
