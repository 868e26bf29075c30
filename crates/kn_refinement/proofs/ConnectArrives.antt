-- An app by CONNECT comes: as long as its head is not whole, nothing of it is shown.
use Rattle.std.proofs.Common.{◌≡◌, ◌==◌, ◌++◌, ◌⊎◌, inl, inr, ℕ, suc, Bool, true, false, cond, List, [], ◌∷◌, length, Option, Some, None, refl, sym, ap, ◌∙◌, eqb-true, subst}
use Rattle.kn_server_core.specs.Isolation.{Each}
use Rattle.kn_world.specs.declared.parts.App.{App}
use Rattle.kn_world.specs.declared.parts.Home.TheVariants as home
use Rattle.kn_world.specs.declared.parts.Owner.{Owner}
use Rattle.kn_world.specs.declared.parts.Owner.TheVariants as owner
use Rattle.kn_world.specs.declared.parts.Stage.TheVariants as stage
use Rattle.kn_world.specs.declared.state.State.{State}
use Rattle.kn_world.specs.Arrivals.{with_connect}
use Rattle.kn_world.specs.Numbers.{nth}
use Rattle.kn_world.specs.States.{new_app}
use Rattle.kn_refinement.specs.Fits.{ClientFits, Fits, FrontFits, IsDataOf, IsPast, IsUnheard}
use Rattle.kn_refinement.specs.Leads.{Leads}
use Rattle.kn_refinement.specs.Shown.{app_of, connect_stream, shown, stream_of}
use Rattle.kn_refinement.proofs.ConnectHeads.{next_empty}
use Rattle.kn_refinement.proofs.NumberLemmas.{nth_more}
use Rattle.kn_refinement.proofs.Pairs.{came_last, came_or_was, was_still}
use Rattle.kn_refinement.proofs.Worlds.{leads_none, worlds_same}

abbrev pub comer : App
comer = new_app home.Connect

module _ (s : State) (fits : Fits s) where
  abbrev more : List App
  more = s.apps ++ comer ∷ []

  -- an app that is there: it was, or it is the one that came
  is_either : (P : App → Type 0) (j : ℕ) (b : App) → nth j more ≡ Some b → P comer → (nth j s.apps ≡ Some b → P b) → P b
  is_either P j b h new was = at (came_or_was s.apps comer j b h)
    where
      at : ((j ≡ suc (length s.apps)) × (b ≡ comer)) ⊎ (nth j s.apps ≡ Some b) → P b
      at (inl (i, e)) = subst_app (sym e)
        where
          subst_app : comer ≡ b → P b
          subst_app q = subst P q new
      at (inr e) = was e

  stays : (j : ℕ) (b : App) → nth j s.apps ≡ Some b → nth j more ≡ Some b
  stays j b h = was_still s.apps comer j b h

  client_of_it : (R : Type 0) (j c n : ℕ) (b : App) → nth j more ≡ Some b → b.home ≡ home.Client c n → (nth j s.apps ≡ Some b → R) → R
  client_of_it R j c n b h at old = is_either (λ (x : App). x.home ≡ home.Client c n → R) j b h (λ e. let z : home.Connect ≡ home.Client c n = e in absurd cc) (λ q e. old q) at

  clients_kept : ClientFits s.clients more
  clients_kept = record {
    of_number = λ c n app x h g. let old = fits.clients.of_number c n app x h g in (old.0, stays app old.0 old.1, old.2);
    number_of = λ app c n b h e. client_of_it _ app c n b h e (λ q. fits.clients.number_of app c n b q e);
    top = fits.clients.top;
    all_told = fits.clients.all_told;
    told = fits.clients.told;
    here = λ app c n b x y h e g i. client_of_it _ app c n b h e (λ q. fits.clients.here app c n b x y q e g i);
    left = λ app c n b x h e g i t. client_of_it _ app c n b h e (λ q. fits.clients.left app c n b x q e g i t);
    up_dry = fits.clients.up_dry;
    down_dry = fits.clients.down_dry;
    unasked = λ app c n b x h e g t. client_of_it _ app c n b h e (λ q. fits.clients.unasked app c n b x q e g t);
    no_door = λ app c n b h e. client_of_it _ app c n b h e (λ q. fits.clients.no_door app c n b q e);
  }

  no_number : (n : ℕ) → comer.door.number ≡ suc n → ⊥
  no_number n e = let z : 0 ≡ suc n = e in absurd cc

  comer_unheard : IsUnheard comer
  comer_unheard = record { sending = refl; coming = refl; dial = refl; early = refl; closing = refl; at_server = refl; unopened = λ e. let z : stage.Dialling ≡ stage.Open = e in absurd cc }

  fronts_kept : FrontFits s.clients more s.fronts s.server.fronts
  fronts_kept = record {
    of_client = fits.fronts.of_client;
    client = fits.fronts.client;
    of_app = λ i j h. let old = fits.fronts.of_app i j h in (old.0, stays j old.0 old.1, old.2, old.3);
    app = λ j n b h. is_either (λ (x : App). x.home ≡ home.Connect → x.door.number ≡ suc n → nth (suc n) s.fronts ≡ Some (owner.App j)) j b h (λ e g. absurd (no_number n g)) (λ q. fits.fronts.app j n b q);
    unheard = λ j b h. is_either (λ (x : App). x.home ≡ home.Connect → x.door.number ≡ 0 → IsUnheard x) j b h (λ e g. comer_unheard) (λ q. fits.fronts.unheard j b q);
    early = λ j b h. is_either (λ (x : App). x.home ≡ home.Connect → Each (IsDataOf x.dial) x.door.early) j b h (λ e. tt) (λ q. fits.fronts.early j b q);
    refused = λ j b h. is_either (λ (x : App). x.home ≡ home.Connect → x.stage ≡ stage.Refused → x.door.closing ≡ false) j b h (λ e g. refl) (λ q. fits.fronts.refused j b q);
    present = λ j n b h. is_either (λ (x : App). x.home ≡ home.Connect → x.door.number ≡ suc n → x.side.end_given ≡ false → x.door.at_server ≡ true) j b h (λ e g i. absurd (no_number n g)) (λ q. fits.fronts.present j n b q);
    gone = λ j n b h. is_either (λ (x : App). x.home ≡ home.Connect → x.door.number ≡ suc n → x.door.at_server ≡ false → IsPast x × (x.door.early ≡ [])) j b h (λ e g i. absurd (no_number n g)) (λ q. fits.fronts.gone j n b q);
    known = fits.fronts.known;
  }

  more_fits : Fits (with_connect s)
  more_fits = record {
    asked = record { asker = λ d x h. let old = fits.asked.asker d x h in (old.0, stays x.app old.0 old.1, old.2) };
    agents = fits.agents;
    clients = clients_kept;
    fronts = fronts_kept;
    next_dial = fits.next_dial;
  }

  -- ---- what is shown
  stream_same : (i : ℕ) (o : Option Owner) → nth i s.fronts ≡ o → stream_of s.clients s.apps o ≡ stream_of s.clients more o
  stream_same i None h = refl
  stream_same i (Some (owner.Client c)) h = refl
  stream_same i (Some (owner.App j)) h = let found = fits.fronts.of_app i j h in ap (λ o. connect_stream j o) (found.1 ∙ sym (stays j found.0 found.1))

  app_same : (i : ℕ) → app_of s.clients (nth i s.apps) ≡ app_of s.clients (nth i more)
  app_same i = here (i == suc (length s.apps)) refl ∙ sym (ap (λ o. app_of s.clients o) (nth_more s.apps comer i))
    where
      here : (b : Bool) → (i == suc (length s.apps)) ≡ b → app_of s.clients (nth i s.apps) ≡ app_of s.clients (cond (i == suc (length s.apps)) (Some comer) (nth i s.apps))
      here true e = ap (λ o. app_of s.clients o) (ap (λ m. nth m s.apps) (eqb-true i (suc (length s.apps)) e) ∙ next_empty s.apps) ∙ sym (ap (λ b. app_of s.clients (cond b (Some comer) (nth i s.apps))) e)
      here false e = sym (ap (λ b. app_of s.clients (cond b (Some comer) (nth i s.apps))) e)

  pub comes_leads : Leads s (with_connect s)
  comes_leads = leads_none s (with_connect s) more_fits
      (worlds_same (shown s) (shown (with_connect s)) refl (λ l. refl) (λ c. refl) (λ l. refl) (λ i. stream_same i (nth i s.fronts) refl) (λ d. refl) app_same)

  pub comer_there : nth (suc (length s.apps)) (with_connect s).apps ≡ Some comer
  comer_there = came_last s.apps comer
