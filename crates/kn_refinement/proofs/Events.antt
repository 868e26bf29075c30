-- Events, one after another.
use Rattle.std.proofs.Common.{◌≡◌, ℕ, List, [], ◌∷◌, refl, sym, subst}
use Rattle.kn_packets.specs.Keys.{Keys}
use Rattle.kn_world.specs.declared.event.Seen.{Seen}
use Rattle.kn_world.specs.declared.event.Seen.TheVariants.{Idle, Moved}
use Rattle.kn_world.specs.declared.event.WorldEvent.{WorldEvent}
use Rattle.kn_world.specs.declared.state.State.{State}
use Rattle.kn_world.specs.Effects.{Does}
use Rattle.kn_world.specs.Events.{Happens, HappensAs, Runs}
use Rattle.kn_world.specs.Idle.{seen_of}
use Rattle.kn_refinement.specs.Fits.{Fits}
use Rattle.kn_refinement.specs.Leads.{Leads}
use Rattle.kn_refinement.specs.Shown.{shown}
use Rattle.kn_refinement.proofs.Worlds.{KeysGoOn, leads_none, leads_then}

-- what an event that is not idle does is done by moves
abbrev pub EventsLead : Type 0
EventsLead = (e : WorldEvent) (old new : State) → seen_of e old ≡ Moved → Fits old → Keys (shown old) → Does e old new → Leads old new

module _ (go : KeysGoOn) (events : EventsLead) where
  pub happens_leads : (e : WorldEvent) (old new : State) → Fits old → Keys (shown old) → Happens e old new → Leads old new
  happens_leads e old new fits keys happens = here (seen_of e old) refl happens
    where
      here : (seen : Seen) → seen_of e old ≡ seen → HappensAs seen e old new → Leads old new
      here Moved h does = events e old new h fits keys does
      here Idle h same = subst (λ s. Leads old s) (sym same) (leads_none old old fits refl)

  pub runs_lead : (es : List WorldEvent) (old new : State) (idle : ℕ) → Fits old → Keys (shown old) → Runs es old idle new → Leads old new
  runs_lead [] old new idle fits keys runs = subst (λ s. Leads old s) (sym runs.0) (leads_none old old fits refl)
  runs_lead (e ∷ es) old new idle fits keys runs =
      leads_then go old runs.0 new keys (happens_leads e old runs.0 fits keys runs.2) (λ fit key. runs_lead es runs.0 new runs.1 fit key runs.3)
