-- Rounds of delivery: steps of pipes, one after another.
use Rattle.std.proofs.Common.{ℕ, zero, suc, Bool, true, false, cond, length, refl}
use Rattle.kn_packets.specs.Keys.{Keys}
use Rattle.kn_world.specs.declared.event.Pipe.{Pipe}
use Rattle.kn_world.specs.declared.event.Pipe.TheVariants.{AgentUp, AgentDown, ClientUp, ClientDown}
use Rattle.kn_world.specs.declared.state.State.{State}
use Rattle.kn_world.specs.Pipes.{agents_delivered, clients_delivered, count_in, delivered, nothing_in_flight, round, rounds, step}
use Rattle.kn_world.specs.Times.{times}
use Rattle.kn_refinement.specs.Fits.{Fits}
use Rattle.kn_refinement.specs.Leads.{Leads, Steps}
use Rattle.kn_refinement.specs.Shown.{shown}
use Rattle.kn_refinement.proofs.Worlds.{KeysGoOn, leads_none, leads_then}

module _ (go : KeysGoOn) where
  pub still_leads : (s : State) → Fits s → Leads s s
  still_leads s fits = leads_none s s fits refl

  pub both_lead : (f g : State → State) → Steps f → Steps g → Steps (λ s. g (f s))
  both_lead f g first second s fits keys = leads_then go s (f s) (g (f s)) keys (first s fits keys) (λ fit key. second (f s) fit key)

  pub times_lead : (n : ℕ) (f : State → State) → Steps f → Steps (times n f)
  unfolding times
  times_lead zero f one s fits keys = still_leads s fits
  times_lead (suc n) f one s fits keys = leads_then go s (f s) (times n f (f s)) keys (one s fits keys) (λ fit key. times_lead n f one (f s) fit key)

  module _ (pipes : (p : Pipe) → Steps (step p)) where
    delivered_leads : (p : Pipe) → Steps (delivered p)
    unfolding delivered
    delivered_leads p s fits keys = times_lead (count_in p s) (step p) (pipes p) s fits keys

    agents_lead : (n : ℕ) → Steps (agents_delivered n)
    agents_lead zero s fits keys = still_leads s fits
    agents_lead (suc n) s fits keys = both_lead (λ t. delivered (AgentUp (suc n)) (agents_delivered n t)) (delivered (AgentDown (suc n)))
        (both_lead (agents_delivered n) (delivered (AgentUp (suc n))) (agents_lead n) (delivered_leads (AgentUp (suc n)))) (delivered_leads (AgentDown (suc n))) s fits keys

    clients_lead : (n : ℕ) → Steps (clients_delivered n)
    clients_lead zero s fits keys = still_leads s fits
    clients_lead (suc n) s fits keys = both_lead (λ t. delivered (ClientUp (suc n)) (clients_delivered n t)) (delivered (ClientDown (suc n)))
        (both_lead (clients_delivered n) (delivered (ClientUp (suc n))) (clients_lead n) (delivered_leads (ClientUp (suc n)))) (delivered_leads (ClientDown (suc n))) s fits keys

    round_leads : Steps round
    unfolding round
    round_leads s fits keys =
        let t : State = agents_delivered (length s.agents) s in
        leads_then go s t (clients_delivered (length t.clients) t) keys (agents_lead (length s.agents) s fits keys) (λ fit key. clients_lead (length t.clients) t fit key)

    pub rounds_lead : (n : ℕ) → Steps (rounds n)
    unfolding rounds
    rounds_lead zero s fits keys = still_leads s fits
    rounds_lead (suc n) s fits keys = here (nothing_in_flight s) (λ fit key. rounds_lead n (round s) fit key)
      where
        here : (b : Bool) → (Fits (round s) → Keys (shown (round s)) → Leads (round s) (rounds n (round s))) → Leads s (cond b s (rounds n (round s)))
        here true rest = still_leads s fits
        here false rest = leads_then go s (round s) (rounds n (round s)) keys (round_leads s fits keys) rest
