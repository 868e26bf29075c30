-- A destination sends, ends its sending or is held, and its agent is given the next of its bytes.
use Rattle.std.proofs.Common.{◌≡◌, ℕ, true, List, Option, None, Some, refl, sym}
use Rattle.kn_packets.specs.Keys.{Keys}
use Rattle.kn_world.specs.declared.parts.Dial.{Dial}
use Rattle.kn_world.specs.declared.state.State.{State}
use Rattle.kn_world.specs.Answering as answering
use Rattle.kn_world.specs.Dials as dials
use Rattle.kn_world.specs.Idle.{is_connected, is_dest_here, there_and}
use Rattle.kn_world.specs.Numbers.{nth}
use Rattle.kn_refinement.specs.Fits.{Fits}
use Rattle.kn_refinement.specs.Leads.{Leads}
use Rattle.kn_refinement.specs.Shown.{shown}
use Rattle.kn_refinement.proofs.AgentNotes.{dial_fits, dial_hidden}
use Rattle.kn_refinement.proofs.DestSettles.{IsJoined, hands_piece_leads, joined_if, sent_leads}
use Rattle.kn_refinement.proofs.Worlds.{leads_none}
use Rattle.kn_turns.specs.Notes.{dest_ended, dest_sent}

its_joined : (dial : ℕ) (s : State) → is_connected dial s ≡ true → Fits s → IsJoined s dial
its_joined dial s is fits = here (nth dial s.dials) refl is
  where
    here : (o : Option Dial) → nth dial s.dials ≡ o → there_and (λ d. is_dest_here d s) o ≡ true → IsJoined s dial
    here None h k = absurd cc
    here (Some x) h k = joined_if s dial x fits h k

pub sends_turn : (dial : ℕ) (bytes : List ℕ) (s : State) → is_connected dial s ≡ true → Fits s → Leads s (dest_sent bytes dial s)
sends_turn dial bytes s is fits = sent_leads bytes dial s fits (its_joined dial s is fits)

pub hands_turn : (dial : ℕ) (s : State) → is_connected dial s ≡ true → Fits s → Keys (shown s) → Leads s (answering.hands_piece dial s)
hands_turn dial s is fits keys = (hands_piece_leads dial s fits keys (its_joined dial s is fits)).leads

pub stops_turn : (dial : ℕ) (s : State) → Fits s → Leads s (dest_ended dial s)
stops_turn dial s fits = leads_none s (dest_ended dial s)
    (dial_fits s dial dials.ended fits (λ x. record { link = refl; ticket = refl }) (λ x h. record { link = refl; connect_id = refl; dry = fits.agents.dry dial x h }) (λ x. refl)) (sym (dial_hidden s dials.ended dial (λ x h. refl)))
