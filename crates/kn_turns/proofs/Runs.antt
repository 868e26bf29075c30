-- Turns, one after another, lead by moves.
use Rattle.std.proofs.Common.{[], ◌∷◌, sym, ap, subst}
use Rattle.kn_packets.specs.Keys.{Keys}
use Rattle.kn_packets.specs.Moves.{Makes}
use Rattle.kn_packets.proofs.Runs.{keys_go_on}
use Rattle.kn_packets.proofs.Starts.{keys_start}
use Rattle.kn_world.specs.States as running
use Rattle.kn_refinement.specs.Fits.{Fits}
use Rattle.kn_refinement.specs.Leads.{Leads}
use Rattle.kn_refinement.specs.Shown.{shown}
use Rattle.kn_refinement.proofs.Beginnings.{begins_alike, start_fits}
use Rattle.kn_refinement.proofs.Worlds.{leads_none, leads_then}
use Rattle.kn_turns.specs.Laws.{RunsLead, StartsLead}
use Rattle.kn_turns.specs.Turns.{turned}
use Rattle.kn_turns.proofs.AllTurns.{each_leads}

pub all_lead : RunsLead
all_lead [] s t is fits keys = leads_none s t (subst Fits is fits) (ap shown is)
all_lead (u ∷ us) s t (may, rest) fits keys = leads_then keys_go_on s (turned u s) t keys (each_leads u s may fits keys) (λ fit key. all_lead us (turned u s) t rest fit key)

pub from_start : StartsLead
from_start strategies ts s turns =
    let keys : Keys (shown (running.start strategies)) = subst Keys (sym (begins_alike strategies)) (keys_start strategies) in
    let all : Leads (running.start strategies) s = all_lead ts (running.start strategies) s turns (start_fits strategies) keys in (
      all.fits,
      keys_go_on (shown (running.start strategies)) (shown s) all.moves keys all.made,
      all.moves,
      subst (λ w. Makes w all.moves (shown s)) (begins_alike strategies) all.made,
    )
