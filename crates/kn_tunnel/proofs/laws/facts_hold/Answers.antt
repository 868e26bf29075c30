-- An app's first request meets the facts, and each event keeps them.
use Rattle.kn_tunnel.proofs.AllSteps.{facts_followed, facts_hold, facts_kept, facts_start}
use Rattle.kn_tunnel.proofs.laws.facts_hold.Goals as goal

pub returns : goal.returns
returns c = record { start = facts_start; kept = facts_kept; followed = facts_followed; always = facts_hold }
