-- Turn by turn.
use Rattle.kn_turns.proofs.AllTurns.{each_leads}
use Rattle.kn_turns.proofs.laws.turns_lead.Goals as goal

pub returns : goal.returns
returns c = each_leads
