-- By induction over the turns.
use Rattle.kn_turns.proofs.Runs.{all_lead, from_start}
use Rattle.kn_turns.proofs.laws.runs_lead.Goals as goal

pub returns : goal.returns
returns c = record { runs = all_lead; starts = from_start }
