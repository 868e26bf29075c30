-- Event by event: what an event names is settled, and nothing else becomes due.
use Rattle.kn_refinement.proofs.EndsRuns.{no_end_is_due}
use Rattle.kn_refinement.proofs.ends_laws.no_end_is_due.Goals as goal

pub returns : goal.returns
returns c = λ strategies events idle s runs. no_end_is_due strategies events idle s runs
