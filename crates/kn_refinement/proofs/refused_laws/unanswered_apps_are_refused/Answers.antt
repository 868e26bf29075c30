-- Event by event: each keeps what apps were told, and the server's step to a choice without an answer tells its app.
use Rattle.kn_refinement.proofs.RefusedRuns.{all_refused}
use Rattle.kn_refinement.proofs.refused_laws.unanswered_apps_are_refused.Goals as goal

pub returns : goal.returns
returns c = λ strategies events idle s runs. all_refused strategies events idle s runs
