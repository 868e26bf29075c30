-- Each rule is gone through.
use Rattle.kn_server_core.proofs.ReachedLemmas.{orderly_start, orderly_kept}
use Rattle.kn_server_core.proofs.isolation.states_are_orderly.Goals as goal

pub returns : goal.returns
returns c = record { start = orderly_start; kept = orderly_kept }
