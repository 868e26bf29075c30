-- Event by event: each keeps what was sent, but for the bytes that it brings.
use Rattle.kn_refinement.proofs.OwnRuns.{sends_own}
use Rattle.kn_refinement.proofs.laws.sides_send_their_own_bytes.Goals as goal

pub returns : goal.returns
returns c = λ strategies events idle s runs. sends_own strategies events idle s runs
