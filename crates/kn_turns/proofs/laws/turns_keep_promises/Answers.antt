-- By the laws of the packet world.
use Rattle.kn_turns.proofs.Promised.{promises_kept}
use Rattle.kn_turns.proofs.laws.turns_keep_promises.Goals as goal

pub returns : goal.returns
returns c = promises_kept
