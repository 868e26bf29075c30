use Rattle.std.proofs.Common.{◌≡◌}
use Rattle.kn_world.specs.Pipes.{rounds}
use Rattle.kn_world.proofs.pipes.rounds.Given as goal

abbrev pub invariant-rounds : goal.invariant-rounds
invariant-rounds l = rounds l.left l.state ≡ rounds l.fn.count l.fn.state

abbrev pub decreases-rounds : goal.decreases-rounds
decreases-rounds l = l.left
