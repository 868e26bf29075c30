use Rattle.std.proofs.Common.{◌≡◌}
use Rattle.kn_world.specs.Pipes as spec
use Rattle.kn_world.specs.Times.{times}
use Rattle.kn_world.proofs.pipes.steps.Given as goal

abbrev pub invariant-packets : goal.invariant-packets
invariant-packets l = times l.left (spec.step l.pipe) l.state ≡ times l.count (spec.step l.pipe) l.fn.state

abbrev pub decreases-packets : goal.decreases-packets
decreases-packets l = l.left
