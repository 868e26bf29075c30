use Rattle.std.proofs.Common.{◌≡◌}
use Rattle.kn_world.specs.ServerSteps as spec
use Rattle.kn_world.proofs.server_steps.gives_all.Given as goal

abbrev pub invariant-loop-out : goal.invariant-loop-out
invariant-loop-out l = spec.gives_all l.out-iterator.rest.items l.app l.state ≡ spec.gives_all l.fn.outs.items l.app l.fn.state
