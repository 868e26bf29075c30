use Rattle.std.proofs.Common.{◌≡◌}
use Rattle.kn_world.specs.ClientSteps as spec
use Rattle.kn_world.proofs.client_steps.gives_all.Given as goal

abbrev pub invariant-loop-out : goal.invariant-loop-out
invariant-loop-out l = spec.gives_all l.out-iterator.rest.items l.client l.state ≡ spec.gives_all l.fn.outs.items l.client l.fn.state
