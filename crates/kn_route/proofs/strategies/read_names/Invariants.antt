use Rattle.std.proofs.Common.{◌≡◌, [], length}
use Rattle.kn_route.specs.Strategies.{with_name}
use Rattle.kn_route.specs.Steps.{steps}
use Rattle.kn_route.specs.Cuts.{parts_of, parts_left}
use Rattle.kn_route.proofs.strategies.read_names.Given as goal

abbrev pub invariant-loop-rest : goal.invariant-loop-rest
invariant-loop-rest l =
    steps with_name [] (parts_of 44 l.fn.text) ≡ steps with_name l.strategies (parts_left 44 l.rest)

abbrev pub decreases-loop-rest : goal.decreases-loop-rest
decreases-loop-rest l = length (parts_left 44 l.rest)
