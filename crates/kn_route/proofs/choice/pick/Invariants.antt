use Rattle.std.proofs.Common.{◌≡◌, drop}
use Rattle.kn_route.specs.Choice.{pick}
use Rattle.kn_route.proofs.choice.pick.Given as goal

abbrev pub invariant-loop-strategy : goal.invariant-loop-strategy
invariant-loop-strategy l =
    pick l.strategies l.links l.host l.dial ≡ pick (drop l.strategy-index l.strategies) l.links l.host l.dial
