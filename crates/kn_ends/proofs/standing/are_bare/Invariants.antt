use Rattle.std.proofs.Common.{◌≡◌, drop}
use Rattle.kn_ends.specs.Carriers.{are_bare}
use Rattle.kn_ends.proofs.standing.are_bare.Given as goal

-- each inlet before this one is bare
abbrev pub invariant-loop-inlet : goal.invariant-loop-inlet
invariant-loop-inlet l = are_bare l.carrier (drop l.inlet-index l.inlet-items) ≡ are_bare l.fn.carrier l.fn.carrier.inlets
