use Rattle.std.proofs.Common.{◌≡◌, drop}
use Rattle.kn_server_node.specs.Noting.{any_in}
use Rattle.kn_server_node.proofs.settling.any_in.Given as goal

-- none of those before has anything
abbrev pub invariant-loop-inlet : goal.invariant-loop-inlet
invariant-loop-inlet l = any_in (drop l.inlet-index l.inlets) ≡ any_in l.fn.inlets
