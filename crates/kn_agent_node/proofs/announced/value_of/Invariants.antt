use Rattle.std.proofs.Common.{◌≡◌, drop}
use Rattle.kn_grpc.specs.Calls.{value_in}
use Rattle.kn_agent_node.proofs.announced.value_of.Given as goal

-- no field before this one has the name
abbrev pub invariant-loop-index : goal.invariant-loop-index
invariant-loop-index l = value_in l.name l.headers ≡ value_in l.name (drop l.index l.headers)
