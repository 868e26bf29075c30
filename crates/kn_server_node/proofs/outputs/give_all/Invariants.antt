use Rattle.std.proofs.Common.{◌≡◌}
use Rattle.kn_server_node.specs.Nodes as spec
use Rattle.kn_server_node.proofs.outputs.give_all.Given as goal

abbrev pub invariant-loop-out : goal.invariant-loop-out
invariant-loop-out l = spec.outputs l.node l.out-iterator.rest.items ≡ spec.outputs l.fn.node l.fn.outs.items
