use Rattle.kn_server_node.specs.Steps.{Reaches}
use Rattle.kn_server_node.proofs.settling.settle.Given as goal

abbrev pub invariant-loop-round : goal.invariant-loop-round
invariant-loop-round l = Reaches l.fn.node l.node
