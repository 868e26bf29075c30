use Rattle.std.proofs.Common.{◌≡◌, ◌≤◌, length, take}
use Rattle.kn_server_node.specs.Steps.{losses}
use Rattle.kn_server_node.proofs.hearing.lose_inlets.Given as goal

-- those behind are lost
abbrev pub invariant-loop-left : goal.invariant-loop-left
invariant-loop-left l = record { within : l.left ≤ length l.inlets; lost : losses (take l.left l.inlets) l.todo ≡ losses l.fn.inlets l.fn.todo }

abbrev pub decreases-loop-left : goal.decreases-loop-left
decreases-loop-left l = l.left
