use Rattle.std.proofs.Common.{◌≡◌, ◌++◌}
use Rattle.kn_server_node.proofs.losses.append_all.Given as goal

abbrev pub invariant-loop-loss : goal.invariant-loop-loss
invariant-loop-loss l = l.inner.items ++ l.loss-iterator.rest.items ≡ l.fn.inner.items ++ l.fn.later.items
