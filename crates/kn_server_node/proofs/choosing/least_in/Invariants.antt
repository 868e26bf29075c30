use Rattle.std.proofs.Common.{◌≡◌, drop}
use Rattle.kn_server_node.specs.Least.{can_in, least_from, of_inlets}
use Rattle.kn_server_node.proofs.choosing.least_in.Given as goal

abbrev pub invariant-loop-inlet : goal.invariant-loop-inlet
invariant-loop-inlet l = least_from (can_in l.node) l.best (of_inlets l.conn (drop l.inlet-index l.inlets)) ≡ least_from (can_in l.fn.node) l.fn.best (of_inlets l.fn.conn l.fn.inlets)
