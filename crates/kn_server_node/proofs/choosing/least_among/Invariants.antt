use Rattle.std.proofs.Common.{◌≡◌, drop, None}
use Rattle.kn_server_node.specs.Least.{least_of}
use Rattle.kn_server_node.proofs.choosing.least_among.Given as goal

abbrev pub invariant-loop-conn : goal.invariant-loop-conn
invariant-loop-conn l = least_of l.node l.best (drop l.conn-index l.conns) ≡ least_of l.fn.node None l.fn.conns
