use Rattle.std.proofs.Common.{length}
use Rattle.kn_server_node.proofs.losses.+insert_in.Given as goal

abbrev pub decreases-insert_in : goal.decreases-insert_in
decreases-insert_in l = length l.inner.now.items
