use Rattle.kn_server_node.proofs.NoteLemmas.{none_noted}
use Rattle.kn_server_node.proofs.connections.Connections.new.Goals as goal

pub invariant_of-result : goal.invariant_of-result
invariant_of-result c = rw c.new.ensures (none_noted c.no_notes.result)
