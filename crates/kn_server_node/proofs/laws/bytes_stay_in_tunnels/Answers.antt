-- The core's law, over the events of the calls.
use Rattle.kn_server_node.proofs.CoreLemmas.{bytes_stay, cores_orderly}
use Rattle.kn_server_node.proofs.laws.bytes_stay_in_tunnels.Goals as goal

pub returns : goal.returns
returns c = record { tunnels = bytes_stay; orderly = cores_orderly }
