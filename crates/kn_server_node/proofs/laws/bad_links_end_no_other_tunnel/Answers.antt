-- The core's law, over the events of the call.
use Rattle.kn_server_node.proofs.CoreLemmas.{others_stay}
use Rattle.kn_server_node.proofs.laws.bad_links_end_no_other_tunnel.Goals as goal

pub returns : goal.returns
returns c = others_stay
