use Rattle.kn_server_node.proofs.LeastLemmas.{least_is}
use Rattle.kn_server_node.proofs.choosing.least.Goals as goal

pub returns : goal.returns
returns c = least_is c.args.node.now c.ready-conns.result.now c.least_among.result c.least_among.ensures c.ready-conns.ensures
