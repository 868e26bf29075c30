-- No one event of others touches it.
use Rattle.kn_server_core.proofs.TunnelRuns.{steady}
use Rattle.kn_server_core.proofs.isolation.others_end_no_tunnel.Goals as goal

pub returns : goal.returns
returns c = steady
