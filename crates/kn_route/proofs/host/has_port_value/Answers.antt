use Rattle.kn_route.proofs.HostLemmas.{port_refused}
use Rattle.kn_route.proofs.host.has_port_value.Goals as goal

pub returns-in-Err : goal.returns-in-Err
returns-in-Err c = port_refused c.args.digits.now c.requires c.in-Err.ensures.value.0
