use Rattle.kn_route.proofs.HostTextLemmas.{host_spelled, spelled_host}
use Rattle.kn_route.proofs.laws.hosts_as_spelled.Goals as goal

pub returns-clause-host : goal.returns-clause-host
returns-clause-host c = host_spelled

pub returns-clause-only_host : goal.returns-clause-only_host
returns-clause-only_host c = spelled_host
