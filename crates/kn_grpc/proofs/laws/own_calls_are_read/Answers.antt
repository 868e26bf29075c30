use Rattle.kn_grpc.proofs.OwnCalls.{agent_read, proxy_read}
use Rattle.kn_grpc.proofs.laws.own_calls_are_read.Goals as goal

pub returns-clause-agent : goal.returns-clause-agent
returns-clause-agent c = agent_read

pub returns-clause-proxy : goal.returns-clause-proxy
returns-clause-proxy c = proxy_read
