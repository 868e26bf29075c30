-- By the packet.
use Rattle.kn_packets.proofs.AgentRequests.{takes_lifts}
use Rattle.kn_packets.proofs.agent_laws.agent_takes_lifts.Goals as goal

pub returns : goal.returns
returns c = record { takes = λ w l keys may. takes_lifts w l keys may }
