-- By the dial that the ticket names.
use Rattle.kn_packets.proofs.AgentDials.{failed_lifts, won_lifts}
use Rattle.kn_packets.proofs.agent_laws.agent_dials_lift.Goals as goal

pub returns : goal.returns
returns c = record {
  wins = λ w l ticket keys may. won_lifts w l keys may ticket;
  fails = λ w l ticket keys may. failed_lifts w l keys may ticket;
}
