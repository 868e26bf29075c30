-- Each by the state that the agent is left in.
use Rattle.kn_packets.proofs.AgentLosses.{down_drop_lifts, drains_lift, loss_lifts, up_drop_lifts}
use Rattle.kn_packets.proofs.agent_laws.agent_losses_lift.Goals as goal

pub returns : goal.returns
returns c = record {
  drains = λ w l keys may. drains_lift w l keys may;
  loses = λ w l left keys may. loss_lifts w l left keys may.0 may.1;
  drops_up = λ w l may. up_drop_lifts w l may;
  drops_down = λ w l may. down_drop_lifts w l may;
}
