-- Each by what the step brings.
use Rattle.kn_packets.proofs.AgentKeeps.{drains_keep}
use Rattle.kn_packets.proofs.AgentLossKeep.{failed_keeps, loss_keeps}
use Rattle.kn_packets.proofs.AgentOpenKeep.{won_keeps}
use Rattle.kn_packets.proofs.AgentTakesKeep.{takes_keep}
use Rattle.kn_packets.proofs.BasedKeep.{down_drop_keeps, sends_keep, up_drop_keeps}
use Rattle.kn_packets.proofs.agent_laws.agent_keeps_keys.Goals as goal

pub returns : goal.returns
returns c = record {
  drains = λ w l keys may. drains_keep w l keys may;
  takes = λ w l keys may. takes_keep w l keys may;
  wins = λ w l ticket keys may. won_keeps w l keys may ticket;
  fails = λ w l ticket keys may. failed_keeps w l keys may ticket;
  loses = λ w l left keys may. loss_keeps w l left keys may.0 may.1;
  drops_up = λ w l keys may. up_drop_keeps w l keys may;
  drops_down = λ w l keys may. down_drop_keeps w l keys may;
  sends = λ w d bytes keys may. sends_keep w d bytes keys may;
}
