-- Each by what the step brings.
use Rattle.kn_packets.proofs.ServerComes.{front_comes_keeps, link_comes_keeps}
use Rattle.kn_packets.proofs.ServerFrontLoss.{front_loss_keeps}
use Rattle.kn_packets.proofs.ServerLinkLoss.{link_loss_keeps}
use Rattle.kn_packets.proofs.ServerTakesInKeep.{takes_in_keeps}
use Rattle.kn_packets.proofs.ServerUpKeep.{takes_up_keeps}
use Rattle.kn_packets.proofs.server_key_laws.server_keeps_keys.Goals as goal

pub returns : goal.returns
returns c = record {
  link_comes = link_comes_keeps;
  front_comes = front_comes_keeps;
  takes_up = takes_up_keeps;
  link_lost = link_loss_keeps;
  takes_in = takes_in_keeps;
  front_lost = front_loss_keeps;
}
