-- Each by itself.
use Rattle.kn_packets.proofs.Arrivals.{front_comes_lifts, front_loss_lifts, link_comes_lifts, link_loss_lifts}
use Rattle.kn_packets.proofs.laws.server_comings_and_losses_lift.Goals as goal

pub returns : goal.returns
returns c = record { link_comes = link_comes_lifts; front_comes = front_comes_lifts; link_lost = link_loss_lifts; front_lost = front_loss_lifts }
