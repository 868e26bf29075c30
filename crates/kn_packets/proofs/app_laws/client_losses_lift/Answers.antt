-- By what the client's list has of each app.
use Rattle.kn_packets.proofs.StreamLosses.{stream_loss_lifts}
use Rattle.kn_packets.proofs.app_laws.client_losses_lift.Goals as goal

pub returns : goal.returns
returns c = record { loses = stream_loss_lifts }
