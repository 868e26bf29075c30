-- Each packet by itself.
use Rattle.kn_packets.proofs.ClientMoves.{client_takes_lifts}
use Rattle.kn_packets.proofs.client_laws.client_takes_packets_lift.Goals as goal

pub returns : goal.returns
returns c = record { takes = client_takes_lifts }
