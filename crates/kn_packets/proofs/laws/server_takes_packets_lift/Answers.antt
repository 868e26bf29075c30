-- Each packet by itself.
use Rattle.kn_packets.proofs.Takes.{in_lifts, up_lifts}
use Rattle.kn_packets.proofs.laws.server_takes_packets_lift.Goals as goal

pub returns : goal.returns
returns c = record { from_links = up_lifts; from_fronts = in_lifts }
