-- The request is refused or drawn.
use Rattle.kn_packets.proofs.TakesRequest.{request_lifts}
use Rattle.kn_packets.proofs.laws.server_takes_dial_request_lifts.Goals as goal

pub returns : goal.returns
returns c = record { request = λ w f protocol address random rest keys first present. request_lifts w f protocol address random rest keys first present }
