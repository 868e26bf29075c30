-- Each by itself.
use Rattle.kn_packets.proofs.Connections.{app_sends_lifts, drops_in_lifts, drops_out_lifts, stream_begins_lifts}
use Rattle.kn_packets.proofs.StreamNumbers.{numbered_lifts}
use Rattle.kn_packets.proofs.client_laws.streams_lift.Goals as goal

pub returns : goal.returns
returns c = record { begins = stream_begins_lifts; numbered = numbered_lifts; sends = app_sends_lifts; drops_in = drops_in_lifts; drops_out = drops_out_lifts }
