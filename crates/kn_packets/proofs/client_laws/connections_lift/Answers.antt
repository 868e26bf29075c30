-- Each by itself.
use Rattle.kn_packets.proofs.Connections.{connect_comes_lifts, connect_comes_starts, connect_leaves_lifts, connect_takes_lifts}
use Rattle.kn_packets.proofs.JoinedBytes.{joins_lift}
use Rattle.kn_packets.proofs.client_laws.connections_lift.Goals as goal

pub returns : goal.returns
returns c = record { comes = connect_comes_lifts; starts = connect_comes_starts; takes = connect_takes_lifts; leaves = connect_leaves_lifts; joins = joins_lift }
