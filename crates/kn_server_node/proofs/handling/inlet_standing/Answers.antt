use Rattle.std.proofs.Common.{refl}
use Rattle.kn_grpc.specs.Packets.{first_of}
use Rattle.kn_server_node.proofs.FrontLemmas.{owned_stands}
use Rattle.kn_server_node.proofs.handling.inlet_standing.Goals as goal

pub returns : goal.returns
returns c =
    let stands = owned_stands c.front_of.result c.in_ok-front.front (first_of c.args.inlet.now.messages.kept) c.in_ok-front.ensures c.front_of.ensures in
    (stands.0, c.in_ok-front.front, refl, stands.1)
