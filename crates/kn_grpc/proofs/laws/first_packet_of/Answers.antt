use Rattle.kn_grpc.proofs.FirstPackets.{of_framed, framed_some, packet_stays, status_stays, same_less, of_packet, of_fault, of_reason}
use Rattle.kn_grpc.proofs.laws.first_packet_of.Goals as goal

pub returns-clause-framed : goal.returns-clause-framed
returns-clause-framed c = of_framed

pub returns-clause-some : goal.returns-clause-some
returns-clause-some c = framed_some

pub returns-clause-whole : goal.returns-clause-whole
returns-clause-whole c = packet_stays

pub returns-clause-bad : goal.returns-clause-bad
returns-clause-bad c = status_stays

pub returns-clause-less : goal.returns-clause-less
returns-clause-less c = same_less

pub returns-clause-packet : goal.returns-clause-packet
returns-clause-packet c = of_packet

pub returns-clause-no_packet : goal.returns-clause-no_packet
returns-clause-no_packet c = of_fault

pub returns-clause-no_message : goal.returns-clause-no_message
returns-clause-no_message c = of_reason
