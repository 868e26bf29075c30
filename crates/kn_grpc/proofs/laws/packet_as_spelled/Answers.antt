use Rattle.kn_grpc.proofs.PacketReadings.{packet_reads, reads_packet, fault_packet}
use Rattle.kn_grpc.proofs.laws.packet_as_spelled.Goals as goal

pub returns-clause-packet : goal.returns-clause-packet
returns-clause-packet c = packet_reads

pub returns-clause-only_packet : goal.returns-clause-only_packet
returns-clause-only_packet c = reads_packet

pub returns-clause-only_fault : goal.returns-clause-only_fault
returns-clause-only_fault c = fault_packet
