use Rattle.kn_packet.proofs.Readings.{one_packet, one_fault, not_both}
use Rattle.kn_packet.proofs.viewing.has_one_reading.Goals as goal

pub returns-clause-one_packet : goal.returns-clause-one_packet
returns-clause-one_packet c = one_packet

pub returns-clause-one_fault : goal.returns-clause-one_fault
returns-clause-one_fault c = one_fault

pub returns-clause-not_both : goal.returns-clause-not_both
returns-clause-not_both c = not_both
