use Rattle.kn_packet.proofs.Readings.{only_packet, only_fault}
use Rattle.kn_packet.proofs.viewing.view.Goals as goal

pub returns-clause-only_packet : goal.returns-clause-only_packet
returns-clause-only_packet c = only_packet c.args.bytes.now c.first_reading.result c.first_reading.ensures.packet c.first_reading.ensures.fault

pub returns-clause-only_fault : goal.returns-clause-only_fault
returns-clause-only_fault c = only_fault c.args.bytes.now c.first_reading.result c.first_reading.ensures.packet c.first_reading.ensures.fault
