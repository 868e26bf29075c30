use Rattle.kn_packet.proofs.Readings.{some_reading}
use Rattle.kn_packet.proofs.viewing.has_a_reading.Goals as goal

pub returns : goal.returns
returns c = some_reading c.args.bytes.now c.view-found.result c.view-found.ensures.packet c.view-found.ensures.fault
