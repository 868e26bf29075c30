-- Each by the packet that stands first, and by what cuts leave.
use Rattle.kn_pending.proofs.PacketLemmas.{queued_last}
use Rattle.kn_pending.proofs.StandingLemmas.{handles_first, drops_last, loses_some}
use Rattle.kn_pending.proofs.laws.lists_stand_to_bytes.Goals as goal

pub returns : goal.returns
returns c = record {
  handles = handles_first c.first_packet_of.ensures.framed c.first_packet_of.ensures.whole;
  queues = queued_last;
  drops = drops_last;
  loses = loses_some c.first_as_spelled.ensures.only_less c.first_packet_of.ensures.less c.read_as_written.ensures.spelling c.first_as_spelled.ensures.less;
}
