-- Each by the packet that stands first.
use Rattle.kn_pending.proofs.PacketLemmas.{are_read, cuts_leave_fronts, queued_last, taken_first, none_is_bad, nothing_left}
use Rattle.kn_pending.proofs.laws.packets_on_their_way.Goals as goal

pub returns : goal.returns
returns c = record {
  read = are_read c.first_packet_of.ensures.framed c.first_packet_of.ensures.some;
  cut = cuts_leave_fronts c.first_as_spelled.ensures.only_less c.first_packet_of.ensures.less c.read_as_written.ensures.spelling c.first_as_spelled.ensures.less;
  queued = queued_last;
  taken = taken_first c.first_packet_of.ensures.framed c.first_packet_of.ensures.whole;
  sound = none_is_bad c.first_packet_of.ensures.framed c.first_packet_of.ensures.bad;
  over = nothing_left c.first_packet_of.ensures.framed;
}
