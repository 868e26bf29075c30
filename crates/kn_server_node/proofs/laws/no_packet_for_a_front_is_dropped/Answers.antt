-- Each output and each step is gone through.
use Rattle.kn_server_node.proofs.FrontRoomLemmas.{events_drop_none, steps_in_time}
use Rattle.kn_server_node.proofs.laws.no_packet_for_a_front_is_dropped.Goals as goal

pub returns : goal.returns
returns c = record { events = events_drop_none; steps = steps_in_time }
