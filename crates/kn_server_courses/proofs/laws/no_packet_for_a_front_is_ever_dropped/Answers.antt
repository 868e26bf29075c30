-- Each deed is gone through.
use Rattle.kn_server_courses.proofs.CallLemmas.{fronts_have_room, none_dropped, dials_drop_none}
use Rattle.kn_server_courses.proofs.laws.no_packet_for_a_front_is_ever_dropped.Goals as goal

pub returns : goal.returns
returns c = record { room = fronts_have_room; steps = none_dropped; dials = dials_drop_none }
