-- Each rule is gone through.
use Rattle.kn_front_room.proofs.RoomLemmas.{room_first, room_kept}
use Rattle.kn_front_room.proofs.laws.front_room_is_kept.Goals as goal

pub returns : goal.returns
returns c = record { first = room_first; kept = room_kept }
