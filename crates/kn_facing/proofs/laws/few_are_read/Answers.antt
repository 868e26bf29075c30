use Rattle.kn_facing.proofs.RoomLemmas.{few_are_read}
use Rattle.kn_facing.proofs.laws.few_are_read.Goals as goal

pub returns : goal.returns
returns c = few_are_read c.opened_is_above.ensures c.frames_keep.ensures
