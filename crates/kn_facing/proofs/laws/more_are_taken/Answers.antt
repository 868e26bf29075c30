use Rattle.kn_facing.proofs.CarryLemmas.{more_are_taken}
use Rattle.kn_facing.proofs.laws.more_are_taken.Goals as goal

pub returns : goal.returns
returns c = more_are_taken c.more_is_heard.ensures.rules c.more_is_heard.ensures.frames c.opened_is_above.ensures c.frames_keep.ensures c.role_stays.ensures
