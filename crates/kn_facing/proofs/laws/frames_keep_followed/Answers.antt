use Rattle.kn_facing.proofs.ReadLemmas.{frames_keep_followed}
use Rattle.kn_facing.proofs.laws.frames_keep_followed.Goals as goal

pub returns : goal.returns
returns c = frames_keep_followed c.opened_is_above.ensures c.answered_is_kept.ensures
