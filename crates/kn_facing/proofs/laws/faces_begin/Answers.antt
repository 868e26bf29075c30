use Rattle.kn_facing.proofs.StartLemmas.{faces_begin}
use Rattle.kn_facing.proofs.laws.faces_begin.Goals as goal

pub returns : goal.returns
returns c = faces_begin c.own_facts_stay.ensures.first c.frames_keep.ensures
