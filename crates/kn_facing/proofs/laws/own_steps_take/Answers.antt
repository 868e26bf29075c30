use Rattle.kn_facing.proofs.FacingLemmas.{own_steps_take}
use Rattle.kn_facing.proofs.laws.own_steps_take.Goals as goal

pub returns : goal.returns
returns c = own_steps_take c.more_is_heard.ensures.lists
