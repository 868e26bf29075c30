use Rattle.kn_route.proofs.CutLemmas.{parts_at, one_part}
use Rattle.kn_route.proofs.cut.first_part.Goals as goal

pub returns-in-Some-clause-parts : goal.returns-in-Some-clause-parts
returns-in-Some-clause-parts c = parts_at _ _ _ c.in-Some.ensures

pub returns-in-None-clause-parts : goal.returns-in-None-clause-parts
returns-in-None-clause-parts c = one_part _ _ c.in-None.ensures
