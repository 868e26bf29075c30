use Rattle.kn_h2.proofs.MissingLaws.{fewer_change_nothing, as_many_bring_one}
use Rattle.kn_h2.proofs.missing.frames_end_with_the_missing.Goals as goal

pub returns-clause-fewer : goal.returns-clause-fewer
returns-clause-fewer c = fewer_change_nothing

pub returns-clause-as_many : goal.returns-clause-as_many
returns-clause-as_many c = as_many_bring_one
