use Rattle.kn_connect.proofs.Answered.{one, lasts}
use Rattle.kn_connect.proofs.laws.answers_are_one.Goals as goal

pub returns-clause-one : goal.returns-clause-one
returns-clause-one c = one

pub returns-clause-lasts : goal.returns-clause-lasts
returns-clause-lasts c = lasts
