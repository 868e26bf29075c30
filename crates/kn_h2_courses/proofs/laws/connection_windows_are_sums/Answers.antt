use Rattle.kn_h2_courses.proofs.WindowLaws.{windows_are_sums, data_is_spent}
use Rattle.kn_h2_courses.proofs.laws.connection_windows_are_sums.Goals as goal

pub returns-clause-sums : goal.returns-clause-sums
returns-clause-sums c = windows_are_sums

pub returns-clause-written : goal.returns-clause-written
returns-clause-written c = data_is_spent
