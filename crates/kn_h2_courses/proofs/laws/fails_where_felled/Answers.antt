use Rattle.kn_h2_courses.proofs.FailLaws.{fails_where_felled}
use Rattle.kn_h2_courses.proofs.laws.fails_where_felled.Goals as goal

pub returns : goal.returns
returns c = fails_where_felled
