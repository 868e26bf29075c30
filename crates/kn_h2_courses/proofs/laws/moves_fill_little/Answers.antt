use Rattle.kn_h2_courses.proofs.FillingLaws.{moves_fill_little}
use Rattle.kn_h2_courses.proofs.laws.moves_fill_little.Goals as goal

pub returns : goal.returns
returns c = moves_fill_little
