use Rattle.kn_h2_courses.proofs.TableLaws.{tables_are_small}
use Rattle.kn_h2_courses.proofs.laws.tables_are_small.Goals as goal

pub returns : goal.returns
returns c = tables_are_small
