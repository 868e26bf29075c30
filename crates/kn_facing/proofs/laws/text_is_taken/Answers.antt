use Rattle.kn_facing.proofs.TakenLemmas.{data_is_taken, last_data_is_taken}
use Rattle.kn_facing.proofs.laws.text_is_taken.Goals as goal

pub returns-clause-goes_on : goal.returns-clause-goes_on
returns-clause-goes_on c = data_is_taken

pub returns-clause-ends : goal.returns-clause-ends
returns-clause-ends c = last_data_is_taken
