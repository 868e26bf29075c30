use Rattle.kn_h2_state.proofs.WireLaws.{all_data_splits, none_of_each_is_none}
use Rattle.kn_h2_state.proofs.laws.all_data_splits.Goals as goal

pub returns-clause-sum : goal.returns-clause-sum
returns-clause-sum c = all_data_splits

pub returns-clause-none : goal.returns-clause-none
returns-clause-none c = none_of_each_is_none
