use Rattle.kn_route.proofs.PickLemmas.{picked, not_picked}
use Rattle.kn_route.proofs.laws.picks_by_strategy.Goals as goal

pub returns-clause-picked : goal.returns-clause-picked
returns-clause-picked c = picked

pub returns-clause-none : goal.returns-clause-none
returns-clause-none c = not_picked
