use Rattle.kn_route.proofs.ListLemmas.{strategies_spelled, spelled_strategies}
use Rattle.kn_route.proofs.laws.strategies_as_spelled.Goals as goal

pub returns-clause-strategies : goal.returns-clause-strategies
returns-clause-strategies c = strategies_spelled

pub returns-clause-only_strategies : goal.returns-clause-only_strategies
returns-clause-only_strategies c = spelled_strategies
