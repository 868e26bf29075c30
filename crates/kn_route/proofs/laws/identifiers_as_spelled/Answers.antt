use Rattle.kn_route.proofs.ListLemmas.{identifiers_spelled, spelled_identifiers}
use Rattle.kn_route.proofs.laws.identifiers_as_spelled.Goals as goal

pub returns-clause-pairs : goal.returns-clause-pairs
returns-clause-pairs c = identifiers_spelled

pub returns-clause-only_pairs : goal.returns-clause-only_pairs
returns-clause-only_pairs c = spelled_identifiers
