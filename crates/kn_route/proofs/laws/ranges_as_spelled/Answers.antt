use Rattle.kn_route.proofs.RangeLemmas.{range_in-sound, range_in-complete}
use Rattle.kn_route.proofs.laws.ranges_as_spelled.Goals as goal

pub returns-clause-range : goal.returns-clause-range
returns-clause-range c = range_in-sound

pub returns-clause-only_range : goal.returns-clause-only_range
returns-clause-only_range c = range_in-complete
