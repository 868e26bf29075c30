use Rattle.std.proofs.Common.{rules}
use Rattle.kn_route.proofs.RangeLemmas.{range_in-uncut, range_in-cut}
use Rattle.kn_route.proofs.address.read_range.Goals as goal

pub returns-in-Some : goal.returns-in-Some
returns-in-Some c = search (rules, range_in-cut)

pub returns-in-None : goal.returns-in-None
returns-in-None c = search (rules, range_in-uncut)
