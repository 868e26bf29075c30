use Rattle.kn_rising.proofs.PlaceLemmas.{nothing_there}
use Rattle.kn_rising.proofs.rising.Rising.holds.Goals as goal

pub returns-clause-others : goal.returns-clause-others
returns-clause-others g c = rw (← c.self.view_is) (nothing_there _ c.self.invariant)
