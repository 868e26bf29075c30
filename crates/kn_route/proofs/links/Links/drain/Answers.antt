use Rattle.kn_route.proofs.LinkLemmas.{rising-drain}
use Rattle.kn_route.proofs.links.Links.drain.Goals as goal

pub invariant_of-self : goal.invariant_of-self
invariant_of-self c = rw c.drain_all.ensures (rising-drain _ _ _ c.self.invariant)
