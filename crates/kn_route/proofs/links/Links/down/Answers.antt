use Rattle.kn_route.proofs.LinkLemmas.{rising-down}
use Rattle.kn_route.proofs.links.Links.down.Goals as goal

pub invariant_of-self : goal.invariant_of-self
invariant_of-self c = rw c.remove_link.ensures (rising-down _ _ _ c.self.invariant)
