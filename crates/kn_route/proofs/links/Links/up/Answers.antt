use Rattle.std.proofs.Common.{subst, sym, ◌<◌}
use Rattle.kn_route.specs.LinkLists.{LinkList}
use Rattle.kn_route.proofs.LinkLemmas.{rising-up}
use Rattle.kn_route.proofs.links.Links.up.Goals as goal

pub invariant_of-self-2 : goal.invariant_of-self-2
invariant_of-self-2 c =
    let above : c.self.inside.top < c.args.link =
    subst (λ (v : LinkList). v.top < c.args.link) (sym c.self.view_is) c.requires in
    rw c.in_ok-push.ensures.items (rising-up _ _ _ _ c.self.invariant above)
