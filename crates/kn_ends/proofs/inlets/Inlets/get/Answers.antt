use Rattle.std.proofs.Common.{◌∙◌}
use Rattle.kn_ends.proofs.InletLemmas.{found_at}
use Rattle.kn_ends.proofs.inlets.Inlets.get.Goals as goal

pub returns : goal.returns
returns c =
    c.item_at.ensures
    ∙ found_at c.self.inside.streams.items c.deref.result.now c.self.inside.items.items c.deref-2.result.now c.args.self.now c.self.inside.rising c.place_of-place.result c.args.stream
    c.self.invariant c.deref.ensures.value c.deref-2.ensures.value c.self.view_is c.place_of-place.ensures
