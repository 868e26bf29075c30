use Rattle.kn_ends.proofs.InletLemmas.{kept_removed}
use Rattle.kn_ends.proofs.inlets.Inlets.remove.Goals as goal

pub invariant_of-self : goal.invariant_of-self
invariant_of-self c =
    kept_removed c.self.inside.streams.items c.keep_other_numbers.new.streams.items c.self.inside.items.items c.keep_others.new.items.items c.self.inside.rising c.from.result c.args.stream
    c.self.invariant c.from.ensures c.keep_others.ensures c.keep_other_numbers.ensures
