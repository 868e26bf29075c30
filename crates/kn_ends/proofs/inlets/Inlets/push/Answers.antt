use Rattle.kn_ends.proofs.InletLemmas.{kept_pushed}
use Rattle.kn_ends.proofs.inlets.Inlets.push.Goals as goal

pub invariant_of-self-2 : goal.invariant_of-self-2
invariant_of-self-2 c =
    kept_pushed c.self.inside.streams.items c.deref.result.now c.reserve.new.self.items c.push_reserved.new.self.items c.self.inside.items.items c.push.new.self.items
    c.self.inside.rising c.ends_below-above.result c.both-self-inside.result c.from-number.result c.args.item
    c.self.invariant c.deref.ensures.value c.from-number.ensures c.ends_below-above.ensures c.reserve.ensures.items c.push_reserved.ensures.items c.in_ok-push.ensures.items c.both-self-inside.ensures
