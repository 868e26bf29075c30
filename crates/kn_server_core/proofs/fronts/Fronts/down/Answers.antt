use Rattle.std.proofs.Common.{◌∙◌, ap}
use Rattle.kn_server_core.proofs.FrontLemmas.{removed_same, within_less}
use Rattle.kn_server_core.proofs.fronts.Fronts.down.Goals as goal

pub invariant_of-self : goal.invariant_of-self
invariant_of-self c = rw (c.remove.ensures.keys, removed_same c.args.front c.self.inside.numbers.keys) (within_less c.args.front c.self.inside.top c.self.inside.numbers.keys c.self.invariant)

pub returns : goal.returns
returns c = rw (← c.self.view_is) (ap (λ k. record { fronts = k; top = c.self.inside.top }) (c.remove.ensures.keys ∙ removed_same c.args.front c.self.inside.numbers.keys))
