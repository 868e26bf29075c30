use Rattle.kn_edge_core.specs.declared.app.App.{App}
use Rattle.kn_edge_core.proofs.TableLemmas.{order_first}
use Rattle.kn_edge_core.proofs.AppLemmas.{apps_less, first_above}
use Rattle.kn_edge_core.proofs.apps.Apps.take_first.Goals as goal

pub invariant_of-self : goal.invariant_of-self
invariant_of-self c =
    let order = order_first (λ (x : App). x.number) (c.in-Some.field-0-0, c.in-Some.app) c.self.inside.by_number.entries c.pop_first.new.self.entries c.self.invariant.in_order c.in-Some.ensures.removal c.pop_first.ensures.ordered in
    apps_less c.self.inside _ c.self.invariant c.in-Some.field-0-0 c.in-Some.app c.in-Some.ensures.value order c.in-Some.ensures.updates.0 c.forget_open.ensures c.forget_held.ensures

pub returns-in-Some-clause-rest : goal.returns-in-Some-clause-rest
returns-in-Some-clause-rest c = first_above c.self.inside c.self.invariant (c.in-Some.field-0-0, c.in-Some.app) c.pop_first.new.self.entries c.in-Some.ensures.removal
