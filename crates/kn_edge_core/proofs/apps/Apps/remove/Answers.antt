use Rattle.std.proofs.Common.{sym, ◌∙◌}
use Rattle.kn_edge_core.specs.declared.app.App.{App}
use Rattle.kn_edge_core.proofs.TableLemmas.{order_less, rows_less}
use Rattle.kn_edge_core.proofs.AppLemmas.{app_found, apps_less}
use Rattle.kn_edge_core.proofs.apps.Apps.remove.Goals as goal

pub invariant_of-self : goal.invariant_of-self
invariant_of-self c =
    let order = order_less (λ (x : App). x.number) c.args.number c.self.inside.by_number.entries c.remove.new.self.entries c.self.invariant.in_order c.remove.ensures.entries c.remove.ensures.ordered in
    apps_less c.self.inside _ c.self.invariant c.args.number c.in-Some.app (sym c.remove.ensures.value ∙ c.in-Some.is) order c.remove.ensures.updates.0 c.forget_open.ensures c.forget_held.ensures

pub returns-in-Some-clause-found : goal.returns-in-Some-clause-found
returns-in-Some-clause-found c = rw (← c.self.view_is) (sym c.in-Some.is ∙ c.remove.ensures.value ∙ app_found c.self.inside c.self.invariant c.args.number)

pub returns-in-Some-clause-left : goal.returns-in-Some-clause-left
returns-in-Some-clause-left c = rw (← c.self.view_is) (rows_less (λ (x : App). x.number) c.args.number c.self.inside.by_number.entries c.remove.new.self.entries c.self.invariant.in_order c.remove.ensures.entries)

pub returns-in-None-clause-found : goal.returns-in-None-clause-found
returns-in-None-clause-found c = rw (← c.self.view_is) (sym c.in-None.is ∙ c.remove.ensures.value ∙ app_found c.self.inside c.self.invariant c.args.number)

pub returns-in-None-clause-left : goal.returns-in-None-clause-left
returns-in-None-clause-left c = rw (← c.self.view_is) (rows_less (λ (x : App). x.number) c.args.number c.self.inside.by_number.entries c.remove.new.self.entries c.self.invariant.in_order c.remove.ensures.entries)
