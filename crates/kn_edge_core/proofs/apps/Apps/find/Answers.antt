use Rattle.std.proofs.Common.{sym, ◌∙◌}
use Rattle.kn_edge_core.proofs.AppLemmas.{app_found, app_stands}
use Rattle.kn_edge_core.proofs.apps.Apps.find.Goals as goal

pub returns-in-Some-clause-found : goal.returns-in-Some-clause-found
returns-in-Some-clause-found c = rw (← c.self.view_is) (sym (app_found c.self.inside c.self.invariant c.args.number) ∙ sym c.in-Some.ensures.value)

pub returns-in-Some-clause-stands : goal.returns-in-Some-clause-stands
returns-in-Some-clause-stands c = rw (← c.self.view_is) (app_stands c.self.inside c.self.invariant c.args.number c.in-Some.app.now (sym c.in-Some.ensures.value))

pub returns-in-None-clause-found : goal.returns-in-None-clause-found
returns-in-None-clause-found c = rw (← c.self.view_is) (sym (app_found c.self.inside c.self.invariant c.args.number) ∙ sym (rw c.in-None.is at c.get.ensures.value))
