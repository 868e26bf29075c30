use Rattle.std.proofs.Common.{refl}
use Rattle.kn_edge_core.specs.declared.app.App.{App}
use Rattle.kn_edge_core.specs.ClientTables.{closing}
use Rattle.kn_edge_core.proofs.TableLemmas.{rows_put}
use Rattle.kn_edge_core.proofs.AppLemmas.{app_there, apps_closed}
use Rattle.kn_edge_core.proofs.apps.Apps.close.Goals as goal

pub invariant_of-self : goal.invariant_of-self
invariant_of-self c =
    let there = app_there c.self.inside c.self.invariant c.args.number _ _ c.self.view_is c.requires in
    apps_closed c.self.inside _ c.self.invariant c.args.number there.0 c.args.connect_id.now there.1 there.2.0 there.2.1 (c.mark_closing.ensures there.0 there.1) c.forget.ensures refl

pub returns : goal.returns
returns c =
    let there = app_there c.self.inside c.self.invariant c.args.number _ _ c.self.view_is c.requires in
    rw (← c.self.view_is) (rows_put (λ (x : App). x.number) c.args.number closing there.0 c.self.inside.by_number.entries c.mark_closing.new.apps.entries c.self.invariant.in_order there.1 (c.mark_closing.ensures there.0 there.1))
