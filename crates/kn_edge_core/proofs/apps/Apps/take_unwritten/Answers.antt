use Rattle.std.proofs.Common.{refl}
use Rattle.kn_edge_core.specs.declared.app.App.{App}
use Rattle.kn_edge_core.specs.ClientTables.{with_fewer}
use Rattle.kn_edge_core.proofs.TableLemmas.{rows_put}
use Rattle.kn_edge_core.proofs.AppLemmas.{app_there, apps_counted}
use Rattle.kn_edge_core.proofs.apps.Apps.take_unwritten.Goals as goal

pub count_fewer-requires : goal.count_fewer-requires
count_fewer-requires c =
    let there = app_there c.self.inside c.self.invariant c.args.number _ _ c.self.view_is c.requires in
    rw there.1 there.2

pub invariant_of-self : goal.invariant_of-self
invariant_of-self c =
    let there = app_there c.self.inside c.self.invariant c.args.number _ _ c.self.view_is c.requires in
    apps_counted c.self.inside _ c.self.invariant c.args.number there.0 (with_fewer c.args.count there.0) there.1 refl refl refl (c.count_fewer.ensures there.0 there.1) refl refl

pub returns : goal.returns
returns c =
    let there = app_there c.self.inside c.self.invariant c.args.number _ _ c.self.view_is c.requires in
    rw (← c.self.view_is) (rows_put (λ (x : App). x.number) c.args.number (with_fewer c.args.count) there.0 c.self.inside.by_number.entries c.count_fewer.new.apps.entries c.self.invariant.in_order there.1 (c.count_fewer.ensures there.0 there.1))
