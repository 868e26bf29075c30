use Rattle.std.proofs.Common.{refl}
use Rattle.kn_edge_core.specs.declared.app.App.{App}
use Rattle.kn_edge_core.specs.ClientTables.{with_more}
use Rattle.kn_edge_core.proofs.TableLemmas.{rows_put}
use Rattle.kn_edge_core.proofs.AppLemmas.{app_there, apps_counted}
use Rattle.kn_edge_core.proofs.apps.Apps.add_unwritten.Goals as goal

pub count_more-requires : goal.count_more-requires
count_more-requires c =
    let there = app_there c.self.inside c.self.invariant c.args.number _ _ c.self.view_is c.requires in
    rw there.1 there.2

pub invariant_of-self : goal.invariant_of-self
invariant_of-self c =
    let there = app_there c.self.inside c.self.invariant c.args.number _ _ c.self.view_is c.requires in
    apps_counted c.self.inside _ c.self.invariant c.args.number there.0 (with_more c.args.count there.0) there.1 refl refl refl (c.count_more.ensures there.0 there.1) refl refl

pub returns : goal.returns
returns c =
    let there = app_there c.self.inside c.self.invariant c.args.number _ _ c.self.view_is c.requires in
    rw (← c.self.view_is) (rows_put (λ (x : App). x.number) c.args.number (with_more c.args.count) there.0 c.self.inside.by_number.entries c.count_more.new.apps.entries c.self.invariant.in_order there.1 (c.count_more.ensures there.0 there.1))
