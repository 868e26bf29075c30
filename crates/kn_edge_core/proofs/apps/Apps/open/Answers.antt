use Rattle.std.proofs.Common.{ap, refl}
use Rattle.kn_tables.specs.Indexed.{at_key}
use Rattle.kn_edge_core.specs.declared.app.App.{App}
use Rattle.kn_edge_core.specs.ClientTables.{opened}
use Rattle.kn_edge_core.specs.Keeping.{id_cmp}
use Rattle.kn_edge_core.proofs.TableLemmas.{rows_put}
use Rattle.kn_edge_core.proofs.AppLemmas.{app_there, apps_opened, apps_same, id_back, unopened}
use Rattle.kn_edge_core.proofs.apps.Apps.open.Goals as goal

pub invariant_of-self-in-Err : goal.invariant_of-self-in-Err
invariant_of-self-in-Err c =
    let there = app_there c.self.inside c.self.invariant c.args.number _ _ c.self.view_is c.requires in
    apps_same c.self.inside _ c.self.invariant refl
    (id_back c.self.inside.open_by_id.entries _ _ c.args.connect_id.now c.args.number (unopened c.self.inside c.self.invariant c.args.number there.0 c.args.connect_id.now there.1 there.2) c.in_ok-note.ensures.ok c.forget.ensures)
    (λ k. ap (λ es. at_key id_cmp es k) c.in-Err.ensures.err)

pub invariant_of-self-2 : goal.invariant_of-self-2
invariant_of-self-2 c =
    let there = app_there c.self.inside c.self.invariant c.args.number _ _ c.self.view_is c.requires in
    apps_opened c.self.inside _ c.self.invariant c.args.number there.0 c.args.connect_id.now there.1 there.2 (c.mark_open.ensures there.0 there.1) c.in_ok-note.ensures.ok c.in-Ok.ensures.ok

pub returns-clause-ok : goal.returns-clause-ok
returns-clause-ok c =
    let there = app_there c.self.inside c.self.invariant c.args.number _ _ c.self.view_is c.requires in
    rw (← c.self.view_is) (rows_put (λ (x : App). x.number) c.args.number (opened c.args.connect_id.now) there.0 c.self.inside.by_number.entries c.mark_open.new.apps.entries c.self.invariant.in_order there.1 (c.mark_open.ensures there.0 there.1))
