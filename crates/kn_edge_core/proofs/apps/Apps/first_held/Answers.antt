use Rattle.std.proofs.Common.{◌≡◌, Some, None, sym, ◌∙◌}
use Rattle.kn_tables.specs.Lists.{first_where}
use Rattle.kn_edge_core.specs.ClientTables.{is_app, is_held_at}
use Rattle.kn_edge_core.proofs.AppLemmas.{app_found, held_found}
use Rattle.kn_edge_core.proofs.apps.Apps.first_held.Goals as goal

pub returns-in-Some-clause-found : goal.returns-in-Some-clause-found
returns-in-Some-clause-found c =
    let same : first_where (is_app c.in-Some.number) c.args.self.now ≡ first_where (is_held_at c.args.connect_id.now) c.args.self.now =
    rw (← c.self.view_is) (sym (app_found c.self.inside c.self.invariant c.in-Some.number) ∙ held_found c.self.inside c.self.invariant c.args.connect_id.now (Some c.in-Some.number) c.in-Some.ensures) in
    rw (← same) c.find.ensures.found

pub returns-in-None-clause-found : goal.returns-in-None-clause-found
returns-in-None-clause-found c = rw (← c.self.view_is) (sym (held_found c.self.inside c.self.invariant c.args.connect_id.now None (rw c.in-None.is at c.first_under.ensures)))
