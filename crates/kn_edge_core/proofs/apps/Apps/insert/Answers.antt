use Rattle.std.proofs.Common.{ap, refl, ◌∙◌}
use Rattle.kn_tables.specs.Lists.{first_where}
use Rattle.kn_edge_core.specs.declared.app.App.{App}
use Rattle.kn_edge_core.specs.ClientTables.{is_app}
use Rattle.kn_edge_core.proofs.TableLemmas.{rows_more}
use Rattle.kn_edge_core.proofs.AppLemmas.{apps_more}
use Rattle.kn_edge_core.proofs.apps.Apps.insert.Goals as goal

pub invariant_of-self-2 : goal.invariant_of-self-2
invariant_of-self-2 c =
    let new = ap (first_where (is_app c.args.app.number)) c.self.view_is ∙ c.requires.new_number in
    apps_more c.self.inside _ c.self.invariant c.args.app new c.requires.idle c.in_ok-insert.ensures.entries c.insert.ensures.ordered c.in_ok-insert.ensures.updates.0 refl refl

pub returns-clause-ok : goal.returns-clause-ok
returns-clause-ok c =
    let new = ap (first_where (is_app c.args.app.number)) c.self.view_is ∙ c.requires.new_number in
    rw (← c.self.view_is) (rows_more (λ (x : App). x.number) c.args.app c.self.inside.by_number.entries c.insert.new.self.entries c.self.invariant.in_order c.in_ok-insert.ensures.entries new)
