use Rattle.std.proofs.Common.{ap, ◌∙◌}
use Rattle.kn_tables.specs.Lists.{first_where}
use Rattle.kn_edge_core.specs.declared.connection.Connection.{Connection}
use Rattle.kn_edge_core.specs.AgentTables.{is_connection}
use Rattle.kn_edge_core.proofs.TableLemmas.{order_more, rows_more}
use Rattle.kn_edge_core.proofs.connections.Connections.insert.Goals as goal

pub invariant_of-self-2 : goal.invariant_of-self-2
invariant_of-self-2 c = order_more (λ (x : Connection). x.connect_id) c.args.connection c.self.inside.by_id.entries c.insert.new.self.entries c.self.invariant c.in_ok-insert.ensures.entries c.insert.ensures.ordered

pub returns-clause-ok : goal.returns-clause-ok
returns-clause-ok c =
    let new = ap (first_where (is_connection c.args.connection.connect_id)) c.self.view_is ∙ c.requires in
    rw (← c.self.view_is) (rows_more (λ (x : Connection). x.connect_id) c.args.connection c.self.inside.by_id.entries c.insert.new.self.entries c.self.invariant c.in_ok-insert.ensures.entries new)
