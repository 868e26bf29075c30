use Rattle.std.proofs.Common.{sym, ap, refl, ◌∙◌}
use Rattle.kn_tables.specs.Lists.{first_where}
use Rattle.kn_edge_core.specs.declared.connection.Connection.{Connection}
use Rattle.kn_edge_core.specs.declared.connection.DestState.TheVariants.{Lingering}
use Rattle.kn_edge_core.specs.AgentTables.{is_connection, turned}
use Rattle.kn_edge_core.proofs.TableLemmas.{row_found, row_number, order_put, rows_put}
use Rattle.kn_edge_core.proofs.connections.Connections.linger.Goals as goal

pub put-requires : goal.put-requires
put-requires c =
    let found = row_found (λ (x : Connection). x.connect_id) c.args.number c.self.inside.by_id.entries c.self.invariant ∙ ap (first_where (is_connection c.args.number)) c.self.view_is ∙ sym c.find_number.ensures ∙ c.in-Some.is in
    rw found refl

pub invariant_of-self : goal.invariant_of-self
invariant_of-self c =
    let found = row_found (λ (x : Connection). x.connect_id) c.args.number c.self.inside.by_id.entries c.self.invariant ∙ ap (first_where (is_connection c.args.number)) c.self.view_is ∙ sym c.find_number.ensures ∙ c.in-Some.is in
    order_put (λ (x : Connection). x.connect_id) c.args.number _ c.self.inside.by_id.entries c.put.new.by_id.entries c.self.invariant (row_number (λ (x : Connection). x.connect_id) c.args.number c.in-Some.connection c.self.inside.by_id.entries c.self.invariant found) c.put.ensures

pub returns-in-Some : goal.returns-in-Some
returns-in-Some c =
    let found = row_found (λ (x : Connection). x.connect_id) c.args.number c.self.inside.by_id.entries c.self.invariant ∙ ap (first_where (is_connection c.args.number)) c.self.view_is ∙ sym c.find_number.ensures ∙ c.in-Some.is in
    rw (← c.self.view_is) (rows_put (λ (x : Connection). x.connect_id) c.args.number (turned Lingering) c.in-Some.connection c.self.inside.by_id.entries c.put.new.by_id.entries c.self.invariant found c.put.ensures)
