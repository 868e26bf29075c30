use Rattle.kn_edge_core.specs.declared.connection.Connection.{Connection}
use Rattle.kn_edge_core.proofs.TableLemmas.{row_found}
use Rattle.kn_edge_core.proofs.connections.Connections.find_number.Goals as goal

pub returns : goal.returns
returns c = rw (c.copied.ensures, c.get.ensures.value, ← c.self.view_is) (row_found (λ (x : Connection). x.connect_id) c.args.number c.self.inside.by_id.entries c.self.invariant)
