use Rattle.kn_edge_core.specs.declared.connection.Connection.{Connection}
use Rattle.kn_edge_core.proofs.TableLemmas.{order_less, rows_less}
use Rattle.kn_edge_core.proofs.connections.Connections.remove.Goals as goal

pub invariant_of-self : goal.invariant_of-self
invariant_of-self c = order_less (λ (x : Connection). x.connect_id) c.args.number c.self.inside.by_id.entries c.remove.new.self.entries c.self.invariant c.remove.ensures.entries c.remove.ensures.ordered

pub returns : goal.returns
returns c = rw (← c.self.view_is) (rows_less (λ (x : Connection). x.connect_id) c.args.number c.self.inside.by_id.entries c.remove.new.self.entries c.self.invariant c.remove.ensures.entries)
