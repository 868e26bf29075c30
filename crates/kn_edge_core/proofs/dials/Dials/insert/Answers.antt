use Rattle.std.proofs.Common.{ap, ◌∙◌}
use Rattle.kn_tables.specs.Lists.{first_where}
use Rattle.kn_edge_core.specs.declared.dial.Dial.{Dial}
use Rattle.kn_edge_core.specs.AgentTables.{is_dial}
use Rattle.kn_edge_core.proofs.TableLemmas.{order_more, rows_more}
use Rattle.kn_edge_core.proofs.dials.Dials.insert.Goals as goal

pub invariant_of-self-2 : goal.invariant_of-self-2
invariant_of-self-2 c = order_more (λ (x : Dial). x.ticket) c.args.dial c.self.inside.by_ticket.entries c.insert.new.self.entries c.self.invariant c.in_ok-insert.ensures.entries c.insert.ensures.ordered

pub returns-clause-ok : goal.returns-clause-ok
returns-clause-ok c =
    let new = ap (first_where (is_dial c.args.dial.ticket)) c.self.view_is ∙ c.requires in
    rw (← c.self.view_is) (rows_more (λ (x : Dial). x.ticket) c.args.dial c.self.inside.by_ticket.entries c.insert.new.self.entries c.self.invariant c.in_ok-insert.ensures.entries new)
