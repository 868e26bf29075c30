use Rattle.kn_edge_core.specs.declared.dial.Dial.{Dial}
use Rattle.kn_edge_core.proofs.TableLemmas.{row_found}
use Rattle.kn_edge_core.proofs.dials.Dials.find.Goals as goal

pub returns : goal.returns
returns c = rw (c.copied.ensures, c.get.ensures.value, ← c.self.view_is) (row_found (λ (x : Dial). x.ticket) c.args.ticket c.self.inside.by_ticket.entries c.self.invariant)
