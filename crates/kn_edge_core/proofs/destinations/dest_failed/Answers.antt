use Rattle.std.proofs.Common.{sym, ◌∙◌}
use Rattle.kn_edge_core.proofs.destinations.dest_failed.Goals as goal

pub returns-in-Some-clause-outs : goal.returns-in-Some-clause-outs
returns-in-Some-clause-outs c = rw (sym c.find.ensures ∙ c.in-Some.is) c.connection_ended.ensures.outs
