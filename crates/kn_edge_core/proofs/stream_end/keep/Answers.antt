use Rattle.std.proofs.Common.{◌∙◌}
use Rattle.kn_edge_core.proofs.StreamLemmas.{in_place_last, new_last}
use Rattle.kn_edge_core.proofs.stream_end.keep.Goals as goal

pub insert-requires-clause-new_number : goal.insert-requires-clause-new_number
insert-requires-clause-new_number c = new_last c.args.app.number c.args.kept.now c.requires.last

pub returns : goal.returns
returns c = c.in_ok-insert.ensures.ok ∙ in_place_last c.args.app c.args.kept.now c.requires.last
