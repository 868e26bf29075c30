use Rattle.std.proofs.Common.{◌∙◌}
use Rattle.std.proofs.lemmas.List.{take_rest}
use Rattle.kn_world.proofs.FlowLemmas.{drop_min}
use Rattle.kn_world.proofs.pieces.rest_of.Goals as goal

pub returns : goal.returns
returns c = take_rest c.args.bytes.now c.min.result ∙ (rw c.min.ensures (drop_min 16384 c.args.bytes.now))
