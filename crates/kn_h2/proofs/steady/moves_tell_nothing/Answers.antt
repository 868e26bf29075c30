use Rattle.kn_h2.proofs.SteadyLaws.{moves_tell_nothing}
use Rattle.kn_h2.proofs.steady.moves_tell_nothing.Goals as goal

pub returns : goal.returns
returns c = moves_tell_nothing
