use Rattle.kn_h2.proofs.SteadyLaws.{ends_are_written}
use Rattle.kn_h2.proofs.steady.ends_are_written.Goals as goal

pub returns : goal.returns
returns c = ends_are_written
