use Rattle.kn_h2.proofs.SteadyLaws.{role_stays}
use Rattle.kn_h2.proofs.steady.role_stays.Goals as goal

pub returns : goal.returns
returns c = role_stays
