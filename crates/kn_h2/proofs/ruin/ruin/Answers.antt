use Rattle.std.proofs.Common.{refl}
use Rattle.kn_h2.proofs.ConnBounds.{holds_ruined}
use Rattle.kn_h2.proofs.ruin.ruin.Goals as goal

pub returns-clause-holds : goal.returns-clause-holds
returns-clause-holds c = holds_ruined _ c.clear.ensures c.new-state.ensures refl refl refl refl c.new.ensures
