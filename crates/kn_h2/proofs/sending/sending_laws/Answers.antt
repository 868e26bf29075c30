use Rattle.kn_h2.proofs.MoveLemmas.{move_keeps}
use Rattle.kn_h2.proofs.OrderLemmas.{in_order, spends}
use Rattle.kn_h2.proofs.sending.sending_laws.Goals as goal

pub returns : goal.returns
returns c = record { keeps = move_keeps; order = in_order; spends = spends }
