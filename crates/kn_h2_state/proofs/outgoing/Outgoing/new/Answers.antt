use Rattle.std.proofs.Common.{refl}
use Rattle.kn_h2_state.specs.Outgoing.{count_true}
use Rattle.kn_h2_state.specs.Runs.{marks}
use Rattle.kn_h2_state.proofs.outgoing.Outgoing.new.Goals as goal

pub invariant_of-result : goal.invariant_of-result
unfolding marks count_true
invariant_of-result c = rw (c.new.ensures, c.new-2.ensures.items) (record { long = refl; counted = refl })

pub returns : goal.returns
unfolding marks
returns c = rw (c.new.ensures, c.new-2.ensures.items) refl
