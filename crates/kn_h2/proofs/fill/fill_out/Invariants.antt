-- Some moves were made, and what always holds holds.
use Rattle.std.proofs.Common.{◌-◌, length}
use Rattle.kn_h2_state.specs.Moves.{Reaches}
use Rattle.kn_h2_state.specs.Holding.{Holds}
use Rattle.kn_h2.proofs.fill.fill_out.Given as goal

abbrev pub invariant-loop-next : goal.invariant-loop-next
invariant-loop-next l = Holds l.state × Reaches l.fn.state l.state

abbrev pub decreases-loop-next : goal.decreases-loop-next
decreases-loop-next l = 16384 - length l.state.out.bytes
