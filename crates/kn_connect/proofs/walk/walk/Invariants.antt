use Rattle.std.proofs.Common.{take}
use Rattle.kn_connect.specs.Places.{EndsAt}
use Rattle.kn_connect.proofs.walk.walk.Given as goal

abbrev pub invariant-loop-at : goal.invariant-loop-at
invariant-loop-at l = EndsAt (take l.at l.bytes) l.reached
