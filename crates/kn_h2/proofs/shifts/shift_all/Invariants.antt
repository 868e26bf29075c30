use Rattle.std.proofs.Common.{◌≡◌, ◌++◌, take, drop}
use Rattle.kn_h2_state.specs.Rules.{shifted}
use Rattle.kn_h2.proofs.shifts.shift_all.Given as goal

abbrev pub invariant-loop-place : goal.invariant-loop-place
invariant-loop-place l = l.streams ≡ shifted l.old l.new (take l.place l.initial.streams) ++ drop l.place l.initial.streams
