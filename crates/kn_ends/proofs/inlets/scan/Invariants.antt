use Rattle.std.proofs.Common.{◌-◌, length}
use Rattle.kn_ends.proofs.InletLemmas.{Searched}
use Rattle.kn_ends.proofs.inlets.scan.Given as goal

abbrev pub invariant-loop-place : goal.invariant-loop-place
invariant-loop-place l = Searched l.streams l.number l.place

abbrev pub decreases-loop-place : goal.decreases-loop-place
decreases-loop-place l = length l.streams - l.place
