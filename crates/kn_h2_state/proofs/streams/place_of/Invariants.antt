use Rattle.std.proofs.Common.{◌-◌, length}
use Rattle.kn_h2_state.proofs.PlaceLemmas.{Searched}
use Rattle.kn_h2_state.proofs.streams.place_of.Given as goal

abbrev pub invariant-loop-place : goal.invariant-loop-place
invariant-loop-place l = Searched l.items l.number l.place

abbrev pub decreases-loop-place : goal.decreases-loop-place
decreases-loop-place l = length l.items - l.place
