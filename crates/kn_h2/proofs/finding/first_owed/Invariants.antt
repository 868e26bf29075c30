-- None of the streams so far is owed.
use Rattle.std.proofs.Common.{◌≡◌, ◌<◌, ℕ, false, get_or}
use Rattle.kn_h2_state.specs.declared.stream.Stream.{Stream}
use Rattle.kn_h2_state.specs.Moves.{is_owed}
use Rattle.kn_h2.proofs.finding.first_owed.Given as goal

abbrev pub invariant-loop-stream : goal.invariant-loop-stream
invariant-loop-stream l = (k : ℕ) (d : Stream) → k < l.stream-index → is_owed (get_or l.streams k d) ≡ false
