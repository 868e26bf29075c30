-- There is nothing to write for the streams so far.
use Rattle.std.proofs.Common.{◌≡◌, ◌<◌, ℕ, false, get_or}
use Rattle.kn_h2_state.specs.declared.stream.Stream.{Stream}
use Rattle.kn_h2.specs.Finding.{has_work}
use Rattle.kn_h2.proofs.finding.first_move.Given as goal

abbrev pub invariant-loop-stream : goal.invariant-loop-stream
invariant-loop-stream l = (k : ℕ) (d : Stream) → k < l.stream-index → has_work l.window (get_or l.streams k d) ≡ false
