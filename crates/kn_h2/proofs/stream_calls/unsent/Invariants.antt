use Rattle.std.proofs.Common.{◌≡◌, ◌+◌, ◌≤◌, min, drop}
use Rattle.kn_h2_state.specs.Calls.{unsent}
use Rattle.kn_h2.proofs.stream_calls.unsent.Given as goal

abbrev pub invariant-loop-stream : goal.invariant-loop-stream
invariant-loop-stream l = record {
  small : l.count ≤ 18446744073709551615;
  same : min (l.count + unsent (drop l.stream-index l.stream-items)) 18446744073709551615 ≡ min (unsent l.streams) 18446744073709551615;
}
