use Rattle.std.proofs.Common.{◌≡◌, ◌≤◌, ◌+◌, ◌-◌, length, drop}
use Rattle.kn_h2_state.specs.Outgoing.{count_true}
use Rattle.kn_h2_state.specs.Runs.{marks}
use Rattle.kn_h2_state.proofs.outgoing.take_runs.Given as goal

abbrev pub invariant-loop-left : goal.invariant-loop-left
invariant-loop-left l = record {
  within : l.replies + l.left ≤ l.count;
  rest : marks l.runs.items ≡ drop (l.count - l.left) (marks l.initial.runs.items);
  counted : count_true (marks l.initial.runs.items) ≡ l.replies + count_true (marks l.runs.items);
}

abbrev pub decreases-loop-left : goal.decreases-loop-left
decreases-loop-left l = length l.runs.items + l.left
