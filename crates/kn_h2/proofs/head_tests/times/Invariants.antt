use Rattle.std.proofs.Common.{◌≡◌, ◌+◌, ◌≤◌, drop}
use Rattle.kn_h2_state.specs.Heads.{times}
use Rattle.kn_h2.proofs.head_tests.times.Given as goal

-- so often it stands in the fields before this one
abbrev pub invariant-loop-index : goal.invariant-loop-index
invariant-loop-index l = record {
  sum : l.count + times l.name (drop l.index l.headers) ≡ times l.name l.headers;
  bound : l.count ≤ l.index;
}
