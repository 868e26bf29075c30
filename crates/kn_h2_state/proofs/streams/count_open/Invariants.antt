use Rattle.std.proofs.Common.{◌≡◌, ◌≤◌, ◌-◌, length, take}
use Rattle.kn_h2_state.specs.Streams.{open_count}
use Rattle.kn_h2_state.proofs.streams.count_open.Given as goal

abbrev pub invariant-loop-place : goal.invariant-loop-place
invariant-loop-place l = record {
  within : l.place ≤ length l.items;
  bound : l.count ≤ l.place;
  counted : l.count ≡ open_count (take l.place l.items);
}

abbrev pub decreases-loop-place : goal.decreases-loop-place
decreases-loop-place l = length l.items - l.place
