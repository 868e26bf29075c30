use Rattle.std.proofs.Common.{◌≡◌, length}
use Rattle.kn_hpack.specs.Fields.{kept, total}
use Rattle.kn_hpack.proofs.dynamic_table.evict.Given as goal

abbrev pub invariant-loop-left : goal.invariant-loop-left
invariant-loop-left l = record {
  count : l.left ≡ total l.pairs.items;
  kept : kept l.room l.pairs.items ≡ kept l.room l.fn.pairs.items;
}

abbrev pub decreases-loop-left : goal.decreases-loop-left
decreases-loop-left l = length l.pairs.items
