use Rattle.std.proofs.Common.{◌≡◌, ◌+◌, ◌-◌, ◌≤◌, ◌++◌, length, take, drop}
use Rattle.kn_grpc.specs.Readers.{taken}
use Rattle.kn_grpc.proofs.state.take_head.Given as goal

-- what was taken and what is still to be taken are together what is taken of the piece
abbrev pub invariant-loop-at : goal.invariant-loop-at
invariant-loop-at l = record {
  within : l.at ≤ length l.piece;
  head : l.head ≡ l.fn.head ++ take l.at l.piece;
  left : taken l.fn.head l.piece ≡ l.at + taken l.head (drop l.at l.piece);
}

abbrev pub decreases-loop-at : goal.decreases-loop-at
decreases-loop-at l = length l.piece - l.at
