use Rattle.std.proofs.Common.{◌≡◌, ◌≤◌, length, ◌+◌}
use Rattle.kn_script.specs.Lines.{lines_of}
use Rattle.kn_script.proofs.lines.line_count.Given as goal

-- the lines so far and those that are left are all; each line so far took at least one byte
abbrev pub invariant-loop-rest : goal.invariant-loop-rest
invariant-loop-rest l = record {
  all : l.count + length (lines_of l.rest) ≡ length (lines_of l.bytes);
  bounded : l.count + length l.rest ≤ length l.bytes;
}

abbrev pub decreases-loop-rest : goal.decreases-loop-rest
decreases-loop-rest l = length l.rest
