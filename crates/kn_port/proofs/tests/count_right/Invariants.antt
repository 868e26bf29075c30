use Rattle.std.proofs.Common.{◌≤◌, length}
use Rattle.kn_port.proofs.tests.count_right.Given as goal

abbrev pub invariant-loop-question : goal.invariant-loop-question
invariant-loop-question l = 1 ≤ length l.port.net.lines
