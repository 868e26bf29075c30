use Rattle.std.proofs.Common.{◌≡◌, drop}
use Rattle.kn_server_node.specs.Noting.{is_in}
use Rattle.kn_server_node.proofs.numbers.is_in.Given as goal

-- it is none of those before
abbrev pub invariant-loop-other : goal.invariant-loop-other
invariant-loop-other l = is_in l.number (drop l.other-index l.numbers) ≡ is_in l.fn.number l.fn.numbers
