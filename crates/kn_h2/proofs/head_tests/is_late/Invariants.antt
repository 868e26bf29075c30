use Rattle.std.proofs.Common.{◌≡◌, drop}
use Rattle.kn_h2_state.specs.Heads.{is_late}
use Rattle.kn_h2.specs.Blocks.{is_late_after}
use Rattle.kn_h2.proofs.head_tests.is_late.Given as goal

-- no pseudo header before this one came after another header
abbrev pub invariant-loop-index : goal.invariant-loop-index
invariant-loop-index l = is_late l.headers ≡ is_late_after l.other (drop l.index l.headers)
