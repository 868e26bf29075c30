use Rattle.std.proofs.Common.{◌≡◌, ◌++◌, take}
use Rattle.kn_world.specs.Views.{shown}
use Rattle.kn_script.specs.Report.{dial_line, numbered}
use Rattle.kn_script.proofs.reporting.push_dials.Given as goal

abbrev pub invariant-loop-before : goal.invariant-loop-before
invariant-loop-before l = l.out ≡ l.fn.out ++ numbered dial_line 1 (take l.before (shown l.world).dials)
