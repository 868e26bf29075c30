use Rattle.std.proofs.Common.{◌≡◌, ◌++◌, List}
use Rattle.kn_port.specs.declared.names.Ready.{Ready as Name}
use Rattle.kn_mio.proofs.port.name_owed.Given as goal

abbrev pub invariant-loop-each : goal.invariant-loop-each
invariant-loop-each l = (names : List Name) × (l.ready ≡ l.fn.ready ++ names)
