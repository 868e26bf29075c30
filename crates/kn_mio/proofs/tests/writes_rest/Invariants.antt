use Rattle.std.proofs.Common.{◌≡◌}
use Rattle.kn_mio.proofs.tests.writes_rest.Given as goal

abbrev pub invariant-loop : goal.invariant-loop
invariant-loop l = l.port.last ≡ l.fn.port.last
