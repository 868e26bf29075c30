use Rattle.std.proofs.Common.{◌≡◌}
use Rattle.kn_world.specs.Handing as spec
use Rattle.kn_world.specs.Times.{times}
use Rattle.kn_world.proofs.handing.server_hears_all.Given as goal

abbrev pub invariant-packets : goal.invariant-packets
invariant-packets l = times l.left (spec.server_hears l.app) l.state ≡ times l.count (spec.server_hears l.app) l.fn.state

abbrev pub decreases-packets : goal.decreases-packets
decreases-packets l = l.left
