use Rattle.std.proofs.Common.{◌≡◌}
use Rattle.kn_world.specs.Views.{has_open_below}
use Rattle.kn_world.proofs.views.has_open_below.Given as goal

abbrev pub invariant-dials : goal.invariant-dials
invariant-dials l = has_open_below l.left l.held ≡ has_open_below l.number l.held

abbrev pub decreases-dials : goal.decreases-dials
decreases-dials l = l.left
