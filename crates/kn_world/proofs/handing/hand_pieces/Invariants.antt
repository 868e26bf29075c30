use Rattle.std.proofs.Common.{◌≡◌}
use Rattle.kn_world.specs.Handing as spec
use Rattle.kn_world.specs.Times.{times}
use Rattle.kn_world.proofs.handing.hand_pieces.Given as goal

abbrev pub invariant-pieces : goal.invariant-pieces
invariant-pieces l = times l.left (spec.hands_piece l.app) l.state ≡ times l.count (spec.hands_piece l.app) l.fn.state

abbrev pub decreases-pieces : goal.decreases-pieces
decreases-pieces l = l.left
