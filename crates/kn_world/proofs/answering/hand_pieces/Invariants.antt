use Rattle.std.proofs.Common.{◌≡◌}
use Rattle.kn_world.specs.Answering as spec
use Rattle.kn_world.specs.Times.{times}
use Rattle.kn_world.proofs.answering.hand_pieces.Given as goal

abbrev pub invariant-pieces : goal.invariant-pieces
invariant-pieces l = times l.left (spec.hands_piece l.dial) l.state ≡ times l.count (spec.hands_piece l.dial) l.fn.state

abbrev pub decreases-pieces : goal.decreases-pieces
decreases-pieces l = l.left
