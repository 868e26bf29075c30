use Rattle.std.proofs.Common.{◌∙◌, ◌-◌, sym, ap, arith}
use Rattle.kn_world.specs.Handing as spec
use Rattle.kn_world.specs.Times.{times}
use Rattle.kn_world.proofs.TimesLemmas.{times_none, times_more}
use Rattle.kn_world.proofs.handing.hand_pieces.Goals as goal

pub pieces-preserved : goal.pieces-preserved
pieces-preserved c =
    ap (times (c.pieces.left - 1) (spec.hands_piece c.args.app)) c.in_ok-hand_piece.ensures
    ∙ sym (times_more c.pieces.left (spec.hands_piece c.args.app) c.pieces.state (omega arith))
    ∙ c.pieces.invariant

pub returns : goal.returns
returns c = sym (times_none c.pieces.left (spec.hands_piece c.args.app) c.pieces.state (omega arith)) ∙ c.pieces.invariant
