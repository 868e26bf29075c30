use Rattle.std.proofs.Common.{◌≡◌, ◌+◌, drop, true, arith, sym, ap, ◌∙◌}
use Rattle.kn_grpc.specs.Readers.{taken, wants_head}
use Rattle.kn_grpc.proofs.Heading.{heading}
use Rattle.kn_grpc.proofs.state.take_head.Goals as goal

pub loop-at-preserved : goal.loop-at-preserved
loop-at-preserved c =
    let w : wants_head c.loop-at.head ≡ true = ap wants_head (sym c.as_slice.ensures) ∙ sym c.wants_head.ensures ∙ c.if-not-wants_head.false in
    let h = heading c.args.head.now c.loop-at.head c.args.piece.now c.loop-at.at c.loop-at-test.true w c.loop-at.invariant.head c.loop-at.invariant.left in
    record { within = omega arith; head = c.push.ensures ∙ h.more; left = h.left ∙ ap (λ p. c.loop-at.at + 1 + taken p (drop (c.loop-at.at + 1) c.args.piece.now)) (sym c.push.ensures) }
