use Rattle.std.proofs.Common.{false, [], ◌∷◌, ◌++◌, sym, ◌∙◌, subst}
use Rattle.kn_connect.specs.Places.{IsInEmpty}
use Rattle.kn_connect.proofs.Steps.{empty_end}
use Rattle.kn_connect.proofs.Refused.{empty_refuses, empty_half_refuses}
use Rattle.kn_connect.proofs.walk.in_empty.Goals as goal

pub returns-then-byte-eq10 : goal.returns-then-byte-eq10
returns-then-byte-eq10 c = λ s i. subst (λ b. IsInEmpty (s ++ b ∷ []) false) (sym c.if-byte-eq10.true) (empty_end s c.args.half i)

pub returns-then-half : goal.returns-then-half
returns-then-half c = λ s i. empty_half_refuses s c.args.byte (subst (IsInEmpty s) c.if-half.true i) c.if-byte-eq10.false

pub returns : goal.returns
returns c = λ s i. empty_refuses s c.args.byte (subst (IsInEmpty s) c.if-half.false i) c.if-byte-eq10.false c.if-byte-eq13.false (sym c.is_token.ensures ∙ c.if-is_token.false)
