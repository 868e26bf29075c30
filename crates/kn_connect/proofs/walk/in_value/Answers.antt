use Rattle.std.proofs.Common.{true, [], ◌∷◌, ◌++◌, sym, ◌∙◌, subst}
use Rattle.kn_connect.specs.Places.{IsInValue, IsAfterLines}
use Rattle.kn_connect.proofs.Steps.{value_byte, value_half, value_end}
use Rattle.kn_connect.proofs.Refused.{value_refuses, value_half_refuses}
use Rattle.kn_connect.proofs.walk.in_value.Goals as goal

pub returns-then-byte-eq10 : goal.returns-then-byte-eq10
returns-then-byte-eq10 c = λ s i. subst (λ b. IsAfterLines (s ++ b ∷ []) []) (sym c.if-byte-eq10.true) (value_end s c.args.half i)

pub returns-then-byte-eq13 : goal.returns-then-byte-eq13
returns-then-byte-eq13 c = λ s i. subst (λ b. IsInValue (s ++ b ∷ []) true) (sym c.if-byte-eq13.true) (value_half s (subst (IsInValue s) c.if-half.false i))

pub returns-then-is_in_value : goal.returns-then-is_in_value
returns-then-is_in_value c = λ s i. value_byte s c.args.byte (subst (IsInValue s) c.if-half.false i) (sym c.is_in_value.ensures ∙ c.if-is_in_value.true)

pub returns-then-half : goal.returns-then-half
returns-then-half c = λ s i. value_half_refuses s c.args.byte (subst (IsInValue s) c.if-half.true i) c.if-byte-eq10.false

pub returns : goal.returns
returns c = λ s i. value_refuses s c.args.byte (subst (IsInValue s) c.if-half.false i) (sym c.is_in_value.ensures ∙ c.if-is_in_value.false) c.if-byte-eq10.false c.if-byte-eq13.false
