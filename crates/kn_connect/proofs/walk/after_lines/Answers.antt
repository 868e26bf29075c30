use Rattle.std.proofs.Common.{[], sym, ◌∙◌, subst}
use Rattle.kn_connect.specs.Places.{half_end, IsAfterLines}
use Rattle.kn_connect.proofs.Steps.{line_token}
use Rattle.kn_connect.proofs.Refused.{line_refuses, line_half_refuses}
use Rattle.kn_connect.proofs.walk.after_lines.Goals as goal

pub returns-then-is_token : goal.returns-then-is_token
returns-then-is_token c = λ s i.
    let whole : IsAfterLines s [] = subst (λ h. IsAfterLines s (half_end h)) c.if-half.false i in
    line_token s c.args.byte whole (sym c.is_token.ensures ∙ c.if-is_token.true)

pub returns-then-half : goal.returns-then-half
returns-then-half c = λ s i. line_half_refuses s c.args.byte (subst (λ h. IsAfterLines s (half_end h)) c.if-half.true i)

pub returns : goal.returns
returns c = λ s i.
    line_refuses s c.args.byte (subst (λ h. IsAfterLines s (half_end h)) c.if-half.false i) c.if-byte-eq13.false (sym c.is_token.ensures ∙ c.if-is_token.false)
