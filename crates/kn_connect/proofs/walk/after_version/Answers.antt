use Rattle.std.proofs.Common.{[], ◌∷◌, ◌++◌, sym, subst}
use Rattle.kn_connect.specs.Places.{IsAfterVersion, IsAfterLines}
use Rattle.kn_connect.proofs.Steps.{version_end}
use Rattle.kn_connect.proofs.Refused.{line_end_refuses, line_end_half_refuses}
use Rattle.kn_connect.proofs.walk.after_version.Goals as goal

pub returns-then-byte-eq10 : goal.returns-then-byte-eq10
returns-then-byte-eq10 c = λ s i. subst (λ b. IsAfterLines (s ++ b ∷ []) []) (sym c.if-byte-eq10.true) (version_end s c.args.half i)

pub returns-then-half : goal.returns-then-half
returns-then-half c = λ s i. line_end_half_refuses s c.args.byte (subst (IsAfterVersion s) c.if-half.true i) c.if-byte-eq10.false

pub returns : goal.returns
returns c = λ s i. line_end_refuses s c.args.byte (subst (IsAfterVersion s) c.if-half.false i) c.if-byte-eq10.false c.if-byte-eq13.false
