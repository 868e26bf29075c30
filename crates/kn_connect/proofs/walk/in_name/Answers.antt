use Rattle.std.proofs.Common.{false, [], ◌∷◌, ◌++◌, sym, ◌∙◌, subst}
use Rattle.kn_connect.specs.Places.{IsInValue}
use Rattle.kn_connect.proofs.Steps.{name_token, name_colon}
use Rattle.kn_connect.proofs.Refused.{name_refuses}
use Rattle.kn_connect.proofs.walk.in_name.Goals as goal

pub returns-then-is_token : goal.returns-then-is_token
returns-then-is_token c = λ s i. name_token s c.args.byte i (sym c.is_token.ensures ∙ c.if-is_token.true)

pub returns-then-byte-eq58 : goal.returns-then-byte-eq58
returns-then-byte-eq58 c = λ s i. subst (λ b. IsInValue (s ++ b ∷ []) false) (sym c.if-byte-eq58.true) (name_colon s i)

pub returns : goal.returns
returns c = λ s i. name_refuses s c.args.byte i (sym c.is_token.ensures ∙ c.if-is_token.false) c.if-byte-eq58.false
