use Rattle.std.proofs.Common.{sym, ◌∙◌}
use Rattle.kn_connect.proofs.Refused.{method_refuses}
use Rattle.kn_connect.proofs.walk.in_method.Goals as goal

pub returns : goal.returns
returns c = method_refuses c.args.before.now c.args.byte c.requires (sym c.is_token.ensures ∙ c.if-is_token.false) c.if-byte-eq32.false
