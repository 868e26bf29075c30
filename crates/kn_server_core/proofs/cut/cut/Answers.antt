use Rattle.std.proofs.Common.{◌≡◌, IfOk, ◌∙◌, subst, arith}
use Rattle.kn_server_core.proofs.CutLemmas.{cut_is}
use Rattle.kn_server_core.proofs.cut.cut.Goals as goal

pub returns-then-len-gt-ERROR_LIMIT : goal.returns-then-len-gt-ERROR_LIMIT
returns-then-len-gt-ERROR_LIMIT c =
    subst (λ z. IfOk c.of.result (λ t. t ≡ z))
    (c.split_at.ensures.front ∙ cut_is c.as_str-whole.result.now c.args.text c.floor_char_boundary.result c.as_str-whole.ensures (omega (arith, c.len.ensures)) c.floor_char_boundary.ensures.bound c.floor_char_boundary.ensures.boundary c.floor_char_boundary.ensures.nearest)
    c.of.ensures
