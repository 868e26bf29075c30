use Rattle.std.proofs.Common.{sym, ◌∙◌}
use Rattle.std.proofs.lemmas.Bool.{ne_eqb}
use Rattle.kn_grpc.proofs.States.{first_is_none, first_is_some}
use Rattle.kn_grpc.proofs.state.is_empty.Goals as goal

pub returns-then-len-eq0 : goal.returns-then-len-eq0
returns-then-len-eq0 c =
    let s = c.args.state.now in
    c.is_empty.ensures ∙ first_is_none s.head s.body (sym c.len.ensures.value ∙ c.if-len-eq0.true)

pub returns-else-len-eq0 : goal.returns-else-len-eq0
returns-else-len-eq0 c =
    let s = c.args.state.now in
    ne_eqb c.len.result 0 c.if-len-eq0.false ∙ first_is_some s.head s.body (λ e. c.if-len-eq0.false (c.len.ensures.value ∙ e))
