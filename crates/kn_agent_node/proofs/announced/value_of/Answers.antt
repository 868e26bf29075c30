use Rattle.std.proofs.Common.{◌≡◌, ◌<◌, length, bytes_eq, true, false, arith, sym, ◌∙◌}
use Rattle.kn_grpc.proofs.Values.{value_next, value_found}
use Rattle.kn_agent_node.proofs.announced.value_of.Goals as goal

pub returns-then-eq : goal.returns-then-eq
returns-then-eq c =
    let fs = c.args.headers.now in
    let name = c.args.name.now in
    let i = c.loop-index.index in
    let h : i < length fs = omega arith in
    let b : bytes_eq c.name.result.now name ≡ true = sym c.eq.ensures ∙ c.if-eq.true in
    sym (c.loop-index.invariant ∙ value_found name fs i c.name.result.now c.value.result.now h c.name.ensures c.value.ensures b)

pub loop-index-preserved : goal.loop-index-preserved
loop-index-preserved c =
    let fs = c.args.headers.now in
    let name = c.args.name.now in
    let i = c.loop-index.index in
    let h : i < length fs = omega arith in
    let b : bytes_eq c.name.result.now name ≡ false = sym c.eq.ensures ∙ c.if-eq.false in
    c.loop-index.invariant ∙ value_next name fs i c.name.result.now h c.name.ensures b
