use Rattle.std.proofs.Common.{◌<◌, length, slice_get, true, false, arith, sym, ◌∙◌}
use Rattle.kn_h2.specs.Blocks.{is_interim}
use Rattle.kn_h2.proofs.FieldLemmas.{on_field, any_next, any_found}
use Rattle.kn_h2.proofs.status.has_interim_status.Goals as goal

pub returns-then-is_informational_status : goal.returns-then-is_informational_status
returns-then-is_informational_status c =
    let fs = c.args.headers.now in
    let i = c.loop-index.index in
    let h : i < length fs = omega arith in
    sym (c.loop-index.invariant ∙ any_found is_interim fs i h
    (on_field is_interim (slice_get fs i) c.name.result.now c.value.result.now true c.name.ensures c.value.ensures (sym c.is_informational_status.ensures ∙ c.if-is_informational_status.true)))

pub loop-index-preserved : goal.loop-index-preserved
loop-index-preserved c =
    let fs = c.args.headers.now in
    let i = c.loop-index.index in
    let h : i < length fs = omega arith in
    c.loop-index.invariant ∙ any_next is_interim fs i h
    (on_field is_interim (slice_get fs i) c.name.result.now c.value.result.now false c.name.ensures c.value.ensures (sym c.is_informational_status.ensures ∙ c.if-is_informational_status.false))
