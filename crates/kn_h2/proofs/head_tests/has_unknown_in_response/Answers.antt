use Rattle.std.proofs.Common.{ℕ, ◌<◌, List, [], length, slice_get, true, false, arith, sym, ◌∙◌}
use Rattle.kn_hpack.specs.Fields.{pair}
use Rattle.kn_h2_state.specs.Heads.{is_unknown, response_names}
use Rattle.kn_h2.proofs.FieldLemmas.{on_name, any_next, any_found}
use Rattle.kn_h2.proofs.head_tests.has_unknown_in_response.Goals as goal

pub returns-then-is_unknown_in_response : goal.returns-then-is_unknown_in_response
returns-then-is_unknown_in_response c =
    let fs = c.args.headers.now in
    let i = c.loop-index.index in
    let h : i < length fs = omega arith in
    sym (c.loop-index.invariant ∙ any_found (is_unknown response_names) fs i h (on_name (λ (n : List ℕ). is_unknown response_names (pair n [])) (slice_get fs i) c.name.result.now true c.name.ensures (sym c.is_unknown_in_response.ensures ∙ c.if-is_unknown_in_response.true)))

pub loop-index-preserved : goal.loop-index-preserved
loop-index-preserved c =
    let fs = c.args.headers.now in
    let i = c.loop-index.index in
    let h : i < length fs = omega arith in
    c.loop-index.invariant ∙ any_next (is_unknown response_names) fs i h (on_name (λ (n : List ℕ). is_unknown response_names (pair n [])) (slice_get fs i) c.name.result.now false c.name.ensures (sym c.is_unknown_in_response.ensures ∙ c.if-is_unknown_in_response.false))
