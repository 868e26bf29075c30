use Rattle.std.proofs.Common.{◌≡◌, ℕ, ◌<◌, ◌≤◌, List, [], length, drop, slice_get, true, false, ◌&&◌, refl, arith, sym, ap, ◌∙◌}
use Rattle.kn_hpack.specs.Fields.{pair}
use Rattle.kn_h2_state.specs.Heads.{is_pseudo}
use Rattle.kn_h2.specs.Blocks.{is_late_after}
use Rattle.kn_h2.proofs.FieldLemmas.{on_name, late_next, late_found, late_end, and_false}
use Rattle.kn_h2.proofs.head_tests.is_late.Goals as goal
use Rattle.kn_h2.proofs.head_tests.is_late.Goals.{else-other-via-then-other+else-pseudo, else-other-via-else-other}

pub returns-then-pseudo : goal.returns-then-pseudo
returns-then-pseudo c =
    let fs = c.args.headers.now in
    let i = c.loop-index.index in
    let h : i < length fs = omega arith in
    let e = on_name (λ (n : List ℕ). is_pseudo (pair n [])) (slice_get fs i) c.name.result.now true c.name.ensures (sym c.is_pseudo-pseudo.ensures ∙ c.if-pseudo.true) in
    sym (c.loop-index.invariant ∙ ap (λ o. is_late_after o (drop i fs)) c.if-other.true ∙ late_found fs i h e)

pub loop-index-preserved : goal.loop-index-preserved
loop-index-preserved c =
    let fs = c.args.headers.now in
    let i = c.loop-index.index in
    let h : i < length fs = omega arith in
    let o = c.loop-index.other in
    let p = c.is_pseudo-pseudo.result in
    let e = on_name (λ (n : List ℕ). is_pseudo (pair n [])) (slice_get fs i) c.name.result.now p c.name.ensures (sym c.is_pseudo-pseudo.ensures) in
    let not_both : (o && p) ≡ false = elim c.else-other.branch [
      | else-other-via-then-other+else-pseudo w ↦ rw w.if-pseudo.false (and_false o)
      | else-other-via-else-other w ↦ rw w.if-other.false refl
    ] in
    c.loop-index.invariant ∙ late_next o fs i p h e not_both

pub returns : goal.returns
returns c =
    let fs = c.args.headers.now in
    let i = c.loop-index.index in
    let h : length fs ≤ i = omega arith in
    sym (c.loop-index.invariant ∙ late_end c.loop-index.other fs i h)
