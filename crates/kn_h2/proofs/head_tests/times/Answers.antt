use Rattle.std.proofs.Common.{◌≡◌, ◌<◌, length, bytes_eq, cond, arith, ap, ◌∙◌}
use Rattle.kn_h2.proofs.FieldLemmas.{times_next}
use Rattle.kn_h2.proofs.head_tests.times.Goals as goal

pub loop-index-preserved : goal.loop-index-preserved
loop-index-preserved c =
    let fs = c.args.headers.now in
    let i = c.loop-index.index in
    let h : i < length fs = omega arith in
    let more = times_next c.args.name.now fs i c.name.result.now h c.name.ensures in
    let one : c.one_if-count.result ≡ cond (bytes_eq c.name.result.now c.args.name.now) 1 0 = c.one_if-count.ensures.value ∙ ap (λ b. cond b 1 0) c.eq.ensures in
    record { sum = omega arith; bound = omega arith }
