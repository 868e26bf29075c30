use Rattle.std.proofs.Common.{arith, length-append}
use Rattle.kn_connect.proofs.Cuts.{unfinished_cut}
use Rattle.kn_connect.proofs.deciding.answer_unfinished.Goals as goal

pub returns-then-bytes-eq-HEAD_LIMIT-clause-answer : goal.returns-then-bytes-eq-HEAD_LIMIT-clause-answer
returns-then-bytes-eq-HEAD_LIMIT-clause-answer c = λ beyond cut.
    let long = length-append c.args.bytes.now beyond in
    let full = c.if-bytes-eq-HEAD_LIMIT.true in
    (omega arith, unfinished_cut c.args.bytes.now beyond cut c.requires.head)
