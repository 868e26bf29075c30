use Rattle.std.proofs.Common.{◌++◌}
use Rattle.kn_connect.proofs.Cuts.{whole_cut, never_cut}
use Rattle.kn_connect.proofs.deciding.answer_decided.Goals as goal

pub returns-in-Ok-Other-clause-answer : goal.returns-in-Ok-Other-clause-answer
returns-in-Ok-Other-clause-answer c =
    let found = rw c.in-Ok-Other.field-0-is at c.in-Ok-Other.ensures in
    (found.0, found.1 ++ c.args.beyond.now, whole_cut c.args.bytes.now c.args.beyond.now found.1 found.0 c.requires.cut found.2, found.3)

pub returns-in-Ok-Never-clause-answer : goal.returns-in-Ok-Never-clause-answer
returns-in-Ok-Never-clause-answer c =
    let never = rw c.in-Ok-Never.field-0-is at c.in-Ok-Never.ensures in
    never_cut c.args.bytes.now c.args.beyond.now c.requires.cut c.requires.head never
