use Rattle.std.proofs.Common.{Some, None, arith}
use Rattle.std.proofs.lemmas.Str.Pattern.{split_once_first}
use Rattle.std.proofs.lemmas.List.Splits.{slice_split_first}
use Rattle.kn_script.specs.Lines.{is_space}
use Rattle.kn_script.proofs.LineLemmas.{one_piece}
use Rattle.kn_script.proofs.words.cut.Goals as goal

pub returns-in-Some : goal.returns-in-Some
returns-in-Some c =
    let parts = split_once_first 32 c.args.text.now (Some (c.in-Some.first, c.in-Some.rest)) c.in-Some.ensures.cases (omega arith) in
    rw (parts.1, parts.2) (slice_split_first is_space c.args.text.now 0 parts.0)

pub returns-in-None : goal.returns-in-None
returns-in-None c =
    let past = split_once_first 32 c.args.text.now None c.in-None.ensures.cases (omega arith) in
    one_piece is_space c.args.text.now (omega arith)
