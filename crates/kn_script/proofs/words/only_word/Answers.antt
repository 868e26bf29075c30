use Rattle.kn_script.proofs.LineLemmas.{one_word-more}
use Rattle.kn_script.proofs.words.only_word.Goals as goal

pub returns-in-Some : goal.returns-in-Some
returns-in-Some c = rw c.in-Some.is (one_word-more c.args.pieces.0.now c.in-Some.field-0.now)
