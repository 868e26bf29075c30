use Rattle.kn_script.proofs.LineLemmas.{no_word-more}
use Rattle.kn_script.proofs.words.no_word.Goals as goal

pub returns-in-Some : goal.returns-in-Some
returns-in-Some c = rw c.in-Some.is (no_word-more c.in-Some.field-0.now)
