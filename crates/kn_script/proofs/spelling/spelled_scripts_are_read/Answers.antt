use Rattle.kn_script.proofs.SpellingLemmas.{spelled_is_read}
use Rattle.kn_script.proofs.spelling.spelled_scripts_are_read.Goals as goal

pub returns : goal.returns
returns c = spelled_is_read
