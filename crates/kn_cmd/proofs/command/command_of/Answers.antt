use Rattle.std.proofs.Common.{arith}
use Rattle.kn_cmd.proofs.Words.{other_length, four_words, no_text}
use Rattle.kn_cmd.proofs.command.command_of.Goals as goal

pub returns-in-len3-clause-none : goal.returns-in-len3-clause-none
returns-in-len3-clause-none c = λ command asks. other_length c.args.words.now command (λ e. omega arith) (λ e. omega arith) (λ e. omega arith) asks

pub returns-in-len4-clause-none : goal.returns-in-len4-clause-none
returns-in-len4-clause-none c = rw (four_words c.args.words.now no_text no_text no_text no_text c.in-len4.len_at_least c.in-len4.len_below) c.command_of_four.ensures.none

pub returns-in-len5-up-clause-none : goal.returns-in-len5-up-clause-none
returns-in-len5-up-clause-none c = λ command asks. other_length c.args.words.now command (λ e. omega arith) (λ e. omega arith) (λ e. omega arith) asks
