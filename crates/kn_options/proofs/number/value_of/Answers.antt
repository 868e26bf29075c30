use Rattle.kn_options.proofs.NumberLemmas.{number_refused}
use Rattle.kn_options.proofs.number.value_of.Goals as goal

pub returns-in-Err : goal.returns-in-Err
returns-in-Err c = number_refused c.args.digits.now c.requires.some c.requires.digits c.in-Err.ensures.value.0
