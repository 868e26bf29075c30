use Rattle.kn_cmd.proofs.Words.{no_route}
use Rattle.kn_cmd.proofs.command.command_of_four.Goals as goal

pub returns-in-Ok-None-clause-none : goal.returns-in-Ok-None-clause-none
returns-in-Ok-None-clause-none c = no_route _ _ _ _ (rw c.in-Ok-None.field-0-is at c.in-Ok-None.ensures.none)
