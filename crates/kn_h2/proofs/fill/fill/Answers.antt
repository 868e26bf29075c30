-- Where nothing is due nothing may be written.
use Rattle.kn_h2.proofs.FillLemmas.{none_noted}
use Rattle.kn_h2.proofs.fill.fill.Goals as goal

pub returns-else-due-clause-filled : goal.returns-else-due-clause-filled
returns-else-due-clause-filled c = none_noted c.args.state.now c.args.due.now c.if-due.false c.requires.noted
