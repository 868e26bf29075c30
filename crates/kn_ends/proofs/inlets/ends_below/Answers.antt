use Rattle.std.proofs.Common.{sym, ap, ◌∙◌}
use Rattle.kn_ends.proofs.InletLemmas.{last_below, ends_below_last}
use Rattle.kn_ends.proofs.inlets.ends_below.Goals as goal

pub returns-in-Some : goal.returns-in-Some
returns-in-Some c = sym (ends_below_last c.args.streams.now c.args.number ∙ ap (last_below c.args.number) (sym c.in-Some.ensures.value))

pub returns-in-None : goal.returns-in-None
returns-in-None c = sym (ends_below_last c.args.streams.now c.args.number ∙ ap (last_below c.args.number) (sym c.in-None.ensures.value))
