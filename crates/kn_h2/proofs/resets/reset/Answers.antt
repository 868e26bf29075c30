use Rattle.std.proofs.Common.{sym, ◌∙◌}
use Rattle.kn_h2.proofs.ResetLemmas.{unread_fits}
use Rattle.kn_h2.proofs.resets.reset.Goals as goal

pub reset_open-requires-clause-owed : goal.reset_open-requires-clause-owed
reset_open-requires-clause-owed c = unread_fits c.args.state.now c.args.frame.now.stream c.in-Some.unread c.requires.holds (sym c.unread_at.ensures ∙ c.in-Some.is)
