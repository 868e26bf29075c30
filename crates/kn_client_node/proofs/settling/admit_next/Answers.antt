use Rattle.std.proofs.Common.{sym, ◌∙◌}
use Rattle.kn_client_node.proofs.StepLemmas.{admit_reaches}
use Rattle.kn_client_node.proofs.settling.admit_next.Goals as goal

pub returns-in_ok-admit-clause-made : goal.returns-in_ok-admit-clause-made
returns-in_ok-admit-clause-made c = admit_reaches c.args.node.now c.admit.new.node (sym c.can_admit.ensures ∙ c.if-can_admit.true) c.in_ok-admit.ensures
