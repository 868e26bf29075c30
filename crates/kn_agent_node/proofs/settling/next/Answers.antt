use Rattle.kn_agent_node.proofs.StepLemmas.{follow_reaches}
use Rattle.kn_agent_node.proofs.settling.next.Goals as goal

pub returns-in_ok-lose-clause-made : goal.returns-in_ok-lose-clause-made
returns-in_ok-lose-clause-made c = follow_reaches c.args.node.now c.lose.new.node c.if-node.true c.in_ok-lose.ensures
