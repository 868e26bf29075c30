use Rattle.kn_client_node.proofs.StepLemmas.{fills_reach}
use Rattle.kn_client_node.proofs.settling.write.Goals as goal

pub returns-clause-made : goal.returns-clause-made
returns-clause-made c = fills_reach c.args.node.now c.write.new.carrier c.in_ok-write.ensures.made c.in_ok-write.ensures.lost
