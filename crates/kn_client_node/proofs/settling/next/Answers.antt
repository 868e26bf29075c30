use Rattle.kn_client_node.proofs.StepLemmas.{hear_reaches}
use Rattle.kn_client_node.proofs.settling.next.Goals as goal

pub returns-in_ok-heard-in-Some-clause-made : goal.returns-in_ok-heard-in-Some-clause-made
returns-in_ok-heard-in-Some-clause-made c = hear_reaches c.args.node.now c.next_event.new.node c.heard.new.node c.in-Some.event c.in-Some.ensures c.in_ok-heard-in-Some.ensures
