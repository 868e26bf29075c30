use Rattle.std.proofs.lemmas.Result.{on_ok_weaker}
use Rattle.kn_agent_node.proofs.StepLemmas.{reaches_more}
use Rattle.kn_agent_node.proofs.settling.go_on.Goals as goal

pub returns-clause-made : goal.returns-clause-made
returns-clause-made c =
    on_ok_weaker c.next.result (λ later. reaches_more c.args.node.now c.write.new.node c.next.new.node c.in_ok-write.ensures.made later) c.next.ensures.made
