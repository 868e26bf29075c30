use Rattle.kn_server_node.proofs.StepLemmas.{reaches_more}
use Rattle.kn_server_node.proofs.settling.settle.Goals as goal

pub returns-then-not-branch : goal.returns-then-not-branch
returns-then-not-branch c = (reaches_more c.args.node.now c.loop-round.node c.go_on.new.node c.loop-round.invariant c.in_ok-go_on.ensures.made, c.in_ok-go_on.ensures.none c.if-not-branch.true)

pub loop-round-preserved : goal.loop-round-preserved
loop-round-preserved c = reaches_more c.args.node.now c.loop-round.node c.go_on.new.node c.loop-round.invariant c.in_ok-go_on.ensures.made
