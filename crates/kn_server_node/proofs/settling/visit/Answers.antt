use Rattle.std.proofs.Common.{subst}
use Rattle.std.proofs.lemmas.Result.{on_ok_weaker}
use Rattle.kn_server_node.specs.Steps.{Reaches}
use Rattle.kn_server_node.proofs.StepLemmas.{reaches_more}
use Rattle.kn_server_node.proofs.settling.visit.Goals as goal

pub returns : goal.returns
returns c = on_ok_weaker c.leave.result
    (λ left. reaches_more c.args.node.now c.look.new.node c.leave.new.node c.in_ok-look.ensures.made
    (reaches_more c.look.new.node c.write.new.node c.leave.new.node c.in_ok-write.ensures.made (subst (λ x. Reaches x c.leave.new.node) c.rest.ensures left)))
    c.leave.ensures
