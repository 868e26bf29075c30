use Rattle.std.proofs.lemmas.Result.{on_ok_weaker}
use Rattle.kn_server_node.proofs.StepLemmas.{fills_reach}
use Rattle.kn_server_node.proofs.settling.write.Goals as goal

pub returns-clause-made : goal.returns-clause-made
returns-clause-made c = on_ok_weaker c.write.result (fills_reach c.args.node.now c.args.conn c.write.new.self c.requires) c.write.ensures.made
