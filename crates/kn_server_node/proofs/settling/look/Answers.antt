use Rattle.std.proofs.Common.{ap}
use Rattle.std.proofs.lemmas.Result.{on_ok_weaker}
use Rattle.kn_server_node.proofs.StepLemmas.{look_reaches}
use Rattle.kn_server_node.proofs.StirLemmas.{stirred_last}
use Rattle.kn_server_node.proofs.settling.look.Goals as goal

pub returns-clause-made : goal.returns-clause-made
returns-clause-made c = on_ok_weaker c.add.result
    (λ is. look_reaches c.args.node.now (record c.args.node.now { stirred = c.add.new.self }) c.args.conn (ap (λ s. record c.args.node.now { stirred = s }) is)) c.add.ensures.ok

pub returns-clause-stirred : goal.returns-clause-stirred
returns-clause-stirred c = on_ok_weaker c.add.result (λ is. rw is (stirred_last c.args.conn c.args.node.now.stirred)) c.add.ensures.ok
