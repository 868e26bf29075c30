use Rattle.std.proofs.Common.{ap}
use Rattle.std.proofs.lemmas.Result.{on_ok_weaker}
use Rattle.kn_server_node.proofs.StepLemmas.{forget_reaches}
use Rattle.kn_server_node.proofs.settling.forget.Goals as goal

pub returns : goal.returns
returns c = on_ok_weaker c.forget.result
    (λ is. forget_reaches c.args.node.now (record c.args.node.now { ends = c.forget.new.self }) c.args.conn c.requires.stirred c.requires.followed c.requires.heard c.requires.over
    (ap (λ es. record c.args.node.now { ends = es }) is)) c.forget.ensures
