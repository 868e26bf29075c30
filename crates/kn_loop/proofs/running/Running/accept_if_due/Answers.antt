use Rattle.std.proofs.Common.{◌≡◌, true, false, [], rules}
use Rattle.std.proofs.lemmas.Result.{on_ok_weaker}
use Rattle.kn_loop.specs.Visited.{has_accept, AsksGate, Within}
use Rattle.kn_loop.proofs.Visiting.{with_weaker, with_nothing}
use Rattle.kn_loop.proofs.Once.{within_nothing}
use Rattle.kn_loop.proofs.running.Running.accept_if_due.Goals as goal

pub returns-then-is_unsettled-clause-asked : goal.returns-then-is_unsettled-clause-asked
returns-then-is_unsettled-clause-asked g c = on_ok_weaker c.accept_once.result
    (with_weaker g.N.Node.did g.N.Node.outgoing g.N.Node.answers g.N.Node.top (λ es. (has_accept es c.args.gate ≡ true) × Within [] [] [] es) (λ es. AsksGate g.N.Node.takes_of c.args.self.now.watch.gates c.args.gate es × Within [] [] [] es) _ _ _ _ _ _ (λ es h. (λ t u. h.0, h.1)))
    c.accept_once.ensures.asked

pub returns-clause-asked : goal.returns-clause-asked
returns-clause-asked g c =
    let asks : AsksGate g.N.Node.takes_of c.args.self.now.watch.gates c.args.gate [] = search rules in
    with_nothing g.N.Node.did g.N.Node.outgoing g.N.Node.answers g.N.Node.top (λ es. AsksGate g.N.Node.takes_of c.args.self.now.watch.gates c.args.gate es × Within [] [] [] es) (asks, within_nothing [] [] []) _ _ _
