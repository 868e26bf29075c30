use Rattle.std.proofs.Common.{arith}
use Rattle.kn_h2_state.proofs.RunLemmas.{marks-cons, marks-cut}
use Rattle.kn_h2_state.proofs.outgoing.take_run.Goals as goal

pub returns-then-run-count-clause-front : goal.returns-then-run-count-clause-front
returns-then-run-count-clause-front c = rw c.in-Some.ensures.items (marks-cons _ _)

pub returns-else-run-count-clause-front : goal.returns-else-run-count-clause-front
returns-else-run-count-clause-front c =
    rw (c.in-Some.ensures.items, c.push_front_reserved.ensures.items) (marks-cut _ _ c.args.count (omega arith))
