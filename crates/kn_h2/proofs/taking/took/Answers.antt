use Rattle.kn_h2.proofs.CallBounds.{holds_took}
use Rattle.kn_h2.proofs.taking.took.Goals as goal

pub returns-clause-holds : goal.returns-clause-holds
returns-clause-holds c = rw c.took.ensures (holds_took c.args.state.now c.args.count c.requires.holds)
