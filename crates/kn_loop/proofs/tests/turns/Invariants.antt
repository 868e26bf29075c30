use Rattle.kn_loop.specs.Turns.{Steady}
use Rattle.kn_loop.proofs.tests.turns.Given as goal

abbrev pub invariant-loop-round : goal.invariant-loop-round
invariant-loop-round g l = Steady l.running.busy.items l.running.awake l.running.watch (g.N.Node.answers l.running.node) (g.N.Node.top l.running.node) (g.P.Port.last l.port) (g.P.Port.told l.port)
