use Rattle.std.proofs.Common.{◌≡◌, drop}
use Rattle.kn_world.specs.Views.{connections_from}
use Rattle.kn_world.proofs.views.connection_sum.Given as goal

abbrev pub invariant-loop-agent : goal.invariant-loop-agent
invariant-loop-agent l = connections_from l.sum (drop l.agent-index l.agents) ≡ connections_from 0 l.agents
