use Rattle.std.proofs.Common.{◌≡◌, drop}
use Rattle.kn_world.specs.Views.{dials_from}
use Rattle.kn_world.proofs.views.dial_sum.Given as goal

abbrev pub invariant-loop-agent : goal.invariant-loop-agent
invariant-loop-agent l = dials_from l.sum (drop l.agent-index l.agents) ≡ dials_from 0 l.agents
