use Rattle.std.proofs.Common.{◌≡◌, ◌≤◌, ◌-◌}
use Rattle.kn_world.specs.Pipes.{agents_delivered}
use Rattle.kn_world.proofs.pipes.deliver_agents.Given as goal

abbrev pub invariant-agents : goal.invariant-agents
invariant-agents l = record {
  within : l.done ≤ l.count;
  state : l.state ≡ agents_delivered l.done l.fn.state;
}

abbrev pub decreases-agents : goal.decreases-agents
decreases-agents l = l.count - l.done
