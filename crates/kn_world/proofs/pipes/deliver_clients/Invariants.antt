use Rattle.std.proofs.Common.{◌≡◌, ◌≤◌, ◌-◌}
use Rattle.kn_world.specs.Pipes.{clients_delivered}
use Rattle.kn_world.proofs.pipes.deliver_clients.Given as goal

abbrev pub invariant-clients : goal.invariant-clients
invariant-clients l = record {
  within : l.done ≤ l.count;
  state : l.state ≡ clients_delivered l.done l.fn.state;
}

abbrev pub decreases-clients : goal.decreases-clients
decreases-clients l = l.count - l.done
