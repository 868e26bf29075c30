use Rattle.std.proofs.Common.{◌≡◌, ◌++◌, length}
use Rattle.kn_edge_core.specs.Agent as spec
use Rattle.kn_edge_core.specs.Sound.{IsAgentSound}
use Rattle.kn_edge_core.proofs.link_loss.connections_closed.Given as goal

abbrev pub invariant-loop-connection : goal.invariant-loop-connection
invariant-loop-connection l = record {
  sound : IsAgentSound l.state;
  rest : l.state ≡ record l.initial.state { connections = l.state.connections };
  told : l.outs.items ++ spec.all_closed l.state.connections ≡ l.initial.outs.items ++ spec.all_closed l.initial.state.connections;
}

abbrev pub decreases-loop-connection : goal.decreases-loop-connection
decreases-loop-connection l = length l.state.connections
