use Rattle.std.proofs.Common.{◌≡◌, ◌++◌, length}
use Rattle.kn_edge_core.specs.Agent as spec
use Rattle.kn_edge_core.specs.Sound.{IsAgentSound}
use Rattle.kn_edge_core.proofs.link_loss.dials_dropped.Given as goal

abbrev pub invariant-loop-dial : goal.invariant-loop-dial
invariant-loop-dial l = record {
  sound : IsAgentSound l.state;
  rest : l.state ≡ record l.initial.state { dials = l.state.dials };
  told : l.outs.items ++ spec.all_dropped l.state.dials ≡ l.initial.outs.items ++ spec.all_dropped l.initial.state.dials;
}

abbrev pub decreases-loop-dial : goal.decreases-loop-dial
decreases-loop-dial l = length l.state.dials
