use Rattle.std.proofs.Common.{◌≡◌, ◌++◌, map, filter, length}
use Rattle.kn_tables.specs.Holding.{is_held_by}
use Rattle.kn_server_core.specs.Server as spec
use Rattle.kn_server_core.specs.Sound.{IsSound}
use Rattle.kn_server_core.proofs.losses.tunnels_left.Given as goal

abbrev pub invariant-loop-entry : goal.invariant-loop-entry
invariant-loop-entry l = record {
  sound : IsSound l.state;
  rest : l.state ≡ record l.initial.state { held = l.state.held };
  kept : map (spec.front_left l.front) l.state.held ≡ map (spec.front_left l.front) l.initial.state.held;
  told : l.outs.items ++ spec.all_asked (filter (is_held_by l.front) l.state.held) ≡ l.initial.outs.items ++ spec.all_asked (filter (is_held_by l.front) l.initial.state.held);
}

abbrev pub decreases-loop-entry : goal.decreases-loop-entry
decreases-loop-entry l = length (filter (is_held_by l.front) l.state.held)
