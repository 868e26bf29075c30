use Rattle.std.proofs.Common.{◌≡◌, ◌++◌, not, filter, length}
use Rattle.kn_tables.specs.Holding.{is_held_on, by_connect_id}
use Rattle.kn_server_core.specs.Server as spec
use Rattle.kn_server_core.specs.Sound.{IsSound}
use Rattle.kn_server_core.proofs.losses.held_lost.Given as goal

abbrev pub invariant-loop-entry : goal.invariant-loop-entry
invariant-loop-entry l = record {
  sound : IsSound l.state;
  rest : l.state ≡ record l.initial.state { held = l.state.held };
  kept : filter (λ e. not (is_held_on l.link e)) l.state.held ≡ filter (λ e. not (is_held_on l.link e)) l.initial.state.held;
  told : l.outs.items ++ spec.all_held_lost (by_connect_id (filter (is_held_on l.link) l.state.held)) ≡ l.initial.outs.items ++ spec.all_held_lost (by_connect_id (filter (is_held_on l.link) l.initial.state.held));
}

abbrev pub decreases-loop-entry : goal.decreases-loop-entry
decreases-loop-entry l = length (by_connect_id (filter (is_held_on l.link) l.state.held))
