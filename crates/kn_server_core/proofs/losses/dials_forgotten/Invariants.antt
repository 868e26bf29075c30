use Rattle.std.proofs.Common.{◌≡◌, not, filter, length}
use Rattle.kn_tables.specs.Awaiting.{is_of_front}
use Rattle.kn_server_core.specs.Sound.{IsSound}
use Rattle.kn_server_core.proofs.losses.dials_forgotten.Given as goal

abbrev pub invariant-loop-entry : goal.invariant-loop-entry
invariant-loop-entry l = record {
  sound : IsSound l.state;
  rest : l.state ≡ record l.initial.state { awaited = l.state.awaited };
  kept : filter (λ e. not (is_of_front l.front e)) l.state.awaited ≡ filter (λ e. not (is_of_front l.front e)) l.initial.state.awaited;
}

abbrev pub decreases-loop-entry : goal.decreases-loop-entry
decreases-loop-entry l = length l.state.awaited
