use Rattle.std.proofs.Common.{◌≡◌, ◌++◌, length}
use Rattle.kn_edge_core.specs.AppOrder.{AreBefore}
use Rattle.kn_edge_core.specs.Client as spec
use Rattle.kn_edge_core.specs.Sound.{IsClientSound}
use Rattle.kn_edge_core.proofs.stream_end.stream_ended.Given as goal

abbrev pub invariant-loop-app : goal.invariant-loop-app
invariant-loop-app l = record {
  sound : IsClientSound l.state;
  rest : l.state ≡ record l.initial.state { apps = l.state.apps };
  before : AreBefore l.kept l.state.apps;
  stay : l.kept ++ spec.apps_after l.error l.state.apps ≡ spec.apps_after l.error l.initial.state.apps;
  told : l.outs.items ++ spec.ends_told l.error l.state.apps ≡ l.initial.outs.items ++ spec.ends_told l.error l.initial.state.apps;
}

abbrev pub decreases-loop-app : goal.decreases-loop-app
decreases-loop-app l = length l.state.apps
