use Rattle.std.proofs.Common.{◌+◌, ◌≤◌, ℕ, drop}
use Rattle.kn_world.specs.declared.state.State.{State}
use Rattle.kn_world.specs.Events.{Runs}
use Rattle.kn_world.proofs.world.World.run.Given as goal

abbrev pub invariant-loop-event : goal.invariant-loop-event
invariant-loop-event l = record {
  few : l.idle ≤ l.event-index;
  after : (rest : ℕ) (new : State) → Runs (drop l.event-index l.events) l.self rest new → Runs l.events l.fn.self (l.idle + rest) new;
}
