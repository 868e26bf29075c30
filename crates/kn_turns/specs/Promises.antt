-- What holds of a world after every list of turns.
use Rattle.std.specs.Prelude.{List}
use Rattle.kn_route.specs.declared.strategy.Strategy.{Strategy}
use Rattle.kn_packets.specs.Phases.{Phases}
use Rattle.kn_world.specs.declared.state.State.{State}
use Rattle.kn_world.specs.States as running
use Rattle.kn_world.specs.Views as views
use Rattle.kn_refinement.specs.Headline.{AccountsForConnections, GetsNothingUndialled, KeepsBytesApart, LeavesNothing, OwnsItsDial}
use Rattle.kn_refinement.specs.Shown.{shown}
use Rattle.kn_turns.specs.Turns.{Turn, Turns}

-- the promises of a running world's report, but for those on choices
pub record KeepsTunnelPromises (s : State) : Type 0 where
  pub bytes : KeepsBytesApart (views.shown s)
  pub own : OwnsItsDial (views.shown s)
  pub undialled : GetsNothingUndialled s
  pub connections : AccountsForConnections s
  pub tables : LeavesNothing (views.shown s)
  pub phases : Phases (shown s)

abbrev pub TurnsKeepPromises : Type 0
TurnsKeepPromises = (strategies : List Strategy) (ts : List Turn) (s : State) → Turns ts (running.start strategies) s → KeepsTunnelPromises s
