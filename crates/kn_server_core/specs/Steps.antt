-- What a step comes to.
use Rattle.std.specs.Prelude.{List}
use Rattle.kn_server_core.specs.declared.event.ServerOut.{ServerOut}
use Rattle.kn_server_core.specs.declared.state.State.{State}

-- the state that a step leaves, and its outputs in order
pub record Step : Type 0 where
  pub state : State
  pub outs : List ServerOut
