-- What a step comes to: the state that it leaves, and its outputs in order.
use Rattle.std.specs.Prelude.{List}
use Rattle.kn_edge_core.specs.declared.agent_event.AgentOut.{AgentOut}
use Rattle.kn_edge_core.specs.declared.agent_state.AgentState.{AgentState}
use Rattle.kn_edge_core.specs.declared.client_event.ClientOut.{ClientOut}
use Rattle.kn_edge_core.specs.declared.client_state.ClientState.{ClientState}

pub record AgentStep : Type 0 where
  pub state : AgentState
  pub outs : List AgentOut

pub record ClientStep : Type 0 where
  pub state : ClientState
  pub outs : List ClientOut
