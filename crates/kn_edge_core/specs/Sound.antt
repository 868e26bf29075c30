-- What is true of every state of an agent and of a client.
use Rattle.std.specs.Prelude.{◌≡◌, ℕ, ◌<◌, ◌≤◌, None}
use Rattle.kn_tables.specs.Lists.{first_where}
use Rattle.kn_edge_core.specs.AgentTables.{is_dial, is_connection}
use Rattle.kn_edge_core.specs.ClientTables.{is_app}
use Rattle.kn_edge_core.specs.declared.agent_state.AgentState.{AgentState}
use Rattle.kn_edge_core.specs.declared.client_state.ClientState.{ClientState}

-- no number that was not drawn stands on a list
pub record IsAgentSound (s : AgentState) : Type 0 where
  pub few_tickets : s.next_ticket ≤ 9223372036854775807
  pub few_ids : s.next_connect_id ≤ 9223372036854775807
  pub dials_drawn : (n : ℕ) → s.next_ticket ≤ n → first_where (is_dial n) s.dials ≡ None
  pub connections_drawn : (n : ℕ) → s.next_connect_id ≤ n → first_where (is_connection n) s.connections ≡ None

-- no number above the greatest stands on the list
pub record IsClientSound (s : ClientState) : Type 0 where
  pub few_apps : s.top_app < 9223372036854775807
  pub apps_came : (n : ℕ) → s.top_app < n → first_where (is_app n) s.apps ≡ None
