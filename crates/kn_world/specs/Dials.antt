-- Dials and their destinations.
use Rattle.std.specs.Prelude.{ℕ, ℤ, Bool, true, false, List, Option, Some, None, is_some}
use Rattle.std.specs.Option.{option_map}
use Rattle.kn_tables.specs.Lists.{first_where}
use Rattle.kn_edge_core.specs.declared.connection.DestState.{DestState}
use Rattle.kn_edge_core.specs.AgentTables.{is_dial, connection_at}
use Rattle.kn_world.specs.declared.parts.Agent.{Agent}
use Rattle.kn_world.specs.declared.parts.Dial.{Dial}
use Rattle.kn_world.specs.Numbers.{or_none}
use Rattle.kn_world.specs.Sides as side

-- what the world notes of a dial
abbrev pub requested : Dial → Dial
requested d = record d { handled = true }

abbrev pub with_ticket : ℕ → Dial → Dial
with_ticket ticket d = record d { ticket = ticket }

abbrev pub with_connect_id : ℤ → Dial → Dial
with_connect_id connect_id d = record d { connect_id = connect_id }

-- its destination
abbrev pub written : List ℕ → Dial → Dial
written bytes d = record d { side = side.written bytes d.side }

abbrev pub took : ℕ → Dial → Dial
took count d = record d { side = side.took count d.side }

abbrev pub sent : List ℕ → Dial → Dial
sent bytes d = record d { side = side.sent bytes d.side }

abbrev pub handed : ℕ → Dial → Dial
handed count d = record d { side = side.handed count d.side }

abbrev pub ended : Dial → Dial
ended d = record d { side = side.ended d.side }

abbrev pub end_told : Dial → Dial
end_told d = record d { side = side.end_told d.side }

abbrev pub holding : Bool → Dial → Dial
holding held d = record d { side = side.holding held d.side }

-- what the agent of its link knows of it
abbrev pub state_at : ℤ → Option Agent → Option DestState
state_at connect_id None = None
state_at connect_id (Some a) = option_map (λ c. c.state) (connection_at connect_id a.core.connections)

abbrev pub unwritten_at : ℤ → Option Agent → ℕ
unwritten_at connect_id None = 0
unwritten_at connect_id (Some a) = or_none (option_map (λ c. c.unwritten) (connection_at connect_id a.core.connections))

abbrev pub is_dialling_at : ℕ → Option Agent → Bool
is_dialling_at ticket None = false
is_dialling_at ticket (Some a) = is_some (option_map (λ d. d.random) (first_where (is_dial ticket) a.core.dials))
