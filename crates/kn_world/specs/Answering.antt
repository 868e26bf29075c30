-- Bytes and ends of destinations that their agents are given.
use Rattle.std.specs.Prelude.{ℕ, ◌==◌, ◌&&◌, not, Bool, false, List, length, take, Option, Some, None, if◌then◌else◌}
use Rattle.kn_edge_core.specs.declared.agent_event.AgentEvent.TheVariants as event
use Rattle.kn_edge_core.specs.declared.connection.DestState.{DestState}
use Rattle.kn_edge_core.specs.declared.connection.DestState.TheVariants.{Open, Lingering}
use Rattle.kn_world.specs.declared.parts.Agent.{Agent}
use Rattle.kn_world.specs.declared.parts.Dial.{Dial}
use Rattle.kn_world.specs.declared.parts.Side.{Side}
use Rattle.kn_world.specs.declared.state.State.{State}
use Rattle.kn_world.specs.AgentSteps as agent
use Rattle.kn_world.specs.Dials as dials
use Rattle.kn_world.specs.Numbers.{nth, change}
use Rattle.kn_world.specs.Pieces.{pieces}
use Rattle.kn_world.specs.Times.{times}

-- the next 16,384 bytes, or all that are left where these are fewer, go to the agent
abbrev pub hands_piece_of : Option Dial → ℕ → State → State
hands_piece_of None dial s = s
hands_piece_of (Some d) dial s = agent.step d.link dial (event.DestBytes d.connect_id (take 16384 d.side.sending.waiting)) (record s { dials = change (dials.handed 16384) dial s.dials })

abbrev pub hands_piece : ℕ → State → State
hands_piece dial s = hands_piece_of (nth dial s.dials) dial s

abbrev pub hands_pieces : ℕ → ℕ → State → State
hands_pieces count dial s = times count (hands_piece dial) s

-- all go while the connection is open
abbrev pub wanted_at : Option DestState → ℕ → ℕ
wanted_at (Some Open) count = pieces count
wanted_at (Some Lingering) count = 0
wanted_at None count = 0

abbrev pub pieces_wanted : Dial → List Agent → ℕ
pieces_wanted d agents = wanted_at (dials.state_at d.connect_id (nth d.link agents)) (length d.side.sending.waiting)

abbrev pub count_wanted_of : Option Dial → List Agent → ℕ
count_wanted_of None agents = 0
count_wanted_of (Some d) agents = pieces_wanted d agents

abbrev pub count_wanted : ℕ → State → ℕ
count_wanted dial s = count_wanted_of (nth dial s.dials) s.agents

-- the end of its sending goes behind the last byte, once
abbrev pub is_due : Side → Bool
is_due side = side.ended && not side.end_given && (length side.sending.waiting == 0)

abbrev pub is_end_due_of : Option Dial → Bool
is_end_due_of None = false
is_end_due_of (Some d) = is_due d.side

abbrev pub is_end_due : ℕ → State → Bool
is_end_due dial s = is_end_due_of (nth dial s.dials)

abbrev pub gives_end_of : Option Dial → ℕ → State → State
gives_end_of None dial s = s
gives_end_of (Some d) dial s = agent.step d.link dial (event.DestEnd d.connect_id) (record s { dials = change dials.end_told dial s.dials })

abbrev pub gives_end : ℕ → State → State
gives_end dial s = gives_end_of (nth dial s.dials) dial s

abbrev pub ends_if_due : ℕ → State → State
ends_if_due dial s = if is_end_due dial s then gives_end dial s else s

abbrev pub settles : ℕ → State → State
settles dial s = ends_if_due dial (hands_pieces (count_wanted dial s) dial s)
