-- Agents and their links: what enters a link's lists and leaves them, and what an agent's core does.
use Rattle.std.specs.Prelude.{ℕ, ℤ, Bool, true, false, List, [], ◌∷◌, ◌++◌, length, Option, Some, None}
use Rattle.kn_packet.specs.declared.packet.Packet.{Packet}
use Rattle.kn_edge_core.specs.declared.agent_event.AgentEvent.{AgentEvent}
use Rattle.kn_edge_core.specs.declared.agent_event.AgentOut.{AgentOut}
use Rattle.kn_edge_core.specs.Agent as edge
use Rattle.kn_world.specs.declared.parts.Agent.{Agent}
use Rattle.kn_world.specs.Numbers.{nth, number_of, or_none, first_of, rest_of}

-- a packet is queued to an end that still has the link; to one that lost it, it is dropped
abbrev pub with_up : Bool → Packet → Agent → Agent
with_up true packet a = record a { up = a.up ++ packet ∷ [] }
with_up false packet a = a

abbrev pub with_down : Bool → Packet → Agent → Agent
with_down true packet a = record a { down = a.down ++ packet ∷ [] }
with_down false packet a = a

abbrev pub queued_up : Packet → Agent → Agent
queued_up packet a = with_up a.at_server packet a

abbrev pub queued_down : Packet → Agent → Agent
queued_down packet a = with_down a.at_agent packet a

-- the first packet of a list, and the list without it
abbrev pub first_up : Option Agent → Option Packet
first_up None = None
first_up (Some a) = first_of a.up

abbrev pub rest_up : Agent → Agent
rest_up a = record a { up = rest_of a.up }

abbrev pub first_down : Option Agent → Option Packet
first_down None = None
first_down (Some a) = first_of a.down

abbrev pub rest_down : Agent → Agent
rest_down a = record a { down = rest_of a.down }

abbrev pub up_count : Option Agent → ℕ
up_count None = 0
up_count (Some a) = length a.up

abbrev pub down_count : Option Agent → ℕ
down_count None = 0
down_count (Some a) = length a.down

-- an end loses the link: what is on its way to it is dropped, and what it queued stays
abbrev pub lost_at_server : Agent → Agent
lost_at_server a = record a { at_server = false; up = [] }

abbrev pub cut_off : Agent → Agent
cut_off a = record a { at_server = false; cut = true; up = [] }

abbrev pub lost_at_agent : Agent → Agent
lost_at_agent a = record a { at_agent = false; down = [] }

abbrev pub with_drain : Agent → Agent
with_drain a = record a { drained = true }

-- the dials of an agent's connections
abbrev pub with_connection : ℕ → Agent → Agent
with_connection dial a = record a { connections = a.connections ++ dial ∷ [] }

abbrev pub dial_at : ℤ → Option Agent → ℕ
dial_at connect_id None = 0
dial_at connect_id (Some a) = or_none (nth (number_of connect_id) a.connections)

-- the agent's core takes an event
abbrev pub stepped : AgentEvent → Agent → Agent
stepped event a = record a { core = (edge.step a.core event).state }

abbrev pub told : AgentEvent → Option Agent → List AgentOut
told event None = []
told event (Some a) = (edge.step a.core event).outs
