-- What an agent does with an event, and where its outputs go.
use Rattle.std.specs.Prelude.{ℕ, ℤ, ◌==◌, min, Bool, false, not, List, [], ◌∷◌, Option, Some, None, if◌then◌else◌}
use Rattle.kn_packet.specs.declared.packet.Packet.{Packet}
use Rattle.kn_packet.specs.declared.packet.Packet.TheVariants.{DialReq, DialRsp, CloseReq, CloseRsp, Data, DialCls, Drain, Other}
use Rattle.kn_edge_core.specs.declared.agent_event.AgentEvent.{AgentEvent}
use Rattle.kn_edge_core.specs.declared.agent_event.AgentEvent.TheVariants as event
use Rattle.kn_edge_core.specs.declared.agent_event.AgentOut.{AgentOut}
use Rattle.kn_edge_core.specs.declared.agent_event.AgentOut.TheVariants as out
use Rattle.kn_world.specs.declared.parts.Dial.{Dial}
use Rattle.kn_world.specs.declared.state.State.{State}
use Rattle.kn_world.specs.Numbers.{nth, change, number_of}
use Rattle.kn_world.specs.Agents as agents
use Rattle.kn_world.specs.Dials as dials

-- ---- the outputs of an agent; each concerns one dial

-- a dial won its connection
abbrev pub connected : ℕ → ℕ → ℤ → State → State
connected link dial connect_id s = record s {
  agents = change (agents.with_connection dial) link s.agents;
  dials = change (dials.with_connect_id connect_id) dial s.dials;
}

abbrev pub answered : List ℕ → ℕ → ℕ → ℤ → State → State
answered [] link dial connect_id s = connected link dial connect_id s
answered (x ∷ xs) link dial connect_id s = s

-- what the world notes of a dial when its agent answers
abbrev pub noted : Packet → ℕ → ℕ → State → State
noted (DialRsp error connect_id random) link dial s = answered error link dial connect_id s
noted (DialReq protocol address random) link dial s = s
noted (CloseReq connect_id) link dial s = s
noted (CloseRsp error connect_id) link dial s = s
noted (Data connect_id error bytes) link dial s = s
noted (DialCls random) link dial s = s
noted Drain link dial s = s
noted (Other number) link dial s = s

abbrev pub queued : Packet → ℕ → State → State
queued packet link s = record s { agents = change (agents.queued_up packet) link s.agents }

abbrev pub sends : Packet → ℕ → ℕ → State → State
sends packet link dial s = queued packet link (noted packet link dial s)

abbrev pub gives : AgentOut → ℕ → ℕ → State → State
gives (out.ToServer packet) link dial s = sends packet link dial s
gives (out.Dial ticket address) link dial s = record s { dials = change (dials.with_ticket ticket) dial s.dials }
gives (out.Write connect_id bytes) link dial s = record s { dials = change (dials.written bytes) dial s.dials }
gives (out.CloseDest connect_id) link dial s = s
gives (out.DropDial ticket) link dial s = s

abbrev pub gives_all : List AgentOut → ℕ → ℕ → State → State
gives_all [] link dial s = s
gives_all (o ∷ os) link dial s = gives_all os link dial (gives o link dial s)

-- ---- an agent takes an event
abbrev pub step : ℕ → ℕ → AgentEvent → State → State
step link dial e s = gives_all (agents.told e (nth link s.agents)) link dial (record s { agents = change (agents.stepped e) link s.agents })

-- ---- a destination takes bytes
abbrev pub wrote : ℕ → ℕ → ℤ → ℕ → State → State
wrote link dial connect_id count s = step link dial (event.DestWrote connect_id count) (record s { dials = change (dials.took count) dial s.dials })

abbrev pub takes_of : Option Dial → ℕ → ℕ → State → State
takes_of None dial count s = s
takes_of (Some d) dial count s = wrote d.link dial d.connect_id (min count (dials.unwritten_at d.connect_id (nth d.link s.agents))) s

-- at most so many
abbrev pub takes : ℕ → ℕ → State → State
takes dial count s = takes_of (nth dial s.dials) dial count s

abbrev pub is_free_of : Option Dial → Bool
is_free_of None = false
is_free_of (Some d) = not d.side.held

abbrev pub is_free : ℕ → State → Bool
is_free dial s = is_free_of (nth dial s.dials)

-- all there is, unless it is held
abbrev pub takes_freely : ℕ → State → State
takes_freely dial s = if is_free dial s then takes dial 18446744073709551615 s else s

-- ---- an agent takes a packet of the server
abbrev pub written_by : Packet → ℕ → State → ℕ
written_by (Data connect_id error bytes) link s = agents.dial_at connect_id (nth link s.agents)
written_by (DialReq protocol address random) link s = 0
written_by (DialRsp error connect_id random) link s = 0
written_by (CloseReq connect_id) link s = 0
written_by (CloseRsp error connect_id) link s = 0
written_by (DialCls random) link s = 0
written_by Drain link s = 0
written_by (Other number) link s = 0

abbrev pub asked_by : Packet → ℕ
asked_by (DialReq protocol address random) = number_of random
asked_by (DialRsp error connect_id random) = 0
asked_by (CloseReq connect_id) = 0
asked_by (CloseRsp error connect_id) = 0
asked_by (Data connect_id error bytes) = 0
asked_by (DialCls random) = 0
asked_by Drain = 0
asked_by (Other number) = 0

abbrev pub either : ℕ → ℕ → ℕ
either first second = if first == 0 then second else first

-- the destination that it has bytes for takes them, unless it is held
abbrev pub takes_packet : Packet → ℕ → State → State
takes_packet packet link s =
    let written : ℕ = written_by packet link s in
    takes_freely written (step link (either (asked_by packet) written) (event.Packet packet) (record s { dials = change dials.requested (asked_by packet) s.dials }))
