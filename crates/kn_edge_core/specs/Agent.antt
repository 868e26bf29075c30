-- What an agent does with an event: a definition for each rule. A rule takes the state and the dial or connection
-- that it concerns; the look-ups are made once, where an event is told apart.
use Rattle.std.specs.Prelude.{ℕ, ℤ, pos, ◌+◌, ◌==◌, ◌<◌, ◌≤◌, ◌^◌, nat_lt, nat_eq, Bool, true, false, List, [], ◌∷◌, ◌++◌, length, Option, Some, None, if◌then◌else◌, codes}
use Rattle.std.specs.Cmp.Lexicographic.{pointwise}
use Rattle.kn_packet.specs.declared.packet.Packet.{Packet}
use Rattle.kn_packet.specs.declared.packet.Packet.TheVariants.{DialReq, DialRsp, CloseReq, CloseRsp, Data, DialCls, Drain, Other}
use Rattle.kn_tables.specs.Lists.{first_where}
use Rattle.kn_edge_core.specs.declared.agent_event.AgentEvent.{AgentEvent}
use Rattle.kn_edge_core.specs.declared.agent_event.AgentEvent.TheVariants as event
use Rattle.kn_edge_core.specs.declared.agent_event.AgentOut.{AgentOut}
use Rattle.kn_edge_core.specs.declared.agent_event.AgentOut.TheVariants as out
use Rattle.kn_edge_core.specs.declared.agent_state.AgentState.{AgentState}
use Rattle.kn_edge_core.specs.declared.connection.Connection.{Connection}
use Rattle.kn_edge_core.specs.declared.connection.DestState.{DestState}
use Rattle.kn_edge_core.specs.declared.connection.DestState.TheVariants.{Open, Lingering}
use Rattle.kn_edge_core.specs.declared.dial.Dial.{Dial}
use Rattle.kn_edge_core.specs.AgentTables.{is_dial, with_dial, without_dial, connection_at, with_connection, without_connection, connection_changed, turned, with_more, with_fewer}
use Rattle.kn_edge_core.specs.Steps.{AgentStep}

-- nothing changes
abbrev pub ignored : AgentState → AgentStep
ignored s = record { state = s; outs = [] }

-- only outputs
abbrev pub told : AgentState → List AgentOut → AgentStep
told s outs = record { state = s; outs = outs }

-- an answer to a dial: with a connection, or with an error and the connection 0
abbrev pub answer : List ℕ → ℤ → ℤ → AgentOut
answer error connect_id random = out.ToServer (DialRsp error connect_id random)

abbrev pub refusal : List ℕ → ℤ → AgentOut
refusal error random = answer error (pos 0) random

-- ---- the server asks for a dial
abbrev pub is_tcp : List ℕ → Bool
is_tcp protocol = pointwise nat_eq protocol (codes "tcp")

-- an agent has at most 600 dials and connections together, and its tickets are below 2^63 − 1
abbrev pub may_dial : AgentState → Bool
may_dial s = if nat_lt (length s.dials + length s.connections) 600 then nat_lt s.next_ticket 9223372036854775807 else false

-- a dial draws its ticket
abbrev pub dial_begun : AgentState → List ℕ → ℤ → AgentStep
dial_begun s address random =
    let dial : Dial = record { ticket = s.next_ticket; random = random } in
    record {
      state = record s { dials = with_dial dial s.dials; next_ticket = s.next_ticket + 1 };
      outs = out.Dial s.next_ticket address ∷ [];
    }

abbrev pub tcp_asked : AgentState → List ℕ → ℤ → AgentStep
tcp_asked s address random = if may_dial s then dial_begun s address random else told s (refusal (codes "too many connections") random ∷ [])

abbrev pub dial_requested : AgentState → List ℕ → List ℕ → ℤ → AgentStep
dial_requested s protocol address random = if is_tcp protocol then tcp_asked s address random else told s (refusal (codes "unsupported protocol") random ∷ [])

-- ---- a dial won its connection, or failed
abbrev pub dial_ended : AgentState → ℕ → AgentState
dial_ended s ticket = record s { dials = without_dial ticket s.dials }

-- the connection draws its number
abbrev pub connection_opened : AgentState → Dial → AgentStep
connection_opened s d =
    let connection : Connection = record { connect_id = s.next_connect_id; state = Open; unwritten = 0 } in
    record {
      state = record s { dials = without_dial d.ticket s.dials; connections = with_connection connection s.connections; next_connect_id = s.next_connect_id + 1 };
      outs = answer [] (pos s.next_connect_id) d.random ∷ [];
    }

-- connectIDs are below 2^63 − 1
abbrev pub ids_used_up : AgentState → Dial → AgentStep
ids_used_up s d = record { state = dial_ended s d.ticket; outs = refusal (codes "connection ids used up") d.random ∷ out.DropDial d.ticket ∷ [] }

abbrev pub dial_up : AgentState → Option Dial → AgentStep
dial_up s None = ignored s
dial_up s (Some d) = if nat_lt s.next_connect_id 9223372036854775807 then connection_opened s d else ids_used_up s d

abbrev pub dial_refused : AgentState → Option Dial → AgentStep
dial_refused s None = ignored s
dial_refused s (Some d) = record { state = dial_ended s d.ticket; outs = refusal (codes "dial failed") d.random ∷ [] }

-- ---- a connection ends: it leaves with its unwritten bytes, its destination is closed, and the server is told
abbrev pub connection_ended : AgentState → ℤ → Connection → List ℕ → AgentStep
connection_ended s connect_id c error = record {
  state = record s { connections = without_connection c.connect_id s.connections };
  outs = out.CloseDest connect_id ∷ out.ToServer (CloseRsp error connect_id) ∷ [];
}

-- a connection changes
abbrev pub connection_turned : AgentState → Connection → (Connection → Connection) → List AgentOut → AgentStep
connection_turned s c change outs = record { state = record s { connections = connection_changed c.connect_id change s.connections }; outs = outs }

-- ---- the server sends bytes for a destination
abbrev pub bytes_by_state : AgentState → ℤ → List ℕ → Connection → DestState → AgentStep
bytes_by_state s connect_id bytes c Open = connection_turned s c (with_more (length bytes)) (out.Write connect_id bytes ∷ [])
bytes_by_state s connect_id bytes c Lingering = ignored s

abbrev pub data_came : AgentState → ℤ → List ℕ → Option Connection → AgentStep
data_came s connect_id bytes None = ignored s
data_came s connect_id bytes (Some c) = bytes_by_state s connect_id bytes c c.state

-- ---- the server asks to close: at once, or once all is written
abbrev pub close_open : AgentState → ℤ → Connection → AgentStep
close_open s connect_id c = if c.unwritten == 0 then connection_ended s connect_id c [] else connection_turned s c (turned Lingering) []

abbrev pub close_by_state : AgentState → ℤ → Connection → DestState → AgentStep
close_by_state s connect_id c Open = close_open s connect_id c
close_by_state s connect_id c Lingering = ignored s

abbrev pub unknown_close : AgentState → ℤ → AgentStep
unknown_close s connect_id = told s (out.ToServer (CloseRsp (codes "unknown connection") connect_id) ∷ [])

abbrev pub close_requested : AgentState → ℤ → Option Connection → AgentStep
close_requested s connect_id None = unknown_close s connect_id
close_requested s connect_id (Some c) = close_by_state s connect_id c c.state

-- ---- a destination's bytes, and its end
abbrev pub dest_bytes_by_state : AgentState → ℤ → List ℕ → DestState → AgentStep
dest_bytes_by_state s connect_id bytes Open = told s (out.ToServer (Data connect_id [] bytes) ∷ [])
dest_bytes_by_state s connect_id bytes Lingering = ignored s

abbrev pub dest_bytes : AgentState → ℤ → List ℕ → Option Connection → AgentStep
dest_bytes s connect_id bytes None = ignored s
dest_bytes s connect_id bytes (Some c) = dest_bytes_by_state s connect_id bytes c.state

abbrev pub dest_end_by_state : AgentState → ℤ → Connection → DestState → AgentStep
dest_end_by_state s connect_id c Open = connection_ended s connect_id c []
dest_end_by_state s connect_id c Lingering = ignored s

abbrev pub dest_ended : AgentState → ℤ → Option Connection → AgentStep
dest_ended s connect_id None = ignored s
dest_ended s connect_id (Some c) = dest_end_by_state s connect_id c c.state

-- ---- a destination took bytes: one that lingers ends with the last of them
abbrev pub linger_wrote : AgentState → ℤ → ℕ → Connection → AgentStep
linger_wrote s connect_id count c = if c.unwritten == count then connection_ended s connect_id c [] else connection_turned s c (with_fewer count) []

abbrev pub dest_wrote_by_state : AgentState → ℤ → ℕ → Connection → DestState → AgentStep
dest_wrote_by_state s connect_id count c Open = connection_turned s c (with_fewer count) []
dest_wrote_by_state s connect_id count c Lingering = linger_wrote s connect_id count c

abbrev pub dest_wrote : AgentState → ℤ → ℕ → Option Connection → AgentStep
dest_wrote s connect_id count None = ignored s
dest_wrote s connect_id count (Some c) = dest_wrote_by_state s connect_id count c c.state

-- ---- a destination failed
abbrev pub dest_failed : AgentState → ℤ → Option Connection → AgentStep
dest_failed s connect_id None = ignored s
dest_failed s connect_id (Some c) = connection_ended s connect_id c (codes "destination failed")

-- ---- the link to the server is lost: all is given up, and nothing happens from then on
abbrev pub all_dropped : List Dial → List AgentOut
all_dropped [] = []
all_dropped (d ∷ ds) = out.DropDial d.ticket ∷ all_dropped ds

abbrev pub all_closed : List Connection → List AgentOut
all_closed [] = []
all_closed (c ∷ cs) = out.CloseDest (pos c.connect_id) ∷ all_closed cs

abbrev pub link_lost : AgentState → AgentStep
link_lost s = record {
  state = record s { dials = []; connections = []; lost = true };
  outs = all_dropped s.dials ++ all_closed s.connections;
}

-- ---- the agent asks for no further dials, once
abbrev pub drain_now : AgentState → AgentStep
drain_now s = if s.drained then ignored s else record { state = record s { drained = true }; outs = out.ToServer Drain ∷ [] }

-- ---- packets and events
abbrev pub packet_came : AgentState → Packet → AgentStep
packet_came s (DialReq protocol address random) = dial_requested s protocol address random
packet_came s (Data connect_id error bytes) = data_came s connect_id bytes (connection_at connect_id s.connections)
packet_came s (CloseReq connect_id) = close_requested s connect_id (connection_at connect_id s.connections)
packet_came s (DialRsp error connect_id random) = ignored s
packet_came s (CloseRsp error connect_id) = ignored s
packet_came s (DialCls random) = ignored s
packet_came s Drain = ignored s
packet_came s (Other number) = ignored s

abbrev pub linked_step : AgentState → AgentEvent → AgentStep
linked_step s (event.Packet packet) = packet_came s packet
linked_step s (event.DialUp ticket) = dial_up s (first_where (is_dial ticket) s.dials)
linked_step s (event.DialRefused ticket) = dial_refused s (first_where (is_dial ticket) s.dials)
linked_step s (event.DestBytes connect_id bytes) = dest_bytes s connect_id bytes (connection_at connect_id s.connections)
linked_step s (event.DestEnd connect_id) = dest_ended s connect_id (connection_at connect_id s.connections)
linked_step s (event.DestWrote connect_id count) = dest_wrote s connect_id count (connection_at connect_id s.connections)
linked_step s (event.DestFailed connect_id) = dest_failed s connect_id (connection_at connect_id s.connections)
linked_step s event.LinkLost = link_lost s
linked_step s event.DrainNow = drain_now s

abbrev pub step : AgentState → AgentEvent → AgentStep
step s e = if s.lost then ignored s else linked_step s e

-- no dial and no connection; the first ticket and the first connectID are 1
abbrev pub start : AgentState
start = record { dials = []; connections = []; next_ticket = 1; next_connect_id = 1; drained = false; lost = false }

-- ---- what an event needs
-- bytes that come are counted, and the count has room for them
abbrev pub HasRoom : ℕ → Option Connection → Type 0
HasRoom count None = Unit {0}
HasRoom count (Some c) = c.unwritten + count < 2 ^ 64

-- bytes that were written were to be written
abbrev pub WereUnwritten : ℕ → Option Connection → Type 0
WereUnwritten count None = Unit {0}
WereUnwritten count (Some c) = count ≤ c.unwritten

abbrev pub FitsPacket : AgentState → Packet → Type 0
FitsPacket s (Data connect_id error bytes) = HasRoom (length bytes) (connection_at connect_id s.connections)
FitsPacket s (DialReq protocol address random) = Unit {0}
FitsPacket s (DialRsp error connect_id random) = Unit {0}
FitsPacket s (CloseReq connect_id) = Unit {0}
FitsPacket s (CloseRsp error connect_id) = Unit {0}
FitsPacket s (DialCls random) = Unit {0}
FitsPacket s Drain = Unit {0}
FitsPacket s (Other number) = Unit {0}

abbrev pub Fits : AgentState → AgentEvent → Type 0
Fits s (event.Packet packet) = FitsPacket s packet
Fits s (event.DestWrote connect_id count) = WereUnwritten count (connection_at connect_id s.connections)
Fits s (event.DialUp ticket) = Unit {0}
Fits s (event.DialRefused ticket) = Unit {0}
Fits s (event.DestBytes connect_id bytes) = Unit {0}
Fits s (event.DestEnd connect_id) = Unit {0}
Fits s (event.DestFailed connect_id) = Unit {0}
Fits s event.LinkLost = Unit {0}
Fits s event.DrainNow = Unit {0}
