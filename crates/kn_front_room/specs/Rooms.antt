-- The room that a front's queue needs.
use Rattle.std.specs.Prelude.{◌≡◌, ℕ, ◌+◌, ◌*◌, ◌==◌, ◌≤◌, Bool, true, false, List, [], ◌∷◌, length, Option, Some, None, if◌then◌else◌}
use Rattle.kn_packet.specs.declared.packet.Packet.{Packet}
use Rattle.kn_packet.specs.declared.packet.Packet.TheVariants.{DialReq, DialRsp, CloseReq, CloseRsp, Data, DialCls, Drain, Other}
use Rattle.kn_grpc.specs.Readers.{Whole}
use Rattle.kn_grpc.specs.Packets.{framed, first_of}
use Rattle.kn_route.specs.declared.strategy.Strategy.{Strategy}
use Rattle.kn_tables.specs.declared.held_entry.HeldEntry.{HeldEntry}
use Rattle.kn_tables.specs.Lists.{first_where, count_where}
use Rattle.kn_tables.specs.Awaiting.{is_of_front}
use Rattle.kn_tables.specs.Holding.{is_held, is_held_by}
use Rattle.kn_server_core.specs.declared.event.ServerEvent.{ServerEvent}
use Rattle.kn_server_core.specs.declared.event.ServerEvent.TheVariants.{LinkUp, LinkPacket, LinkLost, FrontUp, FrontPacket, FrontLost}
use Rattle.kn_server_core.specs.declared.event.ServerOut.{ServerOut}
use Rattle.kn_server_core.specs.declared.event.ServerOut.TheVariants.{ToLink, ToFront, CutLink, Made}
use Rattle.kn_server_core.specs.declared.state.State.{State}
use Rattle.kn_server_core.specs.Server.{step, start, tunnels_of}

-- ---- what comes to a front

-- as many bytes as a stream carries for it
abbrev pub bytes_of : ℕ → ServerOut → ℕ
bytes_of front (ToFront other packet) = if other == front then length (framed packet) else 0
bytes_of front (ToLink link packet) = 0
bytes_of front (CutLink link) = 0
bytes_of front (Made dial link other) = 0

abbrev pub bytes_to : ℕ → List ServerOut → ℕ
bytes_to front [] = 0
bytes_to front (out ∷ outs) = bytes_of front out + bytes_to front outs

-- How many packets may come to it without its asking: of an awaited dial the answer and the end, of a tunnel the end.
abbrev pub still_to_come : ℕ → State → ℕ
still_to_come front s = 2 * count_where (is_of_front front) s.awaited + count_where (is_held_by front) s.held

-- none of these is longer
abbrev pub longest : ℕ
longest = 320

-- ---- what waits where much waits already

abbrev pub is_for : ℕ → Option HeldEntry → Bool
is_for front None = false
is_for front (Some e) = is_held_by front e

abbrev pub is_data_for : ℕ → State → ℕ → Packet → Bool
is_data_for front s link (Data connect_id error bytes) = is_for front (first_where (is_held link connect_id) s.held)
is_data_for front s link (DialReq protocol address random) = false
is_data_for front s link (DialRsp error connect_id random) = false
is_data_for front s link (CloseReq connect_id) = false
is_data_for front s link (CloseRsp error connect_id) = false
is_data_for front s link (DialCls random) = false
is_data_for front s link Drain = false
is_data_for front s link (Other number) = false

-- a packet of the front itself but data, which brings it nothing
abbrev pub asks : ℕ → ℕ → Packet → Bool
asks front other (Data connect_id error bytes) = false
asks front other (DialReq protocol address random) = other == front
asks front other (DialRsp error connect_id random) = other == front
asks front other (CloseReq connect_id) = other == front
asks front other (CloseRsp error connect_id) = other == front
asks front other (DialCls random) = other == front
asks front other Drain = other == front
asks front other (Other number) = other == front

-- such a packet, or data for the front
abbrev pub may_wait : ℕ → State → ServerEvent → Bool
may_wait front s (FrontPacket other packet) = asks front other packet
may_wait front s (LinkPacket link packet) = is_data_for front s link packet
may_wait front s (LinkUp link identifiers) = false
may_wait front s (LinkLost link) = false
may_wait front s (FrontUp other) = false
may_wait front s (FrontLost other) = false

-- it comes only where little waits for the front
abbrev pub ComesInTime : ℕ → ℕ → State → ServerEvent → Type 0
ComesInTime front waiting s event = may_wait front s event ≡ true → waiting ≤ 65536

-- data of a link comes in one message
abbrev pub IsShortPacket : Packet → Type 0
IsShortPacket (Data connect_id error bytes) = length bytes ≤ 4194304
IsShortPacket (DialReq protocol address random) = Unit {0}
IsShortPacket (DialRsp error connect_id random) = Unit {0}
IsShortPacket (CloseReq connect_id) = Unit {0}
IsShortPacket (CloseRsp error connect_id) = Unit {0}
IsShortPacket (DialCls random) = Unit {0}
IsShortPacket Drain = Unit {0}
IsShortPacket (Other number) = Unit {0}

abbrev pub IsShort : ServerEvent → Type 0
IsShort (LinkPacket link packet) = IsShortPacket packet
IsShort (FrontPacket front packet) = Unit {0}
IsShort (LinkUp link identifiers) = Unit {0}
IsShort (LinkLost link) = Unit {0}
IsShort (FrontUp front) = Unit {0}
IsShort (FrontLost front) = Unit {0}

-- ---- the law

-- a front has 600 dials and tunnels at most, and what waits for it, with all that may still come unasked, is within the limit
pub record HasRoom (front waiting : ℕ) (s : State) : Type 0 where
  pub few : tunnels_of s front ≤ 600
  pub room : waiting + longest * still_to_come front s ≤ 4644864

-- whatever comes, in time, there is room for all that is given out for the front, and for what may still come
abbrev pub RoomIsKept : Type 0
RoomIsKept = (front waiting : ℕ) (s : State) (event : ServerEvent) → IsShort event → ComesInTime front waiting s event → HasRoom front waiting s
    → HasRoom front (waiting + bytes_to front (step s event).outs) (step s event).state

-- a packet that is the first of a stream is short
abbrev pub MessagesAreShort : Type 0
MessagesAreShort = (stream rest : List ℕ) (packet : Packet) → first_of stream ≡ Whole packet rest → IsShortPacket packet

abbrev pub RoomAtFirst : Type 0
RoomAtFirst = (front : ℕ) (strategies : List Strategy) → HasRoom front 0 (start strategies)
