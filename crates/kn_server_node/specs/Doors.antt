-- A connection by CONNECT: what comes of its bytes, and of the packets for its front.
use Rattle.std.specs.Prelude.{ℕ, ℤ, ◌||◌, ◌&&◌, nat_lt, Bool, true, false, not, List, [], ◌∷◌, ◌++◌, length, drop, Some, None}
use Rattle.kn_packet.specs.declared.packet.Packet.{Packet}
use Rattle.kn_packet.specs.declared.packet.Packet.TheVariants.{DialReq, DialRsp, CloseReq, CloseRsp, Data, DialCls, Drain, Other}
use Rattle.kn_connect.specs.Replies.{reply_text}
use Rattle.kn_connect.specs.Statuses.{error_status}
use Rattle.kn_server_node.specs.declared.door.Door.{Door}
use Rattle.kn_ends.specs.Queues.{is_empty}

abbrev pub fresh_door : Door
fresh_door = record { head = []; front = None; dial = None; early = []; out = []; status = 0; shuts = false; lost = false }

-- ---- what changes at a door

-- the bytes of a head that is not whole yet
abbrev pub with_head : List ℕ → Door → Door
with_head bytes d = record d { head = bytes }

-- a refusal is replied to, after which the connection is closed
unfoldable pub refused : ℕ → Door → Door
refused status d = record d { early = []; out = d.out ++ reply_text status; status = status; shuts = true }

-- its head was whole: it is a front, and what follows the head is early
abbrev pub begun : ℕ → List ℕ → Door → Door
begun front early d = record d { front = Some front; early = early }

-- the tunnel is open
unfoldable pub opened : ℤ → Door → Door
opened id d = record d { dial = Some id; out = d.out ++ reply_text 200; status = 200 }

abbrev pub with_early : List ℕ → Door → Door
with_early bytes d = record d { early = d.early ++ bytes }

abbrev pub without_early : Door → Door
without_early d = record d { early = [] }

abbrev pub with_out : List ℕ → Door → Door
with_out bytes d = record d { out = d.out ++ bytes }

-- its front ended: what waits for the socket still goes
abbrev pub ended : Door → Door
ended d = record d { early = []; shuts = true }

abbrev pub lost : Door → Door
lost d = record d { early = []; out = []; lost = true }

abbrev pub took : ℕ → Door → Door
took count d = record d { out = drop count d.out }

-- ---- a packet for its front

abbrev pub replied : List ℕ → ℤ → Door → Door
replied [] id d = opened id d
replied (x ∷ xs) id d = refused (error_status (x ∷ xs)) d

abbrev pub given : Packet → Door → Door
given (DialRsp error id random) d = replied error id d
given (Data id error bytes) d = with_out bytes d
given (DialReq protocol address random) d = d
given (CloseReq id) d = d
given (CloseRsp error id) d = d
given (DialCls random) d = d
given Drain d = d
given (Other number) d = d

-- a front by CONNECT is lost where its dial is refused, or its tunnel is closed
abbrev pub ends_front : Packet → Bool
ends_front (DialRsp error id random) = not (is_empty error)
ends_front (CloseRsp error id) = true
ends_front (DialReq protocol address random) = false
ends_front (CloseReq id) = false
ends_front (Data id error bytes) = false
ends_front (DialCls random) = false
ends_front Drain = false
ends_front (Other number) = false

-- ---- what may be asked

abbrev pub is_over : Door → Bool
is_over d = d.lost || (d.shuts && is_empty d.out)

-- no more bytes are wanted from this many early ones on
abbrev pub has_room : Door → Bool
has_room d = not (d.lost || d.shuts) && nat_lt (length d.early) 16384
