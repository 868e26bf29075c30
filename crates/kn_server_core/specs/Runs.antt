-- What comes over lists of events: what one end of a tunnel sends is what is queued to the other.
use Rattle.std.specs.Prelude.{◌≡◌, ℕ, ℤ, pos, negsuc, ◌==◌, Bool, false, ◌&&◌, ◌||◌, List, [], ◌∷◌, ◌++◌, Some, if◌then◌else◌}
use Rattle.std.specs.List.{list_any}
use Rattle.std.specs.Ordering.{int_eq}
use Rattle.kn_packet.specs.declared.packet.Packet.{Packet}
use Rattle.kn_packet.specs.declared.packet.Packet.TheVariants.{DialReq, DialRsp, CloseReq, CloseRsp, Data, DialCls, Drain, Other}
use Rattle.kn_server_core.specs.declared.event.ServerEvent.{ServerEvent}
use Rattle.kn_server_core.specs.declared.event.ServerEvent.TheVariants.{LinkUp, LinkPacket, LinkLost, FrontUp, FrontPacket, FrontLost}
use Rattle.kn_server_core.specs.declared.event.ServerOut.{ServerOut}
use Rattle.kn_server_core.specs.declared.event.ServerOut.TheVariants.{ToLink, ToFront, CutLink, Made}
use Rattle.kn_server_core.specs.declared.state.State.{State}
use Rattle.kn_server_core.specs.Packets.{opened}
use Rattle.kn_tables.specs.declared.held_entry.HeldEntry.{HeldEntry}
use Rattle.kn_server_core.specs.Server.{step}
use Rattle.kn_server_core.specs.Isolation.{Each, IsOfLink, IsOfFront}

-- an event, and what the server gave out at it
pub record Turn : Type 0 where
  pub event : ServerEvent
  pub outs : List ServerOut

abbrev pub turn_at : State → ServerEvent → Turn
turn_at s event = record { event = event; outs = (step s event).outs }

-- the turns of a list of events, and the state after them
abbrev pub history : State → List ServerEvent → List Turn
history s [] = []
history s (event ∷ events) = turn_at s event ∷ history (step s event).state events

abbrev pub after : State → List ServerEvent → State
after s [] = s
after s (event ∷ events) = after (step s event).state events

-- ---- a tunnel
-- a dial, the link that it went to, the connectID that the agent gave it, and the front that asked for it
pub record Tunnel : Type 0 where
  pub dial : ℕ
  pub link : ℕ
  pub connect_id : ℤ
  pub front : ℕ

-- a tunnel opens: its link replies to the dial, and its front is told
pub record Opens (t : Tunnel) (turn : Turn) : Type 0 where
  pub random : ℤ
  pub reply : turn.event ≡ LinkPacket t.link (DialRsp [] t.connect_id (pos t.dial))
  pub told : turn.outs ≡ opened t.front t.dial random ∷ []

-- a connectID of a front's packet is this dial's
abbrev pub is_of_dial : ℤ → ℕ → Bool
is_of_dial (pos number) dial = dial == number
is_of_dial (negsuc number) dial = false

-- ---- closes and losses
abbrev pub is_cut : ℕ → ServerOut → Bool
is_cut link (CutLink other) = link == other
is_cut link (ToLink other packet) = false
is_cut link (ToFront front packet) = false
is_cut link (Made dial other front) = false

abbrev pub is_end : Tunnel → ℕ → Packet → Bool
is_end t link (CloseRsp error connect_id) = t.link == link && int_eq t.connect_id connect_id
is_end t link (DialReq protocol address random) = false
is_end t link (DialRsp error connect_id random) = false
is_end t link (CloseReq connect_id) = false
is_end t link (Data connect_id error bytes) = false
is_end t link (DialCls random) = false
is_end t link Drain = false
is_end t link (Other number) = false

abbrev pub is_close : Tunnel → ℕ → Packet → Bool
is_close t front (CloseReq connect_id) = t.front == front && is_of_dial connect_id t.dial
is_close t front (DialReq protocol address random) = false
is_close t front (DialRsp error connect_id random) = false
is_close t front (CloseRsp error connect_id) = false
is_close t front (Data connect_id error bytes) = false
is_close t front (DialCls random) = false
is_close t front Drain = false
is_close t front (Other number) = false

-- its link ends it, or is lost, or is cut
abbrev pub ended_by : Tunnel → ServerEvent → Bool
ended_by t (LinkPacket link packet) = is_end t link packet
ended_by t (LinkLost link) = t.link == link
ended_by t (LinkUp link identifiers) = false
ended_by t (FrontUp front) = false
ended_by t (FrontPacket front packet) = false
ended_by t (FrontLost front) = false

abbrev pub is_gone : Tunnel → Turn → Bool
is_gone t turn = ended_by t turn.event || list_any (is_cut t.link) turn.outs

-- its front closes it, or is lost
abbrev pub closed_by : Tunnel → ServerEvent → Bool
closed_by t (FrontPacket front packet) = is_close t front packet
closed_by t (FrontLost front) = t.front == front
closed_by t (LinkUp link identifiers) = false
closed_by t (LinkPacket link packet) = false
closed_by t (LinkLost link) = false
closed_by t (FrontUp front) = false

-- the turns before the one at which its agent's side is gone
abbrev pub until_gone : Tunnel → List Turn → List Turn
until_gone t [] = []
until_gone t (turn ∷ turns) = if is_gone t turn then [] else turn ∷ until_gone t turns

-- the turns before its first close or loss
abbrev pub until_end : Tunnel → List Turn → List Turn
until_end t [] = []
until_end t (turn ∷ turns) = if is_gone t turn || closed_by t turn.event then [] else turn ∷ until_end t turns

-- ---- bytes that come, and bytes that are queued
-- the bytes of a packet between the server and a link, if they are of the tunnel's connection
abbrev pub connection_bytes : Tunnel → ℕ → Packet → List ℕ
connection_bytes t link (Data connect_id error bytes) = if t.link == link && int_eq t.connect_id connect_id then bytes else []
connection_bytes t link (DialReq protocol address random) = []
connection_bytes t link (DialRsp error connect_id random) = []
connection_bytes t link (CloseReq connect_id) = []
connection_bytes t link (CloseRsp error connect_id) = []
connection_bytes t link (DialCls random) = []
connection_bytes t link Drain = []
connection_bytes t link (Other number) = []

-- the bytes of a packet between the server and a front, if they are of the tunnel's dial
abbrev pub dial_bytes : Tunnel → ℕ → Packet → List ℕ
dial_bytes t front (Data connect_id error bytes) = if t.front == front && is_of_dial connect_id t.dial then bytes else []
dial_bytes t front (DialReq protocol address random) = []
dial_bytes t front (DialRsp error connect_id random) = []
dial_bytes t front (CloseReq connect_id) = []
dial_bytes t front (CloseRsp error connect_id) = []
dial_bytes t front (DialCls random) = []
dial_bytes t front Drain = []
dial_bytes t front (Other number) = []

abbrev pub sent_by_link : Tunnel → ServerEvent → List ℕ
sent_by_link t (LinkPacket link packet) = connection_bytes t link packet
sent_by_link t (LinkUp link identifiers) = []
sent_by_link t (LinkLost link) = []
sent_by_link t (FrontUp front) = []
sent_by_link t (FrontPacket front packet) = []
sent_by_link t (FrontLost front) = []

abbrev pub sent_by_front : Tunnel → ServerEvent → List ℕ
sent_by_front t (FrontPacket front packet) = dial_bytes t front packet
sent_by_front t (LinkUp link identifiers) = []
sent_by_front t (LinkPacket link packet) = []
sent_by_front t (LinkLost link) = []
sent_by_front t (FrontUp front) = []
sent_by_front t (FrontLost front) = []

abbrev pub queued_to_front : Tunnel → ServerOut → List ℕ
queued_to_front t (ToFront front packet) = dial_bytes t front packet
queued_to_front t (ToLink link packet) = []
queued_to_front t (CutLink link) = []
queued_to_front t (Made dial link front) = []

abbrev pub queued_to_link : Tunnel → ServerOut → List ℕ
queued_to_link t (ToLink link packet) = connection_bytes t link packet
queued_to_link t (ToFront front packet) = []
queued_to_link t (CutLink link) = []
queued_to_link t (Made dial link front) = []

-- the join of what each element has
abbrev pub joined : {E : Type 0} → (E → List ℕ) → List E → List ℕ
joined f [] = []
joined f (x ∷ xs) = f x ++ joined f xs

-- Data of the tunnel, over turns: queued to its front, queued to its link, sent by its link, sent by its front
abbrev pub queued_down : Tunnel → List Turn → List ℕ
queued_down t turns = joined (λ turn. joined (queued_to_front t) turn.outs) turns

abbrev pub queued_up : Tunnel → List Turn → List ℕ
queued_up t turns = joined (λ turn. joined (queued_to_link t) turn.outs) turns

abbrev pub sent_down : Tunnel → List Turn → List ℕ
sent_down t turns = joined (λ turn. sent_by_link t turn.event) turns

abbrev pub sent_up : Tunnel → List Turn → List ℕ
sent_up t turns = joined (λ turn. sent_by_front t turn.event) turns

-- ---- the laws
-- from the turn at which the tunnel opened: its front is queued what its link sent before the first close or loss, and
-- its link, as long as it has the connection, what its front sent before the first close or loss
pub record CarriesBoth (t : Tunnel) (turns : List Turn) : Type 0 where
  pub down : queued_down t turns ≡ sent_down t (until_end t turns)
  pub up : queued_up t (until_gone t turns) ≡ sent_up t (until_end t turns)

-- no turn opens a tunnel of this dial
abbrev pub NoneOpens : ℕ → List Turn → Type 0
NoneOpens dial turns = Each (λ turn. (t : Tunnel) → t.dial ≡ dial → Opens t turn → ⊥) turns

-- an event is neither of the entry's link nor of its front
pub record IsOfOthers (e : HeldEntry) (event : ServerEvent) : Type 0 where
  pub link : IsOfLink e.link event → ⊥
  pub front : (front : ℕ) → e.front ≡ Some front → IsOfFront front event → ⊥
