-- What the server does with an event: a definition for each rule. A rule takes the state and the entry that it
-- concerns; the look-ups are made once, where a packet is told apart.
use Rattle.std.specs.Prelude.{ℕ, ℤ, pos, negsuc, ◌+◌, ◌==◌, nat_lt, nat_eq, Bool, true, false, not, List, [], ◌∷◌, ◌++◌, map, filter, Option, Some, None, Result, Ok, Err, is_some, if◌then◌else◌, codes}
use Rattle.std.specs.Cmp.Lexicographic.{pointwise}
use Rattle.kn_packet.specs.declared.packet.Packet.{Packet}
use Rattle.kn_packet.specs.declared.packet.Packet.TheVariants.{DialReq, DialRsp, CloseReq, CloseRsp, Data, DialCls, Drain, Other}
use Rattle.kn_route.specs.declared.id_kind.IdKind.{IdKind}
use Rattle.kn_route.specs.declared.host.HostFault.{HostFault}
use Rattle.kn_route.specs.declared.strategy.Strategy.{Strategy}
use Rattle.kn_route.specs.Hosts.{host_in}
use Rattle.kn_route.specs.Choice.{pick}
use Rattle.kn_route.specs.LinkLists.{no_links, with_link, with_drained, without_link, has_link}
use Rattle.kn_tables.specs.declared.awaited_entry.AwaitedEntry.{AwaitedEntry}
use Rattle.kn_tables.specs.declared.held_entry.HeldEntry.{HeldEntry}
use Rattle.kn_tables.specs.declared.held_entry.HeldState.{HeldState}
use Rattle.kn_tables.specs.declared.held_entry.HeldState.TheVariants.{Open, Closing}
use Rattle.kn_tables.specs.Lists.{first_where, count_where, without, in_place}
use Rattle.kn_tables.specs.Awaiting.{is_dial, is_random, is_of_front, is_of_link}
use Rattle.kn_tables.specs.Holding.{is_held_dial, is_held, is_held_on, is_held_by, has_front, closed_at, closed_entry, by_connect_id}
use Rattle.kn_server_core.specs.declared.event.ServerEvent.{ServerEvent}
use Rattle.kn_server_core.specs.declared.event.ServerEvent.TheVariants.{LinkUp, LinkPacket, LinkLost, FrontUp, FrontPacket, FrontLost}
use Rattle.kn_server_core.specs.declared.event.ServerOut.{ServerOut}
use Rattle.kn_server_core.specs.declared.event.ServerOut.TheVariants.{ToLink, CutLink, Made}
use Rattle.kn_server_core.specs.declared.state.State.{State}
use Rattle.kn_server_core.specs.FrontLists.{no_fronts, with_front, without_front, is_up}
use Rattle.kn_server_core.specs.Packets.{refusal, opened, ended, close_refused, close_asked, in_packets, data_to_front, data_to_link}
use Rattle.kn_server_core.specs.Steps.{Step}
use Rattle.kn_server_core.specs.Texts.{error_cut}

-- nothing changes
abbrev pub ignored : State → Step
ignored s = record { state = s; outs = [] }

-- only outputs
abbrev pub told : State → List ServerOut → Step
told s outs = record { state = s; outs = outs }

-- ---- an agent's link or a client's front comes up
abbrev pub link_added : State → ℕ → List (IdKind × List ℕ) → Step
link_added s link identifiers = record { state = record s { links = with_link s.links link identifiers }; outs = [] }

abbrev pub front_added : State → ℕ → Step
front_added s front = record { state = record s { fronts = with_front s.fronts front }; outs = [] }

-- ---- a front asks for a dial
-- how many dials of a front are awaited or held
abbrev pub tunnels_of : State → ℕ → ℕ
tunnels_of s front = count_where (is_of_front front) s.awaited + count_where (is_held_by front) s.held

-- the dial draws its number, is awaited, and goes to the link that was picked
abbrev pub dial_sent : State → ℕ → List ℕ → List ℕ → ℤ → ℕ → Step
dial_sent s front protocol address random link =
    let entry : AwaitedEntry = record { dial = s.next_dial; front = front; link = link; random = random } in
    record {
      state = record s { awaited = in_place (λ x. x.dial) entry s.awaited; next_dial = s.next_dial + 1 };
      outs = Made s.next_dial link front ∷ ToLink link (DialReq protocol address (pos s.next_dial)) ∷ [];
    }

-- the link that a dial goes to, or the text of the first cause that refuses it
abbrev pub number_choice : State → Option (Strategy × ℕ) → Result ℕ (List ℕ)
number_choice s None = Err (codes "no agent available")
number_choice s (Some choice) = if s.next_dial == 9223372036854775807 then Err (codes "dial numbers used up") else Ok choice.1

abbrev pub host_choice : State → ℕ → Result (List ℕ) HostFault → Result ℕ (List ℕ)
host_choice s front (Err fault) = Err (codes "bad address")
host_choice s front (Ok host) =
    if nat_lt (tunnels_of s front) 600 then number_choice s (pick s.strategies s.links.links host s.next_dial)
    else Err (codes "too many tunnels")

abbrev pub is_tcp : List ℕ → Bool
is_tcp protocol = pointwise nat_eq protocol (codes "tcp")

abbrev pub dial_choice : State → ℕ → List ℕ → List ℕ → ℤ → Result ℕ (List ℕ)
dial_choice s front protocol address random =
    if is_some (first_where (is_random front random) s.awaited) then Err (codes "dial already awaited")
    else (if is_tcp protocol then host_choice s front (host_in address) else Err (codes "unsupported protocol"))

abbrev pub dial_chosen : State → ℕ → List ℕ → List ℕ → ℤ → Result ℕ (List ℕ) → Step
dial_chosen s front protocol address random (Ok link) = dial_sent s front protocol address random link
dial_chosen s front protocol address random (Err text) = told s (refusal front random text ∷ [])

abbrev pub dial_asked : State → ℕ → List ℕ → List ℕ → ℤ → Step
dial_asked s front protocol address random = dial_chosen s front protocol address random (dial_choice s front protocol address random)

-- ---- an agent replies to a dial
-- a reply that nobody awaits: its connection is to be closed
abbrev pub late_reply : State → ℕ → ℤ → Step
late_reply s link connect_id = told s (close_asked link connect_id ∷ [])

-- an awaited reply: the dial becomes an open tunnel
abbrev pub tunnel_opened : State → ℕ → ℤ → AwaitedEntry → Step
tunnel_opened s link connect_id e =
    let entry : HeldEntry = record { dial = e.dial; link = link; connect_id = connect_id; front = Some e.front; state = Open } in
    record {
      state = record s { awaited = without (is_dial e.dial) s.awaited; held = in_place (λ x. x.dial) entry s.held };
      outs = opened e.front e.dial e.random ∷ [];
    }

-- an awaited reply with an error
abbrev pub dial_failed : State → List ℕ → AwaitedEntry → Step
dial_failed s error e = record {
  state = record s { awaited = without (is_dial e.dial) s.awaited };
  outs = refusal e.front e.random (error_cut error) ∷ [];
}

-- the awaited dial that a reply's random names, if it is of this link
abbrev pub of_link : ℕ → Option AwaitedEntry → Option AwaitedEntry
of_link link None = None
of_link link (Some e) = if e.link == link then Some e else None

abbrev pub dial_at : ℤ → List AwaitedEntry → Option AwaitedEntry
dial_at (pos d) table = first_where (is_dial d) table
dial_at (negsuc d) table = None

abbrev pub awaited_reply : State → ℕ → ℤ → Option AwaitedEntry → Step
awaited_reply s link connect_id None = late_reply s link connect_id
awaited_reply s link connect_id (Some e) = tunnel_opened s link connect_id e

abbrev pub refused_reply : State → List ℕ → Option AwaitedEntry → Step
refused_reply s error None = ignored s
refused_reply s error (Some e) = dial_failed s error e

-- ---- data of an agent
abbrev pub open_down : State → List ℕ → HeldState → Option ℕ → ℕ → Step
open_down s bytes Open (Some front) dial = told s (data_to_front front dial (in_packets bytes))
open_down s bytes Open None dial = ignored s
open_down s bytes Closing front dial = ignored s

abbrev pub data_down : State → List ℕ → Option HeldEntry → Step
data_down s bytes None = ignored s
data_down s bytes (Some e) = open_down s bytes e.state e.front e.dial

-- ---- an agent ends a tunnel
abbrev pub ended_to : Option ℕ → ℕ → List ℕ → List ServerOut
ended_to None dial error = []
ended_to (Some front) dial error = ended front dial error ∷ []

abbrev pub tunnel_ended : State → ℕ → ℤ → List ℕ → Option HeldEntry → Step
tunnel_ended s link connect_id error None = ignored s
tunnel_ended s link connect_id error (Some e) = record {
  state = record s { held = without (is_held link connect_id) s.held };
  outs = ended_to e.front e.dial (error_cut error);
}

-- ---- a link drains
abbrev pub link_drains : State → ℕ → Step
link_drains s link = record { state = record s { links = with_drained s.links link }; outs = [] }

-- ---- a link is lost
abbrev pub awaited_lost : AwaitedEntry → ServerOut
awaited_lost e = refusal e.front e.random (codes "agent lost")

abbrev pub all_awaited_lost : List AwaitedEntry → List ServerOut
all_awaited_lost [] = []
all_awaited_lost (e ∷ es) = awaited_lost e ∷ all_awaited_lost es

abbrev pub held_lost : HeldEntry → List ServerOut
held_lost e = ended_to e.front e.dial (codes "agent lost")

abbrev pub all_held_lost : List HeldEntry → List ServerOut
all_held_lost [] = []
all_held_lost (e ∷ es) = held_lost e ++ all_held_lost es

-- its awaited dials by rising number, and then its tunnels by rising connectID
abbrev pub link_lost : State → ℕ → Step
link_lost s link = record {
  state = record s {
    awaited = filter (λ e. not (is_of_link link e)) s.awaited;
    held = filter (λ e. not (is_held_on link e)) s.held;
    links = without_link s.links link;
  };
  outs = all_awaited_lost (filter (is_of_link link) s.awaited) ++ all_held_lost (by_connect_id (filter (is_held_on link) s.held));
}

-- a second reply with a connectID that is held: the agent breaks the rules, and its link is cut
abbrev pub second_reply_cuts : State → ℕ → Step
second_reply_cuts s link = record { state = (link_lost s link).state; outs = CutLink link ∷ (link_lost s link).outs }

abbrev pub reply_by_entry : State → ℕ → ℤ → ℤ → Option HeldEntry → Step
reply_by_entry s link connect_id random None = awaited_reply s link connect_id (of_link link (dial_at random s.awaited))
reply_by_entry s link connect_id random (Some e) = second_reply_cuts s link

abbrev pub reply : State → ℕ → List ℕ → ℤ → ℤ → Step
reply s link [] connect_id random = reply_by_entry s link connect_id random (first_where (is_held link connect_id) s.held)
reply s link (x ∷ xs) connect_id random = refused_reply s (x ∷ xs) (of_link link (dial_at random s.awaited))

-- ---- a front is lost
abbrev pub front_left : ℕ → HeldEntry → HeldEntry
front_left front e = if is_held_by front e then closed_entry false e else e

-- an entry that is closing was asked to close before
abbrev pub asked_at_loss : HeldState → HeldEntry → List ServerOut
asked_at_loss Open e = close_asked e.link e.connect_id ∷ []
asked_at_loss Closing e = []

abbrev pub all_asked : List HeldEntry → List ServerOut
all_asked [] = []
all_asked (e ∷ es) = asked_at_loss e.state e ++ all_asked es

abbrev pub front_lost : State → ℕ → Step
front_lost s front = record {
  state = record s {
    awaited = filter (λ e. not (is_of_front front e)) s.awaited;
    held = map (front_left front) s.held;
    fronts = without_front s.fronts front;
  };
  outs = all_asked (filter (is_held_by front) s.held);
}

-- ---- what a front sends for a tunnel
-- the tunnel whose dial a front's packet names, if it is this front's own
abbrev pub own : ℕ → Option HeldEntry → Option HeldEntry
own front None = None
own front (Some e) = if has_front e.front front then Some e else None

abbrev pub held_at : ℤ → List HeldEntry → Option HeldEntry
held_at (pos d) table = first_where (is_held_dial d) table
held_at (negsuc d) table = None

abbrev pub open_up : State → List ℕ → HeldState → HeldEntry → Step
open_up s bytes Open e = told s (data_to_link e.link e.connect_id (in_packets bytes))
open_up s bytes Closing e = ignored s

abbrev pub data_up : State → List ℕ → Option HeldEntry → Step
data_up s bytes None = ignored s
data_up s bytes (Some e) = open_up s bytes e.state e

abbrev pub close_own : State → HeldState → HeldEntry → Step
close_own s Open e = record { state = record s { held = map (closed_at e.link e.connect_id true) s.held }; outs = close_asked e.link e.connect_id ∷ [] }
close_own s Closing e = ignored s

abbrev pub unknown_close : State → ℕ → ℤ → Step
unknown_close s front connect_id = told s (close_refused front connect_id (codes "unknown connection") ∷ [])

abbrev pub close_from_front : State → ℕ → ℤ → Option HeldEntry → Step
close_from_front s front connect_id None = unknown_close s front connect_id
close_from_front s front connect_id (Some e) = close_own s e.state e

abbrev pub dial_cancelled : State → Option AwaitedEntry → Step
dial_cancelled s None = ignored s
dial_cancelled s (Some e) = record { state = record s { awaited = without (is_dial e.dial) s.awaited }; outs = [] }

-- ---- packets and events
abbrev pub from_link : State → ℕ → Packet → Step
from_link s link (DialRsp error connect_id random) = reply s link error connect_id random
from_link s link (Data connect_id error bytes) = data_down s bytes (first_where (is_held link connect_id) s.held)
from_link s link (CloseRsp error connect_id) = tunnel_ended s link connect_id error (first_where (is_held link connect_id) s.held)
from_link s link Drain = link_drains s link
from_link s link (DialReq protocol address random) = ignored s
from_link s link (CloseReq connect_id) = ignored s
from_link s link (DialCls random) = ignored s
from_link s link (Other number) = ignored s

abbrev pub from_front : State → ℕ → Packet → Step
from_front s front (DialReq protocol address random) = dial_asked s front protocol address random
from_front s front (Data connect_id error bytes) = data_up s bytes (own front (held_at connect_id s.held))
from_front s front (CloseReq connect_id) = close_from_front s front connect_id (own front (held_at connect_id s.held))
from_front s front (DialCls random) = dial_cancelled s (first_where (is_random front random) s.awaited)
from_front s front (DialRsp error connect_id random) = ignored s
from_front s front (CloseRsp error connect_id) = ignored s
from_front s front Drain = ignored s
from_front s front (Other number) = ignored s

-- an event of a link or a front that the server does not have changes nothing
abbrev pub link_packet : State → ℕ → Packet → Step
link_packet s link packet = if has_link link s.links then from_link s link packet else ignored s

abbrev pub link_gone : State → ℕ → Step
link_gone s link = if has_link link s.links then link_lost s link else ignored s

abbrev pub front_packet : State → ℕ → Packet → Step
front_packet s front packet = if is_up front s.fronts then from_front s front packet else ignored s

abbrev pub front_gone : State → ℕ → Step
front_gone s front = if is_up front s.fronts then front_lost s front else ignored s

abbrev pub step : State → ServerEvent → Step
step s (LinkUp link identifiers) = link_added s link identifiers
step s (LinkPacket link packet) = link_packet s link packet
step s (LinkLost link) = link_gone s link
step s (FrontUp front) = front_added s front
step s (FrontPacket front packet) = front_packet s front packet
step s (FrontLost front) = front_gone s front

-- no link, no front and no dial; the first dial draws the number 1
abbrev pub start : List Strategy → State
start strategies = record { strategies = strategies; links = no_links; fronts = no_fronts; awaited = []; held = []; next_dial = 1 }
