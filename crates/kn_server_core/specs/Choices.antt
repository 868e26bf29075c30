-- The choice of a link that an event of the server comes to: for which host and dial, among which links, and what is picked.
use Rattle.std.specs.Prelude.{ℕ, ℤ, nat_lt, List, map, Option, Some, None, Result, Ok, Err, is_some, if◌then◌else◌}
use Rattle.kn_packet.specs.declared.packet.Packet.{Packet}
use Rattle.kn_packet.specs.declared.packet.Packet.TheVariants.{DialReq, DialRsp, CloseReq, CloseRsp, Data, DialCls, Drain, Other}
use Rattle.kn_route.specs.declared.host.HostFault.{HostFault}
use Rattle.kn_route.specs.declared.strategy.Strategy.{Strategy}
use Rattle.kn_route.specs.Choice.{pick}
use Rattle.kn_route.specs.Hosts.{host_in}
use Rattle.kn_route.specs.LinkLists.{mark_of}
use Rattle.kn_tables.specs.Lists.{first_where}
use Rattle.kn_tables.specs.Awaiting.{is_random}
use Rattle.kn_server_core.specs.declared.choice.Choice.{Choice}
use Rattle.kn_server_core.specs.declared.event.ServerEvent.{ServerEvent}
use Rattle.kn_server_core.specs.declared.event.ServerEvent.TheVariants.{LinkUp, LinkPacket, LinkLost, FrontUp, FrontPacket, FrontLost}
use Rattle.kn_server_core.specs.declared.state.State.{State}
use Rattle.kn_server_core.specs.FrontLists.{is_up}
use Rattle.kn_server_core.specs.Server.{tunnels_of, is_tcp}

-- the link of what was picked
abbrev pub link_of : Option (Strategy × ℕ) → Option ℕ
link_of None = None
link_of (Some picked) = Some picked.1

-- the choice for a host: the dial has the next number, and the links are those that are up, each with whether it drains
abbrev pub choice_of : State → List ℕ → Choice
choice_of s host = record {
  host = host;
  dial = s.next_dial;
  links = map mark_of s.links.links;
  answer = link_of (pick s.strategies s.links.links host s.next_dial);
}

-- a request comes to the choice where the server refuses it for no other cause: its front awaits no dial of the same random, it is by TCP, its address
-- has a host, and the front has fewer than 600 tunnels
abbrev pub choice_within : State → ℕ → List ℕ → Option Choice
choice_within s front host = if nat_lt (tunnels_of s front) 600 then Some (choice_of s host) else None

abbrev pub choice_by_host : State → ℕ → Result (List ℕ) HostFault → Option Choice
choice_by_host s front (Err fault) = None
choice_by_host s front (Ok host) = choice_within s front host

abbrev pub choice_asked : State → ℕ → List ℕ → List ℕ → ℤ → Option Choice
choice_asked s front protocol address random =
    if is_some (first_where (is_random front random) s.awaited) then None
    else (if is_tcp protocol then choice_by_host s front (host_in address) else None)

-- no other packet comes to a choice
abbrev pub choice_in : State → ℕ → Packet → Option Choice
choice_in s front (DialReq protocol address random) = choice_asked s front protocol address random
choice_in s front (DialRsp error connect_id random) = None
choice_in s front (CloseReq connect_id) = None
choice_in s front (CloseRsp error connect_id) = None
choice_in s front (Data connect_id error bytes) = None
choice_in s front (DialCls random) = None
choice_in s front Drain = None
choice_in s front (Other number) = None

abbrev pub choice_at_front : State → ℕ → Packet → Option Choice
choice_at_front s front packet = if is_up front s.fronts then choice_in s front packet else None

-- nor does another event
abbrev pub choice_at : State → ServerEvent → Option Choice
choice_at s (FrontPacket front packet) = choice_at_front s front packet
choice_at s (LinkUp link identifiers) = None
choice_at s (LinkPacket link packet) = None
choice_at s (LinkLost link) = None
choice_at s (FrontUp front) = None
choice_at s (FrontLost front) = None
