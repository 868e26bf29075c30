-- A choice has the links of the server, which are those of the agents that are up.
use Rattle.std.proofs.Common.{◌≡◌, ◌==◌, ◌||◌, ℕ, Bool, true, false, cond, List, [], ◌∷◌, map, Option, None, Some, Result, Ok, Err, refl, sym, ap, ◌∙◌, is_some}
use Rattle.std.specs.List.{list_any}
use Rattle.std.specs.Prelude.{nat_lt}
use Rattle.kn_packet.specs.declared.packet.Packet.{Packet}
use Rattle.kn_packet.specs.declared.packet.Packet.TheVariants.{CloseReq, CloseRsp, Data, DialCls, DialReq, DialRsp, Drain, Other}
use Rattle.kn_route.specs.Hosts.{host_in}
use Rattle.kn_route.specs.LinkLists.{is_link, mark_of}
use Rattle.kn_route.specs.declared.host.HostFault.{HostFault}
use Rattle.kn_route.specs.declared.link.Link.{Link}
use Rattle.kn_tables.specs.Awaiting.{is_random}
use Rattle.kn_tables.specs.Lists.{first_where}
use Rattle.kn_server_core.specs.Choices.{choice_at, choice_by_host, choice_in, choice_of}
use Rattle.kn_server_core.specs.FrontLists.{is_up}
use Rattle.kn_server_core.specs.Server.{is_tcp, tunnels_of}
use Rattle.kn_server_core.specs.declared.choice.Choice.{Choice}
use Rattle.kn_server_core.specs.declared.event.ServerEvent.{ServerEvent}
use Rattle.kn_server_core.specs.declared.event.ServerEvent.TheVariants.{FrontLost, FrontPacket, FrontUp, LinkLost, LinkPacket, LinkUp}
use Rattle.kn_server_core.specs.declared.state.State.{State as ServerState}
use Rattle.kn_packets.specs.Keys.{Keys}
use Rattle.kn_tunnel.specs.Kinds.{is_present}
use Rattle.kn_world.specs.declared.parts.Agent.{Agent}
use Rattle.kn_world.specs.declared.state.State.{State}
use Rattle.kn_world.specs.Numbers.{nth}
use Rattle.kn_refinement.specs.Named.{ChoicesNameAllUp, is_up_link}
use Rattle.kn_refinement.specs.Shown.{link_of, shown}
use Rattle.kn_refinement.proofs.Pairs.{some_is}

-- ---- whatever state the server is in
module _ (s : ServerState) (c : Choice) where
  abbrev HasAll : Type 0
  HasAll = c.links ≡ map mark_of s.links.links

  in_one_more : (host : List ℕ) (fewer : Bool) → cond fewer (Some (choice_of s host)) None ≡ Some c → HasAll
  in_one_more host true e = sym (ap (λ (x : Choice). x.links) (some_is e))
  in_one_more host false e = absurd (cc e)

  by_host : (front : ℕ) (r : Result (List ℕ) HostFault) → choice_by_host s front r ≡ Some c → HasAll
  by_host front (Err fault) e = absurd (cc e)
  by_host front (Ok host) e = in_one_more host (nat_lt (tunnels_of s front) 600) e

  by_protocol : (front : ℕ) (address : List ℕ) (tcp : Bool) → cond tcp (choice_by_host s front (host_in address)) None ≡ Some c → HasAll
  by_protocol front address true e = by_host front (host_in address) e
  by_protocol front address false e = absurd (cc e)

  by_random : (front : ℕ) (protocol address : List ℕ) (again : Bool) → cond again None (cond (is_tcp protocol) (choice_by_host s front (host_in address)) None) ≡ Some c → HasAll
  by_random front protocol address true e = absurd (cc e)
  by_random front protocol address false e = by_protocol front address (is_tcp protocol) e

  by_packet : (front : ℕ) (p : Packet) → choice_in s front p ≡ Some c → HasAll
  by_packet front (DialReq protocol address random) e = by_random front protocol address (is_some (first_where (is_random front random) s.awaited)) e
  by_packet front (DialRsp error connect_id random) e = absurd (cc e)
  by_packet front (CloseReq connect_id) e = absurd (cc e)
  by_packet front (CloseRsp error connect_id) e = absurd (cc e)
  by_packet front (Data connect_id error bytes) e = absurd (cc e)
  by_packet front (DialCls random) e = absurd (cc e)
  by_packet front Drain e = absurd (cc e)
  by_packet front (Other number) e = absurd (cc e)

  by_front : (front : ℕ) (p : Packet) (up : Bool) → cond up (choice_in s front p) None ≡ Some c → HasAll
  by_front front p true e = by_packet front p e
  by_front front p false e = absurd (cc e)

  pub has_all : (event : ServerEvent) → choice_at s event ≡ Some c → HasAll
  has_all (FrontPacket front packet) e = by_front front packet (is_up front s.fronts) e
  has_all (LinkUp link identifiers) e = absurd (cc e)
  has_all (LinkPacket link packet) e = absurd (cc e)
  has_all (LinkLost link) e = absurd (cc e)
  has_all (FrontUp front) e = absurd (cc e)
  has_all (FrontLost front) e = absurd (cc e)

-- ---- by their marks
any_marked : (link : ℕ) (ls : List Link) → list_any (λ (mark : ℕ × Bool). mark.0 == link) (map mark_of ls) ≡ list_any (is_link link) ls
any_marked link [] = refl
any_marked link (l ∷ ls) = ap (λ b. (l.number == link) || b) (any_marked link ls)

present_is : (o : Option Agent) → is_present (link_of o).server ≡ is_up_link o
present_is None = refl
present_is (Some a) = by a.at_server refl
  where
    by : (b : Bool) → a.at_server ≡ b → is_present (link_of (Some a)).server ≡ a.at_server
    by true e = rw e refl
    by false e = rw e refl

pub name_all_up : (s : State) → Keys (shown s) → ChoicesNameAllUp s
name_all_up s keys event c e = record {
  marks = has_all s.server c event e;
  up = λ link. ap (λ ls. list_any (λ (mark : ℕ × Bool). mark.0 == link) ls) (has_all s.server c event e) ∙ any_marked link s.server.links.links ∙ keys.server.links_up link ∙ present_is (nth link s.agents);
}
