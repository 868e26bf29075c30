-- What a step of the server rests on: its links are those of agents, and the app of a step is the one that asks for a dial.
use Rattle.std.specs.Prelude.{◌≡◌, ℕ, ℤ, true, List, Option, None, Some}
use Rattle.kn_packet.specs.declared.packet.Packet.TheVariants.{CloseReq, CloseRsp, Data, DialCls, DialReq, DialRsp, Drain, Other}
use Rattle.kn_route.specs.LinkLists.{has_link}
use Rattle.kn_server_core.specs.declared.event.ServerEvent.{ServerEvent}
use Rattle.kn_server_core.specs.declared.event.ServerEvent.TheVariants.{FrontLost, FrontPacket, FrontUp, LinkLost, LinkPacket, LinkUp}
use Rattle.kn_world.specs.declared.parts.Agent.{Agent}
use Rattle.kn_world.specs.declared.parts.Client.{Client}
use Rattle.kn_world.specs.declared.parts.Owner.{Owner}
use Rattle.kn_world.specs.declared.parts.Owner.TheVariants as owner
use Rattle.kn_world.specs.declared.state.State.{State}
use Rattle.kn_world.specs.Clients as clients
use Rattle.kn_world.specs.Numbers.{nth, number_of}

-- the server has only links of agents
abbrev pub HasAgent : List Agent → ℕ → Type 0
HasAgent agents link = (a : Agent) × (nth link agents ≡ Some a)

abbrev pub LinksKnown : State → Type 0
LinksKnown s = (l : ℕ) → has_link l s.server.links ≡ true → HasAgent s.agents l

-- whoever asks on a front for a dial by a random: an app of the front's client, or the app whose front it is
abbrev pub AskedAt : Option Owner → ℤ → ℕ → List Client → Type 0
AskedAt None random app cs = Unit {0}
AskedAt (Some (owner.Client c)) random app cs = app ≡ clients.app_at (number_of random) (nth c cs)
AskedAt (Some (owner.App k)) random app cs = app ≡ k

abbrev pub AsksFor : ServerEvent → ℕ → State → Type 0
AsksFor (FrontPacket front (DialReq protocol address random)) app s = AskedAt (nth front s.fronts) random app s.clients
AsksFor (FrontPacket front (DialRsp error connect_id random)) app s = Unit {0}
AsksFor (FrontPacket front (Data connect_id error bytes)) app s = Unit {0}
AsksFor (FrontPacket front (CloseReq connect_id)) app s = Unit {0}
AsksFor (FrontPacket front (CloseRsp error connect_id)) app s = Unit {0}
AsksFor (FrontPacket front (DialCls random)) app s = Unit {0}
AsksFor (FrontPacket front Drain) app s = Unit {0}
AsksFor (FrontPacket front (Other number)) app s = Unit {0}
AsksFor (FrontUp front) app s = Unit {0}
AsksFor (FrontLost front) app s = Unit {0}
AsksFor (LinkUp link identifiers) app s = Unit {0}
AsksFor (LinkPacket link p) app s = Unit {0}
AsksFor (LinkLost link) app s = Unit {0}
