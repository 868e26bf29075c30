-- Steps of the server that ask for no dial and bring no front lead by moves.
use Rattle.std.proofs.Common.{ℕ, subst}
use Rattle.kn_packet.specs.declared.packet.Packet.TheVariants.{CloseReq, CloseRsp, Data, DialCls, DialReq, DialRsp, Drain, Other}
use Rattle.kn_server_core.specs.declared.event.ServerEvent.{ServerEvent}
use Rattle.kn_server_core.specs.declared.event.ServerEvent.TheVariants.{FrontLost, FrontPacket, FrontUp, LinkLost, LinkPacket, LinkUp}
use Rattle.kn_world.specs.declared.state.State.{State}
use Rattle.kn_refinement.specs.Asking.{AsksFor}
use Rattle.kn_refinement.proofs.ConnectParts.{IsPlain, ServerLeads}
use Rattle.kn_refinement.proofs.ServerReached.{server_leads_from}
use Rattle.kn_refinement.proofs.ServerRules.{ComesUp}

plain_asks : (event : ServerEvent) (app : ℕ) (s : State) → IsPlain event → AsksFor event app s
plain_asks (FrontPacket front (DialReq protocol address random)) app s h = absurd h
plain_asks (FrontPacket front (DialRsp error connect_id random)) app s h = tt
plain_asks (FrontPacket front (Data connect_id error bytes)) app s h = tt
plain_asks (FrontPacket front (CloseReq connect_id)) app s h = tt
plain_asks (FrontPacket front (CloseRsp error connect_id)) app s h = tt
plain_asks (FrontPacket front (DialCls random)) app s h = tt
plain_asks (FrontPacket front Drain) app s h = tt
plain_asks (FrontPacket front (Other number)) app s h = tt
plain_asks (FrontUp front) app s h = absurd h
plain_asks (FrontLost front) app s h = tt
plain_asks (LinkUp link identifiers) app s h = tt
plain_asks (LinkPacket link p) app s h = tt
plain_asks (LinkLost link) app s h = tt

plain_up : (event : ServerEvent) (f : ℕ) → IsPlain event → ComesUp f event → ⊥
plain_up (FrontPacket front p) f h c = c
plain_up (FrontUp front) f h c = h
plain_up (FrontLost front) f h c = c
plain_up (LinkUp link identifiers) f h c = c
plain_up (LinkPacket link p) f h c = c
plain_up (LinkLost link) f h c = c

pub plain_serves : ServerLeads
plain_serves old s m app event fits agents server plain keys may same =
    server_leads_from old s m app event fits agents server (plain_asks event app s plain)
    (record { asks = λ front protocol address random e. absurd (subst IsPlain e plain); comes = λ f h. absurd (plain_up event f plain h) }) keys may same
