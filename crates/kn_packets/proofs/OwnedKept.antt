-- Every move keeps that each connection of an agent is of a dial.
use Rattle.std.proofs.Common.{◌≡◌, ◌==◌, ◌<◌, ◌⊎◌, ℕ, Bool, true, false, not, cond, List, [], ◌∷◌, Option, Some, None, inl, inr, refl, sym, ap, ◌∙◌, eqb-true, subst}
use Rattle.std.specs.Prelude.{nat_lt, take}
use Rattle.kn_packet.specs.declared.packet.Packet.{Packet}
use Rattle.kn_packet.specs.declared.packet.Packet.TheVariants.{CloseReq, CloseRsp, Data, DialCls, DialReq, DialRsp, Drain, Other}
use Rattle.kn_tables.specs.Lists.{first_where}
use Rattle.kn_server_core.specs.Isolation.{Each, StaysWithFront, StaysWithLink}
use Rattle.kn_server_core.specs.Server as server
use Rattle.kn_server_core.specs.declared.event.ServerEvent.{ServerEvent}
use Rattle.kn_server_core.specs.declared.event.ServerEvent.TheVariants as event
use Rattle.kn_server_core.specs.declared.event.ServerOut.{ServerOut}
use Rattle.kn_server_core.specs.declared.event.ServerOut.TheVariants.{CutLink, Made, ToFront, ToLink}
use Rattle.kn_server_core.specs.declared.state.State.{State}
use Rattle.kn_server_core.proofs.FrontIsolation.{front_outs}
use Rattle.kn_server_core.proofs.LinkIsolation.{link_outs}
use Rattle.kn_server_core.proofs.SoundLemmas.{first_in_place}
use Rattle.kn_edge_core.specs.Agent as agent
use Rattle.kn_edge_core.specs.Agent.{connection_opened, dial_up, ids_used_up, ignored}
use Rattle.kn_edge_core.specs.AgentTables.{is_connection, is_dial}
use Rattle.kn_edge_core.specs.Steps.{AgentStep}
use Rattle.kn_edge_core.specs.declared.agent_event.AgentEvent.{AgentEvent}
use Rattle.kn_edge_core.specs.declared.agent_event.AgentEvent.TheVariants as at_agent
use Rattle.kn_edge_core.specs.declared.connection.Connection.{Connection}
use Rattle.kn_edge_core.specs.declared.connection.DestState.TheVariants.{Open}
use Rattle.kn_edge_core.specs.declared.dial.Dial.{Dial}
use Rattle.kn_packets.specs.Keys.{Keys}
use Rattle.kn_packets.specs.Moves.{AgentDrains, AgentLosesLink, AgentTakes, AppComes, AppEnds, AppFails, AppHands, AppSends, AppWrote, ClientLosesStream, ClientTakes, ConnectComes, ConnectLeaves, ConnectTakes, DestinationEnds, DestinationFails, DestinationHands, DestinationSends, DestinationWrote, DialFailed, DialWon, DropsDown, DropsIn, DropsOut, DropsUp, FrontComes, JoinsIn, LinkComes, May, Move, ServerLosesFront, ServerLosesLink, ServerTakesIn, ServerTakesUp, StreamBegins, StreamIsNumbered, after, agent_stepped, app_is, as_taken, cid_number, connection_dial, dest_is, down_is, gets, hands, hands_over, new_dial, takes_connect, takes_down, takes_in, takes_out, takes_up, up_is}
use Rattle.kn_packets.specs.Outputs.{cid_drawn, from_agent}
use Rattle.kn_packets.specs.Owned.{HasDial, Owned}
use Rattle.kn_packets.specs.World.{World, WorldDial}
use Rattle.kn_packets.proofs.AgentDials.{found}
use Rattle.kn_packets.proofs.AgentOpenKeep.{drawn_i, drawn_kept, it}
use Rattle.kn_packets.proofs.AgentParts.{linked}
use Rattle.kn_packets.proofs.AgentPlain.{IsPlain, Plain, ignored_plain, step_plain, used_plain}
use Rattle.kn_packets.proofs.Fresh.{below}

-- ---- the server overwrites no dial that was drawn
link_dials : (s : State) (l d : ℕ) (outs : List ServerOut) → Each (StaysWithLink s l) outs → (old : WorldDial) → new_dial d outs old ≡ old
link_dials s l d [] h old = refl
link_dials s l d (Made dial link front ∷ outs) h old = absurd h.0
link_dials s l d (ToLink link p ∷ outs) h old = link_dials s l d outs h.1 old
link_dials s l d (ToFront front p ∷ outs) h old = link_dials s l d outs h.1 old
link_dials s l d (CutLink link ∷ outs) h old = link_dials s l d outs h.1 old

front_dials : (s : State) (f : ℕ) (e : ServerEvent) (d : ℕ) → d < s.next_dial → (outs : List ServerOut) → Each (StaysWithFront s f e) outs → (old : WorldDial) → new_dial d outs old ≡ old
front_dials s f e d less [] h old = refl
front_dials s f e d less (Made dial link front ∷ outs) h old =
    let other : (d == dial) ≡ false = ap (λ n. d == n) h.0.1 ∙ below d s.next_dial less in
    rw other (front_dials s f e d less outs h.1 old)
front_dials s f e d less (ToLink link p ∷ outs) h old = front_dials s f e d less outs h.1 old
front_dials s f e d less (ToFront front p ∷ outs) h old = front_dials s f e d less outs h.1 old
front_dials s f e d less (CutLink link ∷ outs) h old = front_dials s f e d less outs h.1 old

module _ (w : World) (keys : Keys w) (owned : Owned w) where
  dials_kept : (outs : List ServerOut) → ((d c : ℕ) → (w.dials d).cid ≡ Some c → new_dial d outs (w.dials d) ≡ w.dials d) → (l cid : ℕ) (x : Connection) → first_where (is_connection cid) (w.agents l).connections ≡ Some x
      → (d : ℕ) × ((new_dial d outs (w.dials d)).link ≡ l) × ((new_dial d outs (w.dials d)).cid ≡ Some cid)
  dials_kept outs same l cid x h =
      let its = owned.drawn l cid x h in
      let is = same its.0 cid its.2 in
      (its.0, ap (λ (z : WorldDial). z.link) is ∙ its.1, ap (λ (z : WorldDial). z.cid) is ∙ its.2)

  was_drawn : (d c : ℕ) → (w.dials d).cid ≡ Some c → d < w.server.next_dial
  was_drawn d c h = let app = keys.agents.cid_app d c h in keys.server.dials_older app.0 d app.1 app.2

  of_link : (l : ℕ) (e : ServerEvent) → Each (StaysWithLink w.server l) (server.step w.server e).outs → (l' cid : ℕ) (x : Connection) → first_where (is_connection cid) (w.agents l').connections ≡ Some x
      → (d : ℕ) × ((new_dial d (server.step w.server e).outs (w.dials d)).link ≡ l') × ((new_dial d (server.step w.server e).outs (w.dials d)).cid ≡ Some cid)
  of_link l e outs = dials_kept (server.step w.server e).outs (λ d c h. link_dials w.server l d (server.step w.server e).outs outs (w.dials d))

  of_front : (f : ℕ) (e : ServerEvent) → Each (StaysWithFront w.server f e) (server.step w.server e).outs → (l' cid : ℕ) (x : Connection) → first_where (is_connection cid) (w.agents l').connections ≡ Some x
      → (d : ℕ) × ((new_dial d (server.step w.server e).outs (w.dials d)).link ≡ l') × ((new_dial d (server.step w.server e).outs (w.dials d)).cid ≡ Some cid)
  of_front f e outs = dials_kept (server.step w.server e).outs (λ d c h. front_dials w.server f e d (was_drawn d c h) (server.step w.server e).outs outs (w.dials d))

  up_owned : (l : ℕ) (ps : List Packet) → Owned (takes_up l ps w)
  up_owned l [] = owned
  up_owned l (p ∷ rest) = record { drawn = of_link l (event.LinkPacket l p) (link_outs w.server (event.LinkPacket l p) l refl) }

  in_owned : (f : ℕ) (ps : List Packet) → Owned (takes_in f ps w)
  in_owned f [] = owned
  in_owned f (p ∷ rest) =
      let e : ServerEvent = event.FrontPacket f (as_taken (w.streams f).connect (connection_dial w f) p) in
      record { drawn = of_front f e (front_outs w.server e f keys.server.orderly refl) }

-- ---- an agent's step
stepped_owned : (w : World) (l : ℕ) (s : AgentStep) → Owned w → ((d c : ℕ) → (w.dials d).cid ≡ Some c → ((agent_stepped l s w).dials d).cid ≡ Some c)
    → ((cid : ℕ) (x : Connection) → first_where (is_connection cid) s.state.connections ≡ Some x → ((y : Connection) × (first_where (is_connection cid) (w.agents l).connections ≡ Some y)) ⊎ HasDial (agent_stepped l s w) l cid)
    → Owned (agent_stepped l s w)
stepped_owned w l s owned drawn lists = record { drawn = λ i cid x h. here i cid x (i == l) refl h }
  where
    kept : (i cid : ℕ) → HasDial w i cid → HasDial (agent_stepped l s w) i cid
    kept i cid its = (its.0, its.1, drawn its.0 cid its.2)

    of_new : (cid : ℕ) → ((y : Connection) × (first_where (is_connection cid) (w.agents l).connections ≡ Some y)) ⊎ HasDial (agent_stepped l s w) l cid → HasDial (agent_stepped l s w) l cid
    of_new cid (inl old) = kept l cid (owned.drawn l cid old.0 old.1)
    of_new cid (inr new) = new

    here : (i cid : ℕ) (x : Connection) (b : Bool) → (i == l) ≡ b → first_where (is_connection cid) (cond b s.state (w.agents i)).connections ≡ Some x → HasDial (agent_stepped l s w) i cid
    here i cid x true on h = subst (λ j. HasDial (agent_stepped l s w) j cid) (sym (eqb-true i l on)) (of_new cid (lists cid x h))
    here i cid x false off h = kept i cid (owned.drawn i cid x h)

plain_owned : (w : World) (l : ℕ) (s : AgentStep) → Owned w → Plain (w.agents l) s → Owned (agent_stepped l s w)
plain_owned w l s owned plain = stepped_owned w l s owned (λ d c h. drawn d c h ((w.dials d).link == l)) (λ cid x h. inl (plain.fewer cid x h))
  where
    drawn : (d c : ℕ) → (w.dials d).cid ≡ Some c → (b : Bool) → cond b (cid_drawn d (from_agent s.outs) (w.dials d).cid) (w.dials d).cid ≡ Some c
    drawn d c h true = plain.silent d (w.dials d).cid ∙ h
    drawn d c h false = h

-- the one that comes is of the dial that it answers
module _ (w : World) (l : ℕ) (keys : Keys w) (owned : Owned w) (there : not (w.agents l).lost ≡ true) where
  opened_owned : (x : Dial) → first_where (is_dial x.ticket) (w.agents l).dials ≡ Some x → Owned (agent_stepped l (connection_opened (w.agents l) x) w)
  opened_owned x at = stepped_owned w l (connection_opened (w.agents l) x) owned (drawn_kept w l keys there x at) (λ cid y h. here cid y ((w.agents l).next_connect_id == cid) refl h)
    where
      here : (cid : ℕ) (y : Connection) (b : Bool) → ((w.agents l).next_connect_id == cid) ≡ b → first_where (is_connection cid) (connection_opened (w.agents l) x).state.connections ≡ Some y
          → ((z : Connection) × (first_where (is_connection cid) (w.agents l).connections ≡ Some z)) ⊎ HasDial (agent_stepped l (connection_opened (w.agents l) x) w) l cid
      here cid y true is h = inr (subst (λ n. HasDial (agent_stepped l (connection_opened (w.agents l) x) w) l n) (eqb-true (w.agents l).next_connect_id cid is) ((it w l keys there x at).0.dial, (it w l keys there x at).0.on, drawn_i w l keys there x at))
      here cid y false other h = inl (y, sym (first_in_place (λ c. c.connect_id) (is_connection cid) (record { connect_id = (w.agents l).next_connect_id; state = Open; unwritten = 0 }) (w.agents l).connections other) ∙ h)

  won_by : (ticket : ℕ) (o : Option Dial) → first_where (is_dial ticket) (w.agents l).dials ≡ o → Owned (agent_stepped l (dial_up (w.agents l) o) w)
  won_by ticket None f = plain_owned w l (ignored (w.agents l)) owned (ignored_plain (w.agents l))
  won_by ticket (Some x) f = here (nat_lt (w.agents l).next_connect_id 9223372036854775807)
    where
      here : (b : Bool) → Owned (agent_stepped l (cond b (connection_opened (w.agents l) x) (ids_used_up (w.agents l) x)) w)
      here true = opened_owned x (found w l keys there ticket x f)
      here false = plain_owned w l (ids_used_up (w.agents l) x) owned (used_plain (w.agents l) x)

  won_owned : (ticket : ℕ) → Owned (after (DialWon l ticket) w)
  won_owned ticket = subst (λ s. Owned (agent_stepped l s w)) (sym (linked (w.agents l) (at_agent.DialUp ticket) there)) (won_by ticket (first_where (is_dial ticket) (w.agents l).dials) refl)

-- ---- packets that are taken
down_owned : (w : World) (l : ℕ) → Owned w → (ps : List Packet) → Owned (takes_down l ps w)
down_owned w l owned [] = owned
down_owned w l owned (p ∷ rest) = plain_owned (down_is l rest w) l (agent.step (w.agents l) (at_agent.Packet p)) (record { drawn = owned.drawn }) (step_plain (w.agents l) (at_agent.Packet p) tt)

out_owned : (w : World) (f : ℕ) → Owned w → (ps : List Packet) → Owned (takes_out f ps w)
out_owned w f owned [] = owned
out_owned w f owned (p ∷ rest) = record { drawn = owned.drawn }

connect_owned : (w : World) (f : ℕ) → Owned w → (ps : List Packet) → Owned (takes_connect f ps w)
connect_owned w f owned [] = owned
connect_owned w f owned (DialRsp [] c r ∷ ps) = record { drawn = owned.drawn }
connect_owned w f owned (DialRsp (x ∷ xs) c r ∷ ps) = record { drawn = owned.drawn }
connect_owned w f owned (Data c e b ∷ ps) = record { drawn = owned.drawn }
connect_owned w f owned (CloseRsp e c ∷ ps) = record { drawn = owned.drawn }
connect_owned w f owned (DialReq x y z ∷ ps) = record { drawn = owned.drawn }
connect_owned w f owned (CloseReq c ∷ ps) = record { drawn = owned.drawn }
connect_owned w f owned (DialCls c ∷ ps) = record { drawn = owned.drawn }
connect_owned w f owned (Drain ∷ ps) = record { drawn = owned.drawn }
connect_owned w f owned (Other n ∷ ps) = record { drawn = owned.drawn }

hands_owned : (w : World) (k n : ℕ) (bytes : List ℕ) → Owned w → (b : Bool) → Owned (hands_over b k bytes (app_is k (hands n) w))
hands_owned w k n bytes owned true = record { drawn = owned.drawn }
hands_owned w k n bytes owned false = record { drawn = owned.drawn }

dest_owned : (w : World) (l : ℕ) (e : AgentEvent) → Owned w → IsPlain (w.agents l) e → Owned (agent_stepped l (agent.step (w.agents l) e) w)
dest_owned w l e owned plain = plain_owned w l (agent.step (w.agents l) e) owned (step_plain (w.agents l) e plain)

pub owned_kept : (m : Move) (w : World) → Keys w → May m w → Owned w → Owned (after m w)
owned_kept (LinkComes l identifiers) w keys may owned = record { drawn = of_link w keys owned l (event.LinkUp l identifiers) (link_outs w.server (event.LinkUp l identifiers) l refl) }
owned_kept (FrontComes f) w keys may owned = record { drawn = of_front w keys owned f (event.FrontUp f) (front_outs w.server (event.FrontUp f) f keys.server.orderly refl) }
owned_kept (ServerTakesUp l) w keys may owned = up_owned w keys owned l (w.links l).up
owned_kept (ServerTakesIn f) w keys may owned = in_owned w keys owned f (w.streams f).up
owned_kept (ServerLosesLink l left) w keys may owned = record { drawn = of_link w keys owned l (event.LinkLost l) (link_outs w.server (event.LinkLost l) l refl) }
owned_kept (ServerLosesFront f left) w keys may owned = record { drawn = of_front w keys owned f (event.FrontLost f) (front_outs w.server (event.FrontLost f) f keys.server.orderly refl) }
owned_kept (AgentTakes l) w keys may owned = down_owned w l owned (w.links l).down
owned_kept (DialWon l ticket) w keys may owned = won_owned w l keys owned may ticket
owned_kept (DialFailed l ticket) w keys may owned = dest_owned w l (at_agent.DialRefused ticket) owned tt
owned_kept (AgentDrains l) w keys may owned = dest_owned w l at_agent.DrainNow owned tt
owned_kept (AgentLosesLink l left) w keys may owned = dest_owned (up_is l left (down_is l [] w)) l at_agent.LinkLost (record { drawn = owned.drawn }) tt
owned_kept (DestinationSends d bytes) w keys may owned = record { drawn = owned.drawn }
owned_kept (DestinationHands d n) w keys may owned = dest_owned (dest_is d (hands n) w) (w.dials d).link (at_agent.DestBytes (cid_number (w.dials d).cid) (take n (w.dials d).side.kept)) (record { drawn = owned.drawn }) tt
owned_kept (DestinationWrote d n) w keys may owned = dest_owned (dest_is d (gets n) w) (w.dials d).link (at_agent.DestWrote (cid_number (w.dials d).cid) n) (record { drawn = owned.drawn }) tt
owned_kept (DestinationEnds d) w keys may owned = dest_owned w (w.dials d).link (at_agent.DestEnd (cid_number (w.dials d).cid)) owned tt
owned_kept (DestinationFails d) w keys may owned = dest_owned w (w.dials d).link (at_agent.DestFailed (cid_number (w.dials d).cid)) owned tt
owned_kept (StreamBegins f c) w keys may owned = record { drawn = owned.drawn }
owned_kept (StreamIsNumbered f g) w keys may owned = record { drawn = owned.drawn }
owned_kept (ClientTakes f) w keys may owned = out_owned w f owned (w.streams f).down
owned_kept (ClientLosesStream f left error) w keys may owned = record { drawn = owned.drawn }
owned_kept (AppComes k f n address) w keys may owned = record { drawn = owned.drawn }
owned_kept (AppSends k bytes) w keys may owned = record { drawn = owned.drawn }
owned_kept (AppHands k n) w keys may owned = hands_owned w k n (take n (w.apps k).side.kept) owned (w.streams (w.apps k).stream).connect
owned_kept (AppWrote k n) w keys may owned = record { drawn = owned.drawn }
owned_kept (AppEnds k) w keys may owned = record { drawn = owned.drawn }
owned_kept (AppFails k) w keys may owned = record { drawn = owned.drawn }
owned_kept (ConnectComes k f address) w keys may owned = record { drawn = owned.drawn }
owned_kept (ConnectTakes f) w keys may owned = connect_owned w f owned (w.streams f).down
owned_kept (ConnectLeaves f left) w keys may owned = record { drawn = owned.drawn }
owned_kept (JoinsIn f) w keys may owned = record { drawn = owned.drawn }
owned_kept (DropsUp l) w keys may owned = record { drawn = owned.drawn }
owned_kept (DropsDown l) w keys may owned = record { drawn = owned.drawn }
owned_kept (DropsIn f) w keys may owned = record { drawn = owned.drawn }
owned_kept (DropsOut f) w keys may owned = record { drawn = owned.drawn }
