-- What the outputs of an agent come to: one change of the agent, and one of the dial that they concern.
use Rattle.std.proofs.Common.{◌≡◌, ℕ, ℤ, ◌++◌, Bool, true, false, List, [], ◌∷◌, refl, sym, ◌∙◌}
use Rattle.kn_packet.specs.declared.packet.Packet.{Packet}
use Rattle.kn_packet.specs.declared.packet.Packet.TheVariants.{CloseReq, CloseRsp, Data, DialCls, DialReq, DialRsp, Drain, Other}
use Rattle.kn_edge_core.specs.declared.agent_event.AgentOut.{AgentOut}
use Rattle.kn_edge_core.specs.declared.agent_event.AgentOut.TheVariants as out
use Rattle.kn_packets.specs.Outputs.{from_agent, queued as queued_if}
use Rattle.kn_world.specs.declared.parts.Agent.{Agent}
use Rattle.kn_world.specs.declared.parts.Dial.{Dial}
use Rattle.kn_world.specs.declared.state.State.{State}
use Rattle.kn_world.specs.Agents as agents
use Rattle.kn_world.specs.AgentSteps.{gives, gives_all, noted, queued}
use Rattle.kn_world.specs.Dials as dials
use Rattle.kn_world.specs.Numbers.{change}
use Rattle.kn_refinement.proofs.Changes.{change_as, change_same}

-- ---- of one output
abbrev pub answered_dial : List ℕ → ℤ → Dial → Dial
answered_dial [] connect_id d = dials.with_connect_id connect_id d
answered_dial (x ∷ xs) connect_id d = d

abbrev pub noted_dial : Packet → Dial → Dial
noted_dial (DialRsp error connect_id random) d = answered_dial error connect_id d
noted_dial (DialReq protocol address random) d = d
noted_dial (CloseReq connect_id) d = d
noted_dial (CloseRsp error connect_id) d = d
noted_dial (Data connect_id error bytes) d = d
noted_dial (DialCls random) d = d
noted_dial Drain d = d
noted_dial (Other number) d = d

abbrev pub answered_to : List ℕ → ℕ → List ℕ → List ℕ
answered_to [] dial xs = xs ++ dial ∷ []
answered_to (y ∷ ys) dial xs = xs

abbrev pub joined_by : Packet → ℕ → List ℕ → List ℕ
joined_by (DialRsp error connect_id random) dial xs = answered_to error dial xs
joined_by (DialReq protocol address random) dial xs = xs
joined_by (CloseReq connect_id) dial xs = xs
joined_by (CloseRsp error connect_id) dial xs = xs
joined_by (Data connect_id error bytes) dial xs = xs
joined_by (DialCls random) dial xs = xs
joined_by Drain dial xs = xs
joined_by (Other number) dial xs = xs

-- ---- of all
abbrev pub dial_after : List AgentOut → Dial → Dial
dial_after [] d = d
dial_after (out.ToServer p ∷ outs) d = dial_after outs (noted_dial p d)
dial_after (out.Dial ticket address ∷ outs) d = dial_after outs (dials.with_ticket ticket d)
dial_after (out.Write connect_id bytes ∷ outs) d = dial_after outs (dials.written bytes d)
dial_after (out.CloseDest connect_id ∷ outs) d = dial_after outs d
dial_after (out.DropDial ticket ∷ outs) d = dial_after outs d

abbrev pub joined_after : List AgentOut → ℕ → List ℕ → List ℕ
joined_after [] dial xs = xs
joined_after (out.ToServer p ∷ outs) dial xs = joined_after outs dial (joined_by p dial xs)
joined_after (out.Dial ticket address ∷ outs) dial xs = joined_after outs dial xs
joined_after (out.Write connect_id bytes ∷ outs) dial xs = joined_after outs dial xs
joined_after (out.CloseDest connect_id ∷ outs) dial xs = joined_after outs dial xs
joined_after (out.DropDial ticket ∷ outs) dial xs = joined_after outs dial xs

abbrev pub agent_after : List AgentOut → ℕ → Agent → Agent
agent_after outs dial a = record a { up = queued_if a.at_server a.up (from_agent outs); connections = joined_after outs dial a.connections }

-- ---- so it is
queue_one : (os : List AgentOut) (dial : ℕ) (p : Packet) (a : Agent) → agent_after os dial (agents.queued_up p a) ≡ record a { up = queued_if a.at_server a.up (p ∷ from_agent os); connections = joined_after os dial a.connections }
queue_one os dial p a = here a.at_server refl
  where
    here : (b : Bool) → a.at_server ≡ b → agent_after os dial (agents.with_up b p a) ≡ record a { up = queued_if a.at_server a.up (p ∷ from_agent os); connections = joined_after os dial a.connections }
    here true e = rw e refl
    here false e = rw e refl

abbrev after_all : List AgentOut → ℕ → ℕ → State → State
after_all outs link dial s = record s { agents = change (agent_after outs dial) link s.agents; dials = change (dial_after outs) dial s.dials }

states_same : (s : State) (a b : List Agent) (c d : List Dial) → a ≡ b → c ≡ d → record s { agents = a; dials = c } ≡ record s { agents = b; dials = d }
states_same s a b c d p q = λ i. record s { agents = p i; dials = q i }

-- a packet that says nothing of a dial
plain : (os : List AgentOut) (link dial : ℕ) (p : Packet) (s : State) → after_all os link dial (queued p link s) ≡ record s { agents = change (λ a. record a { up = queued_if a.at_server a.up (p ∷ from_agent os); connections = joined_after os dial a.connections }) link s.agents; dials = change (dial_after os) dial s.dials }
plain os link dial p s = states_same s _ _ _ _ (change_as (agent_after os dial) (agents.queued_up p) (λ a. record a { up = queued_if a.at_server a.up (p ∷ from_agent os); connections = joined_after os dial a.connections }) link s.agents (queue_one os dial p)) refl

packet_after : (os : List AgentOut) (link dial : ℕ) (p : Packet) (s : State) → after_all os link dial (queued p link (noted p link dial s)) ≡ after_all (out.ToServer p ∷ os) link dial s
packet_after os link dial (DialRsp [] connect_id random) s = states_same s _ _ _ _
    (change_as (agent_after os dial) (agents.queued_up (DialRsp [] connect_id random)) (λ a. record a { up = queued_if a.at_server a.up (DialRsp [] connect_id random ∷ from_agent os); connections = joined_after os dial a.connections }) link
    (change (agents.with_connection dial) link s.agents) (queue_one os dial (DialRsp [] connect_id random))
    ∙ change_as (λ a. record a { up = queued_if a.at_server a.up (DialRsp [] connect_id random ∷ from_agent os); connections = joined_after os dial a.connections }) (agents.with_connection dial) (agent_after (out.ToServer (DialRsp [] connect_id random) ∷ os) dial) link s.agents (λ a. refl))
    (change_as (dial_after os) (dials.with_connect_id connect_id) (dial_after (out.ToServer (DialRsp [] connect_id random) ∷ os)) dial s.dials (λ d. refl))
packet_after os link dial (DialRsp (x ∷ xs) connect_id random) s = plain os link dial (DialRsp (x ∷ xs) connect_id random) s
packet_after os link dial (DialReq protocol address random) s = plain os link dial (DialReq protocol address random) s
packet_after os link dial (CloseReq connect_id) s = plain os link dial (CloseReq connect_id) s
packet_after os link dial (CloseRsp error connect_id) s = plain os link dial (CloseRsp error connect_id) s
packet_after os link dial (Data connect_id error bytes) s = plain os link dial (Data connect_id error bytes) s
packet_after os link dial (DialCls random) s = plain os link dial (DialCls random) s
packet_after os link dial Drain s = plain os link dial Drain s
packet_after os link dial (Other number) s = plain os link dial (Other number) s

pub given : (outs : List AgentOut) (link dial : ℕ) (s : State) → gives_all outs link dial s ≡ after_all outs link dial s
given [] link dial s = sym (states_same s _ _ _ _ (change_same (agent_after [] dial) link s.agents (λ a. refl)) (change_same (dial_after []) dial s.dials (λ d. refl)))
given (out.ToServer p ∷ outs) link dial s = given outs link dial (queued p link (noted p link dial s)) ∙ packet_after outs link dial p s
given (out.Dial ticket address ∷ outs) link dial s = given outs link dial (gives (out.Dial ticket address) link dial s) ∙ states_same s _ _ _ _ refl (change_as (dial_after outs) (dials.with_ticket ticket) (dial_after (out.Dial ticket address ∷ outs)) dial s.dials (λ d. refl))
given (out.Write connect_id bytes ∷ outs) link dial s = given outs link dial (gives (out.Write connect_id bytes) link dial s) ∙ states_same s _ _ _ _ refl (change_as (dial_after outs) (dials.written bytes) (dial_after (out.Write connect_id bytes ∷ outs)) dial s.dials (λ d. refl))
given (out.CloseDest connect_id ∷ outs) link dial s = given outs link dial s
given (out.DropDial ticket ∷ outs) link dial s = given outs link dial s
