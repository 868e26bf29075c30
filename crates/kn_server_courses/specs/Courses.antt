-- What calls and steps lead to from a new node, and how the events of the core find the node.
use Rattle.std.specs.Prelude.{◌≡◌, ℕ, ◌+◌, ◌<◌, Bool, List, [], ◌∷◌, ◌++◌, filter, Option, Some, None, Result, Ok, Err, pos, codes}
use Rattle.kn_hpack.specs.Fields.{Field}
use Rattle.kn_route.specs.declared.strategy.Strategy.{Strategy}
use Rattle.kn_grpc.specs.declared.call.Service.{Service}
use Rattle.kn_grpc.specs.declared.call.Service.TheVariants.{Agent, Proxy}
use Rattle.kn_grpc.specs.declared.call.Call.{Call}
use Rattle.kn_grpc.specs.declared.call.CallFault.{CallFault}
use Rattle.kn_h2_state.specs.declared.event.H2Event.{H2Event}
use Rattle.kn_h2_state.specs.declared.event.H2Event.TheVariants as events
use Rattle.kn_server_core.specs.declared.event.ServerEvent.{ServerEvent}
use Rattle.kn_server_core.specs.Server as server
use Rattle.kn_ends.specs.declared.heard.Heard.{Heard}
use Rattle.kn_ends.specs.declared.who.Who.TheVariants as who
use Rattle.kn_ends.specs.Carriers.{taken_from}
use Rattle.kn_rising.specs.Members.{at, inserted}
use Rattle.kn_server_core.specs.declared.event.ServerEvent.TheVariants.{FrontUp, FrontPacket}
use Rattle.kn_packet.specs.declared.packet.Packet.TheVariants.{DialReq}
use Rattle.kn_server_node.specs.declared.door.Door.{Door}
use Rattle.kn_server_node.specs.declared.end.End.{End}
use Rattle.kn_server_node.specs.declared.end.End.TheVariants.{Streams, Connect}
use Rattle.kn_server_node.specs.declared.loss.Loss.{Loss}
use Rattle.kn_server_node.specs.declared.loss.Loss.TheVariants.{OfLink, OfFront}
use Rattle.kn_server_node.specs.declared.node.Node.{Node}
use Rattle.kn_server_node.specs.Doors as door
use Rattle.kn_server_node.specs.Ends.{on_carrier, on_door}
use Rattle.kn_server_node.specs.Nodes.{on_end, event, link_ended, front_ended, count_up}
use Rattle.kn_server_node.specs.Callers.{counts, place_of, door_up, answered_call, call_for, for_agents_in}
use Rattle.kn_server_node.specs.Steps.{Step, Follow, Hear, Handle, Look, Write, Forget, MayDo, after_step}
use Rattle.kn_server_node.specs.Calls.{Called, Opened, Bytes, Took, Lost, Does, Handling, start}
use Rattle.kn_server_node.specs.CoreEvents.{step_events}
use Rattle.kn_server_node.specs.FrontRooms.{AreAlone, HaveRoom, DropsNone, after_core}

-- ---- courses

-- a call's own part, a step, or a stirred connection is handed out
pub data Deed : Type 0 where
  Begin : Called → Deed
  Make : Step → Deed
  HandOut : ℕ → Deed

-- a connection that opens has a new number
abbrev pub MayBegin : Node → Called → Type 0
MayBegin node (Opened conn kind) = node.top < conn
MayBegin node (Bytes conn piece) = Unit {0}
MayBegin node (Took conn count) = Unit {0}
MayBegin node (Lost conn) = Unit {0}

-- these may be done one after another, and lead there
abbrev pub Leads : Node → List Deed → Node → Type 0
Leads old [] new = new ≡ old
Leads old (Begin call ∷ deeds) new = (mid : Node) × MayBegin old call × Does old call mid × Leads mid deeds new
Leads old (Make s ∷ deeds) new = MayDo old s × Leads (after_step old s) deeds new
Leads old (HandOut c ∷ deeds) new = (mid : Node) × (old ≡ record mid { stirred = mid.stirred ++ c ∷ [] }) × Leads mid deeds new

-- whole calls, one after another
abbrev pub CallsLead : Node → List Called → Node → Type 0
CallsLead old [] new = new ≡ old
CallsLead old (call ∷ calls) new = (mid : Node) × MayBegin old call × Handling old call mid × CallsLead mid calls new

-- ---- the node as the event of a step finds it

abbrev pub loss_finds : List Loss → Node → Node
loss_finds [] node = node
loss_finds (OfLink link status ∷ ls) node = link_ended link status (record node { todo = ls })
loss_finds (OfFront front status ∷ ls) node = front_ended front status (record node { todo = ls })

-- its stream has a place and was answered
abbrev pub service_finds : ℕ → ℕ → Service → Node → Node
service_finds conn s Agent node =
    answered_call conn s (who.Link (node.core.links.top + 1)) Agent (record node { links = inserted node.links (node.core.links.top + 1) (place_of conn s); past_links = filter (counts node.ends) node.past_links })
service_finds conn s Proxy node =
    answered_call conn s (who.Front (node.core.fronts.top + 1)) Proxy (record node { fronts = inserted node.fronts (node.core.fronts.top + 1) (place_of conn s); past_fronts = filter (counts node.ends) node.past_fronts })

abbrev pub came_finds : ℕ → ℕ → Result Call CallFault → Node → Node
came_finds conn s (Ok call) node = service_finds conn s call.service node
came_finds conn s (Err fault) node = node

abbrev pub opened_finds : Option Bool → ℕ → ℕ → List Field → Node → Node
opened_finds None conn s fields node = node
opened_finds (Some for_agents) conn s fields node = came_finds conn s (call_for for_agents fields) node

abbrev pub heard_finds : ℕ → H2Event → Node → Node
heard_finds conn (events.Opened s fields) node = opened_finds (for_agents_in (at node.ends conn)) conn s fields node
heard_finds conn (events.Head s fields) node = node
heard_finds conn (events.Text s) node = node
heard_finds conn (events.Ended s) node = node
heard_finds conn (events.Reset s code) node = node
heard_finds conn (events.Away code) node = node
heard_finds conn (events.Closed code) node = node

abbrev pub told_finds : List Heard → Node → Node
told_finds [] node = node
told_finds (x ∷ told) node = heard_finds x.conn x.event (record node { told = told })

-- the message was taken
abbrev pub handled_finds : Option End → ℕ → ℕ → Node → Node
handled_finds None conn s node = node
handled_finds (Some (Streams for_agents carrier)) conn s node = record (on_end conn (on_carrier (taken_from s)) node) { handled = count_up node.handled }
handled_finds (Some (Connect d)) conn s node = record (on_end conn (on_door door.without_early) node) { handled = count_up node.handled }

abbrev pub finds : Node → Step → Node
finds node Follow = loss_finds node.todo node
finds node Hear = told_finds node.told node
finds node (Handle c s) = handled_finds (at node.ends c) c s node
finds node (Look c) = node
finds node (Write c m) = node
finds node (Forget c) = node

-- ---- laws

-- Whatever comes, each front stands alone, and has room: no more than 4,644,864 bytes ever wait for it.
abbrev pub FrontsHaveRoom : Type 0
FrontsHaveRoom = (strategies : List Strategy) (id : List ℕ) (count : ℕ) (deeds : List Deed) (node : Node) → Leads (start strategies id count) deeds node → AreAlone node × HaveRoom node

-- Whatever comes, the event of a step drops no packet for a front.
abbrev pub NoneIsDropped : Type 0
NoneIsDropped = (strategies : List Strategy) (id : List ℕ) (count : ℕ) (deeds : List Deed) (node : Node) (s : Step) (e : ServerEvent) → Leads (start strategies id count) deeds node → MayDo node s → step_events node s ≡ e ∷ []
    → (after_step node s ≡ event e (finds node s)) × DropsNone (after_core e (finds node s)) (server.step (finds node s).core e).outs

-- what calls lead to is what their deeds lead to
abbrev pub CallsAreDeeds : Type 0
CallsAreDeeds = (old : Node) (calls : List Called) (new : Node) → CallsLead old calls new → (deeds : List Deed) × Leads old deeds new

-- ---- the dial that a head of CONNECT asks for

-- its front has a place, and came up
abbrev pub dial_finds : ℕ → List ℕ → Node → Node
dial_finds conn early node =
    event (FrontUp (node.core.fronts.top + 1)) (on_end conn (on_door (door.begun (node.core.fronts.top + 1) early)) (record node { fronts = inserted node.fronts (node.core.fronts.top + 1) (place_of conn 0); past_fronts = filter (counts node.ends) node.past_fronts }))

abbrev pub dial_event : Node → List ℕ → ServerEvent
dial_event node target = FrontPacket (node.core.fronts.top + 1) (DialReq (codes "tcp") target (pos 0))

-- Whatever came before, the dial of a head drops no packet for a front; a head has no front before, and keeps what it holds.
abbrev pub DialsDropNone : Type 0
DialsDropNone = (strategies : List Strategy) (id : List ℕ) (count : ℕ) (deeds : List Deed) (old : Node) (conn : ℕ) (d : Door) (held target early : List ℕ) (node : Node) → Leads (start strategies id count) deeds old → at old.ends conn ≡ Some (Connect d) → d.front ≡ None
    → node ≡ on_end conn (on_door (door.with_head held)) old
    → (door_up conn target early node ≡ event (dial_event node target) (dial_finds conn early node)) × DropsNone (after_core (dial_event node target) (dial_finds conn early node)) (server.step (dial_finds conn early node).core (dial_event node target)).outs
