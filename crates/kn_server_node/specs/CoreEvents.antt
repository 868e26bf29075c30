-- Which events the core hears of what a node does.
use Rattle.std.specs.Prelude.{◌≡◌, ◌⊎◌, ℕ, ℤ, pos, ◌+◌, Bool, true, List, [], ◌∷◌, ◌++◌, codes, Option, Some, None, Result, Ok, Err, if◌then◌else◌}
use Rattle.kn_hpack.specs.Fields.{Field}
use Rattle.kn_packet.specs.declared.packet.Packet.{Packet}
use Rattle.kn_packet.specs.declared.packet.Packet.TheVariants.{DialReq, Data}
use Rattle.kn_route.specs.declared.id_kind.IdKind.{IdKind}
use Rattle.kn_route.specs.declared.strategy.Strategy.{Strategy}
use Rattle.kn_grpc.specs.declared.call.Service.{Service}
use Rattle.kn_grpc.specs.declared.call.Service.TheVariants.{Agent, Proxy}
use Rattle.kn_grpc.specs.declared.call.Call.{Call}
use Rattle.kn_grpc.specs.declared.call.CallFault.{CallFault}
use Rattle.kn_grpc.specs.Readers.{First, Less, Whole, Bad}
use Rattle.kn_grpc.specs.Packets.{first_of}
use Rattle.kn_h2_state.specs.declared.event.H2Event.{H2Event}
use Rattle.kn_h2_state.specs.declared.event.H2Event.TheVariants as events
use Rattle.kn_tables.specs.declared.held_entry.HeldEntry.{HeldEntry}
use Rattle.kn_tables.specs.Lists.{first_where}
use Rattle.kn_tables.specs.Holding.{is_held_dial}
use Rattle.kn_server_core.specs.declared.event.ServerEvent.{ServerEvent}
use Rattle.kn_server_core.specs.declared.event.ServerEvent.TheVariants.{LinkUp, LinkPacket, LinkLost, FrontUp, FrontPacket, FrontLost}
use Rattle.kn_server_core.specs.Isolation.{Each, IsOrderly}
use Rattle.kn_server_core.specs.Runs.{Tunnel, Opens, turn_at, after, history, CarriesBoth, IsOfOthers}
use Rattle.kn_server_core.specs.Server as server
use Rattle.kn_ends.specs.declared.heard.Heard.{Heard}
use Rattle.kn_ends.specs.declared.who.Who.{Who}
use Rattle.kn_ends.specs.declared.who.Who.TheVariants as who
use Rattle.kn_ends.specs.declared.inlet.Inlet.{Inlet}
use Rattle.kn_rising.specs.Members.{at}
use Rattle.kn_server_node.specs.declared.end.End.{End}
use Rattle.kn_server_node.specs.declared.end.End.TheVariants.{Streams, Connect}
use Rattle.kn_server_node.specs.declared.loss.Loss.{Loss}
use Rattle.kn_server_node.specs.declared.loss.Loss.TheVariants.{OfLink, OfFront}
use Rattle.kn_server_node.specs.declared.node.Node.{Node}
use Rattle.kn_server_node.specs.Ends.{inlet_in, is_door}
use Rattle.kn_server_node.specs.Callers.{has_no_link, has_no_front, call_for, for_agents_in}
use Rattle.kn_server_node.specs.Steps.{Step, Follow, Hear, Handle, Look, Write, Forget, after_step, Makes}
use Rattle.kn_server_node.specs.Calls.{Called, Opened, Bytes, Took, Lost, Does, Handling, start}

-- ---- a call that comes

-- a link or front comes up, unless there are too many
abbrev pub up_events : Node → Service → List (IdKind × List ℕ) → List ServerEvent
up_events node Agent identifiers = if has_no_link node then [] else LinkUp (node.core.links.top + 1) identifiers ∷ []
up_events node Proxy identifiers = if has_no_front node then [] else FrontUp (node.core.fronts.top + 1) ∷ []

abbrev pub came_events : Node → Result Call CallFault → List ServerEvent
came_events node (Ok call) = up_events node call.service call.identifiers
came_events node (Err fault) = []

abbrev pub opened_events : Node → Option Bool → List Field → List ServerEvent
opened_events node None fields = []
opened_events node (Some for_agents) fields = came_events node (call_for for_agents fields)

abbrev pub heard_events : Node → ℕ → H2Event → List ServerEvent
heard_events node conn (events.Opened s fields) = opened_events node (for_agents_in (at node.ends conn)) fields
heard_events node conn (events.Head s fields) = []
heard_events node conn (events.Text s) = []
heard_events node conn (events.Ended s) = []
heard_events node conn (events.Reset s code) = []
heard_events node conn (events.Away code) = []
heard_events node conn (events.Closed code) = []

abbrev pub told_events : Node → List Heard → List ServerEvent
told_events node [] = []
told_events node (x ∷ told) = heard_events node x.conn x.event

-- ---- what stands at the front of a stream

abbrev pub packet_events : Who → Packet → List ServerEvent
packet_events (who.Link link) p = LinkPacket link p ∷ []
packet_events (who.Front front) p = FrontPacket front p ∷ []
packet_events who.Server p = []

abbrev pub first_events : Who → First Packet ℕ → List ServerEvent
first_events w Less = []
first_events w (Whole p rest) = packet_events w p
first_events w (Bad status) = []

-- the packet is that of the one whose stream it stands on
abbrev pub inlet_events : Option Inlet → List ServerEvent
inlet_events None = []
inlet_events (Some i) = first_events i.who (first_of i.messages.kept)

abbrev pub early_events : Option ℕ → Option ℤ → List ℕ → List ServerEvent
early_events (Some front) (Some id) bytes = FrontPacket front (Data id [] bytes) ∷ []
early_events (Some front) None bytes = []
early_events None id bytes = []

abbrev pub handled_events : Option End → ℕ → List ServerEvent
handled_events None s = []
handled_events (Some (Streams for_agents carrier)) s = inlet_events (inlet_in (Some (Streams for_agents carrier)) s)
handled_events (Some (Connect d)) s = early_events d.front d.dial d.early

-- ---- losses

abbrev pub loss_events : List Loss → List ServerEvent
loss_events [] = []
loss_events (OfLink link status ∷ ls) = LinkLost link ∷ []
loss_events (OfFront front status ∷ ls) = FrontLost front ∷ []

-- ---- steps and calls

abbrev pub step_events : Node → Step → List ServerEvent
step_events node Follow = loss_events node.todo
step_events node Hear = told_events node node.told
step_events node (Handle c s) = handled_events (at node.ends c) s
step_events node (Look c) = []
step_events node (Write c m) = []
step_events node (Forget c) = []

abbrev pub steps_events : Node → List Step → List ServerEvent
steps_events node [] = []
steps_events node (s ∷ ss) = step_events node s ++ steps_events (after_step node s) ss

-- What a call itself brings the core: nothing, but for the head of a connection by CONNECT once it is whole, which is a new
-- front and its dial.
abbrev pub AreOfCall : Node → Called → List ServerEvent → Type 0
AreOfCall node (Opened conn kind) es = es ≡ []
AreOfCall node (Bytes conn piece) es =
    (es ≡ []) ⊎ ((target : List ℕ) × (is_door (at node.ends conn) ≡ true) × (es ≡ FrontUp (node.core.fronts.top + 1) ∷ FrontPacket (node.core.fronts.top + 1) (DialReq (codes "tcp") target (pos 0)) ∷ []))
AreOfCall node (Took conn count) es = es ≡ []
AreOfCall node (Lost conn) es = es ≡ []

-- a call with its steps, and what the core hears of it
abbrev pub Hears : Node → Called → Node → List ServerEvent → Type 0
Hears old call new es = (mid : Node) × (steps : List Step) × (own : List ServerEvent) × Does old call mid × Makes mid steps new × AreOfCall old call own × (mid.core ≡ after old.core own) × (es ≡ own ++ steps_events mid steps)

abbrev pub Runs : Node → List Called → Node → List ServerEvent → Type 0
Runs old [] new es = (new ≡ old) × (es ≡ [])
Runs old (call ∷ calls) new es = (mid : Node) × (first : List ServerEvent) × (rest : List ServerEvent) × Hears old call mid first × Runs mid calls new rest × (es ≡ first ++ rest)

-- ---- laws

-- each call is events that the core hears, in order
abbrev pub CallsAreHeard : Type 0
CallsAreHeard = (old : Node) (call : Called) (new : Node) → Handling old call new → (es : List ServerEvent) × Hears old call new es × (new.core ≡ after old.core es)

-- Whatever bytes come: from the event at which a tunnel opened, its front is queued what its link sent before the first close
-- or loss, and its link what its front sent.
abbrev pub BytesStayInTunnels : Type 0
BytesStayInTunnels = (strategies : List Strategy) (id : List ℕ) (count : ℕ) (calls : List Called) (node : Node) (es : List ServerEvent) → Runs (start strategies id count) calls node es
    → (node.core ≡ after (server.start strategies) es)
    × ((before : List ServerEvent) (reply : ServerEvent) (later : List ServerEvent) (t : Tunnel) → es ≡ before ++ reply ∷ later → Opens t (turn_at (after (server.start strategies) before) reply)
    → CarriesBoth t (history (server.step (after (server.start strategies) before) reply).state later))

-- a tunnel stays as it is through a call whose events are all of other links and other fronts
abbrev pub OthersEndNoTunnel : Type 0
OthersEndNoTunnel = (old : Node) (call : Called) (new : Node) (es : List ServerEvent) (e : HeldEntry) → IsOrderly old.core → Hears old call new es
    → first_where (is_held_dial e.dial) old.core.held ≡ Some e → Each (IsOfOthers e) es → first_where (is_held_dial e.dial) new.core.held ≡ Some e

-- what comes of calls is orderly
abbrev pub CoresAreOrderly : Type 0
CoresAreOrderly = (strategies : List Strategy) (id : List ℕ) (count : ℕ) (calls : List Called) (node : Node) (es : List ServerEvent) → Runs (start strategies id count) calls node es → IsOrderly node.core
