-- No step changes the greatest number of a connection.
use Rattle.std.proofs.Common.{◌≡◌, ℕ, ℤ, ◌+◌, Bool, true, false, cond, List, [], ◌∷◌, ◌++◌, refl, ap, ◌∙◌, Option, Some, None, Result, Ok, Err}
use Rattle.kn_hpack.specs.Fields.{Field}
use Rattle.kn_packet.specs.declared.packet.Packet.{Packet}
use Rattle.kn_route.specs.declared.id_kind.IdKind.{IdKind}
use Rattle.kn_grpc.specs.declared.call.Service.{Service}
use Rattle.kn_grpc.specs.declared.call.Service.TheVariants.{Agent, Proxy}
use Rattle.kn_grpc.specs.declared.call.Call.{Call}
use Rattle.kn_grpc.specs.declared.call.CallFault.{CallFault}
use Rattle.kn_grpc.specs.Readers.{First, Less, Whole, Bad}
use Rattle.kn_grpc.specs.Packets.{first_of}
use Rattle.kn_connect.specs.declared.answer.ConnectError.{ConnectError}
use Rattle.kn_connect.specs.declared.answer.ConnectError.TheVariants.{NoMemory, Fault}
use Rattle.kn_connect.specs.declared.answer.ConnectAnswer.{ConnectAnswer}
use Rattle.kn_connect.specs.declared.answer.ConnectAnswer.TheVariants.{More, Head}
use Rattle.kn_h2_state.specs.declared.event.H2Event.{H2Event}
use Rattle.kn_h2_state.specs.declared.event.H2Event.TheVariants as events
use Rattle.kn_server_core.specs.declared.event.ServerOut.{ServerOut}
use Rattle.kn_server_core.specs.declared.event.ServerEvent.{ServerEvent}
use Rattle.kn_server_core.specs.declared.event.ServerEvent.TheVariants.{LinkUp, LinkPacket, LinkLost, FrontUp, FrontPacket, FrontLost}
use Rattle.kn_server_core.specs.declared.event.ServerOut.TheVariants.{ToLink, ToFront, CutLink, Made}
use Rattle.kn_server_core.specs.Server as server
use Rattle.kn_ends.specs.declared.heard.Heard.{Heard}
use Rattle.kn_ends.specs.declared.who.Who.{Who}
use Rattle.kn_ends.specs.declared.who.Who.TheVariants as who
use Rattle.kn_ends.specs.declared.inlet.Inlet.{Inlet}
use Rattle.kn_ends.specs.Carriers.{taken_from}
use Rattle.kn_rising.specs.Members.{at}
use Rattle.kn_server_node.specs.declared.end.End.{End}
use Rattle.kn_server_node.specs.declared.end.End.TheVariants.{Streams, Connect}
use Rattle.kn_server_node.specs.declared.loss.Loss.{Loss}
use Rattle.kn_server_node.specs.declared.loss.Loss.TheVariants.{OfLink, OfFront}
use Rattle.kn_server_node.specs.declared.node.Node.{Node}
use Rattle.kn_server_node.specs.Ends.{on_carrier, on_door, inlet_in}
use Rattle.kn_server_node.specs.Doors as door
use Rattle.kn_server_node.specs.Nodes.{on_end, output, outputs, event, is_too_long, link_ended, front_ended, count_up}
use Rattle.kn_server_node.specs.Callers.{has_no_link, has_no_front, door_up, head_whole, head_came, DoorHears, link_up, front_up, refused_call, over_limit, service_in, call_for, call_came, for_agents_in, opened_by}
use Rattle.kn_server_node.specs.Ends as one
use Rattle.kn_server_node.specs.Calls.{wants_of, wants_on, out_of, shuts_of, Called, Opened, Bytes, Took, Lost, HearsBytes, Does, Handling}
use Rattle.kn_server_node.specs.Steps.{heard, hear, packet_event, handle, handle_inlet, early_event, handle_on, lose, follow, Step, Follow, Hear, Handle, Look, Write, Forget, after_step, Makes, Reaches}

by_bool : (n : ℕ) (b : Bool) (x y : Node) → x.top ≡ n → y.top ≡ n → (cond b x y).top ≡ n
by_bool n true x y p q = p
by_bool n false x y p q = q

output_top : (node : Node) (o : ServerOut) → (output node o).top ≡ node.top
unfolding output
output_top node (ToLink link p) = by_bool node.top (is_too_long node link p) _ _ refl refl
output_top node (ToFront front p) = refl
output_top node (CutLink link) = refl
output_top node (Made dial link front) = refl

outputs_top : (node : Node) (os : List ServerOut) → (outputs node os).top ≡ node.top
outputs_top node [] = refl
outputs_top node (o ∷ os) = outputs_top (output node o) os ∙ output_top node o

pub event_top : (e : ServerEvent) (node : Node) → (event e node).top ≡ node.top
unfolding event
event_top e node = outputs_top (record node { core = (server.step node.core e).state; todo = [] }) (server.step node.core e).outs

-- ---- heads

link_up_top : (conn s : ℕ) (identifiers : List (IdKind × List ℕ)) (node : Node) → (link_up conn s identifiers node).top ≡ node.top
unfolding link_up
link_up_top conn s identifiers node = event_top (LinkUp (node.core.links.top + 1) identifiers) _

front_up_top : (conn s : ℕ) (node : Node) → (front_up conn s node).top ≡ node.top
unfolding front_up
front_up_top conn s node = event_top (FrontUp (node.core.fronts.top + 1)) _

over_limit_top : (conn s : ℕ) (node : Node) → (over_limit conn s node).top ≡ node.top
unfolding over_limit
over_limit_top conn s node = refl

refused_top : (conn s : ℕ) (fault : CallFault) (node : Node) → (refused_call conn s fault node).top ≡ node.top
unfolding refused_call
refused_top conn s fault node = refl

service_top : (conn s : ℕ) (service : Service) (identifiers : List (IdKind × List ℕ)) (node : Node) → (service_in conn s service identifiers node).top ≡ node.top
service_top conn s Agent identifiers node = by_bool node.top (has_no_link node) (over_limit conn s node) (link_up conn s identifiers node) (over_limit_top conn s node) (link_up_top conn s identifiers node)
service_top conn s Proxy identifiers node = by_bool node.top (has_no_front node) (over_limit conn s node) (front_up conn s node) (over_limit_top conn s node) (front_up_top conn s node)

came_top : (conn s : ℕ) (call : Result Call CallFault) (node : Node) → (call_came conn s call node).top ≡ node.top
came_top conn s (Ok call) node = service_top conn s call.service call.identifiers node
came_top conn s (Err fault) node = refused_top conn s fault node

opened_top : (kind : Option Bool) (conn s : ℕ) (fields : List Field) (node : Node) → (opened_by kind conn s fields node).top ≡ node.top
opened_top None conn s fields node = refl
opened_top (Some for_agents) conn s fields node = came_top conn s (call_for for_agents fields) node

heard_top : (conn : ℕ) (e : H2Event) (node : Node) → (heard conn e node).top ≡ node.top
unfolding heard
heard_top conn (events.Opened s fields) node = opened_top (for_agents_in (at node.ends conn)) conn s fields node
heard_top conn (events.Head s fields) node = refl
heard_top conn (events.Text s) node = refl
heard_top conn (events.Ended s) node = refl
heard_top conn (events.Reset s code) node = refl
heard_top conn (events.Away code) node = refl
heard_top conn (events.Closed code) node = refl

hear_top : (told : List Heard) (node : Node) → (hear told node).top ≡ node.top
unfolding hear
hear_top [] node = refl
hear_top (x ∷ told) node = heard_top x.conn x.event (record node { told = told })

-- ---- what is handled

packet_top : (w : Who) (p : Packet) (node : Node) → (packet_event w p node).top ≡ node.top
packet_top (who.Link link) p node = event_top (LinkPacket link p) node
packet_top (who.Front front) p node = event_top (FrontPacket front p) node
packet_top who.Server p node = refl

handle_top : (conn s : ℕ) (w : Who) (f : First Packet ℕ) (node : Node) → (handle conn s w f node).top ≡ node.top
unfolding handle
handle_top conn s w Less node = refl
handle_top conn s w (Whole p rest) node = packet_top w p (record (on_end conn (on_carrier (taken_from s)) node) { handled = count_up node.handled })
handle_top conn s w (Bad status) node = refl

inlet_top : (conn s : ℕ) (i : Option Inlet) (node : Node) → (handle_inlet conn s i node).top ≡ node.top
inlet_top conn s None node = refl
inlet_top conn s (Some i) node = handle_top conn s i.who (first_of i.messages.kept) node

early_top : (front : Option ℕ) (dial : Option ℤ) (bytes : List ℕ) (node : Node) → (early_event front dial bytes node).top ≡ node.top
early_top (Some front) (Some id) bytes node = event_top _ node
early_top (Some front) None bytes node = refl
early_top None id bytes node = refl

on_top : (e : Option End) (conn s : ℕ) (node : Node) → (handle_on e conn s node).top ≡ node.top
unfolding handle_on
on_top None conn s node = refl
on_top (Some (Streams k carrier)) conn s node = inlet_top conn s (inlet_in (Some (Streams k carrier)) s) node
on_top (Some (Connect d)) conn s node = early_top d.front d.dial d.early (record (on_end conn (on_door door.without_early) node) { handled = count_up node.handled })

lose_top : (l : Loss) (node : Node) → (lose l node).top ≡ node.top
unfolding lose
lose_top (OfLink link status) node = event_top (LinkLost link) (link_ended link status node)
lose_top (OfFront front status) node = event_top (FrontLost front) (front_ended front status node)

follow_top : (todo : List Loss) (node : Node) → (follow todo node).top ≡ node.top
follow_top [] node = refl
follow_top (l ∷ ls) node = lose_top l (record node { todo = ls })

-- ---- steps

step_top : (node : Node) (s : Step) → (after_step node s).top ≡ node.top
unfolding after_step
step_top node Follow = follow_top node.todo node
step_top node Hear = hear_top node.told node
step_top node (Handle c s) = on_top (at node.ends c) c s node
step_top node (Look c) = refl
step_top node (Write c m) = refl
step_top node (Forget c) = refl

makes_top : (old : Node) (ss : List Step) (new : Node) → Makes old ss new → new.top ≡ old.top
makes_top old [] new made = ap (λ (x : Node). x.top) made
makes_top old (s ∷ ss) new made = makes_top (after_step old s) ss new made.1 ∙ step_top old s

pub reaches_top : (old new : Node) → Reaches old new → new.top ≡ old.top
reaches_top old new reaches = makes_top old reaches.0 new reaches.1

-- ---- calls

door_up_top : (conn : ℕ) (target early : List ℕ) (node : Node) → (door_up conn target early node).top ≡ node.top
unfolding door_up
door_up_top conn target early node = event_top _ _ ∙ event_top (FrontUp (node.core.fronts.top + 1)) _

whole_top : (conn : ℕ) (target early : List ℕ) (node : Node) → (head_whole conn target early node).top ≡ node.top
whole_top conn target early node = by_bool node.top (has_no_front node) (on_end conn (on_door (door.refused 503)) node) (door_up conn target early node) refl (door_up_top conn target early node)

head_top : (conn : ℕ) (answer : Result ConnectAnswer ConnectError) (node : Node) → (head_came conn answer node).top ≡ node.top
head_top conn (Ok More) node = refl
head_top conn (Ok (Head target early)) node = whole_top conn target early node
head_top conn (Err (Fault fault)) node = refl
head_top conn (Err NoMemory) node = refl

same_top : (old new other : Node) → new ≡ other → other.top ≡ old.top → new.top ≡ old.top
same_top old new other is top = ap (λ (x : Node). x.top) is ∙ top

hears_top : (conn : ℕ) (piece : List ℕ) (front : Option ℕ) (e : Option End) (old new : Node) → DoorHears conn piece front e old new → new.top ≡ old.top
hears_top conn piece None e old new h =
    let heard : Node = record old { ends = h.2; stirred = old.stirred ++ conn ∷ [] } in
    same_top old new (head_came conn h.0 heard) h.4 (head_top conn h.0 heard)
hears_top conn piece (Some front) e old new h = same_top old new _ h refl

bytes_top : (conn : ℕ) (piece : List ℕ) (e : Option End) (old new : Node) → HearsBytes conn piece e old new → new.top ≡ old.top
bytes_top conn piece None old new h = ap (λ (x : Node). x.top) h
bytes_top conn piece (Some (Streams k carrier)) old new h = same_top old new _ h refl
bytes_top conn piece (Some (Connect d)) old new h = hears_top conn piece d.front (Some (Connect d)) old new h

-- the greatest number behind a call
abbrev pub top_after : Called → ℕ → ℕ
top_after (Opened conn kind) top = conn
top_after (Bytes conn piece) top = top
top_after (Took conn count) top = top
top_after (Lost conn) top = top

does_top : (old : Node) (call : Called) (new : Node) → Does old call new → new.top ≡ top_after call old.top
does_top old (Opened conn kind) new does = ap (λ (x : Node). x.top) does
does_top old (Bytes conn piece) new does = bytes_top conn piece (at old.ends conn) old new does
does_top old (Took conn count) new does = same_top old new _ does refl
does_top old (Lost conn) new does = same_top old new _ does refl

pub handling_top : (old : Node) (call : Called) (new : Node) → Handling old call new → new.top ≡ top_after call old.top
handling_top old call new h = reaches_top h.0 new h.2.0 ∙ does_top old call h.0 h.1

-- a connection that is not kept wants nothing, has nothing out, and shuts
pub gone_answers : (node : Node) (n : ℕ) → at node.ends n ≡ None → (wants_of node n ≡ false) × (out_of node n ≡ []) × (shuts_of node n ≡ true)
gone_answers node n gone = (ap (λ e. wants_on node e) gone, ap one.out gone, ap one.shuts gone)
