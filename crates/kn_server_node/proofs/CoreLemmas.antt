-- Each step and each call is events that the core hears.
use Rattle.std.proofs.Common.{◌≡◌, ℕ, ℤ, ◌+◌, Bool, true, false, cond, List, [], ◌∷◌, ◌++◌, refl, sym, ap, ◌∙◌, subst, codes, pos, inl, inr, ◌⊎◌, Option, Some, None, Result, Ok, Err}
use Rattle.kn_hpack.specs.Fields.{Field}
use Rattle.kn_packet.specs.declared.packet.Packet.{Packet}
use Rattle.kn_packet.specs.declared.packet.Packet.TheVariants.{DialReq}
use Rattle.kn_route.specs.declared.id_kind.IdKind.{IdKind}
use Rattle.kn_grpc.specs.declared.call.Service.{Service}
use Rattle.kn_grpc.specs.declared.call.Service.TheVariants.{Agent, Proxy}
use Rattle.kn_grpc.specs.declared.call.Call.{Call}
use Rattle.kn_grpc.specs.declared.call.CallFault.{CallFault}
use Rattle.kn_grpc.specs.Readers.{First, Less, Whole, Bad}
use Rattle.kn_grpc.specs.Packets.{first_of}
use Rattle.kn_connect.specs.declared.answer.ConnectError.{ConnectError}
use Rattle.kn_connect.specs.declared.answer.ConnectError.TheVariants.{NoMemory, Fault}
use Rattle.kn_connect.specs.declared.answer.ConnectAnswer.{ConnectAnswer}
use Rattle.kn_connect.specs.declared.answer.ConnectAnswer.TheVariants.{More, Head}
use Rattle.kn_h2_state.specs.declared.event.H2Event.{H2Event}
use Rattle.kn_h2_state.specs.declared.event.H2Event.TheVariants as events
use Rattle.kn_server_core.specs.declared.event.ServerOut.{ServerOut}
use Rattle.kn_server_core.specs.declared.event.ServerEvent.{ServerEvent}
use Rattle.kn_server_core.specs.declared.event.ServerEvent.TheVariants.{LinkUp, LinkPacket, LinkLost, FrontUp, FrontPacket, FrontLost}
use Rattle.kn_server_core.specs.declared.event.ServerOut.TheVariants.{ToLink, ToFront, CutLink, Made}
use Rattle.kn_server_core.specs.Server as server
use Rattle.kn_ends.specs.declared.heard.Heard.{Heard}
use Rattle.kn_ends.specs.declared.who.Who.{Who}
use Rattle.kn_ends.specs.declared.who.Who.TheVariants as who
use Rattle.kn_ends.specs.declared.inlet.Inlet.{Inlet}
use Rattle.kn_ends.specs.Carriers.{taken_from}
use Rattle.kn_rising.specs.Members.{at}
use Rattle.kn_server_node.specs.declared.end.End.{End}
use Rattle.kn_server_node.specs.declared.end.End.TheVariants.{Streams, Connect}
use Rattle.kn_server_node.specs.declared.loss.Loss.{Loss}
use Rattle.kn_server_node.specs.declared.loss.Loss.TheVariants.{OfLink, OfFront}
use Rattle.kn_server_node.specs.declared.node.Node.{Node}
use Rattle.kn_server_node.specs.Ends.{on_carrier, on_door, inlet_in, is_door, given}
use Rattle.kn_server_node.specs.Losing.{with_loss}
use Rattle.kn_server_node.specs.Doors as door
use Rattle.kn_server_node.specs.Nodes.{at_place, on_end, output, outputs, event, is_too_long, link_ended, front_ended, count_up}
use Rattle.kn_server_node.specs.Callers.{has_no_link, has_no_front, door_up, head_whole, head_came, DoorHears, link_up, front_up, refused_call, over_limit, service_in, call_for, call_came, for_agents_in, opened_by}
use Rattle.kn_server_node.specs.Calls.{Called, Opened, Bytes, Took, Lost, HearsBytes, Does, Handling, start}
use Rattle.kn_server_node.specs.CoreEvents.{up_events, came_events, opened_events, heard_events, told_events, packet_events, first_events, inlet_events, early_events, handled_events, loss_events, step_events, steps_events, AreOfCall, Hears, Runs}
use Rattle.kn_server_core.specs.declared.state.State.{State}
use Rattle.kn_server_core.specs.Runs.{Tunnel, Opens, turn_at, after, history, CarriesBoth, IsOfOthers}
use Rattle.kn_server_core.specs.Isolation.{Each, IsOrderly}
use Rattle.kn_server_core.proofs.ReachedLemmas.{orderly_kept, orderly_start}
use Rattle.kn_server_core.proofs.TunnelRuns.{carries, steady}
use Rattle.kn_tables.specs.declared.held_entry.HeldEntry.{HeldEntry}
use Rattle.kn_tables.specs.Lists.{first_where}
use Rattle.kn_tables.specs.Holding.{is_held_dial}
use Rattle.kn_route.specs.declared.strategy.Strategy.{Strategy}
use Rattle.kn_server_node.specs.Steps.{heard, hear, packet_event, handle, handle_inlet, early_event, handle_on, lose, follow, Step, Follow, Hear, Handle, Look, Write, Forget, after_step, Makes}

abbrev pub Heard_as : Node → List ServerEvent → Node → Type 0
Heard_as old es new = new.core ≡ after old.core es

output_core : (node : Node) (o : ServerOut) → (output node o).core ≡ node.core
unfolding output
output_core node (ToLink link p) = to_link_here (is_too_long node link p)
  where
    to_link_here : (b : Bool) → (cond b (record node { todo = with_loss (OfLink link 14) node.todo }) (at_place (at node.links link) (λ s. given s p) node)).core ≡ node.core
    to_link_here true = refl
    to_link_here false = refl
output_core node (ToFront front p) = refl
output_core node (CutLink link) = refl
output_core node (Made dial link front) = refl

outputs_core : (node : Node) (os : List ServerOut) → (outputs node os).core ≡ node.core
outputs_core node [] = refl
outputs_core node (o ∷ os) = outputs_core (output node o) os ∙ output_core node o

pub event_core : (e : ServerEvent) (node : Node) → (event e node).core ≡ (server.step node.core e).state
unfolding event
event_core e node = outputs_core (record node { core = (server.step node.core e).state; todo = [] }) (server.step node.core e).outs

-- ---- heads

link_up_core : (conn s : ℕ) (identifiers : List (IdKind × List ℕ)) (node : Node) → Heard_as node (LinkUp (node.core.links.top + 1) identifiers ∷ []) (link_up conn s identifiers node)
unfolding link_up
link_up_core conn s identifiers node = event_core (LinkUp (node.core.links.top + 1) identifiers) _

front_up_core : (conn s : ℕ) (node : Node) → Heard_as node (FrontUp (node.core.fronts.top + 1) ∷ []) (front_up conn s node)
unfolding front_up
front_up_core conn s node = event_core (FrontUp (node.core.fronts.top + 1)) _

over_limit_core : (conn s : ℕ) (node : Node) → Heard_as node [] (over_limit conn s node)
unfolding over_limit
over_limit_core conn s node = refl

refused_core : (conn s : ℕ) (fault : CallFault) (node : Node) → Heard_as node [] (refused_call conn s fault node)
unfolding refused_call
refused_core conn s fault node = refl

heard_if : (node : Node) (b : Bool) (x y : Node) (es fs : List ServerEvent) → Heard_as node es x → Heard_as node fs y → Heard_as node (cond b es fs) (cond b x y)
heard_if node true x y es fs p q = p
heard_if node false x y es fs p q = q

service_core : (conn s : ℕ) (service : Service) (identifiers : List (IdKind × List ℕ)) (node : Node) → Heard_as node (up_events node service identifiers) (service_in conn s service identifiers node)
service_core conn s Agent identifiers node = heard_if node (has_no_link node) (over_limit conn s node) (link_up conn s identifiers node) [] _ (over_limit_core conn s node) (link_up_core conn s identifiers node)
service_core conn s Proxy identifiers node = heard_if node (has_no_front node) (over_limit conn s node) (front_up conn s node) [] _ (over_limit_core conn s node) (front_up_core conn s node)

came_core : (conn s : ℕ) (call : Result Call CallFault) (node : Node) → Heard_as node (came_events node call) (call_came conn s call node)
came_core conn s (Ok call) node = service_core conn s call.service call.identifiers node
came_core conn s (Err fault) node = refused_core conn s fault node

opened_core : (kind : Option Bool) (conn s : ℕ) (fields : List Field) (node : Node) → Heard_as node (opened_events node kind fields) (opened_by kind conn s fields node)
opened_core None conn s fields node = refl
opened_core (Some for_agents) conn s fields node = came_core conn s (call_for for_agents fields) node

heard_core : (conn : ℕ) (e : H2Event) (node : Node) → Heard_as node (heard_events node conn e) (heard conn e node)
unfolding heard
heard_core conn (events.Opened s fields) node = opened_core (for_agents_in (at node.ends conn)) conn s fields node
heard_core conn (events.Head s fields) node = refl
heard_core conn (events.Text s) node = refl
heard_core conn (events.Ended s) node = refl
heard_core conn (events.Reset s code) node = refl
heard_core conn (events.Away code) node = refl
heard_core conn (events.Closed code) node = refl

hear_core : (told : List Heard) (node : Node) → Heard_as node (told_events node told) (hear told node)
unfolding hear
hear_core [] node = refl
hear_core (x ∷ told) node = heard_core x.conn x.event (record node { told = told })

-- ---- what is handled

packet_core : (w : Who) (p : Packet) (node : Node) → Heard_as node (packet_events w p) (packet_event w p node)
packet_core (who.Link link) p node = event_core (LinkPacket link p) node
packet_core (who.Front front) p node = event_core (FrontPacket front p) node
packet_core who.Server p node = refl

handle_core : (conn s : ℕ) (w : Who) (f : First Packet ℕ) (node : Node) → Heard_as node (first_events w f) (handle conn s w f node)
unfolding handle
handle_core conn s w Less node = refl
handle_core conn s w (Whole p rest) node = packet_core w p (record (on_end conn (on_carrier (taken_from s)) node) { handled = count_up node.handled })
handle_core conn s w (Bad status) node = refl

inlet_core : (conn s : ℕ) (i : Option Inlet) (node : Node) → Heard_as node (inlet_events i) (handle_inlet conn s i node)
inlet_core conn s None node = refl
inlet_core conn s (Some i) node = handle_core conn s i.who (first_of i.messages.kept) node

early_core : (front : Option ℕ) (dial : Option ℤ) (bytes : List ℕ) (node : Node) → Heard_as node (early_events front dial bytes) (early_event front dial bytes node)
early_core (Some front) (Some id) bytes node = event_core _ node
early_core (Some front) None bytes node = refl
early_core None id bytes node = refl

on_core : (e : Option End) (conn s : ℕ) (node : Node) → Heard_as node (handled_events e s) (handle_on e conn s node)
unfolding handle_on
on_core None conn s node = refl
on_core (Some (Streams k carrier)) conn s node = inlet_core conn s (inlet_in (Some (Streams k carrier)) s) node
on_core (Some (Connect d)) conn s node = early_core d.front d.dial d.early (record (on_end conn (on_door door.without_early) node) { handled = count_up node.handled })

lose_core : (l : Loss) (ls : List Loss) (node : Node) → Heard_as node (loss_events (l ∷ ls)) (lose l node)
unfolding lose
lose_core (OfLink link status) ls node = event_core (LinkLost link) (link_ended link status node)
lose_core (OfFront front status) ls node = event_core (FrontLost front) (front_ended front status node)

follow_core : (todo : List Loss) (node : Node) → Heard_as node (loss_events todo) (follow todo node)
follow_core [] node = refl
follow_core (l ∷ ls) node = lose_core l ls (record node { todo = ls })

-- ---- steps

step_core : (node : Node) (s : Step) → Heard_as node (step_events node s) (after_step node s)
unfolding after_step
step_core node Follow = follow_core node.todo node
step_core node Hear = hear_core node.told node
step_core node (Handle c s) = on_core (at node.ends c) c s node
step_core node (Look c) = refl
step_core node (Write c m) = refl
step_core node (Forget c) = refl

-- events in turn
pub after_join : (es fs : List ServerEvent) (s : State) → after s (es ++ fs) ≡ after (after s es) fs
after_join [] fs s = refl
after_join (e ∷ es) fs s = after_join es fs (server.step s e).state

heard_then : (a b c : Node) (es fs : List ServerEvent) → Heard_as a es b → Heard_as b fs c → Heard_as a (es ++ fs) c
heard_then a b c es fs p q = q ∙ ap (λ (s : State). after s fs) p ∙ sym (after_join es fs a.core)

steps_core : (old : Node) (ss : List Step) (new : Node) → Makes old ss new → Heard_as old (steps_events old ss) new
steps_core old [] new made = ap (λ (x : Node). x.core) made
steps_core old (s ∷ ss) new made = heard_then old (after_step old s) new (step_events old s) (steps_events (after_step old s) ss) (step_core old s) (steps_core (after_step old s) ss new made.1)

-- ---- calls

door_up_core : (conn : ℕ) (target early : List ℕ) (node : Node) → Heard_as node (FrontUp (node.core.fronts.top + 1) ∷ FrontPacket (node.core.fronts.top + 1) (DialReq (codes "tcp") target (pos 0)) ∷ []) (door_up conn target early node)
unfolding door_up
door_up_core conn target early node =
    let front : ℕ = node.core.fronts.top + 1 in
    event_core (FrontPacket front (DialReq (codes "tcp") target (pos 0))) _ ∙ ap (λ (s : State). (server.step s (FrontPacket front (DialReq (codes "tcp") target (pos 0)))).state) (event_core (FrontUp front) _)

-- what a call itself brings the core
abbrev pub Brings : Node → Called → Node → Type 0
Brings old call new = (es : List ServerEvent) × AreOfCall old call es × Heard_as old es new

same_heard : (old new other : Node) (es : List ServerEvent) → new ≡ other → Heard_as old es other → Heard_as old es new
same_heard old new other es is heard = ap (λ (x : Node). x.core) is ∙ heard

-- a door's head
abbrev pub AtDoor : ℕ → Node → Node → Type 0
AtDoor front old new = (es : List ServerEvent) × ((es ≡ []) ⊎ ((target : List ℕ) × (es ≡ FrontUp front ∷ FrontPacket front (DialReq (codes "tcp") target (pos 0)) ∷ []))) × Heard_as old es new

whole_core : (conn : ℕ) (target early : List ℕ) (node : Node) → AtDoor (node.core.fronts.top + 1) node (head_whole conn target early node)
whole_core conn target early node = whole_here (has_no_front node)
  where
    whole_here : (b : Bool) → AtDoor (node.core.fronts.top + 1) node (cond b (on_end conn (on_door (door.refused 503)) node) (door_up conn target early node))
    whole_here true = ([], inl refl, refl)
    whole_here false = (_, inr (target, refl), door_up_core conn target early node)

head_core : (conn : ℕ) (answer : Result ConnectAnswer ConnectError) (node : Node) → AtDoor (node.core.fronts.top + 1) node (head_came conn answer node)
head_core conn (Ok More) node = ([], inl refl, refl)
head_core conn (Ok (Head target early)) node = whole_core conn target early node
head_core conn (Err (Fault fault)) node = ([], inl refl, refl)
head_core conn (Err NoMemory) node = ([], inl refl, refl)

hears_core : (conn : ℕ) (piece : List ℕ) (front : Option ℕ) (e : Option End) (old new : Node) → DoorHears conn piece front e old new → AtDoor (old.core.fronts.top + 1) old new
hears_core conn piece None e old new h =
    let heard : Node = record old { ends = h.2; stirred = old.stirred ++ conn ∷ [] } in
    let came = head_core conn h.0 heard in
    (came.0, came.1, same_heard old new (head_came conn h.0 heard) came.0 h.4 came.2)
hears_core conn piece (Some front) e old new h = ([], inl refl, same_heard old new _ [] h refl)

at_door : (old : Node) (conn : ℕ) (piece : List ℕ) (new : Node) → is_door (at old.ends conn) ≡ true → AtDoor (old.core.fronts.top + 1) old new → Brings old (Bytes conn piece) new
at_door old conn piece new is (es, inl none, heard) = (es, inl none, heard)
at_door old conn piece new is (es, inr (target, two), heard) = (es, inr (target, is, two), heard)

bytes_core : (conn : ℕ) (piece : List ℕ) (e : Option End) (old new : Node) → at old.ends conn ≡ e → HearsBytes conn piece e old new → Brings old (Bytes conn piece) new
bytes_core conn piece None old new is h = ([], inl refl, ap (λ (x : Node). x.core) h)
bytes_core conn piece (Some (Streams k carrier)) old new is h = ([], inl refl, same_heard old new _ [] h refl)
bytes_core conn piece (Some (Connect d)) old new is h = at_door old conn piece new (ap is_door is) (hears_core conn piece d.front (Some (Connect d)) old new h)

does_core : (old : Node) (call : Called) (new : Node) → Does old call new → Brings old call new
does_core old (Opened conn kind) new does = ([], refl, ap (λ (x : Node). x.core) does)
does_core old (Bytes conn piece) new does = bytes_core conn piece (at old.ends conn) old new refl does
does_core old (Took conn count) new does = ([], refl, same_heard old new _ [] does refl)
does_core old (Lost conn) new does = ([], refl, same_heard old new _ [] does refl)

-- ---- laws

pub calls_heard : (old : Node) (call : Called) (new : Node) → Handling old call new → (es : List ServerEvent) × Hears old call new es × (new.core ≡ after old.core es)
calls_heard old call new h =
    let mid : Node = h.0 in
    let steps : List Step = h.2.0.0 in
    let brings = does_core old call mid h.1 in
    (brings.0 ++ steps_events mid steps, (mid, steps, brings.0, h.1, h.2.0.1, brings.1, brings.2, refl), heard_then old mid new brings.0 (steps_events mid steps) brings.2 (steps_core mid steps new h.2.0.1))

hears_as : (old : Node) (call : Called) (new : Node) (es : List ServerEvent) → Hears old call new es → Heard_as old es new
hears_as old call new es (mid, steps, own, does, made, of_call, core, is) =
    subst (λ x. Heard_as old x new) (sym is) (heard_then old mid new own (steps_events mid steps) core (steps_core mid steps new made))

runs_as : (old : Node) (calls : List Called) (new : Node) (es : List ServerEvent) → Runs old calls new es → Heard_as old es new
runs_as old [] new es (is, none) = subst (λ x. Heard_as old x new) (sym none) (ap (λ (x : Node). x.core) is)
runs_as old (call ∷ calls) new es (mid, first, rest, hears, runs, is) =
    subst (λ x. Heard_as old x new) (sym is) (heard_then old mid new first rest (hears_as old call mid first hears) (runs_as mid calls new rest runs))

pub bytes_stay : (strategies : List Strategy) (id : List ℕ) (count : ℕ) (calls : List Called) (node : Node) (es : List ServerEvent) → Runs (start strategies id count) calls node es
    → (node.core ≡ after (server.start strategies) es)
    × ((before : List ServerEvent) (reply : ServerEvent) (later : List ServerEvent) (t : Tunnel) → es ≡ before ++ reply ∷ later → Opens t (turn_at (after (server.start strategies) before) reply)
    → CarriesBoth t (history (server.step (after (server.start strategies) before) reply).state later))
bytes_stay strategies id count calls node es runs = (runs_as (start strategies id count) calls node es runs, λ before reply later t is opens. carries strategies before reply later t opens)

orderly_after : (es : List ServerEvent) (s : State) → IsOrderly s → IsOrderly (after s es)
orderly_after [] s o = o
orderly_after (e ∷ es) s o = orderly_after es (server.step s e).state (orderly_kept s e o)

pub cores_orderly : (strategies : List Strategy) (id : List ℕ) (count : ℕ) (calls : List Called) (node : Node) (es : List ServerEvent) → Runs (start strategies id count) calls node es → IsOrderly node.core
cores_orderly strategies id count calls node es runs = subst (λ (s : State). IsOrderly s) (sym (runs_as (start strategies id count) calls node es runs)) (orderly_after es (server.start strategies) (orderly_start strategies))

pub others_stay : (old : Node) (call : Called) (new : Node) (es : List ServerEvent) (e : HeldEntry) → IsOrderly old.core → Hears old call new es
    → first_where (is_held_dial e.dial) old.core.held ≡ Some e → Each (IsOfOthers e) es → first_where (is_held_dial e.dial) new.core.held ≡ Some e
others_stay old call new es e o hears found each = subst (λ (s : State). first_where (is_held_dial e.dial) s.held ≡ Some e) (sym (hears_as old call new es hears)) (steady es old.core e o found each)
