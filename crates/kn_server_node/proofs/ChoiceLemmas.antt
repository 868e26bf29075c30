-- Each step and each call notes the choices that the core makes at the events that it hears.
use Rattle.std.proofs.Common.{◌≡◌, ℕ, ℤ, ◌+◌, Bool, true, false, cond, List, [], ◌∷◌, ◌++◌, refl, sym, ap, ◌∙◌, subst, codes, pos, inl, inr, ◌⊎◌, filter, append_assoc, append-nil, Option, Some, None, Result, Ok, Err}
use Rattle.kn_hpack.specs.Fields.{Field}
use Rattle.kn_packet.specs.declared.packet.Packet.{Packet}
use Rattle.kn_packet.specs.declared.packet.Packet.TheVariants.{DialReq, DialRsp, CloseReq, CloseRsp, Data, DialCls, Drain, Other}
use Rattle.kn_route.specs.declared.id_kind.IdKind.{IdKind}
use Rattle.kn_grpc.specs.declared.call.Service.{Service}
use Rattle.kn_grpc.specs.declared.call.Service.TheVariants.{Agent, Proxy}
use Rattle.kn_grpc.specs.declared.call.Call.{Call}
use Rattle.kn_grpc.specs.declared.call.CallFault.{CallFault}
use Rattle.kn_grpc.specs.Readers.{First, Less, Whole, Bad}
use Rattle.kn_grpc.specs.Packets.{first_of}
use Rattle.kn_connect.specs.declared.answer.ConnectError.{ConnectError}
use Rattle.kn_connect.specs.declared.answer.ConnectError.TheVariants.{NoMemory, Fault}
use Rattle.kn_connect.specs.declared.answer.ConnectAnswer.{ConnectAnswer}
use Rattle.kn_connect.specs.declared.answer.ConnectAnswer.TheVariants.{More, Head}
use Rattle.kn_h2_state.specs.declared.event.H2Event.{H2Event}
use Rattle.kn_h2_state.specs.declared.event.H2Event.TheVariants as events
use Rattle.kn_server_core.specs.declared.event.ServerOut.{ServerOut}
use Rattle.kn_server_core.specs.declared.event.ServerEvent.{ServerEvent}
use Rattle.kn_server_core.specs.declared.event.ServerEvent.TheVariants.{LinkUp, LinkPacket, LinkLost, FrontUp, FrontPacket, FrontLost}
use Rattle.kn_server_core.specs.declared.event.ServerOut.TheVariants.{ToLink, ToFront, CutLink, Made}
use Rattle.kn_server_core.specs.Server as server
use Rattle.kn_ends.specs.declared.heard.Heard.{Heard}
use Rattle.kn_ends.specs.declared.who.Who.{Who}
use Rattle.kn_ends.specs.declared.who.Who.TheVariants as who
use Rattle.kn_ends.specs.declared.inlet.Inlet.{Inlet}
use Rattle.kn_ends.specs.Carriers.{taken_from}
use Rattle.kn_rising.specs.Members.{at, inserted}
use Rattle.kn_server_node.specs.declared.end.End.{End}
use Rattle.kn_server_node.specs.declared.end.End.TheVariants.{Streams, Connect}
use Rattle.kn_server_node.specs.declared.loss.Loss.{Loss}
use Rattle.kn_server_node.specs.declared.loss.Loss.TheVariants.{OfLink, OfFront}
use Rattle.kn_server_node.specs.declared.node.Node.{Node}
use Rattle.kn_server_node.specs.Ends.{on_carrier, on_door, inlet_in, is_door, given}
use Rattle.kn_server_node.specs.Losing.{with_loss}
use Rattle.kn_server_node.specs.Doors as door
use Rattle.kn_server_node.specs.Nodes.{at_place, on_end, output, outputs, event, is_too_long, link_ended, front_ended, count_up}
use Rattle.kn_server_node.specs.Callers.{place_of, counts, has_no_link, has_no_front, door_up, head_whole, head_came, DoorHears, link_up, front_up, refused_call, over_limit, service_in, call_for, call_came, for_agents_in, opened_by}
use Rattle.kn_server_node.specs.Calls.{Called, Opened, Bytes, Took, Lost, HearsBytes, Does, Handling}
use Rattle.kn_server_node.specs.CoreEvents.{up_events, came_events, opened_events, heard_events, told_events, packet_events, first_events, inlet_events, early_events, handled_events, loss_events, step_events, steps_events, AreOfCall, Hears}
use Rattle.kn_server_core.specs.declared.state.State.{State}
use Rattle.kn_server_core.specs.Runs.{after}
use Rattle.kn_server_node.specs.Steps.{heard, hear, packet_event, handle, handle_inlet, early_event, handle_on, lose, follow, Step, Follow, Hear, Handle, Look, Write, Forget, after_step, Makes}
use Rattle.kn_server_core.specs.declared.choice.Choice.{Choice}
use Rattle.kn_server_core.specs.Choices.{choice_at}
use Rattle.kn_server_core.specs.FrontLists.{is_up}
use Rattle.kn_server_node.specs.declared.chosen.Chosen.{Chosen}
use Rattle.kn_server_node.specs.Choices.{conn_of, asked_by, chosen_for, chosen_at, noted}
use Rattle.kn_server_node.specs.ChoiceRuns.{choices_in, made_by, choices_made}
use Rattle.kn_server_node.proofs.CoreLemmas.{event_core, after_join}

-- a core that heard events, and the choices that were noted at them
record Follows (new : Node) (es : List ServerEvent) (before : State) (choices0 : List Chosen) : Type 0 where
  pub core : new.core ≡ after before es
  pub choices : choices_in new.choices ≡ choices_in choices0 ++ choices_made before es

abbrev Follows_as : Node → List ServerEvent → Node → Type 0
Follows_as old es new = Follows new es old.core old.choices

-- ---- one event

output_choices : (node : Node) (o : ServerOut) → (output node o).choices ≡ node.choices
unfolding output
output_choices node (ToLink link p) = to_link_here (is_too_long node link p)
  where
    to_link_here : (b : Bool) → (cond b (record node { todo = with_loss (OfLink link 14) node.todo }) (at_place (at node.links link) (λ s. given s p) node)).choices ≡ node.choices
    to_link_here true = refl
    to_link_here false = refl
output_choices node (ToFront front p) = refl
output_choices node (CutLink link) = refl
output_choices node (Made dial link front) = refl

outputs_choices : (node : Node) (os : List ServerOut) → (outputs node os).choices ≡ node.choices
outputs_choices node [] = refl
outputs_choices node (o ∷ os) = outputs_choices (output node o) os ∙ output_choices node o

event_choices : (e : ServerEvent) (node : Node) → (event e node).choices ≡ noted (chosen_at node e) node.choices
unfolding event
event_choices e node = ap (noted (chosen_at node e)) (outputs_choices (record node { core = (server.step node.core e).state; todo = [] }) (server.step node.core e).outs)

abbrev core_choice : Option Chosen → Option Choice
core_choice None = None
core_choice (Some c) = Some c.choice

none_if : (b : Bool) (x : Option Choice) → x ≡ cond b x x
none_if true x = refl
none_if false x = refl

asked_is : (conn : Option ℕ) (front : ℕ) (random : ℤ) (choice : Option Choice) → core_choice (asked_by conn front random choice) ≡ choice
asked_is conn front random None = refl
asked_is conn front random (Some choice) = refl

packet_is : (node : Node) (front : ℕ) (p : Packet) → core_choice (chosen_for node front p) ≡ choice_at node.core (FrontPacket front p)
packet_is node front (DialReq protocol address random) = asked_is (conn_of (at node.fronts front)) front random (choice_at node.core (FrontPacket front (DialReq protocol address random)))
packet_is node front (DialRsp error id random) = none_if (is_up front node.core.fronts) None
packet_is node front (CloseReq id) = none_if (is_up front node.core.fronts) None
packet_is node front (CloseRsp error id) = none_if (is_up front node.core.fronts) None
packet_is node front (Data id error bytes) = none_if (is_up front node.core.fronts) None
packet_is node front (DialCls random) = none_if (is_up front node.core.fronts) None
packet_is node front Drain = none_if (is_up front node.core.fronts) None
packet_is node front (Other number) = none_if (is_up front node.core.fronts) None

chosen_is : (node : Node) (e : ServerEvent) → core_choice (chosen_at node e) ≡ choice_at node.core e
chosen_is node (FrontPacket front p) = packet_is node front p
chosen_is node (LinkUp link identifiers) = refl
chosen_is node (LinkPacket link p) = refl
chosen_is node (LinkLost link) = refl
chosen_is node (FrontUp front) = refl
chosen_is node (FrontLost front) = refl

one_more : (cs : List Chosen) (c : Chosen) → choices_in (cs ++ c ∷ []) ≡ choices_in cs ++ c.choice ∷ []
one_more [] c = refl
one_more (d ∷ cs) c = ap (λ ds. d.choice ∷ ds) (one_more cs c)

noted_in : (c : Option Chosen) (cs : List Chosen) → choices_in (noted c cs) ≡ choices_in cs ++ made_by (core_choice c)
noted_in None cs = sym (append-nil (choices_in cs))
noted_in (Some c) cs = one_more cs c

event_follows : (e : ServerEvent) (node : Node) → Follows_as node (e ∷ []) (event e node)
event_follows e node = record {
  core = event_core e node;
  choices = ap choices_in (event_choices e node) ∙ noted_in (chosen_at node e) node.choices
      ∙ ap (λ c. choices_in node.choices ++ made_by c) (chosen_is node e)
      ∙ ap (λ cs. choices_in node.choices ++ cs) (sym (append-nil (made_by (choice_at node.core e))));
}

-- ---- events in turn

none : (new : Node) (before : State) (choices0 : List Chosen) → new.core ≡ before → new.choices ≡ choices0 → Follows new [] before choices0
none new before choices0 c h = record { core = c; choices = ap choices_in h ∙ sym (append-nil (choices_in choices0)) }

made_join : (es fs : List ServerEvent) (s : State) → choices_made s (es ++ fs) ≡ choices_made s es ++ choices_made (after s es) fs
made_join [] fs s = refl
made_join (e ∷ es) fs s =
    ap (λ cs. made_by (choice_at s e) ++ cs) (made_join es fs (server.step s e).state)
    ∙ sym (append_assoc (made_by (choice_at s e)) (choices_made (server.step s e).state es) (choices_made (after (server.step s e).state es) fs))

-- ---- heads

link_up_follows : (conn s : ℕ) (identifiers : List (IdKind × List ℕ)) (node : Node) → Follows_as node (LinkUp (node.core.links.top + 1) identifiers ∷ []) (link_up conn s identifiers node)
unfolding link_up
link_up_follows conn s identifiers node = event_follows (LinkUp (node.core.links.top + 1) identifiers) _

front_up_follows : (conn s : ℕ) (node : Node) → Follows_as node (FrontUp (node.core.fronts.top + 1) ∷ []) (front_up conn s node)
unfolding front_up
front_up_follows conn s node = event_follows (FrontUp (node.core.fronts.top + 1)) _

over_limit_follows : (conn s : ℕ) (node : Node) → Follows_as node [] (over_limit conn s node)
unfolding over_limit
over_limit_follows conn s node = none _ _ _ refl refl

refused_follows : (conn s : ℕ) (fault : CallFault) (node : Node) → Follows_as node [] (refused_call conn s fault node)
unfolding refused_call
refused_follows conn s fault node = none _ _ _ refl refl

follows_if : (node : Node) (b : Bool) (x y : Node) (es fs : List ServerEvent) → Follows_as node es x → Follows_as node fs y → Follows_as node (cond b es fs) (cond b x y)
follows_if node true x y es fs p q = p
follows_if node false x y es fs p q = q

service_follows : (conn s : ℕ) (service : Service) (identifiers : List (IdKind × List ℕ)) (node : Node) → Follows_as node (up_events node service identifiers) (service_in conn s service identifiers node)
service_follows conn s Agent identifiers node = follows_if node (has_no_link node) (over_limit conn s node) (link_up conn s identifiers node) [] _ (over_limit_follows conn s node) (link_up_follows conn s identifiers node)
service_follows conn s Proxy identifiers node = follows_if node (has_no_front node) (over_limit conn s node) (front_up conn s node) [] _ (over_limit_follows conn s node) (front_up_follows conn s node)

came_follows : (conn s : ℕ) (call : Result Call CallFault) (node : Node) → Follows_as node (came_events node call) (call_came conn s call node)
came_follows conn s (Ok call) node = service_follows conn s call.service call.identifiers node
came_follows conn s (Err fault) node = refused_follows conn s fault node

opened_follows : (kind : Option Bool) (conn s : ℕ) (fields : List Field) (node : Node) → Follows_as node (opened_events node kind fields) (opened_by kind conn s fields node)
opened_follows None conn s fields node = none _ _ _ refl refl
opened_follows (Some for_agents) conn s fields node = came_follows conn s (call_for for_agents fields) node

heard_follows : (conn : ℕ) (e : H2Event) (node : Node) → Follows_as node (heard_events node conn e) (heard conn e node)
unfolding heard
heard_follows conn (events.Opened s fields) node = opened_follows (for_agents_in (at node.ends conn)) conn s fields node
heard_follows conn (events.Head s fields) node = none _ _ _ refl refl
heard_follows conn (events.Text s) node = none _ _ _ refl refl
heard_follows conn (events.Ended s) node = none _ _ _ refl refl
heard_follows conn (events.Reset s code) node = none _ _ _ refl refl
heard_follows conn (events.Away code) node = none _ _ _ refl refl
heard_follows conn (events.Closed code) node = none _ _ _ refl refl

hear_follows : (told : List Heard) (node : Node) → Follows_as node (told_events node told) (hear told node)
unfolding hear
hear_follows [] node = none _ _ _ refl refl
hear_follows (x ∷ told) node = heard_follows x.conn x.event (record node { told = told })

-- ---- what is handled

packet_follows : (w : Who) (p : Packet) (node : Node) → Follows_as node (packet_events w p) (packet_event w p node)
packet_follows (who.Link link) p node = event_follows (LinkPacket link p) node
packet_follows (who.Front front) p node = event_follows (FrontPacket front p) node
packet_follows who.Server p node = none _ _ _ refl refl

handle_follows : (conn s : ℕ) (w : Who) (f : First Packet ℕ) (node : Node) → Follows_as node (first_events w f) (handle conn s w f node)
unfolding handle
handle_follows conn s w Less node = none _ _ _ refl refl
handle_follows conn s w (Whole p rest) node = packet_follows w p (record (on_end conn (on_carrier (taken_from s)) node) { handled = count_up node.handled })
handle_follows conn s w (Bad status) node = none _ _ _ refl refl

inlet_follows : (conn s : ℕ) (i : Option Inlet) (node : Node) → Follows_as node (inlet_events i) (handle_inlet conn s i node)
inlet_follows conn s None node = none _ _ _ refl refl
inlet_follows conn s (Some i) node = handle_follows conn s i.who (first_of i.messages.kept) node

early_follows : (front : Option ℕ) (dial : Option ℤ) (bytes : List ℕ) (node : Node) → Follows_as node (early_events front dial bytes) (early_event front dial bytes node)
early_follows (Some front) (Some id) bytes node = event_follows _ node
early_follows (Some front) None bytes node = none _ _ _ refl refl
early_follows None id bytes node = none _ _ _ refl refl

on_follows : (e : Option End) (conn s : ℕ) (node : Node) → Follows_as node (handled_events e s) (handle_on e conn s node)
unfolding handle_on
on_follows None conn s node = none _ _ _ refl refl
on_follows (Some (Streams k carrier)) conn s node = inlet_follows conn s (inlet_in (Some (Streams k carrier)) s) node
on_follows (Some (Connect d)) conn s node = early_follows d.front d.dial d.early (record (on_end conn (on_door door.without_early) node) { handled = count_up node.handled })

lose_follows : (l : Loss) (ls : List Loss) (node : Node) → Follows_as node (loss_events (l ∷ ls)) (lose l node)
unfolding lose
lose_follows (OfLink link status) ls node = event_follows (LinkLost link) (link_ended link status node)
lose_follows (OfFront front status) ls node = event_follows (FrontLost front) (front_ended front status node)

follow_follows : (todo : List Loss) (node : Node) → Follows_as node (loss_events todo) (follow todo node)
follow_follows [] node = none _ _ _ refl refl
follow_follows (l ∷ ls) node = lose_follows l ls (record node { todo = ls })

-- ---- steps

step_follows : (node : Node) (s : Step) → Follows_as node (step_events node s) (after_step node s)
unfolding after_step
step_follows node Follow = follow_follows node.todo node
step_follows node Hear = hear_follows node.told node
step_follows node (Handle c s) = on_follows (at node.ends c) c s node
step_follows node (Look c) = none _ _ _ refl refl
step_follows node (Write c m) = none _ _ _ refl refl
step_follows node (Forget c) = none _ _ _ refl refl

follows_then : (a b c : Node) (es fs : List ServerEvent) → Follows_as a es b → Follows_as b fs c → Follows_as a (es ++ fs) c
follows_then a b c es fs p q = record {
  core = q.core ∙ ap (λ (s : State). after s fs) p.core ∙ sym (after_join es fs a.core);
  choices = q.choices ∙ ap (λ cs. cs ++ choices_made b.core fs) p.choices
      ∙ append_assoc (choices_in a.choices) (choices_made a.core es) (choices_made b.core fs)
      ∙ ap (λ cs. choices_in a.choices ++ cs) (ap (λ (s : State). choices_made a.core es ++ choices_made s fs) p.core ∙ sym (made_join es fs a.core));
}

steps_follows : (old : Node) (ss : List Step) (new : Node) → Makes old ss new → Follows_as old (steps_events old ss) new
steps_follows old [] new made = none new old.core old.choices (ap (λ (x : Node). x.core) made) (ap (λ (x : Node). x.choices) made)
steps_follows old (s ∷ ss) new made = follows_then old (after_step old s) new (step_events old s) (steps_events (after_step old s) ss) (step_follows old s) (steps_follows (after_step old s) ss new made.1)

-- ---- calls

door_up_follows : (conn : ℕ) (target early : List ℕ) (node : Node) → Follows_as node (FrontUp (node.core.fronts.top + 1) ∷ FrontPacket (node.core.fronts.top + 1) (DialReq (codes "tcp") target (pos 0)) ∷ []) (door_up conn target early node)
unfolding door_up
door_up_follows conn target early node =
    let front : ℕ = node.core.fronts.top + 1 in
    let placed : Node = record node { fronts = inserted node.fronts front (place_of conn 0); past_fronts = filter (counts node.ends) node.past_fronts } in
    let begun : Node = on_end conn (on_door (door.begun front early)) placed in
    let asked : ServerEvent = FrontPacket front (DialReq (codes "tcp") target (pos 0)) in
    follows_then node (event (FrontUp front) begun) (event asked (event (FrontUp front) begun)) (FrontUp front ∷ []) (asked ∷ []) (event_follows (FrontUp front) begun) (event_follows asked (event (FrontUp front) begun))

-- what a call itself brings the core
abbrev Brings : Node → Called → Node → Type 0
Brings old call new = (es : List ServerEvent) × AreOfCall old call es × Follows_as old es new

same_follows : (old new other : Node) (es : List ServerEvent) → new ≡ other → Follows_as old es other → Follows_as old es new
same_follows old new other es is heard = subst (λ (x : Node). Follows_as old es x) (sym is) heard

-- a door's head
abbrev AtDoor : ℕ → Node → Node → Type 0
AtDoor front old new = (es : List ServerEvent) × ((es ≡ []) ⊎ ((target : List ℕ) × (es ≡ FrontUp front ∷ FrontPacket front (DialReq (codes "tcp") target (pos 0)) ∷ []))) × Follows_as old es new

whole_follows : (conn : ℕ) (target early : List ℕ) (node : Node) → AtDoor (node.core.fronts.top + 1) node (head_whole conn target early node)
whole_follows conn target early node = whole_here (has_no_front node)
  where
    whole_here : (b : Bool) → AtDoor (node.core.fronts.top + 1) node (cond b (on_end conn (on_door (door.refused 503)) node) (door_up conn target early node))
    whole_here true = ([], inl refl, none _ _ _ refl refl)
    whole_here false = (_, inr (target, refl), door_up_follows conn target early node)

head_follows : (conn : ℕ) (answer : Result ConnectAnswer ConnectError) (node : Node) → AtDoor (node.core.fronts.top + 1) node (head_came conn answer node)
head_follows conn (Ok More) node = ([], inl refl, none _ _ _ refl refl)
head_follows conn (Ok (Head target early)) node = whole_follows conn target early node
head_follows conn (Err (Fault fault)) node = ([], inl refl, none _ _ _ refl refl)
head_follows conn (Err NoMemory) node = ([], inl refl, none _ _ _ refl refl)

hears_follows : (conn : ℕ) (piece : List ℕ) (front : Option ℕ) (e : Option End) (old new : Node) → DoorHears conn piece front e old new → AtDoor (old.core.fronts.top + 1) old new
hears_follows conn piece None e old new h =
    let heard : Node = record old { ends = h.2; stirred = old.stirred ++ conn ∷ [] } in
    let came = head_follows conn h.0 heard in
    (came.0, came.1, same_follows old new (head_came conn h.0 heard) came.0 h.4 came.2)
hears_follows conn piece (Some front) e old new h = ([], inl refl, same_follows old new _ [] h (none _ _ _ refl refl))

at_door : (old : Node) (conn : ℕ) (piece : List ℕ) (new : Node) → is_door (at old.ends conn) ≡ true → AtDoor (old.core.fronts.top + 1) old new → Brings old (Bytes conn piece) new
at_door old conn piece new is (es, inl none, heard) = (es, inl none, heard)
at_door old conn piece new is (es, inr (target, two), heard) = (es, inr (target, is, two), heard)

bytes_follows : (conn : ℕ) (piece : List ℕ) (e : Option End) (old new : Node) → at old.ends conn ≡ e → HearsBytes conn piece e old new → Brings old (Bytes conn piece) new
bytes_follows conn piece None old new is h = ([], inl refl, none new old.core old.choices (ap (λ (x : Node). x.core) h) (ap (λ (x : Node). x.choices) h))
bytes_follows conn piece (Some (Streams k carrier)) old new is h = ([], inl refl, same_follows old new _ [] h (none _ _ _ refl refl))
bytes_follows conn piece (Some (Connect d)) old new is h = at_door old conn piece new (ap is_door is) (hears_follows conn piece d.front (Some (Connect d)) old new h)

does_follows : (old : Node) (call : Called) (new : Node) → Does old call new → Brings old call new
does_follows old (Opened conn kind) new does = ([], refl, none new old.core old.choices (ap (λ (x : Node). x.core) does) (ap (λ (x : Node). x.choices) does))
does_follows old (Bytes conn piece) new does = bytes_follows conn piece (at old.ends conn) old new refl does
does_follows old (Took conn count) new does = ([], refl, same_follows old new _ [] does (none _ _ _ refl refl))
does_follows old (Lost conn) new does = ([], refl, same_follows old new _ [] does (none _ _ _ refl refl))

-- ---- laws

pub calls_note : (old : Node) (call : Called) (new : Node) → Handling old call new → (es : List ServerEvent) × Hears old call new es × (choices_in new.choices ≡ choices_in old.choices ++ choices_made old.core es)
calls_note old call new h =
    let mid : Node = h.0 in
    let steps : List Step = h.2.0.0 in
    let brings = does_follows old call mid h.1 in
    let follows = follows_then old mid new brings.0 (steps_events mid steps) brings.2 (steps_follows mid steps new h.2.0.1) in
    (brings.0 ++ steps_events mid steps, (mid, steps, brings.0, h.1, h.2.0.1, brings.1, brings.2.core, refl), follows.choices)
