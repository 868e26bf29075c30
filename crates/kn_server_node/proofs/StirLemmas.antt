-- What is other than before was stirred.
use Rattle.std.proofs.Common.{◌≡◌, ℕ, ℤ, ◌+◌, Bool, true, false, cond, List, [], ◌∷◌, ◌++◌, length, refl, sym, ap, ◌∙◌, subst, Option, Some, None, Result, Ok, Err}
use Rattle.std.specs.Prelude.{eqb, ◌||◌, filter}
use Rattle.std.proofs.lemmas.Bool.{eqb-true, eqb-false, eq-eqb}
use Rattle.kn_hpack.specs.Fields.{Field}
use Rattle.kn_packet.specs.declared.packet.Packet.{Packet}
use Rattle.kn_route.specs.declared.id_kind.IdKind.{IdKind}
use Rattle.kn_grpc.specs.declared.call.Service.{Service}
use Rattle.kn_grpc.specs.declared.call.Service.TheVariants.{Agent, Proxy}
use Rattle.kn_grpc.specs.declared.call.Call.{Call}
use Rattle.kn_grpc.specs.declared.call.CallFault.{CallFault}
use Rattle.kn_grpc.specs.CallHeads.{refusal_fields}
use Rattle.kn_grpc.specs.Readers.{First, Less, Whole, Bad}
use Rattle.kn_grpc.specs.Packets.{first_of}
use Rattle.kn_connect.specs.declared.answer.ConnectError.{ConnectError}
use Rattle.kn_connect.specs.declared.answer.ConnectError.TheVariants.{NoMemory, Fault}
use Rattle.kn_connect.specs.declared.answer.ConnectAnswer.{ConnectAnswer}
use Rattle.kn_connect.specs.declared.answer.ConnectAnswer.TheVariants.{More, Head}
use Rattle.kn_h2_state.specs.declared.event.H2Event.{H2Event}
use Rattle.kn_h2_state.specs.declared.event.H2Event.TheVariants as events
use Rattle.kn_server_core.specs.declared.event.ServerOut.{ServerOut}
use Rattle.kn_server_core.specs.declared.event.ServerEvent.{ServerEvent}
use Rattle.kn_server_core.specs.declared.event.ServerEvent.TheVariants.{LinkUp, LinkPacket, LinkLost, FrontUp, FrontPacket, FrontLost}
use Rattle.kn_server_core.specs.declared.event.ServerOut.TheVariants.{ToLink, ToFront, CutLink, Made}
use Rattle.kn_server_core.specs.Server as server
use Rattle.kn_ends.specs.declared.heard.Heard.{Heard}
use Rattle.kn_ends.specs.declared.who.Who.{Who}
use Rattle.kn_ends.specs.declared.who.Who.TheVariants as who
use Rattle.kn_ends.specs.declared.inlet.Inlet.{Inlet}
use Rattle.kn_ends.specs.Carriers.{taken_from, after_write, after_read, on_inlet, with_end, with_reset, finish_stream, reset_stream, fed_with, without_events}
use Rattle.kn_rising.specs.Members.{Members, place_in, at, change, inserted}
use Rattle.kn_rising.specs.Stirring.{is_stirred}
use Rattle.kn_server_node.specs.declared.end.End.{End}
use Rattle.kn_server_node.specs.declared.end.End.TheVariants.{Streams, Connect}
use Rattle.kn_server_node.specs.declared.loss.Loss.{Loss}
use Rattle.kn_server_node.specs.declared.loss.Loss.TheVariants.{OfLink, OfFront}
use Rattle.kn_server_node.specs.declared.place.Place.{Place}
use Rattle.kn_server_node.specs.declared.node.Node.{Node}
use Rattle.kn_connect.specs.Statuses.{fault_status}
use Rattle.kn_server_node.specs.Doors as door
use Rattle.kn_server_node.specs.Ends as one
use Rattle.kn_server_node.specs.Ends.{on_carrier, on_door, inlet_in, given, closed, accepted, HearsHead}
use Rattle.kn_server_node.specs.Nodes.{on_end, place_changed, place_stirred, output, outputs, event, is_too_long, link_ended, front_ended, count_up}
use Rattle.kn_server_node.specs.Callers.{collect, answer_fields, answered_call, place_of, has_no_link, has_no_front, door_up, head_whole, head_came, DoorHears, link_up, front_up, refused_call, over_limit, service_in, call_for, call_came, for_agents_in, opened_by, counts}
use Rattle.kn_server_node.specs.Calls.{Called, Opened, Bytes, Took, Lost, HearsBytes, Does, Handling}
use Rattle.kn_server_node.specs.Steps.{heard, hear, packet_event, handle, handle_inlet, early_event, handle_on, lose, follow, Step, Follow, Hear, Handle, Look, Write, Forget, MayDo, after_step, Makes}
use Rattle.kn_server_node.specs.Stirs.{Stirs}
use Rattle.kn_server_node.proofs.MemberLemmas.{length_set, with_others, change_others, change_same, without_others, without_same, inserted_others, inserted_same}

-- ---- numbers

clash : (b : Bool) → b ≡ true → b ≡ false → ⊥
clash true on off = absurd cc
clash false on off = absurd cc

unlike : (c n : ℕ) → (n ≡ c → ⊥) → eqb c n ≡ false
unlike c n apart = by_test (eqb c n) refl
  where
    by_test : (b : Bool) → eqb c n ≡ b → eqb c n ≡ false
    by_test true e = absurd (apart (sym (eqb-true c n e)))
    by_test false e = e

-- who is not among more was not among fewer, and is another than the last
stirred_more : (c n : ℕ) (xs : List ℕ) → is_stirred c (xs ++ n ∷ []) ≡ false → (is_stirred c xs ≡ false) × (eqb c n ≡ false)
stirred_more c n [] none = (refl, by_test (eqb n c) refl none)
  where
    by_test : (b : Bool) → eqb n c ≡ b → (b || false) ≡ false → eqb c n ≡ false
    by_test true e h = absurd cc
    by_test false e h = unlike c n (eqb-false n c e)
stirred_more c n (x ∷ xs) none = by_test (eqb x c) none (stirred_more c n xs)
  where
    by_test : (b : Bool) → (b || is_stirred c (xs ++ n ∷ [])) ≡ false → (is_stirred c (xs ++ n ∷ []) ≡ false → (is_stirred c xs ≡ false) × (eqb c n ≡ false))
        → ((b || is_stirred c xs) ≡ false) × (eqb c n ≡ false)
    by_test true h rest = absurd cc
    by_test false h rest = rest h

pub stirred_last : (n : ℕ) (xs : List ℕ) → is_stirred n (xs ++ n ∷ []) ≡ true
stirred_last n [] = rw (eq-eqb n n refl) refl
stirred_last n (x ∷ xs) = by_test (eqb x n) (stirred_last n xs)
  where
    by_test : (b : Bool) → is_stirred n (xs ++ n ∷ []) ≡ true → (b || is_stirred n (xs ++ n ∷ [])) ≡ true
    by_test true h = refl
    by_test false h = h

-- who is not stirred is another than one that is
differs : (c n : ℕ) (xs : List ℕ) → is_stirred c xs ≡ false → is_stirred n xs ≡ true → eqb c n ≡ false
differs c n xs none some = unlike c n (λ same. clash (is_stirred c xs) (subst (λ x. is_stirred x xs ≡ true) same some) none)

-- ---- who is not stirred at the end was not before, and is the same

abbrev pub KeepsEnds : Members End → List ℕ → Members End → List ℕ → Type 0
KeepsEnds ends stirred later more = length ends.items ≡ length ends.numbers
    → (length later.items ≡ length later.numbers) × ((c : ℕ) → is_stirred c more ≡ false → (is_stirred c stirred ≡ false) × (at later c ≡ at ends c))

abbrev pub Keeps : Node → Node → Type 0
Keeps old new = KeepsEnds old.ends old.stirred new.ends new.stirred

keeps_same : (ends : Members End) (stirred : List ℕ) → KeepsEnds ends stirred ends stirred
keeps_same ends stirred = λ l. (l, λ c none. (none, refl))

keeps_more : (a : Members End) (xs : List ℕ) (b : Members End) (ys : List ℕ) (d : Members End) (zs : List ℕ) → KeepsEnds a xs b ys → KeepsEnds b ys d zs → KeepsEnds a xs d zs
keeps_more a xs b ys d zs first later = λ l. ((later (first l).0).0, λ c none. joined c (first l).1 ((later (first l).0).1 c none))
  where
    joined : (c : ℕ) → ((c : ℕ) → is_stirred c ys ≡ false → (is_stirred c xs ≡ false) × (at b c ≡ at a c)) → (is_stirred c ys ≡ false) × (at d c ≡ at b c)
        → (is_stirred c xs ≡ false) × (at d c ≡ at a c)
    joined c before same = ((before c same.0).0, same.1 ∙ (before c same.0).1)

keeps_then : (a b d : Node) → Keeps a b → Keeps b d → Keeps a d
keeps_then a b d first later = keeps_more a.ends a.stirred b.ends b.stirred d.ends d.stirred first later

change_keeps : (ends : Members End) (stirred : List ℕ) (n : ℕ) (f : End → End) → KeepsEnds ends stirred (change ends n f) (stirred ++ n ∷ [])
change_keeps ends stirred n f = λ l. (change_same ends n f l, λ c none. ((stirred_more c n stirred none).0, change_others ends n c f l (stirred_more c n stirred none).1))

end_keeps : (node : Node) (n : ℕ) (f : End → End) → Keeps node (on_end n f node)
end_keeps node n f = change_keeps node.ends node.stirred n f

place_keeps : (ends : Members End) (stirred : List ℕ) (p : Option Place) (f : ℕ → End → End) → KeepsEnds ends stirred (place_changed p f ends) (place_stirred p stirred)
place_keeps ends stirred None f = keeps_same ends stirred
place_keeps ends stirred (Some p) f = change_keeps ends stirred p.conn (f p.stream)

by_bool : (a : Node) (b : Bool) (x y : Node) → Keeps a x → Keeps a y → Keeps a (cond b x y)
by_bool a true x y p q = p
by_bool a false x y p q = q

-- ---- events of the core

output_keeps : (node : Node) (o : ServerOut) → Keeps node (output node o)
unfolding output
output_keeps node (ToLink link p) = by_bool node (is_too_long node link p) _ _ (keeps_same node.ends node.stirred) (place_keeps node.ends node.stirred (at node.links link) (λ s. given s p))
output_keeps node (ToFront front p) = place_keeps node.ends node.stirred (at node.fronts front) (λ s. given s p)
output_keeps node (CutLink link) = place_keeps node.ends node.stirred (at node.links link) (closed 13)
output_keeps node (Made dial link front) = keeps_same node.ends node.stirred

outputs_keep : (node : Node) (os : List ServerOut) → Keeps node (outputs node os)
outputs_keep node [] = keeps_same node.ends node.stirred
outputs_keep node (o ∷ os) = keeps_then node (output node o) (outputs (output node o) os) (output_keeps node o) (outputs_keep (output node o) os)

event_keeps : (e : ServerEvent) (node : Node) → Keeps node (event e node)
unfolding event
event_keeps e node = outputs_keep (record node { core = (server.step node.core e).state; todo = [] }) (server.step node.core e).outs

-- ---- heads

collect_keeps : (conn : ℕ) (node : Node) → Keeps node (collect conn node)
collect_keeps conn node = change_keeps node.ends node.stirred conn (on_carrier without_events)

-- a change of a connection, and what it told is kept
told_keeps : (conn : ℕ) (f : End → End) (node : Node) → Keeps node (collect conn (on_end conn f node))
told_keeps conn f node = keeps_then node (on_end conn f node) (collect conn (on_end conn f node)) (end_keeps node conn f) (collect_keeps conn (on_end conn f node))

answered_keeps : (conn s : ℕ) (w : Who) (service : Service) (node : Node) → Keeps node (answered_call conn s w service node)
answered_keeps conn s w service node = told_keeps conn (on_carrier (accepted s w (answer_fields node service))) node

link_up_keeps : (conn s : ℕ) (identifiers : List (IdKind × List ℕ)) (node : Node) → Keeps node (link_up conn s identifiers node)
unfolding link_up
link_up_keeps conn s identifiers node =
    let link : ℕ = node.core.links.top + 1 in
    let placed : Node = record node { links = inserted node.links link (place_of conn s); past_links = filter (counts node.ends) node.past_links } in
    let answered : Node = answered_call conn s (who.Link link) Agent placed in
    keeps_then node answered (event (LinkUp link identifiers) answered) (answered_keeps conn s (who.Link link) Agent placed) (event_keeps (LinkUp link identifiers) answered)

front_up_keeps : (conn s : ℕ) (node : Node) → Keeps node (front_up conn s node)
unfolding front_up
front_up_keeps conn s node =
    let front : ℕ = node.core.fronts.top + 1 in
    let placed : Node = record node { fronts = inserted node.fronts front (place_of conn s); past_fronts = filter (counts node.ends) node.past_fronts } in
    let answered : Node = answered_call conn s (who.Front front) Proxy placed in
    keeps_then node answered (event (FrontUp front) answered) (answered_keeps conn s (who.Front front) Proxy placed) (event_keeps (FrontUp front) answered)

over_limit_keeps : (conn s : ℕ) (node : Node) → Keeps node (over_limit conn s node)
unfolding over_limit
over_limit_keeps conn s node = told_keeps conn (on_carrier (reset_stream s 7)) node

refused_keeps : (conn s : ℕ) (fault : CallFault) (node : Node) → Keeps node (refused_call conn s fault node)
unfolding refused_call
refused_keeps conn s fault node = end_keeps node conn (on_carrier (finish_stream s (refusal_fields fault)))

service_keeps : (conn s : ℕ) (service : Service) (identifiers : List (IdKind × List ℕ)) (node : Node) → Keeps node (service_in conn s service identifiers node)
service_keeps conn s Agent identifiers node = by_bool node (has_no_link node) (over_limit conn s node) (link_up conn s identifiers node) (over_limit_keeps conn s node) (link_up_keeps conn s identifiers node)
service_keeps conn s Proxy identifiers node = by_bool node (has_no_front node) (over_limit conn s node) (front_up conn s node) (over_limit_keeps conn s node) (front_up_keeps conn s node)

came_keeps : (conn s : ℕ) (call : Result Call CallFault) (node : Node) → Keeps node (call_came conn s call node)
came_keeps conn s (Ok call) node = service_keeps conn s call.service call.identifiers node
came_keeps conn s (Err fault) node = refused_keeps conn s fault node

opened_keeps : (kind : Option Bool) (conn s : ℕ) (fields : List Field) (node : Node) → Keeps node (opened_by kind conn s fields node)
opened_keeps None conn s fields node = keeps_same node.ends node.stirred
opened_keeps (Some for_agents) conn s fields node = came_keeps conn s (call_for for_agents fields) node

heard_keeps : (conn : ℕ) (e : H2Event) (node : Node) → Keeps node (heard conn e node)
unfolding heard
heard_keeps conn (events.Opened s fields) node = opened_keeps (for_agents_in (at node.ends conn)) conn s fields node
heard_keeps conn (events.Head s fields) node = keeps_same node.ends node.stirred
heard_keeps conn (events.Text s) node = end_keeps node conn (on_carrier (after_read s))
heard_keeps conn (events.Ended s) node = end_keeps node conn (on_carrier (on_inlet s with_end))
heard_keeps conn (events.Reset s code) node = end_keeps node conn (on_carrier (on_inlet s with_reset))
heard_keeps conn (events.Away code) node = keeps_same node.ends node.stirred
heard_keeps conn (events.Closed code) node = keeps_same node.ends node.stirred

hear_keeps : (told : List Heard) (node : Node) → Keeps node (hear told node)
unfolding hear
hear_keeps [] node = keeps_same node.ends node.stirred
hear_keeps (x ∷ told) node = heard_keeps x.conn x.event (record node { told = told })

-- ---- what is handled

packet_keeps : (w : Who) (p : Packet) (node : Node) → Keeps node (packet_event w p node)
packet_keeps (who.Link link) p node = event_keeps (LinkPacket link p) node
packet_keeps (who.Front front) p node = event_keeps (FrontPacket front p) node
packet_keeps who.Server p node = keeps_same node.ends node.stirred

handle_keeps : (conn s : ℕ) (w : Who) (f : First Packet ℕ) (node : Node) → Keeps node (handle conn s w f node)
unfolding handle
handle_keeps conn s w Less node = keeps_same node.ends node.stirred
handle_keeps conn s w (Whole p rest) node =
    let taken : Node = record (on_end conn (on_carrier (taken_from s)) node) { handled = count_up node.handled } in
    keeps_then node taken (packet_event w p taken) (end_keeps node conn (on_carrier (taken_from s))) (packet_keeps w p taken)
handle_keeps conn s w (Bad status) node = keeps_same node.ends node.stirred

inlet_keeps : (conn s : ℕ) (i : Option Inlet) (node : Node) → Keeps node (handle_inlet conn s i node)
inlet_keeps conn s None node = keeps_same node.ends node.stirred
inlet_keeps conn s (Some i) node = handle_keeps conn s i.who (first_of i.messages.kept) node

early_keeps : (front : Option ℕ) (dial : Option ℤ) (bytes : List ℕ) (node : Node) → Keeps node (early_event front dial bytes node)
early_keeps (Some front) (Some id) bytes node = event_keeps _ node
early_keeps (Some front) None bytes node = keeps_same node.ends node.stirred
early_keeps None id bytes node = keeps_same node.ends node.stirred

on_keeps : (e : Option End) (conn s : ℕ) (node : Node) → Keeps node (handle_on e conn s node)
unfolding handle_on
on_keeps None conn s node = keeps_same node.ends node.stirred
on_keeps (Some (Streams k carrier)) conn s node = inlet_keeps conn s (inlet_in (Some (Streams k carrier)) s) node
on_keeps (Some (Connect d)) conn s node =
    let emptied : Node = record (on_end conn (on_door door.without_early) node) { handled = count_up node.handled } in
    keeps_then node emptied (early_event d.front d.dial d.early emptied) (end_keeps node conn (on_door door.without_early)) (early_keeps d.front d.dial d.early emptied)

lose_keeps : (l : Loss) (node : Node) → Keeps node (lose l node)
unfolding lose
lose_keeps (OfLink link status) node =
    keeps_then node (link_ended link status node) (event (LinkLost link) (link_ended link status node)) (place_keeps node.ends node.stirred (at node.links link) (closed status)) (event_keeps (LinkLost link) (link_ended link status node))
lose_keeps (OfFront front status) node =
    keeps_then node (front_ended front status node) (event (FrontLost front) (front_ended front status node)) (place_keeps node.ends node.stirred (at node.fronts front) (closed status)) (event_keeps (FrontLost front) (front_ended front status node))

follow_keeps : (todo : List Loss) (node : Node) → Keeps node (follow todo node)
follow_keeps [] node = keeps_same node.ends node.stirred
follow_keeps (l ∷ ls) node = lose_keeps l (record node { todo = ls })

-- ---- steps

step_keeps : (node : Node) (s : Step) → MayDo node s → Keeps node (after_step node s)
unfolding after_step
step_keeps node Follow may = follow_keeps node.todo node
step_keeps node Hear may = hear_keeps node.told node
step_keeps node (Handle c s) may = on_keeps (at node.ends c) c s node
step_keeps node (Look c) may = λ l. (l, λ d none. ((stirred_more d c node.stirred none).0, refl))
step_keeps node (Write c m) may = λ l.
    (change_same node.ends c (on_carrier (after_write m)) l, λ d none. (none, change_others node.ends c d (on_carrier (after_write m)) l (differs d c node.stirred none may.0)))
step_keeps node (Forget c) may = λ l. (without_same node.ends c l, λ d none. (none, without_others node.ends c d l (differs d c node.stirred none may.0)))

-- what another node keeps, one that is the same does
is_keeps : (old new other : Node) → new ≡ other → Keeps old other → Keeps old new
is_keeps old new other is keeps = subst (λ x. Keeps old x) (sym is) keeps

makes_keep : (old : Node) (ss : List Step) (new : Node) → Makes old ss new → Keeps old new
makes_keep old [] new made = is_keeps old new old made (keeps_same old.ends old.stirred)
makes_keep old (s ∷ ss) new made = keeps_then old (after_step old s) new (step_keeps old s made.0) (makes_keep (after_step old s) ss new made.1)

-- ---- calls

door_up_keeps : (conn : ℕ) (target early : List ℕ) (node : Node) → Keeps node (door_up conn target early node)
unfolding door_up
door_up_keeps conn target early node =
    let front : ℕ = node.core.fronts.top + 1 in
    let placed : Node = record node { fronts = inserted node.fronts front (place_of conn 0); past_fronts = filter (counts node.ends) node.past_fronts } in
    let begun : Node = on_end conn (on_door (door.begun front early)) placed in
    let up : Node = event (FrontUp front) begun in
    keeps_then node up (door_up conn target early node) (keeps_then node begun up (end_keeps placed conn (on_door (door.begun front early))) (event_keeps (FrontUp front) begun)) (event_keeps _ up)

whole_keeps : (conn : ℕ) (target early : List ℕ) (node : Node) → Keeps node (head_whole conn target early node)
whole_keeps conn target early node =
    by_bool node (has_no_front node) (on_end conn (on_door (door.refused 503)) node) (door_up conn target early node) (end_keeps node conn (on_door (door.refused 503))) (door_up_keeps conn target early node)

came_on_head : (conn : ℕ) (answer : Result ConnectAnswer ConnectError) (node : Node) → Keeps node (head_came conn answer node)
came_on_head conn (Ok More) node = keeps_same node.ends node.stirred
came_on_head conn (Ok (Head target early)) node = whole_keeps conn target early node
came_on_head conn (Err (Fault fault)) node = end_keeps node conn (on_door (door.refused (fault_status fault)))
came_on_head conn (Err NoMemory) node = keeps_same node.ends node.stirred

-- the head of a door heard more bytes
head_keeps : (conn : ℕ) (piece : List ℕ) (e : Option End) (old : Members End) (stirred : List ℕ) (answer : Result ConnectAnswer ConnectError) (new : Members End)
    → HearsHead conn piece e old answer new → KeepsEnds old stirred new (stirred ++ conn ∷ [])
head_keeps conn piece None old stirred answer new h = λ l. (rw h l, λ c none. ((stirred_more c conn stirred none).0, rw h refl))
head_keeps conn piece (Some e) old stirred answer new h = λ l.
    (rw h.2 (length_set old.items (place_in old.numbers conn) h.0 ∙ l), λ c none. ((stirred_more c conn stirred none).0, rw h.2 (with_others old.numbers old.items conn c h.0 l (stirred_more c conn stirred none).1)))

hears_keep : (conn : ℕ) (piece : List ℕ) (front : Option ℕ) (e : Option End) (old new : Node) → DoorHears conn piece front e old new → Keeps old new
hears_keep conn piece None e old new h =
    let heard : Node = record old { ends = h.2; stirred = old.stirred ++ conn ∷ [] } in
    is_keeps old new (head_came conn h.0 heard) h.4 (keeps_then old heard (head_came conn h.0 heard) (head_keeps conn piece e old.ends old.stirred h.0 h.2 h.3) (came_on_head conn h.0 heard))
hears_keep conn piece (Some front) e old new h = is_keeps old new _ h (end_keeps old conn (on_door (door.with_early piece)))

bytes_keep : (conn : ℕ) (piece : List ℕ) (e : Option End) (old new : Node) → HearsBytes conn piece e old new → Keeps old new
bytes_keep conn piece None old new h = is_keeps old new old h (keeps_same old.ends old.stirred)
bytes_keep conn piece (Some (Streams k carrier)) old new h = is_keeps old new _ h (told_keeps conn (on_carrier (fed_with piece)) old)
bytes_keep conn piece (Some (Connect d)) old new h = hears_keep conn piece d.front (Some (Connect d)) old new h

does_keep : (old : Node) (call : Called) (new : Node) → Does old call new → Keeps old new
does_keep old (Opened conn kind) new does = is_keeps old new _ does
    (λ l. (inserted_same old.ends conn (one.fresh_end kind) l, λ c none. ((stirred_more c conn old.stirred none).0, inserted_others old.ends conn c (one.fresh_end kind) l (stirred_more c conn old.stirred none).1)))
does_keep old (Bytes conn piece) new does = bytes_keep conn piece (at old.ends conn) old new does
does_keep old (Took conn count) new does = is_keeps old new _ does (end_keeps old conn (one.took count))
does_keep old (Lost conn) new does = is_keeps old new _ does (end_keeps old conn one.lost)

kept_stirs : (old new : Node) → length old.ends.items ≡ length old.ends.numbers → Keeps old new → Stirs old new
kept_stirs old new l keeps = λ c. (λ some. still c some (is_stirred c new.stirred) refl, λ none. (ap one.out ((keeps l).1 c none).1, ap one.shuts ((keeps l).1 c none).1))
  where
    still : (c : ℕ) → is_stirred c old.stirred ≡ true → (b : Bool) → is_stirred c new.stirred ≡ b → is_stirred c new.stirred ≡ true
    still c some true is = is
    still c some false is = absurd (clash (is_stirred c old.stirred) some ((keeps l).1 c is).0)

pub handling_stirs : (old : Node) (call : Called) (new : Node) → length old.ends.items ≡ length old.ends.numbers → Handling old call new → Stirs old new
handling_stirs old call new l h = kept_stirs old new l (keeps_then old h.0 new (does_keep old call h.0 h.1) (makes_keep h.0 h.2.0.0 new h.2.0.1))
