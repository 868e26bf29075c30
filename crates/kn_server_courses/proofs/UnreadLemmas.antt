-- Whatever comes, what is not read of a stream is told: through each deed.
use Rattle.std.proofs.Common.{◌≡◌, ◌⊎◌, inl, inr, ℕ, ℤ, pos, ◌+◌, Bool, true, false, cond, eqb, List, [], ◌∷◌, ◌++◌, codes, Option, Some, None, Result, Ok, Err, refl, sym, ap, ◌∙◌, subst, arith}
use Rattle.std.specs.Prelude.{filter}
use Rattle.std.proofs.lemmas.Bool.{eqb-true, eqb-false, eq-eqb, ne_eqb}
use Rattle.kn_hpack.specs.Fields.{Field}
use Rattle.kn_packet.specs.declared.packet.Packet.{Packet}
use Rattle.kn_packet.specs.declared.packet.Packet.TheVariants.{DialReq, Data}
use Rattle.kn_route.specs.declared.strategy.Strategy.{Strategy}
use Rattle.kn_route.specs.declared.id_kind.IdKind.{IdKind}
use Rattle.kn_connect.specs.declared.answer.ConnectError.{ConnectError}
use Rattle.kn_connect.specs.declared.answer.ConnectError.TheVariants.{NoMemory, Fault}
use Rattle.kn_connect.specs.declared.answer.ConnectAnswer.{ConnectAnswer}
use Rattle.kn_connect.specs.declared.answer.ConnectAnswer.TheVariants.{More, Head}
use Rattle.kn_connect.specs.Statuses.{fault_status}
use Rattle.kn_grpc.specs.declared.call.Service.{Service}
use Rattle.kn_grpc.specs.declared.call.Service.TheVariants.{Agent, Proxy}
use Rattle.kn_grpc.specs.declared.call.Call.{Call}
use Rattle.kn_grpc.specs.declared.call.CallFault.{CallFault}
use Rattle.kn_grpc.specs.CallHeads.{refusal_fields}
use Rattle.kn_grpc.specs.Readers.{First, Less, Whole, Bad}
use Rattle.kn_grpc.specs.Packets.{first_of}
use Rattle.kn_h2_state.specs.declared.event.H2Event.{H2Event}
use Rattle.kn_h2_state.specs.declared.event.H2Event.TheVariants as events
use Rattle.kn_h2_state.specs.Calls.{fresh, fresh_state}
use Rattle.kn_h2_state.specs.Streams.{stream_at}
use Rattle.kn_h2_state.proofs.BorneLemmas.{Rises}
use Rattle.kn_server_core.specs.declared.event.ServerEvent.{ServerEvent}
use Rattle.kn_server_core.specs.declared.event.ServerEvent.TheVariants.{LinkUp, LinkPacket, LinkLost, FrontUp, FrontPacket, FrontLost}
use Rattle.kn_server_core.specs.declared.event.ServerOut.{ServerOut}
use Rattle.kn_server_core.specs.declared.event.ServerOut.TheVariants.{ToLink, ToFront, CutLink, Made}
use Rattle.kn_server_core.specs.Server as server
use Rattle.kn_ends.specs.declared.carrier.Carrier.{Carrier}
use Rattle.kn_ends.specs.declared.heard.Heard.{Heard}
use Rattle.kn_ends.specs.declared.inlet.Inlet.{Inlet}
use Rattle.kn_ends.specs.declared.who.Who.{Who}
use Rattle.kn_ends.specs.declared.who.Who.TheVariants as who
use Rattle.kn_ends.specs.Carriers.{inlet_at, on_inlet, after_read, after_write, taken_from, with_end, with_reset, finish_stream, reset_stream, fed_with, without_events}
use Rattle.kn_ends.specs.Queues.{tagged}
use Rattle.kn_rising.specs.Members.{Members, AreMembers, at, with, change, changed, without, inserted}
use Rattle.kn_server_node.specs.declared.door.Door.{Door}
use Rattle.kn_server_node.specs.declared.end.End.{End}
use Rattle.kn_server_node.specs.declared.end.End.TheVariants.{Streams, Connect}
use Rattle.kn_server_node.specs.declared.kind.ServerKind.{ServerKind}
use Rattle.kn_server_node.specs.declared.kind.ServerKind.TheVariants as kinds
use Rattle.kn_server_node.specs.declared.loss.Loss.{Loss}
use Rattle.kn_server_node.specs.declared.loss.Loss.TheVariants.{OfLink, OfFront}
use Rattle.kn_server_node.specs.declared.node.Node.{Node}
use Rattle.kn_server_node.specs.declared.place.Place.{Place}
use Rattle.kn_server_node.specs.Doors as door
use Rattle.kn_server_node.specs.Ends.{given, closed, fresh_end, on_carrier, on_door, accepted, events_in, inlet_in, HearsOne}
use Rattle.kn_server_node.specs.Ends as one
use Rattle.kn_server_node.specs.Losing.{with_loss}
use Rattle.kn_server_node.specs.Nodes.{on_end, place_changed, at_place, output, outputs, event, is_too_long, link_ended, front_ended, count_up}
use Rattle.kn_server_node.specs.Callers.{has_no_link, has_no_front, place_of, counts, answer_fields, link_up, front_up, refused_call, over_limit, service_in, call_for, call_came, for_agents_in, opened_by, door_up, head_whole, head_came, HeadHears, DoorHears}
use Rattle.kn_server_node.specs.Steps.{heard, hear, packet_event, handle, handle_inlet, early_event, handle_on, lose, follow, Step, Follow, Hear, Handle, Look, Write, Forget, Makes, after_step}
use Rattle.kn_server_node.specs.Calls.{Called, Opened, Bytes, Took, Lost, HearsBytes, Does, start}
use Rattle.kn_server_node.specs.FrontRooms.{after_core}
use Rattle.kn_server_node.proofs.MemberLemmas.{change_others, without_others}
use Rattle.kn_server_courses.specs.Courses.{Deed, Begin, Make, HandOut, Leads}
use Rattle.kn_server_courses.proofs.ChangeLemmas.{changed_end, changed_at}
use Rattle.kn_server_courses.proofs.FrontBaseLemmas.{events_for, for_join, for_tagged}
use Rattle.kn_server_courses.proofs.FrontRunLemmas.{changed_members, at_changed, without_members, gone_there}
use Rattle.kn_server_courses.proofs.PlacedLemmas.{members_inserted}
use Rattle.kn_server_courses.proofs.CallLemmas.{at_begun}
use Rattle.kn_server_courses.proofs.ReadLemmas.{IsRead, Orderly, nothing_read}
use Rattle.kn_server_courses.proofs.CarrierReadLemmas.{Tells, tells_before, tells_behind, Steady, Telling, after_read_own, read_steady, taken_steady, ended_steady, reset_steady, finish_steady, write_steady, accepted_telling, reset_telling, fed_telling, Keeps, on_carrier_keeps, on_door_keeps, given_keeps, closed_keeps, took_keeps, lost_keeps}

-- ---- what holds of one connection

-- what is not read of a stream was told, and is still to be heard
pub record ToldOf (c : ℕ) (told : List Heard) (carrier : Carrier) : Type 0 where
  pub numbers : Orderly carrier.conn.state
  pub read : (n : ℕ) → IsRead carrier n ⊎ Tells n (events_for c told)

abbrev pub ToldAt : ℕ → List Heard → Option End → Type 0
ToldAt c told None = Unit {0}
ToldAt c told (Some (Streams for_agents carrier)) = ToldOf c told carrier
ToldAt c told (Some (Connect d)) = Unit {0}

still_of : (c : ℕ) (told : List Heard) (x y : Carrier) → Steady x y → ToldOf c told x → ToldOf c told y
still_of c told x y steady h = record { numbers = steady.numbers h.numbers; read = λ n. by_case n (h.read n) }
  where
    by_case : (n : ℕ) → IsRead x n ⊎ Tells n (events_for c told) → IsRead y n ⊎ Tells n (events_for c told)
    by_case n (inl read) = inl (steady.read h.numbers n read)
    by_case n (inr tells) = inr tells

still_at : (c : ℕ) (told : List Heard) (g : End → End) (o : Option End) → Keeps g → ToldAt c told o → ToldAt c told (changed_end g o)
still_at c told g None keeps h = tt
still_at c told g (Some (Streams for_agents carrier)) keeps h =
    let s = keeps.streams for_agents carrier in
    subst (λ e. ToldAt c told (Some e)) (sym s.1) (still_of c told carrier s.0 s.2 h)
still_at c told g (Some (Connect d)) keeps h = let e = keeps.doors d in subst (λ x. ToldAt c told (Some x)) (sym e.1) tt

more_at : (c : ℕ) (told more : List Heard) (o : Option End) → ToldAt c told o → ToldAt c (told ++ more) o
more_at c told more None h = tt
more_at c told more (Some (Connect d)) h = tt
more_at c told more (Some (Streams for_agents carrier)) h = record { numbers = h.numbers; read = λ n. by_case n (h.read n) }
  where
    by_case : (n : ℕ) → IsRead carrier n ⊎ Tells n (events_for c told) → IsRead carrier n ⊎ Tells n (events_for c (told ++ more))
    by_case n (inl read) = inl read
    by_case n (inr tells) = inr (subst (Tells n) (sym (for_join c told more)) (tells_before n (events_for c told) (events_for c more) tells))

-- after it told, and what it told was taken
told_at : (c : ℕ) (told : List Heard) (h : Carrier → Carrier) (o : Option End) → ((x : Carrier) → Telling x (h x)) → ToldAt c told o
    → ToldAt c (told ++ tagged c (events_in (changed_end (on_carrier h) o))) (changed_end (on_carrier without_events) (changed_end (on_carrier h) o))
told_at c told h None telling t = tt
told_at c told h (Some (Connect d)) telling t = tt
told_at c told h (Some (Streams for_agents x)) telling t = record { numbers = (telling x).numbers t.numbers; read = λ n. by_case n (t.read n) }
  where
    es : List H2Event
    es = (h x).conn.state.events

    join : events_for c (told ++ tagged c es) ≡ events_for c told ++ es
    join = for_join c told (tagged c es) ∙ ap (λ fs. events_for c told ++ fs) (for_tagged c es)

    by_read : (n : ℕ) → IsRead (h x) n ⊎ Tells n es → IsRead (h x) n ⊎ Tells n (events_for c (told ++ tagged c es))
    by_read n (inl read) = inl read
    by_read n (inr tells) = inr (subst (Tells n) (sym join) (tells_behind n (events_for c told) es tells))

    by_case : (n : ℕ) → IsRead x n ⊎ Tells n (events_for c told) → IsRead (h x) n ⊎ Tells n (events_for c (told ++ tagged c es))
    by_case n (inl read) = by_read n ((telling x).read t.numbers n read)
    by_case n (inr tells) = inr (subst (Tells n) (sym join) (tells_before n (events_for c told) es tells))

-- the first that was told is heard, and no text
abbrev NoText : H2Event → Type 0
NoText e = (n : ℕ) → e ≡ events.Text n → ⊥

next_of : (c : ℕ) (x : Heard) (told : List Heard) (carrier : Carrier) → NoText x.event → ToldOf c (x ∷ told) carrier → ToldOf c told carrier
unfolding events_for Tells
next_of c x told carrier silent h = record { numbers = h.numbers; read = λ n. by_conn n (eqb x.conn c) (h.read n) }
  where
    by_conn : (n : ℕ) (b : Bool) → IsRead carrier n ⊎ Tells n (cond b (x.event ∷ events_for c told) (events_for c told)) → IsRead carrier n ⊎ Tells n (events_for c told)
    by_conn n b (inl read) = inl read
    by_conn n true (inr (inl is)) = absurd (silent n is)
    by_conn n true (inr (inr tells)) = inr tells
    by_conn n false (inr tells) = inr tells

next_at : (c : ℕ) (x : Heard) (told : List Heard) (o : Option End) → NoText x.event → ToldAt c (x ∷ told) o → ToldAt c told o
next_at c x told None silent h = tt
next_at c x told (Some (Connect d)) silent h = tt
next_at c x told (Some (Streams for_agents carrier)) silent h = next_of c x told carrier silent h

-- nor of another connection
other_at : (c : ℕ) (x : Heard) (told : List Heard) (o : Option End) → eqb x.conn c ≡ false → ToldAt c (x ∷ told) o → ToldAt c told o
unfolding events_for
other_at c x told None other h = tt
other_at c x told (Some (Connect d)) other h = tt
other_at c x told (Some (Streams for_agents carrier)) other h =
    record { numbers = h.numbers; read = λ n. subst (λ b. IsRead carrier n ⊎ Tells n (cond b (x.event ∷ events_for c told) (events_for c told))) other (h.read n) }

text_of_one : (c s : ℕ) (told : List Heard) (carrier : Carrier) → ToldOf c (record { conn = c; event = events.Text s } ∷ told) carrier → ToldOf c told (after_read s carrier)
unfolding events_for Tells
text_of_one c s told carrier h = record { numbers = (read_steady s carrier).numbers h.numbers; read = λ n. by_number n (eqb s n) refl (h.read n) }
  where
    same : eqb c c ≡ true
    same = eq-eqb c c refl

    by_head : (n : ℕ) → (s ≡ n → ⊥) → Tells n (events.Text s ∷ events_for c told) → Tells n (events_for c told)
    by_head n other (inl is) = absurd (other (numbered n is))
      where
        numbered : (k : ℕ) → events.Text s ≡ events.Text k → s ≡ k
        numbered k e = cc
    by_head n other (inr tells) = tells

    by_case : (n : ℕ) → (s ≡ n → ⊥) → IsRead carrier n ⊎ Tells n (cond (eqb c c) (events.Text s ∷ events_for c told) (events_for c told)) → IsRead (after_read s carrier) n ⊎ Tells n (events_for c told)
    by_case n other (inl read) = inl ((read_steady s carrier).read h.numbers n read)
    by_case n other (inr tells) = inr (by_head n other (subst (λ b. Tells n (cond b (events.Text s ∷ events_for c told) (events_for c told))) same tells))

    by_number : (n : ℕ) (b : Bool) → eqb s n ≡ b → IsRead carrier n ⊎ Tells n (cond (eqb c c) (events.Text s ∷ events_for c told) (events_for c told)) → IsRead (after_read s carrier) n ⊎ Tells n (events_for c told)
    by_number n true e t = inl (subst (λ k. IsRead (after_read s carrier) k) (eqb-true s n e) (inl (after_read_own s carrier h.numbers)))
    by_number n false e t = by_case n (eqb-false s n e) t

text_at : (c s : ℕ) (told : List Heard) (o : Option End) → ToldAt c (record { conn = c; event = events.Text s } ∷ told) o → ToldAt c told (changed_end (on_carrier (after_read s)) o)
text_at c s told None h = tt
text_at c s told (Some (Connect d)) h = tt
text_at c s told (Some (Streams for_agents carrier)) h = text_of_one c s told carrier h

-- ---- all connections

pub record AllTold (ends : Members End) (told : List Heard) : Type 0 where
  pub members : AreMembers ends
  pub each : (c : ℕ) → ToldAt c told (at ends c)

abbrev pub TellsAll : Node → Type 0
TellsAll node = AllTold node.ends node.told

keeps_all : (ends : Members End) (told : List Heard) (n : ℕ) (g : End → End) → Keeps g → AllTold ends told → AllTold (change ends n g) told
keeps_all ends told n g keeps a = record {
  members = changed_members ends n g a.members;
  each = λ c. at_changed (λ o. ToldAt c told o) ends n c g a.members (λ same. still_at c told g (at ends n) keeps (subst (λ k. ToldAt c told (at ends k)) (sym same) (a.each c))) (a.each c);
}

tells_all : (ends : Members End) (told : List Heard) (n : ℕ) (h : Carrier → Carrier) → ((x : Carrier) → Telling x (h x)) → AllTold ends told
    → AllTold (change (change ends n (on_carrier h)) n (on_carrier without_events)) (told ++ tagged n (events_in (at (change ends n (on_carrier h)) n)))
tells_all ends told n h telling a = record { members = changed_members mid n (on_carrier without_events) mid_members; each = λ c. by_number c (eqb c n) refl }
  where
    mid : Members End
    mid = change ends n (on_carrier h)

    later : Members End
    later = change mid n (on_carrier without_events)

    at_mid : at mid n ≡ changed_end (on_carrier h) (at ends n)
    at_mid = changed_at ends n (on_carrier h)

    at_later : at later n ≡ changed_end (on_carrier without_events) (changed_end (on_carrier h) (at ends n))
    at_later = changed_at mid n (on_carrier without_events) ∙ ap (changed_end (on_carrier without_events)) at_mid

    mid_members : AreMembers mid
    mid_members = changed_members ends n (on_carrier h) a.members

    es : List H2Event
    es = events_in (at mid n)

    own : ToldAt n (told ++ tagged n es) (at later n)
    own =
        subst (λ o. ToldAt n (told ++ tagged n es) o) (sym at_later)
        (subst (λ o. ToldAt n (told ++ tagged n (events_in o)) (changed_end (on_carrier without_events) (changed_end (on_carrier h) (at ends n)))) (sym at_mid) (told_at n told h (at ends n) telling (a.each n)))

    by_number : (c : ℕ) (b : Bool) → eqb c n ≡ b → ToldAt c (told ++ tagged n es) (at later c)
    by_number c true e = subst (λ k. ToldAt k (told ++ tagged n es) (at later k)) (sym (eqb-true c n e)) own
    by_number c false e =
        subst (λ o. ToldAt c (told ++ tagged n es) o) (sym (change_others mid n c (on_carrier without_events) mid_members.same e ∙ change_others ends n c (on_carrier h) a.members.same e))
        (more_at c told (tagged n es) (at ends c) (a.each c))

next_all : (ends : Members End) (x : Heard) (told : List Heard) → NoText x.event → AllTold ends (x ∷ told) → AllTold ends told
next_all ends x told silent a = record { members = a.members; each = λ c. next_at c x told (at ends c) silent (a.each c) }

text_all : (ends : Members End) (conn s : ℕ) (told : List Heard) → AllTold ends (record { conn = conn; event = events.Text s } ∷ told) → AllTold (change ends conn (on_carrier (after_read s))) told
text_all ends conn s told a = record { members = changed_members ends conn (on_carrier (after_read s)) a.members; each = λ c. by_number c (eqb c conn) refl }
  where
    later : Members End
    later = change ends conn (on_carrier (after_read s))

    differs : (x y : ℕ) → eqb x y ≡ false → eqb y x ≡ false
    differs x y e = ne_eqb y x (λ same. eqb-false x y e (sym same))

    by_number : (c : ℕ) (b : Bool) → eqb c conn ≡ b → ToldAt c told (at later c)
    by_number c true e =
        subst (λ k. ToldAt k told (at later k)) (sym (eqb-true c conn e))
        (subst (λ o. ToldAt conn told o) (sym (changed_at ends conn (on_carrier (after_read s)))) (text_at conn s told (at ends conn) (a.each conn)))
    by_number c false e =
        subst (λ o. ToldAt c told o) (sym (change_others ends conn c (on_carrier (after_read s)) a.members.same e))
        (other_at c (record { conn = conn; event = events.Text s }) told (at ends c) (differs c conn e) (a.each c))

place_all : (ends : Members End) (told : List Heard) (o : Option Place) (f : ℕ → End → End) → ((s : ℕ) → Keeps (f s)) → AllTold ends told → AllTold (place_changed o f ends) told
place_all ends told None f keeps a = a
place_all ends told (Some p) f keeps a = keeps_all ends told p.conn (f p.stream) (keeps p.stream) a

-- ---- an event of the core

output_all : (node : Node) (o : ServerOut) → TellsAll node → TellsAll (output node o)
unfolding output
output_all node (ToLink link p) a = by_length (is_too_long node link p)
  where
    by_length : (t : Bool) → TellsAll (cond t (record node { todo = with_loss (OfLink link 14) node.todo }) (at_place (at node.links link) (λ s. given s p) node))
    by_length true = a
    by_length false = place_all node.ends node.told (at node.links link) (λ s. given s p) (given_keeps p) a
output_all node (ToFront front p) a = place_all node.ends node.told (at node.fronts front) (λ s. given s p) (given_keeps p) a
output_all node (CutLink link) a = place_all node.ends node.told (at node.links link) (closed 13) (closed_keeps 13) a
output_all node (Made dial link front) a = a

outputs_all : (node : Node) (os : List ServerOut) → TellsAll node → TellsAll (outputs node os)
outputs_all node [] a = a
outputs_all node (o ∷ os) a = outputs_all (output node o) os (output_all node o a)

event_all : (e : ServerEvent) (node : Node) → TellsAll node → TellsAll (event e node)
unfolding event
event_all e node a = outputs_all (after_core e node) (server.step node.core e).outs a

-- ---- losses

lose_all : (l : Loss) (node : Node) → TellsAll node → TellsAll (lose l node)
unfolding lose
lose_all (OfLink link status) node a = event_all (LinkLost link) (link_ended link status node) (place_all node.ends node.told (at node.links link) (closed status) (closed_keeps status) a)
lose_all (OfFront front status) node a = event_all (FrontLost front) (front_ended front status node) (place_all node.ends node.told (at node.fronts front) (closed status) (closed_keeps status) a)

follow_all : (todo : List Loss) (node : Node) → TellsAll node → TellsAll (follow todo node)
follow_all [] node a = a
follow_all (l ∷ ls) node a = lose_all l (record node { todo = ls }) a

-- ---- calls on streams

either : (b : Bool) (x y : Node) → TellsAll x → TellsAll y → TellsAll (cond b x y)
either true x y p q = p
either false x y p q = q

over_all : (node : Node) (conn s : ℕ) → TellsAll node → TellsAll (over_limit conn s node)
unfolding over_limit
over_all node conn s a = tells_all node.ends node.told conn (reset_stream s 7) (reset_telling s 7) a

link_all : (node : Node) (conn s : ℕ) (identifiers : List (IdKind × List ℕ)) → TellsAll node → TellsAll (link_up conn s identifiers node)
unfolding link_up
link_all node conn s identifiers a =
    let link : ℕ = node.core.links.top + 1 in
    let placed : Node = record node { links = inserted node.links link (place_of conn s); past_links = filter (counts node.ends) node.past_links } in
    event_all (LinkUp link identifiers) _ (tells_all node.ends node.told conn (accepted s (who.Link link) (answer_fields placed Agent)) (accepted_telling s (who.Link link) (answer_fields placed Agent)) a)

front_all : (node : Node) (conn s : ℕ) → TellsAll node → TellsAll (front_up conn s node)
unfolding front_up
front_all node conn s a =
    let front : ℕ = node.core.fronts.top + 1 in
    let placed : Node = record node { fronts = inserted node.fronts front (place_of conn s); past_fronts = filter (counts node.ends) node.past_fronts } in
    event_all (FrontUp front) _ (tells_all node.ends node.told conn (accepted s (who.Front front) (answer_fields placed Proxy)) (accepted_telling s (who.Front front) (answer_fields placed Proxy)) a)

service_all : (node : Node) (conn s : ℕ) (service : Service) (identifiers : List (IdKind × List ℕ)) → TellsAll node → TellsAll (service_in conn s service identifiers node)
service_all node conn s Agent identifiers a = either (has_no_link node) (over_limit conn s node) (link_up conn s identifiers node) (over_all node conn s a) (link_all node conn s identifiers a)
service_all node conn s Proxy identifiers a = either (has_no_front node) (over_limit conn s node) (front_up conn s node) (over_all node conn s a) (front_all node conn s a)

refused_all : (node : Node) (conn s : ℕ) (fault : CallFault) → TellsAll node → TellsAll (refused_call conn s fault node)
unfolding refused_call
refused_all node conn s fault a = keeps_all node.ends node.told conn (on_carrier (finish_stream s (refusal_fields fault))) (on_carrier_keeps (finish_stream s (refusal_fields fault)) (finish_steady s (refusal_fields fault))) a

came_all : (node : Node) (conn s : ℕ) (r : Result Call CallFault) → TellsAll node → TellsAll (call_came conn s r node)
came_all node conn s (Ok call) a = service_all node conn s call.service call.identifiers a
came_all node conn s (Err fault) a = refused_all node conn s fault a

opened_all : (node : Node) (o : Option Bool) (conn s : ℕ) (fields : List Field) → TellsAll node → TellsAll (opened_by o conn s fields node)
opened_all node None conn s fields a = a
opened_all node (Some for_agents) conn s fields a = came_all node conn s (call_for for_agents fields) a

-- ---- what was told is heard

heard_all : (node : Node) (conn : ℕ) (e : H2Event) → AllTold node.ends (record { conn = conn; event = e } ∷ node.told) → TellsAll (heard conn e node)
unfolding heard
heard_all node conn (events.Opened s fields) a = opened_all node (for_agents_in (at node.ends conn)) conn s fields (next_all node.ends _ node.told (λ n is. absurd cc) a)
heard_all node conn (events.Head s fields) a = next_all node.ends _ node.told (λ n is. absurd cc) a
heard_all node conn (events.Text s) a = text_all node.ends conn s node.told a
heard_all node conn (events.Ended s) a = keeps_all node.ends node.told conn (on_carrier (on_inlet s with_end)) (on_carrier_keeps (on_inlet s with_end) (ended_steady s)) (next_all node.ends _ node.told (λ n is. absurd cc) a)
heard_all node conn (events.Reset s code) a = keeps_all node.ends node.told conn (on_carrier (on_inlet s with_reset)) (on_carrier_keeps (on_inlet s with_reset) (reset_steady s)) (next_all node.ends _ node.told (λ n is. absurd cc) a)
heard_all node conn (events.Away code) a = next_all node.ends _ node.told (λ n is. absurd cc) a
heard_all node conn (events.Closed code) a = next_all node.ends _ node.told (λ n is. absurd cc) a

hear_all : (told : List Heard) (node : Node) → node.told ≡ told → TellsAll node → TellsAll (hear told node)
unfolding hear
hear_all [] node is a = a
hear_all (x ∷ told) node is a = heard_all (record node { told = told }) x.conn x.event (subst (λ t. AllTold node.ends t) is a)

-- ---- what stands at the front of a stream

taken_all : (node : Node) (conn s : ℕ) → TellsAll node → TellsAll (record (on_end conn (on_carrier (taken_from s)) node) { handled = count_up node.handled })
taken_all node conn s a = keeps_all node.ends node.told conn (on_carrier (taken_from s)) (on_carrier_keeps (taken_from s) (taken_steady s)) a

packet_all : (w : Who) (p : Packet) (node : Node) → TellsAll node → TellsAll (packet_event w p node)
packet_all (who.Link link) p node a = event_all (LinkPacket link p) node a
packet_all (who.Front front) p node a = event_all (FrontPacket front p) node a
packet_all who.Server p node a = a

first_all : (node : Node) (conn s : ℕ) (w : Who) (f : First Packet ℕ) → TellsAll node → TellsAll (handle conn s w f node)
unfolding handle
first_all node conn s w Less a = a
first_all node conn s w (Whole p rest) a = packet_all w p _ (taken_all node conn s a)
first_all node conn s w (Bad status) a = a

inlet_all : (node : Node) (conn s : ℕ) (o : Option Inlet) → TellsAll node → TellsAll (handle_inlet conn s o node)
inlet_all node conn s None a = a
inlet_all node conn s (Some i) a = first_all node conn s i.who (first_of i.messages.kept) a

early_all : (node : Node) (front : Option ℕ) (dial : Option ℤ) (bytes : List ℕ) → TellsAll node → TellsAll (early_event front dial bytes node)
early_all node (Some front) (Some id) bytes a = event_all (FrontPacket front (Data id [] bytes)) node a
early_all node (Some front) None bytes a = a
early_all node None id bytes a = a

handled_all : (node : Node) (conn s : ℕ) (o : Option End) → TellsAll node → TellsAll (handle_on o conn s node)
unfolding handle_on
handled_all node conn s None a = a
handled_all node conn s (Some (Streams k carrier)) a = inlet_all node conn s (inlet_in (Some (Streams k carrier)) s) a
handled_all node conn s (Some (Connect d)) a = early_all _ d.front d.dial d.early (keeps_all node.ends node.told conn (on_door door.without_early) (on_door_keeps door.without_early) a)

-- ---- steps

forget_all : (node : Node) (n : ℕ) → TellsAll node → AllTold (without node.ends n) node.told
forget_all node n a = record { members = without_members node.ends n a.members; each = λ c. by_number c (eqb c n) refl }
  where
    by_number : (c : ℕ) (t : Bool) → eqb c n ≡ t → ToldAt c node.told (at (without node.ends n) c)
    by_number c true e = subst (λ k. ToldAt k node.told (at (without node.ends n) k)) (sym (eqb-true c n e)) (subst (λ o. ToldAt n node.told o) (sym (gone_there node.ends n a.members)) tt)
    by_number c false e = subst (λ o. ToldAt c node.told o) (sym (without_others node.ends n c a.members.same e)) (a.each c)

pub step_all : (node : Node) (s : Step) → TellsAll node → TellsAll (after_step node s)
unfolding after_step
step_all node Follow a = follow_all node.todo node a
step_all node Hear a = hear_all node.told node refl a
step_all node (Handle c s) a = handled_all node c s (at node.ends c) a
step_all node (Look c) a = a
step_all node (Write c m) a = keeps_all node.ends node.told c (on_carrier (after_write m)) (on_carrier_keeps (after_write m) (write_steady m)) a
step_all node (Forget c) a = forget_all node c a

pub makes_all : (old : Node) (steps : List Step) (new : Node) → Makes old steps new → TellsAll old → TellsAll new
makes_all old [] new makes a = subst TellsAll (sym makes) a
makes_all old (s ∷ steps) new makes a = makes_all (after_step old s) steps new makes.1 (step_all old s a)

-- ---- the calls themselves

fresh_at : (c : ℕ) (told : List Heard) (kind : ServerKind) → ToldAt c told (Some (fresh_end kind))
unfolding fresh fresh_state stream_at Rises
fresh_at c told kinds.Agents = record { numbers = omega arith; read = λ n. inl (inl (nothing_read (inlet_at [] n) [] refl)) }
fresh_at c told kinds.Clients = record { numbers = omega arith; read = λ n. inl (inl (nothing_read (inlet_at [] n) [] refl)) }
fresh_at c told kinds.Connect = tt

begun_all : (node : Node) (conn : ℕ) (kind : ServerKind) → TellsAll node → AllTold (inserted node.ends conn (fresh_end kind)) node.told
begun_all node conn kind a = record {
  members = members_inserted node.ends conn (fresh_end kind) a.members;
  each = λ c. at_begun (λ o. ToldAt c node.told o) node.ends conn c (fresh_end kind) a.members (λ same. fresh_at c node.told kind) (a.each c);
}

door_up_all : (node : Node) (conn : ℕ) (target early : List ℕ) → TellsAll node → TellsAll (door_up conn target early node)
unfolding door_up
door_up_all node conn target early a =
    let front : ℕ = node.core.fronts.top + 1 in
    event_all (FrontPacket front (DialReq (codes "tcp") target (pos 0))) _ (event_all (FrontUp front) _ (keeps_all node.ends node.told conn (on_door (door.begun front early)) (on_door_keeps (door.begun front early)) a))

head_whole_all : (node : Node) (conn : ℕ) (target early : List ℕ) → TellsAll node → TellsAll (head_whole conn target early node)
head_whole_all node conn target early a =
    either (has_no_front node) (on_end conn (on_door (door.refused 503)) node) (door_up conn target early node)
    (keeps_all node.ends node.told conn (on_door (door.refused 503)) (on_door_keeps (door.refused 503)) a) (door_up_all node conn target early a)

head_came_all : (node : Node) (conn : ℕ) (answer : Result ConnectAnswer ConnectError) → TellsAll node → TellsAll (head_came conn answer node)
head_came_all node conn (Ok More) a = a
head_came_all node conn (Ok (Head target early)) a = head_whole_all node conn target early a
head_came_all node conn (Err (Fault fault)) a = keeps_all node.ends node.told conn (on_door (door.refused (fault_status fault))) (on_door_keeps (door.refused (fault_status fault))) a
head_came_all node conn (Err NoMemory) a = a

head_all : (old : Node) (conn : ℕ) (piece : List ℕ) (d : Door) (new : Node) → at old.ends conn ≡ Some (Connect d) → HeadHears conn piece (Some (Connect d)) old new → TellsAll old → TellsAll new
head_all old conn piece d new there h a =
    let heard_so = h.3 in
    let kept = heard_so.1 in
    let g : End → End = on_door (λ x. kept.0) in
    let put : change old.ends conn g ≡ with old.ends conn (Connect kept.0) = ap (changed old.ends conn g) there in
    let ends : h.2 ≡ change old.ends conn g = heard_so.2 ∙ ap (with old.ends conn) kept.2 ∙ sym put in
    let later : AllTold h.2 old.told = subst (λ (es : Members End). AllTold es old.told) (sym ends) (keeps_all old.ends old.told conn g (on_door_keeps (λ x. kept.0)) a) in
    subst TellsAll (sym h.4) (head_came_all (record old { ends = h.2; stirred = old.stirred ++ conn ∷ [] }) conn h.0 later)

door_all : (old : Node) (conn : ℕ) (piece : List ℕ) (d : Door) (new : Node) (front : Option ℕ) → at old.ends conn ≡ Some (Connect d) → DoorHears conn piece front (Some (Connect d)) old new → TellsAll old → TellsAll new
door_all old conn piece d new None there h a = head_all old conn piece d new there h a
door_all old conn piece d new (Some front) there h a = subst TellsAll (sym h) (keeps_all old.ends old.told conn (on_door (door.with_early piece)) (on_door_keeps (door.with_early piece)) a)

bytes_all : (old : Node) (conn : ℕ) (piece : List ℕ) (new : Node) (o : Option End) → at old.ends conn ≡ o → HearsBytes conn piece o old new → TellsAll old → TellsAll new
bytes_all old conn piece new None there h a = subst TellsAll (sym h) a
bytes_all old conn piece new (Some (Streams k carrier)) there h a = subst TellsAll (sym h) (tells_all old.ends old.told conn (fed_with piece) (fed_telling piece) a)
bytes_all old conn piece new (Some (Connect d)) there h a = door_all old conn piece d new d.front there h a

pub does_all : (old : Node) (call : Called) (new : Node) → Does old call new → TellsAll old → TellsAll new
does_all old (Opened conn kind) new does a = subst TellsAll (sym does) (begun_all old conn kind a)
does_all old (Bytes conn piece) new does a = bytes_all old conn piece new (at old.ends conn) refl does a
does_all old (Took conn count) new does a = subst TellsAll (sym does) (keeps_all old.ends old.told conn (one.took count) (took_keeps count) a)
does_all old (Lost conn) new does a = subst TellsAll (sym does) (keeps_all old.ends old.told conn one.lost lost_keeps a)

-- ---- all that they lead to

pub leads_all : (old : Node) (deeds : List Deed) (new : Node) → Leads old deeds new → TellsAll old → TellsAll new
leads_all old [] new leads a = subst TellsAll (sym leads) a
leads_all old (Begin call ∷ deeds) new leads a = leads_all leads.0 deeds new leads.3 (does_all old call leads.0 leads.2 a)
leads_all old (Make s ∷ deeds) new leads a = leads_all (after_step old s) deeds new leads.1 (step_all old s a)
leads_all old (HandOut c ∷ deeds) new leads a = leads_all leads.0 deeds new leads.2 (subst TellsAll leads.1 a)

pub start_all : (strategies : List Strategy) (id : List ℕ) (count : ℕ) → TellsAll (start strategies id count)
start_all strategies id count = record { members = record { rising = tt; same = refl }; each = λ c. tt }
