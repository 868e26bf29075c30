-- No packet for a front is dropped.
use Rattle.std.proofs.Common.{◌≡◌, ℕ, zero, suc, ◌+◌, ◌≤◌, Bool, true, false, not, ◌||◌, cond, eqb, List, [], ◌∷◌, length, Option, Some, None, Result, Ok, Err, ℤ, refl, sym, ap, ◌∙◌, subst, arith}
use Rattle.std.specs.Prelude.{slice_get}
use Rattle.std.specs.List.{remove}
use Rattle.std.proofs.lemmas.List.{length-append}
use Rattle.std.proofs.lemmas.Bool.{eqb-true, eqb-false, eq-eqb, le-ltb, ltb-false}
use Rattle.kn_packet.specs.declared.packet.Packet.{Packet}
use Rattle.kn_packet.specs.declared.packet.Packet.TheVariants.{DialReq, DialRsp, CloseReq, CloseRsp, Data, DialCls, Drain, Other}
use Rattle.kn_grpc.specs.Readers.{First, Less, Whole, Bad}
use Rattle.kn_grpc.specs.Packets.{framed, first_of}
use Rattle.kn_hpack.specs.Fields.{Field}
use Rattle.kn_route.specs.declared.id_kind.IdKind.{IdKind}
use Rattle.kn_grpc.specs.declared.call.Service.{Service}
use Rattle.kn_grpc.specs.declared.call.Service.TheVariants.{Agent, Proxy}
use Rattle.kn_grpc.specs.declared.call.Call.{Call}
use Rattle.kn_grpc.specs.declared.call.CallFault.{CallFault}
use Rattle.kn_h2_state.specs.declared.event.H2Event.{H2Event}
use Rattle.kn_h2_state.specs.declared.event.H2Event.TheVariants as events
use Rattle.kn_h2_state.specs.declared.stream.Stream.{Stream}
use Rattle.kn_h2_state.specs.declared.state.State.{State}
use Rattle.kn_h2_state.specs.Streams.{stream_at, change}
use Rattle.kn_h2_state.specs.Calls.{queue_in, queue_of, with_queued, after_queue}
use Rattle.kn_tables.specs.declared.held_entry.HeldEntry.{HeldEntry}
use Rattle.kn_tables.specs.Lists.{first_where}
use Rattle.kn_tables.specs.Holding.{is_held, has_front}
use Rattle.kn_server_core.specs.declared.event.ServerEvent.{ServerEvent}
use Rattle.kn_server_core.specs.declared.event.ServerEvent.TheVariants.{LinkUp, LinkPacket, LinkLost, FrontUp, FrontPacket, FrontLost}
use Rattle.kn_server_core.specs.declared.event.ServerOut.{ServerOut}
use Rattle.kn_server_core.specs.declared.event.ServerOut.TheVariants.{ToLink, ToFront, CutLink, Made}
use Rattle.kn_server_core.specs.declared.state.State as server_state
use Rattle.kn_server_core.specs.Server as server
use Rattle.kn_front_room.specs.Rooms.{bytes_of, bytes_to, is_for, IsShort, HasRoom}
use Rattle.kn_front_room.proofs.RoomLemmas.{room_kept}
use Rattle.kn_front_room.proofs.MessageLemmas.{messages_short}
use Rattle.kn_ends.specs.declared.heard.Heard.{Heard}
use Rattle.kn_ends.specs.declared.inlet.Inlet.{Inlet}
use Rattle.kn_ends.specs.declared.who.Who.{Who}
use Rattle.kn_ends.specs.declared.who.Who.TheVariants as who
use Rattle.kn_ends.specs.Carriers.{queued, awaits_answer, is_over, is_full}
use Rattle.kn_rising.specs.Members.{Members, place_in, at, with, changed, without}
use Rattle.kn_rising.specs.Members as members
use Rattle.kn_server_node.specs.declared.end.End.{End}
use Rattle.kn_server_node.specs.declared.end.End.TheVariants.{Streams, Connect}
use Rattle.kn_server_node.specs.declared.loss.Loss.{Loss}
use Rattle.kn_server_node.specs.declared.loss.Loss.TheVariants.{OfLink, OfFront}
use Rattle.kn_server_node.specs.declared.place.Place.{Place}
use Rattle.kn_server_node.specs.declared.node.Node.{Node}
use Rattle.kn_server_node.specs.Ends.{given, closed, queued_in, inlet_in}
use Rattle.kn_server_node.specs.Losing.{with_loss}
use Rattle.kn_server_node.specs.Nodes.{place_changed, at_place, output, outputs, event, is_too_long, can_handle, inlet_can, can_take, link_waits, front_waits, front_is_long, waits_for_front, front_queue, queue_at, is_long, can_on}
use Rattle.kn_server_node.specs.Steps.{Step, Follow, Hear, Handle, Look, Write, Forget, MayDo}
use Rattle.kn_server_node.specs.Callers.{has_no_link, has_no_front, call_for, for_agents_in}
use Rattle.kn_server_node.specs.CoreEvents.{up_events, came_events, opened_events, heard_events, told_events, first_events, inlet_events, early_events, handled_events, loss_events, step_events}
use Rattle.kn_server_node.specs.FrontRooms.{waiting_on, waiting_at, waiting_for, is_full_on, is_full_at, drops, DropsNone, after_core, NoneStandsOn, IsAlone, AreAlone, HaveRoom, AreInTime}
use Rattle.kn_server_node.proofs.MemberLemmas.{at_with, change_others, change_same}
use Rattle.kn_server_node.proofs.CoreLemmas.{event_core}

-- ---- a queue that grows

grown : (ss : List Stream) (k n : ℕ) (bytes : List ℕ) → length (queue_in (stream_at (change ss k (with_queued bytes)) n)) ≤ length (queue_in (stream_at ss n)) + cond (eqb k n) (length bytes) 0
unfolding stream_at change
grown [] k n bytes = omega arith
grown (st ∷ ss) k n bytes = by_test (eqb st.number k) refl (eqb st.number n) refl (grown ss k n bytes)
  where
    same : st.number ≡ k → st.number ≡ n → eqb k n ≡ true
    same p q = eq-eqb k n (sym p ∙ q)

    by_test : (b : Bool) → eqb st.number k ≡ b → (c : Bool) → eqb st.number n ≡ c → length (queue_in (stream_at (change ss k (with_queued bytes)) n)) ≤ length (queue_in (stream_at ss n)) + cond (eqb k n) (length bytes) 0
        → length (queue_in (stream_at (cond b (with_queued bytes st ∷ ss) (st ∷ change ss k (with_queued bytes))) n)) ≤ length (queue_in (cond c (Some st) (stream_at ss n))) + cond (eqb k n) (length bytes) 0
    by_test true p true q later = let e = same (eqb-true st.number k p) (eqb-true st.number n q) in rw (q, e) (omega (arith, length-append st.queue bytes))
    by_test true p false q later = rw q (omega arith)
    by_test false p true q later = rw q (omega arith)
    by_test false p false q later = rw q later

grown_state : (s : State) (k n : ℕ) (bytes : List ℕ) → length (queue_of (queued k bytes s) n) ≤ length (queue_of s n) + cond (eqb k n) (length bytes) 0
unfolding queued after_queue
grown_state s k n bytes = by_tests (awaits_answer s k) (is_over s k) (is_full s k)
  where
    by_tests : (a b c : Bool) → length (queue_of (cond a s (cond b s (cond c s (record s { streams = change s.streams k (with_queued bytes) })))) n) ≤ length (queue_of s n) + cond (eqb k n) (length bytes) 0
    by_tests true b c = omega arith
    by_tests false true c = omega arith
    by_tests false false true = omega arith
    by_tests false false false = grown s.streams k n bytes

-- a connection that changes, if it is there
abbrev changed_end : (End → End) → Option End → Option End
changed_end f None = None
changed_end f (Some e) = Some (f e)

given_waits : (e : Option End) (k n : ℕ) (p : Packet) → waiting_on (changed_end (given k p) e) n ≤ waiting_on e n + cond (eqb k n) (length (framed p)) 0
given_waits None k n p = omega arith
given_waits (Some (Connect d)) k n p = omega arith
given_waits (Some (Streams for_agents carrier)) k n p = by_loss carrier.lost
  where
    by_loss : (b : Bool) → length (queue_of (cond b carrier (record carrier { conn = record carrier.conn { state = queued k (framed p) carrier.conn.state } })).conn.state n) ≤ length (queue_of carrier.conn.state n) + cond (eqb k n) (length (framed p)) 0
    by_loss true = omega arith
    by_loss false = grown_state carrier.conn.state k n (framed p)

changed_at : (m : Members End) (n : ℕ) (f : End → End) → at (members.change m n f) n ≡ changed_end f (at m n)
changed_at m n f = by_member (at m n) refl
  where
    by_member : (o : Option End) → at m n ≡ o → at (changed m n f o) n ≡ changed_end f o
    by_member None e = e
    by_member (Some x) e = at_with m n x (f x) e

-- ---- places

on_other : (xs : List Place) (i : ℕ) (conn : ℕ) (q : Place) → NoneStandsOn conn xs → slice_get xs i ≡ Some q → q.conn ≡ conn → ⊥
on_other [] i conn q none found same = absurd cc
on_other (x ∷ xs) zero conn q none found same = let m : x ≡ q = cc in none.0 (ap (λ (p : Place). p.conn) m ∙ same)
on_other (x ∷ xs) (suc i) conn q none found same = on_other xs i conn q none.1 found same

none_removed : (xs : List Place) (i : ℕ) (conn : ℕ) → NoneStandsOn conn xs → NoneStandsOn conn (remove xs i)
none_removed [] zero conn none = tt
none_removed [] (suc i) conn none = tt
none_removed (x ∷ xs) zero conn none = none.1
none_removed (x ∷ xs) (suc i) conn none = (none.0, none_removed xs i conn none.1)

apart : (a b : ℕ) → (b ≡ a → ⊥) → eqb a b ≡ false
apart a b other = by_test (eqb a b) refl
  where
    by_test : (c : Bool) → eqb a b ≡ c → eqb a b ≡ false
    by_test true e = absurd (other (sym (eqb-true a b e)))
    by_test false e = e

-- a change on another connection
elsewhere : (ends : Members End) (o : Option Place) (conn : ℕ) (f : End → End) → length ends.items ≡ length ends.numbers → ((p : Place) → o ≡ Some p → conn ≡ p.conn → ⊥) → waiting_at (members.change ends conn f) o ≡ waiting_at ends o
elsewhere ends None conn f l other = refl
elsewhere ends (Some p) conn f l other = ap (λ e. waiting_on e p.stream) (change_others ends conn p.conn f l (apart p.conn conn (other p refl)))

-- what changes at the place of a link
at_link : (node : Node) (f link : ℕ) (g : ℕ → End → End) → IsAlone node f → waiting_at (place_changed (at node.links link) g node.ends) (at node.fronts f) ≡ waiting_for node f
at_link node f link g alone = by_place (at node.links link) refl
  where
    by_place : (o : Option Place) → at node.links link ≡ o → waiting_at (place_changed o g node.ends) (at node.fronts f) ≡ waiting_for node f
    by_place None found = refl
    by_place (Some q) found = elsewhere node.ends (at node.fronts f) q.conn (g q.stream) alone.numbered (λ p is same. on_other node.links.items (place_in node.links.numbers link) p.conn q (alone.links p is) found same)

-- ---- outputs

-- a packet for a front comes to no other
at_front : (node : Node) (f front : ℕ) (p : Packet) → IsAlone node f → waiting_at (place_changed (at node.fronts front) (λ s. given s p) node.ends) (at node.fronts f) ≤ waiting_for node f + bytes_of f (ToFront front p)
at_front node f front p alone = by_places (at node.fronts front) refl (at node.fronts f) refl
  where
    same_stream : (q r : Place) → at node.fronts front ≡ Some q → at node.fronts f ≡ Some r → q.conn ≡ r.conn → (b : Bool) → eqb q.stream r.stream ≡ b → cond b (length (framed p)) 0 ≤ bytes_of f (ToFront front p)
    same_stream q r found is conn true e = let own : eqb front f ≡ true = eq-eqb front f (alone.fronts r q front is found conn (eqb-true q.stream r.stream e)) in rw own (omega arith)
    same_stream q r found is conn false e = omega arith

    same_conn : (q r : Place) → at node.fronts front ≡ Some q → at node.fronts f ≡ Some r → q.conn ≡ r.conn → waiting_on (at (members.change node.ends q.conn (given q.stream p)) r.conn) r.stream ≤ waiting_on (at node.ends r.conn) r.stream + bytes_of f (ToFront front p)
    same_conn q r found is conn =
        let there : at (members.change node.ends q.conn (given q.stream p)) r.conn ≡ changed_end (given q.stream p) (at node.ends r.conn) =
        subst (λ c. at (members.change node.ends c (given q.stream p)) r.conn ≡ changed_end (given q.stream p) (at node.ends r.conn)) (sym conn) (changed_at node.ends r.conn (given q.stream p)) in
        let grows = given_waits (at node.ends r.conn) q.stream r.stream p in
        let own = same_stream q r found is conn (eqb q.stream r.stream) refl in
        rw there (omega (arith, grows, own))

    by_conn : (q r : Place) → at node.fronts front ≡ Some q → at node.fronts f ≡ Some r → (b : Bool) → eqb q.conn r.conn ≡ b → waiting_on (at (members.change node.ends q.conn (given q.stream p)) r.conn) r.stream ≤ waiting_on (at node.ends r.conn) r.stream + bytes_of f (ToFront front p)
    by_conn q r found is true e = same_conn q r found is (eqb-true q.conn r.conn e)
    by_conn q r found is false e =
        let same = elsewhere node.ends (Some r) q.conn (given q.stream p) alone.numbered (λ x m k. let n : r ≡ x = cc in eqb-false q.conn r.conn e (k ∙ ap (λ (z : Place). z.conn) (sym n))) in
        omega (arith, same)

    by_places : (o : Option Place) → at node.fronts front ≡ o → (u : Option Place) → at node.fronts f ≡ u → waiting_at (place_changed o (λ s. given s p) node.ends) u ≤ waiting_at node.ends u + bytes_of f (ToFront front p)
    by_places None found u is = omega arith
    by_places (Some q) found None is = omega arith
    by_places (Some q) found (Some r) is = by_conn q r found is (eqb q.conn r.conn) refl

output_waits : (node : Node) (f : ℕ) (o : ServerOut) → IsAlone node f → waiting_for (output node o) f ≤ waiting_for node f + bytes_of f o
unfolding output
output_waits node f (ToLink link p) alone = by_length (is_too_long node link p)
  where
    by_length : (b : Bool) → waiting_for (cond b (record node { todo = with_loss (OfLink link 14) node.todo }) (at_place (at node.links link) (λ s. given s p) node)) f ≤ waiting_for node f + 0
    by_length true = omega arith
    by_length false = omega (arith, at_link node f link (λ s. given s p) alone)
output_waits node f (ToFront front p) alone = at_front node f front p alone
output_waits node f (CutLink link) alone = omega (arith, at_link node f link (closed 13) alone)
output_waits node f (Made dial link front) alone = omega arith

numbered_at : (ends : Members End) (o : Option Place) (g : ℕ → End → End) → length ends.items ≡ length ends.numbers → length (place_changed o g ends).items ≡ length (place_changed o g ends).numbers
numbered_at ends None g l = l
numbered_at ends (Some q) g l = change_same ends q.conn (g q.stream) l

output_alone : (node : Node) (f : ℕ) (o : ServerOut) → IsAlone node f → IsAlone (output node o) f
unfolding output
output_alone node f (ToLink link p) alone = by_length (is_too_long node link p)
  where
    by_length : (b : Bool) → IsAlone (cond b (record node { todo = with_loss (OfLink link 14) node.todo }) (at_place (at node.links link) (λ s. given s p) node)) f
    by_length true = record { numbered = alone.numbered; links = alone.links; fronts = alone.fronts }
    by_length false = record { numbered = numbered_at node.ends (at node.links link) (λ s. given s p) alone.numbered; links = alone.links; fronts = alone.fronts }
output_alone node f (ToFront front p) alone = record { numbered = numbered_at node.ends (at node.fronts front) (λ s. given s p) alone.numbered; links = alone.links; fronts = alone.fronts }
output_alone node f (CutLink link) alone = record {
  numbered = numbered_at node.ends (at node.links link) (closed 13) alone.numbered;
  links = λ p is. none_removed node.links.items (place_in node.links.numbers link) p.conn (alone.links p is);
  fronts = alone.fronts;
}
output_alone node f (Made dial link front) alone = alone

outputs_wait : (node : Node) (f : ℕ) (os : List ServerOut) → IsAlone node f → (waiting_for (outputs node os) f ≤ waiting_for node f + bytes_to f os) × IsAlone (outputs node os) f
outputs_wait node f [] alone = (omega arith, alone)
outputs_wait node f (o ∷ os) alone =
    let rest = outputs_wait (output node o) f os (output_alone node f o alone) in
    (omega (arith, rest.0, output_waits node f o alone), rest.1)

-- ---- nothing is dropped

not_full : (e : Option End) (s : ℕ) → waiting_on e s ≤ 5242880 → is_full_on e s ≡ false
not_full None s h = refl
not_full (Some (Streams for_agents carrier)) s h = le-ltb 5242880 (length (queue_of carrier.conn.state s)) h
not_full (Some (Connect d)) s h = refl

not_full_at : (ends : Members End) (o : Option Place) → waiting_at ends o ≤ 5242880 → is_full_at ends o ≡ false
not_full_at ends None h = refl
not_full_at ends (Some p) h = not_full (at ends p.conn) p.stream h

not_dropped : (node : Node) (o : ServerOut) → ((f : ℕ) → waiting_for node f ≤ 5242880) → drops node o ≡ false
not_dropped node (ToFront front p) h = not_full_at node.ends (at node.fronts front) (h front)
not_dropped node (ToLink link p) h = refl
not_dropped node (CutLink link) h = refl
not_dropped node (Made dial link front) h = refl

none_dropped : (node : Node) (os : List ServerOut) → AreAlone node → ((f : ℕ) → waiting_for node f + bytes_to f os ≤ 5242880) → DropsNone node os
none_dropped node [] alone h = tt
none_dropped node (o ∷ os) alone h =
    (not_dropped node o (λ f. omega (arith, h f)), none_dropped (output node o) os (λ f. output_alone node f o (alone f)) (λ f. omega (arith, h f, output_waits node f o (alone f))))

-- ---- an event

less_room : (f waiting less : ℕ) (s : server_state.State) → less ≤ waiting → HasRoom f waiting s → HasRoom f less s
less_room f waiting less s le h = record { few = h.few; room = omega (arith, h.room, le) }

event_waits : (e : ServerEvent) (node : Node) (f : ℕ) → waiting_for (event e node) f ≡ waiting_for (outputs (after_core e node) (server.step node.core e).outs) f
unfolding event
event_waits e node f = refl

event_alone : (e : ServerEvent) (node : Node) (f : ℕ) → IsAlone (outputs (after_core e node) (server.step node.core e).outs) f → IsAlone (event e node) f
unfolding event
event_alone e node f alone = record { numbered = alone.numbered; links = alone.links; fronts = alone.fronts }

core_alone : (e : ServerEvent) (node : Node) (f : ℕ) → IsAlone node f → IsAlone (after_core e node) f
core_alone e node f alone = record { numbered = alone.numbered; links = alone.links; fronts = alone.fronts }

pub events_drop_none : (node : Node) (e : ServerEvent) → AreAlone node → HaveRoom node → IsShort e → AreInTime node e
    → DropsNone (after_core e node) (server.step node.core e).outs × AreAlone (event e node) × HaveRoom (event e node)
events_drop_none node e alone room short in_time = (dropped, all_alone, all_room)
  where
    os : List ServerOut
    os = (server.step node.core e).outs

    kept : (f : ℕ) → HasRoom f (waiting_for node f + bytes_to f os) (server.step node.core e).state
    kept f = room_kept f (waiting_for node f) node.core e short (in_time f) (room f)

    dropped : DropsNone (after_core e node) os
    dropped = none_dropped (after_core e node) os (λ f. core_alone e node f (alone f)) (λ f. omega (arith, (kept f).room))

    ends : (f : ℕ) → (waiting_for (outputs (after_core e node) os) f ≤ waiting_for node f + bytes_to f os) × IsAlone (outputs (after_core e node) os) f
    ends f = outputs_wait (after_core e node) f os (core_alone e node f (alone f))

    all_alone : AreAlone (event e node)
    all_alone f = event_alone e node f (ends f).1

    all_room : HaveRoom (event e node)
    all_room f =
        let less = less_room f (waiting_for node f + bytes_to f os) (waiting_for (outputs (after_core e node) os) f) (server.step node.core e).state (ends f).0 (kept f) in
        subst (λ (s : server_state.State). HasRoom f (waiting_for (event e node) f) s) (sym (event_core e node)) (subst (λ w. HasRoom f w (server.step node.core e).state) (sym (event_waits e node f)) less)

-- ---- pauses

waiting_within : (ends : Members End) (o : Option Place) → (n : ℕ) → (queue : ℕ) → queue ≤ n → waiting_at ends o ≤ queue → waiting_at ends o ≤ n
waiting_within ends o n queue le h = omega (arith, le, h)

-- what waits on a stream is its queue
waiting_queued : (e : Option End) (s : ℕ) → waiting_on e s ≤ queued_in e s
waiting_queued None s = omega arith
waiting_queued (Some (Streams for_agents carrier)) s = omega arith
waiting_queued (Some (Connect d)) s = omega arith

waiting_queue : (node : Node) (o : Option Place) → waiting_at node.ends o ≤ queue_at node.ends o
waiting_queue node None = omega arith
waiting_queue node (Some p) = waiting_queued (at node.ends p.conn) p.stream

not_long : (node : Node) (f : ℕ) → is_long (front_queue node f) ≡ false → waiting_for node f ≤ 65536
not_long node f h = omega (arith, waiting_queue node (at node.fronts f), ltb-false 65536 (front_queue node f) h)

both_false : (a b : Bool) → (a || b) ≡ false → a ≡ false
both_false true b h = absurd cc
both_false false b h = refl

not_true : (b : Bool) → not b ≡ true → b ≡ false
not_true true h = absurd cc
not_true false h = refl

-- data for a front that is held waits for the front's queue
held_in_time : (node : Node) (f : ℕ) (o : Option HeldEntry) → waits_for_front node o ≡ false → is_for f o ≡ true → waiting_for node f ≤ 65536
held_in_time node f None h own = absurd cc
held_in_time node f (Some e) h own = by_front e.front h own
  where
    by_front : (g : Option ℕ) → front_is_long node g ≡ false → has_front g f ≡ true → waiting_for node f ≤ 65536
    by_front None h own = absurd cc
    by_front (Some g) h own = let same : g ≡ f = eqb-true g f own in not_long node f (subst (λ k. is_long (front_queue node k) ≡ false) same h)

-- in time, and short
abbrev pub Comes : Node → ServerEvent → Type 0
Comes node e = AreInTime node e × IsShort e

link_in_time : (node : Node) (link : ℕ) (p : Packet) → link_waits node link p ≡ false → AreInTime node (LinkPacket link p)
link_in_time node link (Data id error bytes) h = λ f own. held_in_time node f (first_where (is_held link id) node.core.held) h own
link_in_time node link (DialReq protocol address random) h = λ f own. absurd cc
link_in_time node link (DialRsp error id random) h = λ f own. absurd cc
link_in_time node link (CloseReq id) h = λ f own. absurd cc
link_in_time node link (CloseRsp error id) h = λ f own. absurd cc
link_in_time node link (DialCls random) h = λ f own. absurd cc
link_in_time node link Drain h = λ f own. absurd cc
link_in_time node link (Other number) h = λ f own. absurd cc

own_in_time : (node : Node) (front f : ℕ) → is_long (front_queue node front) ≡ false → eqb front f ≡ true → waiting_for node f ≤ 65536
own_in_time node front f h own = let same : front ≡ f = eqb-true front f own in not_long node f (subst (λ k. is_long (front_queue node k) ≡ false) same h)

front_in_time : (node : Node) (front : ℕ) (p : Packet) → front_waits node front p ≡ false → AreInTime node (FrontPacket front p)
front_in_time node front (Data id error bytes) h = λ f own. absurd cc
front_in_time node front (DialReq protocol address random) h = λ f own. own_in_time node front f (both_false (is_long (front_queue node front)) _ h) own
front_in_time node front (DialRsp error id random) h = λ f own. own_in_time node front f (both_false (is_long (front_queue node front)) _ h) own
front_in_time node front (CloseReq id) h = λ f own. own_in_time node front f (both_false (is_long (front_queue node front)) _ h) own
front_in_time node front (CloseRsp error id) h = λ f own. own_in_time node front f (both_false (is_long (front_queue node front)) _ h) own
front_in_time node front (DialCls random) h = λ f own. own_in_time node front f (both_false (is_long (front_queue node front)) _ h) own
front_in_time node front Drain h = λ f own. own_in_time node front f (both_false (is_long (front_queue node front)) _ h) own
front_in_time node front (Other number) h = λ f own. own_in_time node front f (both_false (is_long (front_queue node front)) _ h) own

event_is : (a b : ServerEvent) → (a ∷ []) ≡ (b ∷ []) → a ≡ b
event_is a b h = cc

come_as : (node : Node) (a b : ServerEvent) → (a ∷ []) ≡ (b ∷ []) → Comes node a → Comes node b
come_as node a b h comes = subst (λ x. Comes node x) (event_is a b h) comes

first_comes : (node : Node) (w : Who) (ended : Bool) (kept : List ℕ) (first : First Packet ℕ) (e : ServerEvent) → first_of kept ≡ first → can_take node w ended first ≡ true → first_events w first ≡ e ∷ [] → Comes node e
first_comes node w ended kept Less e read can is = absurd cc
first_comes node w ended kept (Bad status) e read can is = absurd cc
first_comes node (who.Link link) ended kept (Whole p rest) e read can is = come_as node (LinkPacket link p) e is (link_in_time node link p (not_true (link_waits node link p) can), messages_short kept rest p read)
first_comes node (who.Front front) ended kept (Whole p rest) e read can is = come_as node (FrontPacket front p) e is (front_in_time node front p (not_true (front_waits node front p) can), tt)
first_comes node who.Server ended kept (Whole p rest) e read can is = absurd cc

inlet_comes : (node : Node) (i : Option Inlet) (e : ServerEvent) → inlet_can node i ≡ true → inlet_events i ≡ e ∷ [] → Comes node e
inlet_comes node None e can is = absurd cc
inlet_comes node (Some i) e can is = first_comes node i.who i.ended i.messages.kept (first_of i.messages.kept) e refl can is

early_comes : (node : Node) (front : Option ℕ) (id : Option ℤ) (bytes : List ℕ) (e : ServerEvent) → early_events front id bytes ≡ e ∷ [] → Comes node e
early_comes node (Some front) (Some id) bytes e is = come_as node (FrontPacket front (Data id [] bytes)) e is ((λ f own. absurd cc), tt)
early_comes node (Some front) None bytes e is = absurd cc
early_comes node None id bytes e is = absurd cc

end_comes : (node : Node) (o : Option End) (s : ℕ) (e : ServerEvent) → can_on node o s ≡ true → handled_events o s ≡ e ∷ [] → Comes node e
end_comes node None s e can is = absurd cc
end_comes node (Some (Streams k carrier)) s e can is = inlet_comes node (inlet_in (Some (Streams k carrier)) s) e can is
end_comes node (Some (Connect d)) s e can is = early_comes node d.front d.dial d.early e is

handle_comes : (node : Node) (c s : ℕ) (e : ServerEvent) → can_handle node c s ≡ true → handled_events (at node.ends c) s ≡ e ∷ [] → Comes node e
unfolding can_handle
handle_comes node c s e can is = end_comes node (at node.ends c) s e can is

loss_comes : (node : Node) (todo : List Loss) (e : ServerEvent) → loss_events todo ≡ e ∷ [] → Comes node e
loss_comes node [] e is = absurd cc
loss_comes node (OfLink link status ∷ ls) e is = come_as node (LinkLost link) e is ((λ f own. absurd cc), tt)
loss_comes node (OfFront front status ∷ ls) e is = come_as node (FrontLost front) e is ((λ f own. absurd cc), tt)

comes_if : (node : Node) (b : Bool) (x e : ServerEvent) → Comes node x → cond b [] (x ∷ []) ≡ e ∷ [] → Comes node e
comes_if node true x e comes is = absurd cc
comes_if node false x e comes is = come_as node x e is comes

up_comes : (node : Node) (service : Service) (identifiers : List (IdKind × List ℕ)) (e : ServerEvent) → up_events node service identifiers ≡ e ∷ [] → Comes node e
up_comes node Agent identifiers e is = comes_if node (has_no_link node) (LinkUp (node.core.links.top + 1) identifiers) e ((λ f own. absurd cc), tt) is
up_comes node Proxy identifiers e is = comes_if node (has_no_front node) (FrontUp (node.core.fronts.top + 1)) e ((λ f own. absurd cc), tt) is

call_comes : (node : Node) (call : Result Call CallFault) (e : ServerEvent) → came_events node call ≡ e ∷ [] → Comes node e
call_comes node (Ok call) e is = up_comes node call.service call.identifiers e is
call_comes node (Err fault) e is = absurd cc

opened_comes : (node : Node) (kind : Option Bool) (fields : List Field) (e : ServerEvent) → opened_events node kind fields ≡ e ∷ [] → Comes node e
opened_comes node None fields e is = absurd cc
opened_comes node (Some for_agents) fields e is = call_comes node (call_for for_agents fields) e is

heard_comes : (node : Node) (conn : ℕ) (h : H2Event) (e : ServerEvent) → heard_events node conn h ≡ e ∷ [] → Comes node e
heard_comes node conn (events.Opened s fields) e is = opened_comes node (for_agents_in (at node.ends conn)) fields e is
heard_comes node conn (events.Head s fields) e is = absurd cc
heard_comes node conn (events.Text s) e is = absurd cc
heard_comes node conn (events.Ended s) e is = absurd cc
heard_comes node conn (events.Reset s code) e is = absurd cc
heard_comes node conn (events.Away code) e is = absurd cc
heard_comes node conn (events.Closed code) e is = absurd cc

told_comes : (node : Node) (told : List Heard) (e : ServerEvent) → told_events node told ≡ e ∷ [] → Comes node e
told_comes node [] e is = absurd cc
told_comes node (x ∷ told) e is = heard_comes node x.conn x.event e is

pub steps_in_time : (node : Node) (s : Step) (e : ServerEvent) → MayDo node s → step_events node s ≡ e ∷ [] → AreInTime node e × IsShort e
steps_in_time node Follow e may is = loss_comes node node.todo e is
steps_in_time node Hear e may is = told_comes node node.told e is
steps_in_time node (Handle c s) e may is = handle_comes node c s e may.2 is
steps_in_time node (Look c) e may is = absurd cc
steps_in_time node (Write c m) e may is = absurd cc
steps_in_time node (Forget c) e may is = absurd cc
