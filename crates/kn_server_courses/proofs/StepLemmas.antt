-- Each step is sound.
use Rattle.std.proofs.Common.{◌≡◌, ℕ, ℤ, ◌≤◌, Bool, true, false, eqb, List, [], ◌∷◌, Option, Some, None, refl, sym, subst, arith}
use Rattle.std.proofs.lemmas.Bool.{eqb-true}
use Rattle.kn_packet.specs.declared.packet.Packet.{Packet}
use Rattle.kn_packet.specs.declared.packet.Packet.TheVariants.{Data}
use Rattle.kn_grpc.specs.Readers.{First, Less, Whole, Bad}
use Rattle.kn_grpc.specs.Packets.{first_of}
use Rattle.kn_h2_state.specs.declared.event.H2Event.{H2Event}
use Rattle.kn_h2_state.specs.declared.event.H2Event.TheVariants as events
use Rattle.kn_server_core.specs.declared.event.ServerEvent.{ServerEvent}
use Rattle.kn_server_core.specs.declared.event.ServerEvent.TheVariants.{LinkPacket, LinkLost, FrontPacket, FrontLost}
use Rattle.kn_front_room.specs.Rooms.{IsShort}
use Rattle.kn_ends.specs.declared.heard.Heard.{Heard}
use Rattle.kn_ends.specs.declared.inlet.Inlet.{Inlet}
use Rattle.kn_ends.specs.declared.who.Who.{Who}
use Rattle.kn_ends.specs.declared.who.Who.TheVariants as who
use Rattle.kn_ends.specs.Carriers.{on_inlet, after_read, after_write, taken_from, with_end, with_reset}
use Rattle.kn_rising.specs.Members.{at, without}
use Rattle.kn_server_node.specs.declared.end.End.{End}
use Rattle.kn_server_node.specs.declared.end.End.TheVariants.{Streams, Connect}
use Rattle.kn_server_node.specs.declared.loss.Loss.{Loss}
use Rattle.kn_server_node.specs.declared.loss.Loss.TheVariants.{OfLink, OfFront}
use Rattle.kn_server_node.specs.declared.place.Place.{Place}
use Rattle.kn_server_node.specs.declared.node.Node.{Node}
use Rattle.kn_server_node.specs.Doors as door
use Rattle.kn_server_node.specs.Ends.{on_carrier, on_door, inlet_in}
use Rattle.kn_server_node.specs.Nodes.{on_end, link_ended, front_ended, count_up}
use Rattle.kn_server_node.specs.Steps.{heard, hear, packet_event, handle, handle_inlet, early_handled, handle_on, lose, follow, Step, Follow, Hear, Handle, Look, Write, Forget, MayDo, after_step}
use Rattle.kn_server_node.specs.CoreEvents.{heard_events, told_events, packet_events, first_events, inlet_events, early_events, handled_events, loss_events, step_events}
use Rattle.kn_server_node.specs.FrontRooms.{waiting_on, waiting_at, AreInTime}
use Rattle.kn_server_node.proofs.MemberLemmas.{without_others}
use Rattle.kn_server_node.proofs.FrontRoomLemmas.{steps_in_time}
use Rattle.kn_server_courses.specs.Courses.{loss_finds, heard_finds, told_finds, handled_finds, finds}
use Rattle.kn_server_courses.proofs.FrontBaseLemmas.{Known, Calm}
use Rattle.kn_server_courses.proofs.CalmLemmas.{on_carrier_calm, on_door_calm, read_quiet, inlet_quiet, taken_quiet, closed_calm, write_quiet}
use Rattle.kn_server_courses.proofs.FrontRunLemmas.{Base, BaseOf, Inv, calm_inv, calm_waits, less_room, link_ended_inv, front_ended_inv, without_members, gone_there}
use Rattle.kn_server_courses.proofs.SoundLemmas.{Ready, Sound, BaseWith, sound_none, sound_event, next_base, heard_opened}

-- ---- losses

loss_sound : (l : Loss) (ls : List Loss) (node : Node) → Inv node → Sound (lose l (record node { todo = ls })) (loss_finds (l ∷ ls) node) (loss_events (l ∷ ls))
unfolding lose
loss_sound (OfLink link status) ls node i =
    sound_event (link_ended link status (record node { todo = ls })) (LinkLost link) (record { inv = link_ended_inv closed_calm (record node { todo = ls }) link status i; in_time = λ front is. absurd cc; short = tt })
loss_sound (OfFront front status) ls node i =
    sound_event (front_ended front status (record node { todo = ls })) (FrontLost front) (record { inv = front_ended_inv closed_calm (record node { todo = ls }) front status i; in_time = λ f is. absurd cc; short = tt })

follow_sound : (todo : List Loss) (node : Node) → Inv node → Sound (follow todo node) (loss_finds todo node) (loss_events todo)
follow_sound [] node i = sound_none node node i
follow_sound (l ∷ ls) node i = loss_sound l ls node i

-- ---- what was told

heard_sound : (node : Node) (conn : ℕ) (e : H2Event) → BaseWith node conn e → Inv node → Sound (heard conn e node) (heard_finds conn e node) (heard_events node conn e)
unfolding heard
heard_sound node conn (events.Opened s fields) b i = heard_opened node conn s fields b i
heard_sound node conn (events.Head s fields) b i = sound_none node node i
heard_sound node conn (events.Text s) b i = sound_none (on_end conn (on_carrier (after_read s)) node) node (calm_inv node conn (on_carrier (after_read s)) (on_carrier_calm (after_read s) (read_quiet s)) i)
heard_sound node conn (events.Ended s) b i = sound_none (on_end conn (on_carrier (on_inlet s with_end)) node) node (calm_inv node conn (on_carrier (on_inlet s with_end)) (on_carrier_calm (on_inlet s with_end) (inlet_quiet s with_end)) i)
heard_sound node conn (events.Reset s code) b i = sound_none (on_end conn (on_carrier (on_inlet s with_reset)) node) node (calm_inv node conn (on_carrier (on_inlet s with_reset)) (on_carrier_calm (on_inlet s with_reset) (inlet_quiet s with_reset)) i)
heard_sound node conn (events.Away code) b i = sound_none node node i
heard_sound node conn (events.Closed code) b i = sound_none (heard conn (events.Closed code) node) node i

hear_sound : (told : List Heard) (node : Node) → node.told ≡ told → Inv node → Sound (hear told node) (told_finds told node) (told_events node told)
unfolding hear
hear_sound [] node is i = sound_none node node i
hear_sound (x ∷ told) node is i =
    let b : Base node.ends node.top node.links node.fronts (x ∷ told) = subst (λ t. Base node.ends node.top node.links node.fronts t) is i.0 in
    heard_sound (record node { told = told }) x.conn x.event b (next_base node.ends node.top node.links node.fronts x told b, i.1)

-- ---- what stands at the front of a stream

-- what came in time comes so still where less waits
still_in_time : (node : Node) (n : ℕ) (g : End → End) (count : ℕ) (e : ServerEvent) → Calm g → Inv node → AreInTime node e → AreInTime (record (on_end n g node) { handled = count }) e
still_in_time node n g count e calm i t front is =
    let le = calm_waits node.ends node.top node.links node.fronts node.told n g (at node.fronts front) calm i.0 in
    let before = t front is in
    omega (arith, le, before)

abbrev InTime : Node → List ServerEvent → Type 0
InTime node es = (e : ServerEvent) → es ≡ e ∷ [] → AreInTime node e × IsShort e

taken_ready : (node : Node) (conn s : ℕ) (e : ServerEvent) → AreInTime node e × IsShort e → Inv node → Ready (record (on_end conn (on_carrier (taken_from s)) node) { handled = count_up node.handled }) e
taken_ready node conn s e t i =
    let calm = on_carrier_calm (taken_from s) (taken_quiet s) in
    record { inv = calm_inv node conn (on_carrier (taken_from s)) calm i; in_time = still_in_time node conn (on_carrier (taken_from s)) (count_up node.handled) e calm i t.0; short = t.1 }

packet_sound : (node : Node) (conn s : ℕ) (w : Who) (p : Packet) → InTime node (packet_events w p) → Inv node
    → Sound (packet_event w p (record (on_end conn (on_carrier (taken_from s)) node) { handled = count_up node.handled })) (record (on_end conn (on_carrier (taken_from s)) node) { handled = count_up node.handled }) (packet_events w p)
packet_sound node conn s (who.Link link) p t i = sound_event (record (on_end conn (on_carrier (taken_from s)) node) { handled = count_up node.handled }) (LinkPacket link p) (taken_ready node conn s (LinkPacket link p) (t (LinkPacket link p) refl) i)
packet_sound node conn s (who.Front front) p t i = sound_event (record (on_end conn (on_carrier (taken_from s)) node) { handled = count_up node.handled }) (FrontPacket front p) (taken_ready node conn s (FrontPacket front p) (t (FrontPacket front p) refl) i)
packet_sound node conn s who.Server p t i = sound_none (record (on_end conn (on_carrier (taken_from s)) node) { handled = count_up node.handled }) (record (on_end conn (on_carrier (taken_from s)) node) { handled = count_up node.handled })
    (calm_inv node conn (on_carrier (taken_from s)) (on_carrier_calm (taken_from s) (taken_quiet s)) i)

first_sound : (node : Node) (conn s : ℕ) (w : Who) (f : First Packet ℕ) → InTime node (first_events w f) → Inv node
    → Sound (handle conn s w f node) (record (on_end conn (on_carrier (taken_from s)) node) { handled = count_up node.handled }) (first_events w f)
unfolding handle
first_sound node conn s w Less t i = sound_none (handle conn s w Less node) (record (on_end conn (on_carrier (taken_from s)) node) { handled = count_up node.handled }) i
first_sound node conn s w (Whole p rest) t i = packet_sound node conn s w p t i
first_sound node conn s w (Bad status) t i = sound_none (handle conn s w (Bad status) node) (record (on_end conn (on_carrier (taken_from s)) node) { handled = count_up node.handled }) i

inlet_sound : (node : Node) (conn s : ℕ) (o : Option Inlet) → InTime node (inlet_events o) → Inv node
    → Sound (handle_inlet conn s o node) (record (on_end conn (on_carrier (taken_from s)) node) { handled = count_up node.handled }) (inlet_events o)
inlet_sound node conn s None t i = sound_none node (record (on_end conn (on_carrier (taken_from s)) node) { handled = count_up node.handled }) i
inlet_sound node conn s (Some x) t i = first_sound node conn s x.who (first_of x.messages.kept) t i

without_early_calm : Calm (on_door door.without_early)
without_early_calm = on_door_calm door.without_early (λ d none. none)

early_inv : (node : Node) (conn : ℕ) → Inv node → Inv (record (on_end conn (on_door door.without_early) node) { handled = count_up node.handled })
early_inv node conn i = calm_inv node conn (on_door door.without_early) without_early_calm i

early_sound : (node : Node) (conn : ℕ) (front : Option ℕ) (dial : Option ℤ) (bytes : List ℕ) → InTime node (early_events front dial bytes) → Inv node
    → Sound (early_handled conn front dial bytes node) (record (on_end conn (on_door door.without_early) node) { handled = count_up node.handled }) (early_events front dial bytes)
early_sound node conn (Some front) (Some id) bytes t i =
    let came = t (FrontPacket front (Data id [] bytes)) refl in
    sound_event (record (on_end conn (on_door door.without_early) node) { handled = count_up node.handled }) (FrontPacket front (Data id [] bytes)) (record {
      inv = early_inv node conn i;
      in_time = still_in_time node conn (on_door door.without_early) (count_up node.handled) (FrontPacket front (Data id [] bytes)) without_early_calm i came.0;
      short = tt;
    })
early_sound node conn (Some front) None bytes t i = sound_none (record (on_end conn (on_door door.without_early) node) { handled = count_up node.handled }) (record (on_end conn (on_door door.without_early) node) { handled = count_up node.handled }) (early_inv node conn i)
early_sound node conn None id bytes t i = sound_none (record (on_end conn (on_door door.without_early) node) { handled = count_up node.handled }) (record (on_end conn (on_door door.without_early) node) { handled = count_up node.handled }) (early_inv node conn i)

handled_sound : (node : Node) (conn s : ℕ) (o : Option End) → InTime node (handled_events o s) → Inv node → Sound (handle_on o conn s node) (handled_finds o conn s node) (handled_events o s)
unfolding handle_on
handled_sound node conn s None t i = sound_none node node i
handled_sound node conn s (Some (Streams k carrier)) t i = inlet_sound node conn s (inlet_in (Some (Streams k carrier)) s) t i
handled_sound node conn s (Some (Connect d)) t i = early_sound node conn d.front d.dial d.early t i

-- ---- a connection is forgotten

at_forgotten : (P : Option End → Type 0) (node : Node) (n c : ℕ) → BaseOf node → P None → P (at node.ends c) → P (at (without node.ends n) c)
at_forgotten P node n c b none other = by_number (eqb c n) refl
  where
    by_number : (t : Bool) → eqb c n ≡ t → P (at (without node.ends n) c)
    by_number true e = subst (λ k. P (at (without node.ends n) k)) (sym (eqb-true c n e)) (subst P (sym (gone_there node.ends n b.ends)) none)
    by_number false e = subst P (sym (without_others node.ends n c b.ends.same e)) other

forget_base : (node : Node) (n : ℕ) → BaseOf node → Base (without node.ends n) node.top node.links node.fronts node.told
forget_base node n b = record {
  ends = without_members node.ends n b.ends;
  fronts = b.fronts;
  ends_within = λ c above. at_forgotten (λ o. o ≡ None) node n c b refl (b.ends_within c above);
  fronts_within = b.fronts_within;
  links_within = b.links_within;
  told_within = b.told_within;
  known = λ c. at_forgotten (λ o. Known c node.fronts.items node.links.items node.told o) node n c b tt (b.known c);
  elsewhere = b.elsewhere;
  apart = b.apart;
}

forget_waits : (node : Node) (n : ℕ) (o : Option Place) → BaseOf node → waiting_at (without node.ends n) o ≤ waiting_at node.ends o
forget_waits node n None b = omega arith
forget_waits node n (Some p) b = at_forgotten (λ e. waiting_on e p.stream ≤ waiting_on (at node.ends p.conn) p.stream) node n p.conn b (omega arith) (omega arith)

forget_inv : (node : Node) (n : ℕ) → Inv node → Inv (record node { ends = without node.ends n })
forget_inv node n i = (forget_base node n i.0, λ f. less_room f (waiting_at node.ends (at node.fronts f)) (waiting_at (without node.ends n) (at node.fronts f)) node.core (forget_waits node n (at node.fronts f) i.0) (i.1 f))

-- ---- steps

pub step_sound : (node : Node) (s : Step) → MayDo node s → Inv node → Sound (after_step node s) (finds node s) (step_events node s)
unfolding after_step
step_sound node Follow may i = follow_sound node.todo node i
step_sound node Hear may i = hear_sound node.told node refl i
step_sound node (Handle c s) may i = handled_sound node c s (at node.ends c) (λ e is. steps_in_time node (Handle c s) e may is) i
step_sound node (Look c) may i = sound_none (after_step node (Look c)) node i
step_sound node (Write c m) may i = sound_none (after_step node (Write c m)) node (calm_inv node c (on_carrier (after_write m)) (on_carrier_calm (after_write m) (write_quiet m)) i)
step_sound node (Forget c) may i = sound_none (after_step node (Forget c)) node (forget_inv node c i)
