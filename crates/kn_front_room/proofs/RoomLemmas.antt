-- The room for a front through each rule.
use Rattle.std.proofs.Common.{◌≡◌, ℕ, ℤ, pos, negsuc, ◌+◌, ◌*◌, ◌≤◌, ◌<◌, Bool, true, false, cond, eqb, ltb, List, [], ◌∷◌, ◌++◌, length, take, drop, filter, Option, Some, None, Result, Ok, Err, codes, refl, sym, ap, subst, arith}
use Rattle.std.proofs.lemmas.List.{length-take, length-drop}
use Rattle.std.proofs.lemmas.Bool.{ltb-true, eqb-true}
use Rattle.kn_packet.specs.declared.packet.Packet.{Packet}
use Rattle.kn_packet.specs.declared.packet.Packet.TheVariants.{DialReq, DialRsp, CloseReq, CloseRsp, Data, DialCls, Drain, Other}
use Rattle.kn_grpc.specs.Packets.{framed}
use Rattle.kn_route.specs.declared.strategy.Strategy.{Strategy}
use Rattle.kn_route.specs.declared.host.HostFault.{HostFault}
use Rattle.kn_route.specs.LinkLists.{has_link}
use Rattle.kn_route.specs.Hosts.{host_in}
use Rattle.kn_route.specs.Choice.{pick}
use Rattle.kn_tables.specs.declared.awaited_entry.AwaitedEntry.{AwaitedEntry}
use Rattle.kn_tables.specs.declared.held_entry.HeldEntry.{HeldEntry}
use Rattle.kn_tables.specs.declared.held_entry.HeldState.{HeldState}
use Rattle.kn_tables.specs.declared.held_entry.HeldState.TheVariants.{Open, Closing}
use Rattle.kn_tables.specs.Lists.{first_where, count_where}
use Rattle.kn_tables.specs.Awaiting.{is_dial, is_random, is_of_link, is_of_front}
use Rattle.kn_tables.specs.Holding.{is_held, is_held_on, is_held_by, has_front, closed_at, closed_entry, by_connect_id}
use Rattle.kn_server_core.specs.declared.event.ServerEvent.{ServerEvent}
use Rattle.kn_server_core.specs.declared.event.ServerEvent.TheVariants.{LinkUp, LinkPacket, LinkLost, FrontUp, FrontPacket, FrontLost}
use Rattle.kn_server_core.specs.declared.event.ServerOut.{ServerOut}
use Rattle.kn_server_core.specs.declared.event.ServerOut.TheVariants.{ToFront}
use Rattle.kn_server_core.specs.declared.state.State.{State}
use Rattle.kn_server_core.specs.FrontLists.{is_up}
use Rattle.kn_server_core.specs.Packets.{refusal, opened, data_to_front, data_to_link, in_packets}
use Rattle.kn_server_core.specs.Steps.{Step}
use Rattle.kn_server_core.specs.Texts.{error_cut}
use Rattle.kn_server_core.specs.Server.{ignored, told, step, start, tunnels_of, from_link, from_front, link_lost, front_lost, second_reply_cuts, reply, reply_by_entry, awaited_reply, refused_reply, tunnel_opened, dial_failed, of_link, dial_at, data_down, open_down, tunnel_ended, ended_to, all_awaited_lost, all_held_lost, held_lost, front_left, all_asked, asked_at_loss, dial_chosen, dial_choice, host_choice, number_choice, dial_sent, is_tcp, data_up, open_up, close_from_front, close_own, dial_cancelled, own, held_at}
use Rattle.kn_server_core.proofs.SoundLemmas.{passes}
use Rattle.kn_front_room.specs.Rooms.{bytes_of, bytes_to, still_to_come, is_for, is_data_for, asks, ComesInTime, IsShortPacket, IsShort, HasRoom}
use Rattle.kn_front_room.proofs.CountLemmas.{counted, count_more, count_without, count_put, count_parts, count_mapped, count_sorted, count_less}
use Rattle.kn_front_room.proofs.LengthLemmas.{cut_short, reply_short, end_short, data_short}

-- ---- bytes among outputs

append_bytes : (f : ℕ) (os us : List ServerOut) → bytes_to f (os ++ us) ≡ bytes_to f os + bytes_to f us
append_bytes f [] us = omega arith
append_bytes f (o ∷ os) us = omega (arith, append_bytes f os us)

-- a packet for a front, which is this one or not
for_front : (n most : ℕ) (b : Bool) → n ≤ most → cond b n 0 ≤ most * counted b
for_front n most true h = omega (arith, h)
for_front n most false h = omega arith

refusal_bytes : (f front : ℕ) (random : ℤ) (text : List ℕ) → length text ≤ 256 → bytes_of f (refusal front random text) ≤ 320 * counted (eqb front f)
refusal_bytes f front random text short = for_front (length (framed (DialRsp text (pos 0) random))) 320 (eqb front f) (reply_short text (pos 0) random short)

opened_bytes : (f front dial : ℕ) (random : ℤ) → bytes_of f (opened front dial random) ≤ 320 * counted (eqb front f)
opened_bytes f front dial random = for_front (length (framed (DialRsp [] (pos dial) random))) 320 (eqb front f) (reply_short [] (pos dial) random (omega arith))

ended_bytes : (f : ℕ) (o : Option ℕ) (dial : ℕ) (text : List ℕ) → length text ≤ 256 → bytes_to f (ended_to o dial text) ≤ 320 * counted (has_front o f)
ended_bytes f None dial text short = omega arith
ended_bytes f (Some front) dial text short = omega (arith, for_front (length (framed (CloseRsp text (pos dial)))) 320 (eqb front f) (end_short text (pos dial) short))

lost_short : length (codes "agent lost") ≤ 256
lost_short = omega arith

awaited_bytes : (f : ℕ) (es : List AwaitedEntry) → bytes_to f (all_awaited_lost es) ≤ 320 * count_where (is_of_front f) es
awaited_bytes f [] = omega arith
awaited_bytes f (e ∷ es) = omega (arith, refusal_bytes f e.front e.random (codes "agent lost") lost_short, awaited_bytes f es, count_more (is_of_front f) e es)

held_bytes : (f : ℕ) (es : List HeldEntry) → bytes_to f (all_held_lost es) ≤ 320 * count_where (is_held_by f) es
held_bytes f [] = omega arith
held_bytes f (e ∷ es) = omega (arith, append_bytes f (held_lost e) (all_held_lost es), ended_bytes f e.front e.dial (codes "agent lost") lost_short, held_bytes f es, count_more (is_held_by f) e es)

data_up_bytes : (f link : ℕ) (id : ℤ) (parts : List (List ℕ)) → bytes_to f (data_to_link link id parts) ≡ 0
data_up_bytes f link id [] = refl
data_up_bytes f link id (bytes ∷ rest) = omega (arith, data_up_bytes f link id rest)

asked_bytes : (f : ℕ) (state : HeldState) (e : HeldEntry) → bytes_to f (asked_at_loss state e) ≡ 0
asked_bytes f Open e = refl
asked_bytes f Closing e = refl

all_asked_bytes : (f : ℕ) (es : List HeldEntry) → bytes_to f (all_asked es) ≡ 0
all_asked_bytes f [] = refl
all_asked_bytes f (e ∷ es) = omega (arith, append_bytes f (asked_at_loss e.state e) (all_asked es), asked_bytes f e.state e, all_asked_bytes f es)

-- ---- what was asked for is paid for

-- what is given out for a front was to come, and there are no more tunnels
pub record Paid (f : ℕ) (s : State) (t : Step) : Type 0 where
  pub bytes : bytes_to f t.outs + 320 * still_to_come f t.state ≤ 320 * still_to_come f s
  pub few : tunnels_of t.state f ≤ tunnels_of s f

ignored_paid : (f : ℕ) (s : State) → Paid f s (ignored s)
ignored_paid f s = record { bytes = omega arith; few = omega arith }

-- only the link is given something
told_paid : (f : ℕ) (s : State) (outs : List ServerOut) → bytes_to f outs ≡ 0 → Paid f s (told s outs)
told_paid f s outs none = record { bytes = omega (arith, none); few = omega arith }

is_number : (e : AwaitedEntry) (d : ℕ) (awaited : List AwaitedEntry) → first_where (is_dial d) awaited ≡ Some e → first_where (is_dial e.dial) awaited ≡ Some e
is_number e d awaited f = let n : e.dial ≡ d = eqb-true e.dial d (passes (is_dial d) e awaited f) in subst (λ y. first_where (is_dial y) awaited ≡ Some e) (sym n) f

opened_paid : (f : ℕ) (s : State) (link d : ℕ) (id : ℤ) (e : AwaitedEntry) → first_where (is_dial d) s.awaited ≡ Some e → Paid f s (tunnel_opened s link id e)
opened_paid f s link d id e found =
    let entry : HeldEntry = record { dial = e.dial; link = link; connect_id = id; front = Some e.front; state = Open } in
    let less = count_without (is_of_front f) (is_dial e.dial) e s.awaited (is_number e d s.awaited found) in
    let more = count_put (λ (x : HeldEntry). x.dial) (is_held_by f) entry s.held in
    record { bytes = omega (arith, less, more, opened_bytes f e.front e.dial e.random); few = omega (arith, less, more) }

failed_paid : (f : ℕ) (s : State) (d : ℕ) (error : List ℕ) (e : AwaitedEntry) → first_where (is_dial d) s.awaited ≡ Some e → Paid f s (dial_failed s error e)
failed_paid f s d error e found =
    let less = count_without (is_of_front f) (is_dial e.dial) e s.awaited (is_number e d s.awaited found) in
    record { bytes = omega (arith, less, refusal_bytes f e.front e.random (error_cut error) (cut_short error)); few = omega (arith, less) }

awaited_paid : (f : ℕ) (s : State) (link d : ℕ) (id : ℤ) (o : Option AwaitedEntry) → first_where (is_dial d) s.awaited ≡ o → Paid f s (awaited_reply s link id (of_link link o))
awaited_paid f s link d id None found = told_paid f s _ refl
awaited_paid f s link d id (Some e) found = of_here (eqb e.link link)
  where
    of_here : (b : Bool) → Paid f s (awaited_reply s link id (cond b (Some e) None))
    of_here true = opened_paid f s link d id e found
    of_here false = told_paid f s _ refl

awaited_at : (f : ℕ) (s : State) (link : ℕ) (id random : ℤ) → Paid f s (awaited_reply s link id (of_link link (dial_at random s.awaited)))
awaited_at f s link id (pos d) = awaited_paid f s link d id (first_where (is_dial d) s.awaited) refl
awaited_at f s link id (negsuc d) = told_paid f s _ refl

refused_paid : (f : ℕ) (s : State) (link d : ℕ) (error : List ℕ) (o : Option AwaitedEntry) → first_where (is_dial d) s.awaited ≡ o → Paid f s (refused_reply s error (of_link link o))
refused_paid f s link d error None found = ignored_paid f s
refused_paid f s link d error (Some e) found = of_here (eqb e.link link)
  where
    of_here : (b : Bool) → Paid f s (refused_reply s error (cond b (Some e) None))
    of_here true = failed_paid f s d error e found
    of_here false = ignored_paid f s

refused_at : (f : ℕ) (s : State) (link : ℕ) (error : List ℕ) (random : ℤ) → Paid f s (refused_reply s error (of_link link (dial_at random s.awaited)))
refused_at f s link error (pos d) = refused_paid f s link d error (first_where (is_dial d) s.awaited) refl
refused_at f s link error (negsuc d) = ignored_paid f s

lost_paid : (f : ℕ) (s : State) (link : ℕ) → Paid f s (link_lost s link)
lost_paid f s link =
    let gone : List AwaitedEntry = filter (is_of_link link) s.awaited in
    let ends : List HeldEntry = filter (is_held_on link) s.held in
    let awaited = count_parts (is_of_front f) (is_of_link link) s.awaited in
    let held = count_parts (is_held_by f) (is_held_on link) s.held in
    record {
      bytes = omega (arith, awaited, held, append_bytes f (all_awaited_lost gone) (all_held_lost (by_connect_id ends)), awaited_bytes f gone, held_bytes f (by_connect_id ends), count_sorted (is_held_by f) ends);
      few = omega (arith, awaited, held);
    }

cut_paid : (f : ℕ) (s : State) (link : ℕ) → Paid f s (second_reply_cuts s link)
cut_paid f s link = let l = lost_paid f s link in record { bytes = omega (arith, l.bytes); few = l.few }

reply_by : (f : ℕ) (s : State) (link : ℕ) (id random : ℤ) (o : Option HeldEntry) → Paid f s (reply_by_entry s link id random o)
reply_by f s link id random None = awaited_at f s link id random
reply_by f s link id random (Some e) = cut_paid f s link

reply_paid : (f : ℕ) (s : State) (link : ℕ) (error : List ℕ) (id random : ℤ) → Paid f s (reply s link error id random)
reply_paid f s link [] id random = reply_by f s link id random (first_where (is_held link id) s.held)
reply_paid f s link (x ∷ xs) id random = refused_at f s link (x ∷ xs) random

end_paid : (f : ℕ) (s : State) (link : ℕ) (id : ℤ) (error : List ℕ) (o : Option HeldEntry) → first_where (is_held link id) s.held ≡ o → Paid f s (tunnel_ended s link id error o)
end_paid f s link id error None found = ignored_paid f s
end_paid f s link id error (Some e) found =
    let less = count_without (is_held_by f) (is_held link id) e s.held found in
    record { bytes = omega (arith, less, ended_bytes f e.front e.dial (error_cut error) (cut_short error)); few = omega (arith, less) }

-- a link's data for another front
other_data : (f front dial : ℕ) (parts : List (List ℕ)) → eqb front f ≡ false → bytes_to f (data_to_front front dial parts) ≡ 0
other_data f front dial [] other = refl
other_data f front dial (bytes ∷ rest) other = let later = other_data f front dial rest other in rw other (omega (arith, later))

down_paid : (f : ℕ) (s : State) (bytes : List ℕ) (state : HeldState) (o : Option ℕ) (dial : ℕ) → has_front o f ≡ false → Paid f s (open_down s bytes state o dial)
down_paid f s bytes Open (Some front) dial other = told_paid f s _ (other_data f front dial (in_packets bytes) other)
down_paid f s bytes Open None dial other = ignored_paid f s
down_paid f s bytes Closing o dial other = ignored_paid f s

data_paid : (f : ℕ) (s : State) (bytes : List ℕ) (o : Option HeldEntry) → is_for f o ≡ false → Paid f s (data_down s bytes o)
data_paid f s bytes None other = ignored_paid f s
data_paid f s bytes (Some e) other = down_paid f s bytes e.state e.front e.dial other

from_link_paid : (f : ℕ) (s : State) (link : ℕ) (p : Packet) → is_data_for f s link p ≡ false → Paid f s (from_link s link p)
from_link_paid f s link (DialRsp error id random) other = reply_paid f s link error id random
from_link_paid f s link (Data id error bytes) other = data_paid f s bytes (first_where (is_held link id) s.held) other
from_link_paid f s link (CloseRsp error id) other = end_paid f s link id error (first_where (is_held link id) s.held) refl
from_link_paid f s link Drain other = record { bytes = omega arith; few = omega arith }
from_link_paid f s link (DialReq protocol address random) other = ignored_paid f s
from_link_paid f s link (CloseReq id) other = ignored_paid f s
from_link_paid f s link (DialCls random) other = ignored_paid f s
from_link_paid f s link (Other number) other = ignored_paid f s

paid_if : (f : ℕ) (s : State) (b : Bool) (t : Step) → Paid f s t → Paid f s (cond b t (ignored s))
paid_if f s true t h = h
paid_if f s false t h = ignored_paid f s

-- ---- a front's loss

left_counts : (f front : ℕ) (e : HeldEntry) → is_held_by f (front_left front e) ≡ true → is_held_by f e ≡ true
left_counts f front e h = left_here (is_held_by front e) h
  where
    left_here : (b : Bool) → is_held_by f (cond b (closed_entry false e) e) ≡ true → is_held_by f e ≡ true
    left_here true h = absurd cc
    left_here false h = h

front_lost_paid : (f : ℕ) (s : State) (front : ℕ) → Paid f s (front_lost s front)
front_lost_paid f s front =
    let awaited = count_parts (is_of_front f) (is_of_front front) s.awaited in
    let held = count_mapped (is_held_by f) (front_left front) s.held (left_counts f front) in
    record { bytes = omega (arith, awaited, held, all_asked_bytes f (filter (is_held_by front) s.held)); few = omega (arith, awaited, held) }

-- ---- packets of a front

-- only this front is given something, and it has at most two more to come
pub record Asked (f front : ℕ) (s : State) (t : Step) : Type 0 where
  pub bytes : bytes_to f t.outs ≤ 320 * counted (eqb front f)
  pub more : still_to_come f t.state ≤ still_to_come f s + 2 * counted (eqb front f)
  pub few : tunnels_of s f ≤ 600 → tunnels_of t.state f ≤ 600

paid_asked : (f front : ℕ) (s : State) (t : Step) → bytes_to f t.outs ≡ 0 → still_to_come f t.state ≤ still_to_come f s → tunnels_of t.state f ≤ tunnels_of s f → Asked f front s t
paid_asked f front s t none more few = record { bytes = omega (arith, none); more = omega (arith, more); few = λ l. omega (arith, few, l) }

ignored_asked : (f front : ℕ) (s : State) → Asked f front s (ignored s)
ignored_asked f front s = paid_asked f front s (ignored s) refl (omega arith) (omega arith)

told_asked : (f front : ℕ) (s : State) (outs : List ServerOut) → bytes_to f outs ≤ 320 * counted (eqb front f) → Asked f front s (told s outs)
told_asked f front s outs few = record { bytes = few; more = omega arith; few = λ l. l }

refused_asked : (f front : ℕ) (s : State) (random : ℤ) (text : List ℕ) → length text ≤ 256 → Asked f front s (told s (refusal front random text ∷ []))
refused_asked f front s random text short = told_asked f front s _ (omega (arith, refusal_bytes f front random text short))

sent_few : (f front : ℕ) (b : Bool) (most before after : ℕ) → eqb front f ≡ b → (b ≡ true → before < 600) → after ≡ counted b + before → before ≤ 600 → after ≤ 600
sent_few f front true most before after is few more l = omega (arith, few refl, more)
sent_few f front false most before after is few more l = omega (arith, more, l)

sent_asked : (f front : ℕ) (s : State) (protocol address : List ℕ) (random : ℤ) (link : ℕ) → tunnels_of s front < 600 → Asked f front s (dial_sent s front protocol address random link)
sent_asked f front s protocol address random link few =
    let entry : AwaitedEntry = record { dial = s.next_dial; front = front; link = link; random = random } in
    let more = count_put (λ (x : AwaitedEntry). x.dial) (is_of_front f) entry s.awaited in
    record {
      bytes = omega arith;
      more = omega (arith, more);
      few = sent_few f front (eqb front f) 0 (tunnels_of s f) (tunnels_of (dial_sent s front protocol address random link).state f) refl (λ i. subst (λ n. tunnels_of s n < 600) (eqb-true front f i) few) (omega (arith, more));
    }

-- where a dial may be sent, the front has fewer than 600
abbrev pub Chosen : State → ℕ → Result ℕ (List ℕ) → Type 0
Chosen s front (Ok link) = tunnels_of s front < 600
Chosen s front (Err text) = length text ≤ 256

chosen_asked : (f front : ℕ) (s : State) (protocol address : List ℕ) (random : ℤ) (choice : Result ℕ (List ℕ)) → Chosen s front choice → Asked f front s (dial_chosen s front protocol address random choice)
chosen_asked f front s protocol address random (Ok link) few = sent_asked f front s protocol address random link few
chosen_asked f front s protocol address random (Err text) short = refused_asked f front s random text short

chosen_if : (s : State) (front : ℕ) (b : Bool) (x y : Result ℕ (List ℕ)) → (b ≡ true → Chosen s front x) → (b ≡ false → Chosen s front y) → Chosen s front (cond b x y)
chosen_if s front true x y p q = p refl
chosen_if s front false x y p q = q refl

number_chosen : (s : State) (front : ℕ) (o : Option (Strategy × ℕ)) → tunnels_of s front < 600 → Chosen s front (number_choice s o)
number_chosen s front None few = omega arith
number_chosen s front (Some choice) few = chosen_if s front (eqb s.next_dial 9223372036854775807) (Err (codes "dial numbers used up")) (Ok choice.1) (λ i. omega arith) (λ i. few)

host_chosen : (s : State) (front : ℕ) (host : Result (List ℕ) HostFault) → Chosen s front (host_choice s front host)
host_chosen s front (Err fault) = omega arith
host_chosen s front (Ok host) =
    chosen_if s front (ltb (tunnels_of s front) 600) (number_choice s (pick s.strategies s.links.links host s.next_dial)) (Err (codes "too many tunnels"))
    (λ i. number_chosen s front (pick s.strategies s.links.links host s.next_dial) (ltb-true (tunnels_of s front) 600 i)) (λ i. omega arith)

dial_chosen_by : (s : State) (front : ℕ) (protocol address : List ℕ) (random : ℤ) → Chosen s front (dial_choice s front protocol address random)
dial_chosen_by s front protocol address random =
    chosen_if s front _ (Err (codes "dial already awaited")) (cond (is_tcp protocol) (host_choice s front (host_in address)) (Err (codes "unsupported protocol"))) (λ i. omega arith)
    (λ i. chosen_if s front (is_tcp protocol) (host_choice s front (host_in address)) (Err (codes "unsupported protocol")) (λ j. host_chosen s front (host_in address)) (λ j. omega arith))

up_asked : (f front : ℕ) (s : State) (bytes : List ℕ) (state : HeldState) (e : HeldEntry) → Asked f front s (open_up s bytes state e)
up_asked f front s bytes Open e = told_asked f front s _ (omega (arith, data_up_bytes f e.link e.connect_id (in_packets bytes)))
up_asked f front s bytes Closing e = ignored_asked f front s

data_up_asked : (f front : ℕ) (s : State) (bytes : List ℕ) (o : Option HeldEntry) → Asked f front s (data_up s bytes o)
data_up_asked f front s bytes None = ignored_asked f front s
data_up_asked f front s bytes (Some e) = up_asked f front s bytes e.state e

closed_counts : (f link : ℕ) (id : ℤ) (e : HeldEntry) → is_held_by f (closed_at link id true e) ≡ true → is_held_by f e ≡ true
closed_counts f link id e h = closed_here (is_held link id e) h
  where
    closed_here : (b : Bool) → is_held_by f (cond b (closed_entry true e) e) ≡ true → is_held_by f e ≡ true
    closed_here true h = h
    closed_here false h = h

close_asked_by : (f front : ℕ) (s : State) (state : HeldState) (e : HeldEntry) → Asked f front s (close_own s state e)
close_asked_by f front s Open e =
    let held = count_mapped (is_held_by f) (closed_at e.link e.connect_id true) s.held (closed_counts f e.link e.connect_id) in
    paid_asked f front s (close_own s Open e) refl (omega (arith, held)) (omega (arith, held))
close_asked_by f front s Closing e = ignored_asked f front s

close_front_asked : (f front : ℕ) (s : State) (id : ℤ) (o : Option HeldEntry) → Asked f front s (close_from_front s front id o)
close_front_asked f front s id None = told_asked f front s _ (omega (arith, for_front (length (framed (CloseRsp (codes "unknown connection") id))) 320 (eqb front f) (end_short (codes "unknown connection") id (omega arith))))
close_front_asked f front s id (Some e) = close_asked_by f front s e.state e

cancelled_asked : (f front : ℕ) (s : State) (random : ℤ) (o : Option AwaitedEntry) → first_where (is_random front random) s.awaited ≡ o → Asked f front s (dial_cancelled s o)
cancelled_asked f front s random None found = ignored_asked f front s
cancelled_asked f front s random (Some e) found =
    let less = count_less (is_of_front f) (is_dial e.dial) s.awaited in
    paid_asked f front s (dial_cancelled s (Some e)) refl (omega (arith, less)) (omega (arith, less))

from_front_asked : (f front : ℕ) (s : State) (p : Packet) → Asked f front s (from_front s front p)
from_front_asked f front s (DialReq protocol address random) = chosen_asked f front s protocol address random (dial_choice s front protocol address random) (dial_chosen_by s front protocol address random)
from_front_asked f front s (Data id error bytes) = data_up_asked f front s bytes (own front (held_at id s.held))
from_front_asked f front s (CloseReq id) = close_front_asked f front s id (own front (held_at id s.held))
from_front_asked f front s (DialCls random) = cancelled_asked f front s random (first_where (is_random front random) s.awaited) refl
from_front_asked f front s (DialRsp error id random) = ignored_asked f front s
from_front_asked f front s (CloseRsp error id) = ignored_asked f front s
from_front_asked f front s Drain = ignored_asked f front s
from_front_asked f front s (Other number) = ignored_asked f front s

asked_if : (f front : ℕ) (s : State) (b : Bool) (t : Step) → Asked f front s t → Asked f front s (cond b t (ignored s))
asked_if f front s true t h = h
asked_if f front s false t h = ignored_asked f front s

-- ---- a link's data for this front

own_data : (f front dial : ℕ) (bytes : List ℕ) → bytes_to f (data_to_front front dial (in_packets bytes)) ≤ length bytes + 120
own_data f front dial bytes = parts_here (ltb 4194000 (length bytes))
  where
    one : (part : List ℕ) → bytes_of f (ToFront front (Data (pos dial) [] part)) ≤ 60 + length part
    one part = one_here (eqb front f)
      where
        one_here : (b : Bool) → cond b (length (framed (Data (pos dial) [] part))) 0 ≤ 60 + length part
        one_here true = data_short (pos dial) part
        one_here false = omega arith

    parts_here : (b : Bool) → bytes_to f (data_to_front front dial (cond b (take 4194000 bytes ∷ drop 4194000 bytes ∷ []) (bytes ∷ []))) ≤ length bytes + 120
    parts_here true = omega (arith, one (take 4194000 bytes), one (drop 4194000 bytes), length-take 4194000 bytes, length-drop 4194000 bytes)
    parts_here false = omega (arith, one bytes)

-- the tables are as before, and so many bytes are given out
pub record Given (f most : ℕ) (s : State) (t : Step) : Type 0 where
  pub bytes : bytes_to f t.outs ≤ most
  pub more : still_to_come f t.state ≤ still_to_come f s
  pub few : tunnels_of t.state f ≤ tunnels_of s f

ignored_given : (f most : ℕ) (s : State) → Given f most s (ignored s)
ignored_given f most s = record { bytes = omega arith; more = omega arith; few = omega arith }

down_given : (f : ℕ) (s : State) (bytes : List ℕ) (state : HeldState) (o : Option ℕ) (dial : ℕ) → Given f (length bytes + 120) s (open_down s bytes state o dial)
down_given f s bytes Open (Some front) dial = record { bytes = own_data f front dial bytes; more = omega arith; few = omega arith }
down_given f s bytes Open None dial = ignored_given f (length bytes + 120) s
down_given f s bytes Closing o dial = ignored_given f (length bytes + 120) s

data_given : (f : ℕ) (s : State) (bytes : List ℕ) (o : Option HeldEntry) → Given f (length bytes + 120) s (data_down s bytes o)
data_given f s bytes None = ignored_given f (length bytes + 120) s
data_given f s bytes (Some e) = down_given f s bytes e.state e.front e.dial

open_up_paid : (f : ℕ) (s : State) (bytes : List ℕ) (state : HeldState) (e : HeldEntry) → Paid f s (open_up s bytes state e)
open_up_paid f s bytes Open e = told_paid f s _ (data_up_bytes f e.link e.connect_id (in_packets bytes))
open_up_paid f s bytes Closing e = ignored_paid f s

up_paid : (f : ℕ) (s : State) (bytes : List ℕ) (o : Option HeldEntry) → Paid f s (data_up s bytes o)
up_paid f s bytes None = ignored_paid f s
up_paid f s bytes (Some e) = open_up_paid f s bytes e.state e

-- ---- the room

-- two to come of each dial or tunnel at most
still_few : (f : ℕ) (s : State) → still_to_come f s ≤ 2 * tunnels_of s f
still_few f s = omega arith

paid_room : (f waiting : ℕ) (s : State) (t : Step) → Paid f s t → HasRoom f waiting s → HasRoom f (waiting + bytes_to f t.outs) t.state
paid_room f waiting s t p h = record { few = omega (arith, p.few, h.few); room = omega (arith, p.bytes, h.room) }

given_room : (f waiting : ℕ) (bytes : List ℕ) (s : State) (t : Step) → length bytes ≤ 4194304 → waiting ≤ 65536 → Given f (length bytes + 120) s t → HasRoom f waiting s → HasRoom f (waiting + bytes_to f t.outs) t.state
given_room f waiting bytes s t short little g h =
    record { few = omega (arith, g.few, h.few); room = omega (arith, g.bytes, g.more, still_few f s, h.few, short, little) }

asked_room : (f front waiting : ℕ) (s : State) (t : Step) → (b : Bool) → eqb front f ≡ b → (b ≡ true → waiting ≤ 65536) → Asked f front s t → HasRoom f waiting s → HasRoom f (waiting + bytes_to f t.outs) t.state
asked_room f front waiting s t true is in_time a h =
    let few = a.few h.few in
    let none : counted (eqb front f) ≡ 1 = ap counted is in
    record { few = few; room = omega (arith, a.bytes, none, still_few f t.state, few, in_time refl) }
asked_room f front waiting s t false is in_time a h =
    let none : counted (eqb front f) ≡ 0 = ap counted is in
    record { few = a.few h.few; room = omega (arith, a.bytes, a.more, none, h.room) }

-- a packet of a link: data for the front comes in time, and all else is paid for
link_room : (f waiting : ℕ) (s : State) (link : ℕ) (p : Packet) → IsShortPacket p → (is_data_for f s link p ≡ true → waiting ≤ 65536) → HasRoom f waiting s → HasRoom f (waiting + bytes_to f (from_link s link p).outs) (from_link s link p).state
link_room f waiting s link (Data id error bytes) short in_time h = data_here (is_for f (first_where (is_held link id) s.held)) refl in_time
  where
    data_here : (b : Bool) → is_for f (first_where (is_held link id) s.held) ≡ b → (b ≡ true → waiting ≤ 65536) → HasRoom f (waiting + bytes_to f (from_link s link (Data id error bytes)).outs) (from_link s link (Data id error bytes)).state
    data_here true is little = given_room f waiting bytes s (data_down s bytes (first_where (is_held link id) s.held)) short (little refl) (data_given f s bytes (first_where (is_held link id) s.held)) h
    data_here false is little = paid_room f waiting s (data_down s bytes (first_where (is_held link id) s.held)) (data_paid f s bytes (first_where (is_held link id) s.held) is) h
link_room f waiting s link (DialRsp error id random) short in_time h = paid_room f waiting s (from_link s link (DialRsp error id random)) (from_link_paid f s link (DialRsp error id random) refl) h
link_room f waiting s link (CloseRsp error id) short in_time h = paid_room f waiting s (from_link s link (CloseRsp error id)) (from_link_paid f s link (CloseRsp error id) refl) h
link_room f waiting s link Drain short in_time h = paid_room f waiting s (from_link s link Drain) (from_link_paid f s link Drain refl) h
link_room f waiting s link (DialReq protocol address random) short in_time h = paid_room f waiting s (ignored s) (ignored_paid f s) h
link_room f waiting s link (CloseReq id) short in_time h = paid_room f waiting s (ignored s) (ignored_paid f s) h
link_room f waiting s link (DialCls random) short in_time h = paid_room f waiting s (ignored s) (ignored_paid f s) h
link_room f waiting s link (Other number) short in_time h = paid_room f waiting s (ignored s) (ignored_paid f s) h

-- a packet of a front: data brings it nothing, and all else comes in time
front_room : (f front waiting : ℕ) (s : State) (p : Packet) → (asks f front p ≡ true → waiting ≤ 65536) → HasRoom f waiting s → HasRoom f (waiting + bytes_to f (from_front s front p).outs) (from_front s front p).state
front_room f front waiting s (Data id error bytes) in_time h = paid_room f waiting s (from_front s front (Data id error bytes)) (up_paid f s bytes (own front (held_at id s.held))) h
front_room f front waiting s (DialReq protocol address random) in_time h = asked_room f front waiting s (from_front s front (DialReq protocol address random)) (eqb front f) refl in_time (from_front_asked f front s (DialReq protocol address random)) h
front_room f front waiting s (DialRsp error id random) in_time h = asked_room f front waiting s (ignored s) (eqb front f) refl in_time (ignored_asked f front s) h
front_room f front waiting s (CloseReq id) in_time h = asked_room f front waiting s (from_front s front (CloseReq id)) (eqb front f) refl in_time (from_front_asked f front s (CloseReq id)) h
front_room f front waiting s (CloseRsp error id) in_time h = asked_room f front waiting s (ignored s) (eqb front f) refl in_time (ignored_asked f front s) h
front_room f front waiting s (DialCls random) in_time h = asked_room f front waiting s (from_front s front (DialCls random)) (eqb front f) refl in_time (from_front_asked f front s (DialCls random)) h
front_room f front waiting s Drain in_time h = asked_room f front waiting s (ignored s) (eqb front f) refl in_time (ignored_asked f front s) h
front_room f front waiting s (Other number) in_time h = asked_room f front waiting s (ignored s) (eqb front f) refl in_time (ignored_asked f front s) h

-- an event of one that is not up does nothing
room_if : (f waiting : ℕ) (s : State) (b : Bool) (t : Step) → HasRoom f waiting s → HasRoom f (waiting + bytes_to f t.outs) t.state → HasRoom f (waiting + bytes_to f (cond b t (ignored s)).outs) (cond b t (ignored s)).state
room_if f waiting s true t h k = k
room_if f waiting s false t h k = paid_room f waiting s (ignored s) (ignored_paid f s) h

pub room_kept : (f waiting : ℕ) (s : State) (event : ServerEvent) → IsShort event → ComesInTime f waiting s event → HasRoom f waiting s → HasRoom f (waiting + bytes_to f (step s event).outs) (step s event).state
room_kept f waiting s (LinkUp link identifiers) short in_time h = record { few = h.few; room = omega (arith, h.room) }
room_kept f waiting s (FrontUp front) short in_time h = record { few = h.few; room = omega (arith, h.room) }
room_kept f waiting s (LinkPacket link p) short in_time h = room_if f waiting s (has_link link s.links) (from_link s link p) h (link_room f waiting s link p short in_time h)
room_kept f waiting s (LinkLost link) short in_time h = room_if f waiting s (has_link link s.links) (link_lost s link) h (paid_room f waiting s (link_lost s link) (lost_paid f s link) h)
room_kept f waiting s (FrontPacket front p) short in_time h = room_if f waiting s (is_up front s.fronts) (from_front s front p) h (front_room f front waiting s p in_time h)
room_kept f waiting s (FrontLost front) short in_time h = room_if f waiting s (is_up front s.fronts) (front_lost s front) h (paid_room f waiting s (front_lost s front) (front_lost_paid f s front) h)

pub room_first : (f : ℕ) (strategies : List Strategy) → HasRoom f 0 (start strategies)
room_first f strategies = record { few = omega arith; room = omega arith }
