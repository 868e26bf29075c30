-- An event of a front changes only that front's entries, and what it gives out stays with the front.
use Rattle.std.proofs.Common.{◌≡◌, ℕ, ℤ, pos, negsuc, Bool, true, false, not, cond, eqb, ◌&&◌, List, [], ◌∷◌, map, filter, Option, Some, None, Result, Ok, Err, inl, inr, refl, sym, ap, subst}
use Rattle.std.specs.List.{list_any}
use Rattle.std.specs.Ordering.{int_eq}
use Rattle.std.proofs.lemmas.Bool.Decides.{Decides-eqb}
use Rattle.kn_packet.specs.declared.packet.Packet.{Packet}
use Rattle.kn_packet.specs.declared.packet.Packet.TheVariants.{DialReq, DialRsp, CloseReq, CloseRsp, Data, DialCls, Drain, Other}
use Rattle.kn_tables.specs.declared.awaited_entry.AwaitedEntry.{AwaitedEntry}
use Rattle.kn_tables.specs.declared.held_entry.HeldEntry.{HeldEntry}
use Rattle.kn_tables.specs.declared.held_entry.HeldState.{HeldState}
use Rattle.kn_tables.specs.declared.held_entry.HeldState.TheVariants.{Open, Closing}
use Rattle.kn_tables.specs.Lists.{first_where, IsRising}
use Rattle.kn_tables.specs.Awaiting.{is_dial, is_random, is_of_front}
use Rattle.kn_tables.specs.Holding.{is_held, is_held_by, is_held_dial, has_front, closed_at, AreApart}
use Rattle.kn_server_core.specs.declared.event.ServerEvent.{ServerEvent}
use Rattle.kn_server_core.specs.declared.event.ServerEvent.TheVariants.{LinkUp, LinkPacket, LinkLost, FrontUp, FrontPacket, FrontLost}
use Rattle.kn_server_core.specs.declared.state.State.{State}
use Rattle.kn_server_core.specs.FrontLists.{is_up}
use Rattle.kn_server_core.specs.Packets.{data_to_link, in_packets}
use Rattle.kn_server_core.specs.Server.{ignored, step, from_front, front_lost, front_packet, front_gone, dial_chosen, dial_choice, data_up, open_up, close_from_front, close_own, unknown_close, dial_cancelled, own, held_at, front_left, all_asked, asked_at_loss}
use Rattle.kn_server_core.specs.Steps.{Step}
use Rattle.kn_server_core.specs.Isolation.{ChangesOnlyFront, StaysWithFront, DifferOnlyWhere, Each, IsOfFront, IsOrderly}
use Rattle.kn_server_core.proofs.LossLemmas.{others_kept, above_found, other_held, same_held, not_equal}
use Rattle.kn_server_core.proofs.SoundLemmas.{passes}
use Rattle.kn_server_core.proofs.EntryLemmas.{others_put, others_taken, twice_filtered, same_nowhere, mapped_where, IsIn, found_in, each_of_kind, each_append, both_true, same_number, same_signed}

-- a step stays with a front
pub record Stays (s : State) (front : ℕ) (event : ServerEvent) (t : Step) : Type 0 where
  pub state : ChangesOnlyFront front s t.state
  pub outs : Each (StaysWithFront s front event) t.outs

nothing_changed : (s : State) (front : ℕ) → ChangesOnlyFront front s s
nothing_changed s front = record { awaited = refl; held = same_nowhere (is_held_by front) s.held; fronts = refl; links = refl; strategies = refl }

ignored_stays : (s : State) (front : ℕ) (event : ServerEvent) → Stays s front event (ignored s)
ignored_stays s front event = record { state = nothing_changed s front; outs = tt }

-- ---- dials
chosen_stays : (s : State) (front : ℕ) (protocol address : List ℕ) (random : ℤ) (o : Result ℕ (List ℕ)) → dial_choice s front protocol address random ≡ o
    → Stays s front (FrontPacket front (DialReq protocol address random)) (dial_chosen s front protocol address random o)
chosen_stays s front protocol address random (Ok link) f = record {
  state = record {
    awaited = others_put (λ (x : AwaitedEntry). x.dial) (is_of_front front) _ s.awaited (same_number front);
    held = same_nowhere (is_held_by front) s.held;
    fronts = refl;
    links = refl;
    strategies = refl;
  };
  outs = ((refl, refl, f), ((refl, f), tt));
}
chosen_stays s front protocol address random (Err text) f = record { state = nothing_changed s front; outs = ((refl, refl), tt) }

-- the entry that a look-up finds is the one that its dial finds
pub found_by_number : {E : Type 0} (number : E → ℕ) (p : E → Bool) (e : E) (xs : List E) → IsRising number xs → first_where p xs ≡ Some e → first_where (λ x. eqb (number x) (number e)) xs ≡ Some e
found_by_number number p e [] r f = absurd cc
found_by_number number p e (x ∷ xs) r f = number_here (p x) f (λ l. found_by_number number p e xs r.1 l)
  where
    number_here : (b : Bool) → cond b (Some x) (first_where p xs) ≡ Some e → (first_where p xs ≡ Some e → first_where (λ y. eqb (number y) (number e)) xs ≡ Some e) → first_where (λ y. eqb (number y) (number e)) (x ∷ xs) ≡ Some e
    number_here true f later = let m : x ≡ e = cc in let t : eqb (number x) (number e) ≡ true = (Decides-eqb (number x) (number e)).1 (ap number m) in rw t (ap Some m)
    number_here false f later = let t : eqb (number x) (number e) ≡ false = not_equal (number x) (number e) (above_found number p (number x) e xs r.0 f) in rw t (later f)

first_part : (a b : Bool) → (a && b) ≡ true → a ≡ true
first_part true b h = refl
first_part false b h = absurd cc

cancelled_stays : (s : State) (front : ℕ) (random : ℤ) (o : Option AwaitedEntry) → IsOrderly s → first_where (is_random front random) s.awaited ≡ o → Stays s front (FrontPacket front (DialCls random)) (dial_cancelled s o)
cancelled_stays s front random None order f = ignored_stays s front (FrontPacket front (DialCls random))
cancelled_stays s front random (Some e) order f = record {
  state = record {
    awaited = others_taken (is_of_front front) (is_dial e.dial) e s.awaited (found_by_number (λ (x : AwaitedEntry). x.dial) (is_random front random) e s.awaited order.awaited_rise f) (first_part (eqb e.front front) (int_eq e.random random) (passes (is_random front random) e s.awaited f));
    held = same_nowhere (is_held_by front) s.held;
    fronts = refl;
    links = refl;
    strategies = refl;
  };
  outs = tt;
}

-- ---- a front's own tunnel
told_up : (s : State) (front : ℕ) (event : ServerEvent) (link : ℕ) (connect_id : ℤ) (parts : List (List ℕ)) → list_any (λ e. is_held_by front e && is_held link connect_id e) s.held ≡ true → Each (StaysWithFront s front event) (data_to_link link connect_id parts)
told_up s front event link connect_id [] h = tt
told_up s front event link connect_id (bytes ∷ rest) h = (h, told_up s front event link connect_id rest h)

own_in : (s : State) (front : ℕ) (e : HeldEntry) → IsIn e s.held → is_held_by front e ≡ true → list_any (λ x. is_held_by front x && is_held e.link e.connect_id x) s.held ≡ true
own_in s front e i f = i (λ x. is_held_by front x && is_held e.link e.connect_id x) (both_true (is_held_by front e) (is_held e.link e.connect_id e) f (both_true (eqb e.link e.link) (int_eq e.connect_id e.connect_id) (same_number e.link) (same_signed e.connect_id)))

up_by : (s : State) (front : ℕ) (event : ServerEvent) (bytes : List ℕ) (e : HeldEntry) (state : HeldState) → IsIn e s.held → is_held_by front e ≡ true → Stays s front event (open_up s bytes state e)
up_by s front event bytes e Open i f = record { state = nothing_changed s front; outs = told_up s front event e.link e.connect_id (in_packets bytes) (own_in s front e i f) }
up_by s front event bytes e Closing i f = ignored_stays s front event

-- a connection's entry is the only one of it
closed_alone : (front : ℕ) (r : HeldEntry → Bool) (e : HeldEntry) (xs : List HeldEntry) → AreApart xs → first_where r xs ≡ Some e → is_held_by front e ≡ true → DifferOnlyWhere (is_held_by front) xs (map (closed_at e.link e.connect_id true) xs)
closed_alone front r e [] a f h = tt
closed_alone front r e (x ∷ xs) a f h = alone_here (r x) f (λ l. closed_alone front r e xs a.1 l h)
  where
    rest_same : (l : ℕ) (c : ℤ) (ys : List HeldEntry) → first_where (is_held l c) ys ≡ None → DifferOnlyWhere (is_held_by front) ys (map (closed_at l c true) ys)
    rest_same l c [] n = tt
    rest_same l c (y ∷ ys) n = same_here (is_held l c y) refl n (λ m. rest_same l c ys m)
      where
        same_here : (b : Bool) → is_held l c y ≡ b → cond b (Some y) (first_where (is_held l c) ys) ≡ None → (first_where (is_held l c) ys ≡ None → DifferOnlyWhere (is_held_by front) ys (map (closed_at l c true) ys)) → DifferOnlyWhere (is_held_by front) (y ∷ ys) (map (closed_at l c true) (y ∷ ys))
        same_here true i n later = absurd cc
        same_here false i n later = rw i (inr refl, later n)

    alone_here : (b : Bool) → cond b (Some x) (first_where r xs) ≡ Some e → (first_where r xs ≡ Some e → DifferOnlyWhere (is_held_by front) xs (map (closed_at e.link e.connect_id true) xs)) → DifferOnlyWhere (is_held_by front) (x ∷ xs) (map (closed_at e.link e.connect_id true) (x ∷ xs))
    alone_here true f later =
        let m : x ≡ e = cc in
        (inl (subst (λ z. is_held_by front z ≡ true) (sym m) h), subst (λ z. DifferOnlyWhere (is_held_by front) xs (map (closed_at z.link z.connect_id true) xs)) m (rest_same x.link x.connect_id xs a.0))
    alone_here false f later =
        let n : is_held e.link e.connect_id x ≡ false = same_held x e (other_held x e r xs a.0 f) in
        rw n (inr refl, later f)

close_by : (s : State) (front : ℕ) (event : ServerEvent) (r : HeldEntry → Bool) (e : HeldEntry) (state : HeldState) → IsOrderly s → first_where r s.held ≡ Some e → is_held_by front e ≡ true → Stays s front event (close_own s state e)
close_by s front event r e Open order f h = record {
  state = record { awaited = refl; held = closed_alone front r e s.held order.held_apart f h; fronts = refl; links = refl; strategies = refl };
  outs = (own_in s front e (found_in r e s.held f) h, tt);
}
close_by s front event r e Closing order f h = ignored_stays s front event

unknown_stays : (s : State) (front : ℕ) (event : ServerEvent) (connect_id : ℤ) → Stays s front event (unknown_close s front connect_id)
unknown_stays s front event connect_id = record { state = nothing_changed s front; outs = ((refl, tt), tt) }

up_own : (s : State) (front : ℕ) (event : ServerEvent) (bytes : List ℕ) (r : HeldEntry → Bool) (o : Option HeldEntry) → first_where r s.held ≡ o → Stays s front event (data_up s bytes (own front o))
up_own s front event bytes r None f = ignored_stays s front event
up_own s front event bytes r (Some e) f = own_here (has_front e.front front) refl
  where
    own_here : (b : Bool) → has_front e.front front ≡ b → Stays s front event (data_up s bytes (cond b (Some e) None))
    own_here true h = up_by s front event bytes e e.state (found_in r e s.held f) h
    own_here false h = ignored_stays s front event

up_stays : (s : State) (front : ℕ) (event : ServerEvent) (connect_id : ℤ) (bytes : List ℕ) → Stays s front event (data_up s bytes (own front (held_at connect_id s.held)))
up_stays s front event (pos d) bytes = up_own s front event bytes (is_held_dial d) (first_where (is_held_dial d) s.held) refl
up_stays s front event (negsuc d) bytes = ignored_stays s front event

close_at : (s : State) (front : ℕ) (event : ServerEvent) (connect_id : ℤ) (r : HeldEntry → Bool) (o : Option HeldEntry) → IsOrderly s → first_where r s.held ≡ o → Stays s front event (close_from_front s front connect_id (own front o))
close_at s front event connect_id r None order f = unknown_stays s front event connect_id
close_at s front event connect_id r (Some e) order f = own_here (has_front e.front front) refl
  where
    own_here : (b : Bool) → has_front e.front front ≡ b → Stays s front event (close_from_front s front connect_id (cond b (Some e) None))
    own_here true h = close_by s front event r e e.state order f h
    own_here false h = unknown_stays s front event connect_id

close_stays : (s : State) (front : ℕ) (event : ServerEvent) (connect_id : ℤ) → IsOrderly s → Stays s front event (close_from_front s front connect_id (own front (held_at connect_id s.held)))
close_stays s front event (pos d) order = close_at s front event (pos d) (is_held_dial d) (first_where (is_held_dial d) s.held) order refl
close_stays s front event (negsuc d) order = unknown_stays s front event (negsuc d)

-- ---- a front's loss
left_other : (front : ℕ) (x : HeldEntry) → is_held_by front x ≡ false → front_left front x ≡ x
left_other front x h = rw h refl

asked_by : (s : State) (front : ℕ) (event : ServerEvent) (e : HeldEntry) (state : HeldState) → IsIn e s.held → is_held_by front e ≡ true → Each (StaysWithFront s front event) (asked_at_loss state e)
asked_by s front event e Open i f = (own_in s front e i f, tt)
asked_by s front event e Closing i f = tt

asked_stays : (s : State) (front : ℕ) (event : ServerEvent) (es : List HeldEntry) → Each (λ e. (is_held_by front e ≡ true) × IsIn e s.held) es → Each (StaysWithFront s front event) (all_asked es)
asked_stays s front event [] h = tt
asked_stays s front event (e ∷ es) h = each_append (StaysWithFront s front event) (asked_at_loss e.state e) (all_asked es) (asked_by s front event e e.state h.0.1 h.0.0) (asked_stays s front event es h.1)

lost_stays : (s : State) (front : ℕ) (event : ServerEvent) → Stays s front event (front_lost s front)
lost_stays s front event = record {
  state = record {
    awaited = twice_filtered (λ e. not (is_of_front front e)) s.awaited;
    held = mapped_where (is_held_by front) (front_left front) s.held (left_other front);
    fronts = others_kept (λ f. eqb f front) (λ f. eqb f front) s.fronts.fronts (λ x h. h);
    links = refl;
    strategies = refl;
  };
  outs = asked_stays s front event (filter (is_held_by front) s.held) (each_of_kind (is_held_by front) s.held);
}

-- ---- packets
from_stays : (s : State) (front : ℕ) (p : Packet) → IsOrderly s → Stays s front (FrontPacket front p) (from_front s front p)
from_stays s front (DialReq protocol address random) order = chosen_stays s front protocol address random (dial_choice s front protocol address random) refl
from_stays s front (Data connect_id error bytes) order = up_stays s front (FrontPacket front (Data connect_id error bytes)) connect_id bytes
from_stays s front (CloseReq connect_id) order = close_stays s front (FrontPacket front (CloseReq connect_id)) connect_id order
from_stays s front (DialCls random) order = cancelled_stays s front random (first_where (is_random front random) s.awaited) order refl
from_stays s front (DialRsp error connect_id random) order = ignored_stays s front (FrontPacket front (DialRsp error connect_id random))
from_stays s front (CloseRsp error connect_id) order = ignored_stays s front (FrontPacket front (CloseRsp error connect_id))
from_stays s front Drain order = ignored_stays s front (FrontPacket front Drain)
from_stays s front (Other number) order = ignored_stays s front (FrontPacket front (Other number))

stays_if : (s : State) (front : ℕ) (event : ServerEvent) (b : Bool) (t : Step) → Stays s front event t → Stays s front event (cond b t (ignored s))
stays_if s front event true t h = h
stays_if s front event false t h = ignored_stays s front event

own_stays : (s : State) (event : ServerEvent) (front : ℕ) → IsOrderly s → IsOfFront front event → Stays s front event (step s event)
own_stays s (LinkUp link identifiers) front order h = absurd h
own_stays s (LinkPacket link p) front order h = absurd h
own_stays s (LinkLost link) front order h = absurd h
own_stays s (FrontUp other) front order h = record {
  state = record {
    awaited = refl;
    held = same_nowhere (is_held_by front) s.held;
    fronts = others_put (λ f. f) (λ f. eqb f front) other s.fronts.fronts ((Decides-eqb other front).1 h);
    links = refl;
    strategies = refl;
  };
  outs = tt;
}
own_stays s (FrontPacket other p) front order h = subst (λ f. Stays s f (FrontPacket other p) (front_packet s other p)) h (stays_if s other (FrontPacket other p) (is_up other s.fronts) (from_front s other p) (from_stays s other p order))
own_stays s (FrontLost other) front order h = subst (λ f. Stays s f (FrontLost other) (front_gone s other)) h (stays_if s other (FrontLost other) (is_up other s.fronts) (front_lost s other) (lost_stays s other (FrontLost other)))

pub front_changes : (s : State) (event : ServerEvent) (front : ℕ) → IsOrderly s → IsOfFront front event → ChangesOnlyFront front s (step s event).state
front_changes s event front order h = (own_stays s event front order h).state

pub front_outs : (s : State) (event : ServerEvent) (front : ℕ) → IsOrderly s → IsOfFront front event → Each (StaysWithFront s front event) (step s event).outs
front_outs s event front order h = (own_stays s event front order h).outs
