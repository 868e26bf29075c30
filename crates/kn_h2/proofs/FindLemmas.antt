-- A move that was found stream by stream may be made, and where none was found none may be.
use Rattle.std.proofs.Common.{◌≡◌, ℕ, zero, suc, ℤ, pos, ◌-◌, ◌<◌, ◌≤◌, ◌≤ℤ◌, Bool, true, false, ◌&&◌, cond, eqb, leb, ltb, List, [], ◌∷◌, length, get_or, take, drop, length-drop, Option, Some, None, is_some, is_none, refl, sym, ap, ◌∙◌, subst, arith}
use Rattle.std.specs.Prelude.{int_le}
use Rattle.std.specs.Option.{IfNone, IfSome}
use Rattle.std.specs.List.{All, Any}
use Rattle.std.proofs.lemmas.List.{take-append-drop, take_all}
use Rattle.std.proofs.lemmas.List.Elements.{All-append}
use Rattle.std.proofs.lemmas.Int.{ints}
use Rattle.std.proofs.lemmas.Bool.{and_parts, and_left, and_right, and_from, or_parts, or_left, or_right, eqb-true, ne_eqb, lt-ltb, le-ltb, leb-true, leb-false, le-leb, lt-leb, false_from_ne_true}
use Rattle.kn_h2_state.specs.declared.moves.Move.{Move}
use Rattle.kn_h2_state.specs.declared.moves.Move.TheVariants.{GrantAll, Grant, Send, End, Stop}
use Rattle.kn_h2_state.specs.declared.stream.Stream.{Stream}
use Rattle.kn_h2_state.specs.declared.state.State.{State}
use Rattle.kn_h2_state.specs.Streams.{stream_at, is_open, passes, on_open}
use Rattle.kn_h2_state.specs.Moves.{may, is_due, is_owed, can_send, can_end, can_stop}
use Rattle.kn_h2_state.specs.Holding.{Rising}
use Rattle.kn_h2.specs.Finding.{is_due_of, has_work}
use Rattle.kn_h2.proofs.MoveLemmas.{IsSendable, send_parts}

-- numbers rise, so the stream at a place is the one of its number
pub at_place : (ss : List Stream) (low high k : ℕ) (d : Stream) → Rising low high ss → k < length ss → (low < (get_or ss k d).number) × (stream_at ss (get_or ss k d).number ≡ Some (get_or ss k d))
unfolding stream_at Rising
at_place [] low high k d r l = absurd (omega arith)
at_place (x ∷ ss) low high zero d r l = (r.0, rw (same_number x.number) refl)
  where
    same_number : (n : ℕ) → eqb n n ≡ true
    same_number n = grind arith
at_place (x ∷ ss) low high (suc k) d r l =
    let later = at_place ss x.number high k d r.2 (omega arith) in
    let above : low < (get_or ss k d).number = omega (arith, r.0, later.0) in
    let apart : eqb x.number (get_or ss k d).number ≡ false = ne_eqb _ _ (λ e. omega (arith, later.0, e)) in
    (above, rw apart later.1)

-- the stream of a number has a place
pub has_place : (ss : List Stream) (n : ℕ) (st : Stream) → stream_at ss n ≡ Some st → (k : ℕ) × (k < length ss) × (get_or ss k st ≡ st)
unfolding stream_at
has_place [] n st e = absurd cc
has_place (x ∷ ss) n st e = by_test (eqb x.number n) (has_place ss n st) e
  where
    by_test : (b : Bool) → (stream_at ss n ≡ Some st → (k : ℕ) × (k < length ss) × (get_or ss k st ≡ st)) → cond b (Some x) (stream_at ss n) ≡ Some st → (k : ℕ) × (k < suc (length ss)) × (get_or (x ∷ ss) k st ≡ st)
    by_test true later h = (0, omega arith, cc)
    by_test false later h = let there = later h in (suc there.0, omega (arith, there.1), there.2)

-- what holds of each stream by its place holds of the one of a number
pub all_of_number : (P : Stream → Type 0) (ss : List Stream) (n : ℕ) (st : Stream) → All P ss → stream_at ss n ≡ Some st → P st
all_of_number P ss n st all e = let there = has_place ss n st e in subst P there.2 (all there.0 st there.1)

-- ---- a move that was found

open_of_send : (count : ℕ) (w : ℤ) (st : Stream) → can_send count w st ≡ true → is_open st ≡ true
open_of_send count w st h = or_right _ _ (send_parts count w st h).own

open_of_end : (st : Stream) → can_end st ≡ true → is_open st ≡ true
open_of_end st h = or_right _ _ (and_parts st.own_open _ (and_parts _ (eqb (length st.queue) 0) h).0).0

open_of_stop : (st : Stream) → can_stop st ≡ true → is_open st ≡ true
open_of_stop st h = or_left _ _ (and_parts st.resets st.peer_open h).1

open_of_owed : (st : Stream) → is_owed st ≡ true → is_open st ≡ true
open_of_owed st h = or_left _ _ (and_parts st.peer_open (leb 16384 st.owed) h).0

found_at : (ss : List Stream) (n : ℕ) (st : Stream) (p : Stream → Bool) → stream_at ss st.number ≡ Some st → (eqb n st.number && p st) ≡ true → (p st ≡ true → is_open st ≡ true) → on_open ss n p ≡ true
found_at ss n st p e h opens =
    let parts = and_parts (eqb n st.number) (p st) h in
    let is_n : n ≡ st.number = eqb-true _ _ parts.0 in
    ap (λ (j : ℕ). passes p (stream_at ss j)) is_n ∙ ap (passes p) e ∙ and_from _ _ (opens parts.1) parts.1

due_of : (s : State) (st : Stream) (m : Move) → stream_at s.streams st.number ≡ Some st → is_due_of s.send st m ≡ true → is_due s m ≡ true
unfolding is_due_of
due_of s st GrantAll e h = absurd cc
due_of s st (Grant n) e h = found_at s.streams n st is_owed e h (open_of_owed st)
due_of s st (Send n count) e h = found_at s.streams n st (can_send count s.send) e h (open_of_send count s.send st)
due_of s st (End n) e h = found_at s.streams n st can_end e h (open_of_end st)
due_of s st (Stop n) e h = found_at s.streams n st can_stop e h (open_of_stop st)

pub due_found : (s : State) (m : Move) → Rising 0 s.opened s.streams → Any (λ (st : Stream). is_due_of s.send st m ≡ true) s.streams → is_due s m ≡ true
due_found s m r any =
    let there = at_place s.streams 0 s.opened any.0 any.1 r any.2 in
    let found : stream_at s.streams any.1.number ≡ Some any.1 = subst (λ (y : Stream). stream_at s.streams y.number ≡ Some y) any.3 there.1 in
    due_of s any.1 m found any.4

pub may_from : (s : State) (m : Move) → is_none s.failed ≡ true → length s.out.bytes < 16384 → is_due s m ≡ true → may s m ≡ true
unfolding may
may_from s m sound room due = and_from _ _ sound (and_from _ _ (lt-ltb _ _ room) due)

pub may_found : (s : State) (m : Move) → is_none s.failed ≡ true → length s.out.bytes < 16384 → Rising 0 s.opened s.streams → Any (λ (st : Stream). is_due_of s.send st m ≡ true) s.streams → may s m ≡ true
may_found s m sound room r any = may_from s m sound room (due_found s m r any)

-- ---- where none was found

int_le-from : (x y : ℤ) → x ≤ℤ y → int_le x y ≡ true
int_le-from x y h = grind (arith, ints)

less_send : (count : ℕ) (w : ℤ) (st : Stream) → IsSendable count w st → can_send 1 w st ≡ true
less_send count w st parts =
    let some = parts.some in
    let queued : 1 ≤ length st.queue = omega (arith, parts.queued, some) in
    let connection : pos 1 ≤ℤ w = omega (arith, ints, some, parts.connection) in
    let stream : pos 1 ≤ℤ st.send = omega (arith, ints, some, parts.stream) in
    and_from _ _
    (and_from _ _
    (and_from _ _ (and_from _ _ (and_from _ _ parts.own refl) refl) (le-leb 1 (length st.queue) queued))
    (int_le-from _ _ connection))
    (int_le-from _ _ stream)

no_work : (count : ℕ) (w : ℤ) (st : Stream) → has_work w st ≡ false → can_send count w st ≡ false
unfolding has_work
no_work count w st h =
    let one : can_send 1 w st ≡ false = (or_parts (can_send 1 w st) _ (or_parts _ (can_stop st) h).0).0 in
    false_from_ne_true _ (λ yes. let can : can_send 1 w st ≡ true = less_send count w st (send_parts count w st yes) in absurd cc)

no_end : (w : ℤ) (st : Stream) → has_work w st ≡ false → can_end st ≡ false
unfolding has_work
no_end w st h = (or_parts (can_send 1 w st) _ (or_parts _ (can_stop st) h).0).1

no_stop : (w : ℤ) (st : Stream) → has_work w st ≡ false → can_stop st ≡ false
unfolding has_work
no_stop w st h = (or_parts _ (can_stop st) h).1

none_on : (ss : List Stream) (n : ℕ) (p : Stream → Bool) → All (λ (st : Stream). p st ≡ false) ss → on_open ss n p ≡ false
none_on ss n p all = of_found (stream_at ss n) refl
  where
    of_found : (o : Option Stream) → stream_at ss n ≡ o → passes p o ≡ false
    of_found None e = refl
    of_found (Some st) e = and_right _ _ (all_of_number (λ (x : Stream). p x ≡ false) ss n st all e)

none_due : (s : State) → leb 16384 s.owed ≡ false → All (λ (st : Stream). is_owed st ≡ false) s.streams → All (λ (st : Stream). has_work s.send st ≡ false) s.streams → (m : Move) → is_due s m ≡ false
none_due s few owed work GrantAll = few
none_due s few owed work (Grant n) = none_on s.streams n is_owed owed
none_due s few owed work (Send n count) = none_on s.streams n (can_send count s.send) (λ k d l. no_work count s.send _ (work k d l))
none_due s few owed work (End n) = none_on s.streams n can_end (λ k d l. no_end s.send _ (work k d l))
none_due s few owed work (Stop n) = none_on s.streams n can_stop (λ k d l. no_stop s.send _ (work k d l))

pub may_none : (s : State) → leb 16384 s.owed ≡ false → All (λ (st : Stream). is_owed st ≡ false) s.streams → All (λ (st : Stream). has_work s.send st ≡ false) s.streams → (m : Move) → may s m ≡ false
unfolding may
may_none s few owed work m = and_right _ _ (and_right _ _ (none_due s few owed work m))

-- what holds of each of both parts holds of each
pub none_of_both : (P : Stream → Type 0) (ss : List Stream) (place : ℕ) (r : Option Move) → place ≤ length ss → All P (take (length ss - place) (drop place ss)) → IfNone r (All P (take place ss)) → IfNone r (All P ss)
none_of_both P ss place (Some m) le behind before = tt
none_of_both P ss place None le behind before =
    let rest : take (length ss - place) (drop place ss) ≡ drop place ss = take_all _ _ (omega (arith, length-drop place ss)) in
    let after : All P (drop place ss) = subst (λ (xs : List Stream). All P xs) rest behind in
    subst (λ (xs : List Stream). All P xs) (take-append-drop place ss) (All-append P (take place ss) (drop place ss) before after)

-- one that has failed, or whose socket has enough to take, makes none
pub may_not_failed : (s : State) (m : Move) → is_none s.failed ≡ false → may s m ≡ false
unfolding may
may_not_failed s m h = and_left _ _ h

pub may_not_full : (s : State) (m : Move) → ltb (length s.out.bytes) 16384 ≡ false → may s m ≡ false
unfolding may
may_not_full s m h = and_right _ _ (and_left _ _ h)

-- ---- what `next_move` knows at its ends

pub sound_if : (o : Option ℕ) → is_some o ≡ false → is_none o ≡ true
sound_if None h = refl
sound_if (Some code) h = absurd cc

failed_if : (o : Option ℕ) → is_some o ≡ true → is_none o ≡ false
failed_if None h = absurd cc
failed_if (Some code) h = refl

-- a connection that has not failed, and whose socket has not enough to take
pub record HasRoomToMove (s : State) : Type 0 where
  pub sound : is_none s.failed ≡ true
  pub room : length s.out.bytes < 16384
  pub rising : Rising 0 s.opened s.streams

pub room_from : (s : State) (failed full : Bool) → failed ≡ is_some s.failed → failed ≡ false → full ≡ leb 16384 (length s.out.bytes) → full ≡ false → Rising 0 s.opened s.streams → HasRoomToMove s
room_from s failed full e f w few r = record { sound = sound_if s.failed (sym e ∙ f); room = leb-false _ _ (sym w ∙ few); rising = r }

pub stopped_by_failure : (s : State) (failed : Bool) → failed ≡ is_some s.failed → failed ≡ true → (m : Move) → may s m ≡ false
stopped_by_failure s failed e t m = may_not_failed s m (failed_if s.failed (sym e ∙ t))

pub stopped_by_room : (s : State) (full : Bool) → full ≡ leb 16384 (length s.out.bytes) → full ≡ true → (m : Move) → may s m ≡ false
stopped_by_room s full w t m = may_not_full s m (le-ltb _ _ (leb-true _ _ (sym w ∙ t)))

pub grant_all_found : (s : State) → HasRoomToMove s → 16384 ≤ s.owed → may s GrantAll ≡ true
grant_all_found s h owed = may_from s GrantAll h.sound h.room (le-leb 16384 s.owed owed)

pub found_in : (s : State) (ss : List Stream) (m : Move) → HasRoomToMove s → ss ≡ s.streams → Any (λ (st : Stream). is_due_of s.send st m ≡ true) ss → may s m ≡ true
found_in s ss m h e any = may_found s m h.sound h.room h.rising (subst (λ (xs : List Stream). Any (λ (st : Stream). is_due_of s.send st m ≡ true) xs) e any)

pub some_found : (s : State) (ss : List Stream) (r : Option Move) → HasRoomToMove s → ss ≡ s.streams → IfSome r (λ m. Any (λ (st : Stream). is_due_of s.send st m ≡ true) ss) → IfSome r (λ m. may s m ≡ true)
some_found s ss None h e any = tt
some_found s ss (Some m) h e any = found_in s ss m h e any

pub none_found : (s : State) (ss ts : List Stream) (r : Option Move) → s.owed < 16384 → ss ≡ s.streams → ts ≡ s.streams → All (λ (st : Stream). is_owed st ≡ false) ss → IfNone r (All (λ (st : Stream). has_work s.send st ≡ false) ts) → IfNone r ((m : Move) → may s m ≡ false)
none_found s ss ts (Some m) few e i owed work = tt
none_found s ss ts None few e i owed work =
    may_none s (lt-leb _ _ few) (subst (λ (xs : List Stream). All (λ (st : Stream). is_owed st ≡ false) xs) e owed)
    (subst (λ (xs : List Stream). All (λ (st : Stream). has_work s.send st ≡ false) xs) i work)
