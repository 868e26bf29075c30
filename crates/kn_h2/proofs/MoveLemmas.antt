-- What always holds goes on to hold after each move.
use Rattle.std.proofs.Common.{◌≡◌, ℕ, ℤ, pos, ◌≤ℤ◌, ◌<◌, ◌≤◌, Bool, true, false, not, eqb, leb, ltb, length, take, Option, Some, None, is_some, is_none, refl, sym, subst, arith}
use Rattle.std.specs.Prelude.{int_le}
use Rattle.std.proofs.lemmas.Int.{ints}
use Rattle.std.proofs.lemmas.Bool.{and_parts, or_left, or_right, eqb-true, ltb-true, leb-true}
use Rattle.kn_frames.specs.Frames.{spelled, head}
use Rattle.kn_h2_state.specs.declared.moves.Move.{Move}
use Rattle.kn_h2_state.specs.declared.moves.Move.TheVariants.{GrantAll, Grant, Send, End, Stop}
use Rattle.kn_h2_state.specs.declared.stream.Stream.{Stream}
use Rattle.kn_h2_state.specs.declared.state.State.{State}
use Rattle.kn_h2_state.specs.Payloads.{grant_frame, reset_frame}
use Rattle.kn_h2_state.specs.Rules.{is_client}
use Rattle.kn_h2_state.specs.Streams.{stream_at, change}
use Rattle.kn_h2_state.specs.Moves.{may, is_due, is_owed, can_send, can_end, can_stop, made, after_move, granted, sent_some, own_ended, stopped, end_frames}
use Rattle.kn_h2_state.specs.Holding.{Holds, HasSum, HasRoom, IsHigh, is_at_rest}
use Rattle.kn_h2.proofs.StreamLemmas.{all_change, all_tidied, kept_tidied, text_tidied, rising_tidied, rising_change, text_kept}
use Rattle.kn_h2.proofs.FoundLemmas.{found_open}
use Rattle.kn_h2_state.proofs.RunLemmas.{count_true-le}
use Rattle.kn_h2.proofs.HoldsLemmas.{marked_put, replies_same, replies_more}

-- what a move needs
pub record IsMove (s : State) (m : Move) : Type 0 where
  pub sound : is_none s.failed ≡ true
  pub room : length s.out.bytes < 16384
  pub due : is_due s m ≡ true

pub move_parts : (s : State) (m : Move) → may s m ≡ true → IsMove s m
unfolding may
move_parts s m ok =
    let outer = and_parts (is_none s.failed) _ ok in
    let inner = and_parts (ltb (length s.out.bytes) 16384) (is_due s m) outer.1 in
    record { sound = outer.0; room = ltb-true _ _ inner.0; due = inner.1 }

grant_all_keeps : (s : State) → Holds s → Holds (made s GrantAll None)
grant_all_keeps s holds = record {
  rising = holds.rising;
  numbers = holds.numbers;
  parity = holds.parity;
  kept = holds.kept;
  rest = holds.rest;
  sums = holds.sums;
  sum = let e = holds.sum in omega (arith, ints);
  room = let e = holds.room in omega (arith, ints);
  rooms = holds.rooms;
  high = holds.high;
  block = holds.block;
  marked = marked_put s.out false (grant_frame 0 s.owed) holds.marked;
  replies = rw (replies_same s.out (grant_frame 0 s.owed)) holds.replies;
  initial = holds.initial;
}

granted_sum : (st : Stream) → HasSum st → HasSum (granted st)
granted_sum st e = omega (arith, ints)

granted_room : (st : Stream) → HasRoom st → HasRoom (granted st)
granted_room st e = omega (arith, ints)

grant_keeps : (s : State) (n : ℕ) (st : Stream) → Holds s → Holds (made s (Grant n) (Some st))
grant_keeps s n st holds = record {
  rising = rising_change 0 s.opened s.streams n granted (λ _. refl) holds.rising;
  numbers = holds.numbers;
  parity = holds.parity;
  kept = all_change _ s.streams n granted (λ _ _ k. k) holds.kept;
  rest = all_change _ s.streams n granted (λ _ _ k. k) holds.rest;
  sums = all_change HasSum s.streams n granted (λ x _ e. granted_sum x e) holds.sums;
  sum = rw (text_kept s.streams n granted (λ _. refl)) holds.sum;
  room = holds.room;
  rooms = all_change HasRoom s.streams n granted (λ x _ e. granted_room x e) holds.rooms;
  high = all_change (IsHigh s.initial) s.streams n granted (λ _ _ k. k) holds.high;
  block = holds.block;
  marked = marked_put s.out false (grant_frame n st.owed) holds.marked;
  replies = rw (replies_same s.out (grant_frame n st.owed)) holds.replies;
  initial = holds.initial;
}

int_le-true : (a b : ℤ) → int_le a b ≡ true → a ≤ℤ b
int_le-true a b h = grind (arith, ints)

-- what a Send needs
pub record IsSendable (count : ℕ) (window : ℤ) (st : Stream) : Type 0 where
  pub own : st.own_open ≡ true
  pub some : 0 < count
  pub frame : count ≤ 16384
  pub queued : count ≤ length st.queue
  pub connection : pos count ≤ℤ window
  pub stream : pos count ≤ℤ st.send

pub send_parts : (count : ℕ) (window : ℤ) (st : Stream) → can_send count window st ≡ true → IsSendable count window st
send_parts count window st h =
    let f = and_parts _ (int_le (pos count) st.send) h in
    let e = and_parts _ (int_le (pos count) window) f.0 in
    let d = and_parts _ (leb count (length st.queue)) e.0 in
    let b = and_parts _ (leb count 16384) d.0 in
    let a = and_parts st.own_open (ltb 0 count) b.0 in
    record {
      own = a.0;
      some = ltb-true _ _ a.1;
      frame = leb-true _ _ b.1;
      queued = leb-true _ _ d.1;
      connection = int_le-true _ _ e.1;
      stream = int_le-true _ _ f.1;
    }

sent_high : (initial count : ℕ) (st : Stream) → initial ≤ 2147483647 → pos count ≤ℤ st.send → IsHigh initial st → IsHigh initial (sent_some count st)
sent_high initial count st small fits high = λ o. omega (arith, ints)

at_rest_own : (st : Stream) → st.own_open ≡ true → is_at_rest st ≡ true
at_rest_own st own = or_left _ _ own

send_keeps : (s : State) (n count : ℕ) (st : Stream) → Holds s → stream_at s.streams n ≡ Some st → can_send count s.send st ≡ true → Holds (made s (Send n count) (Some st))
send_keeps s n count st holds found can =
    let parts = send_parts count s.send st can in
    record {
      rising = rising_change 0 s.opened s.streams n (sent_some count) (λ _. refl) holds.rising;
      numbers = holds.numbers;
      parity = holds.parity;
      kept = all_change _ s.streams n (sent_some count) (λ _ _ k. k) holds.kept;
      rest = all_change (λ x. is_at_rest x ≡ true) s.streams n (sent_some count) (λ x e _. let same : st ≡ x = cc in or_left _ _ (subst (λ (y : Stream). y.own_open ≡ true) same parts.own)) holds.rest;
      sums = all_change HasSum s.streams n (sent_some count) (λ _ _ e. e) holds.sums;
      sum = rw (text_kept s.streams n (sent_some count) (λ _. refl)) holds.sum;
      room = holds.room;
      rooms = all_change HasRoom s.streams n (sent_some count) (λ _ _ e. e) holds.rooms;
      high = all_change (IsHigh s.initial) s.streams n (sent_some count) (λ x e h. let same : st ≡ x = cc in sent_high s.initial count x holds.initial (subst (λ (y : Stream). pos count ≤ℤ y.send) same parts.stream) h) holds.high;
      block = holds.block;
      marked = marked_put s.out false (spelled 0 0 n (take count st.queue)) holds.marked;
      replies = rw (replies_same s.out (spelled 0 0 n (take count st.queue))) holds.replies;
      initial = holds.initial;
    }

-- what an End needs
pub record IsEndable (st : Stream) : Type 0 where
  pub own : st.own_open ≡ true
  pub asked : is_some st.finish ≡ true
  pub none : length st.queue ≡ 0

pub end_parts : (st : Stream) → can_end st ≡ true → IsEndable st
end_parts st h =
    let b = and_parts _ (eqb (length st.queue) 0) h in
    let a = and_parts st.own_open (is_some st.finish) b.0 in
    record { own = a.0; asked = a.1; none = eqb-true _ _ b.1 }

pub ended_rest : (server : Bool) (st : Stream) → length st.queue ≡ 0 → is_at_rest (own_ended server st) ≡ true
ended_rest server st none = rw none refl

ended_high : (initial : ℕ) (server : Bool) (st : Stream) → st.own_open ≡ true → IsHigh initial st → IsHigh initial (own_ended server st)
ended_high initial server st own high = λ o. high (or_right _ _ own)

end_keeps : (s : State) (n : ℕ) (st : Stream) → Holds s → stream_at s.streams n ≡ Some st → can_end st ≡ true → Holds (made s (End n) (Some st))
end_keeps s n st holds found can =
    let parts = end_parts st can in
    let server = not (is_client s.role) in
    record {
      rising = rising_tidied 0 s.opened _ (rising_change 0 s.opened s.streams n (own_ended server) (λ _. refl) holds.rising);
      numbers = holds.numbers;
      parity = holds.parity;
      kept = kept_tidied (change s.streams n (own_ended server));
      rest = all_tidied (λ x. is_at_rest x ≡ true) _ (all_change (λ x. is_at_rest x ≡ true) s.streams n (own_ended server) (λ x e _. let same : st ≡ x = cc in ended_rest server x (subst (λ (y : Stream). length y.queue ≡ 0) same parts.none)) holds.rest);
      sums = all_tidied HasSum _ (all_change HasSum s.streams n (own_ended server) (λ _ _ e. e) holds.sums);
      sum = rw (text_tidied (change s.streams n (own_ended server)), text_kept s.streams n (own_ended server) (λ _. refl)) holds.sum;
      room = holds.room;
      rooms = all_tidied HasRoom _ (all_change HasRoom s.streams n (own_ended server) (λ _ _ e. e) holds.rooms);
      high = all_tidied (IsHigh s.initial) _ (all_change (IsHigh s.initial) s.streams n (own_ended server) (λ x e h. let same : st ≡ x = cc in ended_high s.initial server x (subst (λ (y : Stream). y.own_open ≡ true) same parts.own) h) holds.high);
      block = holds.block;
      marked = marked_put s.out false (end_frames s n st.finish) holds.marked;
      replies = rw (replies_same s.out (end_frames s n st.finish)) holds.replies;
      initial = holds.initial;
    }

-- the thirteen bytes of RST_STREAM
reset_length : (n code : ℕ) → length (reset_frame n code) ≡ 13
unfolding head
reset_length n code = refl

stopped_high : (initial : ℕ) (st : Stream) → st.peer_open ≡ true → IsHigh initial st → IsHigh initial (stopped st)
stopped_high initial st peer high = λ o. high (or_left _ _ peer)

stop_keeps : (s : State) (n : ℕ) (st : Stream) → Holds s → stream_at s.streams n ≡ Some st → length s.out.bytes < 16384 → can_stop st ≡ true → Holds (made s (Stop n) (Some st))
stop_keeps s n st holds found room can =
    let parts = and_parts st.resets st.peer_open can in
    record {
      rising = rising_tidied 0 s.opened _ (rising_change 0 s.opened s.streams n stopped (λ _. refl) holds.rising);
      numbers = holds.numbers;
      parity = holds.parity;
      kept = kept_tidied (change s.streams n stopped);
      rest = all_tidied (λ x. is_at_rest x ≡ true) _ (all_change (λ x. is_at_rest x ≡ true) s.streams n stopped (λ _ _ k. k) holds.rest);
      sums = all_tidied HasSum _ (all_change HasSum s.streams n stopped (λ _ _ e. e) holds.sums);
      sum = rw (text_tidied (change s.streams n stopped), text_kept s.streams n stopped (λ _. refl)) holds.sum;
      room = holds.room;
      rooms = all_tidied HasRoom _ (all_change HasRoom s.streams n stopped (λ _ _ e. e) holds.rooms);
      high = all_tidied (IsHigh s.initial) _ (all_change (IsHigh s.initial) s.streams n stopped (λ x e h. let same : st ≡ x = cc in stopped_high s.initial x (subst (λ (y : Stream). y.peer_open ≡ true) same parts.1) h) holds.high);
      block = holds.block;
      marked = marked_put s.out true (reset_frame n 0) holds.marked;
      replies = let few = count_true-le s.out.replies in let marked = holds.marked in rw (replies_more s.out (reset_frame n 0)) (omega (arith, reset_length n 0));
      initial = holds.initial;
    }

pub move_keeps : (s : State) (m : Move) → Holds s → may s m ≡ true → Holds (after_move s m)
unfolding after_move
move_keeps s GrantAll holds ok = grant_all_keeps s holds
move_keeps s (Grant n) holds ok =
    let here = found_open s.streams n is_owed (move_parts s (Grant n) ok).due in
    subst (λ (o : Option Stream). Holds (made s (Grant n) o)) (sym here.1.found) (grant_keeps s n here.0 holds)
move_keeps s (Send n count) holds ok =
    let here = found_open s.streams n (can_send count s.send) (move_parts s (Send n count) ok).due in
    subst (λ (o : Option Stream). Holds (made s (Send n count) o)) (sym here.1.found) (send_keeps s n count here.0 holds here.1.found here.1.passed)
move_keeps s (End n) holds ok =
    let here = found_open s.streams n can_end (move_parts s (End n) ok).due in
    subst (λ (o : Option Stream). Holds (made s (End n) o)) (sym here.1.found) (end_keeps s n here.0 holds here.1.found here.1.passed)
move_keeps s (Stop n) holds ok =
    let here = found_open s.streams n can_stop (move_parts s (Stop n) ok).due in
    subst (λ (o : Option Stream). Holds (made s (Stop n) o)) (sym here.1.found) (stop_keeps s n here.0 holds here.1.found (move_parts s (Stop n) ok).room here.1.passed)
