-- What holds of a connection goes on to hold: one lemma for each step of which effects are made.
use Rattle.std.proofs.Common.{◌≡◌, ℕ, zero, suc, ℤ, pos, ◌+ℤ◌, ◌-ℤ◌, ◌≤ℤ◌, ◌+◌, ◌-◌, ◌<◌, ◌≤◌, Bool, true, false, not, ◌&&◌, ◌||◌, cond, eqb, ltb, List, [], ◌∷◌, ◌++◌, length, take, drop, replicate, Option, Some, None, IfSome, ◌⊎◌, inl, inr, refl, sym, ap, ◌∙◌, subst, arith, length-append, length-take, length-drop}
use Rattle.std.specs.List.{AllByRecursion, list_any}
use Rattle.std.proofs.lemmas.Int.{ints}
use Rattle.std.specs.Prelude.{int_le}
use Rattle.std.proofs.lemmas.Bool.{eqb-true, ltb-false, or_cases, or_parts, or_left, or_right, not-false, eq-eqb, cond_both}
use Rattle.std.proofs.lemmas.List.{length-replicate}
use Rattle.kn_frames.specs.declared.frame.Frame.{Frame}
use Rattle.kn_windows.specs.Windows.{can_spend}
use Rattle.kn_frames.specs.Frames.{spelled}
use Rattle.kn_h2_state.specs.declared.event.H2Event.{H2Event}
use Rattle.kn_h2_state.specs.declared.event.H2Event.TheVariants.{Ended, Text}
use Rattle.kn_h2_state.specs.declared.stream.Stream.{Stream}
use Rattle.kn_h2_state.specs.declared.state.State.{State}
use Rattle.kn_h2_state.specs.Limits.{reply_limit, largest_window}
use Rattle.kn_h2_state.specs.Outgoing.{Out, put, count_true, reply_part, reply_bytes}
use Rattle.kn_h2_state.specs.Streams.{stream_at, change, is_open, is_kept, tidied, shut, passes, on_open}
use Rattle.kn_h2_state.specs.Payloads.{content, field_bytes, padding, increment_of, number_at, settings_of, has}
use Rattle.kn_h2_state.specs.Rules.{shifted_one, shifted, breaks_windows, shifts_over}
use Rattle.kn_h2_state.specs.Effects.{event, fail, reply, on_stream, peer_ends, if_open, with_text, data_taken, text_told, ended_if, data_in, data_dropped, data_of, cut_off, reset_of, after_setting, after_settings, settings, ping, goaway, with_grant, window_update}
use Rattle.kn_h2_state.specs.Holding.{HasSum, HasRoom, IsHigh, is_at_rest, Holds}
use Rattle.kn_h2.proofs.StreamLemmas.{all_at, all_change, all_weaker, all_map, all_tidied, kept_tidied, text_tidied, rising_tidied, rising_change, rising_map, text_change, text_kept, text_map}

-- ---- what waits for the socket

count_append : (xs ys : List Bool) → count_true (xs ++ ys) ≡ count_true xs + count_true ys
unfolding count_true
count_append [] ys = omega arith
count_append (x ∷ xs) ys = let rest = count_append xs ys in omega arith

count_replicate : (n : ℕ) (b : Bool) → count_true (replicate n b) ≡ reply_part b n
unfolding count_true
count_replicate zero true = refl
count_replicate zero false = refl
count_replicate (suc n) true = let rest = count_replicate n true in omega arith
count_replicate (suc n) false = let rest = count_replicate n false in omega arith

pub replies_put : (o : Out) (reply : Bool) (bytes : List ℕ) → reply_bytes (put o reply bytes) ≡ reply_bytes o + reply_part reply (length bytes)
replies_put o reply bytes = count_append o.replies (replicate (length bytes) reply) ∙ ap (λ k. reply_bytes o + k) (count_replicate (length bytes) reply)

pub replies_same : (o : Out) (bytes : List ℕ) → reply_bytes (put o false bytes) ≡ reply_bytes o
replies_same o bytes = let e = replies_put o false bytes in omega arith

pub replies_more : (o : Out) (bytes : List ℕ) → reply_bytes (put o true bytes) ≡ reply_bytes o + length bytes
replies_more o bytes = let e = replies_put o true bytes in omega arith

-- each byte has its mark
pub marked_put : (o : Out) (reply : Bool) (bytes : List ℕ) → length o.replies ≡ length o.bytes → length (put o reply bytes).replies ≡ length (put o reply bytes).bytes
marked_put o reply bytes h = simp (length-append, length-replicate) (omega arith)

-- ---- events, failure and replies

pub holds_event : (s : State) (e : H2Event) → Holds s → Holds (event s e)
holds_event s e h = record { rising = h.rising; numbers = h.numbers; parity = h.parity; kept = h.kept; rest = h.rest; sums = h.sums; sum = h.sum; room = h.room; rooms = h.rooms; high = h.high; block = h.block; replies = h.replies; marked = h.marked; initial = h.initial }

pub holds_fail : (code : ℕ) (s : State) → Holds s → Holds (fail code s)
unfolding fail
holds_fail code s h = record {
  rising = h.rising;
  numbers = h.numbers;
  parity = h.parity;
  kept = h.kept;
  rest = h.rest;
  sums = h.sums;
  sum = h.sum;
  room = h.room;
  rooms = h.rooms;
  high = h.high;
  block = h.block;
  replies = rw replies_same h.replies;
  marked = marked_put s.out false _ h.marked;
  initial = h.initial;
}

pub holds_out : (s : State) (o : Out) → reply_bytes o ≤ reply_limit → length o.replies ≡ length o.bytes → Holds s → Holds (record s { out = o })
holds_out s o small marked h = record { rising = h.rising; numbers = h.numbers; parity = h.parity; kept = h.kept; rest = h.rest; sums = h.sums; sum = h.sum; room = h.room; rooms = h.rooms; high = h.high; block = h.block; replies = small; marked = marked; initial = h.initial }

pub holds_reply : (frame : List ℕ) (s : State) → Holds s → Holds (reply frame s)
unfolding reply
holds_reply frame s h = by_test (ltb reply_limit (reply_bytes s.out + length frame)) refl
  where
    by_test : (b : Bool) → ltb reply_limit (reply_bytes s.out + length frame) ≡ b → Holds (cond b (fail 11 s) (record s { out = put s.out true frame }))
    by_test true t = holds_fail 11 s h
    by_test false t = holds_out s (put s.out true frame) (let few = ltb-false _ _ t in let e = replies_more s.out frame in omega arith) (marked_put s.out true frame h.marked) h

-- ---- one stream changes, and keeps its text and windows

pub record IsGentle (f : Stream → Stream) : Type 0 where
  pub number : (s : Stream) → (f s).number ≡ s.number
  pub text : (s : Stream) → length (f s).text ≡ length s.text
  pub rest : (s : Stream) → is_at_rest s ≡ true → is_at_rest (f s) ≡ true
  pub sum : (s : Stream) → HasSum s → HasSum (f s)
  pub room : (s : Stream) → HasRoom s → HasRoom (f s)
  pub high : (initial : ℕ) (s : Stream) → IsHigh initial s → IsHigh initial (f s)

pub holds_gentle : (n : ℕ) (f : Stream → Stream) (s : State) → IsGentle f → Holds s → Holds (on_stream n f s)
holds_gentle n f s g h = record {
  rising = rising_tidied _ _ (change s.streams n f) (rising_change _ _ _ n f g.number h.rising);
  numbers = h.numbers;
  parity = h.parity;
  kept = kept_tidied (change s.streams n f);
  rest = all_tidied (λ x. is_at_rest x ≡ true) (change s.streams n f) (all_change (λ x. is_at_rest x ≡ true) _ n f (λ x e p. g.rest x p) h.rest);
  sums = all_tidied HasSum (change s.streams n f) (all_change HasSum _ n f (λ st e p. g.sum st p) h.sums);
  sum = let e = text_tidied (change s.streams n f) ∙ text_kept s.streams n f g.text in rw e h.sum;
  room = h.room;
  rooms = all_tidied HasRoom (change s.streams n f) (all_change HasRoom _ n f (λ st e p. g.room st p) h.rooms);
  high = all_tidied (IsHigh s.initial) (change s.streams n f) (all_change (IsHigh s.initial) _ n f (λ st e p. g.high s.initial st p) h.high);
  block = h.block;
  replies = h.replies;
  marked = h.marked;
  initial = h.initial;
}

pub peer_ended_is_gentle : IsGentle (λ st. record st { peer_open = false })
peer_ended_is_gentle = record { number = λ s. refl; text = λ s. refl; rest = λ s p. p; sum = λ s p. p; room = λ s p. p; high = λ i s p q. p (or_right s.peer_open s.own_open q) }

pub answered_is_gentle : IsGentle (λ st. record st { answered = true })
answered_is_gentle = record { number = λ s. refl; text = λ s. refl; rest = λ s p. p; sum = λ s p. p; room = λ s p. p; high = λ i s p. p }

pub shut_is_gentle : IsGentle shut
shut_is_gentle = record { number = λ s. refl; text = λ s. refl; rest = λ s p. refl; sum = λ s p. p; room = λ s p. p; high = λ i s p q. absurd cc }

pub holds_peer_ends : (n : ℕ) (s : State) → Holds s → Holds (peer_ends n s)
unfolding peer_ends
holds_peer_ends n s h = holds_event _ (Ended n) (holds_gentle n (λ st. record st { peer_open = false }) s peer_ended_is_gentle h)

pub holds_ended_if : (ends : Bool) (n : ℕ) (s : State) → Holds s → Holds (ended_if ends n s)
holds_ended_if true n s h = holds_peer_ends n s h
holds_ended_if false n s h = h

-- ---- DATA

pub content_length : (f : Frame) → length (content f) ≤ length f.payload
unfolding content
content_length f = by_test (eqb f.kind 9)
  where
    by_test : (b : Bool) → length (cond b f.payload (take (length f.payload - field_bytes f - padding f) (drop (field_bytes f) f.payload))) ≤ length f.payload
    by_test true = omega arith
    by_test false = simp (length-take, length-drop) (omega arith)

room_left : (left : ℤ) (n : ℕ) → pos 0 ≤ℤ left → can_spend left n ≡ true → pos 0 ≤ℤ (left -ℤ pos n)
room_left left n room h = by_cases (or_cases (eqb n 0) (int_le (pos n) left) h)
  where
    by_cases : (eqb n 0 ≡ true) ⊎ (int_le (pos n) left ≡ true) → pos 0 ≤ℤ (left -ℤ pos n)
    by_cases (inl e) = let none = eqb-true n 0 e in omega (arith, ints)
    by_cases (inr e) = grind (arith, ints)

kept_with_text : (n : ℕ) (text : List ℕ) (st : Stream) → is_open st ≡ true → is_kept (with_text n text st) ≡ true
kept_with_text n text st o = or_left (is_open st) _ o

sum_with_text : (n : ℕ) (text : List ℕ) (st : Stream) → length text ≤ n → HasSum st → HasSum (with_text n text st)
sum_with_text n text st le h = let e = length-append st.text text in omega (arith, ints)

pub holds_data_taken : (f : Frame) (s : State) (st : Stream) → stream_at s.streams f.stream ≡ Some st → is_open st ≡ true
    → can_spend s.receive (length f.payload) ≡ true → can_spend st.receive (length f.payload) ≡ true → Holds s → Holds (data_taken f s)
unfolding data_taken
holds_data_taken f s st e o all one h =
    let n = length f.payload in
    let g : Stream → Stream = with_text n (content f) in
    let small = content_length f in
    record {
      rising = rising_change _ _ _ f.stream g (λ x. refl) h.rising;
      numbers = h.numbers;
      parity = h.parity;
      kept = all_change _ _ f.stream g (λ x here p. let same : st ≡ x = some_same (sym e ∙ here) in kept_with_text n (content f) x (subst (λ y. is_open y ≡ true) same o)) h.kept;
      rest = all_change _ _ f.stream g (λ x here p. p) h.rest;
      sums = all_change HasSum _ f.stream g (λ x here p. sum_with_text n (content f) x small p) h.sums;
      sum = let t = text_change s.streams f.stream g st e in let long = length-append st.text (content f) in let total = h.sum in omega (arith, ints);
      room = room_left s.receive n h.room all;
      rooms = all_change HasRoom _ f.stream g (λ x here p. let same : st ≡ x = some_same (sym e ∙ here) in room_left x.receive n p (subst (λ (y : Stream). can_spend y.receive n ≡ true) same one)) h.rooms;
      high = all_change (IsHigh s.initial) _ f.stream g (λ x here p. p) h.high;
      block = h.block;
      replies = h.replies;
      marked = h.marked;
      initial = h.initial;
    }
  where
    some_same : {a b : Stream} → Some a ≡ Some b → a ≡ b
    some_same p = cc

pub holds_text_told : (n : ℕ) (text : List ℕ) (s : State) → Holds s → Holds (text_told n text s)
holds_text_told n text s h = by_test (eqb (length text) 0)
  where
    by_test : (b : Bool) → Holds (cond b s (event s (Text n)))
    by_test true = h
    by_test false = holds_event s (Text n) h

pub holds_data_in : (f : Frame) (s : State) (st : Stream) → stream_at s.streams f.stream ≡ Some st → is_open st ≡ true
    → can_spend s.receive (length f.payload) ≡ true → can_spend st.receive (length f.payload) ≡ true → Holds s → Holds (data_in f s)
unfolding data_in
holds_data_in f s st e o all one h = holds_ended_if (has f 1) f.stream _ (holds_text_told f.stream (content f) _ (holds_data_taken f s st e o all one h))

pub holds_data_dropped : (f : Frame) (s : State) → can_spend s.receive (length f.payload) ≡ true → Holds s → Holds (data_dropped f s)
unfolding data_dropped
holds_data_dropped f s all h = record {
  rising = h.rising;
  numbers = h.numbers;
  parity = h.parity;
  kept = h.kept;
  rest = h.rest;
  sums = h.sums;
  sum = let total = h.sum in omega (arith, ints);
  room = room_left s.receive (length f.payload) h.room all;
  rooms = h.rooms;
  high = h.high;
  block = h.block;
  replies = h.replies;
  marked = h.marked;
  initial = h.initial;
}

pub holds_data : (f : Frame) (s : State) → can_spend s.receive (length f.payload) ≡ true → on_open s.streams f.stream (λ st. not (can_spend st.receive (length f.payload))) ≡ false
    → Holds s → Holds (data_of f s (stream_at s.streams f.stream))
holds_data f s all one h = by_stream (stream_at s.streams f.stream) refl one
  where
    by_open : (st : Stream) (b : Bool) → stream_at s.streams f.stream ≡ Some st → is_open st ≡ b → (b && not (can_spend st.receive (length f.payload))) ≡ false → Holds (cond b (data_in f s) (data_dropped f s))
    by_open st true e o fits = holds_data_in f s st e o all (not-false _ fits) h
    by_open st false e o fits = holds_data_dropped f s all h

    by_stream : (o : Option Stream) → stream_at s.streams f.stream ≡ o → passes (λ st. not (can_spend st.receive (length f.payload))) o ≡ false → Holds (data_of f s o)
    by_stream None e fits = holds_data_dropped f s all h
    by_stream (Some st) e fits = by_open st (is_open st) e refl fits

-- ---- RST_STREAM

all_both : (P Q : Stream → Type 0) (ss : List Stream) → AllByRecursion P ss → AllByRecursion (λ st. P st → Q st) ss → AllByRecursion Q ss
all_both P Q [] p q = tt
all_both P Q (x ∷ ss) p q = (q.0 p.0, all_both P Q ss p.1 q.1)

pub holds_cut_off : (n code : ℕ) (st : Stream) (s : State) → stream_at s.streams n ≡ Some st → Holds s → Holds (cut_off n code st s)
unfolding cut_off
holds_cut_off n code st s e h =
    let g : Stream → Stream = λ x. record (shut x) { text = [] } in
    let there : AllByRecursion (λ x. is_kept x ≡ true → HasSum x) (change s.streams n g) =
    all_change (λ x. is_kept x ≡ true → HasSum x) s.streams n g (λ x here p q. absurd cc) (all_weaker HasSum (λ x. is_kept x ≡ true → HasSum x) (λ x p q. p) _ h.sums) in
    record {
      rising = rising_tidied _ _ (change s.streams n g) (rising_change _ _ _ n g (λ x. refl) h.rising);
      numbers = h.numbers;
      parity = h.parity;
      kept = kept_tidied (change s.streams n g);
      rest = all_tidied (λ x. is_at_rest x ≡ true) (change s.streams n g) (all_change (λ x. is_at_rest x ≡ true) _ n g (λ x here p. refl) h.rest);
      sums = all_both (λ x. is_kept x ≡ true) HasSum (tidied (change s.streams n g)) (kept_tidied (change s.streams n g)) (all_tidied (λ x. is_kept x ≡ true → HasSum x) (change s.streams n g) there);
      sum = let t = text_change s.streams n g st e in let tidy = text_tidied (change s.streams n g) in let total = h.sum in omega (arith, ints);
      room = h.room;
      rooms = all_tidied HasRoom (change s.streams n g) (all_change HasRoom _ n g (λ x here p. p) h.rooms);
      high = all_tidied (IsHigh s.initial) (change s.streams n g) (all_change (IsHigh s.initial) _ n g (λ x here p q. absurd cc) h.high);
      block = h.block;
      replies = h.replies;
      marked = h.marked;
      initial = h.initial;
    }

pub holds_reset_of : (f : Frame) (st : Stream) (s : State) → stream_at s.streams f.stream ≡ Some st → Holds s → Holds (reset_of f st s)
unfolding reset_of
holds_reset_of f st s e h = by_test _
  where
    by_test : (b : Bool) → Holds (cond b (on_stream f.stream shut s) (cut_off f.stream (number_at f.payload 0) st s))
    by_test true = holds_gentle f.stream shut s shut_is_gentle h
    by_test false = holds_cut_off f.stream (number_at f.payload 0) st s e h

pub holds_reset : (f : Frame) (s : State) → Holds s → Holds (if_open (stream_at s.streams f.stream) s (λ st. reset_of f st s))
holds_reset f s h = by_stream (stream_at s.streams f.stream) refl
  where
    by_open : (st : Stream) (b : Bool) → stream_at s.streams f.stream ≡ Some st → Holds (cond b (reset_of f st s) s)
    by_open st true e = holds_reset_of f st s e h
    by_open st false e = h

    by_stream : (o : Option Stream) → stream_at s.streams f.stream ≡ o → Holds (if_open o s (λ st. reset_of f st s))
    by_stream None e = h
    by_stream (Some st) e = by_open st (is_open st) e

-- ---- SETTINGS

high_shifted : (old new : ℕ) (st : Stream) → IsHigh old st → IsHigh new (shifted_one old new st)
high_shifted old new st h = by_test (is_open st) refl
  where
    by_test : (b : Bool) → is_open st ≡ b → IsHigh new (cond b (record st { send = st.send +ℤ (pos new -ℤ pos old) }) st)
    by_test true o q = let low = h o in omega (arith, ints)
    by_test false o q = absurd cc

by_shift : (P : Stream → Type 0) (old new : ℕ) (st : Stream) → P st → P (record st { send = st.send +ℤ (pos new -ℤ pos old) }) → P (shifted_one old new st)
by_shift P old new st here there = by_test (is_open st)
  where
    by_test : (b : Bool) → P (cond b (record st { send = st.send +ℤ (pos new -ℤ pos old) }) st)
    by_test true = there
    by_test false = here

pub holds_shifted : (new : ℕ) (s : State) → new ≤ largest_window → Holds s → Holds (record s { initial = new; streams = shifted s.initial new s.streams })
holds_shifted new s small h =
    let g : Stream → Stream = shifted_one s.initial new in
    record {
      rising = rising_map _ _ _ g (λ x. by_shift (λ y. y.number ≡ x.number) s.initial new x refl refl) h.rising;
      numbers = h.numbers;
      parity = h.parity;
      kept = all_map (λ x. is_kept x ≡ true) (λ x. is_kept x ≡ true) g (λ x p. by_shift (λ y. is_kept y ≡ true) s.initial new x p p) _ h.kept;
      rest = all_map (λ x. is_at_rest x ≡ true) (λ x. is_at_rest x ≡ true) g (λ x p. by_shift (λ y. is_at_rest y ≡ true) s.initial new x p p) _ h.rest;
      sums = all_map HasSum HasSum g (λ x p. by_shift HasSum s.initial new x p p) _ h.sums;
      sum = let e = text_map s.streams g (λ x. by_shift (λ y. length y.text ≡ length x.text) s.initial new x refl refl) in rw e h.sum;
      room = h.room;
      rooms = all_map HasRoom HasRoom g (λ x p. by_shift HasRoom s.initial new x p p) _ h.rooms;
      high = all_map (IsHigh s.initial) (IsHigh new) g (λ x p. high_shifted s.initial new x p) _ h.high;
      block = h.block;
      replies = h.replies;
      marked = h.marked;
      initial = small;
    }

-- what the rule says of the first setting, and of the others
pub setting_fits : (initial : ℕ) (ss : List Stream) (x : ℕ × ℕ) (xs : List (ℕ × ℕ)) → breaks_windows initial ss (x ∷ xs) ≡ false → x.0 ≡ 4
    → (x.1 < 2147483648) × (list_any (shifts_over initial x.1) ss ≡ false)
unfolding breaks_windows
setting_fits initial ss x xs fits four =
    let t : (ltb largest_window x.1 || list_any (shifts_over initial x.1) ss || breaks_windows x.1 (shifted initial x.1 ss) xs) ≡ false = rw (eq-eqb _ _ four) at fits in
    let p = or_parts (ltb largest_window x.1 || list_any (shifts_over initial x.1) ss) _ t in
    let q = or_parts (ltb largest_window x.1) _ p.0 in
    let small = ltb-false _ _ q.0 in
    (omega arith, q.1)

pub fits_after : (s : State) (x : ℕ × ℕ) (xs : List (ℕ × ℕ)) → breaks_windows s.initial s.streams (x ∷ xs) ≡ false
    → breaks_windows (after_setting s x).initial (after_setting s x).streams xs ≡ false
unfolding breaks_windows after_setting
fits_after s x xs fits = by_four (eqb x.0 4) (eqb x.0 3) fits
  where
    by_four : (b c : Bool) → cond b (ltb largest_window x.1 || list_any (shifts_over s.initial x.1) s.streams || breaks_windows x.1 (shifted s.initial x.1 s.streams) xs) (breaks_windows s.initial s.streams xs) ≡ false
        → breaks_windows (cond b (record s { initial = x.1; streams = shifted s.initial x.1 s.streams }) (cond c (record s { most = Some x.1 }) s)).initial
        (cond b (record s { initial = x.1; streams = shifted s.initial x.1 s.streams }) (cond c (record s { most = Some x.1 }) s)).streams xs ≡ false
    by_four true c g = (or_parts _ _ g).1
    by_four false true g = g
    by_four false false g = g

pub holds_setting : (s : State) (x : ℕ × ℕ) (xs : List (ℕ × ℕ)) → breaks_windows s.initial s.streams (x ∷ xs) ≡ false → Holds s → Holds (after_setting s x)
unfolding after_setting
holds_setting s x xs fits h =
    cond_both (eqb x.0 4) _ _ Holds (λ e. let fit = setting_fits s.initial s.streams x xs fits (eqb-true _ _ e) in holds_shifted x.1 s (omega arith) h)
    (λ e. cond_both (eqb x.0 3) _ _ Holds
    (λ e. record { rising = h.rising; numbers = h.numbers; parity = h.parity; kept = h.kept; rest = h.rest; sums = h.sums; sum = h.sum; room = h.room; rooms = h.rooms; high = h.high; block = h.block; replies = h.replies; marked = h.marked; initial = h.initial })
    (λ e. h))

pub holds_settings_of : (s : State) (xs : List (ℕ × ℕ)) → breaks_windows s.initial s.streams xs ≡ false → Holds s → Holds (after_settings s xs)
unfolding after_settings
holds_settings_of s [] fits h = h
holds_settings_of s (x ∷ xs) fits h = holds_settings_of (after_setting s x) xs (fits_after s x xs fits) (holds_setting s x xs fits h)

pub settings_none : (s : State) → after_settings s [] ≡ s
unfolding after_settings
settings_none s = refl

pub settings_more : (s : State) (x : ℕ × ℕ) (xs : List (ℕ × ℕ)) → after_settings s (x ∷ xs) ≡ after_settings (after_setting s x) xs
unfolding after_settings
settings_more s x xs = refl

-- ---- WINDOW_UPDATE

pub holds_sends : (s : State) (left : ℤ) → Holds s → Holds (record s { send = left })
holds_sends s left h = record { rising = h.rising; numbers = h.numbers; parity = h.parity; kept = h.kept; rest = h.rest; sums = h.sums; sum = h.sum; room = h.room; rooms = h.rooms; high = h.high; block = h.block; replies = h.replies; marked = h.marked; initial = h.initial }

by_grant : (P : Stream → Type 0) (by : ℕ) (st : Stream) → P st → P (record st { send = st.send +ℤ pos by }) → P (with_grant by st)
by_grant P by st here there = by_test (is_open st)
  where
    by_test : (b : Bool) → P (cond b (record st { send = st.send +ℤ pos by }) st)
    by_test true = there
    by_test false = here

pub holds_granted : (n by : ℕ) (s : State) → Holds s → Holds (record s { streams = change s.streams n (with_grant by) })
holds_granted n by s h =
    let g : Stream → Stream = with_grant by in
    record {
      rising = rising_change _ _ _ n g (λ x. by_grant (λ y. y.number ≡ x.number) by x refl refl) h.rising;
      numbers = h.numbers;
      parity = h.parity;
      kept = all_change (λ x. is_kept x ≡ true) _ n g (λ x here p. by_grant (λ y. is_kept y ≡ true) by x p p) h.kept;
      rest = all_change (λ x. is_at_rest x ≡ true) _ n g (λ x here p. by_grant (λ y. is_at_rest y ≡ true) by x p p) h.rest;
      sums = all_change HasSum _ n g (λ x here p. by_grant HasSum by x p p) h.sums;
      sum = let e = text_kept s.streams n g (λ x. by_grant (λ y. length y.text ≡ length x.text) by x refl refl) in rw e h.sum;
      room = h.room;
      rooms = all_change HasRoom _ n g (λ x here p. by_grant HasRoom by x p p) h.rooms;
      high = all_change (IsHigh s.initial) _ n g (λ x here p. by_grant (IsHigh s.initial) by x p (λ q. let low = p q in omega (arith, ints))) h.high;
      block = h.block;
      replies = h.replies;
      marked = h.marked;
      initial = h.initial;
    }

pub holds_window_update : (f : Frame) (s : State) → Holds s → Holds (window_update f s)
unfolding window_update
holds_window_update f s h = by_test (eqb f.stream 0)
  where
    by_test : (b : Bool) → Holds (cond b (record s { send = s.send +ℤ pos (increment_of f.payload) }) (record s { streams = change s.streams f.stream (with_grant (increment_of f.payload)) }))
    by_test true = holds_sends s _ h
    by_test false = holds_granted f.stream _ s h

-- ---- SETTINGS, PING and GOAWAY

pub holds_settings : (f : Frame) (s : State) → breaks_windows s.initial s.streams (settings_of f.payload) ≡ false → Holds s → Holds (settings f s)
unfolding settings
holds_settings f s fits h = by_test (has f 1)
  where
    by_test : (b : Bool) → Holds (cond b s (reply (spelled 4 1 0 []) (after_settings s (settings_of f.payload))))
    by_test true = h
    by_test false = holds_reply _ _ (holds_settings_of s (settings_of f.payload) fits h)

pub holds_ping : (f : Frame) (s : State) → Holds s → Holds (ping f s)
unfolding ping
holds_ping f s h = by_test (has f 1)
  where
    by_test : (b : Bool) → Holds (cond b s (reply (spelled 6 1 0 f.payload) s))
    by_test true = h
    by_test false = holds_reply _ _ h

pub holds_goaway : (f : Frame) (s : State) → Holds s → Holds (goaway f s)
unfolding goaway
holds_goaway f s h = holds_event _ _ (record { rising = h.rising; numbers = h.numbers; parity = h.parity; kept = h.kept; rest = h.rest; sums = h.sums; sum = h.sum; room = h.room; rooms = h.rooms; high = h.high; block = h.block; replies = h.replies; marked = h.marked; initial = h.initial })

pub holds_began : (s : State) → Holds s → Holds (record s { began = true })
holds_began s h = record { rising = h.rising; numbers = h.numbers; parity = h.parity; kept = h.kept; rest = h.rest; sums = h.sums; sum = h.sum; room = h.room; rooms = h.rooms; high = h.high; block = h.block; replies = h.replies; marked = h.marked; initial = h.initial }

-- ---- what is owed stays small

pub owed_fits : (s : State) (k : ℕ) → Holds s → k ≤ 16384 → s.owed + k < 4294967296
owed_fits s k h small = let sum = h.sum in let room = h.room in omega (arith, ints)

pub stream_owed_fits : (s : State) (n k : ℕ) → Holds s → k ≤ 16384 → IfSome (stream_at s.streams n) (λ st. st.owed + k < 4294967296)
stream_owed_fits s n k h small = by_stream (stream_at s.streams n) refl
  where
    by_stream : (o : Option Stream) → stream_at s.streams n ≡ o → IfSome o (λ st. st.owed + k < 4294967296)
    by_stream None e = tt
    by_stream (Some st) e =
        let sum : HasSum st = all_at HasSum s.streams n st h.sums e in
        let room : HasRoom st = all_at HasRoom s.streams n st h.rooms e in
        omega (arith, ints)
