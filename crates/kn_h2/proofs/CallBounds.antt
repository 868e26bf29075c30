-- What holds of a connection goes on to hold through the calls of this end on a stream.
use Rattle.std.proofs.Common.{◌≡◌, ℕ, zero, suc, pos, ◌+ℤ◌, ◌+◌, ◌<◌, ◌≤◌, Bool, true, false, ◌&&◌, cond, eqb, List, [], ◌∷◌, length, drop, Option, Some, None, IfSome, get_or, min, refl, sym, ap, ◌∙◌, subst, arith, length-drop}
use Rattle.std.proofs.lemmas.List.{drop_more, drop_all}
use Rattle.std.proofs.lemmas.Int.{ints}
use Rattle.std.proofs.lemmas.Bool.{and_parts, or_left, eqb-true}
use Rattle.kn_hpack.specs.Fields.{Field}
use Rattle.kn_h2_state.specs.declared.refusal.QueueRefusal.{QueueRefusal}
use Rattle.kn_h2_state.specs.declared.stream.Stream.{Stream}
use Rattle.kn_h2_state.specs.declared.state.State.{State}
use Rattle.kn_h2_state.specs.Outgoing.{taken, count_true}
use Rattle.kn_h2_state.specs.Streams.{stream_at, with_stream, change, is_open, is_kept, tidied, passes, on_open, shut}
use Rattle.kn_h2_state.specs.Calls.{with_taken, text_in, text_of, takes_more, refused_where, refusal, or_full, queue_of, queue_refusal, with_queued, with_finish, unsent, after_reset}
use Rattle.kn_h2_state.specs.Holding.{Rising, HasSum, HasRoom, text_bytes, IsHigh, is_at_rest, Holds}
use Rattle.kn_h2.proofs.StreamLemmas.{change_none, all_at, all_change, all_tidied, kept_tidied, text_tidied, rising_tidied, rising_change, text_at, text_change, text_kept}
use Rattle.kn_h2.proofs.HoldsLemmas.{holds_gentle, holds_reply, shut_is_gentle}

-- ---- text that was taken

some_same : {a b : Stream} → Some a ≡ Some b → a ≡ b
some_same p = cc

sum_with_taken : (count : ℕ) (st : Stream) → count ≤ length st.text → HasSum st → HasSum (with_taken count st)
sum_with_taken count st le h = let e = length-drop count st.text in omega (arith, ints)

-- there is as much text, where the stream is still there
part_of : (s : State) (n count : ℕ) → count ≤ length (text_of s n) → IfSome (stream_at s.streams n) (λ st. count ≤ length st.text)
part_of s n count le = by_stream (stream_at s.streams n) le
  where
    by_stream : (o : Option Stream) → count ≤ length (text_in o) → IfSome o (λ st. count ≤ length st.text)
    by_stream None h = tt
    by_stream (Some st) h = h

pub text_part : (s : State) (n count : ℕ) → count ≤ length (text_of s n) → IfSome (stream_at s.streams n) (λ st. count ≤ length st.text)
text_part s n count le = part_of s n count le

pub text_owed : (s : State) (n count : ℕ) → Holds s → count ≤ length (text_of s n) → s.owed + count < 4294967296
text_owed s n count h le = by_stream (stream_at s.streams n) refl le
  where
    by_stream : (o : Option Stream) → stream_at s.streams n ≡ o → count ≤ length (text_in o) → s.owed + count < 4294967296
    by_stream None e k = let sum = h.sum in let room = h.room in omega (arith, ints)
    by_stream (Some st) e k = let part = text_at s.streams n st e in let sum = h.sum in let room = h.room in omega (arith, ints)

pub text_owed_one : (s : State) (n count : ℕ) → Holds s → count ≤ length (text_of s n) → IfSome (stream_at s.streams n) (λ st. st.owed + count < 4294967296)
text_owed_one s n count h le = by_stream (stream_at s.streams n) refl le
  where
    by_stream : (o : Option Stream) → stream_at s.streams n ≡ o → count ≤ length (text_in o) → IfSome o (λ st. st.owed + count < 4294967296)
    by_stream None e k = tt
    by_stream (Some st) e k =
        let sum : HasSum st = all_at HasSum s.streams n st h.sums e in
        let room : HasRoom st = all_at HasRoom s.streams n st h.rooms e in
        omega (arith, ints)

pub holds_take : (s : State) (n count : ℕ) → count ≤ length (text_of s n) → Holds s → Holds (record s { streams = tidied (change s.streams n (with_taken count)); owed = s.owed + count })
holds_take s n count le h =
    let g : Stream → Stream = with_taken count in
    let part = part_of s n count le in
    record {
      rising = rising_tidied _ _ (change s.streams n g) (rising_change _ _ _ n g (λ x. refl) h.rising);
      numbers = h.numbers;
      parity = h.parity;
      kept = kept_tidied (change s.streams n g);
      rest = all_tidied (λ x. is_at_rest x ≡ true) (change s.streams n g) (all_change (λ x. is_at_rest x ≡ true) _ n g (λ x e p. p) h.rest);
      sums = all_tidied HasSum (change s.streams n g) (all_change HasSum _ n g (λ x e p. sum_with_taken count x (subst (λ o. IfSome o (λ st. count ≤ length st.text)) e part) p) h.sums);
      sum = by_stream (stream_at s.streams n) refl le;
      room = h.room;
      rooms = all_tidied HasRoom (change s.streams n g) (all_change HasRoom _ n g (λ x e p. p) h.rooms);
      high = all_tidied (IsHigh s.initial) (change s.streams n g) (all_change (IsHigh s.initial) _ n g (λ x e p. p) h.high);
      block = h.block;
      replies = h.replies;
      marked = h.marked;
      initial = h.initial;
    }
  where
    by_stream : (o : Option Stream) → stream_at s.streams n ≡ o → count ≤ length (text_in o)
        → s.receive +ℤ pos ((s.owed + count) + text_bytes (tidied (change s.streams n (with_taken count)))) ≡ pos 6553500
    by_stream None e k =
        let same = ap text_bytes (change_none s.streams n (with_taken count) e) in
        let tidy = text_tidied (change s.streams n (with_taken count)) in
        let total = h.sum in
        omega (arith, ints)
    by_stream (Some st) e k =
        let t = text_change s.streams n (with_taken count) st e in
        let cut = length-drop count st.text in
        let tidy = text_tidied (change s.streams n (with_taken count)) in
        let total = h.sum in
        omega (arith, ints)

-- ---- bytes that went to the peer

fewer_true : (n : ℕ) (marks : List Bool) → count_true (drop n marks) ≤ count_true marks
unfolding count_true
fewer_true zero marks = omega arith
fewer_true (suc n) [] = omega arith
fewer_true (suc n) (m ∷ marks) = let rest = fewer_true n marks in omega arith

pub holds_took : (s : State) (count : ℕ) → Holds s → Holds (record s { out = taken s.out count })
holds_took s count h = record {
  rising = h.rising;
  numbers = h.numbers;
  parity = h.parity;
  kept = h.kept;
  rest = h.rest;
  sums = h.sums;
  sum = h.sum;
  room = h.room;
  rooms = h.rooms;
  high = h.high;
  block = h.block;
  replies = let fewer = fewer_true count s.out.replies in let few = h.replies in omega arith;
  marked = let e = h.marked in simp length-drop (omega arith);
  initial = h.initial;
}

-- ---- queue and finish

-- where a call is not refused, the stream is as it needs it
pub fits_of : (needs : Stream → Bool) (s : State) (n : ℕ) → refusal needs s n ≡ None → on_open s.streams n needs ≡ true
unfolding refusal
fits_of needs s n h = by_failed s.failed (on_open s.streams n needs) h
  where
    by_failed : (o : Option ℕ) (b : Bool) → refused_where o b ≡ None → b ≡ true
    by_failed (Some code) b e = absurd cc
    by_failed None true e = refl
    by_failed None false e = absurd cc

pub fits_queue : (s : State) (n : ℕ) → queue_refusal s n ≡ None → refusal takes_more s n ≡ None
unfolding queue_refusal
fits_queue s n h = by_refusal (refusal takes_more s n) h
  where
    by_refusal : (o : Option QueueRefusal) → or_full (length (queue_of s n)) o ≡ None → o ≡ None
    by_refusal None e = refl
    by_refusal (Some r) e = absurd cc

pub passes_at : (p : Stream → Bool) (o : Option Stream) (st : Stream) → passes p o ≡ true → o ≡ Some st → (is_open st ≡ true) × (p st ≡ true)
passes_at p None st h e = absurd cc
passes_at p (Some x) st h e = let same : x ≡ st = cc in and_parts (is_open st) (p st) (subst (λ (y : Stream). (is_open y && p y) ≡ true) same h)

-- a stream on which this end's half is opened changes what it sends
pub holds_sending : (n : ℕ) (f : Stream → Stream) (s : State) → on_open s.streams n takes_more ≡ true
    → ((x : Stream) → (f x).number ≡ x.number) → ((x : Stream) → length (f x).text ≡ length x.text) → ((x : Stream) → is_kept x ≡ true → is_kept (f x) ≡ true)
    → ((x : Stream) → x.own_open ≡ true → is_at_rest (f x) ≡ true) → ((x : Stream) → HasSum x → HasSum (f x)) → ((x : Stream) → HasRoom x → HasRoom (f x)) → ((x : Stream) → IsHigh s.initial x → IsHigh s.initial (f x))
    → Holds s → Holds (record s { streams = change s.streams n f })
holds_sending n f s opened number text kept rest sum room high h = record {
  rising = rising_change _ _ _ n f number h.rising;
  numbers = h.numbers;
  parity = h.parity;
  kept = all_change (λ x. is_kept x ≡ true) _ n f (λ x e p. kept x p) h.kept;
  rest = all_change (λ x. is_at_rest x ≡ true) _ n f (λ x e p. let q = passes_at takes_more (stream_at s.streams n) x opened e in rest x (and_parts x.own_open _ q.1).0) h.rest;
  sums = all_change HasSum _ n f (λ x e p. sum x p) h.sums;
  sum = let e = text_kept s.streams n f text in rw e h.sum;
  room = h.room;
  rooms = all_change HasRoom _ n f (λ x e p. room x p) h.rooms;
  high = all_change (IsHigh s.initial) _ n f (λ x e p. high x p) h.high;
  block = h.block;
  replies = h.replies;
  marked = h.marked;
  initial = h.initial;
}

pub holds_queue : (n : ℕ) (bytes : List ℕ) (s : State) → queue_refusal s n ≡ None → Holds s → Holds (record s { streams = change s.streams n (with_queued bytes) })
holds_queue n bytes s fits h = holds_sending n (with_queued bytes) s (fits_of takes_more s n (fits_queue s n fits)) (λ x. refl) (λ x. refl) (λ x p. p) (λ x o. or_left x.own_open _ o) (λ x p. p) (λ x p. p) (λ x p. p) h

pub holds_finish : (n : ℕ) (trailers : List Field) (s : State) → refusal takes_more s n ≡ None → Holds s → Holds (record s { streams = change s.streams n (with_finish trailers) })
holds_finish n trailers s fits h = holds_sending n (with_finish trailers) s (fits_of takes_more s n fits) (λ x. refl) (λ x. refl) (λ x p. p) (λ x o. or_left x.own_open _ o) (λ x p. p) (λ x p. p) (λ x p. p) h

-- ---- reset

pub holds_after_reset : (n code : ℕ) (s : State) → Holds s → Holds (after_reset n code s)
unfolding after_reset
holds_after_reset n code s h = holds_reply _ _ (holds_gentle n shut s shut_is_gentle h)

rising_top : (low high : ℕ) (ss : List Stream) → Rising low high ss → low ≤ high
unfolding Rising
rising_top low high [] r = r
rising_top low high (x ∷ ss) r = let rest = rising_top x.number high ss r.2 in omega (arith, r.0)

rising_bound : (low high : ℕ) (ss : List Stream) (n : ℕ) (st : Stream) → Rising low high ss → stream_at ss n ≡ Some st → n ≤ high
unfolding Rising stream_at
rising_bound low high [] n st r e = absurd cc
rising_bound low high (x ∷ ss) n st r e = by_test (eqb x.number n) refl e (rising_bound x.number high ss n st r.2) (rising_top x.number high ss r.2)
  where
    by_test : (b : Bool) → eqb x.number n ≡ b → cond b (Some x) (stream_at ss n) ≡ Some st → (stream_at ss n ≡ Some st → n ≤ high) → x.number ≤ high → n ≤ high
    by_test true t h rest top = let same = eqb-true x.number n t in omega arith
    by_test false t h rest top = rest h

-- the number of an open stream has 31 bits
pub number_fits : (needs : Stream → Bool) (s : State) (n : ℕ) → Holds s → on_open s.streams n needs ≡ true → n < 2147483648
number_fits needs s n h opened = by_stream (stream_at s.streams n) refl opened
  where
    by_stream : (o : Option Stream) → stream_at s.streams n ≡ o → passes needs o ≡ true → n < 2147483648
    by_stream None e p = absurd cc
    by_stream (Some st) e p = let le = rising_bound 0 s.opened s.streams n st h.rising e in let top = h.numbers in omega arith

-- ---- a stream that is as it was, and what waits on all

pub with_same : (ss : List Stream) (n : ℕ) (st : Stream) → stream_at ss n ≡ Some st → with_stream ss n st ≡ ss
unfolding stream_at with_stream
with_same [] n st e = absurd cc
with_same (x ∷ ss) n st e = by_test (eqb x.number n) e (with_same ss n st)
  where
    by_test : (b : Bool) → cond b (Some x) (stream_at ss n) ≡ Some st → (stream_at ss n ≡ Some st → with_stream ss n st ≡ ss) → cond b (st ∷ ss) (x ∷ with_stream ss n st) ≡ x ∷ ss
    by_test true h rest = let same : st ≡ x = cc in ap (λ (y : Stream). y ∷ ss) same
    by_test false h rest = ap (λ l. x ∷ l) (rest h)

pub unsent_step : (ss : List Stream) (i : ℕ) (x : Stream) → i < length ss → x ≡ get_or ss i x → unsent (drop i ss) ≡ length x.queue + unsent (drop (i + 1) ss)
unfolding unsent
unsent_step ss i x lt is =
    let cut : drop i ss ≡ get_or ss i x ∷ drop (i + 1) ss = drop_more ss i x lt in
    ap unsent cut ∙ ap (λ (y : Stream). length y.queue + unsent (drop (i + 1) ss)) (sym is)

pub unsent_done : (ss : List Stream) (i : ℕ) → length ss ≤ i → unsent (drop i ss) ≡ 0
unfolding unsent
unsent_done ss i le = ap unsent (drop_all i ss le)

pub unsent_next : (ss : List Stream) (i count len next total : ℕ) (x : Stream) → i < length ss → x ≡ get_or ss i x → len ≡ length x.queue → next ≡ min (count + len) 18446744073709551615
    → min (count + unsent (drop i ss)) 18446744073709551615 ≡ total → min (next + unsent (drop (i + 1) ss)) 18446744073709551615 ≡ total
unsent_next ss i count len next total x lt is long more same = let e = unsent_step ss i x lt is in omega arith

pub unsent_whole : (ss : List Stream) (i count total : ℕ) → length ss ≤ i → count ≤ 18446744073709551615 → min (count + unsent (drop i ss)) 18446744073709551615 ≡ total → count ≡ total
unsent_whole ss i count total le small same = let e = unsent_done ss i le in omega arith
