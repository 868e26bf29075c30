-- What a call does to its own stream, and that it leaves all text but what is taken.
use Rattle.std.proofs.Common.{◌≡◌, ℕ, ◌<◌, Bool, true, false, ◌&&◌, ◌||◌, cond, eqb, List, [], ◌∷◌, ◌++◌, length, drop, Option, Some, None, is_none, refl, sym, ap, ◌∙◌, arith}
use Rattle.std.proofs.lemmas.List.{nil_from_length, drop_all}
use Rattle.std.proofs.lemmas.Bool.{eqb-true, and_parts, and_left, or_parts, eq-eqb}
use Rattle.kn_hpack.specs.Fields.{Field}
use Rattle.kn_hpack.specs.Encoding.{block_of}
use Rattle.kn_h2_state.specs.declared.stream.Stream.{Stream}
use Rattle.kn_h2_state.specs.declared.state.State.{State}
use Rattle.kn_h2_state.specs.Streams.{stream_at, change, is_open, is_kept, tidied, passes, shut}
use Rattle.kn_h2_state.specs.Payloads.{reset_frame}
use Rattle.kn_h2_state.specs.Effects.{on_stream, new_stream}
use Rattle.kn_h2_state.specs.Moves.{headers_frames}
use Rattle.kn_h2_state.specs.Calls.{text_in, text_of, queue_in, queue_of, takes_more, refusal, with_taken, with_queued, with_finish, next_number, after_take, after_begin, after_queue, after_finish, after_answer, after_reset}
use Rattle.kn_h2_state.specs.Holding.{is_at_rest, Holds}
use Rattle.kn_h2_state.proofs.OtherLaws.{reply_streams}
use Rattle.kn_h2_state.proofs.SeenLemmas.{KeepsNumber, text_change, text_push, text_tidied}
use Rattle.kn_h2_state.proofs.BorneLemmas.{rises, climbing, rises_change, at_tidied}
use Rattle.kn_h2.proofs.BeginLemmas.{next_above}
use Rattle.kn_h2.proofs.CallBounds.{fits_of}
use Rattle.kn_h2.proofs.StreamLemmas.{all_at}
use Rattle.kn_h2_courses.specs.OwnCalls.{takes, Waits, CallsChangeTheirStream, CallsLeaveText}
use Rattle.kn_h2_courses.proofs.StreamSteps.{none_there, on_there}

-- ---- the stream that is changed

abbrev mapped : (Stream → Stream) → Option Stream → Option Stream
mapped f None = None
mapped f (Some st) = Some (f st)

at_own : (ss : List Stream) (n : ℕ) (f : Stream → Stream) → KeepsNumber f → stream_at (change ss n f) n ≡ mapped f (stream_at ss n)
unfolding stream_at change
at_own [] n f keeps = refl
at_own (x ∷ ss) n f keeps = by_test (eqb x.number n) refl (at_own ss n f keeps)
  where
    by_test : (b : Bool) → eqb x.number n ≡ b → stream_at (change ss n f) n ≡ mapped f (stream_at ss n)
        → stream_at (cond b (f x ∷ ss) (x ∷ change ss n f)) n ≡ mapped f (cond b (Some x) (stream_at ss n))
    by_test true t rest = ap (λ (j : ℕ). cond (eqb j n) (Some (f x)) (stream_at ss n)) (keeps x) ∙ ap (λ (b : Bool). cond b (Some (f x)) (stream_at ss n)) t
    by_test false t rest = ap (λ (b : Bool). cond b (Some x) (stream_at (change ss n f) n)) t ∙ rest

at_new : (ss : List Stream) (n : ℕ) (w : Stream) → w.number ≡ n → stream_at ss n ≡ None → stream_at (ss ++ w ∷ []) n ≡ Some w
unfolding stream_at
at_new [] n w is e = ap (λ (b : Bool). cond b (Some w) None) (eq-eqb w.number n is)
at_new (x ∷ ss) n w is e = by_test (eqb x.number n) (at_new ss n w is) e
  where
    by_test : (b : Bool) → (stream_at ss n ≡ None → stream_at (ss ++ w ∷ []) n ≡ Some w) → cond b (Some x) (stream_at ss n) ≡ None → cond b (Some x) (stream_at (ss ++ w ∷ []) n) ≡ Some w
    by_test true rest h = absurd cc
    by_test false rest h = rest h

-- what waits on a stream, and whether it takes more
abbrev Is : Option Stream → List ℕ → Bool → Type 0
Is o bytes more = (queue_in o ≡ bytes) × (passes takes_more o ≡ more)

-- where the own half has ended nothing waits
rests : (st : Stream) → st.own_open ≡ false → is_at_rest st ≡ true → st.queue ≡ []
rests st own rest =
    let waits : (eqb (length st.queue) 0 && is_none st.finish) ≡ true = ap (λ (b : Bool). b || (eqb (length st.queue) 0 && is_none st.finish)) (sym own) ∙ rest in
    nil_from_length st.queue (eqb-true (length st.queue) 0 (and_parts (eqb (length st.queue) 0) (is_none st.finish) waits).0)

-- the same of a stream that is at rest where its own half has ended
abbrev IsResting : List ℕ → Bool → Option Stream → Type 0
IsResting bytes more None = ([] ≡ bytes) × (false ≡ more)
IsResting bytes more (Some st) = (st.queue ≡ bytes) × (passes takes_more (Some st) ≡ more) × (is_at_rest st ≡ true)

resting_gone : (bytes : List ℕ) (more : Bool) (st : Stream) → is_kept st ≡ false → IsResting bytes more (Some st) → IsResting bytes more None
resting_gone bytes more st gone h =
    let closed : is_open st ≡ false = (or_parts (is_open st) _ gone).0 in
    let own : st.own_open ≡ false = (or_parts st.peer_open st.own_open closed).1 in
    (sym (rests st own h.2) ∙ h.0, sym (and_left (is_open st) (takes_more st) closed) ∙ h.1)

resting_start : (s : State) (n : ℕ) → Holds s → IsResting (queue_of s n) (takes s n) (stream_at s.streams n)
resting_start s n h = by_stream (stream_at s.streams n) refl
  where
    by_stream : (o : Option Stream) → stream_at s.streams n ≡ o → IsResting (queue_in o) (passes takes_more o) o
    by_stream None e = (refl, refl)
    by_stream (Some st) e = (refl, refl, all_at (λ (x : Stream). is_at_rest x ≡ true) s.streams n st h.rest e)

resting_is : (bytes : List ℕ) (more : Bool) (o : Option Stream) → IsResting bytes more o → Is o bytes more
resting_is bytes more None h = h
resting_is bytes more (Some st) h = (h.0, h.1)

-- ---- what waits

-- `queue`
queue_waits : (s : State) (n : ℕ) (bytes : List ℕ) → refusal takes_more s n ≡ None → Waits (after_queue n bytes s) n (queue_of s n ++ bytes) true
unfolding after_queue
queue_waits s n bytes ok =
    let own = at_own s.streams n (with_queued bytes) (λ x. refl) in
    let is = by_stream (stream_at s.streams n) (fits_of takes_more s n ok) in
    (ap queue_in own ∙ is.0, ap (passes takes_more) own ∙ is.1)
  where
    by_stream : (o : Option Stream) → passes takes_more o ≡ true → Is (mapped (with_queued bytes) o) (queue_in o ++ bytes) true
    by_stream None e = absurd cc
    by_stream (Some st) e = (refl, e)

-- `finish`
finish_waits : (s : State) (n : ℕ) (trailers : List Field) → Waits (after_finish n trailers s) n (queue_of s n) false
unfolding after_finish
finish_waits s n trailers =
    let own = at_own s.streams n (with_finish trailers) (λ x. refl) in
    let is = by_stream (stream_at s.streams n) in
    (ap queue_in own ∙ is.0, ap (passes takes_more) own ∙ is.1)
  where
    none : (a b : Bool) → (a && (b && false)) ≡ false
    none true true = refl
    none true false = refl
    none false b = refl

    by_stream : (o : Option Stream) → Is (mapped (with_finish trailers) o) (queue_in o) false
    by_stream None = (refl, refl)
    by_stream (Some st) = (refl, none (is_open st) st.own_open)

-- `reset`
reset_waits : (s : State) (n code : ℕ) → Holds s → Waits (after_reset n code s) n [] false
unfolding after_reset
reset_waits s n code h =
    let streams = reply_streams (reset_frame n code) (on_stream n shut s) in
    (ap (λ (ss : List Stream). queue_in (stream_at ss n)) streams ∙ after.0, ap (λ (ss : List Stream). passes takes_more (stream_at ss n)) streams ∙ after.1)
  where
    by_stream : (o : Option Stream) → Is (mapped shut o) [] false
    by_stream None = (refl, refl)
    by_stream (Some st) = (refl, refl)

    own : stream_at (change s.streams n shut) n ≡ mapped shut (stream_at s.streams n)
    own = at_own s.streams n shut (λ x. refl)

    changed : Is (stream_at (change s.streams n shut) n) [] false
    changed = (ap queue_in own ∙ (by_stream (stream_at s.streams n)).0, ap (passes takes_more) own ∙ (by_stream (stream_at s.streams n)).1)

    after : Is (stream_at (tidied (change s.streams n shut)) n) [] false
    after = at_tidied (λ o. Is o [] false) 0 n (change s.streams n shut) (λ st gone q. (refl, refl))
        (climbing 0 s.opened (change s.streams n shut) (rises_change 0 s.opened s.streams n shut (λ x. refl) (rises 0 s.opened s.streams h.rising))) changed

-- `answer`
answer_waits : (s : State) (n : ℕ) (fields : List Field) → Waits (after_answer n fields s) n (queue_of s n) (takes s n)
unfolding after_answer
answer_waits s n fields =
    let streams = reply_streams (headers_frames n 0 (block_of s.encoder fields)) (record s { streams = change s.streams n answered; encoder = true }) in
    let own = at_own s.streams n answered (λ x. refl) in
    let is = by_stream (stream_at s.streams n) in (
      ap (λ (ss : List Stream). queue_in (stream_at ss n)) streams ∙ ap queue_in own ∙ is.0,
      ap (λ (ss : List Stream). passes takes_more (stream_at ss n)) streams ∙ ap (passes takes_more) own ∙ is.1,
    )
  where
    answered : Stream → Stream
    answered st = record st { answered = true }

    by_stream : (o : Option Stream) → Is (mapped answered o) (queue_in o) (passes takes_more o)
    by_stream None = (refl, refl)
    by_stream (Some st) = (refl, refl)

-- `take`
take_waits : (s : State) (n count : ℕ) → Holds s → Waits (after_take n count s) n (queue_of s n) (takes s n)
unfolding after_take
take_waits s n count h =
    resting_is (queue_of s n) (takes s n) (stream_at (on_stream n (with_taken count) s).streams n)
    (on_there (IsResting (queue_of s n) (takes s n)) s n n (with_taken count) h (λ x. refl) (resting_gone (queue_of s n) (takes s n)) (λ st q. q) (resting_start s n h))

-- `begin`
begin_waits : (s : State) (fields : List Field) → Holds s → Waits (after_begin fields s) (next_number s) [] true
unfolding after_begin
begin_waits s fields h =
    let n = next_number s in
    let above : s.opened < n = (next_above s.opened h.parity).0 in
    let new = at_new s.streams n (new_stream n s) refl (none_there s n h above) in
    (ap queue_in new, ap (passes takes_more) new)

pub calls_change_their_stream : CallsChangeTheirStream
calls_change_their_stream s n h = record {
  queue = queue_waits s n;
  finish = finish_waits s n;
  reset = λ code. reset_waits s n code h;
  answer = answer_waits s n;
  take = λ count. take_waits s n count h;
  begin = λ fields. begin_waits s fields h;
}

-- ---- text

text_on : (n m : ℕ) (f : Stream → Stream) (s : State) → Holds s → KeepsNumber f → text_of (on_stream n f s) m ≡ text_in (stream_at (change s.streams n f) m)
text_on n m f s h keeps =
    text_tidied 0 m (change s.streams n f) (climbing 0 s.opened (change s.streams n f) (rises_change 0 s.opened s.streams n f keeps (rises 0 s.opened s.streams h.rising)))

take_text : (s : State) (n count : ℕ) → Holds s → text_of (after_take n count s) n ≡ drop count (text_of s n)
unfolding after_take
take_text s n count h = text_on n n (with_taken count) s h (λ x. refl) ∙ ap text_in (at_own s.streams n (with_taken count) (λ x. refl)) ∙ by_stream (stream_at s.streams n)
  where
    by_stream : (o : Option Stream) → text_in (mapped (with_taken count) o) ≡ drop count (text_in o)
    by_stream None = sym (drop_all count [] (omega arith))
    by_stream (Some st) = refl

queue_text : (s : State) (n m : ℕ) (bytes : List ℕ) → text_of (after_queue n bytes s) m ≡ text_of s m
unfolding after_queue
queue_text s n m bytes = text_change s.streams n m (with_queued bytes) (λ x. refl) (λ x. refl)

finish_text : (s : State) (n m : ℕ) (trailers : List Field) → text_of (after_finish n trailers s) m ≡ text_of s m
unfolding after_finish
finish_text s n m trailers = text_change s.streams n m (with_finish trailers) (λ x. refl) (λ x. refl)

answer_text : (s : State) (n m : ℕ) (fields : List Field) → text_of (after_answer n fields s) m ≡ text_of s m
unfolding after_answer
answer_text s n m fields =
    ap (λ (ss : List Stream). text_in (stream_at ss m)) (reply_streams (headers_frames n 0 (block_of s.encoder fields)) (record s { streams = change s.streams n (λ st. record st { answered = true }); encoder = true }))
    ∙ text_change s.streams n m (λ st. record st { answered = true }) (λ x. refl) (λ x. refl)

reset_text : (s : State) (n m code : ℕ) → Holds s → text_of (after_reset n code s) m ≡ text_of s m
unfolding after_reset
reset_text s n m code h =
    ap (λ (ss : List Stream). text_in (stream_at ss m)) (reply_streams (reset_frame n code) (on_stream n shut s))
    ∙ text_on n m shut s h (λ x. refl) ∙ text_change s.streams n m shut (λ x. refl) (λ x. refl)

begin_text : (s : State) (m : ℕ) (fields : List Field) → text_of (after_begin fields s) m ≡ text_of s m
unfolding after_begin
begin_text s m fields = text_push s.streams m (new_stream (next_number s) s) refl

pub calls_leave_text : CallsLeaveText
calls_leave_text s n m h = record {
  take = λ count. take_text s n count h;
  queue = queue_text s n m;
  finish = finish_text s n m;
  answer = answer_text s n m;
  reset = λ code. reset_text s n m code h;
  begin = begin_text s m;
}
