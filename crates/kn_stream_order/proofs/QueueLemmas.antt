-- How many bytes are queued, through changes of the streams.
use Rattle.std.proofs.Common.{◌≡◌, ℕ, ◌≤◌, ◌+◌, Bool, true, false, cond, eqb, List, [], ◌∷◌, ◌++◌, length, map, filter, Some, refl, sym, ◌∙◌, arith}
use Rattle.std.proofs.lemmas.List.{length-append}
use Rattle.std.proofs.lemmas.Bool.{eqb-true}
use Rattle.kn_h2_state.specs.declared.stream.Stream.{Stream}
use Rattle.kn_h2_state.specs.Streams.{stream_at, change}
use Rattle.kn_h2_state.specs.Calls.{with_queued, queue_in}
use Rattle.kn_stream_order.specs.Order.{IsShortAt}

-- a change keeps the number of a stream, and makes its queue no longer
pub record Shortens (f : Stream → Stream) : Type 0 where
  pub number : (st : Stream) → (f st).number ≡ st.number
  pub queue : (st : Stream) → length (f st).queue ≤ length st.queue

short_one : (n most : ℕ) (f : Stream → Stream) (st : Stream) → Shortens f → (st.number ≡ n → length st.queue ≤ most) → ((f st).number ≡ n → length (f st).queue ≤ most)
short_one n most f st s h = λ is. let k : st.number ≡ n = sym (s.number st) ∙ is in omega (arith, s.queue st, h k)

pub short_change : (n most : ℕ) (ss : List Stream) (k : ℕ) (f : Stream → Stream) → Shortens f → IsShortAt n most ss → IsShortAt n most (change ss k f)
unfolding change
short_change n most [] k f s h = tt
short_change n most (st ∷ ss) k f s h = change_here (eqb st.number k) (short_change n most ss k f s h.1)
  where
    change_here : (b : Bool) → IsShortAt n most (change ss k f) → IsShortAt n most (cond b (f st ∷ ss) (st ∷ change ss k f))
    change_here true later = (short_one n most f st s h.0, h.1)
    change_here false later = (h.0, later)

pub short_filter : (n most : ℕ) (p : Stream → Bool) (ss : List Stream) → IsShortAt n most ss → IsShortAt n most (filter p ss)
short_filter n most p [] h = tt
short_filter n most p (st ∷ ss) h = filter_here (p st) (short_filter n most p ss h.1)
  where
    filter_here : (b : Bool) → IsShortAt n most (filter p ss) → IsShortAt n most (cond b (st ∷ filter p ss) (filter p ss))
    filter_here true later = (h.0, later)
    filter_here false later = later

pub short_map : (n most : ℕ) (f : Stream → Stream) (ss : List Stream) → Shortens f → IsShortAt n most ss → IsShortAt n most (map f ss)
short_map n most f [] s h = tt
short_map n most f (st ∷ ss) s h = (short_one n most f st s h.0, short_map n most f ss s h.1)

pub short_push : (n most : ℕ) (ss : List Stream) (w : Stream) → length w.queue ≡ 0 → IsShortAt n most ss → IsShortAt n most (ss ++ w ∷ [])
short_push n most [] w none h = (λ is. omega (arith, none), tt)
short_push n most (st ∷ ss) w none h = (h.0, short_push n most ss w none h.1)

pub short_more : (n most more : ℕ) (ss : List Stream) → most ≤ more → IsShortAt n most ss → IsShortAt n more ss
short_more n most more [] le h = tt
short_more n most more (st ∷ ss) le h = (λ is. omega (arith, h.0 is, le), short_more n most more ss le h.1)

-- bytes are queued
pub short_queued : (n most k : ℕ) (bytes : List ℕ) (ss : List Stream) → IsShortAt n most ss → IsShortAt n (most + length bytes) (change ss k (with_queued bytes))
unfolding change
short_queued n most k bytes [] h = tt
short_queued n most k bytes (st ∷ ss) h = queued_here (eqb st.number k) (short_queued n most k bytes ss h.1)
  where
    le : most ≤ most + length bytes
    le = omega arith

    queued_here : (b : Bool) → IsShortAt n (most + length bytes) (change ss k (with_queued bytes)) → IsShortAt n (most + length bytes) (cond b (with_queued bytes st ∷ ss) (st ∷ change ss k (with_queued bytes)))
    queued_here true later = (λ is. omega (arith, length-append st.queue bytes, h.0 is), short_more n most (most + length bytes) ss le h.1)
    queued_here false later = (λ is. omega (arith, h.0 is), later)

-- another stream is left alone
pub short_other : (n most k : ℕ) (f : Stream → Stream) (ss : List Stream) → ((st : Stream) → (f st).number ≡ st.number) → (k ≡ n → ⊥) → IsShortAt n most ss → IsShortAt n most (change ss k f)
unfolding change
short_other n most k f [] same other h = tt
short_other n most k f (st ∷ ss) same other h = other_here (eqb st.number k) refl (short_other n most k f ss same other h.1)
  where
    other_here : (b : Bool) → eqb st.number k ≡ b → IsShortAt n most (change ss k f) → IsShortAt n most (cond b (f st ∷ ss) (st ∷ change ss k f))
    other_here true is later = (λ e. absurd (other (sym (eqb-true st.number k is) ∙ sym (same st) ∙ e)), h.1)
    other_here false is later = (h.0, later)

-- the first of the number is one of them
pub short_at : (n most : ℕ) (ss : List Stream) → IsShortAt n most ss → length (queue_in (stream_at ss n)) ≤ most
unfolding stream_at
short_at n most [] h = omega arith
short_at n most (st ∷ ss) h = at_here (eqb st.number n) refl (short_at n most ss h.1)
  where
    at_here : (b : Bool) → eqb st.number n ≡ b → length (queue_in (stream_at ss n)) ≤ most → length (queue_in (cond b (Some st) (stream_at ss n))) ≤ most
    at_here true is later = h.0 (eqb-true st.number n is)
    at_here false is later = later
