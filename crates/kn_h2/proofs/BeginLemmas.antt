-- What holds goes on to hold where this end begins a stream.
use Rattle.std.proofs.Common.{◌≡◌, ℕ, ◌+◌, ◌<◌, ◌≤◌, ◌%◌, Bool, true, false, ◌||◌, cond, eqb, ltb, List, [], ◌∷◌, ◌++◌, length, Option, Some, None, refl, ap, arith}
use Rattle.std.proofs.lemmas.Int.{ints}
use Rattle.std.proofs.lemmas.Bool.{eqb-true, eq-eqb, or_right, ltb-false}
use Rattle.kn_hpack.specs.Fields.{Field}
use Rattle.kn_hpack.specs.Encoding.{block_of}
use Rattle.kn_h2_state.specs.declared.refusal.BeginRefusal.TheVariants as begins
use Rattle.kn_h2_state.specs.declared.stream.Stream.{Stream}
use Rattle.kn_h2_state.specs.declared.state.State.{State}
use Rattle.kn_h2_state.specs.Limits.{highest_stream}
use Rattle.kn_h2_state.specs.Streams.{is_kept, open_count}
use Rattle.kn_h2_state.specs.Effects.{new_stream}
use Rattle.kn_h2_state.specs.Moves.{headers_frames}
use Rattle.kn_h2_state.specs.Calls.{is_many, next_number, begin_refused, begin_refusal, after_begin}
use Rattle.kn_h2_state.specs.Holding.{Holds, HasSum, HasRoom, IsHigh, is_at_rest, is_odd_or_none, text_bytes}
use Rattle.kn_h2.proofs.StreamLemmas.{all_push, rising_push}
use Rattle.kn_h2.proofs.HoldsLemmas.{marked_put, replies_same}

-- a number that is none or odd, and the one that follows
pub next_above : (n : ℕ) → is_odd_or_none n ≡ true → (n < cond (eqb n 0) 1 (n + 2)) × (cond (eqb n 0) 1 (n + 2) % 2 ≡ 1)
next_above n odd = by_test (eqb n 0) refl odd
  where
    by_test : (b : Bool) → eqb n 0 ≡ b → (b || eqb (n % 2) 1) ≡ true → (n < cond b 1 (n + 2)) × (cond b 1 (n + 2) % 2 ≡ 1)
    by_test true e h = let is : n ≡ 0 = eqb-true _ _ e in (omega arith, refl)
    by_test false e h = let one : n % 2 ≡ 1 = eqb-true _ _ h in (omega arith, omega arith)

no_text_more : (ss : List Stream) (s : Stream) → length s.text ≡ 0 → text_bytes (ss ++ s ∷ []) ≡ text_bytes ss
unfolding text_bytes
no_text_more [] s e = omega arith
no_text_more (x ∷ ss) s e = ap (λ k. length x.text + k) (no_text_more ss s e)

pub holds_begin : (fields : List Field) (s : State) → next_number s ≤ highest_stream → Holds s → Holds (after_begin fields s)
unfolding after_begin
holds_begin fields s fits h =
    let n = next_number s in
    let new = new_stream n s in
    let next = next_above s.opened h.parity in
    record {
      rising = rising_push 0 s.opened s.streams new h.rising next.0 next.1;
      numbers = fits;
      parity = or_right (eqb n 0) _ (eq-eqb _ _ next.1);
      kept = all_push (λ x. is_kept x ≡ true) s.streams new h.kept refl;
      rest = all_push (λ x. is_at_rest x ≡ true) s.streams new h.rest refl;
      sums = all_push HasSum s.streams new h.sums refl;
      sum = rw (no_text_more s.streams new refl) h.sum;
      room = h.room;
      rooms = all_push HasRoom s.streams new h.rooms (omega (arith, ints));
      high = all_push (IsHigh s.initial) s.streams new h.high (λ q. omega (arith, ints));
      block = h.block;
      replies = rw (replies_same s.out (headers_frames n 0 (block_of s.encoder fields))) h.replies;
      marked = marked_put s.out false (headers_frames n 0 (block_of s.encoder fields)) h.marked;
      initial = h.initial;
    }

-- where a stream is begun, its number fits
pub number_of_begin : (s : State) → begin_refusal s ≡ None → next_number s ≤ highest_stream
unfolding begin_refusal
number_of_begin s e = of_failed s.failed e
  where
    of_failed : (o : Option ℕ) → begin_refused s o ≡ None → next_number s ≤ highest_stream
    of_failed (Some code) h = absurd cc
    of_failed None h = of_away s.away h
      where
        of_away : (b : Bool) → cond b (Some begins.Away) (cond (is_many s.most (open_count s.streams)) (Some begins.Many) (cond (ltb highest_stream (next_number s)) (Some begins.Numbers) None)) ≡ None → next_number s ≤ highest_stream
        of_away true k = absurd cc
        of_away false k = of_many (is_many s.most (open_count s.streams)) k
          where
            of_many : (b : Bool) → cond b (Some begins.Many) (cond (ltb highest_stream (next_number s)) (Some begins.Numbers) None) ≡ None → next_number s ≤ highest_stream
            of_many true l = absurd cc
            of_many false l = of_number (ltb highest_stream (next_number s)) refl l
              where
                of_number : (b : Bool) → ltb highest_stream (next_number s) ≡ b → cond b (Some begins.Numbers) None ≡ None → next_number s ≤ highest_stream
                of_number true t p = absurd cc
                of_number false t p = ltb-false highest_stream (next_number s) t
