-- What holds goes on to hold where this end answers a request.
use Rattle.std.proofs.Common.{◌≡◌, ℕ, ◌<◌, Bool, true, false, List, Option, Some, None, refl}
use Rattle.kn_hpack.specs.Fields.{Field}
use Rattle.kn_hpack.specs.Encoding.{block_of}
use Rattle.kn_h2_state.specs.declared.stream.Stream.{Stream}
use Rattle.kn_h2_state.specs.declared.state.State.{State}
use Rattle.kn_h2_state.specs.Streams.{change, is_kept, on_open}
use Rattle.kn_h2_state.specs.Moves.{headers_frames}
use Rattle.kn_h2_state.specs.Calls.{refused_where, refusal, after_answer}
use Rattle.kn_h2_state.specs.Holding.{Holds, HasSum, HasRoom, IsHigh, is_at_rest}
use Rattle.kn_h2.proofs.StreamLemmas.{all_change, rising_change, text_kept}
use Rattle.kn_h2.proofs.HoldsLemmas.{holds_reply}
use Rattle.kn_h2.proofs.FoundLemmas.{found_open}
use Rattle.kn_h2.proofs.MakeLemmas.{number_fits}

holds_answered : (n : ℕ) (s : State) → Holds s → Holds (record s { streams = change s.streams n (λ (st : Stream). record st { answered = true }); encoder = true })
holds_answered n s h =
    let f = λ (st : Stream). record st { answered = true } in
    record {
      rising = rising_change 0 s.opened s.streams n f (λ _. refl) h.rising;
      numbers = h.numbers;
      parity = h.parity;
      kept = all_change (λ x. is_kept x ≡ true) s.streams n f (λ _ _ k. k) h.kept;
      rest = all_change (λ x. is_at_rest x ≡ true) s.streams n f (λ _ _ k. k) h.rest;
      sums = all_change HasSum s.streams n f (λ _ _ e. e) h.sums;
      sum = rw (text_kept s.streams n f (λ _. refl)) h.sum;
      room = h.room;
      rooms = all_change HasRoom s.streams n f (λ _ _ e. e) h.rooms;
      high = all_change (IsHigh s.initial) s.streams n f (λ _ _ e. e) h.high;
      block = h.block;
      replies = h.replies;
      marked = h.marked;
      initial = h.initial;
    }

pub holds_answer : (n : ℕ) (fields : List Field) (s : State) → Holds s → Holds (after_answer n fields s)
unfolding after_answer
holds_answer n fields s h = holds_reply (headers_frames n 0 (block_of s.encoder fields)) _ (holds_answered n s h)

-- a call that is not refused has a stream, whose number fits
pub number_of_call : (s : State) (n : ℕ) (needs : Stream → Bool) → refusal needs s n ≡ None → Holds s → n < 2147483648
unfolding refusal
number_of_call s n needs e h = of_failed s.failed (on_open s.streams n needs) refl e
  where
    of_failed : (o : Option ℕ) (b : Bool) → on_open s.streams n needs ≡ b → refused_where o b ≡ None → n < 2147483648
    of_failed (Some code) b t k = absurd cc
    of_failed None false t k = absurd cc
    of_failed None true t k =
        let here = found_open s.streams n needs t in
        number_fits s n here.0 h here.1.found
