-- Steps of this end make no queue longer, but for bytes that are queued on the very stream.
use Rattle.std.proofs.Common.{ℕ, true, not, List, Option, Some, None, refl, sym, subst, arith}
use Rattle.std.proofs.lemmas.List.{length-drop}
use Rattle.kn_hpack.specs.Fields.{Field}
use Rattle.kn_hpack.specs.Encoding.{block_of}
use Rattle.kn_h2_state.specs.declared.moves.Move.{Move}
use Rattle.kn_h2_state.specs.declared.moves.Move.TheVariants.{GrantAll, Grant, Send, End, Stop}
use Rattle.kn_h2_state.specs.declared.stream.Stream.{Stream}
use Rattle.kn_h2_state.specs.declared.state.State.{State}
use Rattle.kn_h2_state.specs.Streams.{stream_at, change, is_kept, shut}
use Rattle.kn_h2_state.specs.Payloads.{reset_frame}
use Rattle.kn_h2_state.specs.Rules.{is_client}
use Rattle.kn_h2_state.specs.Effects.{reply, on_stream}
use Rattle.kn_h2_state.specs.Moves.{headers_frames, granted, sent_some, own_ended, stopped, made, target, after_move}
use Rattle.kn_h2_state.specs.Calls.{with_taken, with_queued, with_finish, after_take, after_queue, after_finish, after_answer, after_reset}
use Rattle.kn_h2_state.proofs.OtherLaws.{reply_streams}
use Rattle.kn_stream_order.specs.Order.{IsShortAt, OwnStepsKeep}
use Rattle.kn_stream_order.proofs.QueueLemmas.{Shortens, short_change, short_filter, short_queued, short_other}
use Rattle.kn_stream_order.proofs.OrderLemmas.{shut_shortens, keeps_shortens}

short_on : (n most m : ℕ) (f : Stream → Stream) (s : State) → Shortens f → IsShortAt n most s.streams → IsShortAt n most (on_stream m f s).streams
short_on n most m f s k h = short_filter n most is_kept (change s.streams m f) (short_change n most s.streams m f k h)

-- a reply changes no stream
short_reply : (n most : ℕ) (frame : List ℕ) (t : State) → IsShortAt n most t.streams → IsShortAt n most (reply frame t).streams
short_reply n most frame t h = subst (λ ss. IsShortAt n most ss) (sym (reply_streams frame t)) h

taken_shortens : (count : ℕ) → Shortens (with_taken count)
taken_shortens count = keeps_shortens (with_taken count) (λ st. refl) (λ st. refl)

sent_shortens : (count : ℕ) → Shortens (sent_some count)
sent_shortens count = record { number = λ st. refl; queue = λ st. omega (arith, length-drop count st.queue) }

short_take : (n most m count : ℕ) (s : State) → IsShortAt n most s.streams → IsShortAt n most (after_take m count s).streams
unfolding after_take
short_take n most m count s h = short_on n most m (with_taken count) s (taken_shortens count) h

short_finish : (n most m : ℕ) (trailers : List Field) (s : State) → IsShortAt n most s.streams → IsShortAt n most (after_finish m trailers s).streams
unfolding after_finish
short_finish n most m trailers s h = short_change n most s.streams m (with_finish trailers) (keeps_shortens (with_finish trailers) (λ st. refl) (λ st. refl)) h

short_answer : (n most m : ℕ) (fields : List Field) (s : State) → IsShortAt n most s.streams → IsShortAt n most (after_answer m fields s).streams
unfolding after_answer
short_answer n most m fields s h =
    let answers : Stream → Stream = λ st. record st { answered = true } in
    short_reply n most (headers_frames m 0 (block_of s.encoder fields)) (record s { streams = change s.streams m answers; encoder = true })
    (short_change n most s.streams m answers (keeps_shortens answers (λ st. refl) (λ st. refl)) h)

short_reset : (n most m code : ℕ) (s : State) → IsShortAt n most s.streams → IsShortAt n most (after_reset m code s).streams
unfolding after_reset
short_reset n most m code s h = short_reply n most (reset_frame m code) (on_stream m shut s) (short_on n most m shut s shut_shortens h)

short_move : (n most : ℕ) (m : Move) (s : State) → IsShortAt n most s.streams → IsShortAt n most (after_move s m).streams
unfolding after_move
short_move n most m s h = by_move m (stream_at s.streams (target m))
  where
    by_move : (k : Move) (o : Option Stream) → IsShortAt n most (made s k o).streams
    by_move GrantAll o = h
    by_move (Grant k) None = h
    by_move (Grant k) (Some st) = short_change n most s.streams k granted (keeps_shortens granted (λ x. refl) (λ x. refl)) h
    by_move (Send k count) None = h
    by_move (Send k count) (Some st) = short_change n most s.streams k (sent_some count) (sent_shortens count) h
    by_move (End k) None = h
    by_move (End k) (Some st) = short_on n most k (own_ended (not (is_client s.role))) s (keeps_shortens (own_ended (not (is_client s.role))) (λ x. refl) (λ x. refl)) h
    by_move (Stop k) None = h
    by_move (Stop k) (Some st) = short_on n most k stopped s (keeps_shortens stopped (λ x. refl) (λ x. refl)) h

pub own_keep : (s : State) (n most : ℕ) → IsShortAt n most s.streams → OwnStepsKeep s n most
unfolding after_queue
own_keep s n most h = record {
  take = λ m count. short_take n most m count s h;
  finish = λ m trailers. short_finish n most m trailers s h;
  answer = λ m fields. short_answer n most m fields s h;
  reset = λ m code. short_reset n most m code s h;
  move = λ m. short_move n most m s h;
  queue = λ bytes. short_queued n most n bytes s.streams h;
  other = λ m bytes differs. short_other n most m (with_queued bytes) s.streams (λ st. refl) differs h;
}
