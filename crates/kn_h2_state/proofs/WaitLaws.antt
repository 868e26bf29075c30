-- Nothing waits to be sent on a stream that a server did not answer.
use Rattle.std.proofs.Common.{◌≡◌, ℕ, ◌+ℤ◌, ◌-ℤ◌, pos, Bool, true, false, not, cond, eqb, ◌&&◌, List, [], ◌∷◌, drop, Option, Some, None, refl, sym, ap, ◌∙◌, subst, arith, if◌then◌else◌}
use Rattle.std.proofs.lemmas.List.{drop_all}
use Rattle.std.proofs.lemmas.Bool.{and_parts}
use Rattle.kn_frames.specs.declared.frame.Frame.{Frame}
use Rattle.kn_hpack.specs.Encoding.{block_of}
use Rattle.kn_h2_state.specs.declared.moves.Move.{Move}
use Rattle.kn_h2_state.specs.declared.moves.Move.TheVariants.{GrantAll, Grant, Send, End, Stop}
use Rattle.kn_h2_state.specs.declared.stream.Stream.{Stream}
use Rattle.kn_h2_state.specs.declared.state.State.{State}
use Rattle.kn_h2_state.specs.Streams.{stream_at, change, is_open, passes, shut}
use Rattle.kn_h2_state.specs.Payloads.{reset_frame}
use Rattle.kn_h2_state.specs.Rules.{is_client}
use Rattle.kn_h2_state.specs.Effects.{reply, on_stream}
use Rattle.kn_h2_state.specs.Feeding.{after_frame, after_piece}
use Rattle.kn_h2_state.specs.Moves.{headers_frames, granted, sent_some, own_ended, stopped, made, target, after_move}
use Rattle.kn_h2_state.specs.Calls.{fresh_state, takes_more, with_taken, with_queued, with_finish, after_take, after_queue, after_finish, after_answer, after_reset, after_took}
use Rattle.kn_h2_state.specs.Waiting.{MayQueue, WaitsForAnswerFirst, WaitsForAnswerStays, PiecesWaitForAnswer}
use Rattle.kn_h2_state.proofs.SeenLemmas.{KeepsNumber}
use Rattle.kn_h2_state.proofs.OtherLaws.{reply_streams}
use Rattle.kn_h2_state.proofs.BorneLemmas.{Rises, rises, climbing, rises_change, at_change, at_tidied, Bears, borne_frame, borne_start}
use Rattle.kn_h2_state.proofs.OwnLaws.{borne_piece}

-- ---- of one stream

abbrev Waits : Option Stream → Type 0
Waits None = Unit {0}
Waits (Some st) = st.answered ≡ false → st.queue ≡ []

-- of all
abbrev AllWait : List Stream → Type 0
AllWait ss = (n : ℕ) (st : Stream) → stream_at ss n ≡ Some st → st.answered ≡ false → st.queue ≡ []

wait_at : (ss : List Stream) → AllWait ss → (n : ℕ) → Waits (stream_at ss n)
wait_at ss all n = by_stream (stream_at ss n) refl
  where
    by_stream : (o : Option Stream) → stream_at ss n ≡ o → Waits o
    by_stream None e = tt
    by_stream (Some st) e = all n st e

all_wait : (ss : List Stream) → ((n : ℕ) → Waits (stream_at ss n)) → AllWait ss
all_wait ss each n st e = subst Waits e (each n)

bears_waits : (n low : ℕ) → Bears false (Unit {0}) Waits n low
bears_waits n low = record {
  gone = λ st e q. tt;
  texts = λ k text st q. q;
  ends = λ st q. q;
  heads = λ e st q. absurd cc;
  shuts = λ p st q e. refl;
  cuts = λ p st q e. refl;
  grants = λ by st q. grant by (is_open st) st q;
  shifts = λ old new st q. shift old new (is_open st) st q;
  fresh = λ m t above same e. refl;
}
  where
    grant : (by : ℕ) (b : Bool) (st : Stream) → Waits (Some st) → Waits (Some (if b then record st { send = st.send +ℤ pos by } else st))
    grant by true st q = q
    grant by false st q = q

    shift : (old new : ℕ) (b : Bool) (st : Stream) → Waits (Some st) → Waits (Some (if b then record st { send = st.send +ℤ (pos new -ℤ pos old) } else st))
    shift old new true st q = q
    shift old new false st q = q

wait_frame : (s : State) (f : Frame) → Rises 0 s.opened s.streams → is_client s.role ≡ false → AllWait s.streams → AllWait (after_frame s f).streams
wait_frame s f r server all =
    all_wait (after_frame s f).streams (λ n. (borne_frame (bears_waits n s.opened) s f server (borne_start {Q = Waits} {n = n} s r (wait_at s.streams all n))).there)

-- ---- of a change

wait_change : (ss : List Stream) (m : ℕ) (f : Stream → Stream) → KeepsNumber f → ((st : Stream) → Waits (Some st) → Waits (Some (f st))) → AllWait ss → AllWait (change ss m f)
wait_change ss m f number step all = all_wait (change ss m f) (λ n. at_change Waits ss m n f number step (wait_at ss all n))

wait_on : (s : State) (m : ℕ) (f : Stream → Stream) → Rises 0 s.opened s.streams → KeepsNumber f → ((st : Stream) → Waits (Some st) → Waits (Some (f st))) → AllWait s.streams
    → AllWait (on_stream m f s).streams
wait_on s m f r number step all =
    all_wait (on_stream m f s).streams (λ n. at_tidied Waits 0 n (change s.streams m f) (λ st e q. tt)
    (climbing 0 s.opened (change s.streams m f) (rises_change 0 s.opened s.streams m f number r)) (at_change Waits s.streams m n f number step (wait_at s.streams all n)))

wait_reply : (frame : List ℕ) (s : State) → AllWait s.streams → AllWait (reply frame s).streams
wait_reply frame s all = subst AllWait (sym (reply_streams frame s)) all

none_left : (count : ℕ) (xs : List ℕ) → xs ≡ [] → drop count xs ≡ []
none_left count xs e = ap (drop count) e ∙ drop_all count [] (omega arith)

wait_move : (s : State) (m : Move) → Rises 0 s.opened s.streams → AllWait s.streams → AllWait (after_move s m).streams
unfolding after_move
wait_move s m r all = by_move m (stream_at s.streams (target m))
  where
    by_move : (k : Move) (x : Option Stream) → AllWait (made s k x).streams
    by_move GrantAll x = all
    by_move (Grant k) None = all
    by_move (Grant k) (Some st) = wait_change s.streams k granted (λ y. refl) (λ y q. q) all
    by_move (Send k count) None = all
    by_move (Send k count) (Some st) = wait_change s.streams k (sent_some count) (λ y. refl) (λ y q e. none_left count y.queue (q e)) all
    by_move (End k) None = all
    by_move (End k) (Some st) = wait_on s k (own_ended (not (is_client s.role))) r (λ y. refl) (λ y q. q) all
    by_move (Stop k) None = all
    by_move (Stop k) (Some st) = wait_on s k stopped r (λ y. refl) (λ y q. q) all

-- ---- a call that knows its stream

at_change_known : (Q : Option Stream → Type 0) (ss : List Stream) (m n : ℕ) (f : Stream → Stream) → KeepsNumber f
    → ((st : Stream) → stream_at ss m ≡ Some st → Q (Some st) → Q (Some (f st))) → Q (stream_at ss n) → Q (stream_at (change ss m f) n)
unfolding stream_at change
at_change_known Q [] m n f keeps step q = q
at_change_known Q (x ∷ ss) m n f keeps step q = by_test (eqb x.number m) (at_change_known Q ss m n f keeps) step q
  where
    at_head : (c : Bool) → (Q (Some x) → Q (Some (f x))) → Q (cond c (Some x) (stream_at ss n)) → Q (cond c (Some (f x)) (stream_at ss n))
    at_head true g h = g h
    at_head false g h = h

    at_tail : (c : Bool) → (Q (stream_at ss n) → Q (stream_at (change ss m f) n)) → Q (cond c (Some x) (stream_at ss n)) → Q (cond c (Some x) (stream_at (change ss m f) n))
    at_tail true rest h = h
    at_tail false rest h = rest h

    by_test : (b : Bool) → (((st : Stream) → stream_at ss m ≡ Some st → Q (Some st) → Q (Some (f st))) → Q (stream_at ss n) → Q (stream_at (change ss m f) n))
        → ((st : Stream) → cond b (Some x) (stream_at ss m) ≡ Some st → Q (Some st) → Q (Some (f st))) → Q (cond (eqb x.number n) (Some x) (stream_at ss n))
        → Q (stream_at (cond b (f x ∷ ss) (x ∷ change ss m f)) n)
    by_test true rest known h = subst (λ k. Q (cond (eqb k n) (Some (f x)) (stream_at ss n))) (sym (keeps x)) (at_head (eqb x.number n) (known x refl) h)
    by_test false rest known h = at_tail (eqb x.number n) (rest known) h

all_true : (a b c d : Bool) → a ≡ true → b ≡ true → c ≡ false → d ≡ false → (a && (b && not c && not d)) ≡ true
all_true a b c d e g h i = rw (e, g, h, i) refl

not_unanswered : (s : State) (n : ℕ) → is_client s.role ≡ false → MayQueue s n → (st : Stream) → stream_at s.streams n ≡ Some st → st.answered ≡ false → ⊥
not_unanswered s n server may st e unanswered =
    let takes : (is_open st && takes_more st) ≡ true = ap (passes takes_more) (sym e) ∙ may.takes in
    let none : (is_open st && (takes_more st && not (is_client s.role) && not st.answered)) ≡ false =
    ap (passes (λ x. takes_more x && not (is_client s.role) && not x.answered)) (sym e) ∙ may.answered in
    let parts = and_parts (is_open st) (takes_more st) takes in
    let all = all_true (is_open st) (takes_more st) (is_client s.role) st.answered parts.0 parts.1 server unanswered in
    absurd (let no : true ≡ false = sym all ∙ none in cc)

wait_queue : (s : State) (n : ℕ) (bytes : List ℕ) → is_client s.role ≡ false → MayQueue s n → AllWait s.streams → AllWait (change s.streams n (with_queued bytes))
wait_queue s n bytes server may all =
    all_wait (change s.streams n (with_queued bytes)) (λ k. at_change_known Waits s.streams n k (with_queued bytes) (λ y. refl)
    (λ st e q unanswered. absurd (not_unanswered s n server may st e unanswered)) (wait_at s.streams all k))

-- ---- the laws

pub waits_first : WaitsForAnswerFirst
unfolding fresh_state stream_at
waits_first role n st e = absurd cc

pub waits_stay : WaitsForAnswerStays
unfolding after_take after_queue after_finish after_answer after_reset after_took
waits_stay s h server all =
    let r : Rises 0 s.opened s.streams = rises 0 s.opened s.streams h.rising in
    let answered : Stream → Stream = λ st. record st { answered = true } in
    record {
      frame = λ f. wait_frame s f r server all;
      move = λ m. wait_move s m r all;
      take = λ n count. wait_on s n (with_taken count) r (λ y. refl) (λ y q. q) all;
      took = λ count. all;
      queue = λ n bytes may. wait_queue s n bytes server may all;
      finish = λ n trailers. wait_change s.streams n (with_finish trailers) (λ y. refl) (λ y q. q) all;
      answer = λ n fields. wait_reply (headers_frames n 0 (block_of s.encoder fields)) (record s { streams = change s.streams n answered; encoder = true })
          (wait_change s.streams n answered (λ y. refl) (λ y q e. absurd cc) all);
      reset = λ n code. wait_reply (reset_frame n code) (on_stream n shut s) (wait_on s n shut r (λ y. refl) (λ y q e. refl) all);
    }

pub pieces_wait : PiecesWaitForAnswer
pieces_wait c piece h server all =
    all_wait (after_piece c piece).state.streams
    (λ n. borne_piece {Q = Waits} {n = n} c piece (subst (λ b. Bears b (Unit {0}) Waits n c.state.opened) (sym server) (bears_waits n c.state.opened))
    (rises 0 c.state.opened c.state.streams h.rising) (wait_at c.state.streams all n))
