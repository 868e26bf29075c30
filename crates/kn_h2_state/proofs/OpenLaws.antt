-- Which numbers are told as opened, and when a stream of a server is answered.
use Rattle.std.proofs.Common.{◌≡◌, ℕ, ◌<◌, Bool, true, false, not, List, Option, Some, None, refl, sym, ap, ◌∙◌, subst, ◌+ℤ◌, ◌-ℤ◌, pos, if◌then◌else◌}
use Rattle.kn_frames.specs.declared.frame.Frame.{Frame}
use Rattle.kn_hpack.specs.Encoding.{block_of}
use Rattle.kn_h2_state.specs.declared.moves.Move.{Move}
use Rattle.kn_h2_state.specs.declared.moves.Move.TheVariants.{GrantAll, Grant, Send, End, Stop}
use Rattle.kn_h2_state.specs.declared.stream.Stream.{Stream}
use Rattle.kn_h2_state.specs.declared.state.State.{State}
use Rattle.kn_h2_state.specs.Streams.{stream_at, change, is_open, shut}
use Rattle.kn_h2_state.specs.Payloads.{reset_frame}
use Rattle.kn_h2_state.specs.Rules.{is_client}
use Rattle.kn_h2_state.specs.Effects.{reply, on_stream}
use Rattle.kn_h2_state.specs.Feeding.{after_frame}
use Rattle.kn_h2_state.specs.Moves.{headers_frames, granted, sent_some, own_ended, stopped, made, target, after_move}
use Rattle.kn_h2_state.specs.Calls.{with_taken, with_queued, with_finish, after_take, after_queue, after_finish, after_answer, after_reset}
use Rattle.kn_h2_state.specs.Opening.{FramesOpenAbove, answered_in, KeepsAnswered, AnsweredIsKept}
use Rattle.kn_h2_state.proofs.SeenLemmas.{KeepsNumber, at_change as at_other}
use Rattle.kn_h2_state.proofs.OtherLaws.{reply_streams}
use Rattle.kn_h2_state.proofs.BorneLemmas.{Rises, rises, climbing, rises_change, at_change, at_tidied, none_above, Bears, borne_frame, borne_start}
use Rattle.kn_h2_state.proofs.HearLaws.{bears_nothing}

pub frames_open_above : FramesOpenAbove
frames_open_above s f h =
    let b = borne_frame {n = 0} (bears_nothing (is_client s.role) 0 s.opened) s f refl (borne_start {Q = λ o. Unit {0}} {n = 0} s (rises 0 s.opened s.streams h.rising) tt) in
    record { told = b.told; events = b.events; opened = b.opened; above = b.above }

-- ---- answers

-- if there is a stream, this is what it is
abbrev AnsweredAs : Bool → Option Stream → Type 0
AnsweredAs b None = Unit {0}
AnsweredAs b (Some st) = st.answered ≡ b

as_answered : (o : Option Stream) → AnsweredAs (answered_in o) o
as_answered None = tt
as_answered (Some st) = refl

keeps_as : (n : ℕ) (s t : State) → AnsweredAs (answered_in (stream_at s.streams n)) (stream_at t.streams n) → KeepsAnswered n s t
keeps_as n s t a st e = subst (AnsweredAs (answered_in (stream_at s.streams n))) e a

bears_answered : (n low : ℕ) (b : Bool) → (low < n → b ≡ false) → Bears false (Unit {0}) (AnsweredAs b) n low
bears_answered n low b new = record {
  gone = λ st e q. tt;
  texts = λ k text st q. q;
  ends = λ st q. q;
  heads = λ e st q. absurd cc;
  shuts = λ _ st q. q;
  cuts = λ _ st q. q;
  grants = λ by st q. grant by (is_open st) st q;
  shifts = λ old next st q. shift old next (is_open st) st q;
  fresh = λ m t above same. sym (new (subst (λ k. low < k) same above));
}
  where
    grant : (by : ℕ) (c : Bool) (st : Stream) → st.answered ≡ b → (if c then record st { send = st.send +ℤ pos by } else st).answered ≡ b
    grant by true st q = q
    grant by false st q = q

    shift : (old next : ℕ) (c : Bool) (st : Stream) → st.answered ≡ b → (if c then record st { send = st.send +ℤ (pos next -ℤ pos old) } else st).answered ≡ b
    shift old next true st q = q
    shift old next false st q = q

answered_frame : (s : State) (n : ℕ) (f : Frame) → Rises 0 s.opened s.streams → is_client s.role ≡ false → KeepsAnswered n s (after_frame s f)
answered_frame s n f r role =
    let b : Bool = answered_in (stream_at s.streams n) in
    let new : s.opened < n → b ≡ false = λ above. ap answered_in (none_above 0 s.opened n s.streams r above) in
    keeps_as n s (after_frame s f) (borne_frame (bears_answered n s.opened b new) s f role (borne_start s r (as_answered (stream_at s.streams n)))).there

-- a change that leaves a stream its number, and whether it is answered
abbrev LeavesAnswer : (Stream → Stream) → Type 0
LeavesAnswer f = (st : Stream) → (f st).answered ≡ st.answered

answered_change : (s : State) (m n : ℕ) (f : Stream → Stream) → KeepsNumber f → LeavesAnswer f
    → AnsweredAs (answered_in (stream_at s.streams n)) (stream_at (change s.streams m f) n)
answered_change s m n f number answer =
    at_change (AnsweredAs (answered_in (stream_at s.streams n))) s.streams m n f number (λ st q. answer st ∙ q) (as_answered (stream_at s.streams n))

answered_on : (s : State) (m n : ℕ) (f : Stream → Stream) → Rises 0 s.opened s.streams → KeepsNumber f → LeavesAnswer f
    → AnsweredAs (answered_in (stream_at s.streams n)) (stream_at (on_stream m f s).streams n)
answered_on s m n f r number answer =
    at_tidied (AnsweredAs (answered_in (stream_at s.streams n))) 0 n (change s.streams m f) (λ st e q. tt)
    (climbing 0 s.opened (change s.streams m f) (rises_change 0 s.opened s.streams m f number r)) (answered_change s m n f number answer)

answered_move : (s : State) (n : ℕ) (m : Move) → Rises 0 s.opened s.streams → KeepsAnswered n s (after_move s m)
unfolding after_move
answered_move s n m r = keeps_as n s (made s m (stream_at s.streams (target m))) (by_move m (stream_at s.streams (target m)))
  where
    same : AnsweredAs (answered_in (stream_at s.streams n)) (stream_at s.streams n)
    same = as_answered (stream_at s.streams n)

    by_move : (k : Move) (o : Option Stream) → AnsweredAs (answered_in (stream_at s.streams n)) (stream_at (made s k o).streams n)
    by_move GrantAll o = same
    by_move (Grant k) None = same
    by_move (Grant k) (Some st) = answered_change s k n granted (λ x. refl) (λ x. refl)
    by_move (Send k count) None = same
    by_move (Send k count) (Some st) = answered_change s k n (sent_some count) (λ x. refl) (λ x. refl)
    by_move (End k) None = same
    by_move (End k) (Some st) = answered_on s k n (own_ended (not (is_client s.role))) r (λ x. refl) (λ x. refl)
    by_move (Stop k) None = same
    by_move (Stop k) (Some st) = answered_on s k n stopped r (λ x. refl) (λ x. refl)

-- a reply changes no stream
answered_reply : (s : State) (n : ℕ) (frame : List ℕ) (t : State) → AnsweredAs (answered_in (stream_at s.streams n)) (stream_at t.streams n) → KeepsAnswered n s (reply frame t)
answered_reply s n frame t a =
    keeps_as n s (reply frame t) (subst (λ ss. AnsweredAs (answered_in (stream_at s.streams n)) (stream_at ss n)) (sym (reply_streams frame t)) a)

pub answered_is_kept : AnsweredIsKept
unfolding after_take after_queue after_finish after_answer after_reset
answered_is_kept s n h role =
    let r : Rises 0 s.opened s.streams = rises 0 s.opened s.streams h.rising in
    record {
      frame = λ f. answered_frame s n f r role;
      move = λ m. answered_move s n m r;
      take = λ m count. keeps_as n s (after_take m count s) (answered_on s m n (with_taken count) r (λ x. refl) (λ x. refl));
      queue = λ m bytes. keeps_as n s (after_queue m bytes s) (answered_change s m n (with_queued bytes) (λ x. refl) (λ x. refl));
      finish = λ m trailers. keeps_as n s (after_finish m trailers s) (answered_change s m n (with_finish trailers) (λ x. refl) (λ x. refl));
      reset = λ m code. answered_reply s n (reset_frame m code) (on_stream m shut s) (answered_on s m n shut r (λ x. refl) (λ x. refl));
      answer = λ m fields other.
          let changed : State = record s { streams = change s.streams m (λ st. record st { answered = true }); encoder = true } in
          let there : AnsweredAs (answered_in (stream_at s.streams n)) (stream_at changed.streams n) =
          subst (AnsweredAs (answered_in (stream_at s.streams n))) (sym (at_other s.streams m n (λ st. record st { answered = true }) (λ x. refl) other)) (as_answered (stream_at s.streams n)) in
          answered_reply s n (headers_frames m 0 (block_of s.encoder fields)) changed there;
    }
