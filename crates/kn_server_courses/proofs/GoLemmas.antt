-- What a step of a connection comes to: what it tells, its numbers, and its queues.
use Rattle.std.proofs.Common.{◌≡◌, ℕ, ◌≤◌, ◌+◌, Bool, true, false, not, cond, eqb, List, [], ◌∷◌, ◌++◌, length, Option, Some, None, is_some, refl, sym, ◌∙◌, subst, append-nil, arith}
use Rattle.std.specs.Bool.{nat_lt}
use Rattle.std.proofs.lemmas.Bool.{eqb-true, eqb-false}
use Rattle.kn_frames.specs.declared.frame.Frame.{Frame}
use Rattle.kn_frames.specs.declared.fault.FrameFault.{FrameFault}
use Rattle.kn_frames.specs.Readers.{after_bytes, frames_in, fault_in}
use Rattle.kn_hpack.specs.Fields.{Field}
use Rattle.kn_hpack.specs.Encoding.{block_of}
use Rattle.kn_h2_state.specs.declared.event.H2Event.{H2Event}
use Rattle.kn_h2_state.specs.declared.moves.Move.{Move}
use Rattle.kn_h2_state.specs.declared.moves.Move.TheVariants.{GrantAll, Grant, Send, End, Stop}
use Rattle.kn_h2_state.specs.declared.stream.Stream.{Stream}
use Rattle.kn_h2_state.specs.declared.state.State.{State}
use Rattle.kn_h2_state.specs.Limits.{reply_limit}
use Rattle.kn_h2_state.specs.Outgoing.{put, reply_bytes}
use Rattle.kn_h2_state.specs.Streams.{stream_at, change, tidied, shut}
use Rattle.kn_h2_state.specs.Payloads.{reset_frame}
use Rattle.kn_h2_state.specs.Rules.{is_client}
use Rattle.kn_h2_state.specs.Effects.{fail, reply, on_stream}
use Rattle.kn_h2_state.specs.Feeding.{Connection, after_frame, after_frames, after_fault, after_piece, frame_code}
use Rattle.kn_h2_state.specs.Moves.{headers_frames, granted, sent_some, own_ended, stopped, made, target, after_move}
use Rattle.kn_h2_state.specs.Calls.{queue_in, queue_of, with_taken, with_queued, with_finish, after_take, after_queue, after_finish, after_answer, after_reset, after_took}
use Rattle.kn_h2_state.proofs.OtherLaws.{either}
use Rattle.kn_h2_state.proofs.BorneLemmas.{Rises, rises_change, rises_tidied, Bears, borne_frame, borne_start}
use Rattle.kn_stream_order.specs.Order.{OpensRising, IsShortAt}
use Rattle.kn_stream_order.proofs.QueueLemmas.{short_at, short_more}
use Rattle.kn_stream_order.proofs.OrderLemmas.{Fine, fine_start, fine_reply, fine_change, fine_on, shut_shortens, keeps_shortens, piece_order, piece_queues}
use Rattle.kn_stream_order.proofs.StepLemmas.{own_keep}

-- it tells in order, the numbers of the streams rise still, and no queue is longer
pub record Goes (s t : State) : Type 0 where
  pub told : List H2Event
  pub events : t.events ≡ s.events ++ told
  pub rising : OpensRising s.opened told t.opened
  pub numbers : Rises 0 s.opened s.streams → Rises 0 t.opened t.streams
  pub queues : (n most : ℕ) → IsShortAt n most s.streams → IsShortAt n most t.streams

-- it tells nothing
pub record Still (s t : State) : Type 0 where
  pub events : t.events ≡ s.events
  pub opened : t.opened ≡ s.opened
  pub numbers : Rises 0 s.opened s.streams → Rises 0 t.opened t.streams
  pub queues : (n most : ℕ) → IsShortAt n most s.streams → IsShortAt n most t.streams

pub still_same : (s t : State) → t.events ≡ s.events → t.opened ≡ s.opened → t.streams ≡ s.streams → Still s t
still_same s t events opened streams = record {
  events = events;
  opened = opened;
  numbers = λ r. subst (λ ss. Rises 0 t.opened ss) (sym streams) (subst (λ k. Rises 0 k s.streams) (sym opened) r);
  queues = λ n most h. subst (λ ss. IsShortAt n most ss) (sym streams) h;
}

pub still_then : (s t u : State) → Still s t → Still t u → Still s u
still_then s t u a b = record {
  events = b.events ∙ a.events;
  opened = b.opened ∙ a.opened;
  numbers = λ r. b.numbers (a.numbers r);
  queues = λ n most h. b.queues n most (a.queues n most h);
}

pub still_goes : (s t : State) → Still s t → Goes s t
still_goes s t a = record {
  told = [];
  events = a.events ∙ sym (append-nil s.events);
  rising = subst (λ k. s.opened ≤ k) (sym a.opened) (omega arith);
  numbers = a.numbers;
  queues = a.queues;
}

-- no stream has more than all bytes
longest_at : (n : ℕ) (ss : List Stream) → (most : ℕ) × IsShortAt n most ss
longest_at n [] = (0, tt)
longest_at n (st ∷ ss) = let rest = longest_at n ss in (length st.queue + rest.0, ((λ is. omega arith), short_more n rest.0 (length st.queue + rest.0) ss (omega arith) rest.1))

-- ---- numbers that rise stand once

-- every stream of the list is above this number
above_none : (low high n : ℕ) (ss : List Stream) (most : ℕ) → Rises low high ss → n ≤ low → IsShortAt n most ss
unfolding Rises
above_none low high n [] most r le = tt
above_none low high n (x ∷ ss) most r le = ((λ is. absurd (omega (arith, r.0, le, is))), above_none x.number high n ss most r.1 (omega (arith, r.0, le)))

pub short_own : (low high n : ℕ) (ss : List Stream) → Rises low high ss → IsShortAt n (length (queue_in (stream_at ss n))) ss
unfolding Rises stream_at
short_own low high n [] r = tt
short_own low high n (x ∷ ss) r = own_here (eqb x.number n) refl (short_own x.number high n ss r.1)
  where
    own_here : (b : Bool) → eqb x.number n ≡ b → IsShortAt n (length (queue_in (stream_at ss n))) ss → IsShortAt n (length (queue_in (cond b (Some x) (stream_at ss n)))) (x ∷ ss)
    own_here true e later = ((λ is. omega arith), above_none x.number high n ss (length x.queue) r.1 (let same = eqb-true x.number n e in omega (arith, same)))
    own_here false e later = ((λ is. absurd (let t : eqb x.number n ≡ true = same_number x.number n is in cc)), later)
      where
        same_number : (a b : ℕ) → a ≡ b → eqb a b ≡ true
        same_number a b p = subst (λ k. eqb a k ≡ true) p (eqb_itself a)
          where
            eqb_itself : (k : ℕ) → eqb k k ≡ true
            eqb_itself k = by_test (eqb k k) refl
              where
                by_test : (c : Bool) → eqb k k ≡ c → eqb k k ≡ true
                by_test true q = q
                by_test false q = absurd (eqb-false k k q refl)

-- no queue is longer than it was
pub goes_waits : (s t : State) (n : ℕ) → Rises 0 s.opened s.streams → Goes s t → length (queue_of t n) ≤ length (queue_of s n)
goes_waits s t n r g = short_at n (length (queue_of s n)) t.streams (g.queues n (length (queue_of s n)) (short_own 0 s.opened n s.streams r))

-- ---- frames

bears_nothing : (c : Bool) (n low : ℕ) → Bears c (Unit {0}) (λ o. Unit {0}) n low
bears_nothing c n low = record {
  gone = λ st e q. tt;
  texts = λ k text st q. tt;
  ends = λ st q. tt;
  heads = λ e st q. tt;
  shuts = λ may st q. tt;
  cuts = λ may st q. tt;
  grants = λ by st q. tt;
  shifts = λ old new st q. tt;
  fresh = λ m t above same. tt;
}

frame_numbers : (s : State) (f : Frame) → Rises 0 s.opened s.streams → Rises 0 (after_frame s f).opened (after_frame s f).streams
frame_numbers s f r =
    let b = borne_frame {n = 0} (bears_nothing (is_client s.role) 0 s.opened) s f refl (borne_start {Q = λ o. Unit {0}} {n = 0} s r tt) in
    b.numbers

frames_numbers : (s : State) (fs : List Frame) → Rises 0 s.opened s.streams → Rises 0 (after_frames s fs).opened (after_frames s fs).streams
unfolding after_frames
frames_numbers s [] r = r
frames_numbers s (f ∷ fs) r = frames_numbers (after_frame s f) fs (frame_numbers s f r)

-- the numbers of a state rise
abbrev pub Orderly : State → Type 0
Orderly s = Rises 0 s.opened s.streams

fail_numbers : (code : ℕ) (s : State) → Orderly s → Orderly (fail code s)
unfolding fail
fail_numbers code s r = r

fault_numbers : (s : State) (o : Option FrameFault) → Orderly s → Orderly (after_fault s o)
fault_numbers s None r = r
fault_numbers s (Some fault) r = either Orderly (is_some s.failed) s (fail (frame_code fault.reason) s) r (fail_numbers (frame_code fault.reason) s r)

piece_numbers : (c : Connection) (piece : List ℕ) → Orderly c.state → Orderly (after_piece c piece).state
unfolding after_piece
piece_numbers c piece r = piece_here (is_some c.state.failed)
  where
    piece_here : (b : Bool) → Orderly (cond b c (record {
      cutter = after_bytes c.cutter piece;
      state = after_fault (after_frames c.state (frames_in c.cutter piece)) (fault_in (after_bytes c.cutter piece).phase);
    })).state
    piece_here true = r
    piece_here false = fault_numbers (after_frames c.state (frames_in c.cutter piece)) (fault_in (after_bytes c.cutter piece).phase) (frames_numbers c.state (frames_in c.cutter piece) r)

pub piece_goes : (c : Connection) (piece : List ℕ) → Goes c.state (after_piece c piece).state
piece_goes c piece =
    let order = piece_order c piece in
    record { told = order.told; events = order.events; rising = order.rising; numbers = piece_numbers c piece; queues = λ n most h. piece_queues c piece n most h }

-- ---- steps of this end

change_numbers : (s : State) (m : ℕ) (f : Stream → Stream) → ((st : Stream) → (f st).number ≡ st.number) → Orderly s → Rises 0 s.opened (change s.streams m f)
change_numbers s m f same r = rises_change 0 s.opened s.streams m f same r

on_numbers : (s : State) (m : ℕ) (f : Stream → Stream) → ((st : Stream) → (f st).number ≡ st.number) → Orderly s → Rises 0 s.opened (tidied (change s.streams m f))
on_numbers s m f same r = rises_tidied 0 s.opened (change s.streams m f) (rises_change 0 s.opened s.streams m f same r)

reply_numbers : (frame : List ℕ) (t : State) → Orderly t → Orderly (reply frame t)
unfolding reply
reply_numbers frame t r = either Orderly (nat_lt reply_limit (reply_bytes t.out + length frame)) (fail 11 t) (record t { out = put t.out true frame }) (fail_numbers 11 t r) r

pub take_still : (m count : ℕ) (s : State) → Still s (after_take m count s)
unfolding after_take
take_still m count s = record {
  events = refl;
  opened = refl;
  numbers = λ r. on_numbers s m (with_taken count) (λ st. refl) r;
  queues = λ n most h. (own_keep s n most h).take m count;
}

pub finish_still : (m : ℕ) (trailers : List Field) (s : State) → Still s (after_finish m trailers s)
unfolding after_finish
finish_still m trailers s = record {
  events = refl;
  opened = refl;
  numbers = λ r. change_numbers s m (with_finish trailers) (λ st. refl) r;
  queues = λ n most h. (own_keep s n most h).finish m trailers;
}

pub took_still : (count : ℕ) (s : State) → Still s (after_took count s)
unfolding after_took
took_still count s = still_same s (after_took count s) refl refl refl

pub move_still : (m : Move) (s : State) → Still s (after_move s m)
unfolding after_move
move_still m s = record {
  events = by_events m (stream_at s.streams (target m));
  opened = by_opened m (stream_at s.streams (target m));
  numbers = λ r. by_numbers r m (stream_at s.streams (target m));
  queues = λ n most h. (own_keep s n most h).move m;
}
  where
    by_events : (k : Move) (o : Option Stream) → (made s k o).events ≡ s.events
    by_events GrantAll o = refl
    by_events (Grant k) None = refl
    by_events (Grant k) (Some st) = refl
    by_events (Send k count) None = refl
    by_events (Send k count) (Some st) = refl
    by_events (End k) None = refl
    by_events (End k) (Some st) = refl
    by_events (Stop k) None = refl
    by_events (Stop k) (Some st) = refl

    by_opened : (k : Move) (o : Option Stream) → (made s k o).opened ≡ s.opened
    by_opened GrantAll o = refl
    by_opened (Grant k) None = refl
    by_opened (Grant k) (Some st) = refl
    by_opened (Send k count) None = refl
    by_opened (Send k count) (Some st) = refl
    by_opened (End k) None = refl
    by_opened (End k) (Some st) = refl
    by_opened (Stop k) None = refl
    by_opened (Stop k) (Some st) = refl

    by_numbers : Orderly s → (k : Move) (o : Option Stream) → Orderly (made s k o)
    by_numbers r GrantAll o = r
    by_numbers r (Grant k) None = r
    by_numbers r (Grant k) (Some st) = change_numbers s k granted (λ x. refl) r
    by_numbers r (Send k count) None = r
    by_numbers r (Send k count) (Some st) = change_numbers s k (sent_some count) (λ x. refl) r
    by_numbers r (End k) None = r
    by_numbers r (End k) (Some st) = on_numbers s k (own_ended (not (is_client s.role))) (λ x. refl) r
    by_numbers r (Stop k) None = r
    by_numbers r (Stop k) (Some st) = on_numbers s k stopped (λ x. refl) r

-- calls that write a reply
answered_fine : (n most m : ℕ) (fields : List Field) (s : State) → IsShortAt n most s.streams → Fine n most s.opened s.events (after_answer m fields s)
unfolding after_answer
answered_fine n most m fields s h =
    let answers : Stream → Stream = λ st. record st { answered = true } in
    let changed : Fine n most s.opened s.events (record s { streams = change s.streams m answers }) = fine_change m answers s (keeps_shortens answers (λ st. refl) (λ st. refl)) (fine_start n most s h) in
    fine_reply (headers_frames m 0 (block_of s.encoder fields)) (record s { streams = change s.streams m answers; encoder = true })
    (record { told = changed.told; events = changed.events; rising = changed.rising; short = changed.short })

answer_numbers : (m : ℕ) (fields : List Field) (s : State) → Orderly s → Orderly (after_answer m fields s)
unfolding after_answer
answer_numbers m fields s r = reply_numbers (headers_frames m 0 (block_of s.encoder fields)) (record s { streams = change s.streams m (λ st. record st { answered = true }); encoder = true }) (change_numbers s m (λ st. record st { answered = true }) (λ st. refl) r)

pub answer_goes : (m : ℕ) (fields : List Field) (s : State) → Goes s (after_answer m fields s)
answer_goes m fields s =
    let any = longest_at 0 s.streams in
    let fine = answered_fine 0 any.0 m fields s any.1 in
    record { told = fine.told; events = fine.events; rising = fine.rising; numbers = answer_numbers m fields s; queues = λ n most h. (own_keep s n most h).answer m fields }

reset_fine : (n most m code : ℕ) (s : State) → IsShortAt n most s.streams → Fine n most s.opened s.events (after_reset m code s)
unfolding after_reset
reset_fine n most m code s h = fine_reply (reset_frame m code) (on_stream m shut s) (fine_on m shut s shut_shortens (fine_start n most s h))

reset_numbers : (m code : ℕ) (s : State) → Orderly s → Orderly (after_reset m code s)
unfolding after_reset
reset_numbers m code s r = reply_numbers (reset_frame m code) (on_stream m shut s) (on_numbers s m shut (λ st. refl) r)

pub reset_goes : (m code : ℕ) (s : State) → Goes s (after_reset m code s)
reset_goes m code s =
    let any = longest_at 0 s.streams in
    let fine = reset_fine 0 any.0 m code s any.1 in
    record { told = fine.told; events = fine.events; rising = fine.rising; numbers = reset_numbers m code s; queues = λ n most h. (own_keep s n most h).reset m code }

-- bytes that are queued
pub queue_numbers : (m : ℕ) (bytes : List ℕ) (s : State) → Orderly s → Orderly (after_queue m bytes s)
unfolding after_queue
queue_numbers m bytes s r = change_numbers s m (with_queued bytes) (λ st. refl) r
