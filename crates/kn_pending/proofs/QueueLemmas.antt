-- What frames that come leave of a queue.
use Rattle.std.proofs.Common.{◌≡◌, ℕ, ◌<◌, Bool, true, false, List, [], ◌∷◌, Option, Some, None, refl, sym, ap, subst, ◌+ℤ◌, ◌-ℤ◌, pos, arith, if◌then◌else◌}
use Rattle.kn_frames.specs.declared.frame.Frame.{Frame}
use Rattle.kn_h2_state.specs.declared.stream.Stream.{Stream}
use Rattle.kn_h2_state.specs.declared.state.State.{State}
use Rattle.kn_h2_state.specs.Streams.{stream_at, is_open}
use Rattle.kn_h2_state.specs.Rules.{is_client}
use Rattle.kn_h2_state.specs.Feeding.{after_frame, after_frames}
use Rattle.kn_h2_state.specs.Calls.{queue_in, queue_of}
use Rattle.kn_h2_state.proofs.BorneLemmas.{Rises, rises, none_above, Bears, borne_frame, borne_start}
use Rattle.kn_pending.specs.Pending.{QueueStays}

-- where this end's half is open, this is its queue
abbrev pub QueuedAs : List ℕ → Option Stream → Type 0
QueuedAs q None = Unit {0}
QueuedAs q (Some st) = st.own_open ≡ true → st.queue ≡ q

bears_queue : (c : Bool) (n low : ℕ) (q : List ℕ) → (low < n → q ≡ []) → Bears c (Unit {0}) (QueuedAs q) n low
bears_queue c n low q new = record {
  gone = λ st e h. tt;
  texts = λ k text st h. h;
  ends = λ st h. h;
  heads = λ e st h. h;
  shuts = λ _ st h o. absurd cc;
  cuts = λ _ st h o. absurd cc;
  grants = λ by st h. grant by (is_open st) st h;
  shifts = λ old next st h. shift old next (is_open st) st h;
  fresh = λ m t above same o. sym (new (subst (λ k. low < k) same above));
}
  where
    grant : (by : ℕ) (b : Bool) (st : Stream) → QueuedAs q (Some st) → QueuedAs q (Some (if b then record st { send = st.send +ℤ pos by } else st))
    grant by true st h = h
    grant by false st h = h

    shift : (old next : ℕ) (b : Bool) (st : Stream) → QueuedAs q (Some st) → QueuedAs q (Some (if b then record st { send = st.send +ℤ (pos next -ℤ pos old) } else st))
    shift old next true st h = h
    shift old next false st h = h

all_queued : (n : ℕ) (q : List ℕ) (s : State) (fs : List Frame) → Rises 0 s.opened s.streams → (s.opened < n → q ≡ []) → QueuedAs q (stream_at s.streams n) → QueuedAs q (stream_at (after_frames s fs).streams n)
unfolding after_frames
all_queued n q s [] r new h = h
all_queued n q s (f ∷ fs) r new h =
    let b = borne_frame (bears_queue (is_client s.role) n s.opened q new) s f refl (borne_start s r h) in
    all_queued n q (after_frame s f) fs b.numbers (λ above. let o = b.opened in new (omega arith)) b.there

as_queued : (o : Option Stream) → QueuedAs (queue_in o) o
as_queued None = tt
as_queued (Some st) = λ o. refl

pub queue_stays : QueueStays
queue_stays n s fs st holds at own =
    let r : Rises 0 s.opened s.streams = rises 0 s.opened s.streams holds.rising in
    let there : QueuedAs (queue_of s n) (stream_at (after_frames s fs).streams n) =
    all_queued n (queue_of s n) s fs r (λ above. ap queue_in (none_above 0 s.opened n s.streams r above)) (as_queued (stream_at s.streams n)) in
    subst (QueuedAs (queue_of s n)) at there own
