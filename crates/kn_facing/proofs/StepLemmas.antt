-- What an end does of its own, while two ends face each other.
use Rattle.std.proofs.Common.{◌≡◌, ◌≢◌, eqb, ◌≤◌, ◌+◌, ◌*◌, ℤ, pos, ◌+ℤ◌, ◌-ℤ◌, ℕ, zero, suc, Bool, true, false, not, length, drop, List, [], ◌∷◌, ◌++◌, append-nil, Option, Some, None, IfSome, refl, sym, ap, ◌∙◌, subst, arith}
use Rattle.std.proofs.lemmas.Int.{ints}
use Rattle.std.proofs.lemmas.Bool.{eqb-true, eqb-false}
use Rattle.kn_frames.specs.declared.frame.Frame.{Frame}
use Rattle.kn_frames.specs.Frames.{IsWithinLimits}
use Rattle.kn_hpack.specs.Fields.{Field}
use Rattle.kn_h2_state.specs.declared.stream.Stream.{Stream}
use Rattle.kn_h2_state.specs.declared.state.State.{State}
use Rattle.kn_h2_state.specs.InStep.{IsInStep}
use Rattle.kn_h2_state.specs.Limits.{reply_limit}
use Rattle.kn_h2_state.specs.Outgoing.{reply_bytes, count_true}
use Rattle.kn_h2_state.specs.Streams.{stream_at, change}
use Rattle.kn_h2_state.specs.Rules.{is_client}
use Rattle.kn_h2_state.specs.Feeding.{after_frames}
use Rattle.kn_h2_state.specs.Calls.{text_of, refusal, queue_refusal, takes_more, with_taken, with_queued, with_finish, after_take, after_queue, after_finish, after_took}
use Rattle.kn_h2_state.specs.Preorder.{HearsMore}
use Rattle.kn_h2_state.specs.Wire.{grants_in, data_lengths_in, ends_in}
use Rattle.kn_h2_state.proofs.BorneLemmas.{rises, climbing, rises_change, at_change, at_tidied}
use Rattle.kn_h2_state.specs.Opening.{answered_in}
use Rattle.kn_h2_state.proofs.OtherLaws.{calls_leave_others}
use Rattle.kn_h2_state.proofs.SeenLemmas.{Climbs, at_changed}
use Rattle.kn_h2.proofs.FoundLemmas.{found_open}
use Rattle.kn_h2_state.proofs.PieceLaws.{after_frames-append}
use Rattle.kn_h2.proofs.CallBounds.{holds_take, holds_took, holds_queue, holds_finish}
use Rattle.kn_facing.specs.Facing.{emptied, IsFollowed, Awaits, AreTaken, asking}
use Rattle.kn_facing.specs.Laws.{AreTakenToo}
use Rattle.kn_facing.specs.Sums.{MayCome, MayGo, LeavesWindows}
use Rattle.kn_facing.specs.Faces.{all_lengths, AnswersFirst, IsEnd, Faces, IsStep, IsAnsweredAt, StepsKeepFaces, TakesKeepFaces, TookKeepsFaces, QueuesKeepFaces, FinishesKeepFaces}
use Rattle.kn_facing.proofs.CarryLemmas.{hears_emptied, holds_emptied, none_waits}
use Rattle.kn_facing.proofs.FaceLemmas.{Known, turned, Before, way_on, way_taken, way_followed}
use Rattle.kn_facing.proofs.ListSums.{grants-append, lengths-append, all-append, all_by-append}
use Rattle.kn_facing.proofs.OwnSumLemmas.{calls_leave_both}
use Rattle.kn_facing.proofs.ReadStep.{taken_join}
use Rattle.kn_facing.proofs.UnendedLemmas.{unended_step, no_end}

-- ---- sums

goes_sum : (x y : ℤ) (d dd dd' gg : ℕ) → ((x +ℤ pos d) +ℤ pos (dd + gg)) ≡ y → dd' ≡ dd + d → (x +ℤ pos (dd' + gg)) ≡ y
goes_sum x y d dd dd' gg e f = omega (arith, ints, e, f)

comes_sum : (x y : ℤ) (g dd gg gg' : ℕ) → (x +ℤ pos (dd + gg)) ≡ (y -ℤ pos g) → gg' ≡ gg + g → (x +ℤ pos (dd + gg')) ≡ y
comes_sum x y g dd gg gg' e f = omega (arith, ints, e, f)

all_goes_sum : (x x' y : ℤ) (d dd dd' gg : ℕ) → (x +ℤ pos (dd + gg)) ≡ y → x ≡ (x' +ℤ pos d) → dd' ≡ dd + d → (x' +ℤ pos (dd' + gg)) ≡ y
all_goes_sum x x' y d dd dd' gg e k f = omega (arith, ints, e, k, f)

all_comes_sum : (x y y' : ℤ) (g dd gg gg' : ℕ) → (x +ℤ pos (dd + gg)) ≡ y → y' ≡ (y +ℤ pos g) → gg' ≡ gg + g → (x +ℤ pos (dd + gg')) ≡ y'
all_comes_sum x y y' g dd gg gg' e k f = omega (arith, ints, e, k, f)

-- ---- what comes to the end that does a step

pub back_before : (a b : State) (ab ba : List Frame) → Faces a b ab ba → Before b (emptied a) ba
back_before a b ab ba h = record {
  holds = holds_emptied a h.end_a.holds;
  goes = h.end_a.goes;
  other = (turned a b ab ba h).other;
  limits = h.to_a.limits;
  taken = h.to_a.taken;
  followed = h.to_a.followed;
  awaits = h.to_a.awaits;
  room = let none = none_waits in let few = h.to_a.replies in omega (arith, none, few);
}

back_room : (a b t : State) (ab ba : List Frame) → Faces a b ab ba → reply_bytes (emptied t).out + 17 * asking ba ≤ reply_limit
back_room a b t ab ba h = let none = none_waits in let few = h.to_a.replies in omega (arith, none, few)

pub taken_back : Known → (a b t : State) (ab ba : List Frame) → Faces a b ab ba → IsEnd t → HearsMore a t → AreTakenToo (emptied a) (emptied t) ba
taken_back k a b t ab ba h still hears =
    way_taken k b (emptied a) (emptied t) ba h.end_b.one (back_before a b ab ba h) (holds_emptied t still.holds) still.goes (hears_emptied a t hears) (back_room a b t ab ba h)

followed_back : Known → (a b t : State) (ab ba : List Frame) → Faces a b ab ba → IsEnd t → HearsMore a t → AreTakenToo (emptied a) (emptied t) ba → IsFollowed b (after_frames (emptied t) ba)
followed_back k a b t ab ba h still hears back = way_followed k b (emptied a) (emptied t) ba h.end_b.holds (back_before a b ab ba h) back

-- where it begins no stream, what the other end does not know yet stays as it is
pub awaits_back : Known → (a b t : State) (ab ba : List Frame) → Faces a b ab ba → IsEnd t → HearsMore a t → t.opened ≡ a.opened → Awaits b (after_frames (emptied t) ba)
awaits_back k a b t ab ba h still hears same =
    (way_on k b (emptied a) (emptied t) ba h.end_b.holds h.end_b.one (back_before a b ab ba h) (holds_emptied t still.holds) still.goes (hears_emptied a t hears) (λ client. same) (back_room a b t ab ba h)).awaits

-- ---- any step

pub steps_keep_faces : Known → StepsKeepFaces
steps_keep_faces k a b t fs ab ba h step waits room room_b = record {
  other = h.other ∙ ap (λ r. not (is_client r)) (sym step.role);
  end_a = step.still;
  end_b = h.end_b;
  to_b = record {
    limits = all_by-append IsWithinLimits ab fs h.to_b.limits step.limits;
    taken = taken_join (emptied b) ab fs h.to_b.taken step.taken;
    followed = subst (λ (u : State). IsFollowed t u) (sym joined) step.followed;
    awaits = subst (λ (u : State). Awaits t u) (sym joined) step.awaits;
    replies = room_b;
    ends = λ n g. no_end n ab fs (h.to_b.ends n (unended_step a t n step.hears g)) (step.ends n g);
  };
  to_a = record { limits = h.to_a.limits; ends = h.to_a.ends; taken = back.taken; followed = followed_back k a b t ab ba h step.still step.hears back; awaits = waits; replies = room };
  sum_ab = λ n x y mx my. goes_sum x y (data_lengths_in n fs) (data_lengths_in n ab) (data_lengths_in n (ab ++ fs)) (grants_in n ba)
      (h.sum_ab n (x +ℤ pos (data_lengths_in n fs)) y (step.goes n x mx) my) (lengths-append n ab fs);
  sum_ba = λ n x y mx my. comes_sum x y (grants_in n fs) (data_lengths_in n ba) (grants_in n ab) (grants_in n (ab ++ fs))
      (h.sum_ba n x (y -ℤ pos (grants_in n fs)) mx (step.comes n y my)) (grants-append n ab fs);
  all_ab = all_goes_sum a.send t.send b.receive (all_lengths fs) (all_lengths ab) (all_lengths (ab ++ fs)) (grants_in 0 ba) h.all_ab step.all_goes (all-append ab fs);
  all_ba = all_comes_sum b.send a.receive t.receive (grants_in 0 fs) (all_lengths ba) (grants_in 0 ab) (grants_in 0 (ab ++ fs)) h.all_ba step.all_comes (grants-append 0 ab fs);
}
  where
    joined : after_frames (emptied b) (ab ++ fs) ≡ after_frames (after_frames (emptied b) ab) fs
    joined = after_frames-append (emptied b) ab fs

    back : AreTakenToo (emptied a) (emptied t) ba
    back = taken_back k a b t ab ba h step.still step.hears

-- ---- steps that write nothing

-- each stream was there, no less open, and as much answered
abbrev pub Lower : State → ℕ → Option Stream → Type 0
Lower s n o = IfSome o (λ st. (a : Stream) × (stream_at s.streams n ≡ Some a) × (st.own_open ≡ true → a.own_open ≡ true) × (st.answered ≡ a.answered))

pub itself : (s : State) (n : ℕ) (o : Option Stream) → stream_at s.streams n ≡ o → Lower s n o
itself s n None e = tt
itself s n (Some st) e = (st, e, (λ own. own), refl)

-- what an end changes of itself where it writes nothing
pub record Silently (s t : State) : Type 0 where
  pub still : IsEnd t
  pub role : t.role ≡ s.role
  pub encoder : t.encoder ≡ s.encoder
  pub opened : t.opened ≡ s.opened
  pub hears : HearsMore s t
  pub lower : (n : ℕ) → Lower s n (stream_at t.streams n)
  pub windows : (n : ℕ) → LeavesWindows s t n
  pub send : t.send ≡ s.send
  pub receive : t.receive ≡ s.receive
  pub replies : reply_bytes t.out ≤ reply_bytes s.out

lower_followed : (s t u : State) → Silently s t → IsFollowed s u → IsFollowed t u
lower_followed s t u c h = record {
  began = h.began;
  block = h.block;
  decoder = subst (λ (b : Bool). IsInStep b u.decoder) (sym c.encoder) h.decoder;
  halves = λ n a b at own at_u up. let l = at_lower n a at in h.halves n l.0 b l.1 (l.2 own) at_u up;
  heads = λ client n a b at at_u up. let l = at_lower n a at in h.heads client n l.0 b l.1 at_u up ∙ sym l.3;
  opened = λ client. h.opened (ap is_client (sym c.role) ∙ client) ∙ sym c.opened;
  begun = λ client. let low = h.begun client in let same = c.opened in omega (arith, low, same);
}
  where
    at_lower : (n : ℕ) (a : Stream) → stream_at t.streams n ≡ Some a → (b : Stream) × (stream_at s.streams n ≡ Some b) × (a.own_open ≡ true → b.own_open ≡ true) × (a.answered ≡ b.answered)
    at_lower n a at = subst (λ (o : Option Stream). Lower s n o) at (c.lower n)

same_none : (x y : ℤ) → y ≡ x → x ≡ (y +ℤ pos 0)
same_none x y e = omega (arith, ints, e)

same_sum : (x y : ℤ) → y ≡ x → y ≡ (x +ℤ pos 0)
same_sum x y e = omega (arith, ints, e)

plus_zero : (x : ℤ) → x ≡ (x +ℤ pos 0)
plus_zero x = omega (arith, ints)

minus_zero : (x : ℤ) → x ≡ (x -ℤ pos 0)
minus_zero x = omega (arith, ints)

silently : Known → (a b t : State) (ab ba : List Frame) → Faces a b ab ba → Silently a t → Faces t b ab ba
unfolding AreTaken after_frames grants_in data_lengths_in all_lengths ends_in
silently k a b t ab ba h c =
    subst (λ (fs : List Frame). Faces t b fs ba) (append-nil ab)
    (steps_keep_faces k a b t [] ab ba h step (awaits_back k a b t ab ba h c.still c.hears c.opened)
    (let few = h.to_a.replies in let less = c.replies in omega (arith, few, less))
    (subst (λ (fs : List Frame). reply_bytes b.out + 17 * asking fs ≤ 32768) (sym (append-nil ab)) h.to_b.replies))
  where
    u : State
    u = after_frames (emptied b) ab

    step : IsStep a t [] u
    step = record {
      still = c.still;
      role = c.role;
      hears = c.hears;
      limits = tt;
      taken = tt;
      followed = lower_followed a t u c h.to_b.followed;
      ends = λ n g. refl;
      awaits = λ client n b low at up. h.to_b.awaits client n b (let same = c.opened in omega (arith, same, low)) at up;
      goes = λ n x m. subst (λ (z : ℤ). MayGo a n z) (plus_zero x) ((c.windows n).goes x m);
      comes = λ n y m. subst (λ (z : ℤ). MayCome a n z) (minus_zero y) ((c.windows n).comes y m);
      all_goes = same_none a.send t.send c.send;
      all_comes = same_sum a.receive t.receive c.receive;
    }

pub changed : (s : State) (m n : ℕ) (f : Stream → Stream) → ((st : Stream) → (f st).number ≡ st.number) → ((st : Stream) → Lower s n (Some st) → Lower s n (Some (f st))) → Lower s n (stream_at (change s.streams m f) n)
changed s m n f number step = at_change (Lower s n) s.streams m n f number step (itself s n (stream_at s.streams n) refl)

-- ---- text that is taken

-- a stream that is there afterwards was there, with the queue and the end that it waits for
abbrev Keeps : State → ℕ → Option Stream → Type 0
Keeps s n o = IfSome o (λ st. (a : Stream) × (stream_at s.streams n ≡ Some a) × (st.answered ≡ a.answered) × (st.queue ≡ a.queue) × (st.finish ≡ a.finish))

keeps_itself : (s : State) (n : ℕ) (o : Option Stream) → stream_at s.streams n ≡ o → Keeps s n o
keeps_itself s n None e = tt
keeps_itself s n (Some st) e = (st, e, refl, refl, refl)

keeps_first : (s t : State) → t.role ≡ s.role → ((n : ℕ) → Keeps s n (stream_at t.streams n)) → AnswersFirst s → AnswersFirst t
keeps_first s t role keeps first server n st at e =
    let w = subst (λ (o : Option Stream). Keeps s n o) at (keeps n) in
    let f = first (ap is_client (sym role) ∙ server) n w.0 w.1 (sym w.2 ∙ e) in
    (ap (λ (l : List ℕ). length l) w.3 ∙ f.0, w.4 ∙ f.1)

take_silently : Known → (s : State) (n count : ℕ) → IsEnd s → count ≤ length (text_of s n) → Silently s (after_take n count s)
unfolding after_take
take_silently k s n count e fits = record {
  still = record {
    holds = holds_take s n count fits e.holds;
    facts = (k.facts s e.holds e.facts).take n count;
    goes = e.goes;
    initial = e.initial;
    one = e.one;
    first = keeps_first s (after_take n count s) refl kept e.first;
  };
  role = refl;
  encoder = refl;
  opened = refl;
  hears = (k.steps s e.holds e.facts.known).take n count;
  lower = λ m. at_tidied (Lower s m) 0 m (change s.streams n (with_taken count)) (λ st q h. tt) climbs (changed s n m (with_taken count) (λ st. refl) (λ st q. q));
  windows = λ m. (calls_leave_both s n m e.holds).take count;
  send = refl;
  receive = refl;
  replies = omega arith;
}
  where
    climbs : Climbs 0 (change s.streams n (with_taken count))
    climbs = climbing 0 s.opened (change s.streams n (with_taken count)) (rises_change 0 s.opened s.streams n (with_taken count) (λ st. refl) (rises 0 s.opened s.streams e.holds.rising))

    kept : (m : ℕ) → Keeps s m (stream_at (after_take n count s).streams m)
    kept m =
        at_tidied (Keeps s m) 0 m (change s.streams n (with_taken count)) (λ st q h. tt) climbs
        (at_change (Keeps s m) s.streams n m (with_taken count) (λ st. refl) (λ st q. q) (keeps_itself s m (stream_at s.streams m) refl))

pub takes_keep_faces : Known → TakesKeepFaces
takes_keep_faces k a b ab ba n count h fits = silently k a b (after_take n count a) ab ba h (take_silently k a n count h.end_a fits)

-- ---- what goes on its way

count_drop : (count : ℕ) (xs : List Bool) → count_true (drop count xs) ≤ count_true xs
unfolding count_true
count_drop zero xs = omega arith
count_drop (suc count) [] = omega arith
count_drop (suc count) (x ∷ xs) = let rest = count_drop count xs in omega (arith, rest)

took_silently : Known → (s : State) (count : ℕ) → IsEnd s → Silently s (after_took count s)
unfolding after_took
took_silently k s count e = record {
  still = record { holds = holds_took s count e.holds; facts = (k.facts s e.holds e.facts).took count; goes = e.goes; initial = e.initial; one = e.one; first = e.first };
  role = refl;
  encoder = refl;
  opened = refl;
  hears = (k.steps s e.holds e.facts.known).took count;
  lower = λ m. itself s m (stream_at s.streams m) refl;
  windows = λ m. (calls_leave_both s 0 m e.holds).took count;
  send = refl;
  receive = refl;
  replies = count_drop count s.out.replies;
}

pub took_keeps_faces : Known → TookKeepsFaces
took_keeps_faces k a b ab ba count h = silently k a b (after_took count a) ab ba h (took_silently k a count h.end_a)

-- ---- text and ends that are asked for

-- the stream itself is answered, and the others are as they were
answered_first : (s t : State) (n : ℕ) (f : Stream → Stream) → t.role ≡ s.role → AnswersFirst s → IsAnsweredAt s n → ((st : Stream) → (f st).answered ≡ st.answered)
    → ((st : Stream) → stream_at s.streams n ≡ Some st → stream_at t.streams n ≡ Some (f st)) → ((m : ℕ) → n ≢ m → stream_at t.streams m ≡ stream_at s.streams m) → AnswersFirst t
answered_first s t n f role first answered same own others server m st at e = by_test (eqb n m) refl
  where
    here : is_client s.role ≡ false
    here = ap is_client (sym role) ∙ server

    by_test : (b : Bool) → eqb n m ≡ b → (length st.queue ≡ 0) × (st.finish ≡ None)
    by_test false t = first here m st (sym (others m (eqb-false n m t)) ∙ at) e
    by_test true g =
        let found = found_open s.streams n (λ st. st.answered) (answered here) in
        let there : stream_at t.streams m ≡ Some (f found.0) = subst (λ (k : ℕ). stream_at t.streams k ≡ Some (f found.0)) (eqb-true n m g) (own found.0 found.1.found) in
        let both : st.answered ≡ found.0.answered = ap answered_in (sym at ∙ there) ∙ same found.0 in
        absurd (contrary (sym e ∙ both ∙ found.1.passed))
      where
        contrary : false ≡ true → ⊥
        contrary k = cc

queue_silently : Known → (s : State) (n : ℕ) (bytes : List ℕ) → IsEnd s → queue_refusal s n ≡ None → IsAnsweredAt s n → Silently s (after_queue n bytes s)
unfolding after_queue
queue_silently k s n bytes e fits answered = record {
  still = record {
    holds = holds_queue n bytes s fits e.holds;
    facts = (k.facts s e.holds e.facts).queue n bytes;
    goes = e.goes;
    initial = e.initial;
    one = e.one;
    first = answered_first s (after_queue n bytes s) n (with_queued bytes) refl e.first answered (λ st. refl) (λ st at. at_changed s.streams n (with_queued bytes) st (λ x. refl) at)
        (λ m other. (calls_leave_others s n m e.holds other).queue bytes);
  };
  role = refl;
  encoder = refl;
  opened = refl;
  hears = (k.steps s e.holds e.facts.known).queue n bytes;
  lower = λ m. changed s n m (with_queued bytes) (λ st. refl) (λ st q. q);
  windows = λ m. (calls_leave_both s n m e.holds).queue bytes;
  send = refl;
  receive = refl;
  replies = omega arith;
}

pub queues_keep_faces : Known → QueuesKeepFaces
queues_keep_faces k a b ab ba n bytes h fits answered = silently k a b (after_queue n bytes a) ab ba h (queue_silently k a n bytes h.end_a fits answered)

finish_silently : Known → (s : State) (n : ℕ) (trailers : List Field) → IsEnd s → refusal takes_more s n ≡ None → IsAnsweredAt s n → Silently s (after_finish n trailers s)
unfolding after_finish
finish_silently k s n trailers e fits answered = record {
  still = record {
    holds = holds_finish n trailers s fits e.holds;
    facts = (k.facts s e.holds e.facts).finish n trailers;
    goes = e.goes;
    initial = e.initial;
    one = e.one;
    first = answered_first s (after_finish n trailers s) n (with_finish trailers) refl e.first answered (λ st. refl) (λ st at. at_changed s.streams n (with_finish trailers) st (λ x. refl) at)
        (λ m other. (calls_leave_others s n m e.holds other).finish trailers);
  };
  role = refl;
  encoder = refl;
  opened = refl;
  hears = (k.steps s e.holds e.facts.known).finish n trailers;
  lower = λ m. changed s n m (with_finish trailers) (λ st. refl) (λ st q. q);
  windows = λ m. (calls_leave_both s n m e.holds).finish trailers;
  send = refl;
  receive = refl;
  replies = omega arith;
}

pub finishes_keep_faces : Known → FinishesKeepFaces
finishes_keep_faces k a b ab ba n trailers h fits answered = silently k a b (after_finish n trailers a) ab ba h (finish_silently k a n trailers h.end_a fits answered)
